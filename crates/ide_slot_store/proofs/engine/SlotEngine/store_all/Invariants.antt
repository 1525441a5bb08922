use Rattle.ide_slot_journal.specs.Stands.{AreHonest}
use Rattle.ide_slot_store.specs.Storing.{WorkOn}
use Rattle.ide_slot_store.proofs.engine.SlotEngine.store_all.Given as goal

-- the halves work on, over disks that are as honest
abbrev pub invariant-loop : goal.invariant-loop
invariant-loop g l =
    WorkOn (record {
      lattice = g.P.L.Lattice.algebra;
      functions = g.P.F.EdgeFn.edge;
      targets = g.P.Problem.targets;
      same = g.P.F.PartialEq.eq;
      proper = g.P.F.Wire.proper;
      form = g.P.F.Wire.form;
    }) {G = g.D.Disk} l.initial.self.table l.self.table l.initial.self.writer l.self.writer
    × (AreHonest {G = g.D.Disk} l.initial.self.writer.journal → AreHonest {G = g.D.Disk} l.self.writer.journal)

use Rattle.ide_slot_journal.specs.Stands.{AreHonest}
use Rattle.ide_store.specs.Table.{Analysis}
use Rattle.ide_slot_store.specs.Working.{WorksAll}
use Rattle.ide_slot_store.specs.declared.engine.SlotEngine.{SlotEngine}
use Rattle.ide_slot_store.proofs.engine.SlotEngine.work_off.Given as goal

-- whoever does all that is left did all that was; and disks are as honest
abbrev pub invariant-loop : goal.invariant-loop
invariant-loop g l =
    let kept : Analysis g.row.P-F.Denot g.row.P-L.Denot = record {
      lattice = g.P.L.Lattice.algebra;
      functions = g.P.F.EdgeFn.edge;
      targets = g.P.Problem.targets;
      same = g.P.F.PartialEq.eq;
      proper = g.P.F.Wire.proper;
      form = g.P.F.Wire.form;
    } in
    ((end : SlotEngine _ _ _ _ g.D.Disk) → WorksAll kept {G = g.D.Disk} l.self end → WorksAll kept {G = g.D.Disk} l.initial.self end)
    × (AreHonest {G = g.D.Disk} l.initial.self.writer.journal → AreHonest {G = g.D.Disk} l.self.writer.journal)

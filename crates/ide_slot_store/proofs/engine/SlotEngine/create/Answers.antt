use Rattle.std.proofs.Common.{ℕ, subst}
use Rattle.ide_store.specs.Table.{Analysis}
use Rattle.ide_slot_store.specs.Half.{IsNewHalf}
use Rattle.ide_slot_store.proofs.Openings.{new_halves}
use Rattle.ide_slot_store.proofs.engine.SlotEngine.create.Given.{Over}
use Rattle.ide_slot_store.proofs.engine.SlotEngine.create.Goals as goal

-- the analysis of the store
abbrev kept : (g : Over) → Analysis g.row.P-F.Denot g.row.P-L.Denot
kept g = record {
  lattice = g.P.L.Lattice.algebra;
  functions = g.P.F.EdgeFn.edge;
  targets = g.P.Problem.targets;
  same = g.P.F.PartialEq.eq;
  proper = g.P.F.Wire.proper;
  form = g.P.F.Wire.form;
}

pub returns-in-Ok-clause-made : goal.returns-in-Ok-clause-made
returns-in-Ok-clause-made g c first second =
    new_halves (kept g) g.P.Problem.TAG c.in-Ok.writer
    (subst (λ (tag : ℕ). IsNewHalf tag c.in-Ok.writer) c.TAG.ensures (c.in-Ok.ensures.made first second)) c.new-table.result
    c.slot_journals_write_stores.ensures c.new-table.ensures.begins c.new-table.ensures.version

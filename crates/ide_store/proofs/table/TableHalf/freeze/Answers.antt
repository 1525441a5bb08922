use Rattle.ide_store.specs.TableCalls.{after_failure}
use Rattle.ide_store.proofs.Frozen.{image_of}
use Rattle.ide_store.proofs.Stops.{own_stop}
use Rattle.ide_store.specs.Table.{Analysis}
use Rattle.ide_store.proofs.table.TableHalf.freeze.Given.{Over}
use Rattle.ide_store.proofs.table.TableHalf.freeze.Goals as goal

-- the analysis of the store
abbrev kept : (g : Over) → Analysis g.row.P-F.Denot g.row.P-L.Denot
kept g = record {
  lattice = g.P.L.Lattice.algebra;
  functions = g.P.F.EdgeFn.edge;
  targets = g.P.Problem.targets;
  same = g.P.F.PartialEq.eq;
  proper = g.P.F.Wire.proper;
  form = g.P.F.Wire.form;
}

pub returns-then-self-clause-refused : goal.returns-then-self-clause-refused
returns-then-self-clause-refused g c = rw (← c.self.view_is) (after_failure c.if-self.true)

pub returns-clause-refused : goal.returns-clause-refused
returns-clause-refused g c = rw (← c.self.view_is) (own_stop c.freeze.result _ _ _ c.if-self.false (λ refused why. why) c.freeze.ensures.refused)

pub returns-clause-frozen : goal.returns-clause-frozen
returns-clause-frozen g c =
    rw (← c.self.view_is)
    (image_of (kept g) c.freeze.result _ c.freeze.ensures.program c.freeze.ensures.graph c.freeze.ensures.table c.freeze.ensures.roots c.freeze.ensures.quiet)

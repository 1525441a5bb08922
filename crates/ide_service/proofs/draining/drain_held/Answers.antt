use Rattle.std.proofs.Common.{arith, inl, subst}
use Rattle.ide_store.specs.Draining.{RunsKeys}
use Rattle.ide_store.specs.Table.{Analysis}
use Rattle.ide_service.proofs.Holds.{hold_claimed, hold_refused}
use Rattle.ide_service.proofs.draining.drain_held.Given.{Over}
use Rattle.ide_service.proofs.draining.drain_held.Goals as goal

-- the analysis of the store
abbrev kept : (g : Over) → Analysis g.row.P-F.Denot g.row.P-L.Denot
kept g = record {
  lattice = g.P.L.Lattice.algebra;
  functions = g.P.F.EdgeFn.edge;
  targets = g.P.Problem.targets;
  same = g.P.F.PartialEq.eq;
  proper = g.P.F.Wire.proper;
  form = g.P.F.Wire.form;
}

pub returns-in-Ok-2-clause-drained : goal.returns-in-Ok-2-clause-drained
returns-in-Ok-2-clause-drained g c = λ is.
    let most = c.in-Ok.ensures.most in
    let least = c.if-count-most.false in
    inl (subst (λ count. RunsKeys (kept g) c.args.table.now.half c.drain_some.new.self.half count) (omega (arith, most, least)) c.in-Ok.ensures.runs)

pub returns-then-finds_claim-clause-claimed : goal.returns-then-finds_claim-clause-claimed
returns-then-finds_claim-clause-claimed g c = λ is.
    hold_claimed (kept g) c.args.table.now.half c.drain_some.new.self.half c.in-Err.refused c.in-Err.ensures.refused (c.finds_claim.ensures.0 c.if-finds_claim.true)

pub returns-else-finds_claim-clause-refused : goal.returns-else-finds_claim-clause-refused
returns-else-finds_claim-clause-refused g c =
    hold_refused (kept g) c.args.table.now.half c.drain_some.new.self.half c.in-Err.refused c.in-Err.ensures.refused
    (λ full. (let off = c.is_full.ensures.1 full in let not = c.if-is_full.false in cc (off, not)))
    (λ claim. (let off = c.finds_claim.ensures.1 claim in let not = c.if-finds_claim.false in cc (off, not)))

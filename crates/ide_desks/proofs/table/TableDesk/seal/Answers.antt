use Rattle.std.proofs.Common.{◌∙◌, None, Ok, ap, subst}
use Rattle.std.specs.Prelude.{IfSome}
use Rattle.ide_store.specs.Hands.{Batches}
use Rattle.ide_store.specs.TableCalls.{SealsBatch}
use Rattle.ide_desks.proofs.Works.{found_nothing, one_counted, one_kept, stayed, still_counted, still_kept}
use Rattle.ide_store.specs.Table.{Analysis}
use Rattle.ide_desks.proofs.table.TableDesk.seal.Given.{Over}
use Rattle.ide_desks.proofs.table.TableDesk.seal.Goals as goal

-- the analysis of the store
abbrev kept : (g : Over) → Analysis g.row.P-F.Denot g.row.P-L.Denot
kept g = record {
  lattice = g.P.L.Lattice.algebra;
  functions = g.P.F.EdgeFn.edge;
  targets = g.P.Problem.targets;
  same = g.P.F.PartialEq.eq;
  proper = g.P.F.Wire.proper;
  form = g.P.F.Wire.form;
}

pub invariant_of-self-in-Ok : goal.invariant_of-self-in-Ok
invariant_of-self-in-Ok g c =
    let old = c.args.self.now in
    let new = c.seal.new.self in
    let seals = subst (λ o. IfSome o (λ ticket. SealsBatch (kept g) old.half new ticket.number)) c.in-Some.is c.in-Ok.ensures.seals in
    record {
      named = (old.named.0, ap (λ s. s.board) c.seal_shown.ensures ∙ old.named.1);
      switched = old.switched;
      counts = one_counted old.half new old.seat c.seal_shown.new.table old.counts seals.entry _ None seals.seals c.seal_shown.ensures;
      kept = one_kept _ _ old.half new old.seat c.seal_shown.new.table old.counts c.in-Ok.ensures.working seals.entry _ None seals.seals c.seal_shown.ensures
          (λ place. Batches (old.half.version, seals.entry)) (λ place. tt) seals.act old.kept;
    }

pub invariant_of-self : goal.invariant_of-self
invariant_of-self g c =
    let old = c.args.self.now in
    let finds = c.in-Ok.ensures.nothing (ap (λ o. Ok o) c.in_default.is) in
    record {
      named = old.named;
      switched = old.switched;
      counts = still_counted old.half c.seal.new.self old.seat finds.rest old.counts;
      kept = still_kept _ _ old.half c.seal.new.self old.seat finds.rest (λ v handed. found_nothing _ _ v handed old.half c.seal.new.self finds) old.kept;
    }

pub invariant_of-self-in-Err-1 : goal.invariant_of-self-in-Err-1
invariant_of-self-in-Err-1 g c =
    let old = c.args.self.now in
    let same = c.in-Err.ensures.unchanged in
    record {
      named = old.named;
      switched = old.switched;
      counts = still_counted old.half c.seal.new.self old.seat same.rest old.counts;
      kept = still_kept _ _ old.half c.seal.new.self old.seat same.rest (λ v handed. stayed _ _ v handed old.half c.seal.new.self same) old.kept;
    }

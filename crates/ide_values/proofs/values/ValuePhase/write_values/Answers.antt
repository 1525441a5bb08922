use Rattle.std.proofs.Common.{ap, rules, subst}
use Rattle.ide_values.specs.Chunks.{WritesValues}
use Rattle.ide_values.proofs.Parts.{values_written}
use Rattle.ide_values.proofs.Refused.{wants_memory}
use Rattle.ide_values.proofs.values.ValuePhase.write_values.Goals as goal

pub returns-clause-written : goal.returns-clause-written
returns-clause-written g c =
    let closed = c.image-closed.result.now in
    let before = g.W.Write.contents c.args.out.now in
    let after = g.W.Write.contents c.write_chunks.new.out in
    let written =
    values_written g.P.L.Lattice.algebra g.P.F.EdgeFn.edge g.P.Problem.targets g.P.L.Lattice.shown closed c.deref.result.now.graph c.as_slice.result.now
    c.in_ok-starts.starts c.as_slice-2.result.now c.write_chunks.result before after
    (ap (λ loaded. loaded.graph) c.deref.ensures) c.as_slice.ensures.value c.as_slice-2.ensures.value c.in_ok-starts.ensures.starts c.in_ok-starts.ensures.lead c.following_values_are_best.ensures c.write_chunks.ensures in
    subst (λ image. WritesValues g.P.L.Lattice.algebra g.P.F.EdgeFn.edge g.P.Problem.targets g.P.L.Lattice.shown image c.write_chunks.result before after) c.image-closed.ensures written

pub returns-in_err-starts-clause-refused : goal.returns-in_err-starts-clause-refused
returns-in_err-starts-clause-refused g c =
    wants_memory c.args.workers c.from_residual-in_err-starts.result c.in_ok-check_workers.ensures.workers (search rules)

pub returns-in_err-rows-clause-refused : goal.returns-in_err-rows-clause-refused
returns-in_err-rows-clause-refused g c =
    wants_memory c.args.workers c.from_residual-in_err-rows.result c.in_ok-check_workers.ensures.workers (search rules)

pub returns-in_err-piece-clause-refused : goal.returns-in_err-piece-clause-refused
returns-in_err-piece-clause-refused g c =
    wants_memory c.args.workers c.from_residual-in_err-piece.result c.in_ok-check_workers.ensures.workers (search rules)

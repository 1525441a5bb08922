use Rattle.std.proofs.Common.{length, refl, ap, arith}
use Rattle.std.proofs.lemmas.List.{length-map}
use Rattle.std.proofs.lemmas.Option.{slice_get_read}
use Rattle.ide_graph.specs.Numbering.{node_value}
use Rattle.ide_graph.proofs.NodeLemmas.{ends_within}
use Rattle.ide_graph.proofs.numbering.Numbering.of.Goals as goal

-- the numbers suffice for the next procedure
pub add_procedure-requires-clause-few : goal.add_procedure-requires-clause-few
add_procedure-requires-clause-few c =
    let ps = c.args.procedures.now in
    let i = c.loop-procedure.procedure-index in
    let q = c.procedure-item.result in
    let at = slice_get_read ps (length ps) i q refl c.loop-procedure-test.true c.procedure-item.is in
    let before = ap length c.loop-procedure.invariant.numbering.spots in
    omega (arith, c.requires, ends_within ps i q at, before, length-map c.loop-procedure.numbering.spots.items node_value)

use Rattle.std.proofs.Common.{Some, length, refl, sym, ap, ◌∙◌}
use Rattle.std.proofs.lemmas.Option.{slice_get_read}
use Rattle.ide_image.proofs.functions.likely_index.Goals as goal

pub returns-then-eq : goal.returns-then-eq
returns-then-eq g c =
    let functions = c.args.functions.now in
    slice_get_read functions (length functions) c.in_ok-index.index c.index-functions-index.result refl c.if-index-functions.true c.index-functions-index.is
    ∙ ap Some (g.met.F.EdgeFn.exact c.index-functions-index.result c.args.function (sym c.eq.ensures ∙ c.if-eq.true))

use Rattle.std.proofs.Common.{◌≡◌, ◌-◌, None, sym, ap, ◌∙◌}
use Rattle.std.specs.Prelude.{slice_get, unwrap_or}
use Rattle.std.proofs.lemmas.Option.{unwrap_or-slice_get}
use Rattle.ide_image.proofs.indexed.partner_at.Goals as goal

pub returns-in-None : goal.returns-in-None
returns-in-None g c =
    let functions = c.args.functions.now.items in
    let top = g.F.EdgeFn.edge.all_top in
    let none : slice_get functions (c.args.listed.1 - 1) ≡ None = sym (ap (slice_get functions) c.saturating_sub.ensures) ∙ sym c.get.ensures ∙ c.in-None.is in
    ap (λ f. (c.args.listed.0, f))
    (c.all_top.ensures ∙ sym (sym (unwrap_or-slice_get functions (c.args.listed.1 - 1) top) ∙ ap (λ o. unwrap_or o top) none))

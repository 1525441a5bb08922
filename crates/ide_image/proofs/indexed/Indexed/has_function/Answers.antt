use Rattle.std.proofs.Common.{◌≡◌, ℕ, zero, suc, ◌-◌, ◌<◌, ◌≤◌, refl, sym, ap, ◌∙◌, arith, cond, List, [], ◌∷◌, None, true, false, length}
use Rattle.std.specs.Prelude.{nat_eq, not, slice_get}
use Rattle.std.specs.Option.{is_some}
use Rattle.std.proofs.lemmas.Bool.Decides.{nat_tests}
use Rattle.ide_pages.specs.Pages.{number_at}
use Rattle.ide_image.specs.Indexed.{kept_at}
use Rattle.ide_image.proofs.Columns.{cell-at, function-is}
use Rattle.ide_image.proofs.indexed.Indexed.has_function.Goals as goal

there-is : {X : Type 0} (xs : List X) (i : ℕ) → i < length xs → is_some (slice_get xs i) ≡ true
there-is [] i within = absurd (omega (arith, within))
there-is (x ∷ xs) zero within = refl
there-is (x ∷ xs) (suc i) within = there-is xs i (omega (arith, within))

-- a number that is not 0 has a function
kept-is : {F : Type 0} (functions : List F) (n : ℕ) → n ≤ length functions → is_some (kept_at functions n) ≡ not (nat_eq n 0)
kept-is functions n few =
    elim (nat_eq n 0) as (λ b. nat_eq n 0 ≡ b → is_some (cond b None (slice_get functions (n - 1))) ≡ not b) [
      | true ↦ λ _. refl
      | false ↦ λ some. there-is functions (n - 1) (grind (arith, nat_tests, few, some))
    ] refl

pub returns : goal.returns
returns g c =
    let numbers = c.self.inside.places in
    let functions = c.self.inside.functions.items in
    let paged = c.self.invariant.paged in
    rw (← c.self.view_is)
    (λ key is.
    let own = c.number_in.ensures.same key (cell-at numbers functions paged key c.args.cell is) in
    ap (λ n. not (nat_eq n 0)) own ∙ sym (ap is_some (function-is numbers functions paged key) ∙ kept-is functions (number_at numbers key) (c.self.invariant.kept key)))

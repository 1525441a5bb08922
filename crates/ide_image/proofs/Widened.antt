-- Cells behind which there may be more: each key that has one keeps it.
use Rattle.std.proofs.Common.{◌≡◌, ℕ, suc, ◌+◌, ◌-◌, ◌<◌, refl, sym, ap, subst, ◌∙◌, arith, append_assoc, List, [], ◌++◌, get_or, length, None, Bool, true, false}
use Rattle.std.specs.Prelude.{nat_eq}
use Rattle.std.proofs.lemmas.Bool.Decides.{nat_tests}
use Rattle.std.proofs.lemmas.List.{append-nil, get_or_default, map-append}
use Rattle.ide_wire.specs.declared.key.Key.{Key}
use Rattle.ide_image.specs.Indexed.{HasCell, Indexed, Widens, empty_cells, place_of_key}
use Rattle.ide_image.specs.Tables.{place_in}
use Rattle.ide_image.proofs.Firsts.{place-first}

module _ {F : Type 0} where
  pub widens-none : (indexed : Indexed F) → Widens indexed indexed
  widens-none indexed = ([], sym (append-nil indexed.cells))

  pub widens-more : (old mid new : Indexed F) → Widens old mid → Widens mid new → Widens old new
  widens-more old mid new first next = (
    first.0 ++ next.0,
    next.1 ∙ ap (λ cells. cells ++ empty_cells next.0) first.1
        ∙ append_assoc old.cells (empty_cells first.0) (empty_cells next.0)
        ∙ ap (λ cells. old.cells ++ cells) (sym (map-append (λ (key : Key). (key, None)) first.0 next.0)),
  )

  pub cell-stays : (old new : Indexed F) (key : Key) → Widens old new → HasCell old key → place_of_key new key ≡ place_of_key old key
  cell-stays old new key widens has =
      let up : place_of_key old key ≡ suc (place_of_key old key - 1) = omega (arith, has) in
      ap (place_in key) widens.1 ∙ place-first key old.cells (empty_cells widens.0) (place_of_key old key - 1) up ∙ sym up

  -- the first keys of the list have cells, and so has the next one
  pub cells-more : (old new : Indexed F) (list : List (Key × F)) (index cell : ℕ) (e : Key × F) → index < length list → e ≡ get_or list index e
      → Widens old new → cell + 1 ≡ place_of_key new e.0
      → ((k : ℕ) (d : Key × F) → k < index → HasCell old (get_or list k d).0)
      → (k : ℕ) (d : Key × F) → k < index + 1 → HasCell new (get_or list k d).0
  cells-more old new list index cell e within is widens made before k d less = at (nat_eq k index) refl
    where
      own : HasCell new e.0
      own = omega (arith, made)

      next : k ≡ index → HasCell new (get_or list k d).0
      next same = subst (λ (x : Key × F). HasCell new x.0) (is ∙ get_or_default list index e d within ∙ ap (λ i. get_or list i d) (sym same)) own

      at : (b : Bool) → nat_eq k index ≡ b → HasCell new (get_or list k d).0
      at true same = next (grind (arith, nat_tests, same))
      at false other =
          let key = (get_or list k d).0 in
          let has = before k d (grind (arith, nat_tests, other, less)) in
          let stays = cell-stays old new key widens has in
          omega (arith, stays, has)

-- Entries in another order: what is found among them, what they spend, and how many they are.
use Rattle.std.proofs.Common.{◌≡◌, ℕ, zero, suc, ◌+◌, ◌<◌, refl, sym, ap, subst, ◌∙◌, arith, List, [], ◌∷◌, Option, Some, None, Bool, true, false, get_or, length}
use Rattle.std.specs.List.{Contains, IsDistinct, sum_by}
use Rattle.std.specs.List.Sorted.{IsPermutation}
use Rattle.std.specs.Map.{keys_of, lookup}
use Rattle.std.specs.Option.{is_some}
use Rattle.std.proofs.lemmas.List.Sorted.{All-permutation, IsPermutation-map, IsPermutation-sym, list_any-IsPermutation, sum_by-IsPermutation}
use Rattle.std.proofs.lemmas.List.Sums.{sum_by-cons}
use Rattle.std.proofs.lemmas.Map.Keys.{IsDistinct-IsPermutation}
use Rattle.std.proofs.lemmas.Map.Made.{is_some-lookup}
use Rattle.std.proofs.lemmas.Map.Views.{Contains-from_lookup, lookup-from_Contains}
use Rattle.ide_image.specs.Spent.{fallen, spent}
use Rattle.ide_lattice.specs.Algebra.{EdgeAlgebra}
use Rattle.ide_wire.specs.Key.{same_key, same_key_exact, same_key_laws, same_key_symm}
use Rattle.ide_wire.specs.declared.key.Key.{Key}

among-at : {X : Type 0} (xs : List X) (i : ℕ) (d : X) → i < length xs → Contains xs (get_or xs i d)
among-at [] i d within = absurd (omega (arith, within))
among-at (x ∷ xs) zero d within = (0, within, refl)
among-at (x ∷ xs) (suc i) d within =
    let there = among-at xs i d (omega (arith, within)) in
    (suc there.0, omega (arith, there.1), there.2)

among-permuted : {X : Type 0} (xs ys : List X) (x : X) → IsPermutation xs ys → Contains xs x → Contains ys x
among-permuted xs ys x moved among =
    let all = All-permutation (Contains ys) ys xs (IsPermutation-sym xs ys moved) (λ k d within. among-at ys k d within) in
    subst (Contains ys) among.2 (all among.0 x among.1)

no-more : {F : Type 0} (o : Option F) → is_some o ≡ false → o ≡ None
no-more None is = refl
no-more (Some f) is = absurd (cc (is))

module _ {F : Type 0} (xs ys : List (Key × F)) (moved : IsPermutation xs ys) where
  found-as : (q : Key) (o : Option F) → IsDistinct same_key (keys_of xs) → lookup (same_key q) xs ≡ o → lookup (same_key q) ys ≡ o
  found-as q None apart is =
      let keys = list_any-IsPermutation (same_key q) (keys_of xs) (keys_of ys) (IsPermutation-map (λ (e : Key × F). e.0) xs ys moved) in
      no-more (lookup (same_key q) ys) (is_some-lookup (same_key q) ys ∙ sym keys ∙ sym (is_some-lookup (same_key q) xs) ∙ ap is_some is)
  found-as q (Some f) apart is =
      lookup-from_Contains same_key_laws q f ys
      (IsDistinct-IsPermutation same_key same_key_symm (keys_of xs) (keys_of ys) (IsPermutation-map (λ (e : Key × F). e.0) xs ys moved) apart)
      (among-permuted xs ys (q, f) moved (Contains-from_lookup same_key_exact q f xs is))

  -- the same is found at each key, where no two entries are of one
  pub found-permuted : IsDistinct same_key (keys_of xs) → (q : Key) → lookup (same_key q) ys ≡ lookup (same_key q) xs
  found-permuted apart q = found-as q (lookup (same_key q) xs) apart refl

  -- they are as many
  one-each : (zs : List (Key × F)) → sum_by (λ _. 1) zs ≡ length zs
  one-each [] = refl
  one-each (z ∷ zs) = let rest = one-each zs in let first = sum_by-cons (λ (_ : Key × F). 1) z zs in omega (arith, rest, first)

  pub long-permuted : length ys ≡ length xs
  long-permuted = sym (one-each ys) ∙ sum_by-IsPermutation (λ _. 1) xs ys moved ∙ one-each xs

  module _ {L : Type 0} (B : EdgeAlgebra F L) where
    spent-each : (zs : List (Key × F)) → sum_by (λ (e : Key × F). fallen B e.1) zs ≡ spent B zs
    spent-each [] = refl
    spent-each (z ∷ zs) = let rest = spent-each zs in let first = sum_by-cons (λ (e : Key × F). fallen B e.1) z zs in omega (arith, rest, first)

    -- and spend as much
    pub spent-permuted : spent B ys ≡ spent B xs
    spent-permuted = sym (spent-each ys) ∙ sum_by-IsPermutation (λ (e : Key × F). fallen B e.1) xs ys moved ∙ spent-each xs

-- The procedures that names find, each once in ascending order.
use Rattle.std.proofs.Common.{◌≡◌, ◌⊎◌, inl, inr, ◌<◌, ◌+◌, ◌++◌, length, take, get_or, ℕ, zero, suc, List, [], ◌∷◌, Option, Some, None, refl, sym, ap, ◌∙◌}
use Rattle.std.specs.Prelude.{slice_get, nat_eq}
use Rattle.std.specs.List.{Contains, cons_option, dedup, filter_map}
use Rattle.std.specs.List.Sorted.{IsPermutation, IsSorted}
use Rattle.std.specs.Ordering.{nat_cmp}
use Rattle.std.proofs.lemmas.List.{append-nil, take_more}
use Rattle.std.proofs.lemmas.List.Elements.{filter_map-append, All-weaker, All-contains_itself}
use Rattle.std.proofs.lemmas.List.Kept.{AllPairs-from_increasing, Contains-dedup_nat, Contains-from_dedup}
use Rattle.std.proofs.lemmas.List.Sorted.{Contains-permutation, IsPermutation-sym}
use Rattle.std.proofs.lemmas.Map.Keys.{IsStrictlyIncreasing-dedup}
use Rattle.ide_text.specs.declared.program.Program.{Program}
use Rattle.ide_graph.specs.Building.{IsBuilderOf}
use Rattle.ide_graph.specs.declared.builder.Builder.{Builder}
use Rattle.ide_graph.specs.Lists.{Lists}
use Rattle.ide_graph.specs.Named.{procedure_of_name}
use Rattle.ide_graph.specs.ProgramEdges.{IsCallee}
use Rattle.ide_graph.proofs.SliceLemmas.{at_contained, contains_at}

module _ {X Y : Type 0} (h : X → Option Y) where
  kept_cons : (o : Option Y) (ys : List Y) (k : ℕ) (y : Y) → slice_get (cons_option o ys) k ≡ Some y → (o ≡ Some y) ⊎ ((j : ℕ) × (slice_get ys j ≡ Some y))
  kept_cons None ys k y e = inr (k, e)
  kept_cons (Some x) ys zero y e = inl e
  kept_cons (Some x) ys (suc k) y e = inr (k, e)

  kept_from : (xs : List X) (k : ℕ) (y : Y) → slice_get (filter_map h xs) k ≡ Some y → (n : ℕ) × (x : X) × (slice_get xs n ≡ Some x) × (h x ≡ Some y)
  kept_from [] k y e = let none : ⊥ = cc in elim none [ ]
  kept_from (x ∷ xs) k y e =
      elim (kept_cons (h x) (filter_map h xs) k y e) [ inl a ↦ (0, x, refl, a) | inr r ↦ let rest = kept_from xs r.0 y r.1 in (suc rest.0, rest.1, rest.2, rest.3) ]

  cons_kept : (o : Option Y) (ys : List Y) (k : ℕ) (y : Y) → slice_get ys k ≡ Some y → (j : ℕ) × (slice_get (cons_option o ys) j ≡ Some y)
  cons_kept None ys k y e = (k, e)
  cons_kept (Some x) ys k y e = (suc k, e)

  first_kept : (o : Option Y) (ys : List Y) (y : Y) → o ≡ Some y → (j : ℕ) × (slice_get (cons_option o ys) j ≡ Some y)
  first_kept None ys y e = let none : ⊥ = cc in elim none [ ]
  first_kept (Some x) ys y e = (0, e)

  to_kept : (xs : List X) (n : ℕ) (x : X) (y : Y) → slice_get xs n ≡ Some x → h x ≡ Some y → (k : ℕ) × (slice_get (filter_map h xs) k ≡ Some y)
  to_kept [] n x y e is = let none : ⊥ = cc in elim none [ ]
  to_kept (z ∷ xs) zero x y e is = let same : z ≡ x = cc in first_kept (h z) (filter_map h xs) y (ap h same ∙ is)
  to_kept (z ∷ xs) (suc n) x y e is = let rest = to_kept xs n x y e is in cons_kept (h z) (filter_map h xs) rest.0 y rest.1

-- sorted and each once, the procedures that names find are just those that the names name
pub callees_listed : (p : Program) (b : Builder) → IsBuilderOf p b → (names : List (List ℕ)) (found sorted : List ℕ) → found ≡ filter_map (procedure_of_name b.directory.now.procedures) names → IsPermutation found sorted → IsSorted nat_cmp sorted
    → Lists (IsCallee p names) (λ callee. callee) (dedup nat_eq sorted)
callees_listed p b is names found sorted kept moved ordered =
    let h : List ℕ → Option ℕ = procedure_of_name b.directory.now.procedures in
    let to : (x : ℕ) → Contains (dedup nat_eq sorted) x → IsCallee p names x = λ x c.
    let in_found = Contains-permutation sorted found x (IsPermutation-sym found sorted moved) (Contains-from_dedup nat_eq sorted x c) in
    let at = at_contained (filter_map h names) x (rw kept at in_found) in
    let from = kept_from h names at.0 x at.1 in
    (from.1, contains_at names from.0 from.1 from.2, sym (is.directory from.1) ∙ from.3) in
    record {
      each = All-weaker (Contains (dedup nat_eq sorted)) (IsCallee p names) to (dedup nat_eq sorted) (All-contains_itself (dedup nat_eq sorted));
      whole = λ x c.
          let at = at_contained names c.0 c.1 in
          let there = to_kept h names at.0 c.0 x at.1 (is.directory c.0 ∙ c.2) in
          let in_found : Contains found x = rw kept (contains_at (filter_map h names) there.0 x there.1) in
          Contains-dedup_nat sorted x (Contains-permutation found sorted x moved in_found);
      ascending = AllPairs-from_increasing (dedup nat_eq sorted) (IsStrictlyIncreasing-dedup sorted ordered);
    }

-- what one more name finds
pub kept_more_some : {X Y : Type 0} (h : X → Option Y) (xs : List X) (i : ℕ) (x : X) (y : Y) → i < length xs → x ≡ get_or xs i x → h x ≡ Some y → filter_map h (take (i + 1) xs) ≡ filter_map h (take i xs) ++ y ∷ []
kept_more_some h xs i x y within at is =
    ap (filter_map h) (take_more xs i x within ∙ ap (λ z. take i xs ++ z ∷ []) (sym at)) ∙ (filter_map-append h (take i xs) (x ∷ []) ∙ ap (λ o. filter_map h (take i xs) ++ cons_option o []) is)

pub kept_more_none : {X Y : Type 0} (h : X → Option Y) (xs : List X) (i : ℕ) (x : X) → i < length xs → x ≡ get_or xs i x → h x ≡ None → filter_map h (take (i + 1) xs) ≡ filter_map h (take i xs)
kept_more_none h xs i x within at is =
    ap (filter_map h) (take_more xs i x within ∙ ap (λ z. take i xs ++ z ∷ []) (sym at))
    ∙ (filter_map-append h (take i xs) (x ∷ []) ∙ (ap (λ o. filter_map h (take i xs) ++ cons_option o []) is ∙ append-nil (filter_map h (take i xs))))

-- What partners give, and what the facts in range give whose keys are present, are the same parts.
use Rattle.std.proofs.Common.{◌≡◌, ℕ, ◌<◌, ◌≤◌, ◌^◌, true, false, cond, List, [], ◌∷◌, ◌++◌, Option, Some, None, map, sym, subst, ap, ◌∙◌, refl, inl, inr, arith, append-nil}
use Rattle.std.specs.BTreeMap.{is_at}
use Rattle.std.specs.List.{AllByRecursion, flat_map, range_with_len}
use Rattle.std.specs.List.Sorted.{IsStrictlySortedBy}
use Rattle.std.specs.Map.{lookup, keys_of}
use Rattle.std.specs.Ordering.{nat_cmp}
use Rattle.std.specs.declared.cmp.Ordering.TheVariants.{Less}
use Rattle.std.specs.Prelude.{unwrap_or}
use Rattle.std.proofs.lemmas.Bool.Decides.{nat_tests}
use Rattle.std.proofs.lemmas.Map.Keys.{sorted_head, sorted_tail}
use Rattle.std.proofs.lemmas.Option.{none-some}
use Rattle.ide_image.specs.Tables.{Table, ArePartners, found}
use Rattle.ide_theory.specs.Member.{IsIn, first, later}
use Rattle.ide_theory.specs.Members.{first-or, not-in-empty, in-one, in-left, in-right, in-either, in-map, of-map, in-flat_map, of-flat_map, in-range_below}
use Rattle.ide_theory.specs.Parts.{if_some}
use Rattle.ide_wire.specs.declared.key.Key.{Key}

-- the lists have the same elements
pub record HaveSame {T : Type 0} (xs ys : List T) : Type 0 where
  pub there : (x : T) → IsIn x xs → IsIn x ys
  pub back : (x : T) → IsIn x ys → IsIn x xs

pub same-of : {T : Type 0} (xs ys : List T) → xs ≡ ys → HaveSame xs ys
same-of xs ys equal = record { there = λ x is. subst (IsIn x) equal is; back = λ x is. subst (IsIn x) (sym equal) is }

pub same-append : {T : Type 0} (xs ys us vs : List T) → HaveSame xs ys → HaveSame us vs → HaveSame (xs ++ us) (ys ++ vs)
same-append xs ys us vs front behind = record {
  there = λ x is. elim (in-either xs us is) [
    | inl left ↦ in-left vs (front.there x left)
    | inr right ↦ in-right ys (behind.there x right)
  ];
  back = λ x is. elim (in-either ys vs is) [
    | inl left ↦ in-left us (front.back x left)
    | inr right ↦ in-right xs (behind.back x right)
  ];
}

pub same-nil : {T : Type 0} (xs ys : List T) → HaveSame xs ys → HaveSame xs (ys ++ [])
same-nil xs ys same = subst (HaveSame xs) (sym (append-nil ys)) same

pub some-inj : {T : Type 0} {x y : T} → Some x ≡ Some y → x ≡ y
some-inj {T} {x = x} same = ap (λ (o : Option T). unwrap_or o x) same

of-if_some : {X Y : Type 0} (o : Option X) (f : X → List Y) {y : Y} → IsIn y (if_some o f) → (x : X) × (o ≡ Some x) × IsIn y (f x)
of-if_some None f is = elim (not-in-empty is) [ ]
of-if_some (Some x) f is = (x, refl, is)

in-if_some : {X Y : Type 0} (o : Option X) (f : X → List Y) {y : Y} (x : X) → o ≡ Some x → IsIn y (f x) → IsIn y (if_some o f)
in-if_some o f {y} x same is = subst (λ u. IsIn y (if_some u f)) (sym same) is

fact_exact : (d e : ℕ) → is_at (nat_cmp d) e ≡ true → d ≡ e
fact_exact d e h = grind (arith, nat_tests)

fact_itself : (d : ℕ) → is_at (nat_cmp d) d ≡ true
fact_itself d = grind (arith, nat_tests)

fact_above : (d e : ℕ) → nat_cmp e d ≡ Less → is_at (nat_cmp d) e ≡ false
fact_above d e h = grind (arith, nat_tests, h)

module _ {F : Type 0} where
  -- what a look-up finds stands in the list
  in-looked : (d : ℕ) (s : F) (ps : List (ℕ × F)) → lookup (is_at (nat_cmp d)) ps ≡ Some s → IsIn {T = ℕ × F} (d, s) ps
  in-looked d s [] same = elim (none-some s same) [ ]
  in-looked d s (p ∷ ps) same =
      elim (is_at (nat_cmp d) p.0) as (λ b. is_at (nat_cmp d) p.0 ≡ b → cond b (Some p.1) (lookup (is_at (nat_cmp d)) ps) ≡ Some s → IsIn {T = ℕ × F} (d, s) (p ∷ ps)) [
        | true ↦ λ at here.
            let one : p ≡ (d, s) = ap (λ (e : ℕ). (e, p.1)) (sym (fact_exact d p.0 at)) ∙ ap (λ (f : F). (d, f)) (some-inj here) in
            subst (λ q. IsIn q (p ∷ ps)) one first
        | false ↦ λ at rest. later (in-looked d s ps rest)
      ] refl same

  of-keys : (P : ℕ → Type 0) (d : ℕ) (s : F) (ps : List (ℕ × F)) → AllByRecursion P (keys_of ps) → IsIn {T = ℕ × F} (d, s) ps → P d
  of-keys P d s [] all is = elim (not-in-empty is) [ ]
  of-keys P d s (p ∷ ps) all is = elim (first-or is) [
    | inl same ↦ subst P (sym (ap (λ q. q.0) same)) all.0
    | inr rest ↦ of-keys P d s ps all.1 rest
  ]

  -- and the other way round, where the facts ascend
  looked-in : (d : ℕ) (s : F) (ps : List (ℕ × F)) → IsStrictlySortedBy nat_cmp (keys_of ps) → IsIn {T = ℕ × F} (d, s) ps → lookup (is_at (nat_cmp d)) ps ≡ Some s
  looked-in d s [] sorted is = elim (not-in-empty is) [ ]
  looked-in d s (p ∷ ps) sorted is = elim (first-or is) [
    | inl same ↦
        let hit : is_at (nat_cmp d) p.0 ≡ true = ap (λ q. is_at (nat_cmp d) q.0) (sym same) ∙ fact_itself d in
        ap (λ b. cond b (Some p.1) (lookup (is_at (nat_cmp d)) ps)) hit ∙ ap (λ q. Some q.1) (sym same)
    | inr rest ↦
        let past : nat_cmp p.0 d ≡ Less = of-keys (λ e. nat_cmp p.0 e ≡ Less) d s ps (sorted_head nat_cmp p.0 (keys_of ps) sorted) rest in
        ap (λ b. cond b (Some p.1) (lookup (is_at (nat_cmp d)) ps)) (fact_above d p.0 past) ∙ looked-in d s ps (sorted_tail nat_cmp p.0 (keys_of ps) sorted) rest
  ]

  -- what each partner makes is what each present key of a fact in range makes
  pub partners-same : {Y : Type 0} (at : ℕ → Key) (table : Table F) (ps : List (ℕ × F)) → ArePartners at table ps
      → (facts : ℕ) → facts ≤ 2 ^ 16 → ((d : ℕ) (s : F) → found table (at d) ≡ Some s → d < facts)
      → (make : ℕ → F → Y)
      → HaveSame (map (λ p. make p.0 p.1) ps) (flat_map (λ d. if_some (found table (at d)) (λ s. make d s ∷ [])) (range_with_len 0 facts))
  partners-same {Y} at table ps are facts few ranged make = record {
    there = λ y is.
        let partner : (p : ℕ × F) × IsIn p ps × (make p.0 p.1 ≡ y) = of-map (λ (p : ℕ × F). make p.0 p.1) ps is in
        let d : ℕ = partner.0.0 in
        let s : F = partner.0.1 in
        let present : found table (at d) ≡ Some s =
        sym (are.exact d (of-keys (λ e. e < 2 ^ 16) d s ps are.within partner.1)) ∙ looked-in d s ps are.ascending partner.1 in
        subst (λ u. IsIn u (flat_map (λ d. if_some (found table (at d)) (λ s. make d s ∷ [])) (range_with_len 0 facts))) partner.2
        (in-flat_map (λ d. if_some (found table (at d)) (λ s. make d s ∷ [])) (in-range_below facts d (ranged d s present))
        (in-if_some (found table (at d)) (λ s. make d s ∷ []) s present first));
    back = λ y is.
        let fact : (d : ℕ) × IsIn d (range_with_len 0 facts) × IsIn y (if_some (found table (at d)) (λ s. make d s ∷ [])) =
        of-flat_map (λ d. if_some (found table (at d)) (λ s. make d s ∷ [])) (range_with_len 0 facts) is in
        let d : ℕ = fact.0 in
        let entry : (s : F) × (found table (at d) ≡ Some s) × IsIn y (make d s ∷ []) = of-if_some (found table (at d)) (λ s. make d s ∷ []) fact.2 in
        let s : F = entry.0 in
        let below : d < facts = ranged d s entry.1 in
        let listed : IsIn {T = ℕ × F} (d, s) ps = in-looked d s ps (are.exact d (omega (arith, few, below)) ∙ entry.1) in
        subst (λ u. IsIn u (map (λ p. make p.0 p.1) ps)) (sym (in-one entry.2)) (in-map (λ (p : ℕ × F). make p.0 p.1) listed);
  }

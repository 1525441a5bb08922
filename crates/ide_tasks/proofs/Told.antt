-- Sources that are told by the places of their functions.
use Rattle.std.proofs.Common.{◌≡◌, ℕ, zero, suc, ◌+◌, ◌-◌, ◌<◌, ◌≤◌, Bool, true, false, cond, List, [], ◌∷◌, ◌++◌, Some, length, get_or, map, take, sym, ap, subst, refl, ◌∙◌, arith}
use Rattle.std.specs.Prelude.{Result, Ok, Err, OnOk, filter, nat_eq, slice_get, slice_index_or}
use Rattle.std.specs.List.Sorted.{IsNonDecreasingBy}
use Rattle.std.proofs.Math.Seq.{get_or-append_seam, take-suc}
use Rattle.std.proofs.lemmas.List.{get_or-map, get_or_append_left, length-append, length-map, length_push, map-append}
use Rattle.std.proofs.lemmas.Option.{get_or_from_slice_get, slice_get-get_or, slice_get_within}
use Rattle.ide_tasks.specs.Sources.{Ascends, from_caller, reaching_of, told_source}
use Rattle.ide_tasks.specs.declared.partners.Reaching.{Reaching}
use Rattle.ide_tasks.specs.declared.sources.Source.{Source}

module _ {X Y : Type 0} (f : X → Y) where
  -- what is left of the values is that of the elements
  pub filter-told : (p : Y → Bool) (xs : List X) → filter p (map f xs) ≡ map f (filter (λ x. p (f x)) xs)
  filter-told p [] = refl
  filter-told p (x ∷ xs) =
      elim (p (f x)) as (λ b. cond b (f x ∷ filter p (map f xs)) (filter p (map f xs)) ≡ map f (cond b (x ∷ filter (λ y. p (f y)) xs) (filter (λ y. p (f y)) xs))) [
        | true ↦ ap (λ ys. f x ∷ ys) (filter-told p xs)
        | false ↦ filter-told p xs
      ]

  -- elements ascend as their values do
  pub up-told : (key : Y → ℕ) (xs : List X) → IsNonDecreasingBy key (map f xs) → IsNonDecreasingBy (λ x. key (f x)) xs
  up-told key xs up i j d before within =
      let long : length (map f xs) ≡ length xs = length-map xs f in
      let low : key (get_or (map f xs) i (f d)) ≡ key (f (get_or xs i d)) = ap key (get_or-map f xs i d (f d) (omega (arith, before, within))) in
      let high : key (get_or (map f xs) j (f d)) ≡ key (f (get_or xs j d)) = ap key (get_or-map f xs j d (f d) within) in
      let rise : key (get_or (map f xs) i (f d)) ≤ key (get_or (map f xs) j (f d)) = up i j (f d) before (omega (arith, long, within)) in
      omega (arith, low, high, rise)

  pub map-twice : {Z : Type 0} (g : Y → Z) (xs : List X) → map g (map f xs) ≡ map (λ x. g (f x)) xs
  map-twice g [] = refl
  map-twice g (x ∷ xs) = ap (λ ys. g (f x) ∷ ys) (map-twice g xs)

module _ {F : Type 0} (none : F) (functions : List F) where
  abbrev tell : Source ℕ → Source F
  tell = told_source none functions

  -- where the places that are left are from, the sources that reach the fact are
  pub reaching-told : {E : Type 0} (result : Result (Unit {0}) E) (fact : ℕ) (places run : List (Source ℕ)) (new : List (Reaching F))
      → Ascends (map tell places) → (Ascends places → run ≡ filter (λ s. nat_eq s.reached fact) places)
      → OnOk result (new ≡ map (λ s. (tell s).from) run) → OnOk result (new ≡ reaching_of fact (map tell places))
  reaching-told (Ok x) fact places run new up run_is is =
      is
      ∙ (ap (map (λ s. (tell s).from)) (run_is (up-told tell (λ s. s.reached) places up))
      ∙ (sym (map-twice tell (λ s. s.from) (filter (λ s. nat_eq s.reached fact) places))
      ∙ ap (map (λ s. s.from)) (sym (filter-told tell (λ s. nat_eq s.reached fact) places))))
  reaching-told (Err e) fact places run new up run_is is = tt

  -- the places that are left of a caller tell its sources
  pub over-told : (fact caller : ℕ) (places run left : List (Source ℕ)) → Ascends (map tell places)
      → IsNonDecreasingBy (λ s. s.from.caller) (filter (λ s. nat_eq s.reached fact) (map tell places))
      → (Ascends places → run ≡ filter (λ s. nat_eq s.reached fact) places)
      → (IsNonDecreasingBy (λ s. s.from.caller) run → left ≡ filter (λ s. nat_eq s.from.caller caller) run)
      → map tell left ≡ from_caller caller fact (map tell places)
  over-told fact caller places run left up callers_up run_is left_is =
      let those = run_is (up-told tell (λ s. s.reached) places up) in
      let told : filter (λ s. nat_eq s.reached fact) (map tell places) ≡ map tell run =
      filter-told tell (λ s. nat_eq s.reached fact) places ∙ ap (map tell) (sym those) in
      let rise : IsNonDecreasingBy (λ s. s.from.caller) run = up-told tell (λ s. s.from.caller) run (subst (IsNonDecreasingBy (λ (s : Source F). s.from.caller)) told callers_up) in
      ap (map tell) (left_is rise)
      ∙ (sym (filter-told tell (λ s. nat_eq s.from.caller caller) run)
      ∙ ap (filter (λ s. nat_eq s.from.caller caller)) (sym told))

-- each place is one of so many
abbrev pub AreWithin : ℕ → List (Source ℕ) → Type 0
AreWithin count [] = Unit {0}
AreWithin count (place ∷ places) = (place.from.function < count) × AreWithin count places

within-more : (count more : ℕ) (places : List (Source ℕ)) → count ≤ more → AreWithin count places → AreWithin more places
within-more count more [] least all = tt
within-more count more (place ∷ places) least all = let less = all.0 in (omega (arith, least, less), within-more count more places least all.1)

within-push : (count : ℕ) (places : List (Source ℕ)) (place : Source ℕ) → AreWithin count places → place.from.function < count → AreWithin count (places ++ place ∷ [])
within-push count [] place all less = (less, tt)
within-push count (p ∷ places) place all less = (all.0, within-push count places place all.1 less)

module _ {F : Type 0} (none : F) where
  -- functions behind the last change nothing of what is told
  told-more : (functions more : List F) (places : List (Source ℕ)) → AreWithin (length functions) places
      → map (told_source none (functions ++ more)) places ≡ map (told_source none functions) places
  told-more functions more [] all = refl
  told-more functions more (place ∷ places) all =
      let same : slice_index_or (functions ++ more) place.from.function none ≡ slice_index_or functions place.from.function none =
      get_or_append_left functions more none place.from.function all.0 in
      ap (λ f. record { reached = place.reached; from = record { caller = place.from.caller; fact = place.from.fact; function = f } } ∷ map (told_source none (functions ++ more)) places) same
      ∙ ap (λ ys. told_source none functions place ∷ ys) (told-more functions more places all.1)

  -- what the places tell, and that they are of the functions
  pub record AreTold (functions : List F) (places : List (Source ℕ)) (sources : List (Source F)) : Type 0 where
    pub told : map (told_source none functions) places ≡ sources
    pub within : AreWithin (length functions) places

  -- one source more
  pub told-push : (old new : List F) (places all : List (Source ℕ)) (sources : List (Source F)) (index : ℕ) (source : Source F) (place : Source ℕ)
      → AreTold old places (take index sources) → index < length sources → source ≡ get_or sources index source
      → (more : List F) → new ≡ old ++ more → slice_get new place.from.function ≡ Some source.from.function
      → place.reached ≡ source.reached → place.from.caller ≡ source.from.caller → place.from.fact ≡ source.from.fact
      → all ≡ places ++ place ∷ [] → AreTold new all (take (index + 1) sources)
  told-push old new places all sources index source place are below read more grown there reached caller fact is =
      let inside : place.from.function < length new = slice_get_within new place.from.function source.from.function there in
      let function : slice_index_or new place.from.function none ≡ source.from.function =
      get_or_from_slice_get new place.from.function source.from.function none there in
      let one : told_source none new place ≡ source = grind (arith, reached, caller, fact, function) in
      let before : map (told_source none new) places ≡ take index sources =
      ap (λ (fs : List F). map (told_source none fs) places) grown ∙ (told-more old more places are.within ∙ are.told) in
      let long : length old ≤ length new = omega (arith, ap length grown, length-append old more) in
      let rest : index + 1 ≡ suc index = omega arith in
      record {
        told =
            ap (map (told_source none new)) is
            ∙ (map-append (told_source none new) places (place ∷ [])
            ∙ (ap (λ ys. ys ++ told_source none new place ∷ []) before
            ∙ (ap (λ s. take index sources ++ s ∷ []) (one ∙ read)
            ∙ (sym (take-suc sources index source below) ∙ ap (λ (n : ℕ). take n sources) (sym rest)))));
        within = subst (AreWithin (length new)) (sym is) (within-push (length new) places place (within-more (length old) (length new) places long are.within) inside);
      }

-- what was pushed is the last
pub last-pushed : {X : Type 0} (old new : List X) (x : X) → new ≡ old ++ x ∷ [] → slice_get new (length new - 1) ≡ Some x
last-pushed {X = X} old new x is =
    let long : length new ≡ length old + 1 = ap length is ∙ length_push old x in
    let end : length new - 1 ≡ length old = omega (arith, long) in
    let read : get_or new (length new - 1) x ≡ x =
    ap (λ (ys : List X). get_or ys (length new - 1) x) is ∙ ap (λ (n : ℕ). get_or (old ++ x ∷ []) n x) end ∙ get_or-append_seam old x [] x in
    slice_get-get_or new (length new - 1) x (omega (arith, long)) ∙ ap (λ y. Some y) read

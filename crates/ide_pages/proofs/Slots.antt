-- What a list of cells shows, where `at` gives the key of each cell: one cell that is written, cells behind the others, and entries.
use Rattle.std.proofs.Common.{◌≡◌, ℕ, zero, suc, ◌+◌, ◌<◌, ◌≤◌, refl, sym, ap, ◌∙◌, arith, List, [], ◌∷◌, ◌++◌, length, take, drop, get_or, Option, Some, None, true, false, cond, replicate}
use Rattle.std.specs.Prelude.{◌≢◌, nat_eq, slice_set}
use Rattle.std.specs.List.{AllByRecursion, cons_option, filter_map}
use Rattle.std.specs.Option.{option_map, option_to_list, unwrap_or}
use Rattle.std.proofs.lemmas.Bool.{eqb-false, eqb-true, ne_eqb}
use Rattle.std.proofs.lemmas.List.{append-nil}
use Rattle.std.proofs.lemmas.List.Elements.{filter_map-append}
use Rattle.ide_wire.specs.declared.key.Key.{Key}
use Rattle.ide_pages.specs.Pages.{nonzero, shown, slots_from, weight}

-- ---- any list of slots

module _ {X : Type 0} where
  -- the slots that are full
  abbrev pub full : List (Option X) → List X
  full slots = filter_map (λ slot. slot) slots

  pub cons_option-append : (slot : Option X) (xs : List X) → cons_option slot xs ≡ option_to_list slot ++ xs
  cons_option-append None xs = refl
  cons_option-append (Some x) xs = refl

  -- what a slot that is written adds stands between what the slots before it and behind it have
  pub full-set : (slots : List (Option X)) (i : ℕ) (slot : Option X) → i < length slots
      → full (slice_set slots i slot) ≡ (full (take i slots) ++ option_to_list slot) ++ full (drop (suc i) slots)
  full-set [] i slot l = absurd (omega arith)
  full-set (s ∷ slots) zero slot l = cons_option-append slot (full slots)
  full-set (None ∷ slots) (suc i) slot l = full-set slots i slot (omega arith)
  full-set (Some x ∷ slots) (suc i) slot l = ap (λ xs. x ∷ xs) (full-set slots i slot (omega arith))

  -- the slot that is there
  pub full-get : (slots : List (Option X)) (i : ℕ) → i < length slots
      → full slots ≡ (full (take i slots) ++ option_to_list (get_or slots i None)) ++ full (drop (suc i) slots)
  full-get [] i l = absurd (omega arith)
  full-get (s ∷ slots) zero l = cons_option-append s (full slots)
  full-get (None ∷ slots) (suc i) l = full-get slots i (omega arith)
  full-get (Some x ∷ slots) (suc i) l = ap (λ xs. x ∷ xs) (full-get slots i (omega arith))

  pub length-full : (slots : List (Option X)) → length (full slots) ≤ length slots
  length-full [] = omega arith
  length-full (None ∷ slots) = omega (arith, length-full slots)
  length-full (Some x ∷ slots) = omega (arith, length-full slots)

-- ---- a number that is not 0

pub nonzero-or_zero : (n : ℕ) → unwrap_or (nonzero n) 0 ≡ n
nonzero-or_zero n =
    elim (nat_eq n 0) as (λ b. nat_eq n 0 ≡ b → unwrap_or (cond b None (Some n)) 0 ≡ n) [
      | true ↦ λ e. sym (eqb-true n 0 e)
      | false ↦ λ e. refl
    ] refl

abbrev pair_with : Key → ℕ → Key × ℕ
pair_with key m = (key, m)

value-of : (key : Key) (own : Option ℕ) → unwrap_or (option_map (λ (entry : Key × ℕ). entry.1) (option_map (λ m. (key, m)) own)) 0 ≡ unwrap_or own 0
value-of key None = refl
value-of key (Some m) = refl

pub nonzero-some : (n m : ℕ) → nonzero n ≡ Some m → m ≢ 0
nonzero-some n m =
    elim (nat_eq n 0) as (λ b. nat_eq n 0 ≡ b → cond b None (Some n) ≡ Some m → m ≢ 0) [
      | true ↦ λ e is. absurd (cc)
      | false ↦ λ e is z. let same : n ≡ 0 = cc in eqb-false n 0 e same
    ] refl

pub shown-number : (key : Key) (n : ℕ) → unwrap_or (option_map (λ (entry : Key × ℕ). entry.1) (shown key n)) 0 ≡ n
shown-number key n = value-of key (nonzero n) ∙ nonzero-or_zero n

pub shown-some : (key : Key) (n : ℕ) → (n ≡ 0 → ⊥) → shown key n ≡ Some (key, n)
shown-some key n some = ap (λ b. option_map (pair_with key) (cond b None (Some n))) (ne_eqb n 0 some)

pub length-shown : (key : Key) (n : ℕ) → length (option_to_list (shown key n)) ≡ weight n
length-shown key n =
    elim (nat_eq n 0) as (λ b. length (option_to_list (option_map (pair_with key) (cond b None (Some n)))) ≡ cond b 0 1) [ true ↦ refl | false ↦ refl ]

-- ---- the slots of cells

module _ (at : ℕ → Key) where
  pub length-slots : (i : ℕ) (cells : List ℕ) → length (slots_from at i cells) ≡ length cells
  length-slots i [] = refl
  length-slots i (n ∷ ns) = omega (arith, length-slots (i + 1) ns)

  pub get-slots : (i : ℕ) (cells : List ℕ) (k : ℕ) → get_or (slots_from at i cells) k None ≡ shown (at (i + k)) (get_or cells k 0)
  get-slots i [] zero = refl
  get-slots i [] (suc k) = refl
  get-slots i (n ∷ ns) zero = let same : i ≡ i + zero = omega arith in ap (λ j. shown (at j) n) same
  get-slots i (n ∷ ns) (suc k) =
      let same : (i + 1) + k ≡ i + suc k = omega arith in
      get-slots (i + 1) ns k ∙ ap (λ j. shown (at j) (get_or ns k 0)) same

  pub slots-set : (i : ℕ) (cells : List ℕ) (k n : ℕ) → slots_from at i (slice_set cells k n) ≡ slice_set (slots_from at i cells) k (shown (at (i + k)) n)
  slots-set i [] zero n = refl
  slots-set i [] (suc k) n = refl
  slots-set i (m ∷ ms) zero n = let same : i ≡ i + zero = omega arith in ap (λ j. shown (at j) n ∷ slots_from at (i + 1) ms) same
  slots-set i (m ∷ ms) (suc k) n =
      let same : (i + 1) + k ≡ i + suc k = omega arith in
      ap (λ slots. shown (at i) m ∷ slots) (slots-set (i + 1) ms k n ∙ ap (λ j. slice_set (slots_from at (i + 1) ms) k (shown (at j) n)) same)

  pub slots-append : (i : ℕ) (cells more : List ℕ) → slots_from at i (cells ++ more) ≡ slots_from at i cells ++ slots_from at (i + length cells) more
  slots-append i [] more = let same : i ≡ i + 0 = omega arith in ap (λ j. slots_from at j more) same
  slots-append i (n ∷ ns) more =
      let same : (i + 1) + length ns ≡ i + length (n ∷ ns) = omega arith in
      ap (λ slots. shown (at i) n ∷ slots) (slots-append (i + 1) ns more ∙ ap (λ j. slots_from at (i + 1) ns ++ slots_from at j more) same)

  -- cells of zeros are empty
  pub full-zeros : (i count : ℕ) → full (slots_from at i (replicate count 0)) ≡ []
  full-zeros i zero = refl
  full-zeros i (suc count) = full-zeros (i + 1) count

  -- no entry has the number 0
  pub all-nonzero : (i : ℕ) (cells : List ℕ) → AllByRecursion (λ (entry : Key × ℕ). entry.1 ≢ 0) (full (slots_from at i cells))
  all-nonzero i [] = tt
  all-nonzero i (n ∷ ns) =
      let rest : AllByRecursion (λ (entry : Key × ℕ). entry.1 ≢ 0) (full (slots_from at (i + 1) ns)) = all-nonzero (i + 1) ns in
      elim (nonzero n) as (λ o. nonzero n ≡ o → AllByRecursion (λ (entry : Key × ℕ). entry.1 ≢ 0) (cons_option (option_map (λ m. (at i, m)) o) (full (slots_from at (i + 1) ns)))) [
        | None ↦ λ e. rest
        | Some m ↦ λ e. (nonzero-some n m e, rest)
      ] refl

-- the keys of the cells alone matter
pub slots-same : (at to : ℕ → Key) (i : ℕ) (cells : List ℕ) → ((j : ℕ) → i ≤ j → j < i + length cells → at j ≡ to j) → slots_from at i cells ≡ slots_from to i cells
slots-same at to i [] same = refl
slots-same at to i (n ∷ ns) same =
    ap (λ key. shown key n ∷ slots_from at (i + 1) ns) (same i (omega arith) (omega arith))
    ∙ ap (λ slots. shown (to i) n ∷ slots) (slots-same at to (i + 1) ns (λ j l m. same j (omega arith) (omega arith)))

-- cells of zeros behind the others have no entry, where the others keep their keys
pub full-grown : (at to : ℕ → Key) (cells : List ℕ) (count : ℕ) → ((j : ℕ) → j < length cells → at j ≡ to j)
    → full (slots_from to 0 (cells ++ replicate count 0)) ≡ full (slots_from at 0 cells)
full-grown at to cells count same =
    ap full (slots-append to 0 cells (replicate count 0))
    ∙ filter_map-append (λ slot. slot) (slots_from to 0 cells) (slots_from to (0 + length cells) (replicate count 0))
    ∙ ap (λ rest. full (slots_from to 0 cells) ++ rest) (full-zeros to (0 + length cells) count)
    ∙ append-nil (full (slots_from to 0 cells))
    ∙ ap full (sym (slots-same at to 0 cells (λ j l m. same j (omega arith))))

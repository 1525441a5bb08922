-- What cells show: what is found there, how far it has fallen, and how many they are, once a function is put into a cell and once there are more cells.
use Rattle.std.proofs.Common.{◌≡◌, ℕ, zero, suc, ◌+◌, ◌≤◌, ◌++◌, refl, sym, ap, ◌∙◌, arith, List, [], ◌∷◌, Option, None, Some, Bool, true, false, cond, length}
use Rattle.std.specs.Prelude.{IfSome}
use Rattle.std.specs.List.{AllByRecursion, IsDistinct, cons_option}
use Rattle.std.specs.Map.{keys_of, lookup}
use Rattle.std.specs.Option.{is_some, option_flatten, option_map}
use Rattle.std.proofs.lemmas.Map.Keys.{IsDistinct-cons, IsDistinct-head, IsDistinct-tail}
use Rattle.ide_lattice.specs.Algebra.{EdgeAlgebra}
use Rattle.ide_wire.specs.declared.key.Key.{Key}
use Rattle.ide_wire.specs.Key.{same_key, same_key_exact}
use Rattle.ide_image.specs.Indexed.{empty_cells, entries_in, entry_in, full_cells, function_of, entry_of_cell}
use Rattle.ide_image.specs.Spent.{fallen, spent, spent_by}
use Rattle.ide_image.specs.Tables.{behind, last_of, place_in, with_all, with_entry}
use Rattle.ide_image.proofs.Sets.{found-with_entry}

module _ {F : Type 0} where
  -- ---- what is found
  -- a key that no cell is of is not shown
  unshown : (q x : Key) (cells : List (Key × Option F)) → same_key q x ≡ true → AllByRecursion (λ y. same_key x y ≡ false) (keys_of cells) → lookup (same_key q) (entries_in cells) ≡ None
  unshown q x [] same apart = refl
  unshown q x (c ∷ cells) same apart =
      let other : same_key q c.0 ≡ false = ap (λ k. same_key k c.0) (same_key_exact q x same) ∙ apart.0 in
      elim c.1 as (λ o. lookup (same_key q) (cons_option (option_map (λ f. (c.0, f)) o) (entries_in cells)) ≡ None) [
        | None ↦ unshown q x cells same apart.1
        | Some f ↦ ap (λ b. cond b (Some f) (lookup (same_key q) (entries_in cells))) other ∙ unshown q x cells same apart.1
      ]

  first-shown : (q : Key) (c : Key × Option F) (cells : List (Key × Option F)) (here : Bool) → same_key q c.0 ≡ here → (here ≡ true → lookup (same_key q) (entries_in cells) ≡ None)
      → lookup (same_key q) (entries_in cells) ≡ function_of cells q
      → lookup (same_key q) (entries_in (c ∷ cells)) ≡ option_flatten (cond here (Some c.1) (lookup (same_key q) cells))
  first-shown q c cells here is only rest =
      elim c.1 as (λ o. lookup (same_key q) (cons_option (option_map (λ f. (c.0, f)) o) (entries_in cells)) ≡ option_flatten (cond here (Some o) (lookup (same_key q) cells))) [
        | None ↦ (elim here as (λ b. here ≡ b → lookup (same_key q) (entries_in cells) ≡ option_flatten (cond b (Some None) (lookup (same_key q) cells))) [
          | true ↦ λ own. only own
          | false ↦ λ other. rest
        ] refl)
        | Some f ↦ ap (λ b. cond b (Some f) (lookup (same_key q) (entries_in cells))) is ∙ by-case f here
      ]
    where
      by-case : (f : F) (b : Bool) → cond b (Some f) (lookup (same_key q) (entries_in cells)) ≡ option_flatten (cond b (Some (Some f)) (lookup (same_key q) cells))
      by-case f true = refl
      by-case f false = rest

  -- what is found among the entries is the function of the key
  pub found-shown : (cells : List (Key × Option F)) (q : Key) → IsDistinct same_key (keys_of cells) → lookup (same_key q) (entries_in cells) ≡ function_of cells q
  found-shown [] q apart = refl
  found-shown (c ∷ cells) q apart =
      first-shown q c cells (same_key q c.0) refl
      (λ same. unshown q c.0 cells same (IsDistinct-head same_key c.0 (keys_of cells) apart))
      (found-shown cells q (IsDistinct-tail same_key c.0 (keys_of cells) apart))

  -- the entry of a cell is found
  pub found-each : (cells : List (Key × Option F)) (o : Option (Key × F)) → IsDistinct same_key (keys_of cells) → IfSome o (λ e. function_of cells e.0 ≡ Some e.1)
      → IfSome o (λ e. lookup (same_key e.0) (entries_in cells) ≡ Some e.1)
  found-each cells None apart has = tt
  found-each cells (Some e) apart has = found-shown cells e.0 apart ∙ has

  -- no two entries are of one key, where no two cells are
  apart-shown : (q : Key) (cells : List (Key × Option F)) → AllByRecursion (λ y. same_key q y ≡ false) (keys_of cells)
      → AllByRecursion (λ y. same_key q y ≡ false) (keys_of (entries_in cells))
  apart-shown q [] all = tt
  apart-shown q ((key, None) ∷ cells) all = apart-shown q cells all.1
  apart-shown q ((key, Some f) ∷ cells) all = (all.0, apart-shown q cells all.1)

  pub distinct-shown : (cells : List (Key × Option F)) → IsDistinct same_key (keys_of cells) → IsDistinct same_key (keys_of (entries_in cells))
  distinct-shown [] apart = apart
  distinct-shown ((key, None) ∷ cells) apart = distinct-shown cells (IsDistinct-tail same_key key (keys_of cells) apart)
  distinct-shown ((key, Some f) ∷ cells) apart =
      IsDistinct-cons same_key key (keys_of (entries_in cells)) (apart-shown key cells (IsDistinct-head same_key key (keys_of cells) apart))
      (distinct-shown cells (IsDistinct-tail same_key key (keys_of cells) apart))

  -- ---- one function is put
  pub function-with : (cells : List (Key × Option F)) (key q : Key) (f : F) → function_of (with_entry cells key (Some f)) q ≡ cond (same_key key q) (Some f) (function_of cells q)
  function-with cells key q f = ap option_flatten (found-with_entry cells key q (Some f)) ∙ by-case (same_key key q)
    where
      by-case : (b : Bool) → option_flatten (cond b (Some (Some f)) (lookup (same_key q) cells)) ≡ cond b (Some f) (function_of cells q)
      by-case true = refl
      by-case false = refl

  -- the functions of a list are put, one after the other
  pub function-with-all : (xs : List (Key × F)) (cells : List (Key × Option F)) (q : Key) → function_of (with_all cells (full_cells xs)) q ≡ last_of xs q (function_of cells q)
  function-with-all [] cells q = refl
  function-with-all (x ∷ xs) cells q = function-with-all xs (with_entry cells x.0 (Some x.1)) q ∙ ap (last_of xs q) (function-with cells x.0 q x.1)

  -- no more than there are cells
  pub few-shown : (cells : List (Key × Option F)) → length (entries_in cells) ≤ length cells
  few-shown [] = omega arith
  few-shown (c ∷ cells) =
      let rest = few-shown cells in
      elim c.1 as (λ o. length (cons_option (option_map (λ f. (c.0, f)) o) (entries_in cells)) ≤ suc (length cells)) [
        | None ↦ omega (arith, rest)
        | Some f ↦ omega (arith, rest)
      ]

  -- ---- there are more cells
  unshown-more : (keys : List Key) → entries_in {F = F} (empty_cells keys) ≡ []
  unshown-more [] = refl
  unshown-more (k ∷ keys) = unshown-more keys

  pub shown-more : (cells : List (Key × Option F)) (keys : List Key) → entries_in (cells ++ empty_cells keys) ≡ entries_in cells
  shown-more [] keys = unshown-more keys
  shown-more (c ∷ cells) keys =
      elim c.1 as (λ o. cons_option (option_map (λ f. (c.0, f)) o) (entries_in (cells ++ empty_cells keys)) ≡ cons_option (option_map (λ f. (c.0, f)) o) (entries_in cells)) [
        | None ↦ shown-more cells keys
        | Some f ↦ ap (λ es. (c.0, f) ∷ es) (shown-more cells keys)
      ]

  none-more : (keys : List Key) (q : Key) → function_of {F = F} (empty_cells keys) q ≡ None
  none-more [] q = refl
  none-more (k ∷ keys) q =
      elim (same_key q k) as (λ b. option_flatten {T = F} (cond b (Some None) (lookup (same_key q) (empty_cells keys))) ≡ None) [
        | true ↦ refl
        | false ↦ none-more keys q
      ]

  pub function-more : (cells : List (Key × Option F)) (keys : List Key) (q : Key) → function_of (cells ++ empty_cells keys) q ≡ function_of cells q
  function-more [] keys q = none-more keys q
  function-more (c ∷ cells) keys q =
      elim (same_key q c.0) as (λ b. option_flatten (cond b (Some c.1) (lookup (same_key q) (cells ++ empty_cells keys))) ≡ option_flatten (cond b (Some c.1) (lookup (same_key q) cells))) [
        | true ↦ refl
        | false ↦ function-more cells keys q
      ]

-- ---- how far they have fallen
module _ {F L : Type 0} (B : EdgeAlgebra F L) where
  spent-cons : (k : Key) (o : Option F) (es : List (Key × F)) → spent B (cons_option (option_map (λ f. (k, f)) o) es) ≡ spent_by B o + spent B es
  spent-cons k None es = omega arith
  spent-cons k (Some f) es = refl

  spent-step : (key : Key) (v : F) (c : Key × Option F) (cells : List (Key × Option F)) (here : Bool)
      → spent B (entries_in (with_entry cells key (Some v))) + spent_by B (function_of cells key) ≡ spent B (entries_in cells) + fallen B v
      → spent B (entries_in (cond here ((c.0, Some v) ∷ cells) (c ∷ with_entry cells key (Some v)))) + spent_by B (option_flatten (cond here (Some c.1) (lookup (same_key key) cells)))
      ≡ spent B (entries_in (c ∷ cells)) + fallen B v
  spent-step key v c cells true rest = let first = spent-cons c.0 c.1 (entries_in cells) in omega (arith, first)
  spent-step key v c cells false rest =
      let first = spent-cons c.0 c.1 (entries_in cells) in
      let after = spent-cons c.0 c.1 (entries_in (with_entry cells key (Some v))) in
      omega (arith, first, after, rest)

  pub spent-shown : (key : Key) (v : F) (cells : List (Key × Option F))
      → spent B (entries_in (with_entry cells key (Some v))) + spent_by B (function_of cells key) ≡ spent B (entries_in cells) + fallen B v
  spent-shown key v [] = omega arith
  spent-shown key v (c ∷ cells) = spent-step key v c cells (same_key key c.0) (spent-shown key v cells)

-- ---- how many they are
module _ {F : Type 0} (key : Key) (v : F) where
  count-cons : (k : Key) (o : Option F) (es : List (Key × F)) → length (cons_option (option_map (λ f. (k, f)) o) es) ≡ cond (is_some o) 1 0 + length es
  count-cons k None es = omega arith
  count-cons k (Some f) es = omega arith

  one-of : (b : Bool) → cond b 1 0 + cond b 0 1 ≡ 1
  one-of true = refl
  one-of false = refl

  count-step : (c : Key × Option F) (cells : List (Key × Option F)) (here : Bool)
      → length (entries_in (with_entry cells key (Some v))) ≡ length (entries_in cells) + cond (is_some (function_of cells key)) 0 1
      → length (entries_in (cond here ((c.0, Some v) ∷ cells) (c ∷ with_entry cells key (Some v))))
      ≡ length (entries_in (c ∷ cells)) + cond (is_some (option_flatten (cond here (Some c.1) (lookup (same_key key) cells)))) 0 1
  count-step c cells true rest = let first = count-cons c.0 c.1 (entries_in cells) in let one = one-of (is_some c.1) in omega (arith, first, one)
  count-step c cells false rest =
      let first = count-cons c.0 c.1 (entries_in cells) in
      let after = count-cons c.0 c.1 (entries_in (with_entry cells key (Some v))) in
      omega (arith, first, after, rest)

  pub count-shown : (cells : List (Key × Option F)) → length (entries_in (with_entry cells key (Some v))) ≡ length (entries_in cells) + cond (is_some (function_of cells key)) 0 1
  count-shown [] = omega arith
  count-shown (c ∷ cells) = count-step c cells (same_key key c.0) (count-shown cells)

-- ---- what the cell at a key's place shows
behind-more : (p n : ℕ) → behind p ≡ suc (suc n) → p ≡ suc n
behind-more zero n is = absurd (omega (arith, is))
behind-more (suc p) n is = omega (arith, is)

first-alone : (p : ℕ) → behind p ≡ 1 → ⊥
first-alone zero one = omega (arith, one)
first-alone (suc p) one = omega (arith, one)

pub entry-at : {F : Type 0} (key : Key) (cells : List (Key × Option F)) (n : ℕ) → place_in key cells ≡ suc n → entry_in cells n ≡ option_map (λ f. (key, f)) (function_of cells key)
entry-at key [] n is = absurd (omega (arith, is))
entry-at {F} key (c ∷ cells) zero is =
    elim (same_key key c.0) as (λ b. same_key key c.0 ≡ b → cond b 1 (behind (place_in key cells)) ≡ 1
    → entry_of_cell c ≡ option_map (λ f. (key, f)) (option_flatten {T = F} (cond b (Some c.1) (lookup (same_key key) cells)))) [
      | true ↦ λ same _. ap (λ k. option_map (λ f. (k, f)) c.1) (sym (same_key_exact key c.0 same))
      | false ↦ λ _ one. absurd (first-alone (place_in key cells) one)
    ] refl is
entry-at {F} key (c ∷ cells) (suc n) is =
    elim (same_key key c.0) as (λ b. cond b 1 (behind (place_in key cells)) ≡ suc (suc n)
    → entry_in cells n ≡ option_map (λ f. (key, f)) (option_flatten {T = F} (cond b (Some c.1) (lookup (same_key key) cells)))) [
      | true ↦ λ no. absurd (omega (arith, no))
      | false ↦ λ more. entry-at key cells n (behind-more (place_in key cells) n more)
    ] is

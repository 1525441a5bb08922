-- Entries by keys, where each cell has a key of its own: `at` gives the key of a cell, and `cell` the cell of a key.
use Rattle.std.proofs.Common.{◌≡◌, ℕ, zero, suc, ◌+◌, ◌<◌, ◌≤◌, refl, sym, ap, subst, ◌∙◌, arith, List, [], ◌∷◌, length, get_or, Option, Some, None, Bool, true, false, cond, ⊎_elim}
use Rattle.std.specs.Prelude.{nat_eq, slice_set, if◌then◌else◌}
use Rattle.std.specs.List.{AllByRecursion, IsDistinct, cons_option}
use Rattle.std.specs.Map.{lookup, keys_of}
use Rattle.std.specs.Option.{option_map, unwrap_or}
use Rattle.std.proofs.lemmas.Bool.{cases_eq, eq-eqb, ne_eqb, false_from_ne_true}
use Rattle.std.proofs.lemmas.List.{get_or-set_other, get_or-set_same}
use Rattle.ide_wire.specs.declared.key.Key.{Key}
use Rattle.ide_wire.specs.Key.{same_key, same_key_exact, same_key_refl}
use Rattle.ide_pages.specs.Pages.{nonzero, cell_number, slots_from}
use Rattle.ide_pages.proofs.Slots.{full, nonzero-or_zero}

-- the look-up of a key, one slot more
lookup-own : (test : Key → Bool) (key : Key) (slot : Option ℕ) (rest : List (Key × ℕ)) → test key ≡ true → lookup test rest ≡ None
    → lookup test (cons_option (option_map (λ m. (key, m)) slot) rest) ≡ slot
lookup-own test key None rest own none = none
lookup-own test key (Some m) rest own none = ap (λ b. cond b (Some m) (lookup test rest)) own

lookup-other : (test : Key → Bool) (key : Key) (slot : Option ℕ) (rest : List (Key × ℕ)) → test key ≡ false
    → lookup test (cons_option (option_map (λ m. (key, m)) slot) rest) ≡ lookup test rest
lookup-other test key None rest other = refl
lookup-other test key (Some m) rest other = ap (λ b. cond b (Some m) (lookup test rest)) other

-- a key that is of none of the cells
lookup-none : (at : ℕ → Key) (key : Key) (i : ℕ) (cells : List ℕ) → ((j : ℕ) → i ≤ j → j < i + length cells → same_key key (at j) ≡ false)
    → lookup (same_key key) (full (slots_from at i cells)) ≡ None
lookup-none at key i [] other = refl
lookup-none at key i (n ∷ ns) other =
    lookup-other (same_key key) (at i) (nonzero n) (full (slots_from at (i + 1) ns)) (other i (omega arith) (omega arith))
    ∙ lookup-none at key (i + 1) ns (λ j l m. other j (omega arith) (omega arith))

-- a key that is of one of the cells
lookup-one : (at : ℕ → Key) (key : Key) (i : ℕ) (cells : List ℕ) (k : ℕ) → ((j : ℕ) → i ≤ j → j < i + length cells → same_key key (at j) ≡ nat_eq (i + k) j)
    → lookup (same_key key) (full (slots_from at i cells)) ≡ nonzero (get_or cells k 0)
lookup-one at key i [] zero one = refl
lookup-one at key i [] (suc k) one = refl
lookup-one at key i (n ∷ ns) zero one =
    lookup-own (same_key key) (at i) (nonzero n) (full (slots_from at (i + 1) ns))
    (one i (omega arith) (omega arith) ∙ eq-eqb (i + zero) i (omega arith))
    (lookup-none at key (i + 1) ns (λ j l m. one j (omega arith) (omega arith) ∙ ne_eqb (i + zero) j (λ e. absurd (omega arith))))
lookup-one at key i (n ∷ ns) (suc k) one =
    lookup-other (same_key key) (at i) (nonzero n) (full (slots_from at (i + 1) ns))
    (one i (omega arith) (omega arith) ∙ ne_eqb (i + suc k) i (λ e. absurd (omega arith)))
    ∙ lookup-one at key (i + 1) ns k (λ j l m.
    let same : i + suc k ≡ (i + 1) + k = omega arith in
    one j (omega arith) (omega arith) ∙ ap (λ c. nat_eq c j) same)

-- each cell below the size has a key of its own
pub record IsNumbering (at : ℕ → Key) (cell : Key → Option ℕ) (size : ℕ) : Type 0 where
  pub there : (c : ℕ) → c < size → cell (at c) ≡ Some c
  pub back : (q : Key) (c : ℕ) → cell q ≡ Some c → at c ≡ q
  pub within : (q : Key) (c : ℕ) → cell q ≡ Some c → c < size

module _ (at : ℕ → Key) (cell : Key → Option ℕ) (cells : List ℕ) (by : IsNumbering at cell (length cells)) where
  -- a key is that of a cell exactly where the cell is the key's
  pub same-at : (key : Key) (c j : ℕ) → cell key ≡ Some c → j < length cells → same_key key (at j) ≡ nat_eq c j
  same-at key c j is l =
      ⊎_elim
      (λ e. subst (λ k. same_key key k ≡ true) (sym (by.back key c is) ∙ ap at e) (same_key_refl key) ∙ sym (eq-eqb c j e))
      (λ ne. false_from_ne_true (same_key key (at j)) (λ t.
      let both : Some c ≡ Some j = sym is ∙ ap cell (same_key_exact key (at j) t) ∙ by.there j l in
      let e : c ≡ j = cc in ne e)
      ∙ sym (ne_eqb c j ne))
      (cases_eq c j)

  pub apart-at : (key : Key) (j : ℕ) → cell key ≡ None → j < length cells → same_key key (at j) ≡ false
  apart-at key j is l =
      false_from_ne_true (same_key key (at j)) (λ t.
      let both : None ≡ Some j = sym is ∙ ap cell (same_key_exact key (at j) t) ∙ by.there j l in
      absurd (cc))

  -- the key's entry has the number of its cell
  pub lookup-number : (key : Key) (own : Option ℕ) → cell key ≡ own → lookup (same_key key) (full (slots_from at 0 cells)) ≡ nonzero (cell_number cells own)
  lookup-number key None is = lookup-none at key 0 cells (λ j l m. apart-at key j is (omega arith))
  lookup-number key (Some c) is =
      lookup-one at key 0 cells c (λ j l m. let same : c ≡ 0 + c = omega arith in same-at key c j is (omega arith) ∙ ap (λ d. nat_eq d j) same)

  pub number-is : (key : Key) → unwrap_or (lookup (same_key key) (full (slots_from at 0 cells))) 0 ≡ cell_number cells (cell key)
  number-is key = ap (λ o. unwrap_or o 0) (lookup-number key (cell key) refl) ∙ nonzero-or_zero (cell_number cells (cell key))

  -- one cell is written
  number-written : (key q : Key) (c n : ℕ) (own : Option ℕ) → cell key ≡ Some c → cell q ≡ own
      → cell_number (slice_set cells c n) own ≡ (if same_key key q then n else cell_number cells own)
  number-written key q c n None is at_q =
      let other : same_key key q ≡ false = false_from_ne_true (same_key key q) (λ t.
      let both : Some c ≡ None = sym is ∙ ap cell (same_key_exact key q t) ∙ at_q in absurd (cc)) in
      sym (ap (λ b. cond b n 0) other)
  number-written key q c n (Some d) is at_q =
      let same : same_key key q ≡ nat_eq c d = ap (same_key key) (sym (by.back q d at_q)) ∙ same-at key c d is (by.within q d at_q) in
      ⊎_elim
      (λ e. let l : c < length cells = by.within key c is in
      ap (λ j. get_or (slice_set cells c n) j 0) (sym e) ∙ get_or-set_same cells c n 0 l ∙ sym (ap (λ b. cond b n (get_or cells d 0)) (same ∙ eq-eqb c d e)))
      (λ ne. get_or-set_other cells c d n 0 (λ e. ne (sym e)) ∙ sym (ap (λ b. cond b n (get_or cells d 0)) (same ∙ ne_eqb c d ne)))
      (cases_eq c d)

  pub number-after : (key q : Key) (c n : ℕ) → cell key ≡ Some c
      → cell_number (slice_set cells c n) (cell q) ≡ (if same_key key q then n else cell_number cells (cell q))
  number-after key q c n is = number-written key q c n (cell q) is refl

  -- the entries' keys differ
  ahead : (key : Key) (c i : ℕ) (ns : List ℕ) → cell key ≡ Some c → c < i → i + length ns ≤ length cells
      → AllByRecursion (λ q. same_key key q ≡ false) (keys_of (full (slots_from at i ns)))
  ahead key c i [] is below l = tt
  ahead key c i (n ∷ ns) is below l =
      let rest : AllByRecursion (λ q. same_key key q ≡ false) (keys_of (full (slots_from at (i + 1) ns))) = ahead key c (i + 1) ns is (omega arith) (omega arith) in
      elim (nonzero n) as (λ o. AllByRecursion (λ q. same_key key q ≡ false) (keys_of (cons_option (option_map (λ m. (at i, m)) o) (full (slots_from at (i + 1) ns))))) [
        | None ↦ rest
        | Some m ↦ (same-at key c i is (omega arith) ∙ ne_eqb c i (λ e. absurd (omega arith)), rest)
      ]

  distinct-from : (i : ℕ) (ns : List ℕ) → i + length ns ≤ length cells → IsDistinct same_key (keys_of (full (slots_from at i ns)))
  unfolding IsDistinct
  distinct-from i [] l = tt
  distinct-from i (n ∷ ns) l =
      let rest : IsDistinct same_key (keys_of (full (slots_from at (i + 1) ns))) = distinct-from (i + 1) ns (omega arith) in
      elim (nonzero n) as (λ o. IsDistinct same_key (keys_of (cons_option (option_map (λ m. (at i, m)) o) (full (slots_from at (i + 1) ns))))) [
        | None ↦ rest
        | Some m ↦ (ahead (at i) i (i + 1) ns (by.there i (omega arith)) (omega arith) (omega arith), rest)
      ]

  pub distinct-entries : IsDistinct same_key (keys_of (full (slots_from at 0 cells)))
  distinct-entries = distinct-from 0 cells (omega arith)

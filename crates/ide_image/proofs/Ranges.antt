-- Lists made from numbers that follow each other, of pairs each with a key of its own: what is found at a key, and where it stands.
use Rattle.std.proofs.Common.{◌≡◌, ℕ, zero, suc, ◌+◌, ◌<◌, ◌≤◌, refl, sym, ap, ◌∙◌, arith, ◌∷◌, ◌++◌, Some, None, true, false, cond}
use Rattle.std.specs.Prelude.{map, nat_eq}
use Rattle.std.specs.List.{AllByRecursion, IsDistinct, range_with_len}
use Rattle.std.specs.Map.{keys_of, lookup}
use Rattle.std.proofs.lemmas.Bool.{eq-eqb, ne_eqb}
use Rattle.ide_wire.specs.declared.key.Key.{Key}
use Rattle.ide_wire.specs.Key.{same_key}
use Rattle.ide_image.specs.Tables.{behind, place_in, with_entry}

module _ {A : Type 0} where
  -- the numbers of the range alone matter
  pub map-same : (f g : ℕ → A) (i n : ℕ) → ((j : ℕ) → i ≤ j → j < i + n → f j ≡ g j) → map f (range_with_len i n) ≡ map g (range_with_len i n)
  map-same f g i zero same = refl
  map-same f g i (suc n) same =
      ap (λ x. x ∷ map f (range_with_len (i + 1) n)) (same i (omega arith) (omega arith))
      ∙ ap (λ xs. g i ∷ xs) (map-same f g (i + 1) n (λ j l m. same j (omega arith) (omega arith)))

  -- a range, and the one behind it
  pub map-more : (f : ℕ → A) (i n more : ℕ) → map f (range_with_len i (n + more)) ≡ map f (range_with_len i n) ++ map f (range_with_len (i + n) more)
  map-more f i zero more =
      let same : i ≡ i + zero = omega arith in
      let none : zero + more ≡ more = omega arith in
      ap (λ count. map f (range_with_len i count)) none ∙ ap (λ j. map f (range_with_len j more)) same
  map-more f i (suc n) more =
      let same : (i + 1) + n ≡ i + suc n = omega arith in
      let next : suc n + more ≡ suc (n + more) = omega arith in
      ap (λ count. map f (range_with_len i count)) next
      ∙ ap (λ xs. f i ∷ xs) (map-more f (i + 1) n more ∙ ap (λ j. map f (range_with_len (i + 1) n) ++ map f (range_with_len j more)) same)

module _ {X : Type 0} (pair : ℕ → Key × X) (key : Key) where
  -- where none of them has the key
  pub lookup-none : (i n : ℕ) → ((j : ℕ) → i ≤ j → j < i + n → same_key key (pair j).0 ≡ false) → lookup (same_key key) (map pair (range_with_len i n)) ≡ None
  lookup-none i zero other = refl
  lookup-none i (suc n) other =
      ap (λ b. cond b (Some (pair i).1) (lookup (same_key key) (map pair (range_with_len (i + 1) n)))) (other i (omega arith) (omega arith))
      ∙ lookup-none (i + 1) n (λ j l m. other j (omega arith) (omega arith))

  pub place-none : (i n : ℕ) → ((j : ℕ) → i ≤ j → j < i + n → same_key key (pair j).0 ≡ false) → place_in key (map pair (range_with_len i n)) ≡ 0
  place-none i zero other = refl
  place-none i (suc n) other =
      ap (λ b. cond b 1 (behind (place_in key (map pair (range_with_len (i + 1) n))))) (other i (omega arith) (omega arith))
      ∙ ap behind (place-none (i + 1) n (λ j l m. other j (omega arith) (omega arith)))

  -- where the one so many behind the first has it, and no other
  pub lookup-one : (i n k : ℕ) → k < n → ((j : ℕ) → i ≤ j → j < i + n → same_key key (pair j).0 ≡ nat_eq (i + k) j)
      → lookup (same_key key) (map pair (range_with_len i n)) ≡ Some (pair (i + k)).1
  lookup-one i zero k l one = absurd (omega (arith, l))
  lookup-one i (suc n) zero l one =
      let same : i ≡ i + zero = omega arith in
      ap (λ b. cond b (Some (pair i).1) (lookup (same_key key) (map pair (range_with_len (i + 1) n))))
      (one i (omega arith) (omega arith) ∙ eq-eqb (i + zero) i (omega arith))
      ∙ ap (λ j. Some (pair j).1) same
  lookup-one i (suc n) (suc k) l one =
      let same : (i + 1) + k ≡ i + suc k = omega arith in
      ap (λ b. cond b (Some (pair i).1) (lookup (same_key key) (map pair (range_with_len (i + 1) n))))
      (one i (omega arith) (omega arith) ∙ ne_eqb (i + suc k) i (λ e. absurd (omega (arith, e))))
      ∙ lookup-one (i + 1) n k (omega (arith, l)) (λ j l m. one j (omega arith) (omega arith) ∙ ap (λ c. nat_eq c j) (sym same))
      ∙ ap (λ j. Some (pair j).1) same

  pub place-one : (i n k : ℕ) → k < n → ((j : ℕ) → i ≤ j → j < i + n → same_key key (pair j).0 ≡ nat_eq (i + k) j)
      → place_in key (map pair (range_with_len i n)) ≡ suc k
  place-one i zero k l one = absurd (omega (arith, l))
  place-one i (suc n) zero l one =
      ap (λ b. cond b 1 (behind (place_in key (map pair (range_with_len (i + 1) n)))))
      (one i (omega arith) (omega arith) ∙ eq-eqb (i + zero) i (omega arith))
  place-one i (suc n) (suc k) l one =
      let same : (i + 1) + k ≡ i + suc k = omega arith in
      ap (λ b. cond b 1 (behind (place_in key (map pair (range_with_len (i + 1) n)))))
      (one i (omega arith) (omega arith) ∙ ne_eqb (i + suc k) i (λ e. absurd (omega (arith, e))))
      ∙ ap behind (place-one (i + 1) n k (omega (arith, l)) (λ j l m. one j (omega arith) (omega arith) ∙ ap (λ c. nat_eq c j) (sym same)))

  -- that one is put in
  pub with-one : (new : ℕ → Key × X) (x : X) (i n k : ℕ) → k < n → ((j : ℕ) → i ≤ j → j < i + n → same_key key (pair j).0 ≡ nat_eq (i + k) j)
      → ((j : ℕ) → i ≤ j → j < i + n → new j ≡ cond (nat_eq (i + k) j) ((pair j).0, x) (pair j))
      → map new (range_with_len i n) ≡ with_entry (map pair (range_with_len i n)) key x
  with-one new x i zero k l one put = absurd (omega (arith, l))
  with-one new x i (suc n) zero l one put =
      let rest = map pair (range_with_len (i + 1) n) in
      let here : nat_eq (i + zero) i ≡ true = eq-eqb (i + zero) i (omega arith) in
      ap (λ e. e ∷ map new (range_with_len (i + 1) n)) (put i (omega arith) (omega arith) ∙ ap (λ b. cond b ((pair i).0, x) (pair i)) here)
      ∙ ap (λ es. ((pair i).0, x) ∷ es)
      (map-same new pair (i + 1) n (λ j l m.
      put j (omega arith) (omega arith) ∙ ap (λ b. cond b ((pair j).0, x) (pair j)) (ne_eqb (i + zero) j (λ e. absurd (omega (arith, e, l))))))
      ∙ sym (ap (λ b. cond b (((pair i).0, x) ∷ rest) (pair i ∷ with_entry rest key x)) (one i (omega arith) (omega arith) ∙ here))
  with-one new x i (suc n) (suc k) l one put =
      let same : (i + 1) + k ≡ i + suc k = omega arith in
      let rest = map pair (range_with_len (i + 1) n) in
      let other : nat_eq (i + suc k) i ≡ false = ne_eqb (i + suc k) i (λ e. absurd (omega (arith, e))) in
      ap (λ e. e ∷ map new (range_with_len (i + 1) n)) (put i (omega arith) (omega arith) ∙ ap (λ b. cond b ((pair i).0, x) (pair i)) other)
      ∙ ap (λ es. pair i ∷ es)
      (with-one new x (i + 1) n k (omega (arith, l)) (λ j l m. one j (omega arith) (omega arith) ∙ ap (λ c. nat_eq c j) (sym same))
      (λ j l m. put j (omega arith) (omega arith) ∙ ap (λ c. cond (nat_eq c j) ((pair j).0, x) (pair j)) (sym same)))
      ∙ sym (ap (λ b. cond b (((pair i).0, x) ∷ rest) (pair i ∷ with_entry rest key x)) (one i (omega arith) (omega arith) ∙ other))

module _ {X : Type 0} (pair : ℕ → Key × X) (end : ℕ) (apart : (i j : ℕ) → i < j → j < end → same_key (pair i).0 (pair j).0 ≡ false) where
  ahead : (first i n : ℕ) → first < i → i + n ≤ end → AllByRecursion (λ q. same_key (pair first).0 q ≡ false) (keys_of (map pair (range_with_len i n)))
  ahead first i zero below l = tt
  ahead first i (suc n) below l = (apart first i below (omega (arith, l)), ahead first (i + 1) n (omega (arith, below)) (omega (arith, l)))

  -- their keys differ
  pub distinct-range : (i n : ℕ) → i + n ≤ end → IsDistinct same_key (keys_of (map pair (range_with_len i n)))
  unfolding IsDistinct
  distinct-range i zero l = tt
  distinct-range i (suc n) l = (ahead i (i + 1) n (omega arith) (omega (arith, l)), distinct-range (i + 1) n (omega (arith, l)))

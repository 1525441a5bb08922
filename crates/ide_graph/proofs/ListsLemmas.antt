-- Short lists that have exactly what they are to have.
use Rattle.std.proofs.Common.{◌≡◌, ℕ, ◌<◌, ◌≤◌, List, [], ◌∷◌, ◌++◌, refl, ◌⊎◌, inl, inr, zero, suc, get_or, length, ap, subst, ◌∙◌, sym, arith}
use Rattle.std.specs.List.{All, AllPairs, Contains}
use Rattle.std.proofs.lemmas.List.Elements.{All-nil, All-cons, All-weaker}
use Rattle.std.proofs.lemmas.List.Kept.{AllPairs-cons}
use Rattle.ide_graph.specs.Lists.{Lists}

module _ {X : Type 0} (key : X → ℕ) where
  -- two predicates that agree
  pub lists_same : (P Q : X → Type 0) (xs : List X) → ((x : X) → P x → Q x) → ((x : X) → Q x → P x) → Lists P key xs → Lists Q key xs
  lists_same P Q xs to from l = record {
    each = All-weaker P Q to xs l.each;
    whole = λ x h. l.whole x (from x h);
    ascending = l.ascending;
  }

  no_pairs : (R : X → X → Type 0) → AllPairs R []
  no_pairs R i j d less short = absurd (omega arith)

  one_pairs : (R : X → X → Type 0) (a : X) → AllPairs R (a ∷ [])
  one_pairs R a = AllPairs-cons R a [] (All-nil (R a)) (no_pairs R)

  pub lists_one : (P : X → Type 0) (a : X) → P a → ((x : X) → P x → x ≡ a) → Lists P key (a ∷ [])
  lists_one P a here only = record {
    each = All-cons P a [] here (All-nil P);
    whole = λ x h. (0, omega arith, sym (only x h));
    ascending = one_pairs (λ x y. key x < key y) a;
  }

  pub lists_two : (P : X → Type 0) (a b : X) → P a → P b → key a < key b → ((x : X) → P x → (x ≡ a) ⊎ (x ≡ b)) → Lists P key (a ∷ b ∷ [])
  lists_two P a b first second less only =
      let R : X → X → Type 0 = λ x y. key x < key y in
      record {
        each = All-cons P a (b ∷ []) first (All-cons P b [] second (All-nil P));
        whole = λ x h. let two : (x ≡ a) ⊎ (x ≡ b) = only x h in elim two [ inl e ↦ (0, omega arith, sym e) | inr e ↦ (1, omega arith, sym e) ];
        ascending = AllPairs-cons R a (b ∷ []) (All-cons (R a) b [] less (All-nil (R a))) (one_pairs R b);
      }

  -- what follows the first has a greater key
  lists_tail : (P : X → Type 0) (x : X) (xs : List X) → Lists P key (x ∷ xs) → Lists (λ z. P z × (key x < key z)) key xs
  lists_tail P x xs l = record {
    each = λ k d within. (l.each (suc k) d (omega arith), l.ascending 0 (suc k) d (omega arith) (omega arith));
    whole = λ z h. later z h (l.whole z h.0);
    ascending = λ i j d less within. l.ascending (suc i) (suc j) d (omega arith) (omega arith);
  }
    where
      later : (z : X) → P z × (key x < key z) → Contains (x ∷ xs) z → Contains xs z
      later z h c = by c.0 c.1 c.2
        where
          by : (k : ℕ) → k < length (x ∷ xs) → get_or (x ∷ xs) k z ≡ z → Contains xs z
          by zero within is = let same : key x ≡ key z = ap key is in absurd (omega (arith, same, h.1))
          by (suc k) within is = (k, omega arith, is)

  -- an element is the first, or has a greater key
  first_or_later : (P : X → Type 0) (x : X) (xs : List X) → Lists P key (x ∷ xs) → (z : X) → P z → (x ≡ z) ⊎ (key x < key z)
  first_or_later P x xs l z h = let c = l.whole z h in by c.0 c.1 c.2
    where
      by : (k : ℕ) → k < length (x ∷ xs) → get_or (x ∷ xs) k z ≡ z → (x ≡ z) ⊎ (key x < key z)
      by zero within is = inl is
      by (suc k) within is = let less : key x < key (get_or xs k z) = l.ascending 0 (suc k) z (omega arith) within in inr (subst (λ w. key x < key w) is less)

  -- two lists begin alike
  both : (P : X → Type 0) (x y : X) (xs ys : List X) → Lists P key (x ∷ xs) → Lists P key (y ∷ ys) → (x ≡ y → xs ≡ ys) → (x ∷ xs) ≡ (y ∷ ys)
  both P x y xs ys a b rest = by (first_or_later P x xs a y (b.each 0 y (omega arith))) (first_or_later P y ys b x (a.each 0 x (omega arith)))
    where
      joined : x ≡ y → (x ∷ xs) ≡ (y ∷ ys)
      joined same = ap (λ zs. x ∷ zs) (rest same) ∙ ap (λ z. z ∷ ys) same

      by : (x ≡ y) ⊎ (key x < key y) → (y ≡ x) ⊎ (key y < key x) → (x ∷ xs) ≡ (y ∷ ys)
      by (inl same) other = joined same
      by (inr less) (inl same) = joined (sym same)
      by (inr less) (inr more) = absurd (omega (arith, less, more))

  -- one list has just what it is to have
  pub lists_once : (P : X → Type 0) (xs ys : List X) → Lists P key xs → Lists P key ys → xs ≡ ys
  lists_once P [] [] a b = refl
  lists_once P [] (y ∷ ys) a b = let c = a.whole y (b.each 0 y (omega arith)) in absurd (omega (arith, c.1))
  lists_once P (x ∷ xs) [] a b = let c = b.whole x (a.each 0 x (omega arith)) in absurd (omega (arith, c.1))
  lists_once P (x ∷ xs) (y ∷ ys) a b =
      both P x y xs ys a b
      (λ same. lists_once (λ z. P z × (key x < key z)) xs ys (lists_tail P x xs a) (subst (λ w. Lists (λ z. P z × (key w < key z)) key ys) (sym same) (lists_tail P y ys b)))

  -- where keys ascend strictly, each is at least its place
  above_place : (xs : List X) → AllPairs (λ x y. key x < key y) xs → (k : ℕ) (d : X) → k < length xs → k ≤ key (get_or xs k d)
  above_place xs ascending zero d within = omega arith
  above_place xs ascending (suc k) d within =
      let below : k ≤ key (get_or xs k d) = above_place xs ascending k d (omega (arith, within)) in
      let next : key (get_or xs k d) < key (get_or xs (suc k) d) = ascending k (suc k) d (omega arith) within in
      omega (arith, below, next)

  -- so there are no more of them than numbers below their bound
  pub few_ascending : (xs : List X) (n : ℕ) → All (λ x. key x < n) xs → AllPairs (λ x y. key x < key y) xs → length xs ≤ n
  few_ascending [] n below ascending = omega arith
  few_ascending (x ∷ xs) n below ascending =
      let last : length xs ≤ key (get_or (x ∷ xs) (length xs) x) = above_place (x ∷ xs) ascending (length xs) x (omega arith) in
      let bound : key (get_or (x ∷ xs) (length xs) x) < n = below (length xs) x (omega arith) in
      omega (arith, last, bound)

pub two_pushed : {X : Type 0} (xs ys zs : List X) (a b c d : X) → xs ≡ [] → ys ≡ xs ++ a ∷ [] → zs ≡ ys ++ b ∷ [] → a ≡ c → b ≡ d → zs ≡ c ∷ d ∷ []
two_pushed xs ys zs a b c d none one two first second = rw (two, one, none, first, second) refl

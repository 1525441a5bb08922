-- In a list that ascends by a key, what has one key stands together, between two places.
use Rattle.std.proofs.Common.{◌≡◌, ◌≢◌, ℕ, ◌+◌, ◌-◌, ◌<◌, ◌≤◌, inl, inr, true, false, List, [], ◌++◌, length, get_or, take, drop, sym, subst, ap, ◌∙◌, arith}
use Rattle.std.specs.Prelude.{nat_eq, nat_le, nat_lt, filter}
use Rattle.std.specs.List.{All, AllWithin}
use Rattle.std.specs.List.Sorted.{IsNonDecreasingBy}
use Rattle.std.proofs.lemmas.Bool.{cases_lt}
use Rattle.std.proofs.lemmas.Bool.Decides.{nat_tests}
use Rattle.std.proofs.lemmas.List.{append-nil, get_or-take, get_or-drop, get_or_default, length-take-le, length-drop, take-append-drop}
use Rattle.std.proofs.lemmas.List.Elements.{filter-append}
use Rattle.ide_tasks.proofs.OverCall.{filter-all, filter-none}

below-apart : (x n : ℕ) → nat_lt x n ≡ true → nat_eq x n ≡ false
below-apart x n h = grind (arith, nat_tests, h)

past-apart : (x n : ℕ) → nat_le x n ≡ false → nat_eq x n ≡ false
past-apart x n h = grind (arith, nat_tests, h)

between : (x n : ℕ) → nat_lt x n ≡ false → nat_le x n ≡ true → nat_eq x n ≡ true
between x n g h = grind (arith, nat_tests, g, h)

lower : (x n : ℕ) → nat_lt x n ≡ true → x < n
lower x n h = grind (arith, nat_tests, h)

not-lower : (x n : ℕ) → nat_lt x n ≡ false → n ≤ x
not-lower x n h = grind (arith, nat_tests, h)

module _ {X : Type 0} (key : X → ℕ) (n : ℕ) where
  -- from the first that is not below the number to the last that is not past it
  pub run-is : (xs rest : List X) (first count : ℕ) → rest ≡ drop first xs → first ≤ length xs
      → AllWithin (λ x. nat_lt (key x) n ≡ true) xs 0 first → AllWithin (λ x. nat_lt (key x) n ≡ false) xs first (length xs)
      → count ≤ length rest → AllWithin (λ x. nat_le (key x) n ≡ true) rest 0 count → AllWithin (λ x. nat_le (key x) n ≡ false) rest count (length rest)
      → take count rest ≡ filter (λ x. nat_eq (key x) n) xs
  run-is xs rest first count is bound below at_least inside up_to past =
      let p = λ (x : X). nat_eq (key x) n in
      let long : length rest ≡ length xs - first = ap length is ∙ length-drop first xs in
      let front : filter p (take first xs) ≡ [] =
      filter-none p (take first xs) (λ k d within.
      let less : k < first = subst (λ (m : ℕ). k < m) (length-take-le first xs bound) within in
      ap p (get_or-take first xs k d less) ∙ below-apart (key (get_or xs k d)) n (below k d (omega arith) less)) in
      let middle : filter p (take count rest) ≡ take count rest =
      filter-all p (take count rest) (λ k d within.
      let less : k < count = subst (λ (m : ℕ). k < m) (length-take-le count rest inside) within in
      let there : get_or rest k d ≡ get_or xs (first + k) d = ap (λ ys. get_or ys k d) is ∙ get_or-drop first xs k d in
      ap p (get_or-take count rest k d less)
      ∙ between (key (get_or rest k d)) n (ap (λ x. nat_lt (key x) n) there ∙ at_least (first + k) d (omega arith) (omega (arith, long, less, inside))) (up_to k d (omega arith) less)) in
      let end : filter p (drop count rest) ≡ [] =
      filter-none p (drop count rest) (λ k d within.
      let less : k < length rest - count = subst (λ (m : ℕ). k < m) (length-drop count rest) within in
      ap p (get_or-drop count rest k d) ∙ past-apart (key (get_or rest (count + k) d)) n (past (count + k) d (omega arith) (omega (arith, less)))) in
      sym (
      ap (filter p) (sym (take-append-drop first xs))
      ∙ (filter-append p (take first xs) (drop first xs)
      ∙ (ap (λ ys. ys ++ filter p (drop first xs)) front
      ∙ (ap (filter p) (sym is ∙ sym (take-append-drop count rest))
      ∙ (filter-append p (take count rest) (drop count rest)
      ∙ (ap (λ ys. filter p (take count rest) ++ ys) end ∙ (append-nil (filter p (take count rest)) ∙ middle))))))
      )

  -- where the first that is not below the number is another, none is
  pub none-there : (xs : List X) (first : ℕ) → IsNonDecreasingBy key xs → AllWithin (λ x. nat_lt (key x) n ≡ true) xs 0 first → AllWithin (λ x. nat_lt (key x) n ≡ false) xs first (length xs)
      → ((x : X) → first < length xs → x ≡ get_or xs first x → key x ≢ n) → All (λ x. key x ≢ n) xs
  none-there xs first up below at_least other k d within =
      elim (cases_lt k first) [
        | inl less ↦ let lo = lower (key (get_or xs k d)) n (below k d (omega arith) less) in λ e. omega (arith, e, lo)
        | inr more ↦
            let here : first < length xs = omega (arith, more, within) in
            let x = get_or xs first d in
            let ne : key x ≢ n = other x here (get_or_default xs first d x here) in
            let least : n ≤ key x = not-lower (key x) n (at_least first d (omega arith) here) in
            let less : key x ≤ key (get_or xs k d) = up first k d more within in
            λ e. ne (omega (arith, e, least, less))
      ]

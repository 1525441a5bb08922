-- What a run of cells is, in words of its cells and of its keys: each in it has the number, and each other is as it was.
use Rattle.std.proofs.Common.{◌≡◌, ℕ, zero, suc, ◌+◌, ◌<◌, ◌≤◌, ◌∙◌, ap, arith, refl, sym, List, get_or, length, Bool, true, false, cond, ⊎_elim}
use Rattle.std.proofs.lemmas.Bool.{cases_lt}
use Rattle.std.proofs.lemmas.List.{get_or-set_other, length-set}
use Rattle.std.proofs.lemmas.Grind.{get_or-set_at}
use Rattle.ide_wire.specs.declared.key.Key.{Key}
use Rattle.ide_wire.specs.Key.{same_key, same_key_refl}
use Rattle.ide_pages.specs.CellNumbers.{with_run}
use Rattle.ide_pages.specs.Pages.{Numbers, Puts, PutsRun, no_key, number_at, one_more}

module _ {X : Type 0} (cells : List X) (first : ℕ) (number d : X) where
  run-long : (n : ℕ) → length (with_run cells first number n) ≡ length cells
  run-long zero = refl
  run-long (suc n) = length-set (with_run cells first number n) (first + n) number ∙ run-long n

  pub run-cell : (n k : ℕ) → k < n → first + n ≤ length cells → get_or (with_run cells first number n) (first + k) d ≡ number
  run-cell zero k less there = absurd (omega (arith, less))
  run-cell (suc n) k less there =
      ⊎_elim
      (λ before. get_or-set_other (with_run cells first number n) (first + n) (first + k) number d (λ e. omega (arith, before, e)) ∙ run-cell n k before (omega (arith, there)))
      (λ last. get_or-set_at (with_run cells first number n) (first + n) (first + k) number d (omega (arith, last, less)) (omega (arith, there, run-long n)))
      (cases_lt k n)

  pub run-elsewhere : (n k : ℕ) → ((j : ℕ) → j < n → k ≡ first + j → ⊥) → get_or (with_run cells first number n) k d ≡ get_or cells k d
  run-elsewhere zero k apart = refl
  run-elsewhere (suc n) k apart =
      get_or-set_other (with_run cells first number n) (first + n) k number d (apart n (omega arith)) ∙ run-elsewhere n k (λ j less. apart j (omega (arith, less)))

module _ (at : ℕ → Key) (number : ℕ) (old : Numbers) where
  pub run-others : (n : ℕ) (new : Numbers) (q : Key) → PutsRun at number old n new → ((k : ℕ) → k < n → same_key (at k) q ≡ false) → number_at new q ≡ number_at old q
  run-others zero new q no_key apart = refl
  run-others (suc n) new q (one_more {mid = mid} before puts) apart =
      puts.numbers q ∙ ap (λ b. cond b number (number_at mid q)) (apart n (omega arith)) ∙ run-others n mid q before (λ k less. apart k (omega (arith, less)))

  own-or : (own : Bool) (m : ℕ) → m ≡ number → cond own number m ≡ number
  own-or true m is = refl
  own-or false m is = is

  pub run-own : (n : ℕ) (new : Numbers) (k : ℕ) → PutsRun at number old n new → k < n → number_at new (at k) ≡ number
  run-own zero new k no_key less = absurd (omega (arith, less))
  run-own (suc n) new k (one_more {mid = mid} before puts) less =
      ⊎_elim
      (λ earlier. puts.numbers (at k) ∙ own-or (same_key (at n) (at k)) (number_at mid (at k)) (run-own n mid k before earlier))
      (λ last.
      let same : k ≡ n = omega (arith, last, less) in
      puts.numbers (at k) ∙ ap (λ b. cond b number (number_at mid (at k))) (ap (λ j. same_key (at n) (at j)) same ∙ same_key_refl (at n)))
      (cases_lt k n)

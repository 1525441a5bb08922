-- Marks that are kept in bits.
use Rattle.std.proofs.Common.{◌≡◌, ℕ, suc, ◌*◌, ◌<◌, ◌≤◌, ◌/◌, ◌%◌, ◌∙◌, refl, sym, ap, arith, List, [], ◌∷◌, get_or, length, Bool, true, false, cond, ⊎_elim}
use Rattle.std.specs.Prelude.{◌&&◌, ◌||◌, nat_eq, not, slice_set}
use Rattle.std.specs.Int.{bit_at}
use Rattle.std.specs.List.{sum_by}
use Rattle.std.proofs.lemmas.Bool.{and_parts, both_ways, cases_lt, eq-eqb, eqb-true, ne_eqb}
use Rattle.std.proofs.lemmas.List.{ext_get_or, get_or_past, get_or-set_other, length-set}
use Rattle.std.proofs.lemmas.List.FromFn.{get_or-map-range_with_len, length-map-range_with_len}
use Rattle.std.proofs.lemmas.List.Sums.{sum_by-cons}
use Rattle.std.proofs.lemmas.Grind.{get_or-set_at}
use Rattle.std.proofs.lemmas.Nat.Bits.{bit_at-zero}
use Rattle.ide_image.specs.declared.mark.Mark.{Mark}
use Rattle.ide_image.specs.declared.mark.Mark.TheVariants.{Settled, Left, Waiting, Held, HeldLeft}
use Rattle.ide_image.specs.Bits.{AreMarked, bit_in, mark_at, mark_of, marks_in}
use Rattle.ide_image.specs.Queue.{SameMarks, SetsMark, held_at, is_held, is_pending_mark, is_stacked, is_waiting_mark, mark_in, pending_at, stacked_at, waiting_at}

-- ---- bits
-- a slot behind the last word has no bit that is set
pub unset-past : (words : List ℕ) (n : ℕ) → 64 * length words ≤ n → bit_in words n ≡ false
unset-past words n past =
    let none : get_or words (n / 64) 0 ≡ 0 = get_or_past words (n / 64) 0 (omega (arith, past)) in
    ap (λ word. nat_eq (bit_at word (n % 64)) 1) none ∙ ap (λ bit. nat_eq bit 1) (bit_at-zero (n % 64))

-- one that is set stands in a word
pub set-within : (words : List ℕ) (n : ℕ) → bit_in words n ≡ true → n < 64 * length words
set-within words n is = ⊎_elim (λ less. less) (λ past. absurd (both_ways (bit_in words n) (unset-past words n past) is)) (cases_lt n (64 * length words))

-- ---- marks
-- how many there are
pub marks-length : (pending stacked held : List ℕ) → length (marks_in pending stacked held) ≡ 64 * length stacked
marks-length pending stacked held = length-map-range_with_len (mark_at pending stacked held) 0 (64 * length stacked)

-- the mark of a slot is that of its bits
pub mark-read : (pending stacked held : List ℕ) (n : ℕ) → AreMarked pending stacked → mark_in (marks_in pending stacked held) n ≡ mark_at pending stacked held n
mark-read pending stacked held n are =
    ⊎_elim
    (λ less. get_or-map-range_with_len (mark_at pending stacked held) 0 (64 * length stacked) n n Settled less (omega arith))
    (λ past.
    get_or_past (marks_in pending stacked held) n Settled (omega (arith, past, marks-length pending stacked held))
    ∙ sym (ap (λ b. mark_of b (bit_in stacked n) (bit_in held n)) (are.none n past) ∙ ap (λ b. mark_of false b (bit_in held n)) (unset-past stacked n past)))
    (cases_lt n (64 * length stacked))

-- what a mark says is what its bits say
pending-of : (pending stacked held : Bool) → is_pending_mark (mark_of pending stacked held) ≡ pending
pending-of false false held = refl
pending-of false true held = refl
pending-of true false false = refl
pending-of true false true = refl
pending-of true true false = refl
pending-of true true true = refl

held-of : (pending stacked held : Bool) → is_held (mark_of pending stacked held) ≡ (held && pending)
held-of false false false = refl
held-of false false true = refl
held-of false true false = refl
held-of false true true = refl
held-of true false false = refl
held-of true false true = refl
held-of true true false = refl
held-of true true true = refl

waiting-of : (pending stacked held : Bool) → is_waiting_mark (mark_of pending stacked held) ≡ (pending && not held)
waiting-of false false held = refl
waiting-of false true held = refl
waiting-of true false false = refl
waiting-of true false true = refl
waiting-of true true false = refl
waiting-of true true true = refl

stacked-of : (pending stacked held : Bool) → is_stacked (mark_of pending stacked held) ≡ (stacked || (pending && not held))
stacked-of false false held = refl
stacked-of false true held = refl
stacked-of true false false = refl
stacked-of true false true = refl
stacked-of true true false = refl
stacked-of true true true = refl

module _ (pending stacked held : List ℕ) (n : ℕ) (are : AreMarked pending stacked) where
  pub pending-read : pending_at (marks_in pending stacked held) n ≡ bit_in pending n
  pending-read = ap is_pending_mark (mark-read pending stacked held n are) ∙ pending-of (bit_in pending n) (bit_in stacked n) (bit_in held n)

  pub held-read : held_at (marks_in pending stacked held) n ≡ (bit_in held n && bit_in pending n)
  held-read = ap is_held (mark-read pending stacked held n are) ∙ held-of (bit_in pending n) (bit_in stacked n) (bit_in held n)

  pub waiting-read : waiting_at (marks_in pending stacked held) n ≡ (bit_in pending n && not (bit_in held n))
  waiting-read = ap is_waiting_mark (mark-read pending stacked held n are) ∙ waiting-of (bit_in pending n) (bit_in stacked n) (bit_in held n)

  pub stacked-read : stacked_at (marks_in pending stacked held) n ≡ (bit_in stacked n || (bit_in pending n && not (bit_in held n)))
  stacked-read = ap is_stacked (mark-read pending stacked held n are) ∙ stacked-of (bit_in pending n) (bit_in stacked n) (bit_in held n)

  -- a claimed slot has its bit among those of claimed ones
  pub held-within : held_at (marks_in pending stacked held) n ≡ true → n < 64 * length held
  held-within is = set-within held n (and_parts (bit_in held n) (bit_in pending n) (sym held-read ∙ is)).0

-- a mark has its bits
own-mark : (mark : Mark) → mark_of (is_pending_mark mark) (is_stacked mark) (is_held mark) ≡ mark
own-mark Settled = refl
own-mark Left = refl
own-mark Waiting = refl
own-mark Held = refl
own-mark HeldLeft = refl

module _ (pending stacked held pending2 stacked2 held2 : List ℕ) where
  -- a slot's bits are those of that mark, and each other one's are as they were
  module _ (slot : ℕ) (mark : Mark) (are : AreMarked pending stacked) (within : slot < 64 * length stacked) (long : length stacked2 ≡ length stacked)
      (sets : SetsMark slot (is_pending_mark mark) (bit_in pending) (bit_in pending2)) where
    pub marked-set : length pending2 ≡ length pending → AreMarked pending2 stacked2
    marked-set same = record {
      covered = omega (arith, same, long, are.covered);
      none = λ n past.
          sets n
          ∙ ap (λ own. cond own (is_pending_mark mark) (bit_in pending n)) (ne_eqb slot n (omega (arith, within, long, past)))
          ∙ are.none n (omega (arith, past, long));
    }

    pub marks-set : length pending2 ≡ length pending → SetsMark slot (is_stacked mark) (bit_in stacked) (bit_in stacked2)
        → SetsMark slot (is_held mark) (bit_in held) (bit_in held2) → marks_in pending2 stacked2 held2 ≡ slice_set (marks_in pending stacked held) slot mark
    marks-set same stacks holds =
        let marks = marks_in pending stacked held in
        let count = marks-length pending stacked held in
        let longer = marks-length pending2 stacked2 held2 in
        let after = length-set marks slot mark in
        ext_get_or Settled (marks_in pending2 stacked2 held2) (slice_set marks slot mark) (omega (arith, count, longer, after, long))
        (λ n less.
        mark-read pending2 stacked2 held2 n (marked-set same)
        ∙ ap (λ b. mark_of b (bit_in stacked2 n) (bit_in held2 n)) (sets n)
        ∙ ap (λ b. mark_of (cond (nat_eq slot n) (is_pending_mark mark) (bit_in pending n)) b (bit_in held2 n)) (stacks n)
        ∙ ap (mark_of (cond (nat_eq slot n) (is_pending_mark mark) (bit_in pending n)) (cond (nat_eq slot n) (is_stacked mark) (bit_in stacked n))) (holds n)
        ∙ elim (nat_eq slot n) as (λ own. nat_eq slot n ≡ own → mark_of (cond own (is_pending_mark mark) (bit_in pending n)) (cond own (is_stacked mark) (bit_in stacked n)) (cond own (is_held mark) (bit_in held n)) ≡ mark_in (slice_set marks slot mark) n) [
          | true ↦ λ one. own-mark mark ∙ sym (get_or-set_at marks slot n mark Settled (sym (eqb-true slot n one)) (omega (arith, within, count)))
          | false ↦ λ other. sym (mark-read pending stacked held n are) ∙ sym (get_or-set_other marks slot n mark Settled (λ e. both_ways (nat_eq slot n) other (eq-eqb slot n (sym e))))
        ] refl)

  -- there are more marks, and each bit is as it was
  module _ (are : AreMarked pending stacked) (sames : SameMarks (bit_in pending) (bit_in pending2)) where
    pub marked-cover : length stacked2 ≤ length pending2 → length stacked ≤ length stacked2 → AreMarked pending2 stacked2
    marked-cover covered longer = record {
      covered = covered;
      none = λ n past. sames n ∙ are.none n (omega (arith, past, longer));
    }

    pub marks-cover : AreMarked pending2 stacked2 → SameMarks (bit_in stacked) (bit_in stacked2) → (n : ℕ) → mark_in (marks_in pending2 stacked2 held) n ≡ mark_in (marks_in pending stacked held) n
    marks-cover after stacks n =
        mark-read pending2 stacked2 held n after
        ∙ ap (λ b. mark_of b (bit_in stacked2 n) (bit_in held n)) (sames n)
        ∙ ap (λ b. mark_of (bit_in pending n) b (bit_in held n)) (stacks n)
        ∙ sym (mark-read pending stacked held n are)

-- the marks are the same where each bit is
pub marks-same : (pending stacked held held2 : List ℕ) → AreMarked pending stacked → SameMarks (bit_in held) (bit_in held2) → marks_in pending stacked held2 ≡ marks_in pending stacked held
marks-same pending stacked held held2 are same =
    ext_get_or Settled (marks_in pending stacked held2) (marks_in pending stacked held) (marks-length pending stacked held2 ∙ sym (marks-length pending stacked held))
    (λ n less.
    mark-read pending stacked held2 n are ∙ ap (mark_of (bit_in pending n) (bit_in stacked n)) (same n) ∙ sym (mark-read pending stacked held n are))

-- a list that reads as another has the sums of that, where what neither has adds nothing
module _ {X : Type 0} (f : X → ℕ) (d : X) (none : f d ≡ 0) where
  sum-none : (xs : List X) → ((n : ℕ) → get_or xs n d ≡ d) → sum_by f xs ≡ 0
  sum-none [] reads = refl
  sum-none (x ∷ xs) reads =
      let here : f x ≡ 0 = ap f (reads 0) ∙ none in
      let rest = sum-none xs (λ n. reads (suc n)) in
      omega (arith, here, rest, sum_by-cons f x xs)

  pub sum-same : (xs ys : List X) → ((n : ℕ) → get_or ys n d ≡ get_or xs n d) → sum_by f ys ≡ sum_by f xs
  sum-same [] ys same = sum-none ys same
  sum-same (x ∷ xs) [] same = sym (sum-none (x ∷ xs) (λ n. sym (same n)))
  sum-same (x ∷ xs) (y ∷ ys) same =
      let here : f y ≡ f x = ap f (same 0) in
      let rest = sum-same xs ys (λ n. same (suc n)) in
      omega (arith, here, rest, sum_by-cons f x xs, sum_by-cons f y ys)

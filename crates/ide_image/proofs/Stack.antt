-- Slots on the stack of those that wait, and those that are taken off it.
use Rattle.std.proofs.Common.{◌≡◌, ℕ, zero, suc, ◌+◌, ◌<◌, ◌≤◌, ◌++◌, refl, sym, ap, ◌∙◌, arith, List, [], ◌∷◌, get_or, length, Bool, true, false, cond, Some, ⊎_elim}
use Rattle.std.specs.Prelude.{nat_eq, slice_get, slice_set}
use Rattle.std.specs.List.{count_by, sum_by, swap_remove}
use Rattle.std.proofs.lemmas.Bool.{both_ways, cases_Bool, cases_eq, eq-eqb, eqb-true, ne_eqb}
use Rattle.std.proofs.lemmas.Grind.{common_steps}
use Rattle.std.proofs.lemmas.List.Sums.{count_by-le-length, get_or-le-sum_by, sum_by-set, sum_by-swap_remove, sum_by_push}
use Rattle.std.proofs.lemmas.List.{get_or-set_other, length-set}
use Rattle.std.proofs.lemmas.Option.{get_or_from_slice_get, slice_get_within}
use Rattle.ide_image.specs.declared.mark.Mark.{Mark}
use Rattle.ide_image.specs.declared.mark.Mark.TheVariants.{Settled, Left, Waiting, Held, HeldLeft}
use Rattle.ide_image.specs.Queue.{AreStacked, KeepsMarks, SetsMark, held_at, is_owed, is_pending_mark, is_stacked, is_waiting_mark, mark_in, one_if, owed_count, pending_at, pending_count, stacked_at, waiting_at}

-- ---- marks
-- a slot whose mark is not that of a settled one has a mark of its own
mark-there : (f : Mark → Bool) → f Settled ≡ false → (marks : List Mark) (slot : ℕ) → f (mark_in marks slot) ≡ true → slot < length marks
mark-there f none [] slot is = absurd (cc (none, is))
mark-there f none (m ∷ ms) zero is = omega arith
mark-there f none (m ∷ ms) (suc slot) is = let less = mark-there f none ms slot is in omega (arith, less)

pub pending-there : (marks : List Mark) (slot : ℕ) → is_pending_mark (mark_in marks slot) ≡ true → slot < length marks
pending-there marks slot is = mark-there is_pending_mark refl marks slot is

-- there are no more of one kind than marks
pub owed-few : (marks : List Mark) → owed_count marks ≤ length marks
owed-few marks = count_by-le-length is_owed marks

pub pending-few : (marks : List Mark) → pending_count marks ≤ length marks
pending-few marks = count_by-le-length is_pending_mark marks

-- a slot that is settled is pending no longer, nor claimed, nor on the stack
pub pending-settled : (marks : List Mark) (slot : ℕ) → slot < length marks → SetsMark slot false (pending_at marks) (pending_at (slice_set marks slot Settled))
pending-settled marks slot within n = grind (arith, common_steps)

pub held-settled : (marks : List Mark) (slot : ℕ) → slot < length marks → SetsMark slot false (held_at marks) (held_at (slice_set marks slot Settled))
held-settled marks slot within n = grind (arith, common_steps)

pub stacked-settled : (marks : List Mark) (slot : ℕ) → slot < length marks → SetsMark slot false (stacked_at marks) (stacked_at (slice_set marks slot Settled))
stacked-settled marks slot within n = grind (arith, common_steps)

-- what stays in each of two steps stays in both
pub keeps-both : (old mid new : List Mark) → KeepsMarks old mid → KeepsMarks mid new → KeepsMarks old new
keeps-both old mid new first second = record {
  pending = λ n. second.pending n ∙ first.pending n;
  held = λ n. second.held n ∙ first.held n;
  count = second.count ∙ first.count;
  covered = second.covered ∙ first.covered;
}

-- what sums over the marks a slot that waits adds is there still once another one, which was settled, waits in its place
waiting-is : (mark : Mark) → is_waiting_mark mark ≡ true → mark ≡ Waiting
waiting-is Settled is = absurd (cc (is))
waiting-is Left is = absurd (cc (is))
waiting-is Waiting is = refl
waiting-is Held is = absurd (cc (is))
waiting-is HeldLeft is = absurd (cc (is))

settled-still : (marks : List Mark) (from to : ℕ) → mark_in marks to ≡ Settled → mark_in (slice_set marks from Settled) to ≡ Settled
settled-still marks from to is =
    ⊎_elim (λ e. grind (arith, common_steps)) (λ apart. get_or-set_other marks from to Settled Settled (λ e. apart (sym e)) ∙ is) (cases_eq from to)

pub sum-moved : (f : Mark → ℕ) → f Settled ≡ 0 → (marks : List Mark) (from to : ℕ) → waiting_at marks from ≡ true → mark_in marks to ≡ Settled → to < length marks
    → sum_by f (slice_set (slice_set marks from Settled) to Waiting) ≡ sum_by f marks
sum-moved f none marks from to waits settled there =
    let within = mark-there is_waiting_mark refl marks from waits in
    let out = sum_by-set f marks from Settled Settled within in
    let put = sum_by-set f (slice_set marks from Settled) to Waiting Settled (omega (arith, there, length-set marks from Settled)) in
    let was : f (mark_in marks from) ≡ f Waiting = ap f (waiting-is (mark_in marks from) waits) in
    let free : f (mark_in (slice_set marks from Settled) to) ≡ 0 = ap f (settled-still marks from to settled) ∙ none in
    omega (arith, out, put, was, free, none)

-- ---- the stack
some-one : (b : Bool) → 1 ≤ one_if b → b ≡ true
some-one true some = refl
some-one false some = absurd (omega (arith, some))

-- a slot that stands on the stack has a mark that says so
pub stacked-is : (marks : List Mark) (stack : List ℕ) (position slot : ℕ) → AreStacked marks stack → slice_get stack position ≡ Some slot
    → stacked_at marks slot ≡ true
stacked-is marks stack position slot w at =
    let within = slice_get_within stack position slot at in
    let read : get_or stack position 0 ≡ slot = get_or_from_slice_get stack position slot 0 at in
    let one : one_if (nat_eq (get_or stack position 0) slot) ≡ 1 = ap one_if (eq-eqb (get_or stack position 0) slot read) in
    let least = get_or-le-sum_by (λ s. one_if (nat_eq s slot)) stack position 0 within in
    some-one (stacked_at marks slot) (omega (arith, one, least, w slot))

pub stacked-there : (marks : List Mark) (stack : List ℕ) (position slot : ℕ) → AreStacked marks stack → slice_get stack position ≡ Some slot
    → slot < length marks
stacked-there marks stack position slot w at = mark-there is_stacked refl marks slot (stacked-is marks stack position slot w at)

-- how often each slot stands there once one that stood there is taken off
fewer-times : (slot n times : ℕ) (on : ℕ → Bool) → on slot ≡ true → times + one_if (nat_eq slot n) ≡ one_if (on n)
    → times ≡ one_if (cond (nat_eq slot n) false (on n))
fewer-times slot n times on stood is =
    ⊎_elim
    (λ e.
    let yes = eq-eqb slot n e in
    let one : one_if (on n) ≡ 1 = ap one_if (ap on (sym e) ∙ stood) in
    let own : one_if (nat_eq slot n) ≡ 1 = ap one_if yes in
    let all : one_if (cond (nat_eq slot n) false (on n)) ≡ 0 = ap (λ b. one_if (cond b false (on n))) yes in
    omega (arith, is, one, own, all))
    (λ ne.
    let no = ne_eqb slot n ne in
    let none : one_if (nat_eq slot n) ≡ 0 = ap one_if no in
    let all : one_if (cond (nat_eq slot n) false (on n)) ≡ one_if (on n) = ap (λ b. one_if (cond b false (on n))) no in
    omega (arith, is, none, all))
    (cases_eq slot n)

-- marks and stack agree once a slot is taken off, and its mark says so
pub stacked-fewer : (marks after : List Mark) (stack left : List ℕ) (slot : ℕ) → AreStacked marks stack → stacked_at marks slot ≡ true
    → ((n : ℕ) → count_by (λ s. nat_eq s n) left + one_if (nat_eq slot n) ≡ count_by (λ s. nat_eq s n) stack)
    → SetsMark slot false (stacked_at marks) (stacked_at after) → AreStacked after left
stacked-fewer marks after stack left slot w stood counts sets n =
    fewer-times slot n (count_by (λ s. nat_eq s n) left) (stacked_at marks) stood (counts n ∙ w n)
    ∙ sym (ap one_if (sets n))

-- one is taken off where it stands, and the top one has its place then
pub swapped-times : (stack : List ℕ) (position slot d : ℕ) → slice_get stack position ≡ Some slot
    → (n : ℕ) → count_by (λ s. nat_eq s n) (swap_remove stack position d) + one_if (nat_eq slot n) ≡ count_by (λ s. nat_eq s n) stack
swapped-times stack position slot d at n =
    let sums = sum_by-swap_remove (λ s. one_if (nat_eq s n)) stack position d (slice_get_within stack position slot at) in
    let read : one_if (nat_eq (get_or stack position d) n) ≡ one_if (nat_eq slot n) = ap (λ s. one_if (nat_eq s n)) (get_or_from_slice_get stack position slot d at) in
    omega (arith, sums, read)

-- or it is the top one
pub popped-times : (stack left : List ℕ) (slot : ℕ) → stack ≡ left ++ slot ∷ []
    → (n : ℕ) → count_by (λ s. nat_eq s n) left + one_if (nat_eq slot n) ≡ count_by (λ s. nat_eq s n) stack
popped-times stack left slot is n = sym (sum_by_push (λ s. one_if (nat_eq s n)) left slot) ∙ sym (ap (count_by (λ s. nat_eq s n)) is)

moved-step : (times was : ℕ) (own other on : Bool) → was ≡ one_if on → times + one_if other ≡ was + one_if own → (own ≡ true → on ≡ false) → (own ≡ true → other ≡ false)
    → (other ≡ true → on ≡ true) → times ≡ one_if (cond own true (cond other false on))
moved-step times was true other on is counts off apart stood =
    let none : one_if on ≡ 0 = ap one_if (off refl) in
    let no : one_if other ≡ 0 = ap one_if (apart refl) in
    omega (arith, is, counts, none, no)
moved-step times was false true on is counts off apart stood =
    let one : one_if on ≡ 1 = ap one_if (stood refl) in
    omega (arith, is, counts, one)
moved-step times was false false on is counts off apart stood = omega (arith, is, counts)

-- marks and stack agree once one slot is written over another, and their marks say so
pub stacked-moved : (marks after : List Mark) (stack : List ℕ) (position from to : ℕ) → AreStacked marks stack → slice_get stack position ≡ Some from
    → stacked_at marks to ≡ false → SetsMark to true (λ n. cond (nat_eq from n) false (stacked_at marks n)) (stacked_at after)
    → AreStacked after (slice_set stack position to)
stacked-moved marks after stack position from to w at off sets n =
    let on = stacked-is marks stack position from w at in
    let sums = sum_by-set (λ s. one_if (nat_eq s n)) stack position to 0 (slice_get_within stack position from at) in
    let read : one_if (nat_eq (get_or stack position 0) n) ≡ one_if (nat_eq from n) = ap (λ s. one_if (nat_eq s n)) (get_or_from_slice_get stack position from 0 at) in
    let both = ap (λ k. count_by (λ s. nat_eq s n) (slice_set stack position to) + k) (sym read) ∙ sums in
    let out : nat_eq to n ≡ true → stacked_at marks n ≡ false = λ own. ap (stacked_at marks) (sym (eqb-true to n own)) ∙ off in
    let stood : nat_eq from n ≡ true → stacked_at marks n ≡ true = λ other. ap (stacked_at marks) (sym (eqb-true from n other)) ∙ on in
    moved-step (count_by (λ s. nat_eq s n) (slice_set stack position to)) (count_by (λ s. nat_eq s n) stack) (nat_eq to n) (nat_eq from n) (stacked_at marks n) (w n) both
    out
    (λ own. ⊎_elim (λ other. absurd (both_ways (stacked_at marks n) (out own) (stood other))) (λ no. no) (cases_Bool (nat_eq from n)))
    stood
    ∙ sym (ap one_if (sets n))

-- What contracts say of the bits that slots' marks are kept in.
use Rattle.std.specs.Prelude.{◌≡◌, ℕ, ◌*◌, ◌/◌, ◌%◌, ◌≤◌, Bool, true, false, List, length, map, nat_eq, slice_set}
use Rattle.std.specs.Int.{bit_at}
use Rattle.std.specs.List.{range_with_len, slice_index_or}
use Rattle.ide_image.specs.declared.mark.Mark.{Mark}
use Rattle.ide_image.specs.declared.mark.Mark.TheVariants.{Settled, Left, Waiting, Held, HeldLeft}

-- whether the bit of a slot is set, of which 64 stand in a word
abbrev pub bit_in : List ℕ → ℕ → Bool
bit_in words n = nat_eq (bit_at (slice_index_or words (n / 64) 0) (n % 64)) 1

-- the mark of a slot that is pending or not, set down as one on the stack or not, and claimed or not
abbrev pub mark_of : (pending stacked held : Bool) → Mark
mark_of false false held = Settled
mark_of false true held = Left
mark_of true stacked false = Waiting
mark_of true false true = Held
mark_of true true true = HeldLeft

-- the mark of a slot by its bits
abbrev pub mark_at : (pending stacked held : List ℕ) → ℕ → Mark
mark_at pending stacked held n = mark_of (bit_in pending n) (bit_in stacked n) (bit_in held n)

-- the marks of the first slots, as many as have a bit for the stack
abbrev pub marks_in : (pending stacked held : List ℕ) → List Mark
marks_in pending stacked held = map (mark_at pending stacked held) (range_with_len 0 (64 * length stacked))

-- the slot has the mark now, and each other one the mark that it had
abbrev pub MarksBits : (slot : ℕ) → Mark → (pending stacked held pending2 stacked2 held2 : List ℕ) → Type 0
MarksBits slot mark pending stacked held pending2 stacked2 held2 =
    marks_in pending2 stacked2 held2 ≡ slice_set (marks_in pending stacked held) slot mark

-- each slot that has a bit for the stack has one for what is pending, and no other one is pending
pub record AreMarked (pending stacked : List ℕ) : Type 0 where
  pub covered : length stacked ≤ length pending
  pub none : (n : ℕ) → 64 * length stacked ≤ n → bit_in pending n ≡ false

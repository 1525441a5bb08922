-- Notes of the jumps that a walk enters, one after the other.
use Rattle.std.proofs.Common.{◌≡◌, ℕ, zero, suc, ◌+◌, refl, sym, ap, subst, ◌∙◌, arith, List, [], Option, false, cond}
use Rattle.std.specs.Prelude.{nat_eq, unwrap_or}
use Rattle.std.specs.List.{IsDistinct}
use Rattle.std.specs.Map.{keys_of}
use Rattle.std.specs.Option.{is_some}
use Rattle.ide_wire.specs.declared.key.Key.{Key}
use Rattle.ide_wire.specs.declared.key.Key.TheVariants.{Jump}
use Rattle.ide_wire.specs.Key.{same_key}
use Rattle.ide_image.specs.declared.claim.Claim.{Claim}
use Rattle.ide_image.specs.declared.entry.Entry.{Entry}
use Rattle.ide_image.specs.ChangeLog.{ChangeLog, KeepsSlotsAt, MarksNoted, noted_at}
use Rattle.ide_image.specs.Changes.{absent_entry}
use Rattle.ide_image.specs.Indexed.{Indexed, place_of_key}
use Rattle.ide_image.specs.KeyedImage.{AreParts}
use Rattle.ide_image.specs.Notes.{noted, with_note}
use Rattle.ide_image.specs.Queue.{SlotMarks}
use Rattle.ide_image.specs.Walk.{AreListedFrom, AreNotesIn, StandBehind, StandFrom, jump_behind, with_entered}
use Rattle.ide_image.proofs.Agree.{at-index, note-silent, noted-with, once-with}
use Rattle.ide_image.proofs.Marked.{at-set, covers-set}

-- the key behind the node so many behind is one that is entered
pub behind-key : (node from to n : ℕ) → jump_behind node from to (suc n) ≡ Jump (node + 1 + n) from to
behind-key node from to n = let same : node + suc n ≡ node + 1 + n = omega arith in ap (λ m. Jump m from to) same

module _ {F : Type 0} where
  -- where no changes are noted, none are
  pub entered-silent : (list : Option (List (Key × Entry F))) (at : ℕ → Key) (n : ℕ) → is_some list ≡ false → list ≡ with_entered list at n
  entered-silent list at zero is = refl
  entered-silent list at (suc n) is = note-silent list (at (suc n)) absent_entry is ∙ ap (λ o. with_note o (at (suc n)) absent_entry) (entered-silent list at n is)

  -- one more is noted behind the others
  pub entered-more : (old now new : Option (List (Key × Entry F))) (at : ℕ → Key) (key : Key) (n : ℕ) → now ≡ with_entered old at n → at (suc n) ≡ key
      → new ≡ with_note now key absent_entry → new ≡ with_entered old at (n + 1)
  entered-more old now new at key n before is after =
      let more : suc n ≡ n + 1 = omega arith in
      after ∙ ap (λ o. with_note o key absent_entry) before ∙ ap (λ k. with_note (with_entered old at n) k absent_entry) (sym is)
      ∙ ap (with_entered old at) more

  -- a note of another key at another slot leaves a key noted where its slot is marked
  pub listed-beside : (changes after : ChangeLog F) (slot n : ℕ) (key q : Key) (entry : Entry F) → MarksNoted slot changes after
      → after.list ≡ with_note changes.list key entry → nat_eq slot n ≡ false → same_key key q ≡ false
      → noted_at changes n ≡ is_some (noted changes.list q) → noted_at after n ≡ is_some (noted after.list q)
  listed-beside changes after slot n key q entry sets notes apart other is =
      sets n ∙ ap (λ b. cond b (is_some changes.list) (noted_at changes n)) apart ∙ is
      ∙ sym (ap (λ list. is_some (noted list q)) notes ∙ noted-with changes.list key q entry
      ∙ ap (λ b. cond b (is_some changes.list) (is_some (noted changes.list q))) other)

  -- the notes agree with the places once the key of a slot is noted
  pub notes-more : (indexed : Indexed F) (changes after : ChangeLog F) (key : Key) (entry : Entry F) (index : ℕ) → index + 1 ≡ place_of_key indexed key
      → MarksNoted index changes after → after.list ≡ with_note changes.list key entry → KeepsSlotsAt index key changes after
      → AreNotesIn indexed changes → AreNotesIn indexed after
  notes-more indexed changes after key entry index stands sets notes slots w = record {
    unnoted = covers-set key indexed.cells index (is_some changes.list) (noted_at changes) (noted_at after) stands sets w.unnoted;
    listed = λ q.
        at-set key indexed.cells index (is_some changes.list) (noted_at changes) (noted_at after) stands sets q
        ∙ ap (λ b. cond (same_key key q) (is_some changes.list) b) (w.listed q)
        ∙ sym (ap (λ list. is_some (noted list q)) notes ∙ noted-with changes.list key q entry);
    once = subst (λ list. IsDistinct same_key (keys_of (unwrap_or list []))) (sym notes) (once-with changes.list key entry w.once);
    slotted = slots (place_of_key indexed) (sym stands) w.slotted;
  }

  -- keys that have these slots are noted where the slots are marked
  pub listed-from : (indexed : Indexed F) (changes : ChangeLog F) (first count : ℕ) (at : ℕ → Key) → AreNotesIn indexed changes → StandFrom first at count indexed
      → AreListedFrom first at count changes
  listed-from indexed changes first count at w stands n less =
      sym (at-index (noted_at changes) (place_of_key indexed (at (suc n))) (first + n) (stands n less)) ∙ w.listed (at (suc n))

module _ {F T : Type 0} (indexed : Indexed F) (marks : SlotMarks) (claims : List (Option (Claim T))) (changes : ChangeLog F)
    (w : AreParts indexed marks claims changes) where
  -- the notes of parts that agree do
  pub notes-in : AreNotesIn indexed changes
  notes-in = record { unnoted = w.unnoted; listed = w.listed; once = w.once; slotted = w.slotted }

  -- the parts agree with other notes that do
  pub whole-notes : (after : ChangeLog F) → AreNotesIn indexed after → AreParts indexed marks claims after
  whole-notes after notes = record {
    distinct = w.distinct;
    covered = w.covered;
    unnoted = notes.unnoted;
    present = w.present;
    taken = w.taken;
    marked = w.marked;
    held = w.held;
    listed = notes.listed;
    once = notes.once;
    slotted = notes.slotted;
  }

-- keys that stand behind a cell have the slots from the next one on
pub stands-from : {F : Type 0} (cell : ℕ) (at : ℕ → Key) (count : ℕ) (indexed : Indexed F) → StandBehind cell at count indexed → StandFrom (cell + 1) at count indexed
stands-from cell at count indexed stands n less =
    let here = stands (suc n) (omega (arith, less)) in
    let same : (cell + 1 + n) + 1 ≡ (cell + suc n) + 1 = omega arith in
    same ∙ here

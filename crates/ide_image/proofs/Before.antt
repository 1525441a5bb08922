-- What an image says once its parts grew, once a key was entered, and what a slot that waits says.
use Rattle.std.proofs.Common.{◌≡◌, ℕ, zero, suc, ◌+◌, ◌≤◌, refl, sym, ap, ◌∙◌, arith, List, [], ◌∷◌, length, Option, None, Some, Bool, true, false, cond}
use Rattle.std.specs.Prelude.{◌&&◌, ◌||◌, ◌↔◌, nat_eq, not, slice_get, unwrap_or}
use Rattle.std.specs.Option.{is_some, option_map}
use Rattle.std.proofs.lemmas.Bool.{both_ways, eqb-true}
use Rattle.std.specs.List.{IsDistinct, list_any}
use Rattle.std.specs.Map.{keys_of}
use Rattle.ide_image.proofs.Spots.{place-at}
use Rattle.ide_lattice.specs.Algebra.{EdgeAlgebra}
use Rattle.ide_wire.specs.declared.key.Key.{Key}
use Rattle.ide_wire.specs.Key.{same_key}
use Rattle.ide_image.specs.Spent.{Spends, spent, spent_by}
use Rattle.ide_image.specs.Tables.{CountsKey, Sets, Table, found, function_at, is_kept, lowered_by, place_in, with_entry}
use Rattle.ide_image.specs.declared.claim.Claim.{Claim}
use Rattle.ide_image.specs.Worklist.{ends, ends_key, is_claim_of, put_hand, with_done}
use Rattle.ide_image.specs.declared.entry.Entry.{Entry}
use Rattle.ide_image.specs.declared.mark.Mark.{Mark}
use Rattle.ide_image.specs.declared.mark.Mark.TheVariants.{Settled, Left, Waiting, Held, HeldLeft}
use Rattle.ide_image.specs.ChangeLog.{ChangeLog}
use Rattle.ide_image.specs.KeyedImage.{AreParts, Covers, SameParts, marked_at, entry_by, keys_where, pending_by_slot}
use Rattle.ide_image.specs.Indexed.{Indexed, entries_in, entry_in, function_of, place_of_key, table_of}
use Rattle.ide_image.specs.Notes.{ended_key, noted, with_note}
use Rattle.ide_image.specs.Queue.{SlotMarks, held_at, is_held, is_pending_mark, is_waiting_mark, mark_in, one_if, pending_at, pending_count, waiting_at}
use Rattle.ide_image.proofs.Agree.{at-more, claim-done, function-same, is-pending, pending-long, table-same}
use Rattle.ide_image.proofs.Shown.{count-shown, entry-at, found-shown, function-with, spent-shown}
use Rattle.ide_image.proofs.Marked.{at-same}
use Rattle.std.proofs.lemmas.Option.{same_Some}

-- a place that is marked is of a slot
pub at-some : (mark : ℕ → Bool) (place : ℕ) → marked_at mark place ≡ true → 1 ≤ place
at-some mark zero is = absurd (cc (is))
at-some mark (suc n) is = omega arith

-- a slot that waits is pending, and no hand has claimed it
waiting-open : (m : Mark) → is_waiting_mark m ≡ true → (is_pending_mark m ≡ true) × (is_held m ≡ false)
waiting-open Settled is = absurd (cc (is))
waiting-open Left is = absurd (cc (is))
waiting-open Waiting is = (refl, refl)
waiting-open Held is = absurd (cc (is))
waiting-open HeldLeft is = absurd (cc (is))

pub waiting-is : (marks : List Mark) (slot : ℕ) → waiting_at marks slot ≡ true → (pending_at marks slot ≡ true) × (held_at marks slot ≡ false)
waiting-is marks slot is = waiting-open (mark_in marks slot) is

-- and a pending slot that does not wait is claimed
open-held : (m : Mark) → is_waiting_mark m ≡ false → is_pending_mark m ≡ true → is_held m ≡ true
open-held Settled is also = absurd (cc (also))
open-held Left is also = absurd (cc (also))
open-held Waiting is also = absurd (cc (is))
open-held Held is also = refl
open-held HeldLeft is also = refl

pub held-is : (marks : List Mark) (slot : ℕ) → waiting_at marks slot ≡ false → pending_at marks slot ≡ true → held_at marks slot ≡ true
held-is marks slot = open-held (mark_in marks slot)

pub waits-is : (m : Mark) → is_pending_mark m ≡ true → is_held m ≡ false → is_waiting_mark m ≡ true
waits-is Settled is free = absurd (cc (is))
waits-is Left is free = absurd (cc (is))
waits-is Waiting is free = refl
waits-is Held is free = absurd (cc (free))
waits-is HeldLeft is free = absurd (cc (free))

-- a slot that a hand has claimed is pending
held-open : (m : Mark) → is_held m ≡ true → is_pending_mark m ≡ true
held-open Settled is = absurd (cc (is))
held-open Left is = absurd (cc (is))
held-open Waiting is = refl
held-open Held is = refl
held-open HeldLeft is = refl

pub at-open : (marks : List Mark) (place : ℕ) → marked_at (held_at marks) place ≡ true → marked_at (pending_at marks) place ≡ true
at-open marks zero is = is
at-open marks (suc n) is = held-open (mark_in marks n) is

-- the claim whose end takes the key out
pub ended-claim : {T : Type 0} (o : Option (Claim T)) (key : Key) → ended_key o ≡ Some key → (c : Claim T) × (o ≡ Some c) × (c.key ≡ key) × (c.lowered ≡ false)
ended-claim {T} None key is = absurd (cc (is))
ended-claim {T} (Some c) key is =
    elim c.lowered as (λ b. c.lowered ≡ b → cond b None (Some c.key) ≡ Some key → (d : Claim T) × (Some c ≡ Some d) × (d.key ≡ key) × (d.lowered ≡ false)) [
      | true ↦ λ low no. absurd (cc (no))
      | false ↦ λ high same. (c, refl, same_Some c.key key same, high)
    ] refl is

-- a claim whose end takes no key out
pub kept-claim : {T : Type 0} (o : Option (Claim T)) (q : Key) → ended_key o ≡ None → ends o q ≡ false
kept-claim None q is = refl
kept-claim (Some c) q is =
    elim c.lowered as (λ b. cond b None (Some c.key) ≡ None → (not b && same_key c.key q) ≡ false) [
      | true ↦ λ _. refl
      | false ↦ λ no. absurd (cc (no))
    ] is

pub kept-key : {T : Type 0} (o : Option (Claim T)) → ended_key o ≡ None → ends_key o ≡ false
kept-key None is = refl
kept-key (Some c) is =
    elim c.lowered as (λ b. cond b None (Some c.key) ≡ None → not b ≡ false) [
      | true ↦ λ _. refl
      | false ↦ λ no. absurd (cc (no))
    ] is

pub ended-ends : {T : Type 0} (o : Option (Claim T)) (key q : Key) → ended_key o ≡ Some key → ends o q ≡ same_key key q
ended-ends o key q is =
    let claim = ended-claim o key is in
    ap (λ c. ends c q) claim.1 ∙ ap (λ b. not b && same_key claim.0.key q) claim.3 ∙ ap (λ k. same_key k q) claim.2

pub ended-out : {T : Type 0} (o : Option (Claim T)) (key : Key) → ended_key o ≡ Some key → ends_key o ≡ true
ended-out o key is =
    let claim = ended-claim o key is in
    ap ends_key claim.1 ∙ ap not claim.3

pub not-cond : (a b : Bool) → cond a false b ≡ (not a && b)
not-cond true b = refl
not-cond false b = refl

-- a place whose slot is held, where each pending one is
pub at-held : (marks : List Mark) (place : ℕ) → ((n : ℕ) → waiting_at marks n ≡ false) → marked_at (pending_at marks) place ≡ true → marked_at (held_at marks) place ≡ true
at-held marks zero none is = is
at-held marks (suc n) none is = held-is marks n (none n) is

count-one : (a b : ℕ) (there : Bool) → a + one_if there ≡ b + 1 → a ≡ b + cond there 0 1
count-one a b true is = omega (arith, is)
count-one a b false is = omega (arith, is)

-- a list is empty where it has no length
pub quiet : {X : Type 0} (xs : List X) (n : ℕ) → n ≡ length xs → (n ≡ 0) ↔ (xs ≡ [])
quiet [] n is = (λ _. refl, λ _. is)
quiet (x ∷ xs) n is = (λ zero. absurd (omega (arith, is, zero)), λ none. absurd (cc (none)))

-- a claim whose parts are counted is of the key that it was of
pub claim-put-done : {T : Type 0} (claims : ℕ → Option (Claim T)) (hand count h : ℕ) (q : Key)
    → is_claim_of q (put_hand claims hand (with_done count (claims hand)) h) ≡ is_claim_of q (claims h)
claim-put-done claims hand count h q =
    elim (nat_eq hand h) as (λ b. nat_eq hand h ≡ b → is_claim_of q (cond b (with_done count (claims hand)) (claims h)) ≡ is_claim_of q (claims h)) [
      | true ↦ λ same. claim-done count q (claims hand) ∙ ap (λ j. is_claim_of q (claims j)) (eqb-true hand h same)
      | false ↦ λ other. refl
    ] refl

-- notes that begin anew hold nothing
pub anew-empty : {F : Type 0} (list : Option (List (Key × Entry F))) → unwrap_or {T = List (Key × Entry F)} (option_map (λ _. []) list) [] ≡ []
anew-empty None = refl
anew-empty (Some list) = refl

pub anew-none : {F : Type 0} (list : Option (List (Key × Entry F))) (key : Key) → is_some (noted {F = F} (option_map (λ _. []) list) key) ≡ false
anew-none None key = refl
anew-none (Some list) key = refl

-- whether the meet of what stands is kept
pub kept-is : {F L : Type 0} (B : EdgeAlgebra F L) (eq : F → F → Bool) (table : Table F) (key : Key) (f old new : F) (b : Bool)
    → old ≡ function_at B table key → new ≡ B.meet old f → eq new old ≡ b → is_kept eq B table key f ≡ b
kept-is B eq table key f old new b stands met same =
    let is : new ≡ lowered_by B table key f = met ∙ ap (λ g. B.meet g f) stands in
    sym (ap (λ g. eq g old) is ∙ ap (eq (lowered_by B table key f)) stands) ∙ same

-- one key more, unless it was there
abbrev new_if : Bool → ℕ
new_if there = cond there 0 1

module _ {F T : Type 0} (indexed grown : Indexed F) (marks more : SlotMarks) (claims : List (Option (Claim T))) (changes ready : ChangeLog F) (w : AreParts indexed marks claims changes) (same : SameParts indexed grown marks more changes ready) where
  pub pending-before : (q : Key) → pending_by_slot grown more q ≡ list_any (same_key q) (keys_where (pending_at marks.list) indexed.cells)
  pending-before q =
      at-same (pending_at marks.list) (pending_at more.list) (place_of_key grown q) same.pending
      ∙ at-more indexed grown same.cells (pending_at marks.list) w.covered q
      ∙ sym (is-pending indexed marks claims changes w q)

  pub function-before : (q : Key) → function_of grown.cells q ≡ found (table_of indexed.cells) q
  function-before q = function-same indexed grown same.cells q ∙ sym (found-shown indexed.cells q w.distinct)

  pub entry-before : (key : Key) → entry_by grown more key ≡ record { function = found (table_of indexed.cells) key; pending = list_any (same_key key) (keys_where (pending_at marks.list) indexed.cells) }
  entry-before key =
      let function = function-before key in
      let pending = pending-before key in
      cc (function, pending)

  pub note-before : (key : Key) (list : Option (List (Key × Entry F))) → list ≡ with_note ready.list key (entry_by grown more key)
      → list ≡ with_note changes.list key (record { function = found (table_of indexed.cells) key; pending = list_any (same_key key) (keys_where (pending_at marks.list) indexed.cells) })
  note-before key list is = is ∙ ap (λ l. with_note l key (entry_by grown more key)) same.list ∙ ap (with_note changes.list key) (entry-before key)

  shown-before : entries_in grown.cells ≡ entries_in indexed.cells
  shown-before = ap (λ (t : Table F). t.entries) (table-same indexed grown same.cells)

  -- how far entries fall, and how many they are, once a function is put
  pub spends-before : {L : Type 0} (B : EdgeAlgebra F L) (after : Indexed F) (key : Key) (f : F) → after.cells ≡ with_entry grown.cells key (Some f)
      → Spends B (table_of indexed.cells) (table_of after.cells) key f
  spends-before B after key f put =
      let put_there = ap (λ cells. spent B (entries_in cells)) put in
      let step = spent-shown B key f grown.cells in
      let before = ap (spent B) shown-before in
      let function = ap (spent_by B) (function-before key) in
      omega (arith, put_there, step, before, function)

  pub counts-before : (after : Indexed F) (key : Key) (f : F) → after.cells ≡ with_entry grown.cells key (Some f) → CountsKey (table_of indexed.cells) (table_of after.cells) key
  counts-before after key f put =
      let put_there = ap (λ cells. length (entries_in cells)) put in
      let step = count-shown key f grown.cells in
      let before = ap length shown-before in
      let function : new_if (is_some (function_of grown.cells key)) ≡ new_if (is_some (found (table_of indexed.cells) key)) = ap (λ o. new_if (is_some o)) (function-before key) in
      omega (arith, put_there, step, before, function)

  module _ (after : Indexed F) (marks_after : SlotMarks) (claims_after : List (Option (Claim T))) (changes_after : ChangeLog F) (key : Key) (v : AreParts after marks_after claims_after changes_after) where
    -- the function is what is found at the key, and every other entry stays
    pub sets-before : (f : F) → after.cells ≡ with_entry grown.cells key (Some f) → Sets (table_of indexed.cells) (table_of after.cells) key f
    sets-before f put = record {
      entries = λ q.
          found-shown after.cells q v.distinct ∙ ap (λ cells. function_of cells q) put ∙ function-with grown.cells key q f
          ∙ ap (cond (same_key key q) (Some f)) (function-before q);
    }

    pub pending-then : ((q : Key) → pending_by_slot after marks_after q ≡ (same_key key q || pending_by_slot grown more q))
        → (q : Key) → list_any (same_key q) (keys_where (pending_at marks_after.list) after.cells)
        ≡ (same_key key q || list_any (same_key q) (keys_where (pending_at marks.list) indexed.cells))
    pending-then entered q =
        is-pending after marks_after claims_after changes_after v q ∙ entered q ∙ ap (λ b. same_key key q || b) (pending-before q)

    pub pending-set : (b : Bool) → ((q : Key) → pending_by_slot after marks_after q ≡ cond (same_key key q) b (pending_by_slot grown more q))
        → (q : Key) → list_any (same_key q) (keys_where (pending_at marks_after.list) after.cells)
        ≡ cond (same_key key q) b (list_any (same_key q) (keys_where (pending_at marks.list) indexed.cells))
    pending-set b set q =
        is-pending after marks_after claims_after changes_after v q ∙ set q ∙ ap (cond (same_key key q) b) (pending-before q)

    pub count-then : pending_count more.list ≡ pending_count marks.list
        → pending_count marks_after.list + one_if (pending_by_slot grown more key) ≡ pending_count more.list + 1
        → length (keys_where (pending_at marks_after.list) after.cells)
        ≡ length (keys_where (pending_at marks.list) indexed.cells) + cond (list_any (same_key key) (keys_where (pending_at marks.list) indexed.cells)) 0 1
    count-then still counted =
        let here : one_if (pending_by_slot grown more key) ≡ one_if (list_any (same_key key) (keys_where (pending_at marks.list) indexed.cells)) = ap one_if (pending-before key) in
        let first = pending-long indexed marks claims changes w in
        let last = pending-long after marks_after claims_after changes_after v in
        count-one (length (keys_where (pending_at marks_after.list) after.cells)) (length (keys_where (pending_at marks.list) indexed.cells))
        (list_any (same_key key) (keys_where (pending_at marks.list) indexed.cells))
        (omega (arith, here, first, last, still, counted))

get_past : {X : Type 0} (xs : List X) (n : ℕ) → slice_get xs n ≡ None → length xs ≤ n
get_past [] n is = omega arith
get_past (x ∷ xs) zero is = absurd (cc (is))
get_past (x ∷ xs) (suc n) is = let rest = get_past xs n is in omega (arith, rest)

no-entry : {F : Type 0} (key : Key) (o : Option F) → is_some o ≡ true → option_map {U = Key × F} (λ f. (key, f)) o ≡ None → ⊥
no-entry key None has none = absurd (cc (has))
no-entry key (Some f) has none = absurd (cc (none))

-- the cell of a slot that is pending shows an entry
present-at : {F : Type 0} (marks : SlotMarks) (cells : List (Key × Option F)) → IsDistinct same_key (keys_of cells) → Covers (length cells) (pending_at marks.list)
    → ((key : Key) → marked_at (pending_at marks.list) (place_in key cells) ≡ true → is_some (function_of cells key) ≡ true)
    → (n : ℕ) (o : Option (Key × Option F)) → slice_get cells n ≡ o → pending_at marks.list n ≡ true → entry_in cells n ≡ None → ⊥
present-at marks cells apart covered present n None there is none =
    let past = get_past cells n there in
    both_ways (pending_at marks.list n) (covered n past) is
present-at marks cells apart covered present n (Some c) there is none =
    let place : place_in c.0 cells ≡ n + 1 = place-at cells n (Some c) (sym there) apart in
    let up : n + 1 ≡ suc n = omega arith in
    let has = present c.0 (ap (marked_at (pending_at marks.list)) (place ∙ up) ∙ is) in
    no-entry c.0 (function_of cells c.0) has (sym (entry-at c.0 cells n (place ∙ up)) ∙ none)

pub present-slot : {F T : Type 0} (indexed : Indexed F) (marks : SlotMarks) (claims : List (Option (Claim T))) (changes : ChangeLog F) → AreParts indexed marks claims changes
    → (n : ℕ) → pending_at marks.list n ≡ true → entry_in indexed.cells n ≡ None → ⊥
present-slot indexed marks claims changes w n is none =
    present-at marks indexed.cells w.distinct w.covered w.present n (slice_get indexed.cells n) refl is none

-- What is left to enter of a list of entries, before and after one of them.
use Rattle.std.proofs.Common.{◌≡◌, ℕ, zero, suc, ◌+◌, ◌<◌, ◌≤◌, ◌++◌, arith, length, ⊎_elim, refl, sym, ap, ◌∙◌, List, [], ◌∷◌, Option, None, Some, Bool, true, false, cond}
use Rattle.std.specs.Prelude.{◌||◌, nat_eq}
use Rattle.std.proofs.lemmas.Bool.{cases_eq, eq-eqb}
use Rattle.std.specs.List.{list_any}
use Rattle.std.specs.Map.{lookup}
use Rattle.std.specs.Option.{is_some}
use Rattle.ide_wire.specs.declared.key.Key.{Key}
use Rattle.ide_wire.specs.Key.{same_key, same_key_exact, same_key_symm}
use Rattle.ide_image.specs.declared.claim.Claim.{Claim}
use Rattle.ide_image.specs.Worklist.{claim_in, marked, put_hand}
use Rattle.ide_image.specs.declared.entry.Entry.{Entry}
use Rattle.ide_image.specs.Tables.{with_entry}
use Rattle.ide_image.proofs.Shown.{function-with}
use Rattle.ide_image.specs.Indexed.{Indexed, function_of}
use Rattle.ide_image.specs.Queue.{SlotMarks}
use Rattle.ide_image.specs.KeyedImage.{HasRoomFor, entry_by, marked_all, pending_by_slot}
use Rattle.ide_image.specs.ChangeLog.{ChangeLog}
use Rattle.ide_image.specs.Notes.{noted, noted_after, or_entry, with_note}

-- a test of the first key is one of the others, or of it
any-step : (a b c : Bool) → (b || (a || c)) ≡ ((a || b) || c)
any-step true true c = refl
any-step true false c = refl
any-step false b c = refl

pub pending-rest : (key q : Key) (keys : List Key) (now : Bool)
    → (list_any (same_key q) keys || (same_key key q || now)) ≡ (list_any (same_key q) (key ∷ keys) || now)
pending-rest key q keys now =
    any-step (same_key key q) (list_any (same_key q) keys) now ∙ ap (λ b. (b || list_any (same_key q) keys) || now) (same_key_symm key q)

pub marked-rest : {T : Type 0} (key : Key) (keys : List Key) (o : Option (Claim T)) → marked_all keys (marked key o) ≡ marked_all (key ∷ keys) o
marked-rest key keys None = refl
marked-rest {T} key keys (Some c) =
    elim (same_key c.key key) as (λ b. marked_all keys (cond b (Some (record c { lowered = true })) (Some c)) ≡ Some (record c { lowered = (b || list_any (same_key c.key) keys) || c.lowered })) [
      | true ↦ ap (λ (b : Bool). Some (record c { lowered = b })) (or-true (list_any (same_key c.key) keys))
      | false ↦ refl
    ]
  where
    or-true : (b : Bool) → (b || true) ≡ true
    or-true true = refl
    or-true false = refl

module _ {F : Type 0} where
  lookup-last : (list : List (Key × Entry F)) (key q : Key) (entry : Entry F) → same_key q key ≡ false
      → lookup (same_key q) (list ++ (key, entry) ∷ []) ≡ lookup (same_key q) list
  lookup-last [] key q entry other = ap (λ b. cond b (Some entry) None) other
  lookup-last (x ∷ xs) key q entry other = ap (λ o. cond (same_key q x.0) (Some x.1) o) (lookup-last xs key q entry other)

  lookup-new : (list : List (Key × Entry F)) (key q : Key) (entry : Entry F) → same_key q key ≡ true → is_some (lookup (same_key q) list) ≡ false
      → lookup (same_key q) (list ++ (key, entry) ∷ []) ≡ Some entry
  lookup-new [] key q entry same none = ap (λ b. cond b (Some entry) None) same
  lookup-new (x ∷ xs) key q entry same none =
      elim (same_key q x.0) as (λ b. is_some (cond b (Some x.1) (lookup (same_key q) xs)) ≡ false → cond b (Some x.1) (lookup (same_key q) (xs ++ (key, entry) ∷ [])) ≡ Some entry) [
        | true ↦ λ no. absurd (cc (no))
        | false ↦ λ rest. lookup-new xs key q entry same rest
      ] none

  or-some : (o : Option (Entry F)) (x y : Option (Entry F)) → is_some o ≡ true → or_entry o x ≡ or_entry o y
  or-some None x y is = absurd (cc (is))
  or-some (Some e) x y is = refl

  or-none : (o : Option (Entry F)) (x : Option (Entry F)) → is_some o ≡ false → or_entry o x ≡ x
  or-none None x is = refl
  or-none (Some e) x is = absurd (cc (is))

  -- of another key
  notes-other : (list : Option (List (Key × Entry F))) (key q : Key) (entry before after : Entry F) (later : Bool) → same_key q key ≡ false → after ≡ before
      → noted_after (with_note list key entry) later after q ≡ noted_after list later before q
  notes-other None key q entry before after later other same = refl
  notes-other (Some list) key q entry before after later other same =
      elim (is_some (lookup (same_key key) list)) as (λ b. or_entry (lookup (same_key q) (cond b list (list ++ (key, entry) ∷ []))) (cond later (Some after) None) ≡ or_entry (lookup (same_key q) list) (cond later (Some before) None)) [
        | true ↦ ap (λ e. or_entry (lookup (same_key q) list) (cond later (Some e) None)) same
        | false ↦ ap (λ o. or_entry o (cond later (Some after) None)) (lookup-last list key q entry other) ∙ ap (λ e. or_entry (lookup (same_key q) list) (cond later (Some e) None)) same
      ]

  -- of the key itself
  notes-own : (list : Option (List (Key × Entry F))) (key q : Key) (entry after : Entry F) (later : Bool) → same_key q key ≡ true → is_some (noted list key) ≡ is_some (noted list q)
      → noted_after (with_note list key entry) later after q ≡ noted_after list true entry q
  notes-own None key q entry after later same alike = refl
  notes-own (Some list) key q entry after later same alike =
      elim (is_some (lookup (same_key key) list)) as (λ b. is_some (lookup (same_key key) list) ≡ b
      → or_entry (lookup (same_key q) (cond b list (list ++ (key, entry) ∷ []))) (cond later (Some after) None) ≡ or_entry (lookup (same_key q) list) (Some entry)) [
        | true ↦ λ there. or-some (lookup (same_key q) list) (cond later (Some after) None) (Some entry) (sym alike ∙ there)
        | false ↦ λ none.
            let gone : is_some (lookup (same_key q) list) ≡ false = sym alike ∙ none in
            ap (λ o. or_entry o (cond later (Some after) None)) (lookup-new list key q entry same gone) ∙ sym (or-none (lookup (same_key q) list) (Some entry) gone)
      ] refl

  pub notes-rest : (list : Option (List (Key × Entry F))) (key q : Key) (keys : List Key) (entry before after : Entry F)
      → (same_key key q ≡ true → entry ≡ before) → (same_key key q ≡ false → after ≡ before)
      → noted_after (with_note list key entry) (list_any (same_key q) keys) after q ≡ noted_after list (list_any (same_key q) (key ∷ keys)) before q
  notes-rest list key q keys entry before after own other =
      elim (same_key key q) as (λ b. same_key key q ≡ b → noted_after (with_note list key entry) (list_any (same_key q) keys) after q ≡ noted_after list (b || list_any (same_key q) keys) before q) [
        | true ↦ λ same.
            notes-own list key q entry after (list_any (same_key q) keys) (same_key_symm q key ∙ same) (ap (λ k. is_some (noted list k)) (same_key_exact key q same))
            ∙ ap (λ e. noted_after list true e q) (own same)
        | false ↦ λ no. notes-other list key q entry before after (list_any (same_key q) keys) (same_key_symm q key ∙ no) (other no)
      ] refl
      ∙ ap (λ b. noted_after list (b || list_any (same_key q) keys) before q) (same_key_symm key q)

alone : {X : Type 0} (o : Option X) → or_entry o None ≡ o
alone None = refl
alone (Some e) = refl

-- ---- where nothing is left
pub marked-none : {T : Type 0} (o : Option (Claim T)) → marked_all [] o ≡ o
marked-none None = refl
marked-none (Some c) = refl

pub noted-none : {F : Type 0} (list : Option (List (Key × Entry F))) (entry : Entry F) (q : Key) → noted_after list false entry q ≡ noted list q
noted-none None entry q = refl
noted-none (Some list) entry q = alone (lookup (same_key q) list)

pub noting-with : {F : Type 0} (list : Option (List (Key × Entry F))) (key : Key) (entry : Entry F) → is_some (with_note list key entry) ≡ is_some list
noting-with None key entry = refl
noting-with (Some list) key entry = refl

-- the entry of another key stays once one is entered
module _ {F : Type 0} (indexed after : Indexed F) (marks marks_after : SlotMarks) (key : Key) (f : F)
    (entered : after.cells ≡ with_entry indexed.cells key (Some f))
    (pends : (q : Key) → pending_by_slot after marks_after q ≡ (same_key key q || pending_by_slot indexed marks q)) where
  pub entry-kept : (q : Key) → same_key key q ≡ false → entry_by after marks_after q ≡ entry_by indexed marks q
  entry-kept q other =
      let function : function_of after.cells q ≡ function_of indexed.cells q =
      ap (λ cells. function_of cells q) entered ∙ function-with indexed.cells key q f ∙ ap (λ b. cond b (Some f) (function_of indexed.cells q)) other in
      let pending : pending_by_slot after marks_after q ≡ pending_by_slot indexed marks q = pends q ∙ ap (λ b. b || pending_by_slot indexed marks q) other in
      cc (function, pending)

  pub entry-own : (q : Key) → same_key key q ≡ true → entry_by indexed marks key ≡ entry_by indexed marks q
  entry-own q same = ap (entry_by indexed marks) (same_key_exact key q same)

module _ {F : Type 0} where
  -- room for some is room for one
  pub room-one : (indexed : Indexed F) (marks : SlotMarks) (changes : ChangeLog F) (n : ℕ) → 1 ≤ n → HasRoomFor n n indexed marks changes → HasRoomFor 1 1 indexed marks changes
  room-one indexed marks changes n some room = record {
    functions = omega (arith, some, room.functions);
    marked = room.marked;
    stacked = omega (arith, some, room.stacked);
    notes = record {
      free = λ is. let free = room.notes.free is in omega (arith, some, free);
      stamped = room.notes.stamped;
    };
  }

-- a hand that has no claim has none once another's is gone, nor has that one
pub put-still : {T : Type 0} (claims : ℕ → Option (Claim T)) (hand h : ℕ) → claims h ≡ None → put_hand claims hand None h ≡ None
put-still claims hand h none =
    elim (nat_eq hand h) as (λ b. cond b None (claims h) ≡ None) [
      | true ↦ refl
      | false ↦ none
    ]

pub put-gone : {T : Type 0} (claims : ℕ → Option (Claim T)) (hand h : ℕ) → h < hand + 1 → (h < hand → claims h ≡ None) → put_hand claims hand None h ≡ None
put-gone claims hand h less before =
    ⊎_elim
    (λ same. ap (λ b. cond b None (claims h)) (eq-eqb hand h same))
    (λ other. put-still claims hand h (before (omega (arith, less, other))))
    (cases_eq hand h)

-- a hand behind the last place has no claim
pub past-none : {T : Type 0} (claims : List (Option (Claim T))) (h : ℕ) → length claims ≤ h → claim_in claims h ≡ None
past-none [] h more = refl
past-none (x ∷ xs) zero more = absurd (omega (arith, more))
past-none (x ∷ xs) (suc h) more = past-none xs h (omega (arith, more))

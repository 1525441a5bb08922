-- Each step keeps what the parts of an image agree on.
use Rattle.std.proofs.Common.{◌≡◌, ℕ, zero, suc, ◌+◌, ◌-◌, ◌≤◌, ◌++◌, refl, sym, ap, subst, ◌∙◌, arith, List, [], ◌∷◌, get_or, length, map, Option, None, Some, Bool, true, false, cond, ⊎_elim}
use Rattle.std.specs.Prelude.{◌||◌, ◌&&◌, Err, Ok, OnErr, Result, nat_eq, not, unwrap_or}
use Rattle.std.specs.List.{IsDistinct, list_any}
use Rattle.std.specs.Map.{keys_of, lookup}
use Rattle.std.specs.Option.{is_some}
use Rattle.std.proofs.lemmas.Bool.{cases_Bool, both_ways, eq-eqb, eqb-true}
use Rattle.std.proofs.lemmas.List.{append-nil, length-append}
use Rattle.ide_wire.specs.declared.key.Key.{Key}
use Rattle.ide_wire.specs.Key.{same_key, same_key_exact, same_key_refl, same_key_symm}
use Rattle.ide_image.specs.Tables.{place_in, with_entry}
use Rattle.ide_image.proofs.Places.{distinct-put, place-absent, put-last, stays-put}
use Rattle.ide_image.proofs.Shown.{function-more, function-with, shown-more}
use Rattle.ide_image.proofs.Firsts.{place-first}
use Rattle.ide_image.proofs.Widened.{widens-more}
use Rattle.ide_image.specs.declared.claim.Claim.{Claim}
use Rattle.ide_image.specs.Worklist.{AreHeld, claim_in, is_claim_of, marked, put_hand, with_done}
use Rattle.ide_image.proofs.Held.{IsOf, claimed_at, held_claimed, held_same}
use Rattle.ide_image.specs.declared.entry.Entry.{Entry}
use Rattle.ide_image.specs.ChangeLog.{AreSlotsOf, ChangeLog, noted_at}
use Rattle.ide_image.specs.KeyedImage.{AreParts, Covers, SameParts, marked_at, held_by_slot, image_by, keys_where, pending_by_slot}
use Rattle.ide_image.specs.Indexed.{HasDistinctKeys, HaveCells, Indexed, Widens, empty_cells, entries_in, function_of, place_of_key, table_of}
use Rattle.ide_image.specs.Notes.{noted, with_note}
use Rattle.ide_image.specs.Queue.{SlotMarks, SameMarks, SetsMark, held_at, is_held, is_pending_mark, mark_in, pending_at, pending_count}
use Rattle.ide_image.specs.declared.mark.Mark.{Mark}
use Rattle.ide_image.specs.declared.mark.Mark.TheVariants.{Settled, Left, Waiting, Held, HeldLeft}
use Rattle.ide_image.proofs.Marked.{any-where, at-longer, at-put, at-same, at-set, count-where, covers-put, covers-same, covers-set, keys-longer, keys-same}

-- a slot that is not pending is of no claim
unheld-mark : (m : Mark) → is_pending_mark m ≡ false → is_held m ≡ false
unheld-mark Settled is = refl
unheld-mark Left is = refl
unheld-mark Waiting is = refl
unheld-mark Held is = absurd (cc (is))
unheld-mark HeldLeft is = absurd (cc (is))

pub unheld : (marks : SlotMarks) (n : ℕ) → pending_at marks.list n ≡ false → held_at marks.list n ≡ false
unheld marks n is = unheld-mark (mark_in marks.list n) is

module _ {F : Type 0} where
  last-noted : (list : List (Key × Entry F)) (key q : Key) (entry : Entry F)
      → is_some (lookup (same_key q) (list ++ (key, entry) ∷ [])) ≡ cond (same_key key q) true (is_some (lookup (same_key q) list))
  last-noted [] key q entry = ap (λ b. is_some (cond b (Some entry) None)) (same_key_symm q key) ∙ by-case (same_key key q)
    where
      by-case : (b : Bool) → is_some (cond b (Some entry) None) ≡ cond b true false
      by-case true = refl
      by-case false = refl
  last-noted (x ∷ xs) key q entry =
      elim (same_key q x.0) as (λ b. is_some (cond b (Some x.1) (lookup (same_key q) (xs ++ (key, entry) ∷ []))) ≡ cond (same_key key q) true (is_some (cond b (Some x.1) (lookup (same_key q) xs)))) [
        | true ↦ sym (always (same_key key q))
        | false ↦ last-noted xs key q entry
      ]
    where
      always : (b : Bool) → cond b true true ≡ true
      always true = refl
      always false = refl

  -- which keys are noted, once one is
  pub noted-with : (list : Option (List (Key × Entry F))) (key q : Key) (entry : Entry F)
      → is_some (noted (with_note list key entry) q) ≡ cond (same_key key q) (is_some list) (is_some (noted list q))
  noted-with None key q entry = sym (never (same_key key q))
    where
      never : (b : Bool) → cond b false false ≡ false
      never true = refl
      never false = refl
  noted-with (Some list) key q entry =
      elim (is_some (lookup (same_key key) list)) as (λ b. is_some (lookup (same_key key) list) ≡ b
      → is_some (lookup (same_key q) (cond b list (list ++ (key, entry) ∷ []))) ≡ cond (same_key key q) true (is_some (lookup (same_key q) list))) [
        | true ↦ λ there. sym (already (same_key key q) refl there)
        | false ↦ λ none. last-noted list key q entry
      ] refl
    where
      already : (own : Bool) → same_key key q ≡ own → is_some (lookup (same_key key) list) ≡ true → cond own true (is_some (lookup (same_key q) list)) ≡ is_some (lookup (same_key q) list)
      already true same there = sym (ap (λ k. is_some (lookup (same_key k) list)) (sym (same_key_exact key q same)) ∙ there)
      already false other there = refl

  -- where no changes are noted, none is
  pub note-silent : (list : Option (List (Key × Entry F))) (key : Key) (entry : Entry F) → is_some list ≡ false → list ≡ with_note list key entry
  note-silent None key entry is = refl
  note-silent (Some list) key entry is = absurd (cc (is))

  -- nor where the key is noted
  pub note-idle : (list : Option (List (Key × Entry F))) (key : Key) (entry : Entry F) → (is_some list && not (is_some (noted list key))) ≡ false
      → list ≡ with_note list key entry
  note-idle None key entry is = refl
  note-idle (Some list) key entry is =
      elim (is_some (lookup (same_key key) list)) as (λ b. not b ≡ false → Some list ≡ Some (cond b list (list ++ (key, entry) ∷ []))) [
        | true ↦ λ _. refl
        | false ↦ λ no. absurd (cc (no))
      ] is

  pub noted-idle : (list : Option (List (Key × Entry F))) (key : Key) → (is_some list && not (is_some (noted list key))) ≡ false
      → is_some (noted list key) ≡ is_some list
  noted-idle None key is = refl
  noted-idle (Some list) key is =
      elim (is_some (lookup (same_key key) list)) as (λ b. not b ≡ false → b ≡ true) [
        | true ↦ λ _. refl
        | false ↦ λ no. absurd (cc (no))
      ] is

  unfound : (o : Option (Entry F)) → is_some o ≡ false → o ≡ None
  unfound None none = refl
  unfound (Some e) none = absurd (cc (none))

  -- each key is noted once
  pub once-with : (list : Option (List (Key × Entry F))) (key : Key) (entry : Entry F)
      → IsDistinct same_key (keys_of (unwrap_or list [])) → IsDistinct same_key (keys_of (unwrap_or (with_note list key entry) []))
  once-with None key entry once = once
  once-with (Some list) key entry once =
      elim (is_some (lookup (same_key key) list)) as (λ b. is_some (lookup (same_key key) list) ≡ b → IsDistinct same_key (keys_of (cond b list (list ++ (key, entry) ∷ [])))) [
        | true ↦ λ there. once
        | false ↦ λ none. subst (λ (xs : List (Key × Entry F)). IsDistinct same_key (keys_of xs)) (put-last key list entry (place-absent key list (unfound (lookup (same_key key) list) none))) (distinct-put key list entry once)
      ] refl

-- a claim that is marked is of the key that it was of, and one of another key stays
pub claim-marked : {T : Type 0} (key q : Key) (o : Option (Claim T)) → is_claim_of q (marked key o) ≡ is_claim_of q o
claim-marked key q None = refl
claim-marked key q (Some claim) =
    elim (same_key claim.key key) as (λ b. is_claim_of q (cond b (Some (record claim { lowered = true })) (Some claim)) ≡ same_key claim.key q) [
      | true ↦ refl
      | false ↦ refl
    ]

pub unmarked : {T : Type 0} (key : Key) (o : Option (Claim T)) → is_claim_of key o ≡ false → o ≡ marked key o
unmarked key None is = refl
unmarked key (Some claim) is = sym (ap (λ b. cond b (Some (record claim { lowered = true })) (Some claim)) is)

pub claim-done : {T : Type 0} (count : ℕ) (q : Key) (o : Option (Claim T)) → is_claim_of q (with_done count o) ≡ is_claim_of q o
claim-done count q None = refl
claim-done count q (Some claim) = refl

pub or-cond : (a b : Bool) → cond a true b ≡ (a || b)
or-cond true b = refl
or-cond false b = refl

-- a claim of the key is some claim
pub claim-of : {T : Type 0} (q : Key) (o : Option (Claim T)) → is_claim_of q o ≡ true → (d : Claim T) × (o ≡ Some d) × (same_key d.key q ≡ true)
claim-of q None is = absurd (cc (is))
claim-of q (Some d) is = (d, refl, is)

or-true : (b : Bool) → (b || true) ≡ true
or-true true = refl
or-true false = refl

true-or : (b : Bool) → cond b true true ≡ true
true-or true = refl
true-or false = refl

-- a claim that a hand has is one of the list
pub any-at : {T : Type 0} (q : Key) (claims : List (Option (Claim T))) (h : ℕ) → is_claim_of q (claim_in claims h) ≡ true → list_any (is_claim_of q) claims ≡ true
any-at q [] h is = absurd (cc (is))
any-at q (x ∷ xs) zero is = ap (λ b. b || list_any (is_claim_of q) xs) is
any-at q (x ∷ xs) (suc h) is = ap (λ b. is_claim_of q x || b) (any-at q xs h is) ∙ or-true (is_claim_of q x)

-- where keys have entries they stand there once one is put in
slots-put : {F X : Type 0} (key : Key) (es : List (Key × X)) (f : X) (notes : List (Key × Entry F)) (slots : List ℕ)
    → map (λ note. place_in note.0 es) notes ≡ map suc slots → map (λ note. place_in note.0 (with_entry es key f)) notes ≡ map suc slots
slots-put key es f [] slots is = is
slots-put key es f (n ∷ ns) [] is = absurd (cc (is))
slots-put key es f (n ∷ ns) (s ∷ ss) is =
    let here : place_in n.0 es ≡ suc s = cc (is) in
    let rest : map (λ note. place_in note.0 es) ns ≡ map suc ss = cc (is) in
    let first = stays-put key es n.0 f s here in
    let others = slots-put key es f ns ss rest in
    λ i. first i ∷ others i

-- what holds anyway holds on an error
pub on-err : {T E P : Type 0} (r : Result T E) → P → OnErr r P
on-err (Ok x) holds = tt
on-err (Err e) holds = holds

-- ---- there are more cells
module _ {F : Type 0} (indexed after : Indexed F) (more : Widens indexed after) where
  pub more-cells : length indexed.cells ≤ length after.cells
  more-cells =
      let long = ap length more.1 ∙ length-append indexed.cells (empty_cells more.0) in
      omega (arith, long)

  -- a key that has a cell stands where it stood
  pub stands-more : (q : Key) (n : ℕ) → place_of_key indexed q ≡ suc n → place_of_key after q ≡ suc n
  stands-more q n is = ap (place_in q) more.1 ∙ place-first q indexed.cells (empty_cells more.0) n is

  -- no mark is of one that had none
  pub at-more : (mark : ℕ → Bool) → Covers (length indexed.cells) mark → (q : Key) → marked_at mark (place_of_key after q) ≡ marked_at mark (place_of_key indexed q)
  at-more mark covered q = ap (λ cells. marked_at mark (place_in q cells)) more.1 ∙ at-longer mark indexed.cells (empty_cells more.0) q covered

  pub function-same : (q : Key) → function_of after.cells q ≡ function_of indexed.cells q
  function-same q = ap (λ cells. function_of cells q) more.1 ∙ function-more indexed.cells more.0 q

  pub table-same : table_of after.cells ≡ table_of indexed.cells
  table-same = let same : entries_in after.cells ≡ entries_in indexed.cells = ap entries_in more.1 ∙ shown-more indexed.cells more.0 in ap (λ (es : List (Key × F)). record { entries = es }) same

  slots-more : (notes : List (Key × Entry F)) (slots : List ℕ) → map (λ note. place_of_key indexed note.0) notes ≡ map suc slots → map (λ note. place_of_key after note.0) notes ≡ map suc slots
  slots-more [] slots is = is
  slots-more (n ∷ ns) [] is = absurd (cc (is))
  slots-more (n ∷ ns) (s ∷ ss) is =
      let here : place_of_key indexed n.0 ≡ suc s = cc (is) in
      let rest : map (λ note. place_of_key indexed note.0) ns ≡ map suc ss = cc (is) in
      let first = stands-more n.0 s here in
      let others = slots-more ns ss rest in
      λ i. first i ∷ others i

-- a key that is made pending has a function, as those have that were pending before
present-set : {F : Type 0} {b : Bool} (indexed : Indexed F) (marks : SlotMarks) (key : Key) → (b ≡ true → is_some (function_of indexed.cells key) ≡ true)
    → ((q : Key) → pending_by_slot indexed marks q ≡ true → is_some (function_of indexed.cells q) ≡ true)
    → (q : Key) → cond (same_key key q) b (pending_by_slot indexed marks q) ≡ true → is_some (function_of indexed.cells q) ≡ true
present-set {F} {b} indexed marks key there present q =
    elim (same_key key q) as (λ own. same_key key q ≡ own → cond own b (pending_by_slot indexed marks q) ≡ true → is_some (function_of indexed.cells q) ≡ true) [
      | true ↦ λ same is. ap (λ k. is_some (function_of indexed.cells k)) (sym (same_key_exact key q same)) ∙ there is
      | false ↦ λ other is. present q is
    ] refl

-- keys that have cells have them where there are more
pub have-more : {F : Type 0} (indexed after : Indexed F) → Widens indexed after → (list : List (Key × F)) → HaveCells indexed list → HaveCells after list
have-more indexed after more list have k d less =
    let has = have k d less in
    let at = place_of_key indexed (get_or list k d).0 in
    let up : at ≡ suc (at - 1) = omega (arith, has) in
    let stands = stands-more indexed after more (get_or list k d).0 (at - 1) up in
    omega (arith, stands)

-- a key that is pending beside another is pending
pub second-of : (own b : Bool) → (not own && b) ≡ true → b ≡ true
second-of true b is = absurd (cc (is))
second-of false b is = is

put-present : {F : Type 0} (own : Bool) (f : F) (o : Option F) → is_some o ≡ true → is_some (cond own (Some f) o) ≡ true
put-present true f o is = refl
put-present false f o is = is

module _ {F T : Type 0} where
  -- the parts grew, and read as they did
  pub whole-same : (indexed after : Indexed F) (marks marks_after : SlotMarks) (claims : List (Option (Claim T))) (changes changes_after : ChangeLog F)
      → SameParts indexed after marks marks_after changes changes_after → AreParts indexed marks claims changes → AreParts after marks_after claims changes_after
  whole-same indexed after marks marks_after claims changes changes_after same w =
      let longer : length indexed.cells ≤ length after.cells = more-cells indexed after same.cells in
      let pending : (q : Key) → pending_by_slot after marks_after q ≡ pending_by_slot indexed marks q =
      λ q. at-same (pending_at marks.list) (pending_at marks_after.list) (place_of_key after q) same.pending ∙ at-more indexed after same.cells (pending_at marks.list) w.covered q in
      let held : (q : Key) → held_by_slot after marks_after q ≡ held_by_slot indexed marks q =
      λ q.
      at-same (held_at marks.list) (held_at marks_after.list) (place_of_key after q) same.held
      ∙ at-more indexed after same.cells (held_at marks.list) (λ n more. unheld marks n (w.covered n more)) q in
      record {
        distinct = same.distinct w.distinct;
        covered = λ n more. same.pending n ∙ w.covered n (omega (arith, longer, more));
        unnoted = λ n more. same.noted n ∙ w.unnoted n (omega (arith, longer, more));
        present = λ q is. ap is_some (function-same indexed after same.cells q) ∙ w.present q (sym (pending q) ∙ is);
        taken = λ key is. w.taken key (sym (held key) ∙ is);
        marked = λ h key is. held key ∙ w.marked h key is;
        held = held_same (pending_by_slot indexed marks) (pending_by_slot after marks_after) (λ h. claim_in claims h) (λ h. claim_in claims h)
            (λ q is. pending q ∙ is) (λ h c is. (c, is, refl)) w.held;
        listed = λ key.
            at-same (noted_at changes) (noted_at changes_after) (place_of_key after key) same.noted
            ∙ at-more indexed after same.cells (noted_at changes) w.unnoted key ∙ w.listed key ∙ ap (λ list. is_some (noted list key)) (sym same.list);
        once = subst (λ list. IsDistinct same_key (keys_of (unwrap_or list []))) (sym same.list) w.once;
        slotted =
            ap (λ list. map (λ (note : Key × Entry F). place_of_key after note.0) (unwrap_or list [])) same.list
            ∙ slots-more indexed after same.cells (unwrap_or changes.list []) changes.slots w.slotted ∙ ap (map suc) (sym same.slots);
      }

  -- an entry is put in
  pub whole-put : (indexed after : Indexed F) (marks : SlotMarks) (claims : List (Option (Claim T))) (changes : ChangeLog F) (key : Key) (f : F)
      → after.cells ≡ with_entry indexed.cells key (Some f) → AreParts indexed marks claims changes → AreParts after marks claims changes
  whole-put indexed after marks claims changes key f is w =
      let es = indexed.cells in
      let at : (mark : ℕ → Bool) → Covers (length es) mark → (q : Key) → marked_at mark (place_of_key after q) ≡ marked_at mark (place_of_key indexed q) =
      λ mark covered q. ap (λ xs. marked_at mark (place_in q xs)) is ∙ at-put key es (Some f) mark covered q in
      let covers : (mark : ℕ → Bool) → Covers (length es) mark → Covers (length after.cells) mark =
      λ mark covered. subst (λ (xs : List (Key × Option F)). Covers (length xs) mark) (sym is) (covers-put key es (Some f) mark covered) in
      let held_covered : Covers (length es) (held_at marks.list) = λ n more. unheld marks n (w.covered n more) in
      record {
        distinct = subst (λ (xs : List (Key × Option F)). IsDistinct same_key (keys_of xs)) (sym is) (distinct-put key es (Some f) w.distinct);
        present = λ q pends.
            ap (λ xs. is_some (function_of xs q)) is ∙ ap is_some (function-with es key q f)
            ∙ put-present (same_key key q) f (function_of es q) (w.present q (sym (at (pending_at marks.list) w.covered q) ∙ pends));
        covered = covers (pending_at marks.list) w.covered;
        unnoted = covers (noted_at changes) w.unnoted;
        taken = λ q held. w.taken q (sym (at (held_at marks.list) held_covered q) ∙ held);
        marked = λ h q claimed. at (held_at marks.list) held_covered q ∙ w.marked h q claimed;
        held = held_same (pending_by_slot indexed marks) (pending_by_slot after marks) (λ h. claim_in claims h) (λ h. claim_in claims h)
            (λ q pends. at (pending_at marks.list) w.covered q ∙ pends) (λ h c there. (c, there, refl)) w.held;
        listed = λ q. at (noted_at changes) w.unnoted q ∙ w.listed q;
        once = w.once;
        slotted = ap (λ xs. map (λ (note : Key × Entry F). place_in note.0 xs) (unwrap_or changes.list [])) is ∙ slots-put key es (Some f) (unwrap_or changes.list []) changes.slots w.slotted;
      }

  -- the key's entry of before is noted
  pub whole-noted : (indexed : Indexed F) (marks : SlotMarks) (claims : List (Option (Claim T))) (changes after : ChangeLog F) (key : Key) (entry : Entry F) (index : ℕ)
      → index + 1 ≡ place_of_key indexed key → SetsMark index (is_some changes.list) (noted_at changes) (noted_at after) → after.list ≡ with_note changes.list key entry
      → (AreSlotsOf (place_of_key indexed) changes → AreSlotsOf (place_of_key indexed) after)
      → AreParts indexed marks claims changes → AreParts indexed marks claims after
  whole-noted indexed marks claims changes after key entry index stands sets notes slots w = record {
    distinct = w.distinct;
    covered = w.covered;
    unnoted = covers-set key indexed.cells index (is_some changes.list) (noted_at changes) (noted_at after) stands sets w.unnoted;
    present = w.present;
    taken = w.taken;
    marked = w.marked;
    held = w.held;
    listed = λ q.
        at-set key indexed.cells index (is_some changes.list) (noted_at changes) (noted_at after) stands sets q
        ∙ ap (λ b. cond (same_key key q) (is_some changes.list) b) (w.listed q)
        ∙ sym (ap (λ list. is_some (noted list q)) notes ∙ noted-with changes.list key q entry);
    once = subst (λ list. IsDistinct same_key (keys_of (unwrap_or list []))) (sym notes) (once-with changes.list key entry w.once);
    slotted = slots w.slotted;
  }

  -- the key is pending
  pub whole-pushed : (indexed : Indexed F) (marks after : SlotMarks) (claims : List (Option (Claim T))) (changes : ChangeLog F) (key : Key) (index : ℕ)
      → index + 1 ≡ place_of_key indexed key → is_some (function_of indexed.cells key) ≡ true
      → SetsMark index true (pending_at marks.list) (pending_at after.list) → SameMarks (held_at marks.list) (held_at after.list)
      → AreParts indexed marks claims changes → AreParts indexed after claims changes
  whole-pushed indexed marks after claims changes key index stands there sets same w =
      let held : (q : Key) → held_by_slot indexed after q ≡ held_by_slot indexed marks q = λ q. at-same (held_at marks.list) (held_at after.list) (place_of_key indexed q) same in
      record {
        distinct = w.distinct;
        covered = covers-set key indexed.cells index true (pending_at marks.list) (pending_at after.list) stands sets w.covered;
        unnoted = w.unnoted;
        present = λ q is.
            present-set indexed marks key (λ _. there) w.present q
            (sym (at-set key indexed.cells index true (pending_at marks.list) (pending_at after.list) stands sets q) ∙ is);
        taken = λ q is. w.taken q (sym (held q) ∙ is);
        marked = λ h q is. held q ∙ w.marked h q is;
        held = held_same (pending_by_slot indexed marks) (pending_by_slot indexed after) (λ h. claim_in claims h) (λ h. claim_in claims h)
            (λ q is. at-set key indexed.cells index true (pending_at marks.list) (pending_at after.list) stands sets q ∙ kept (same_key key q) (pending_by_slot indexed marks q) is)
            (λ h c is. (c, is, refl)) w.held;
        listed = w.listed;
        once = w.once;
        slotted = w.slotted;
      }
    where
      kept : (own b : Bool) → b ≡ true → cond own true b ≡ true
      kept true b is = refl
      kept false b is = is

  -- the key, which no hand has claimed, is made pending or not
  pub whole-settled : (indexed : Indexed F) (marks after : SlotMarks) (claims : List (Option (Claim T))) (changes : ChangeLog F) (key : Key) (index : ℕ) (b : Bool)
      → index + 1 ≡ place_of_key indexed key → held_by_slot indexed marks key ≡ false → (b ≡ true → is_some (function_of indexed.cells key) ≡ true)
      → SetsMark index b (pending_at marks.list) (pending_at after.list) → SameMarks (held_at marks.list) (held_at after.list)
      → AreParts indexed marks claims changes → AreParts indexed after claims changes
  whole-settled indexed marks after claims changes key index b stands free there pends same w =
      let held : (q : Key) → held_by_slot indexed after q ≡ held_by_slot indexed marks q =
      λ q. at-same (held_at marks.list) (held_at after.list) (place_of_key indexed q) same in
      record {
        distinct = w.distinct;
        covered = covers-set key indexed.cells index b (pending_at marks.list) (pending_at after.list) stands pends w.covered;
        unnoted = w.unnoted;
        present = λ q is.
            present-set indexed marks key there w.present q
            (sym (at-set key indexed.cells index b (pending_at marks.list) (pending_at after.list) stands pends q) ∙ is);
        taken = λ q is. w.taken q (sym (held q) ∙ is);
        marked = λ h q is. held q ∙ w.marked h q is;
        held = record {
          held = λ h c is.
              at-set key indexed.cells index b (pending_at marks.list) (pending_at after.list) stands pends c.key
              ∙ ap (λ own. cond own b (pending_by_slot indexed marks c.key)) (other h c is) ∙ w.held.held h c is;
          apart = w.held.apart;
        };
        listed = w.listed;
        once = w.once;
        slotted = w.slotted;
      }
    where
      other : (h : ℕ) (c : Claim T) → claim_in claims h ≡ Some c → same_key key c.key ≡ false
      other h c is =
          ⊎_elim
          (λ one. absurd (both_ways (held_by_slot indexed marks key) free
          (ap (held_by_slot indexed marks) (same_key_exact key c.key one) ∙ w.marked h c.key (ap (is_claim_of c.key) is ∙ same_key_refl c.key))))
          (λ no. no)
          (cases_Bool (same_key key c.key))

  -- claims that are of the keys that they were of
  pub whole-claims : (indexed : Indexed F) (marks : SlotMarks) (claims after : List (Option (Claim T))) (changes : ChangeLog F)
      → ((h : ℕ) (q : Key) → is_claim_of q (claim_in after h) ≡ is_claim_of q (claim_in claims h))
      → ((h : ℕ) (c : Claim T) → claim_in after h ≡ Some c → IsOf (claim_in claims h) c)
      → AreParts indexed marks claims changes → AreParts indexed marks after changes
  whole-claims indexed marks claims after changes same of w = record {
    distinct = w.distinct;
    covered = w.covered;
    unnoted = w.unnoted;
    present = w.present;
    taken = λ q is. let at = w.taken q is in (at.0, same at.0 q ∙ at.1);
    marked = λ h q is. w.marked h q (sym (same h q) ∙ is);
    held = held_same (pending_by_slot indexed marks) (pending_by_slot indexed marks) (λ h. claim_in claims h) (λ h. claim_in after h) (λ q is. is) of w.held;
    listed = w.listed;
    once = w.once;
    slotted = w.slotted;
  }

  -- the hand's claim is gone, and its key is pending or not
  pub whole-gone : (indexed : Indexed F) (marks after : SlotMarks) (claims left : List (Option (Claim T))) (changes : ChangeLog F) (hand : ℕ) (c : Claim T) (index : ℕ)
      → index + 1 ≡ place_of_key indexed c.key → claim_in claims hand ≡ Some c → ((h : ℕ) → claim_in left h ≡ put_hand (λ j. claim_in claims j) hand None h)
      → SetsMark index false (held_at marks.list) (held_at after.list)
      → Covers (length indexed.cells) (pending_at after.list) → AreHeld (pending_by_slot indexed after) (λ h. claim_in left h)
      → ((q : Key) → pending_by_slot indexed after q ≡ true → pending_by_slot indexed marks q ≡ true)
      → AreParts indexed marks claims changes → AreParts indexed after left changes
  whole-gone indexed marks after claims left changes hand c index stands there gone holds covered kept fewer w = record {
    distinct = w.distinct;
    covered = covered;
    unnoted = w.unnoted;
    present = λ q is. w.present q (fewer q is);
    taken = λ q is. takes q is (same_key c.key q) refl;
    marked = λ h q is. marks_q h q is (nat_eq hand h) refl;
    held = kept;
    listed = w.listed;
    once = w.once;
    slotted = w.slotted;
  }
    where
      held : (q : Key) → held_by_slot indexed after q ≡ cond (same_key c.key q) false (held_by_slot indexed marks q)
      held q = at-set c.key indexed.cells index false (held_at marks.list) (held_at after.list) stands holds q

      stays : (q : Key) (h : ℕ) → is_claim_of q (claim_in claims h) ≡ true → same_key c.key q ≡ false → (b : Bool) → nat_eq hand h ≡ b → is_claim_of q (claim_in left h) ≡ true
      stays q h is other true same =
          absurd (both_ways (same_key c.key q) other
          (sym (ap (is_claim_of q) (ap (λ j. claim_in claims j) (sym (eqb-true hand h same)) ∙ there)) ∙ is))
      stays q h is other false apart = ap (is_claim_of q) (gone h ∙ ap (λ b. cond b None (claim_in claims h)) apart) ∙ is

      takes : (q : Key) → held_by_slot indexed after q ≡ true → (own : Bool) → same_key c.key q ≡ own → (h : ℕ) × (is_claim_of q (claim_in left h) ≡ true)
      takes q is true same = absurd (both_ways (held_by_slot indexed after q) (held q ∙ ap (λ b. cond b false (held_by_slot indexed marks q)) same) is)
      takes q is false other =
          let at = w.taken q (sym (held q ∙ ap (λ b. cond b false (held_by_slot indexed marks q)) other) ∙ is) in
          (at.0, stays q at.0 at.1 other (nat_eq hand at.0) refl)

      marks_q : (h : ℕ) (q : Key) → is_claim_of q (claim_in left h) ≡ true → (b : Bool) → nat_eq hand h ≡ b → held_by_slot indexed after q ≡ true
      marks_q h q is true same =
          let none : claim_in left h ≡ None = gone h ∙ ap (λ b. cond b None (claim_in claims h)) same in
          absurd (both_ways (is_claim_of q (claim_in left h)) (ap (is_claim_of q) none) is)
      marks_q h q is false apart =
          let was : is_claim_of q (claim_in claims h) ≡ true = ap (is_claim_of q) (sym (gone h ∙ ap (λ b. cond b None (claim_in claims h)) apart)) ∙ is in
          let d = claim-of q (claim_in claims h) was in
          let other : same_key c.key q ≡ false =
          ⊎_elim
          (λ same. absurd (both_ways (nat_eq hand h) apart (eq-eqb hand h
          (w.held.apart hand h c d.0 there d.1 (ap (same_key c.key) (same_key_exact d.0.key q d.2) ∙ same)))))
          (λ no. no)
          (cases_Bool (same_key c.key q)) in
          held q ∙ ap (λ b. cond b false (held_by_slot indexed marks q)) other ∙ w.marked h q was

  -- a hand claims the key, which is pending
  pub whole-taken : (indexed : Indexed F) (marks after : SlotMarks) (claims more : List (Option (Claim T))) (changes : ChangeLog F) (hand : ℕ) (c : Claim T) (index : ℕ)
      → index + 1 ≡ place_of_key indexed c.key → claim_in claims hand ≡ None → ((h : ℕ) → claim_in more h ≡ put_hand (λ j. claim_in claims j) hand (Some c) h)
      → pending_by_slot indexed marks c.key ≡ true → held_by_slot indexed marks c.key ≡ false
      → SetsMark index true (held_at marks.list) (held_at after.list) → SameMarks (pending_at marks.list) (pending_at after.list)
      → AreParts indexed marks claims changes → AreParts indexed after more changes
  whole-taken indexed marks after claims more changes hand c index stands none takes pends free holds same w = record {
    distinct = w.distinct;
    covered = covers-same (length indexed.cells) (pending_at marks.list) (pending_at after.list) same w.covered;
    unnoted = w.unnoted;
    present = λ q is. w.present q (sym (at-same (pending_at marks.list) (pending_at after.list) (place_of_key indexed q) same) ∙ is);
    taken = λ q is. takes_q q is (same_key c.key q) refl;
    marked = λ h q is. marks_q h q is (nat_eq hand h) refl;
    held =
        held_same (pending_by_slot indexed marks) (pending_by_slot indexed after) (λ h. claim_in more h) (λ h. claim_in more h)
        (λ q is. at-same (pending_at marks.list) (pending_at after.list) (place_of_key indexed q) same ∙ is) (λ h d is. (d, is, refl))
        (held_claimed (pending_by_slot indexed marks) (λ h. claim_in claims h) (λ h. claim_in more h) hand c pends others takes w.held);
    listed = w.listed;
    once = w.once;
    slotted = w.slotted;
  }
    where
      held : (q : Key) → held_by_slot indexed after q ≡ cond (same_key c.key q) true (held_by_slot indexed marks q)
      held q = at-set c.key indexed.cells index true (held_at marks.list) (held_at after.list) stands holds q

      others : (h : ℕ) (d : Claim T) → claim_in claims h ≡ Some d → same_key d.key c.key ≡ false
      others h d is =
          ⊎_elim
          (λ one. absurd (both_ways (held_by_slot indexed marks c.key) free (w.marked h c.key (ap (is_claim_of c.key) is ∙ one))))
          (λ no. no)
          (cases_Bool (same_key d.key c.key))

      stays : (q : Key) (h : ℕ) → is_claim_of q (claim_in claims h) ≡ true → (b : Bool) → nat_eq hand h ≡ b → is_claim_of q (claim_in more h) ≡ true
      stays q h is true one = absurd (both_ways (is_claim_of q (claim_in claims h)) (ap (is_claim_of q) (ap (λ j. claim_in claims j) (sym (eqb-true hand h one)) ∙ none)) is)
      stays q h is false apart = ap (is_claim_of q) (takes h ∙ ap (λ b. cond b (Some c) (claim_in claims h)) apart) ∙ is

      takes_q : (q : Key) → held_by_slot indexed after q ≡ true → (own : Bool) → same_key c.key q ≡ own → (h : ℕ) × (is_claim_of q (claim_in more h) ≡ true)
      takes_q q is true one = (hand, ap (is_claim_of q) (takes hand ∙ ap (λ b. cond b (Some c) (claim_in claims hand)) (eq-eqb hand hand refl)) ∙ one)
      takes_q q is false other =
          let at = w.taken q (sym (held q ∙ ap (λ b. cond b true (held_by_slot indexed marks q)) other) ∙ is) in
          (at.0, stays q at.0 at.1 (nat_eq hand at.0) refl)

      marks_q : (h : ℕ) (q : Key) → is_claim_of q (claim_in more h) ≡ true → (b : Bool) → nat_eq hand h ≡ b → held_by_slot indexed after q ≡ true
      marks_q h q is true one =
          let own : same_key c.key q ≡ true = ap (is_claim_of q) (sym (takes h ∙ ap (λ b. cond b (Some c) (claim_in claims h)) one)) ∙ is in
          held q ∙ ap (λ b. cond b true (held_by_slot indexed marks q)) own
      marks_q h q is false apart =
          let was : is_claim_of q (claim_in claims h) ≡ true = ap (is_claim_of q) (sym (takes h ∙ ap (λ b. cond b (Some c) (claim_in claims h)) apart)) ∙ is in
          held q ∙ ap (λ b. cond (same_key c.key q) true b) (w.marked h q was) ∙ true-or (same_key c.key q)

  -- ---- what the image says
  pub is-pending : (indexed : Indexed F) (marks : SlotMarks) (claims : List (Option (Claim T))) (changes : ChangeLog F) → AreParts indexed marks claims changes
      → (q : Key) → list_any (same_key q) (keys_where (pending_at marks.list) indexed.cells) ≡ pending_by_slot indexed marks q
  is-pending indexed marks claims changes w q = any-where (pending_at marks.list) indexed.cells q w.distinct

  pub pending-long : (indexed : Indexed F) (marks : SlotMarks) (claims : List (Option (Claim T))) (changes : ChangeLog F) → AreParts indexed marks claims changes
      → length (keys_where (pending_at marks.list) indexed.cells) ≡ pending_count marks.list
  pending-long indexed marks claims changes w = count-where indexed.cells marks.list w.covered

  -- where the claims of keys are those of the marks, so is what holds of them
  pub is-worklist : (indexed : Indexed F) (marks : SlotMarks) (claims : List (Option (Claim T))) (changes : ChangeLog F) → AreParts indexed marks claims changes
      → AreHeld (λ q. list_any (same_key q) (keys_where (pending_at marks.list) indexed.cells)) (λ h. claim_in claims h)
  is-worklist indexed marks claims changes w =
      held_same (pending_by_slot indexed marks) (λ q. list_any (same_key q) (keys_where (pending_at marks.list) indexed.cells)) (λ h. claim_in claims h) (λ h. claim_in claims h)
      (λ q is. is-pending indexed marks claims changes w q ∙ is) (λ h c is. (c, is, refl)) w.held

  -- a key that no claim is of is not marked as claimed, and the other way round
  pub unclaimed-free : (indexed : Indexed F) (marks : SlotMarks) (claims : List (Option (Claim T))) (changes : ChangeLog F) → AreParts indexed marks claims changes
      → (q : Key) → list_any (is_claim_of q) claims ≡ false → held_by_slot indexed marks q ≡ false
  unclaimed-free indexed marks claims changes w q none =
      ⊎_elim
      (λ is. let at = w.taken q is in absurd (both_ways (list_any (is_claim_of q) claims) none (any-at q claims at.0 at.1)))
      (λ no. no)
      (cases_Bool (held_by_slot indexed marks q))

  pub free-unclaimed : (indexed : Indexed F) (marks : SlotMarks) (claims : List (Option (Claim T))) (changes : ChangeLog F) → AreParts indexed marks claims changes
      → (q : Key) → held_by_slot indexed marks q ≡ false → list_any (is_claim_of q) claims ≡ false
  free-unclaimed indexed marks claims changes w q free =
      ⊎_elim
      (λ is. let at = claimed_at q claims is in absurd (both_ways (held_by_slot indexed marks q) free (w.marked at.0 q at.1)))
      (λ no. no)
      (cases_Bool (list_any (is_claim_of q) claims))

  -- parts that grew make the same image
  pub image-same : (indexed after : Indexed F) (marks marks_after : SlotMarks) (claims : List (Option (Claim T))) (changes changes_after : ChangeLog F)
      → SameParts indexed after marks marks_after changes changes_after → AreParts indexed marks claims changes
      → image_by after marks_after claims changes_after ≡ image_by indexed marks claims changes
  image-same indexed after marks marks_after claims changes changes_after same w =
      let keys : keys_where (pending_at marks_after.list) after.cells ≡ keys_where (pending_at marks.list) indexed.cells =
      keys-same (pending_at marks.list) (pending_at marks_after.list) after.cells same.pending
      ∙ ap (keys_where (pending_at marks.list)) same.cells.1
      ∙ keys-longer (pending_at marks.list) indexed.cells (empty_cells same.cells.0) w.covered in
      let table : table_of after.cells ≡ table_of indexed.cells = table-same indexed after same.cells in
      let list = same.list in
      cc (table, keys, list)

-- a mark at the place of an index
pub at-index : (mark : ℕ → Bool) (place index : ℕ) → index + 1 ≡ place → marked_at mark place ≡ mark index
at-index mark zero index is = absurd (omega (arith, is))
at-index mark (suc n) index is = let same : n ≡ index = omega (arith, is) in ap mark same

-- what grew did so where nothing else changed
module _ {F : Type 0} where
  pub same-cells : (indexed after : Indexed F) (marks : SlotMarks) (changes : ChangeLog F) → Widens indexed after → (HasDistinctKeys indexed → HasDistinctKeys after)
      → SameParts indexed after marks marks changes changes
  same-cells indexed after marks changes cells distinct = record {
    cells = cells;
    distinct = distinct;
    pending = λ n. refl;
    held = λ n. refl;
    list = refl;
    slots = refl;
    noted = λ n. refl;
  }

  -- cells that are the same
  pub still-cells : (indexed after : Indexed F) → after.cells ≡ indexed.cells → Widens indexed after
  still-cells indexed after same = ([], same ∙ sym (append-nil indexed.cells))

  pub same-then : (a b c : Indexed F) (m n o : SlotMarks) (x y z : ChangeLog F) → SameParts a b m n x y → SameParts b c n o y z → SameParts a c m o x z
  same-then a b c m n o x y z first next = record {
    cells = widens-more a b c first.cells next.cells;
    distinct = λ apart. next.distinct (first.distinct apart);
    pending = λ k. next.pending k ∙ first.pending k;
    held = λ k. next.held k ∙ first.held k;
    list = next.list ∙ first.list;
    slots = next.slots ∙ first.slots;
    noted = λ k. next.noted k ∙ first.noted k;
  }

  -- a key stands where it stood
  pub cell-same : (indexed after : Indexed F) (key : Key) (cell : ℕ) → Widens indexed after → cell + 1 ≡ place_of_key indexed key → cell + 1 ≡ place_of_key after key
  cell-same indexed after key cell more stands =
      let up : suc cell ≡ cell + 1 = omega arith in
      sym up ∙ sym (stands-more indexed after more key cell (sym (up ∙ stands)))

-- where no slot is marked, no place is
pub at-none : (mark : ℕ → Bool) (place : ℕ) → ((n : ℕ) → mark n ≡ false) → marked_at mark place ≡ false
at-none mark zero none = refl
at-none mark (suc n) none = none n

module _ {F T : Type 0} where
  -- parts that hold nothing agree
  pub whole-new : (indexed : Indexed F) (marks : SlotMarks) (claims : List (Option (Claim T))) (changes : ChangeLog F)
      → indexed.cells ≡ [] → marks.list ≡ [] → claims ≡ [] → unwrap_or changes.list [] ≡ [] → changes.slots ≡ []
      → ((key : Key) → is_some (noted changes.list key) ≡ false) → ((n : ℕ) → noted_at changes n ≡ false)
      → AreParts indexed marks claims changes
  unfolding IsDistinct
  whole-new indexed marks claims changes entries unmarked none empty slotless absent unnoted =
      let pending : (n : ℕ) → pending_at marks.list n ≡ false = λ n. ap (λ ms. pending_at ms n) unmarked in
      let free : (key : Key) → held_by_slot indexed marks key ≡ false = λ key. ap (λ es. marked_at (held_at marks.list) (place_in key es)) entries in
      let no_claim : (h : ℕ) → claim_in claims h ≡ None = λ h. ap (λ cs. claim_in cs h) none in
      record {
        distinct = subst (λ (xs : List (Key × Option F)). IsDistinct same_key (keys_of xs)) (sym entries) tt;
        covered = λ n more. pending n;
        unnoted = λ n more. unnoted n;
        present = λ key is. absurd (both_ways (pending_by_slot indexed marks key) (ap (λ cells. marked_at (pending_at marks.list) (place_in key cells)) entries) is);
        taken = λ key is. absurd (both_ways (held_by_slot indexed marks key) (free key) is);
        marked = λ h key is. absurd (both_ways (is_claim_of key (claim_in claims h)) (ap (is_claim_of key) (no_claim h)) is);
        held = record {
          held = λ h c is. absurd (cc (sym (no_claim h) ∙ is));
          apart = λ h j c d is also same. absurd (cc (sym (no_claim h) ∙ is));
        };
        listed = λ key. ap (λ es. marked_at (noted_at changes) (place_in key es)) entries ∙ sym (absent key);
        once = subst (λ xs. IsDistinct same_key (keys_of xs)) (sym empty) tt;
        slotted = ap (λ xs. map (λ (note : Key × Entry F). place_of_key indexed note.0) xs) empty ∙ sym (ap (map suc) slotless);
      }

  -- another list of notes is begun
  pub whole-anew : (indexed : Indexed F) (marks : SlotMarks) (claims : List (Option (Claim T))) (changes after : ChangeLog F)
      → after.list ≡ Some [] → after.slots ≡ [] → ((n : ℕ) → noted_at after n ≡ false) → AreParts indexed marks claims changes → AreParts indexed marks claims after
  unfolding IsDistinct
  whole-anew indexed marks claims changes after empty slotless unnoted w = record {
    distinct = w.distinct;
    covered = w.covered;
    unnoted = λ n more. unnoted n;
    present = w.present;
    taken = w.taken;
    marked = w.marked;
    held = w.held;
    listed = λ key. at-none (noted_at after) (place_of_key indexed key) unnoted ∙ sym (ap (λ list. is_some (noted list key)) empty);
    once = subst (λ list. IsDistinct same_key (keys_of (unwrap_or list []))) (sym empty) tt;
    slotted = ap (λ list. map (λ (note : Key × Entry F). place_of_key indexed note.0) (unwrap_or list [])) empty ∙ sym (ap (map suc) slotless);
  }

  -- places that hold no claim are as good as none
  pub whole-free : (indexed : Indexed F) (marks : SlotMarks) (claims : List (Option (Claim T))) (changes : ChangeLog F) (left : List (Option (Claim T)))
      → left ≡ [] → ((h : ℕ) → claim_in claims h ≡ None) → AreParts indexed marks claims changes → AreParts indexed marks left changes
  whole-free indexed marks claims changes left none free w =
      let gone : (h : ℕ) → claim_in left h ≡ None = λ h. ap (λ cs. claim_in cs h) none in
      whole-claims indexed marks claims left changes
      (λ h q. ap (is_claim_of q) (gone h ∙ sym (free h)))
      (λ h c is. absurd (cc (sym (gone h) ∙ is)))
      w

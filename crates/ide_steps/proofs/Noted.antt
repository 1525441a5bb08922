-- That what is noted tells what each key's entry was.
use Rattle.std.proofs.Common.{◌≡◌, ◌+◌, refl, sym, ap, subst, ◌∙◌, arith, Bool, true, false, cond, ◌||◌, List, [], ◌∷◌, ◌++◌, length, Option, None, Some}
use Rattle.std.specs.Prelude.{not, unwrap_or, ◌&&◌, Result, Ok, Err, OnErr}
use Rattle.std.specs.List.{list_any}
use Rattle.std.specs.Map.{keys_of, lookup}
use Rattle.std.specs.Option.{is_some}
use Rattle.std.proofs.lemmas.List.{length-append}
use Rattle.ide_image.specs.KeyedImage.{KeyedImageData}
use Rattle.ide_image.specs.Tables.{Table, found, last_of}
use Rattle.ide_wire.specs.Key.{same_key, same_key_exact, same_key_symm}
use Rattle.ide_wire.specs.declared.key.Key.{Key}
use Rattle.ide_image.specs.Worklist.{Pile, ends, is_pending}
use Rattle.ide_image.specs.declared.change.Change.{Change}
use Rattle.ide_image.specs.declared.change.Change.TheVariants.{Lowered, Same}
use Rattle.ide_image.specs.declared.claim.Claim.{Claim}
use Rattle.ide_wire.specs.declared.refused.Refused.{Refused}
use Rattle.ide_image.specs.declared.entry.Entry.{Entry}
use Rattle.ide_image.specs.Notes.{ended_key, entry_at, noted, noted_after, noted_count, or_entry, with_change, with_note}
use Rattle.ide_steps.specs.Changed.{Notes, Remembers, standing_entry, grows, is_touched}
use Rattle.ide_tasks.specs.Task.{TaskData}
use Rattle.ide_steps.specs.Core.{CoreData, IsUnchanged}
use Rattle.ide_steps.proofs.Entries.{last_of-other}
use Rattle.ide_steps.proofs.States.{or-cond}

or-none : {X : Type 0} (o : Option X) → or_entry o None ≡ o
or-none None = refl
or-none (Some x) = refl

-- what is looked up in a list with one entry more
lookup-more : {X : Type 0} (test : Key → Bool) (es : List (Key × X)) (key : Key) (x : X)
    → lookup test (es ++ (key, x) ∷ []) ≡ or_entry (lookup test es) (cond (test key) (Some x) None)
lookup-more test [] key x = refl
lookup-more test (e ∷ es) key x =
    elim (test e.0) as (λ b. cond b (Some e.1) (lookup test (es ++ (key, x) ∷ [])) ≡ or_entry (cond b (Some e.1) (lookup test es)) (cond (test key) (Some x) None)) [
      | true ↦ refl
      | false ↦ lookup-more test es key x
    ]

-- the end of a claim takes no other key out
pub end-kept : {T : Type 0} (o : Option (Claim T)) (q : Key) (waits : Bool) → is_touched (ended_key o) q ≡ false → (not (ends o q) && waits) ≡ waits
end-kept None q waits other = refl
end-kept (Some claim) q waits other =
    elim claim.lowered as (λ b. is_touched (cond b None (Some claim.key)) q ≡ false → (not (not b && same_key claim.key q) && waits) ≡ waits) [
      | true ↦ λ _. refl
      | false ↦ λ no. ap (λ b. not b && waits) no
    ] other

-- what holds of an error, and what follows from it
pub err-then : {T E P Q : Type 0} (r : Result T E) → OnErr r P → (P → Q) → OnErr r Q
err-then (Ok x) p follows = tt
err-then (Err e) p follows = follows p

module _ {F : Type 0} where
  -- the entry of the same key
  entry-same : (key q : Key) (entry : Key → Entry F) → cond (same_key q key) (Some (entry key)) None ≡ cond (same_key key q) (Some (entry q)) None
  entry-same key q entry =
      ap (λ b. cond b (Some (entry key)) None) (same_key_symm q key)
      ∙ elim (same_key key q) as (λ b. same_key key q ≡ b → cond b (Some (entry key)) None ≡ cond b (Some (entry q)) None) [
        | true ↦ λ same. ap (λ k. Some (entry k)) (same_key_exact key q same)
        | false ↦ λ other. refl
      ] refl

  -- one note more is one of its key
  pub noted-with : (notes : Option (List (Key × Entry F))) (key : Key) (entry : Key → Entry F) (q : Key)
      → noted (with_note notes key (entry key)) q ≡ noted_after notes (same_key key q) (entry q) q
  noted-with None key entry q = refl
  noted-with (Some list) key entry q =
      elim (lookup (same_key key) list) as (λ o. lookup (same_key key) list ≡ o
      → lookup (same_key q) (cond (is_some o) list (list ++ (key, entry key) ∷ [])) ≡ or_entry (lookup (same_key q) list) (cond (same_key key q) (Some (entry q)) None)) [
        | Some x ↦ λ there. known x there (same_key key q) refl
        | None ↦ λ none. lookup-more (same_key q) list key (entry key) ∙ ap (or_entry (lookup (same_key q) list)) (entry-same key q entry)
      ] refl
    where
      known : (x : Entry F) → lookup (same_key key) list ≡ Some x → (b : Bool) → same_key key q ≡ b
          → lookup (same_key q) list ≡ or_entry (lookup (same_key q) list) (cond b (Some (entry q)) None)
      known x there true same =
          let here : lookup (same_key q) list ≡ Some x = ap (λ k. lookup (same_key k) list) (sym (same_key_exact key q same)) ∙ there in
          here ∙ sym (ap (λ o. or_entry o (Some (entry q))) here)
      known x there false other = sym (or-none (lookup (same_key q) list))

  -- nothing is noted later
  after-none : (notes : Option (List (Key × Entry F))) (entry : Entry F) (q : Key) → noted notes q ≡ noted_after notes false entry q
  after-none None entry q = refl
  after-none (Some list) entry q = sym (or-none (lookup (same_key q) list))

  change-noted : (notes : Option (List (Key × Entry F))) (changed : Option Key) (entry : Key → Entry F) (q : Key)
      → noted (with_change notes changed entry) q ≡ noted_after notes (is_touched changed q) (entry q) q
  change-noted notes None entry q = after-none notes (entry q) q
  change-noted notes (Some key) entry q = noted-with notes key entry q

  pub noting-with : (notes : Option (List (Key × Entry F))) (key : Key) (entry : Entry F) → is_some (with_note notes key entry) ≡ is_some notes
  noting-with None key entry = refl
  noting-with (Some list) key entry = refl

  change-noting : (notes : Option (List (Key × Entry F))) (changed : Option Key) (entry : Key → Entry F) → is_some (with_change notes changed entry) ≡ is_some notes
  change-noting notes None entry = refl
  change-noting notes (Some key) entry = noting-with notes key (entry key)

  change-counted : (notes : Option (List (Key × Entry F))) (changed : Option Key) (entry : Key → Entry F)
      → noted_count (with_change notes changed entry) ≡ noted_count notes + grows notes changed
  change-counted notes None entry = omega arith
  change-counted None (Some key) entry = omega arith
  change-counted (Some list) (Some key) entry =
      elim (is_some (lookup (same_key key) list)) as (λ b. length (cond b list (list ++ (key, entry key) ∷ [])) ≡ length list + cond b 0 1) [
        | true ↦ omega arith
        | false ↦ length-append list ((key, entry key) ∷ [])
      ]

  -- the key that changes is noted
  pub notes-change : (old new : CoreData F) (changed : Option Key) → new.changes ≡ with_change old.changes changed (standing_entry old) → Notes old new changed
  notes-change old new changed is = record { changes = is; count = ap noted_count is ∙ change-counted old.changes changed (standing_entry old) }

  pub after-keeps : (notes : Option (List (Key × Entry F))) (later : Bool) (entry : Entry F) (q : Key) → is_some (noted notes q) ≡ true
      → is_some (noted_after notes later entry q) ≡ true
  after-keeps None later entry q is = is
  after-keeps (Some list) later entry q is =
      elim (lookup (same_key q) list) as (λ o. is_some o ≡ true → is_some (or_entry o (cond later (Some entry) None)) ≡ true) [
        | Some x ↦ λ _. refl
        | None ↦ λ no. absurd (cc (no))
      ] is

  after-entry : (notes : Option (List (Key × Entry F))) (later : Bool) (before now : Entry F) (q : Key) → is_some notes ≡ true → (later ≡ false → now ≡ before)
      → unwrap_or (noted_after notes later before q) now ≡ unwrap_or (noted notes q) before
  after-entry None later before now q some stays = absurd (cc (some))
  after-entry (Some list) later before now q some stays =
      elim (lookup (same_key q) list) as (λ o. unwrap_or (or_entry o (cond later (Some before) None)) now ≡ unwrap_or o before) [
        | Some x ↦ refl
        | None ↦ elim later as (λ b. (b ≡ false → now ≡ before) → unwrap_or (cond b (Some before) None) now ≡ before) [ true ↦ λ _. refl | false ↦ λ is. is refl ] stays
      ]

  -- entries that change are noted as they were
  pub remembers-noted : (old new : CoreData F) (later : Key → Bool) → is_some new.changes ≡ is_some old.changes
      → ((q : Key) → noted new.changes q ≡ noted_after old.changes (later q) (standing_entry old q) q)
      → ((q : Key) → later q ≡ false → standing_entry new q ≡ standing_entry old q) → Remembers old new
  remembers-noted old new later noting is stays = record {
    noting = noting;
    keeps = λ q there. subst (λ o. is_some o ≡ true) (sym (is q)) (after-keeps old.changes (later q) (standing_entry old q) q there);
    entries = λ some q.
        ap (λ o. unwrap_or o (standing_entry new q)) (is q) ∙ after-entry old.changes (later q) (standing_entry old q) (standing_entry new q) q some (stays q);
  }

  pub remembers-change : (old new : CoreData F) (changed : Option Key) → new.changes ≡ with_change old.changes changed (standing_entry old)
      → ((q : Key) → is_touched changed q ≡ false → standing_entry new q ≡ standing_entry old q) → Remembers old new
  remembers-change old new changed is stays =
      remembers-noted old new (is_touched changed) (ap is_some is ∙ change-noting old.changes changed (standing_entry old))
      (λ q. ap (λ notes. noted notes q) is ∙ change-noted old.changes changed (standing_entry old) q) stays

  -- an image and notes that are as they were
  pub remembers-same : (old new : CoreData F) → new.changes ≡ old.changes → new.table ≡ old.table → new.pile.pending ≡ old.pile.pending → Remembers old new
  remembers-same old new changes table pending =
      remembers-change old new None changes (λ q _. λ i. record { function = found (table i) q; pending = list_any (same_key q) (pending i) })

  -- what the core has at each key
  abbrev pub image-of : CoreData F → KeyedImageData F (TaskData F)
  image-of core = record { table = core.table; pile = core.pile; changes = core.changes }

  pub remembers-image : (old new : CoreData F) → image-of new ≡ image-of old → Remembers old new
  remembers-image old new is =
      remembers-same old new (ap (λ image. image.changes) is) (ap (λ image. image.table) is) (ap (λ image. image.pile.pending) is)

  pub remembers-unchanged : (old new : CoreData F) → IsUnchanged old new → Remembers old new
  remembers-unchanged old new is = remembers-same old new is.changes is.table is.pending

  pub remembers-equal : (old new : CoreData F) → new ≡ old → Remembers old new
  remembers-equal old new is =
      remembers-same old new (ap (λ (c : CoreData F). c.changes) is) (ap (λ (c : CoreData F). c.table) is) (ap (λ (c : CoreData F). c.pile.pending) is)

  pub remembers-then : (old mid new : CoreData F) → Remembers old mid → Remembers mid new → Remembers old new
  remembers-then old mid new first next = record {
    noting = next.noting ∙ first.noting;
    keeps = λ key there. next.keeps key (first.keeps key there);
    entries = λ some key. next.entries (first.noting ∙ some) key ∙ first.entries some key;
  }

  -- what is noted and the image are as they were from then on
  pub remembers-on : (old mid new : CoreData F) → new.changes ≡ mid.changes → new.table ≡ mid.table → new.pile.pending ≡ mid.pile.pending
      → Remembers old mid → Remembers old new
  remembers-on old mid new changes table pending first = remembers-then old mid new first (remembers-same mid new changes table pending)

  pub notes-on : (old mid new : CoreData F) (changed : Option Key) → new.changes ≡ mid.changes → Notes old mid changed → Notes old new changed
  notes-on old mid new changed changes is = record { changes = changes ∙ is.changes; count = ap noted_count changes ∙ is.count }

  -- the same function, pending or not as before
  pub same-entry : {T : Type 0} (table new_table : Table F) (pile new_pile : Pile T) (q : Key) → new_table ≡ table
      → is_pending new_pile q ≡ is_pending pile q → entry_at new_table new_pile q ≡ entry_at table pile q
  same-entry table new_table pile new_pile q same waits i = record { function = found (same i) q; pending = waits i }

  -- another key than the one that changes
  pub entry-other : {T : Type 0} (table new_table : Table F) (pile new_pile : Pile T) (q : Key) (here : Bool) (f : Option F) (waits : Bool) → here ≡ false
      → found new_table q ≡ cond here f (found table q) → is_pending new_pile q ≡ cond here waits (is_pending pile q)
      → entry_at new_table new_pile q ≡ entry_at table pile q
  entry-other table new_table pile new_pile q here f waits other function pending =
      let functions : found new_table q ≡ found table q = function ∙ ap (λ b. cond b f (found table q)) other in
      let waiting : is_pending new_pile q ≡ is_pending pile q = pending ∙ ap (λ b. cond b waits (is_pending pile q)) other in
      λ i. record { function = functions i; pending = waiting i }

  pub entered-other : {T : Type 0} (table new_table : Table F) (pile new_pile : Pile T) (es : List (Key × F)) (q : Key) → list_any (same_key q) (keys_of es) ≡ false
      → found new_table q ≡ last_of es q (found table q) → is_pending new_pile q ≡ (list_any (same_key q) (keys_of es) || is_pending pile q)
      → entry_at new_table new_pile q ≡ entry_at table pile q
  entered-other table new_table pile new_pile es q other function pending =
      let functions : found new_table q ≡ found table q = function ∙ last_of-other es q (found table q) other in
      let waiting : is_pending new_pile q ≡ is_pending pile q = pending ∙ ap (λ b. b || is_pending pile q) other in
      λ i. record { function = functions i; pending = waiting i }

  -- a key is lowered, and its entry noted; or nothing changes
  pub remembers-lowered : (old new : CoreData F) (key : Key) (f : Option F) (r : Result Change Refused)
      → (r ≡ Ok Lowered → new.changes ≡ with_note old.changes key (standing_entry old key))
      → (r ≡ Ok Lowered → (q : Key) → found new.table q ≡ cond (same_key key q) f (found old.table q))
      → (r ≡ Ok Lowered → (q : Key) → is_pending new.pile q ≡ (same_key key q || is_pending old.pile q))
      → (r ≡ Ok Same → image-of new ≡ image-of old) → OnErr r (image-of new ≡ image-of old) → Remembers old new
  remembers-lowered old new key f (Ok Lowered) noted sets pending same err =
      remembers-change old new (Some key) (noted refl)
      (λ q other. entry-other old.table new.table old.pile new.pile q (same_key key q) f true other (sets refl q)
      (pending refl q ∙ or-cond (same_key key q) (is_pending old.pile q)))
  remembers-lowered old new key f (Ok Same) noted sets pending same err = remembers-image old new (same refl)
  remembers-lowered old new key f (Err e) noted sets pending same err = remembers-image old new err

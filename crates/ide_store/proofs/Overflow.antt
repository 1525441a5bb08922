-- How many keys a half that works notes.
use Rattle.std.proofs.Common.{◌≡◌, ◌∙◌, ◌≤◌, ℕ, Bool, true, false, List, Option, Some, None, Result, Ok, Err, refl, ap, sym, subst, arith}
use Rattle.std.specs.Prelude.{if◌then◌else◌, OnErr, OnOk}
use Rattle.std.specs.Map.{lookup}
use Rattle.std.specs.Option.{is_some}
use Rattle.ide_lattice.specs.Algebra.{EdgeAlgebra}
use Rattle.ide_problem.specs.Flow.{Targets}
use Rattle.ide_image.specs.Notes.{noted, noted_count}
use Rattle.ide_steps.specs.Changed.{NotesPart, Remembers, grows}
use Rattle.ide_steps.specs.Core.{CoreData, IsUnchanged}
use Rattle.ide_steps.specs.Steps.{FindsNone, IsCurrent, LowersPart}
use Rattle.ide_image.specs.declared.entry.Entry.{Entry}
use Rattle.ide_steps.specs.declared.part.Parted.{Parted}
use Rattle.ide_steps.specs.declared.part.Parted.TheVariants.{Lowered, Same, NoPart}
use Rattle.ide_tasks.specs.Work.{WorkData}
use Rattle.ide_wire.specs.Key.{same_key}
use Rattle.ide_wire.specs.declared.key.Key.{Key}
use Rattle.ide_wire.specs.declared.refused.Refused.{Refused}
use Rattle.ide_journal.specs.Format.{Entry as Spelled}
use Rattle.ide_store.specs.Table.{IsTable}
use Rattle.ide_store.specs.TableCalls.{HasRoomForPart}

module _ {F : Type 0} where
  -- a change makes one note at most
  pub grows_one : (notes : Option (List (Key × Entry F))) (key : Option Key) → grows notes key ≤ 1
  grows_one notes None = omega arith
  grows_one None (Some key) = omega arith
  grows_one (Some list) (Some key) = by (is_some (lookup (same_key key) list))
    where
      by : (b : Bool) → (if b then 0 else 1) ≤ 1
      by true = omega arith
      by false = omega arith

  -- and none where the key is noted
  pub grows_not : (notes : Option (List (Key × Entry F))) (key : Key) → is_some (noted notes key) ≡ true → grows notes (Some key) ≡ 0
  grows_not None key has = refl
  grows_not (Some list) key has = ap (λ (b : Bool). if b then 0 else 1) has

  -- what a half keeps, where as many notes or few enough are made
  pub table_kept : (old new : CoreData F) (sealed : ℕ) (waiting : List Spelled) → IsTable old sealed waiting → is_some new.changes ≡ is_some old.changes
      → noted_count new.changes ≤ 65536 → IsTable new sealed waiting
  table_kept old new sealed waiting kept noting few = record {
    noting = noting ∙ kept.noting;
    few = few;
    proper = kept.proper;
    within = kept.within;
    numbered = kept.numbered;
  }

  same_count : (old new : CoreData F) → new.changes ≡ old.changes → noted_count old.changes ≤ 65536 → noted_count new.changes ≤ 65536
  same_count old new same few = subst (λ (notes : Option (List (Key × Entry F))). noted_count notes ≤ 65536) (sym same) few

  module _ {L : Type 0} (B : EdgeAlgebra F L) (targets : Targets F) where
    -- it is kept by a part for which there is room
    pub part_keeps : (result : Result Parted Refused) (hand : ℕ) (old new : CoreData F) (work after : WorkData F) (sealed : ℕ) (waiting : List Spelled)
        → IsTable old sealed waiting → Remembers old new
        → OnOk result (IsCurrent B targets old hand work)
        → (result ≡ Ok Lowered → NotesPart work old new)
        → (result ≡ Ok Lowered → LowersPart B targets hand old new work after)
        → (result ≡ Ok Same → new.changes ≡ old.changes)
        → (result ≡ Ok NoPart → FindsNone old new work after)
        → OnErr result (IsUnchanged old new × (after ≡ work))
        → (now : CoreData F) → old ≡ now → HasRoomForPart B targets now hand work → IsTable new sealed waiting
    part_keeps (Ok Lowered) hand old new work after sealed waiting kept remembers own notes lowers same none stays now is room =
        let lowered = lowers refl in
        let noted = notes refl lowered.part lowered.next in
        let fits = subst (λ (core : CoreData F). HasRoomForPart B targets core hand work) (sym is) room own lowered.part lowered.next lowered.changes.falls kept.few in
        table_kept old new sealed waiting kept remembers.noting (omega (arith, noted.count, fits))
    part_keeps (Ok Same) hand old new work after sealed waiting kept remembers own notes lowers same none stays now is room =
        table_kept old new sealed waiting kept remembers.noting (same_count old new (same refl) kept.few)
    part_keeps (Ok NoPart) hand old new work after sealed waiting kept remembers own notes lowers same none stays now is room =
        table_kept old new sealed waiting kept remembers.noting (same_count old new (ap (λ (c : CoreData F). c.changes) (none refl).1) kept.few)
    part_keeps (Err refused) hand old new work after sealed waiting kept remembers own notes lowers same none stays now is room =
        table_kept old new sealed waiting kept remembers.noting (same_count old new stays.0.changes kept.few)

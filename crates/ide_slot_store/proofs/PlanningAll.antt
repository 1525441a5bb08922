-- Commands and parts that are fit make up a checkpoint, of which it is planned that it has them.
use Rattle.std.proofs.Common.{◌≡◌, ◌∙◌, ◌+◌, ◌<◌, ◌≤◌, ◌++◌, ℕ, zero, suc, false, All, List, [], ◌∷◌, length, drop, map, take, refl, ap, sym, subst, arith}
use Rattle.std.specs.Prelude.{nat_eq}
use Rattle.std.proofs.lemmas.List.{length-drop, length-map, length-take-le, map-append, take-append-drop}
use Rattle.ide_disk.specs.declared.disk.Disk.{Ghosts}
use Rattle.ide_journal.specs.Format.{Entry}
use Rattle.ide_journal.specs.Lists.{entries_of, entry_of}
use Rattle.ide_journal.specs.declared.record.RawRecord.{RawRecord}
use Rattle.ide_slot_journal.specs.Planning.{MakeUpCheckpoint}
use Rattle.ide_slot_journal.specs.Plans.{IsPlanRefusal, Plans, plan_after_failure, plan_memory, planned_slot}
use Rattle.ide_slot_journal.specs.declared.journal.SlotJournal.{SlotJournal}
use Rattle.ide_slots.specs.Records.{all_numbered}
use Rattle.ide_slot_journal.specs.Stands.{records_stored}
use Rattle.ide_slots.specs.Slot.{AreCommands, IsPartEntry, NumberedEntry, Slot}
use Rattle.ide_slots.specs.declared.record.NumberedRecord.{NumberedRecord}
use Rattle.ide_wire.specs.declared.refused.Refused.{Refused}
use Rattle.ide_store.specs.TwoDisks.{commands_from, commands_of}
use Rattle.ide_store.specs.Versioned.{VersionedEntry, plain}
use Rattle.ide_slot_store.specs.Commands.{IsPlanOverRefusal, PlansOver, over_failure, over_limit, over_memory, over_unfit}
use Rattle.ide_slot_store.specs.Half.{HasNoCommand, IsPlanAllRefusal, PlansAllOver, Writes, all_failed, all_memory, all_unfit}
use Rattle.ide_slot_store.specs.declared.writer.SlotWriterHalf.{SlotWriterHalf}
use Rattle.ide_slot_store.proofs.Half.{plan_writes}
use Rattle.ide_slot_store.proofs.Writing.{all_spelled}
use Rattle.ide_store.proofs.TwoDisksPlans.{commands_both}

pub some_in : (n : ℕ) → false ≡ nat_eq n 0 → 0 < n
some_in zero is = cc (is)
some_in (suc n) is = omega arith

-- commands below the base are no more than it
few_fit : (from base : ℕ) (commands : List NumberedEntry) → from ≤ base → AreCommands from base commands → from + length commands ≤ base
few_fit from base [] le are = omega (arith, le)
few_fit from base (r ∷ commands) le (least, less, command, more) =
    let rest = few_fit (r.0 + 1) base commands (omega (arith, less)) more in
    omega (arith, least, rest)

pub make_up : (base : ℕ) (commands : List NumberedRecord) (parts : List RawRecord) → base ≤ 4294967295 → 0 < length commands
    → AreCommands 0 base (all_numbered commands) → All IsPartEntry (entries_of parts) → length parts ≤ 4294967295
    → MakeUpCheckpoint base (all_numbered commands) (entries_of parts)
make_up base commands parts low some are each few =
    let count : length (all_numbered commands) ≡ length commands = length-map commands _ in
    let count_parts : length (entries_of parts) ≡ length parts = length-map parts _ in
    let most = few_fit 0 base (all_numbered commands) (omega arith) are in
    record {
      low = low;
      some = omega (arith, some, count);
      few_commands = omega (arith, most, low);
      few_parts = omega (arith, few, count_parts);
      commands = are;
      parts = each;
    }

module _ {D : Type 0} {G : Ghosts D} where
  pub planned_over : (old new : SlotJournal D G) (base count : ℕ) (commands : List NumberedRecord) (all : List NumberedEntry) (parts : List RawRecord)
      → Plans (planned_slot old base commands parts) old new → base ≡ count → all_numbered commands ≡ all
      → PlansOver count all (entries_of parts) old new
  planned_over old new base count commands all parts plans is same = record {
    planned = planned_slot old base commands parts;
    plans = plans;
    base_is = is;
    commands_are = same;
    parts_are = refl;
    bare = refl;
  }

  pub plan_stop : (base : ℕ) (commands : List NumberedEntry) (old : SlotJournal D G) (refused : Refused) → IsPlanRefusal old refused
      → IsPlanOverRefusal base commands old refused
  plan_stop base commands old _ plan_memory = over_memory
  plan_stop base commands old _ (plan_after_failure failed) = over_failure failed

  -- ---- over the records that it writes
  module _ (old new : SlotWriterHalf D G) where
    -- so many records were stored or wait, and these are the commands among them
    abbrev count : ℕ
    count = records_stored old.journal + length old.waiting.items

    abbrev kept : List NumberedEntry
    kept = all_numbered old.commands.items ++ commands_from (records_stored old.journal) (entries_of old.waiting.items)

    count_is : (slot other : Slot) (records : List VersionedEntry) (stored : ℕ) → Writes slot other records stored old → count ≡ length records
    count_is slot other records stored writes =
        let stands = writes.behind.stands.count ∙ writes.behind.count in
        let waiting = sym (length-map old.waiting.items entry_of) ∙ ap length writes.waiting ∙ length-map (drop stored records) plain
        ∙ length-drop stored records in
        let some = writes.behind.some in
        omega (arith, stands, waiting, some)

    kept_are : (slot other : Slot) (records : List VersionedEntry) (stored : ℕ) → Writes slot other records stored old → kept ≡ commands_of records
    kept_are slot other records stored writes =
        let first = map plain (take stored records) in
        let rest = map plain (drop stored records) in
        let early : 0 + length first ≡ stored =
        let short = length-take-le stored records writes.behind.some in omega (arith, short, length-map (take stored records) plain) in
        ap (λ (rs : List NumberedEntry). rs ++ commands_from (records_stored old.journal) (entries_of old.waiting.items)) writes.commands
        ∙ ap (λ (n : ℕ). commands_of (take stored records) ++ commands_from n (entries_of old.waiting.items)) (writes.behind.stands.count ∙ writes.behind.count)
        ∙ ap (λ (es : List Entry). commands_of (take stored records) ++ commands_from stored es) writes.waiting
        ∙ ap (λ (n : ℕ). commands_of (take stored records) ++ commands_from n rest) (sym early)
        ∙ sym (commands_both 0 first rest)
        ∙ ap (commands_from 0) (sym (map-append plain (take stored records) (drop stored records)))
        ∙ ap commands_of (take-append-drop stored records)

    pub all_planned : (parts : List Entry) → new.waiting.items ≡ old.waiting.items → new.commands.items ≡ old.commands.items
        → PlansOver count kept parts old.journal new.journal → PlansAllOver parts old new
    all_planned parts same commands plans slot other records stored writes = record {
      planned = plans.planned;
      plans = plans.plans;
      base = plans.base_is ∙ count_is slot other records stored writes;
      commands = plans.commands_are ∙ kept_are slot other records stored writes;
      parts_are = plans.parts_are;
      bare = plans.bare;
      writes = plan_writes old new plans.planned same commands plans.plans slot other records stored writes
          (all_spelled old.journal new.journal plans.planned slot other records stored writes.behind plans.plans
          (plans.base_is ∙ count_is slot other records stored writes));
    }

    pub none_kept : kept ≡ [] → HasNoCommand old
    none_kept none slot other records stored writes = sym (kept_are slot other records stored writes) ∙ none

    pub all_refused : (refused : Refused) → IsPlanOverRefusal count kept old.journal refused → IsPlanAllRefusal old refused
    all_refused _ over_memory = all_memory
    all_refused _ (over_failure failed) = all_failed failed
    all_refused _ (over_limit most) = all_unfit (λ slot other records stored writes fit.
        let is = count_is slot other records stored writes in
        let few = writes.behind.few in
        omega (arith, most, is, few))
    all_refused _ (over_unfit unfit) = all_unfit (λ slot other records stored writes fit.
        unfit (subst (λ (n : ℕ). AreCommands 0 n kept) (sym (count_is slot other records stored writes))
        (subst (λ (rs : List NumberedEntry). AreCommands 0 (length records) rs) (sym (kept_are slot other records stored writes)) fit)))

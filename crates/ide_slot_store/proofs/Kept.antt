-- The commands that a writer keeps are those among the stored records.
use Rattle.std.proofs.Common.{◌≡◌, ◌∙◌, ◌+◌, ◌<◌, ℕ, All, Bool, true, false, List, [], ◌∷◌, ◌++◌, Some, length, Result, Ok, Err, map, take, refl, ap, sym, subst, arith}
use Rattle.std.specs.Global.{Vec}
use Rattle.std.specs.Prelude.{IfErr, IfOk, OnErr, OnOk, slice_get}
use Rattle.std.specs.List.{filter}
use Rattle.std.proofs.lemmas.List.Elements.{All-drop, filter-append}
use Rattle.std.proofs.lemmas.Bool.{le-leb}
use Rattle.std.proofs.lemmas.List.{append-nil, append_assoc, length-append, length-map, length-take-le, map-append}
use Rattle.ide_disk.specs.Disk.{DiskState}
use Rattle.ide_disk.specs.declared.disk.Disk.{Ghosts}
use Rattle.ide_journal.specs.Format.{Entry, head_of}
use Rattle.ide_journal.specs.Lists.{entry_of}
use Rattle.ide_journal.specs.declared.record.RawRecord.{RawRecord}
use Rattle.ide_journal.specs.declared.version.Version.{Version}
use Rattle.ide_journal.specs.declared.version.Version.TheVariants.{Two}
use Rattle.ide_slot_journal.specs.Checkpoints.{FillsOrTurns, IsCheckpointRefusal, checkpoint_after_failure, checkpoint_device}
use Rattle.ide_slot_journal.specs.Opened.{IsOpeningRefusal, OpensOn, opening_slot}
use Rattle.ide_slot_journal.specs.Records.{KeepsOther, KeepsRecord}
use Rattle.ide_slot_journal.specs.Stands.{HasFaulted}
use Rattle.ide_slot_journal.specs.declared.journal.SlotJournal.{SlotJournal}
use Rattle.ide_slots.specs.declared.record.NumberedRecord.{NumberedRecord}
use Rattle.ide_wire.specs.declared.refused.Refused.{Refused}
use Rattle.ide_wire.specs.declared.refused.Refused.TheVariants.{NoMemory}
use Rattle.ide_store.specs.Handing.{HandsAll, HandsTo, gave, kept}
use Rattle.ide_store.specs.Table.{TableData}
use Rattle.ide_slots.specs.Reading.{Tells}
use Rattle.ide_slots.specs.Refusals.{slot_memory}
use Rattle.ide_slots.specs.Sides.{Sides, on}
use Rattle.ide_slots.specs.Slot.{AreCommands, HoldsSlot, IsCommandEntry, IsPartEntry, IsSlot, NumberedEntry, Slot, first_slot, numbered_from, records_of, slot_head, slot_header}
use Rattle.ide_slots.specs.Two.{reads_two}
use Rattle.ide_slots.specs.declared.side.Side.{Side}
use Rattle.ide_slots.specs.declared.side.Side.TheVariants.{First, Second}
use Rattle.ide_slots.proofs.Heads.{length-slot_header}
use Rattle.ide_store.proofs.OneDisk.{next_taken}
use Rattle.ide_store.proofs.TwoDisksPlans.{commands_both}
use Rattle.ide_store.specs.Versioned.{VersionedEntry, plain}
use Rattle.ide_store.specs.TwoDisks.{commands_from, commands_of, is_command}
use Rattle.ide_slot_store.specs.Commands.{HasRoomForNext}

-- ---- commands among records one after the other: one record more
pub commands_more : (records : List VersionedEntry) (stored : ℕ) (version : Version) (entry : Entry) → slice_get records stored ≡ Some (version, entry)
    → commands_of (take (stored + 1) records) ≡ commands_of (take stored records) ++ commands_from stored (entry ∷ [])
commands_more records stored version entry is =
    let taken = next_taken records stored (version, entry) is in
    let less = taken.0 in
    let first = map plain (take stored records) in
    let count : 0 + length first ≡ stored =
    let short = length-take-le stored records (omega (arith, less)) in omega (arith, short, length-map (take stored records) plain) in
    ap commands_of taken.1 ∙ ap (commands_from 0) (map-append plain (take stored records) ((version, entry) ∷ []))
    ∙ commands_both 0 first (entry ∷ [])
    ∙ ap (λ (n : ℕ). commands_of (take stored records) ++ commands_from n (entry ∷ [])) count

-- ---- commands among those of a slot
kept_first : (r : NumberedEntry) (records : List NumberedEntry) → is_command r ≡ true → filter is_command (r ∷ records) ≡ r ∷ filter is_command records
kept_first r records is = rw is refl

left_first : (r : NumberedEntry) (records : List NumberedEntry) → is_command r ≡ false → filter is_command (r ∷ records) ≡ filter is_command records
left_first r records is = rw is refl

-- a command is one, and a part is none
is_one : (r : NumberedEntry) → IsCommandEntry r.1 → is_command r ≡ true
is_one r command = rw (le-leb 1 r.1.0 command.some_kind, le-leb r.1.0 2 command.known_kind) refl

is_none : (r : NumberedEntry) → IsPartEntry r.1 → is_command r ≡ false
is_none r part = rw part.kind refl

all_kept : (from base : ℕ) (records : List NumberedEntry) → AreCommands from base records → filter is_command records ≡ records
all_kept from base [] are = refl
all_kept from base (r ∷ records) (least, less, command, more) =
    kept_first r records (is_one r command) ∙ ap (λ (rs : List NumberedEntry). r ∷ rs) (all_kept (r.0 + 1) base records more)

none_kept : (number : ℕ) (parts : List Entry) → All IsPartEntry parts → filter is_command (numbered_from number parts) ≡ []
none_kept number [] are = refl
none_kept number (part ∷ parts) are =
    left_first (number, part) (numbered_from (number + 1) parts) (is_none (number, part) (are 0 part (omega arith)))
    ∙ none_kept (number + 1) parts (All-drop IsPartEntry 1 (part ∷ parts) are)

pub slot_commands : (slot : Slot) → IsSlot slot
    → filter is_command (records_of slot) ≡ slot.commands ++ filter is_command (numbered_from slot.base slot.rest)
slot_commands slot proper =
    let parts : List NumberedEntry = numbered_from 0 slot.parts in
    let rest : List NumberedEntry = numbered_from slot.base slot.rest in
    filter-append is_command (slot.commands ++ parts) rest
    ∙ ap (λ (rs : List NumberedEntry). rs ++ filter is_command rest)
    (filter-append is_command slot.commands parts
    ∙ ap (λ (rs : List NumberedEntry). rs ++ filter is_command parts) (all_kept 0 slot.base slot.commands proper.commands)
    ∙ ap (λ (rs : List NumberedEntry). slot.commands ++ rs) (none_kept 0 slot.parts proper.parts)
    ∙ append-nil slot.commands)

-- ---- room for the next record
-- what waits with the writer, waits on where a record is under way
pub room_over : {F D : Type 0} {G : Ghosts D} (old new : TableData F) (journal : SlotJournal D G) (before after : List RawRecord)
    (commands : Vec NumberedRecord) → HandsTo old new before after → HasRoomForNext journal (length before) commands
    → HasRoomForNext journal (length after) commands
room_over old new journal before after commands (gave none took same) has busy well =
    let waits = (has busy well).waits in
    let no = ap length none in
    absurd (omega (arith, waits, no))
room_over old new journal before after commands (kept some items same) has busy well =
    let room = has busy well in
    record { waits = subst (λ (xs : List RawRecord). 0 < length xs) (sym items) room.waits; numbered = room.numbered; room = room.room }

-- and where those that wait with the half that works are behind those that waited, or wait on there
pub room_over_all : {F D : Type 0} {G : Ghosts D} (result : Result Unit Refused) (old new : TableData F) (journal : SlotJournal D G)
    (before after : List RawRecord) (commands : Vec NumberedRecord) → OnOk result (HandsAll old new before after)
    → OnErr result (after ≡ before) → HasRoomForNext journal (length before) commands → HasRoomForNext journal (length after) commands
room_over_all (Ok done) old new journal before after commands hands same has busy well =
    let room = has busy well in
    let waits = room.waits in
    let all = sym (length-map after entry_of) ∙ ap length hands.waits ∙ length-append (map entry_of before) old.waiting in
    let own = length-map before entry_of in
    record { waits = omega (arith, waits, all, own); numbered = room.numbered; room = room.room }
room_over_all (Err refused) old new journal before after commands hands same has busy well =
    let room = has busy well in
    record { waits = subst (λ (xs : List RawRecord). 0 < length xs) (sym same) room.waits; numbered = room.numbered; room = room.room }

module _ {D : Type 0} {G : Ghosts D} (old new : SlotJournal D G) where
  -- as long as no call fails, the same record is under way
  pub room_stays : (waiting : ℕ) (commands : Vec NumberedRecord) → new.count ≡ old.count → ((HasFaulted new → ⊥) → new.stage ≡ old.stage)
      → HasRoomForNext old waiting commands → HasRoomForNext new waiting commands
  room_stays waiting commands count same has busy well =
      let is = same well in
      let room = has (λ idle. busy (is ∙ idle)) (λ failed. well (is ∙ failed)) in
      record { waits = room.waits; numbered = subst (λ (n : ℕ). n < 4294967295) (sym count) room.numbered; room = room.room }

  -- over a call of a checkpoint
  pub stage_stays : (result : Result Bool Refused) → IfOk result (FillsOrTurns old new) → IfErr result (IsCheckpointRefusal old new)
      → (HasFaulted old → KeepsRecord old new × KeepsOther old new) → (HasFaulted new → ⊥) → new.stage ≡ old.stage
  stage_stays (Ok false) moves refused same well = moves.stage
  stage_stays (Ok true) moves refused same well = moves.stage
  stage_stays (Err e) moves refused same well = go e refused
    where
      go : (e : Refused) → IsCheckpointRefusal old new e → new.stage ≡ old.stage
      go _ (checkpoint_device failed fails filler) = absurd (well failed)
      go _ (checkpoint_after_failure failed) = (same failed).0.stage

-- ---- want of memory for the commands that were found
-- the slot that an opening took is current
held_tells : (slot : Slot) (bytes : List ℕ) → HoldsSlot slot bytes → Tells (slot_head slot) bytes × (4096 < length bytes)
held_tells slot bytes holds =
    let page = slot_header (slot_head slot) in
    let behind : List ℕ = holds.whole.pages ++ 0 ∷ holds.closed.rest in
    let split : bytes ≡ page ++ behind =
    holds.closed.split ∙ ap (λ (xs : List ℕ). xs ++ 0 ∷ holds.closed.rest) holds.whole.split ∙ append_assoc page holds.whole.pages (0 ∷ holds.closed.rest) in (
      record { valid = holds.whole.proper.valid; rest = behind; split = split },
      omega (
        arith,
        ap length split,
        length-append page behind,
        length-append holds.whole.pages (0 ∷ holds.closed.rest),
        length-slot_header (slot_head slot),
      ),
    )

same_read : (side : Side) (disks : Sides DiskState) → (on side disks).now ≡ on side (reads_two disks)
same_read First disks = refl
same_read Second disks = refl

pub no_memory_found : {D : Type 0} {G : Ghosts D} (tag : ℕ) (disks : Sides DiskState) (journal : SlotJournal D G) (found : List NumberedRecord)
    → OpensOn tag disks journal found → IsOpeningRefusal tag (reads_two disks) NoMemory
no_memory_found tag disks journal found opens =
    let other = first_slot (head_of Two tag) [] in
    let tells = held_tells opens.slot (on journal.side (reads_two disks))
    (subst (λ (bytes : List ℕ). HoldsSlot opens.slot bytes) (same_read journal.side disks) opens.held) in
    opening_slot journal.side (slot_head opens.slot)
    (record { chosen = (opens.opens other).chosen; tells = tells.0; gate = tells.1 }) slot_memory

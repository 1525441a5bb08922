-- What the writing half of a store on two disks does is what the store allows.
use Rattle.std.proofs.Common.{◌≡◌, ◌≢◌, ◌∙◌, ◌≤◌, ◌<◌, ◌+◌, ℕ, All, Bool, true, List, [], ◌∷◌, ◌++◌, Option, Some, None, Result, Ok, Err, length, map, drop, take, refl, ap, sym, subst, arith, inl, inr}
use Rattle.std.specs.List.{AllByRecursion, filter}
use Rattle.std.specs.Option.{option_map}
use Rattle.std.specs.Prelude.{OnOk, slice_get}
use Rattle.std.proofs.lemmas.Bool.{cases_lt}
use Rattle.std.proofs.lemmas.List.Elements.{All-append, All-from_recursion, All-nil, All-tail, recursion_from_All}
use Rattle.std.proofs.lemmas.List.{drop-append-le, drop-drop, drop-map, drop_all, length-append, length-drop, map-append, take-append-le, take_all}
use Rattle.std.proofs.lemmas.Option.{same_Some, slice_get-map}
use Rattle.ide_disk.specs.Disk.{CrashLeaves, DiskState}
use Rattle.ide_disk.specs.declared.disk.Disk.{Ghosts}
use Rattle.ide_journal.specs.Format.{Entry, IsEntry, head_of}
use Rattle.ide_journal.specs.Lists.{entries_of, entry_of}
use Rattle.ide_journal.specs.declared.record.RawRecord.{RawRecord}
use Rattle.ide_journal.specs.declared.stage.Phase.{Phase}
use Rattle.ide_journal.specs.declared.version.Version.{Version}
use Rattle.ide_journal.specs.declared.version.Version.TheVariants.{Two}
use Rattle.ide_slot_journal.specs.Checkpoints.{LeavesInCheckpoint, MakesCheckpointStep, filling_writer}
use Rattle.ide_slot_journal.specs.Making.{StandsEmpty}
use Rattle.ide_slot_journal.specs.Moments.{before_call, within_call}
use Rattle.ide_slot_journal.specs.Opened.{OpensOn, states_of}
use Rattle.ide_slot_journal.specs.Plans.{Plans}
use Rattle.ide_slot_journal.specs.Records.{LeavesInRecord, MakesRecordStep, PutsNext, PutsNone}
use Rattle.ide_slot_journal.specs.Stages.{IsFillingAt, IsTurnAt, checkpoint_at}
use Rattle.ide_slot_journal.specs.Stands.{AreHonest, HasNoNext, IsFilling, IsTurn, StandsOn, checkpoint_of, disks_of, filling_of, sides_of, slot_writer}
use Rattle.ide_slot_journal.specs.declared.filler.Filler.{Filler}
use Rattle.ide_slot_journal.specs.declared.journal.SlotJournal.{SlotJournal}
use Rattle.ide_slot_journal.specs.declared.stage.FillStage.{FillStage}
use Rattle.ide_slot_journal.specs.declared.stage.FillStage.TheVariants as fills
use Rattle.ide_slot_journal.proofs.Checkpoints.{begins}
use Rattle.ide_slots.specs.Records.{all_numbered}
use Rattle.ide_slots.specs.Sides.{Sides, two_sides}
use Rattle.ide_slots.specs.Slot.{NumberedEntry, Slot}
use Rattle.ide_slots.specs.Two.{LeavesTwo, SlotWriter}
use Rattle.ide_slots.specs.TwoCalls.{StoresRecord}
use Rattle.ide_slots.specs.declared.record.NumberedRecord.{NumberedRecord}
use Rattle.ide_slots.specs.declared.side.Side.{Side}
use Rattle.ide_slots.specs.declared.side.Side.TheVariants.{First, Second}
use Rattle.ide_wire.specs.declared.refused.Refused.{Refused}
use Rattle.ide_store.proofs.Waiting.{front_next, more_get, none_mapped, none_waits}
use Rattle.ide_store.proofs.OneDisk.{next_taken}
use Rattle.ide_store.proofs.TwoDisks.{all_one, next_record, spelled_with}
use Rattle.ide_store.specs.TwoDisks.{AreSpelledFor, CallsTwo, FailsTwo, IsNextBehind, commands_from, commands_of, is_command, next_entry, sealing_version}
use Rattle.ide_store.specs.Versioned.{IsIn, IsPlainEntry, VersionedEntry, plain}
use Rattle.ide_slot_store.specs.Half.{CallsOver, CallsTo, CrashesStep, HasStoredAll, IsBeginRefusal, IsNewHalf, IsQuiet, KeepsWriting, MayLeave, OpensStore, PlansWriting, StepsOver, Writes, at_once, calls, fails, limit, makes, memory, stores, waits}
use Rattle.ide_slot_store.specs.Writing.{BeginsFirst, IsFirstLeft, StandsBehind}
use Rattle.ide_slot_store.specs.declared.writer.SlotWriterHalf.{SlotWriterHalf}
use Rattle.ide_slot_store.proofs.Crashes.{in_checkpoint, in_record}
use Rattle.ide_slot_store.proofs.Kept.{commands_more}
use Rattle.ide_slot_store.proofs.Writing.{CheckpointThen, RecordThen, begins_first, behind_next, busy_next, checkpoint_then, idle_none, next_of_slot, planned_behind, put_behind, record_then, still_behind, then_called, then_failed, then_filled, then_stored, then_turned, then_unfilled}

-- ---- whose turn it is
pub filling_some : (stage : FillStage) (base count : ℕ) → IsFillingAt stage base count → stage ≢ fills.Rests
filling_some fills.Rests base count turn = absurd turn
filling_some fills.Waits base count turn = λ no. cc
filling_some fills.Settles base count turn = λ no. cc
filling_some fills.Trims base count turn = λ no. cc
filling_some fills.Heads base count turn = λ no. cc
filling_some fills.Fills base count turn = λ no. cc
filling_some fills.OpensGate base count turn = λ no. cc
filling_some fills.Lasts base count turn = λ no. cc

pub turn_then : (stage : FillStage) (base count : ℕ) → (IsFillingAt stage base count → ⊥) → IsTurnAt stage base count
turn_then fills.Rests base count none = tt
turn_then fills.Waits base count none = elim (cases_lt count base) [ inl less ↦ less | inr more ↦ absurd (none more) ]
turn_then fills.Settles base count none = absurd (none tt)
turn_then fills.Trims base count none = absurd (none tt)
turn_then fills.Heads base count none = absurd (none tt)
turn_then fills.Fills base count none = absurd (none tt)
turn_then fills.OpensGate base count none = absurd (none tt)
turn_then fills.Lasts base count none = absurd (none tt)

-- what was answered
abbrev pub answered : {T : Type 0} → Result T Refused → Result Bool Refused
answered (Ok value) = Ok true
answered (Err refused) = Err refused

-- what waits is what the journal will have of the records that are still to be stored
abbrev Waits : List VersionedEntry → ℕ → List RawRecord → Type 0
Waits records stored items = map entry_of items ≡ map plain (drop stored records)

-- so it is of what the journal has of all of them
waits_plain : (records : List VersionedEntry) (stored : ℕ) (items : List RawRecord) → Waits records stored items
    → map entry_of items ≡ drop stored (map plain records)
waits_plain records stored items wait = wait ∙ sym (drop-map plain stored records)

-- what waits behind the first
rest_waits : (records : List VersionedEntry) (stored : ℕ) (items : List RawRecord) → Waits records stored items → Waits records (stored + 1) (drop 1 items)
rest_waits records stored [] wait =
    let none : drop stored records ≡ [] = none_mapped plain (drop stored records) (sym wait) in
    ap (map plain) (sym (sym (drop-drop 1 stored records) ∙ ap (drop 1) none))
rest_waits records stored (raw ∷ items) wait =
    (front_next stored (map plain records) (entry_of raw) (map entry_of items) (waits_plain records stored (raw ∷ items) wait)).1
    ∙ drop-map plain (stored + 1) records

-- and the first
oldest_waits : (records : List VersionedEntry) (stored : ℕ) (version : Version) (entry : Entry) (items : List RawRecord)
    → slice_get records stored ≡ Some (version, entry) → Waits records stored items → map entry_of (take 1 items) ≡ entry ∷ []
oldest_waits records stored version entry [] is wait =
    let less = (next_taken records stored (version, entry) is).0 in
    let none : drop stored records ≡ [] = none_mapped plain (drop stored records) (sym wait) in
    let short = ap length none in
    absurd (omega (arith, less, short, length-drop stored records))
oldest_waits records stored version entry (raw ∷ items) is wait =
    let first = (front_next stored (map plain records) (entry_of raw) (map entry_of items) (waits_plain records stored (raw ∷ items) wait)).0 in
    let same : slice_get (map plain records) stored ≡ Some entry = slice_get-map plain records stored ∙ ap (option_map plain) is in
    ap (λ (e : Entry). e ∷ []) (same_Some (entry_of raw) entry (sym first ∙ same))

first_item : {X : Type 0} (xs : List X) (x : X) → slice_get xs 0 ≡ Some x → (rest : List X) × (xs ≡ x ∷ rest)
first_item [] x is = cc
first_item (y ∷ ys) x is = (ys, let same : y ≡ x = cc in ap (λ z. z ∷ ys) same)

-- the oldest that waits is the first to be stored
first_waits : (records : List VersionedEntry) (stored : ℕ) (items : List RawRecord) (raw : RawRecord) → Waits records stored items
    → slice_get items 0 ≡ Some raw → next_entry records stored ≡ Some (entry_of raw)
first_waits records stored items raw wait found =
    let behind = first_item items raw found in
    sym (slice_get-map plain records stored)
    ∙ (front_next stored (map plain records) (entry_of raw) (map entry_of behind.0)
    (sym (ap (map entry_of) behind.1) ∙ waits_plain records stored items wait)).0

-- what is so of all of them is so of the last
pub all_behind : {X : Type 0} (P : X → Type 0) (xs ys : List X) → All P (xs ++ ys) → All P ys
all_behind P [] ys all = all
all_behind P (x ∷ xs) ys all = all_behind P xs ys (All-tail P x (xs ++ ys) all)

-- a crash at this moment leaves what the disks say
two_now : {D : Type 0} (G : Ghosts D) (side : Side) (current other : D) (left : Sides (List ℕ))
    → ((bytes : List ℕ) → G.left_since current (G.moment current) bytes → CrashLeaves (G.state current) bytes)
    → ((bytes : List ℕ) → G.left_since other (G.moment other) bytes → CrashLeaves (G.state other) bytes)
    → G.left_since (two_sides side current other).a (G.moment (two_sides side current other).a) left.a
    → G.left_since (two_sides side current other).b (G.moment (two_sides side current other).b) left.b
    → LeavesTwo (two_sides side (G.state current) (G.state other)) left
two_now G First current other left current_now other_now a b = (current_now left.a a, other_now left.b b)
two_now G Second current other left current_now other_now a b = (other_now left.a a, current_now left.b b)

module _ {D : Type 0} {G : Ghosts D} where
  -- ---- a journal on which no call was made
  quiet_disks : (old new : SlotJournal D G) → IsQuiet old new → disks_of new ≡ disks_of old
  quiet_disks old new quiet = λ i. two_sides (quiet.side i) (G.state (quiet.current i)) (G.state (quiet.other i))

  pub quiet_sides : (old new : SlotJournal D G) → IsQuiet old new → sides_of new ≡ sides_of old
  quiet_sides old new quiet = λ i. two_sides (quiet.side i) (quiet.current i) (quiet.other i)

  module _ (slot other : Slot) (records : List VersionedEntry) (stored : ℕ) (old mid new : SlotWriterHalf D G) (quiet : IsQuiet old.journal mid.journal) where
    first_too : (work : SlotWriter) → BeginsFirst records stored (slot_writer other mid.journal) (disks_of mid.journal) work
        → BeginsFirst records stored (slot_writer other old.journal) (disks_of old.journal) work
    first_too work first =
        subst (λ (w : SlotWriter). BeginsFirst records stored w (disks_of old.journal) work) (quiet.work other)
        (subst (λ (d : Sides DiskState). BeginsFirst records stored (slot_writer other mid.journal) d work) (quiet_disks old.journal mid.journal quiet) first)

    -- a call behind it is one of the journal as it was
    calls_too : (result : Result Bool Refused) → CallsTo slot other records stored mid new result → CallsTo slot other records stored old new result
    calls_too _ (calls call) = calls (record {
      event = record {
        mid = call.event.mid;
        first = first_too call.event.mid call.event.first;
        event = subst (λ (d : Sides DiskState). CallsTwo records stored call.event.mid d (slot_writer other new.journal) (disks_of new.journal))
            (quiet_disks old.journal mid.journal quiet) call.event.event;
      };
      now = call.now;
      now_is = call.now_is;
      tag = call.tag;
      writes = call.writes;
    })
    calls_too _ (stores store) = stores (record {
      event = record {
        slot = store.event.slot;
        entry = store.event.entry;
        next = subst (λ (w : SlotWriter). IsNextBehind records stored w.version store.event.slot store.event.entry) (quiet.work other) store.event.next;
        stores =
            subst (λ (w : SlotWriter). StoresRecord store.event.slot store.event.entry w (disks_of old.journal) (slot_writer other new.journal) (disks_of new.journal))
            (quiet.work other)
            (subst (λ (d : Sides DiskState). StoresRecord store.event.slot store.event.entry (slot_writer other mid.journal) d (slot_writer other new.journal) (disks_of new.journal))
            (quiet_disks old.journal mid.journal quiet) store.event.stores);
      };
      writes = store.writes;
    })
    calls_too _ (fails fail) = fails (record {
      mid = fail.mid;
      first = first_too fail.mid fail.first;
      event = subst (λ (d : Sides DiskState). FailsTwo records stored fail.mid d (disks_of new.journal))
          (quiet_disks old.journal mid.journal quiet) fail.event;
    })

  pub quiet_honest : (old new : SlotJournal D G) → IsQuiet old new → AreHonest old → AreHonest new
  quiet_honest old new quiet honest = (subst G.honest (sym quiet.current) honest.0, subst G.honest (sym quiet.other) honest.1)

  -- what is refused before any call
  pub refused_first : (old new : SlotWriterHalf D G) (refused : Refused) → IsBeginRefusal old refused → IsQuiet old.journal new.journal
      → KeepsWriting old new → StepsOver old new (Err refused)
  refused_first old new _ memory quiet keeps slot other records stored writes =
      waits (record { quiet = quiet; writes = keeps slot other records stored writes })
  refused_first old new _ (limit never) quiet keeps slot other records stored writes = absurd (never slot other records stored writes)

  -- a step makes such a call
  pub stepped : (old mid new : SlotWriterHalf D G) (result : Result Bool Refused) → IsQuiet old.journal mid.journal → KeepsWriting old mid
      → CallsOver mid new result → StepsOver old new result
  stepped old mid new result quiet keeps call slot other records stored writes =
      makes (calls_too slot other records stored old mid new quiet result (call slot other records stored (keeps slot other records stored writes)))

  -- ---- a call for the record under way, and one of a checkpoint
  module _ (old new : SlotWriterHalf D G) (result : Result Phase Refused) (busy : HasNoNext old.journal → ⊥)
      (step : MakesRecordStep old.journal new.journal result) where
    -- one after which a record is under way
    pub called_on : (HasNoNext new.journal → ⊥) → new.waiting.items ≡ old.waiting.items → new.commands.items ≡ old.commands.items
        → CallsOver old new (answered result)
    called_on more same kept slot other records stored writes =
        go result (record_then slot other records stored old.journal new.journal result writes.behind busy step)
      where
        go : (result : Result Phase Refused) → RecordThen slot other records stored old.journal new.journal result
            → CallsTo slot other records stored old new (answered result)
        go _ (then_called event behind still filler) = calls (record {
          event = event;
          now = slot;
          now_is = inl refl;
          tag = refl;
          writes = record {
            behind = behind;
            waiting = ap (map entry_of) same ∙ writes.waiting;
            commands = ap all_numbered kept ∙ writes.commands;
          };
        })
        go _ (then_stored event behind idle filler) = absurd (more idle)
        go _ (then_failed event) = fails event

    -- one after which none is
    pub called_last : HasNoNext new.journal → new.waiting.items ≡ drop 1 old.waiting.items
        → all_numbered new.commands.items ≡ all_numbered old.commands.items ++ commands_from old.journal.count (entries_of (take 1 old.waiting.items))
        → CallsOver old new (answered result)
    called_last idle rest kept slot other records stored writes =
        go result (record_then slot other records stored old.journal new.journal result writes.behind busy step)
      where
        go : (result : Result Phase Refused) → RecordThen slot other records stored old.journal new.journal result
            → CallsTo slot other records stored old new (answered result)
        go _ (then_called event behind still filler) = absurd (still idle)
        go _ (then_stored event behind none filler) = stores (record {
          event = event;
          writes = record {
            behind = behind;
            waiting = ap (map entry_of) rest ∙ rest_waits records stored old.waiting.items writes.waiting;
            commands = kept
                ∙ ap (λ (rs : List NumberedEntry). rs ++ commands_from old.journal.count (entries_of (take 1 old.waiting.items))) writes.commands
                ∙ ap (λ (n : ℕ). commands_of (take stored records) ++ commands_from n (entries_of (take 1 old.waiting.items)))
                (writes.behind.stands.count ∙ writes.behind.count)
                ∙ ap (λ (es : List Entry). commands_of (take stored records) ++ commands_from stored es)
                (oldest_waits records stored old.journal.version event.entry old.waiting.items event.next.next_is writes.waiting)
                ∙ sym (commands_more records stored old.journal.version event.entry event.next.next_is);
          };
        })
        go _ (then_failed event) = fails event

  -- a call that is refused
  pub refused_call : (old new : SlotWriterHalf D G) (refused : Refused) → (HasNoNext old.journal → ⊥)
      → MakesRecordStep old.journal new.journal (Err refused) → CallsOver old new (Err refused)
  refused_call old new refused busy step slot other records stored writes =
      go (Err refused) (record_then slot other records stored old.journal new.journal (Err refused) writes.behind busy step)
    where
      Told : Result Phase Refused → Type 0
      Told (Ok phase) = Unit {0}
      Told (Err e) = CallsTo slot other records stored old new (Err e)

      go : (result : Result Phase Refused) → RecordThen slot other records stored old.journal new.journal result → Told result
      go _ (then_called event behind still filler) = tt
      go _ (then_stored event behind none filler) = tt
      go _ (then_failed event) = fails event

  pub filled : (old new : SlotWriterHalf D G) (result : Result Bool Refused) → new.waiting.items ≡ old.waiting.items
      → new.commands.items ≡ old.commands.items → IsFilling old.journal → MakesCheckpointStep old.journal new.journal result
      → CallsOver old new (answered result)
  filled old new result same kept turn step slot other records stored writes =
      go result (checkpoint_then slot other records stored old.journal new.journal result writes.behind
      (filling_some old.journal.filler.stage old.journal.filler.base old.journal.count turn) step)
    where
      waits : map entry_of new.waiting.items ≡ map plain (drop stored records)
      waits = ap (map entry_of) same ∙ writes.waiting

      keeps : all_numbered new.commands.items ≡ commands_of (take stored records)
      keeps = ap all_numbered kept ∙ writes.commands

      go : (result : Result Bool Refused) → CheckpointThen slot other records stored old.journal new.journal result
          → CallsTo slot other records stored old new (answered result)
      go _ (then_filled event behind) =
          calls (record { event = event; now = slot; now_is = inl refl; tag = refl; writes = record { behind = behind; waiting = waits; commands = keeps } })
      go _ (then_turned event behind base tag) =
          calls (record { event = event; now = other; now_is = inr refl; tag = tag; writes = record { behind = behind; waiting = waits; commands = keeps } })
      go _ (then_unfilled event) = fails event

  -- ---- crashes
  -- within a call for the next record
  pub record_crashes : (old mid new : SlotWriterHalf D G) → IsQuiet old.journal mid.journal → KeepsWriting old mid
      → (HasNoNext mid.journal → ⊥) → LeavesInRecord mid.journal new.journal → CrashesStep old new
  record_crashes old mid new quiet keeps busy leaves slot other records stored writes left a b =
      let behind = (keeps slot other records stored writes).behind in
      let has = busy_next slot other behind.next mid.journal behind.stands busy in
      let next = behind_next slot other records stored mid.journal has.0 behind has.1 in
      let stands : StandsOn slot (Some has.0) other mid.journal =
      subst (λ (o : Option Entry). StandsOn slot o other mid.journal) has.1 behind.stands in
      let same = quiet_sides old.journal mid.journal quiet in
      let may : MayLeave records stored (slot_writer other mid.journal) (disks_of mid.journal) left =
      elim (leaves slot has.0 other stands left
      (subst (λ (s : Sides D). G.left_since (sides_of new.journal).a (G.moment s.a) left.a) (sym same) a)
      (subst (λ (s : Sides D). G.left_since (sides_of new.journal).b (G.moment s.b) left.b) (sym same) b)) [
        | before_call before ↦ at_once before
        | within_call crash ↦ in_record records stored (slot_writer other mid.journal) (disks_of mid.journal) left slot has.0 next crash
      ] in
      subst (λ (w : SlotWriter). MayLeave records stored w (disks_of old.journal) left) (quiet.work other)
      (subst (λ (d : Sides DiskState). MayLeave records stored (slot_writer other mid.journal) d left) (quiet_disks old.journal mid.journal quiet) may)

  -- within one of a checkpoint
  pub checkpoint_crashes : (old new : SlotWriterHalf D G) → IsFilling old.journal → LeavesInCheckpoint old.journal new.journal → CrashesStep old new
  checkpoint_crashes old new turn leaves slot other records stored writes left a b =
      let journal = old.journal in
      let behind = writes.behind in
      elim (leaves slot behind.next other behind.stands left a b) [
        | before_call before ↦ at_once before
        | within_call crash ↦ in_checkpoint records stored (slot_writer other journal) (disks_of journal) left (filling_writer other journal)
            (begins_first slot other records stored journal behind.count
            (filling_some journal.filler.stage journal.filler.base journal.count turn)
            (begins slot behind.next other journal behind.stands turn)) crash
      ]

  -- where no call is made
  pub still_crashes : (old new : SlotWriterHalf D G) → IsQuiet old.journal new.journal
      → ((bytes : List ℕ) → G.left_since old.journal.current (G.moment old.journal.current) bytes → CrashLeaves (G.state old.journal.current) bytes)
      → ((bytes : List ℕ) → G.left_since old.journal.other (G.moment old.journal.other) bytes → CrashLeaves (G.state old.journal.other) bytes)
      → CrashesStep old new
  still_crashes old new quiet current_now other_now slot other records stored writes left a b =
      let same = quiet_sides old.journal new.journal quiet in
      at_once (two_now G old.journal.side old.journal.current old.journal.other left current_now other_now
      (subst (λ (s : Sides D). G.left_since s.a (G.moment (sides_of old.journal).a) left.a) same a)
      (subst (λ (s : Sides D). G.left_since s.b (G.moment (sides_of old.journal).b) left.b) same b))

  -- ---- records that are put under way
  -- the journal has fewer records than there may be, where one waits
  pub within_limit : (old : SlotWriterHalf D G) (slot other : Slot) (records : List VersionedEntry) (stored : ℕ) → Writes slot other records stored old
      → (raw : RawRecord) → slice_get old.waiting.items 0 ≡ Some raw → old.journal.count < 4294967295
  within_limit old slot other records stored writes raw found =
      let next = next_record (slice_get records stored) (entry_of raw) (first_waits records stored old.waiting.items raw writes.waiting found) in
      let less = (next_taken records stored (next.0, entry_of raw) next.1).0 in
      let count = writes.behind.stands.count ∙ writes.behind.count in
      let few = writes.behind.few in
      omega (arith, count, less, few)

  -- all are stored, where none waits
  pub all_stored : (half : SlotWriterHalf D G) → half.waiting.items ≡ [] → HasStoredAll half
  all_stored half none slot other records stored writes =
      none_waits stored records writes.behind.some (sym (none_mapped plain (drop stored records) (sym writes.waiting ∙ ap (map entry_of) none)))

  pub put_writes : (old new : SlotWriterHalf D G) (raw : RawRecord) → new.waiting.items ≡ old.waiting.items
      → new.commands.items ≡ old.commands.items → HasNoNext old.journal → IsTurn old.journal → slice_get old.waiting.items 0 ≡ Some raw
      → PutsNext (entry_of raw) old.journal new.journal → new.journal.filler ≡ old.journal.filler → KeepsWriting old new
  put_writes old new raw same kept idle turn found puts filler slot other records stored writes =
      let next = next_record (slice_get records stored) (entry_of raw) (first_waits records stored old.waiting.items raw writes.waiting found) in
      let version = next_of_slot slot other records stored old.journal writes.behind turn (next.0, entry_of raw) next.1 in
      record {
        behind = put_behind slot other records stored old.journal new.journal (entry_of raw) writes.behind idle
            (next.1 ∙ ap (λ (v : Version). Some (v, entry_of raw)) version) puts filler;
        waiting = ap (map entry_of) same ∙ writes.waiting;
        commands = ap all_numbered kept ∙ writes.commands;
      }

  pub none_writes : (old new : SlotWriterHalf D G) → new.waiting.items ≡ old.waiting.items
      → new.commands.items ≡ old.commands.items → HasNoNext old.journal → PutsNone old.journal new.journal
      → new.journal.filler ≡ old.journal.filler → KeepsWriting old new
  none_writes old new same kept idle puts filler slot other records stored writes =
      let none = idle_none slot other writes.behind.next old.journal writes.behind.stands idle in
      record {
        behind = still_behind slot other records stored old.journal new.journal writes.behind
            (subst (λ (o : Option Entry). StandsOn slot o other new.journal) (sym none)
            (puts slot other (subst (λ (o : Option Entry). StandsOn slot o other old.journal) none writes.behind.stands)))
            (subst (λ (f : Filler). AreSpelledFor old.journal.version (checkpoint_of other f) records stored) (sym filler) writes.behind.spelled);
        waiting = ap (map entry_of) same ∙ writes.waiting;
        commands = ap all_numbered kept ∙ writes.commands;
      }

  -- ---- a checkpoint that is planned
  pub plan_writes : (old new : SlotWriterHalf D G) (planned : Slot) → new.waiting.items ≡ old.waiting.items
      → new.commands.items ≡ old.commands.items → Plans planned old.journal new.journal → PlansWriting planned old new
  plan_writes old new planned same kept plans slot other records stored writes spelled = record {
    behind = planned_behind old.journal new.journal planned slot other records stored writes.behind plans spelled;
    waiting = ap (map entry_of) same ∙ writes.waiting;
    commands = ap all_numbered kept ∙ writes.commands;
  }

  pub if_planned : (old new : SlotWriterHalf D G) (planned : Slot) {T : Type 0} (result : Result T Refused) → new.waiting.items ≡ old.waiting.items
      → new.commands.items ≡ old.commands.items → OnOk result (Plans planned old.journal new.journal) → OnOk result (PlansWriting planned old new)
  if_planned old new planned (Ok value) same kept plans = plan_writes old new planned same kept plans
  if_planned old new planned (Err refused) same kept plans = tt

  -- ---- more records
  -- they are sealed behind the others, in the version in which records are
  pub more_behind : (slot other : Slot) (records more : List VersionedEntry) (stored : ℕ) (old new : SlotJournal D G) → new ≡ old
      → length records + length more ≤ 4294967295 → All IsPlainEntry more → All (IsIn (sealing_version (slot_writer other old))) more
      → StandsBehind slot other records stored old → StandsBehind slot other (records ++ more) stored new
  more_behind slot other records more stored old new same room proper spelled behind =
      let some = behind.some in
      let longer = length-append records more in
      subst (λ (j : SlotJournal D G). StandsBehind slot other (records ++ more) stored j) (sym same) (record {
        next = behind.next;
        stands = behind.stands;
        is_next = first_still behind.next behind.is_next;
        count = behind.count;
        some = omega (arith, longer, some);
        few = omega (arith, longer, room);
        proper = subst (λ (rs : List VersionedEntry). All IsPlainEntry rs) (sym (drop-append-le stored records more some))
            (All-append IsPlainEntry (drop stored records) more behind.proper proper);
        spelled = spelled_with records more stored old.version (checkpoint_of other old.filler) some behind.spelled spelled;
      })
    where
      first_still : (next : Option Entry) → IsFirstLeft old.version records stored next → IsFirstLeft old.version (records ++ more) stored next
      first_still None is = tt
      first_still (Some entry) is = more_get records more (old.version, entry) stored is

  pub seal_writes : (old new : SlotWriterHalf D G) (raw : RawRecord) (slot other : Slot) (records : List VersionedEntry) (stored : ℕ)
      → new.journal ≡ old.journal → new.commands.items ≡ old.commands.items → new.waiting.items ≡ old.waiting.items ++ raw ∷ []
      → IsEntry (entry_of raw) → length records < 4294967295 → Writes slot other records stored old
      → Writes slot other (records ++ (sealing_version (slot_writer other old.journal), entry_of raw) ∷ []) stored new
  seal_writes old new raw slot other records stored same kept items proper room writes =
      let r : VersionedEntry = (sealing_version (slot_writer other old.journal), entry_of raw) in
      let some = writes.behind.some in
      record {
        behind = more_behind slot other records (r ∷ []) stored old.journal new.journal same (omega (arith, room)) (all_one IsPlainEntry r proper)
            (all_one (IsIn r.0) r refl) writes.behind;
        waiting = ap (map entry_of) items ∙ map-append entry_of old.waiting.items (raw ∷ [])
            ∙ ap (λ (es : List Entry). es ++ entry_of raw ∷ []) writes.waiting
            ∙ sym (map-append plain (drop stored records) (r ∷ []))
            ∙ ap (map plain) (sym (drop-append-le stored records (r ∷ []) some));
        commands = ap all_numbered kept ∙ writes.commands
            ∙ ap commands_of (sym (take-append-le stored records (r ∷ []) some));
      }

  -- ---- a store with no record, and one that was opened
  -- where no checkpoint is begun, all are of the version of the slot
  nothing_spelled : (journal : SlotJournal D G) (other : Slot) (records : List VersionedEntry) (stored : ℕ) → journal.filler.stage ≡ fills.Rests
      → All (IsIn journal.version) (drop stored records) → AreSpelledFor journal.version (checkpoint_of other journal.filler) records stored
  nothing_spelled journal other records stored rests all =
      subst (λ (s : FillStage). AreSpelledFor journal.version (checkpoint_at s other (filling_of journal.filler)) records stored) (sym rests) all

  pub made : (tag : ℕ) (half : SlotWriterHalf D G) → StandsEmpty (head_of Two tag) half.journal → half.journal.filler.stage ≡ fills.Rests
      → half.waiting.items ≡ [] → half.commands.items ≡ [] → IsNewHalf tag half
  made tag half empty rests none bare = record {
    writes = λ other. record {
      behind = record {
        next = None;
        stands = empty other;
        is_next = tt;
        count = refl;
        some = omega arith;
        few = omega arith;
        proper = All-nil IsPlainEntry;
        spelled = nothing_spelled half.journal other [] 0 rests (All-nil (IsIn half.journal.version));
      };
      waiting = ap (map entry_of) none;
      commands = ap all_numbered bare;
    };
    rests = λ some. some rests;
  }

  pub opened_store : (tag : ℕ) (a b : D) (half : SlotWriterHalf D G) (found : List NumberedRecord)
      → OpensOn tag (states_of G a b) half.journal found → half.journal.filler.stage ≡ fills.Rests → half.waiting.items ≡ []
      → all_numbered half.commands.items ≡ filter is_command (all_numbered found) → OpensStore tag a b half found
  opened_store tag a b half found opens rests none kept = record {
    opens = opens;
    writes = λ shows other records count same.
        let nothing : drop (length records) records ≡ [] = drop_all (length records) records (omega arith) in
        let most = shows.holds.whole.proper.few in
        record {
          behind = record {
            next = None;
            stands = opens.stands shows other;
            is_next = tt;
            count = sym count;
            some = omega arith;
            few = omega (arith, count, most);
            proper = subst (λ (rs : List VersionedEntry). All IsPlainEntry rs) (sym nothing) (All-nil IsPlainEntry);
            spelled = nothing_spelled half.journal other records (length records) rests
                (subst (λ (rs : List VersionedEntry). All (IsIn half.journal.version) rs) (sym nothing) (All-nil (IsIn half.journal.version)));
          };
          waiting = ap (map entry_of) none ∙ sym (ap (map plain) nothing);
          commands = kept ∙ sym same ∙ ap commands_of (sym (take_all (length records) records (omega arith)));
        };
    commands = kept;
    rests = λ some. some rests;
    none = none;
  }

-- ---- records that are taken over
pub raws_proper : (items : List RawRecord) → All IsEntry (entries_of items) → All (λ raw. IsEntry (entry_of raw)) items
raws_proper items all = All-from_recursion (λ raw. IsEntry (entry_of raw)) items (each items (recursion_from_All IsEntry (entries_of items) all))
  where
    each : (raws : List RawRecord) → AllByRecursion IsEntry (entries_of raws) → AllByRecursion (λ raw. IsEntry (entry_of raw)) raws
    each [] all_of = tt
    each (raw ∷ raws) all_of = (all_of.0, each raws all_of.1)

pub proper_raws : (items : List RawRecord) → All (λ raw. IsEntry (entry_of raw)) items → All IsEntry (entries_of items)
proper_raws items all = All-from_recursion IsEntry (entries_of items) (each items (recursion_from_All (λ raw. IsEntry (entry_of raw)) items all))
  where
    each : (raws : List RawRecord) → AllByRecursion (λ raw. IsEntry (entry_of raw)) raws → AllByRecursion IsEntry (entries_of raws)
    each [] all_of = tt
    each (raw ∷ raws) all_of = (all_of.0, each raws all_of.1)

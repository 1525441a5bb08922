-- Two disks as a store begin, and go on wherever there is work to do.
use Rattle.std.proofs.Common.{◌≡◌, ◌≢◌, ◌<◌, ℕ, zero, suc, List, [], ◌∷◌, Option, Some, None, length, ◌∙◌, refl, ap, sym, subst, arith, inl, inr}
use Rattle.std.specs.Option.{option_map}
use Rattle.std.specs.Prelude.{slice_get, take}
use Rattle.std.proofs.lemmas.List.Elements.{All-nil}
use Rattle.ide_disk.specs.Disk.{DiskState}
use Rattle.ide_journal.specs.Format.{Entry, Head}
use Rattle.ide_journal.specs.declared.version.Version.{Version}
use Rattle.ide_journal.specs.declared.stage.Phase.{Phase}
use Rattle.ide_journal.specs.declared.stage.Phase.TheVariants as phases
use Rattle.ide_slots.specs.Filling.{Closes, Fills, Filling, Heads, Lasts, OpensGate, Settles, Trims}
use Rattle.ide_slots.specs.Sides.{Sides, off}
use Rattle.ide_slots.specs.Slot.{Slot, first_slot, slot_count}
use Rattle.ide_slots.specs.Two.{Beside, Checkpoint, NotBegun, Planned, SlotWriter, StandsTwo, UnderWay}
use Rattle.ide_slots.specs.TwoCalls.{IsDue, IsRecordsTurn}
use Rattle.ide_slots.proofs.Begins.{stores_begin, writers_go_on}
use Rattle.ide_store.proofs.TwoDisks.{get_taken, one_next, plan_within, stored_count}
use Rattle.ide_store.specs.Versioned.{IsIn, IsPlainEntry, VersionedEntry, in_version, plain}
use Rattle.ide_store.specs.TwoDisks.{AreSpelledFor, BeginsCalls, ForRecord, HasPlan, InCheckpoint, IsListOf, IsNextBehind, LastInCheckpoint, next_entry}
use Rattle.ide_store.specs.TwoDisksLaws.{CanGoOn, TwoDisksBegin, TwoDisksGoOn}
use Rattle.ide_store.specs.World.{Rules}

first_list : {Image Step : Type 0} (rules : Rules Image Step VersionedEntry) (head : Head) (records : List Entry)
    → IsListOf rules (in_version head.version records) (first_slot head records)
first_list rules head records = record {
  within = omega arith;
  commands = refl;
  image = λ image. (λ folded. folded, λ folded. folded);
  rest = refl;
}

pub two_disks_begin : {Image Step : Type 0} (rules : Rules Image Step VersionedEntry) → TwoDisksBegin rules
two_disks_begin rules = record {
  created = λ head tag. record {
    slot = first_slot head [];
    tag_is = refl;
    list = first_list rules head [];
    stands = stores_begin.created head tag;
    some = omega arith;
    few = omega arith;
    proper = All-nil IsPlainEntry;
    spelled = All-nil (IsIn head.version);
    plan = tt;
  };
  adopted = λ head records bytes other tag holds closed. record {
    slot = first_slot head records;
    tag_is = refl;
    shows = stores_begin.adopted head records bytes other tag holds closed;
    list = first_list rules head records;
  };
}

some_there : {X : Type 0} (xs : List X) (n : ℕ) → n < length xs → slice_get xs n ≡ None → ⊥
some_there [] n inside none = omega (arith, inside)
some_there (x ∷ xs) zero inside none = cc
some_there (x ∷ xs) (suc n) inside none = some_there xs n (omega (arith, inside)) none

-- the call of a phase is due
at_phase : (records : List VersionedEntry) (stored : ℕ) (slot : Slot) (entry : Entry) (work : SlotWriter) (disks : Sides DiskState) (phase : Phase)
    → IsNextBehind records stored work.version slot entry → IsDue slot work phase → CanGoOn records stored work disks
at_phase records stored slot entry work disks phase next due = go phase due
  where
    calls : (phase : Phase) → phase ≢ phases.Stored → IsDue slot work phase → CanGoOn records stored work disks
    calls phase more due = record {
      new = _;
      after = _;
      call = inl (ForRecord slot entry next (record { phase = phase; due = due; more = more; work_is = refl; disks_are = refl }));
    }

    go : (phase : Phase) → IsDue slot work phase → CanGoOn records stored work disks
    go phases.Written due = calls phases.Written (λ same. cc) due
    go phases.BodySynced due = calls phases.BodySynced (λ same. cc) due
    go phases.GateWritten due = calls phases.GateWritten (λ same. cc) due
    go phases.Stored due = record {
      new = _;
      after = _;
      call = inr (record { slot = slot; entry = entry; next = next; stores = record { due = due; work_is = refl; disks_are = refl } });
    }

-- it is the next record's turn, which is of the version of the current slot
at_record : (records : List VersionedEntry) (stored : ℕ) (slot : Slot) (work : SlotWriter) (disks : Sides DiskState) → slot_count slot ≡ stored
    → stored < length records → StandsTwo slot (next_entry records stored) work disks → IsRecordsTurn (slot_count slot) work.checkpoint
    → ((r : VersionedEntry) → slice_get records stored ≡ Some r → r.0 ≡ work.version) → CanGoOn records stored work disks
at_record records stored slot work disks count some stands turn of = go (slice_get records stored) refl
  where
    go : (next : Option VersionedEntry) → slice_get records stored ≡ next → CanGoOn records stored work disks
    go None is = absurd (some_there records stored some is)
    go (Some r) is =
        let due = writers_go_on.due slot r.1 work disks (subst (λ (o : Option VersionedEntry). StandsTwo slot (option_map plain o) work disks) is stands) turn in
        let next_is : slice_get records stored ≡ Some (work.version, r.1) = is ∙ ap (λ (v : Version). Some (v, r.1)) (of r is) in
        at_phase records stored slot r.1 work disks due.0 (record { count = count; next_is = next_is }) due.1

-- a checkpoint makes its calls
at_fill : (records : List VersionedEntry) (stored : ℕ) (work : SlotWriter) (disks : Sides DiskState) (next : Slot) (fill : Filling)
    → work.checkpoint ≡ UnderWay next fill → CanGoOn records stored work disks
at_fill records stored work disks next fill is = go fill is
  where
    calls : (fill : Filling) → fill ≢ Lasts → work.checkpoint ≡ UnderWay next fill → CanGoOn records stored work disks
    calls fill more is = record {
      new = _;
      after = _;
      call = inl (InCheckpoint (record { next = next; fill = fill; under_way = is; more = more; work_is = refl; disks_are = refl }));
    }

    go : (fill : Filling) → work.checkpoint ≡ UnderWay next fill → CanGoOn records stored work disks
    go (Closes closed) is = calls (Closes closed) (λ same. cc) is
    go Settles is = calls Settles (λ same. cc) is
    go Trims is = calls Trims (λ same. cc) is
    go Heads is = calls Heads (λ same. cc) is
    go (Fills at todo) is = calls (Fills at todo) (λ same. cc) is
    go OpensGate is = calls OpensGate (λ same. cc) is
    go Lasts is = record {
      new = _;
      after = _;
      call = inl (LastInCheckpoint next (record { under_way = is; work_is = refl; disks_are = refl }));
    }

pub two_disks_go_on : {Image Step : Type 0} (rules : Rules Image Step VersionedEntry) → TwoDisksGoOn rules
two_disks_go_on rules tag records stored work disks live busy = go work.checkpoint refl
  where
    count : slot_count live.slot ≡ stored
    count = stored_count rules tag records stored live.slot live.some live.list

    turn : (checkpoint : Checkpoint) → work.checkpoint ≡ checkpoint → stored < length records → IsRecordsTurn (slot_count live.slot) checkpoint
        → ((r : VersionedEntry) → slice_get records stored ≡ Some r → r.0 ≡ work.version) → CanGoOn records stored work disks
    turn checkpoint is some due of =
        at_record records stored live.slot work disks count some live.stands
        (subst (λ (c : Checkpoint). IsRecordsTurn (slot_count live.slot) c) (sym is) due) of

    go : (checkpoint : Checkpoint) → work.checkpoint ≡ checkpoint → CanGoOn records stored work disks
    go NotBegun is = elim busy [
      | inl some ↦ turn NotBegun is some tt (λ r at.
          one_next (IsIn work.version) records stored r (subst (λ (c : Checkpoint). AreSpelledFor work.version c records stored) is live.spelled) at)
      | inr begun ↦ absurd (begun is)
    ]
    go (Planned next) is =
        let beside = subst (λ (c : Checkpoint). Beside work.side live.slot work.stage c (off work.side disks)) is live.stands.beside in
        let plan = subst (λ (c : Checkpoint). HasPlan rules records c) is live.plan in
        let within = plan_within rules records next plan in
        elim beside.1.up_to [
          | inl less ↦ turn (Planned next) is (omega (arith, less, count)) less (λ r at.
              let both = subst (λ (c : Checkpoint). AreSpelledFor work.version c records stored) is live.spelled in
              one_next (IsIn work.version) (take next.base records) stored r both.below
              (get_taken records next.base stored (omega (arith, less, count)) ∙ at))
          | inr equal ↦
              let begins = writers_go_on.begins live.slot next (next_entry records stored) work disks live.stands is equal.0 in
              record { new = begins.0; after = disks; call = inl (BeginsCalls live.slot count begins.1 refl) }
        ]
    go (UnderWay next fill) is = at_fill records stored work disks next fill is

-- A writer stands on a new store, and wherever it stands with work to do it can go on.
use Rattle.std.specs.Prelude.{◌≡◌, ◌≢◌, ℕ, ◌<◌, Bool, true, false, List, [], ◌∷◌, ◌++◌, Option, Some, None, refl}
use Rattle.std.proofs.Common.{arith, sym, ap, subst, ◌∙◌, inl, inr}
use Rattle.std.proofs.lemmas.List.{append-nil}
use Rattle.ide_disk.specs.Disk.{DiskState}
use Rattle.ide_journal.specs.Format.{Entry, Head, Holds, header}
use Rattle.ide_journal.specs.declared.stage.Phase.{Phase}
use Rattle.ide_journal.specs.declared.stage.Phase.TheVariants as phases
use Rattle.ide_journal.specs.declared.stage.Stage.{Stage}
use Rattle.ide_journal.specs.declared.stage.Stage.TheVariants.{Idle, Begun, Written, BodySynced, GateWritten, Failed}
use Rattle.ide_journal.proofs.OneList.{length-header}
use Rattle.ide_slots.specs.Filling.{Closes, IsSettledWith}
use Rattle.ide_slots.specs.Sides.{First, IsBehind, Side, Sides, off, two_sides}
use Rattle.ide_slots.specs.Slot.{IsClosedSlot, Slot, first_slot, slot_count}
use Rattle.ide_slots.specs.Two.{Beside, Checkpoint, Planned, SlotWriter, StandsTwo, UnderWay, first_disk, first_writer}
use Rattle.ide_slots.specs.TwoCalls.{BeginsCheckpoint, IsDue, IsReadyFor, IsRecordsTurn, TellsClosed}
use Rattle.ide_slots.specs.TwoLaws.{StoresBegin, WritersGoOn}
use Rattle.ide_slots.proofs.FirstSlots.{first_header, store_is_slot}
use Rattle.ide_slots.proofs.Gates.{not_both}

empty_held : (head : Head) → Holds head [] (header head ++ 0 ∷ [])
empty_held head = record {
  pages = [];
  rest = [];
  whole = refl;
  few = omega arith;
  split = ap (λ (xs : List ℕ). xs ++ 0 ∷ []) (sym (append-nil (header head)));
}

created : (head : Head) → 0 < head.tag → StandsTwo (first_slot head []) None (first_writer head.version 4096) (two_sides First (first_disk head) (first_disk head))
created head tag = record {
  front = header head;
  whole = record {
    proper = (store_is_slot head [] (header head ++ 0 ∷ []) tag (empty_held head)).whole.proper;
    pages = [];
    whole = refl;
    split = sym (first_header head []) ∙ sym (append-nil _);
  };
  version = refl;
  generation = refl;
  gate = sym (length-header head);
  knows = (refl, refl);
  fits = tt;
  beside = record {
    bytes = header head ++ 0 ∷ [];
    holds = inl (refl, record { page = header head; long = length-header head; closed = record { rest = []; split = refl } });
    settled_disk = refl;
  };
}

pub stores_begin : StoresBegin
stores_begin = record {
  created = created;
  adopted = λ head entries bytes other tag holds closed.
      record { side = First; holds = store_is_slot head entries bytes tag holds; behind = inl (refl, closed) };
}

-- at each stage the call of some phase is due
ready : (stage : Stage) → stage ≢ Failed → (phase : Phase) × IsReadyFor stage phase
ready Idle whole = (phases.Written, inr (refl, refl))
ready Begun whole = (phases.Written, inl refl)
ready Written whole = (phases.BodySynced, inl refl)
ready BodySynced whole = (phases.GateWritten, inl refl)
ready GateWritten whole = (phases.Stored, inl refl)
ready Failed whole = absurd (whole refl)

due : (slot : Slot) (entry : Entry) (work : SlotWriter) (disks : Sides DiskState) → StandsTwo slot (Some entry) work disks
    → IsRecordsTurn (slot_count slot) work.checkpoint → (phase : Phase) × IsDue slot work phase
due slot entry work disks stands turn =
    let one = ready work.stage stands.knows.0 in
    (one.0, record { turn = turn; ready = one.1 })

tells : (side : Side) (slot : Slot) (disk : DiskState) → IsSettledWith (IsBehind side slot) disk → (closed : Bool) × TellsClosed closed disk.now
tells side slot disk beside =
    let now : beside.bytes ≡ disk.now = sym (ap (λ (d : DiskState). d.now) beside.settled_disk) in
    elim beside.holds [
      | inl first ↦ (true, subst IsClosedSlot now first.1)
      | inr other ↦ elim other.1 [
        | inl closed ↦ (true, subst IsClosedSlot now closed)
        | inr lesser ↦ (false, λ closed. not_both lesser.lesser beside.bytes (subst IsClosedSlot (sym now) closed) lesser.opened)
      ]
    ]

begins : (slot other : Slot) (next : Option Entry) (work : SlotWriter) (disks : Sides DiskState)
    → StandsTwo slot next work disks → work.checkpoint ≡ Planned other → slot_count slot ≡ other.base
    → (new : SlotWriter) × BeginsCheckpoint slot work disks new
begins slot other next work disks stands planned stored =
    let beside : Beside work.side slot work.stage (Planned other) (off work.side disks) =
    subst (λ (c : Checkpoint). Beside work.side slot work.stage c (off work.side disks)) planned stands.beside in
    let told = tells work.side slot (off work.side disks) beside.0 in (
      record work { checkpoint = UnderWay other (Closes told.0) },
      record { next = other; planned = planned; stored = stored; closed = told.0; tells = told.1; work_is = refl },
    )

pub writers_go_on : WritersGoOn
writers_go_on = record { due = due; begins = begins }

-- The journal stands on a new store.
use Rattle.std.specs.Prelude.{◌≡◌, ◌+◌, ◌<◌, Bool, true, [], None, length, refl}
use Rattle.std.proofs.Common.{ap, sym, subst}
use Rattle.ide_disk.specs.Disk.{DiskState}
use Rattle.ide_disk.specs.declared.disk.Disk.{Ghosts}
use Rattle.ide_journal.specs.Bytes.{EndsAt}
use Rattle.ide_journal.specs.Format.{Head, header}
use Rattle.ide_journal.proofs.OneList.{length-header}
use Rattle.ide_slots.specs.Sides.{Sides, two_sides}
use Rattle.ide_slots.specs.Slot.{IsClosedSlot, Slot, first_slot}
use Rattle.ide_slots.specs.Two.{SlotWriter, StandsTwo, first_disk, first_writer}
use Rattle.ide_slots.specs.TwoCalls.{TellsClosed}
use Rattle.ide_slots.specs.declared.side.Side.{Side}
use Rattle.ide_slots.specs.declared.side.Side.TheVariants.{First}
use Rattle.ide_slots.proofs.Begins.{stores_begin}
use Rattle.ide_slot_journal.specs.Stages.{checkpoint_at, stage_of}
use Rattle.ide_slot_journal.specs.Stands.{KnowsClosed, StandsOn, disks_of, filling_of, slot_writer}
use Rattle.ide_slot_journal.specs.declared.journal.SlotJournal.{SlotJournal}
use Rattle.ide_slot_journal.specs.declared.stage.FillStage.{FillStage}
use Rattle.ide_slot_journal.specs.declared.stage.FillStage.TheVariants.{Rests}
use Rattle.ide_slot_journal.specs.declared.stage.RecordStage.{RecordStage}
use Rattle.ide_slot_journal.specs.declared.stage.RecordStage.TheVariants.{Idle}

-- both disks hold a first page and a closed gate
pub stands_first : (head : Head) (first second : DiskState) → 0 < head.tag → first ≡ first_disk head → second ≡ first_disk head
    → StandsTwo (first_slot head []) None (first_writer head.version 4096) (two_sides First first second)
stands_first head first second some first_is second_is =
    subst (λ (d : DiskState). StandsTwo (first_slot head []) None (first_writer head.version 4096) (two_sides First d second)) (sym first_is)
    (subst (λ (d : DiskState). StandsTwo (first_slot head []) None (first_writer head.version 4096) (two_sides First (first_disk head) d)) (sym second_is)
    (stores_begin.created head some))

pub closed_first : (head : Head) (disk : DiskState) → disk ≡ first_disk head → IsClosedSlot disk.now
closed_first head disk is =
    subst (λ (d : DiskState). IsClosedSlot d.now) (sym is) (record { page = header head; long = length-header head; closed = record { rest = []; split = refl } })

pub stands_made : {D : Type 0} {G : Ghosts D} (head : Head) (other : Slot) (journal : SlotJournal D G) → 0 < head.tag
    → G.state journal.current ≡ first_disk head → G.state journal.other ≡ first_disk head
    → journal.side ≡ First → journal.generation ≡ 0 → journal.base ≡ 0 → journal.gate ≡ 4096 → journal.count ≡ 0 → journal.next ≡ 0 → journal.stage ≡ Idle
    → journal.version ≡ head.version → journal.tag ≡ head.tag
    → journal.filler.stage ≡ Rests → journal.filler.closed ≡ true → StandsOn (first_slot head []) None other journal
stands_made {D} {G} head other journal some first second side generation base gate count next stage version tag rests closed =
    let work : first_writer head.version 4096 ≡ slot_writer other journal = λ i. record {
      side = sym side i;
      version = sym version i;
      generation = sym generation i;
      gate = sym gate i;
      stage = stage_of (sym stage i);
      checkpoint = checkpoint_at (sym rests i) other (filling_of journal.filler);
    } in
    let disks : two_sides First (G.state journal.current) (G.state journal.other) ≡ disks_of journal =
    ap (λ (s : Side). two_sides s (G.state journal.current) (G.state journal.other)) (sym side) in
    record {
      two = subst (λ (w : SlotWriter). StandsTwo (first_slot head []) None w (disks_of journal)) work
          (subst (λ (d : Sides DiskState). StandsTwo (first_slot head []) None (first_writer head.version 4096) d) disks
          (stands_first head (G.state journal.current) (G.state journal.other) some first second));
      version = version;
      tag = tag;
      base = base;
      count = count;
      has_next = (stage, next);
      end = subst (λ (s : RecordStage). EndsAt (stage_of s) journal.end (journal.gate + length journal.tail.items)) (sym stage) tt;
      fills_with = λ still. absurd (still rests);
      knows_closed = subst (λ (s : FillStage). KnowsClosed s journal.filler.closed (G.state journal.other).now) (sym rests)
          (subst (λ (b : Bool). TellsClosed b (G.state journal.other).now) (sym closed) (closed_first head (G.state journal.other) second));
    }

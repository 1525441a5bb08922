-- A checkpoint that is spelled is planned.
use Rattle.std.specs.Prelude.{◌≡◌, ◌≢◌, ℕ, ◌+◌, ◌<◌, ◌≤◌, Bool, List, ◌++◌, length, refl}
use Rattle.std.specs.Global.{Vec}
use Rattle.std.proofs.Common.{arith, sym, ap, subst, ◌∙◌}
use Rattle.std.proofs.lemmas.List.{append-nil, length-map}
use Rattle.std.proofs.lemmas.List.Elements.{All-nil}
use Rattle.ide_disk.specs.Disk.{DiskState}
use Rattle.ide_disk.specs.declared.disk.Disk.{Ghosts}
use Rattle.ide_journal.specs.Bytes.{EndsAt}
use Rattle.ide_journal.specs.Format.{Entry, IsEntry, head_of}
use Rattle.ide_journal.specs.Lists.{entries_of, entry_of}
use Rattle.ide_journal.specs.declared.record.RawRecord.{RawRecord}
use Rattle.ide_journal.specs.declared.version.Version.TheVariants.{Two}
use Rattle.ide_slots.specs.Filling.{chunks}
use Rattle.ide_slots.specs.Records.{all_numbered, numbered}
use Rattle.ide_slots.specs.Sides.{Sides, two_sides}
use Rattle.ide_slots.specs.Slot.{NumberedEntry, Slot, SlotHead, numbered_from, slot_count, slot_head, slot_header}
use Rattle.ide_slots.specs.Two.{IsNextSlot, IsUpTo, Planned, StandsTwo}
use Rattle.ide_slots.specs.TwoCalls.{PlansCheckpoint, TellsClosed}
use Rattle.ide_slots.specs.declared.record.NumberedRecord.{NumberedRecord}
use Rattle.ide_slots.proofs.Checkpoints.{checkpoints_keep_standing}
use Rattle.ide_slot_journal.specs.Planning.{IsSpelledFrom, MakeUpCheckpoint, checkpoint_slot}
use Rattle.ide_slot_journal.specs.Plans.{KeepsSides, Plans}
use Rattle.ide_slot_journal.specs.Records.{KeepsRecord}
use Rattle.ide_slot_journal.specs.Stages.{checkpoint_at, stage_of}
use Rattle.ide_slot_journal.specs.Stands.{HasTodo, IsCheckpointing, KnowsClosed, checkpoint_of, disks_of, filling_of, todo_of, slot_writer}
use Rattle.ide_slot_journal.specs.declared.journal.SlotJournal.{SlotJournal}
use Rattle.ide_slot_journal.specs.declared.stage.FillStage.{FillStage}
use Rattle.ide_slot_journal.specs.declared.stage.FillStage.TheVariants as fills
use Rattle.ide_slot_journal.specs.declared.stage.RecordStage.{RecordStage}
use Rattle.ide_slot_journal.proofs.Checkpoints.{same_next}

rests : (stage : FillStage) → (stage ≢ fills.Rests → ⊥) → stage ≡ fills.Rests
rests fills.Rests none = refl
rests fills.Waits none = absurd (none (λ same. cc))
rests fills.Settles none = absurd (none (λ same. cc))
rests fills.Trims none = absurd (none (λ same. cc))
rests fills.Heads none = absurd (none (λ same. cc))
rests fills.Fills none = absurd (none (λ same. cc))
rests fills.OpensGate none = absurd (none (λ same. cc))
rests fills.Lasts none = absurd (none (λ same. cc))

-- the slot of the checkpoint is one that may be next
next_slot : (slot : Slot) (tag generation base : ℕ) (commands : List NumberedEntry) (parts : List Entry) → 0 < slot.head.tag
    → tag ≡ slot.head.tag → generation ≡ slot.generation + 1 → generation ≤ 4294967295 → MakeUpCheckpoint base commands parts
    → IsNextSlot slot (checkpoint_slot tag generation base commands parts)
next_slot slot tag generation base commands parts some tag_is generation_is low proper = record {
  proper = record {
    valid = record {
      tag = omega (arith, some, tag_is);
      generation = low;
      base = proper.low;
      commands = proper.few_commands;
      parts = proper.few_parts;
      first = λ zero. absurd (omega (arith, zero, generation_is));
      later = λ above. proper.some;
    };
    commands = proper.commands;
    parts = proper.parts;
    rest = All-nil IsEntry;
    few = omega (arith, proper.low);
  };
  head = ap (head_of Two) tag_is;
  generation = generation_is;
  bare = refl;
}

-- what its first page tells
abbrev pub told_of : (tag generation base : ℕ) → List NumberedRecord → List RawRecord → SlotHead
told_of tag generation base commands parts = record {
  head = head_of Two tag;
  generation = generation;
  base = base;
  commands = length commands;
  parts = length parts;
}

pub told_so : (tag generation base : ℕ) (commands : List NumberedRecord) (parts : List RawRecord)
    → told_of tag generation base commands parts ≡ slot_head (checkpoint_slot tag generation base (all_numbered commands) (entries_of parts))
told_so tag generation base commands parts = λ i. record {
  head = head_of Two tag;
  generation = generation;
  base = base;
  commands = sym (length-map commands numbered) i;
  parts = sym (length-map parts entry_of) i;
}

pub plan_stands : {D : Type 0} {G : Ghosts D} (base : ℕ) (commands : List NumberedRecord) (parts : List RawRecord) (told : SlotHead)
    (old new : SlotJournal D G) → (IsCheckpointing old → ⊥) → old.generation < 4294967295
    → IsUpTo old.count base (stage_of old.stage) → MakeUpCheckpoint base (all_numbered commands) (entries_of parts)
    → told ≡ slot_head (checkpoint_slot old.tag (old.generation + 1) base (all_numbered commands) (entries_of parts))
    → IsSpelledFrom told old.filler.closed commands parts new.filler → KeepsRecord old new → KeepsSides old new
    → Plans (checkpoint_slot old.tag (old.generation + 1) base (all_numbered commands) (entries_of parts)) old new
plan_stands {D} {G} base commands parts told old new none low up_to proper told_is spelled keeps sides slot next any stands =
    let planned : Slot = checkpoint_slot old.tag (old.generation + 1) base (all_numbered commands) (entries_of parts) in
    let rest : old.filler.stage ≡ fills.Rests = rests old.filler.stage none in
    let follows : IsNextSlot slot planned =
    next_slot slot old.tag (old.generation + 1) base (all_numbered commands) (entries_of parts) stands.two.whole.proper.valid.tag stands.tag
    (ap (λ (n : ℕ). n + 1) stands.two.generation) (omega (arith, low)) proper in
    let checkpoint : checkpoint_of planned new.filler ≡ Planned planned =
    ap (λ (s : FillStage). checkpoint_at s planned (filling_of new.filler)) spelled.stage in
    let plans : PlansCheckpoint slot (slot_writer any old) (slot_writer planned new) = record {
      next = planned;
      none = ap (λ (s : FillStage). checkpoint_at s any (filling_of old.filler)) rest;
      planned = record {
        follows = follows;
        up_to = subst (λ (n : ℕ). IsUpTo n base (stage_of old.stage)) stands.count up_to;
      };
      work_is = λ i. record {
        side = sides.side i;
        version = sides.version i;
        generation = sides.generation i;
        gate = keeps.gate i;
        stage = stage_of (keeps.stage i);
        checkpoint = checkpoint i;
      };
    } in
    let disks : disks_of old ≡ disks_of new = λ i. two_sides (sym sides.side i) (G.state (sym keeps.current i)) (G.state (sym sides.other i)) in
    record {
      plans = plans;
      stands = record {
        two = subst (λ (d : Sides DiskState). StandsTwo slot next (slot_writer planned new) d) disks
            (checkpoints_keep_standing.planned slot next (slot_writer any old) (slot_writer planned new) (disks_of old) stands.two plans);
        version = sides.version ∙ stands.version;
        tag = sides.tag ∙ stands.tag;
        base = sides.base ∙ stands.base;
        count = keeps.count ∙ stands.count;
        has_next = same_next (slot_count slot) next old new keeps.stage keeps.next (ap (λ (v : Vec ℕ). v.items) keeps.tail) stands.has_next;
        end = subst (λ (s : RecordStage). EndsAt (stage_of s) new.end (new.gate + length new.tail.items)) (sym keeps.stage)
            (subst (λ (v : Vec ℕ). EndsAt (stage_of old.stage) new.end (new.gate + length v.items)) (sym keeps.tail)
            (subst (λ (n : ℕ). EndsAt (stage_of old.stage) n (new.gate + length old.tail.items)) (sym keeps.end)
            (subst (λ (n : ℕ). EndsAt (stage_of old.stage) old.end (n + length old.tail.items)) (sym keeps.gate) stands.end)));
        fills_with = λ some. record {
          generation = spelled.generation ∙ ap (λ (t : SlotHead). t.generation) told_is;
          base = spelled.base ∙ ap (λ (t : SlotHead). t.base) told_is;
          page = spelled.page ∙ ap slot_header told_is;
          todo = subst (λ (s : FillStage). HasTodo s planned new.filler.at (todo_of new.filler)) (sym spelled.stage)
              (spelled.todo ∙ ap chunks (sym (append-nil (planned.commands ++ numbered_from 0 planned.parts))), spelled.at);
        };
        knows_closed = subst (λ (s : FillStage). KnowsClosed s new.filler.closed (G.state new.other).now) (sym spelled.stage)
            (subst (λ (b : Bool). TellsClosed b (G.state new.other).now) (sym spelled.closed_is)
            (subst (λ (d : D). TellsClosed old.filler.closed (G.state d).now) (sym sides.other)
            (subst (λ (s : FillStage). KnowsClosed s old.filler.closed (G.state old.other).now) rest stands.knows_closed)));
      };
    }

-- A store that was adopted from one disk: what was kept on the one disk is kept beside a closed slot.
use Rattle.std.proofs.Common.{◌≡◌, ◌<◌, ℕ, List, [], ◌∷◌, Some, take, map, arith, refl, sym, subst, inl}
use Rattle.std.proofs.lemmas.List.{length-map}
use Rattle.ide_batch.specs.Fold.{ProgramImage, procedures}
use Rattle.ide_disk.specs.Disk.{DiskState, settled}
use Rattle.ide_journal.specs.Format.{head_of}
use Rattle.ide_journal.specs.declared.version.Version.{Version}
use Rattle.ide_slots.specs.Sides.{Sides, two_sides}
use Rattle.ide_slots.specs.declared.side.Side.TheVariants.{First}
use Rattle.ide_slots.specs.Slot.{IsClosedSlot}
use Rattle.ide_slots.specs.Two.{SlotWriter}
use Rattle.ide_text.specs.Value.{ProgramValue}
use Rattle.ide_theory.specs.Images.{IsSame}
use Rattle.ide_wire.specs.Form.{IsPrefixFree}
use Rattle.ide_store.specs.Known.{Known}
use Rattle.ide_store.specs.Answers.{GraphBy, frame_by}
use Rattle.ide_store.specs.Hands.{IsSoundWorld}
use Rattle.ide_store.specs.Machine.{ProgramStep}
use Rattle.ide_store.specs.Places.{OnOneDisk, OnTwoDisks, Place}
use Rattle.ide_store.specs.Recovery.{PlaceAnswers}
use Rattle.ide_store.specs.Store.{IsSafe}
use Rattle.ide_store.specs.Table.{Analysis, at_adopted, at_meeting, at_new, BeginsOnTwo, IsAdopted, IsLedTo, IsNew, IsStart, OneWorld, StoreWorld, after_acts, beside, forms_of, gone_on, rules_at, store_at}
use Rattle.ide_store.specs.TwoDisks.{HoldsTwo}
use Rattle.ide_store.specs.Versioned.{VersionedEntry, plain}
use Rattle.ide_store.specs.World.{IsFolded, LeadTo, Rules, Sealed, contents, image_after}
use Rattle.ide_store.proofs.Good.{IsGood}
use Rattle.ide_store.proofs.Hands.{IsWhole, all_held, idle_held, some_base, sound}
use Rattle.ide_store.proofs.Marks.{AreMarks, mark_at}
use Rattle.ide_store.proofs.Places.{does_at, exact_at, laws_at}
use Rattle.ide_store.proofs.TwoDisksBegin.{two_disks_begin}
use Rattle.ide_store.proofs.World.{IsKept, one_image}

module _ {F L : Type 0} (a : Analysis F L) (version : Version) (tag : ℕ) where
  abbrev one : Place
  one = OnOneDisk (head_of version tag)

  abbrev on_one : Rules (ProgramImage F) (ProgramStep F) VersionedEntry
  on_one = rules_at a one

  abbrev on_two : Rules (ProgramImage F) (ProgramStep F) VersionedEntry
  on_two = rules_at a (OnTwoDisks tag)

  -- what records lead to on one disk they lead to on two
  leads_there : (records : List VersionedEntry) (before now : ProgramImage F) → LeadTo on_one records before now → LeadTo on_two records before now
  leads_there [] before now is = is
  leads_there (r ∷ records) before now (between, leads, rest) = (between, inl leads, leads_there records between now rest)

  marks_there : (history : List (ProgramStep F)) (sealed : List (Sealed VersionedEntry)) → AreMarks on_one history sealed → AreMarks on_two history sealed
  marks_there history sealed are = record {
    images = λ n. leads_there (contents (take n sealed)) on_one.empty (image_after on_one (take (mark_at sealed n) history)) (are.images n);
    rising = are.rising;
    inside = are.inside;
  }

  -- whatever a crash leaves holds on two disks what it holds on one
  safe_there : (records : List VersionedEntry) (stored : ℕ) (disk : DiskState) (other : List ℕ) → 0 < tag → IsClosedSlot other
      → IsSafe (store_at a one) records stored disk
      → IsSafe (store_at a (OnTwoDisks tag)) records stored (two_sides First disk (settled other))
  safe_there records stored disk other some closed safe = record {
    each = λ left leaves.
        let first = safe.each left.a leaves.0 in
        let same : left.b ≡ other = (laws_at a one).crashed_leaves other left.b leaves.1 in
        let still : IsClosedSlot left.b = subst IsClosedSlot (sym same) closed in
        let held = (two_disks_begin on_two).adopted (head_of version tag) (map plain first.0) left.a left.b some first.1.1 still in
        (first.0, subst (λ (rs : List VersionedEntry). HoldsTwo on_two tag rs left) (sym first.1.0) held, first.2);
    possible = (safe.possible, (laws_at a one).crashed_reads other);
  }

  kept_there : (w : StoreWorld a one) (work : SlotWriter) (other : List ℕ) → 0 < tag → IsClosedSlot other
      → IsKept on_one w.world → IsKept on_two (beside a version tag w work other).world
  kept_there w work other some closed kept = record {
    image = λ runs. cc (runs);
    live = λ runs. cc (runs);
    safe = safe_there (contents w.world.sealed) w.world.stored w.world.disks other some closed kept.safe;
    marks = marks_there w.world.history w.world.sealed kept.marks;
    some = kept.some;
    acked = kept.acked;
  }

module _ {F L : Type 0} (a : Analysis F L) (is_same : IsSame a.same) (free : IsPrefixFree a.proper a.form)
    (known : Known a.lattice a.functions a.targets) where
  -- what acts keep, wherever the store stands
  abbrev pub IsWholeAt : (place : Place) → StoreWorld a place → Type 0
  IsWholeAt place w =
      IsWhole a.lattice a.functions a.targets a.same (forms_of a) (store_at a place) is_same (exact_at a free place)
      (laws_at a place) known w

  -- it is so of a new store, and of what acts lead to
  new_whole : (place : Place) (start : StoreWorld a place) → IsNew a place start → IsWholeAt place start
  new_whole place start new =
      subst (IsWholeAt place) (sym new.is)
      (idle_held a.lattice a.functions a.targets a.same (forms_of a) (store_at a place) is_same (exact_at a free place)
      (laws_at a place) known new.work new.disks new.live)

  pub led_whole : (place : Place) (Start : StoreWorld a place → Type 0) → ((start : StoreWorld a place) → Start start → IsWholeAt place start)
      → (w : StoreWorld a place) → IsLedTo a place Start w → IsWholeAt place w
  led_whole place Start starts w led =
      subst (IsWholeAt place) led.is
      (all_held a.lattice a.functions a.targets a.same (forms_of a) (store_at a place) is_same (exact_at a free place)
      (laws_at a place) known (does_at a place) led.start led.acts (starts led.start led.begins) led.can)

  -- and so it is of one that was adopted
  beside_whole : (version : Version) (tag : ℕ) (w : OneWorld a version tag) (work : SlotWriter) (other : List ℕ) → 0 < tag → IsClosedSlot other
      → IsWholeAt (OnOneDisk (head_of version tag)) w → IsWholeAt (OnTwoDisks tag) (beside a version tag w work other)
  beside_whole version tag w work other some closed whole = record {
    held = record {
      world = kept_there a version tag w work other some closed whole.held.world;
      stored = λ n image folded.
          let one : ProgramImage F = image_after (on_one a version tag) (take (mark_at w.world.sealed n) w.world.history) in
          let folds = whole.held.world.marks.images n in
          subst (λ (i : ProgramImage F). (v : ProgramValue) → i.program ≡ Some v → (by : GraphBy v)
          → IsGood procedures (frame_by a.lattice a.functions a.targets by) v i)
          (same_image (contents (take n w.world.sealed)) one image folds folded) (whole.held.stored n one folds);
      work = whole.held.work;
      begun = whole.held.begun;
    };
    noted = λ base folded.
        let one = some_base a.lattice a.functions a.targets a.same (forms_of a) (store_at a (OnOneDisk (head_of version tag))) is_same
        (exact_at a free (OnOneDisk (head_of version tag))) (laws_at a (OnOneDisk (head_of version tag))) known w whole.held in
        let is : one.0 ≡ base = same_image (contents w.world.sealed) one.0 base one.1 folded in
        let noted = whole.noted base (subst (λ (i : ProgramImage F). IsFolded (on_one a version tag) (contents w.world.sealed) i) is one.1) in
        record { program = noted.program; roots = noted.roots; present = noted.present };
  }
    where
      same_image : (records : List VersionedEntry) (one two : ProgramImage F) → IsFolded (on_one a version tag) records one → IsFolded (on_two a version tag) records two
          → one ≡ two
      same_image records one two first second =
          one_image (on_two a version tag) (exact_at a free (OnTwoDisks tag)) (laws_at a (OnTwoDisks tag)) records (on_two a version tag).empty one two
          (leads_there a version tag records (on_one a version tag).empty one first) second

  adopted_whole : (tag : ℕ) (start : StoreWorld a (OnTwoDisks tag)) → IsAdopted a tag start → IsWholeAt (OnTwoDisks tag) start
  adopted_whole tag start adopted =
      let place = OnOneDisk (head_of adopted.version tag) in
      let whole = led_whole place (IsNew a place) (new_whole place) adopted.world adopted.run in
      subst (IsWholeAt (OnTwoDisks tag)) (sym adopted.is)
      (beside_whole adopted.version tag adopted.world adopted.work adopted.other adopted.some_tag adopted.closed whole)

  -- and it stays so where the half that writes went on by itself
  gone_on_whole : (tag : ℕ) (w : StoreWorld a (OnTwoDisks tag)) (stored : ℕ) (work : SlotWriter) (disks : Sides DiskState)
      → (store_at a (OnTwoDisks tag)).Live (contents w.world.sealed) stored work disks → IsWholeAt (OnTwoDisks tag) w
      → IsWholeAt (OnTwoDisks tag) (gone_on a tag w stored work disks)
  gone_on_whole tag w stored work disks live whole =
      let some = live.some in
      let count = length-map w.world.sealed (λ (s : Sealed VersionedEntry). s.content) in
      record {
        held = record {
          world = record {
            image = whole.held.world.image;
            live = λ runs. live;
            safe = (laws_at a (OnTwoDisks tag)).live_safe (contents w.world.sealed) stored work disks live;
            marks = whole.held.world.marks;
            some = omega (arith, some, count);
            acked = omega arith;
          };
          stored = whole.held.stored;
          work = whole.held.work;
          begun = whole.held.begun;
        };
        noted = λ base folded.
            let noted = whole.noted base folded in
            record { program = noted.program; roots = noted.roots; present = noted.present };
      }

  two_whole : (tag : ℕ) (start : StoreWorld a (OnTwoDisks tag)) → BeginsOnTwo a tag start → IsWholeAt (OnTwoDisks tag) start
  two_whole tag start (at_new new) = new_whole (OnTwoDisks tag) start new
  two_whole tag start (at_adopted adopted) = adopted_whole tag start adopted
  two_whole tag _ (at_meeting begun begins acts can stored work disks live) =
      let place = OnTwoDisks tag in
      let led = all_held a.lattice a.functions a.targets a.same (forms_of a) (store_at a place) is_same (exact_at a free place)
      (laws_at a place) known (does_at a place) begun acts (two_whole tag begun begins) can in
      gone_on_whole tag (after_acts a place begun acts) stored work disks live led

  -- so it is wherever a run may begin
  pub start_whole : (place : Place) (start : StoreWorld a place) → IsStart a place start → IsWholeAt place start
  start_whole (OnOneDisk head) start new = new_whole (OnOneDisk head) start new
  start_whole (OnTwoDisks tag) start begins = two_whole tag start begins

  -- and each run answers
  pub place_answers : (place : Place) → PlaceAnswers a place
  place_answers place start begins acts can =
      led_sound (led_whole place (IsStart a place) (start_whole place) _ (record { start = start; begins = begins; acts = acts; can = can; is = refl }))
    where
      led_sound : {w : StoreWorld a place} → IsWholeAt place w
          → IsSoundWorld a.lattice a.functions a.targets a.same (forms_of a) (rules_at a place) (store_at a place) w
      led_sound {w} whole =
          sound a.lattice a.functions a.targets a.same (forms_of a) (store_at a place) is_same (exact_at a free place)
          (laws_at a place) known w whole

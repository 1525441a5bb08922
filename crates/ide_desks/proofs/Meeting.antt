-- Halves that went on apart meet: what was sealed goes over to the half that writes, which is live with it then; and the two are
-- at work on one world again, from which a run goes on.
use Rattle.std.proofs.Common.{◌≡◌, ◌∙◌, ◌≤◌, ◌+◌, ◌++◌, ℕ, Bool, true, false, List, [], ◌∷◌, Result, Ok, Err, length, drop, map, refl, ap, sym, subst, arith}
use Rattle.std.specs.Prelude.{◌||◌, OnErr, OnOk}
use Rattle.std.specs.List.{All, AllByRecursion}
use Rattle.std.proofs.lemmas.List.{append-nil, append_assoc, drop-append-le, drop_all, length-append, length-map, map-append, take-append-drop, take-append-le, take_all}
use Rattle.std.proofs.lemmas.List.Elements.{All-from_recursion, All-map, recursion_from_All}
use mathlib.Core.List.{IsPrefix}
use Rattle.ide_board.specs.Records.{TableView, WriterView}
use Rattle.ide_disk.specs.Disk.{DiskState}
use Rattle.ide_disk.specs.declared.disk.Disk.{Ghosts}
use Rattle.ide_journal.specs.Format.{Entry, IsEntry}
use Rattle.ide_journal.specs.Lists.{entries_of, entry_of}
use Rattle.ide_journal.specs.declared.record.RawRecord.{RawRecord}
use Rattle.ide_journal.specs.declared.version.Version.{Version}
use Rattle.ide_slot_journal.specs.Stands.{AreHonest, disks_of, slot_writer}
use Rattle.ide_slot_journal.specs.declared.journal.SlotJournal.{SlotJournal}
use Rattle.ide_slots.specs.Records.{all_numbered}
use Rattle.ide_slots.specs.Sides.{Sides}
use Rattle.ide_slots.specs.Two.{SlotWriter}
use Rattle.ide_slot_store.specs.Engine.{AreAtWork, SlotWorld}
use Rattle.ide_slot_store.specs.Half.{Writes}
use Rattle.ide_slot_store.specs.Runs.{AreOnRun}
use Rattle.ide_slot_store.specs.declared.writer.SlotWriterHalf.{SlotWriterHalf}
use Rattle.ide_slot_store.proofs.Half.{more_behind}
use Rattle.ide_steps.specs.Core.{IsUnchanged}
use Rattle.ide_store.proofs.Drained.{unchanged_equal}
use Rattle.ide_store.proofs.Places.{fits_at}
use Rattle.ide_store.proofs.Stepping.{works_after}
use Rattle.ide_store.proofs.OneVersion.{plain_again}
use Rattle.ide_store.proofs.TwoDisks.{all_in}
use Rattle.ide_store.proofs.Waiting.{none_mapped}
use Rattle.ide_store.specs.Handing.{HandsAll, HandsTo, gave, kept}
use Rattle.ide_store.specs.Places.{OnTwoDisks}
use Rattle.ide_store.specs.Table.{Analysis, IsReached, IsSameTable, TableData, WorksOn, after_acts, at_meeting, gone_on}
use Rattle.ide_store.specs.TwoDisks.{IsLiveTwo, commands_of, sealing_version}
use Rattle.ide_store.specs.Versioned.{IsIn, IsPlainEntry, VersionedEntry, in_version, plain}
use Rattle.ide_store.specs.TwoDisksLaws.{TwoDisksKeep, slots_of}
use Rattle.ide_store.specs.World.{contents}
use Rattle.ide_wire.specs.declared.refused.Refused.{Refused}
use Rattle.ide_desks.specs.Apart.{HalvesMeet}
use Rattle.ide_desks.specs.Desks.{CountsSealed, IsTableDesk, IsWriterDesk}
use Rattle.ide_desks.specs.Keeping.{WorksOnRun, WritesLive, handed_of, records_in}
use Rattle.ide_desks.proofs.Lists.{first_of, prefix_length, records_count, records_take, take_prefix}
use Rattle.ide_desks.proofs.Steps.{same_half_live}
use Rattle.ide_desks.proofs.Works.{stayed}

-- what is so of all is so of the last ones
last_all : {X : Type 0} (P : X → Type 0) (xs ys : List X) → AllByRecursion P (xs ++ ys) → AllByRecursion P ys
last_all P [] ys all = all
last_all P (x ∷ xs) ys all = last_all P xs ys all.1

module _ {F L : Type 0} (a : Analysis F L) (tag : ℕ) (version : Version) (keep : TwoDisksKeep (slots_of a)) where
  abbrev LiveWith : List VersionedEntry → ℕ → SlotWriter → Sides DiskState → Type 0
  LiveWith records stored work disks = IsLiveTwo (slots_of a) tag records stored work disks

  -- a writer is live with records that are sealed besides, in the version in which it has them sealed
  live_more : (records : List VersionedEntry) (more : List Entry) (stored : ℕ) (work : SlotWriter) (disks : Sides DiskState)
      → sealing_version work ≡ version → LiveWith records stored work disks
      → AllByRecursion IsEntry more → length records + length more ≤ 4294967295 → LiveWith (records ++ in_version version more) stored work disks
  live_more records [] stored work disks version_is live proper few =
      subst (λ (rs : List VersionedEntry). LiveWith rs stored work disks) (sym (append-nil records)) live
  live_more records (entry ∷ more) stored work disks version_is live proper few =
      let r : VersionedEntry = (version, entry) in
      let longer = length-append records (r ∷ []) in
      let fits = fits_at a (OnTwoDisks tag) work (length records) r (sym version_is) proper.0 (omega (arith, few)) in
      subst (λ (rs : List VersionedEntry). LiveWith rs stored work disks) (append_assoc records (r ∷ []) (in_version version more))
      (live_more (records ++ r ∷ []) more stored work disks version_is ((keep tag).sealed records stored r work disks live fits) proper.1
      (omega (arith, few, longer)))

  -- ---- what was sealed goes over: to the half that writes
  module _ {D : Type 0} {G : Ghosts D} (table mid_table : TableData F) (old mid : SlotWriterHalf D G) (handed : List VersionedEntry) (stored : ℕ)
      (journal : mid.journal ≡ old.journal) (commands : mid.commands.items ≡ old.commands.items)
      (few : length handed + length table.waiting ≤ 4294967295) (proper : All IsEntry (entries_of mid.waiting.items))
      (hands : HandsAll table mid_table old.waiting.items mid.waiting.items) (on : WritesLive a tag version handed stored old) where
    abbrev left : List VersionedEntry
    left = in_version version table.waiting

    abbrev all : List VersionedEntry
    all = handed ++ left

    waiting_proper : AllByRecursion IsEntry table.waiting
    waiting_proper =
        last_all IsEntry (entries_of old.waiting.items) table.waiting
        (subst (AllByRecursion IsEntry) hands.waits (recursion_from_All IsEntry (entries_of mid.waiting.items) proper))

    writes_all : Writes on.slot on.other all stored mid
    writes_all =
        let before = on.writes.behind in
        let waiting : map entry_of mid.waiting.items ≡ map plain (drop stored all) =
        hands.waits ∙ ap (λ (es : List Entry). es ++ table.waiting) on.writes.waiting
        ∙ ap (λ (es : List Entry). map plain (drop stored handed) ++ es) (sym (plain_again version table.waiting))
        ∙ sym (map-append plain (drop stored handed) left)
        ∙ ap (map plain) (sym (drop-append-le stored handed left before.some)) in
        let longer = length-map {B = VersionedEntry} table.waiting (λ (entry : Entry). (version, entry)) in
        record {
          behind = more_behind on.slot on.other handed left stored old.journal mid.journal journal (omega (arith, few, longer))
              (All-map IsPlainEntry (λ (entry : Entry). (version, entry)) table.waiting (All-from_recursion IsEntry table.waiting waiting_proper))
              (subst (λ (v : Version). All (IsIn v) left) (sym on.version_is) (all_in version table.waiting)) before;
          waiting = waiting;
          commands = ap all_numbered commands ∙ on.writes.commands ∙ ap commands_of (sym (take-append-le stored handed left before.some));
        }

    pub writer_handed : WritesLive a tag version all stored mid
    writer_handed = record {
      slot = on.slot;
      other = on.other;
      writes = writes_all;
      version_is = ap (λ (j : SlotJournal D G). sealing_version (slot_writer on.other j)) journal ∙ on.version_is;
      tag_is = on.tag_is;
      live = subst (λ (j : SlotJournal D G). LiveWith all stored (slot_writer on.other j) (disks_of j)) (sym journal)
          (live_more handed table.waiting stored (slot_writer on.other old.journal) (disks_of old.journal) on.version_is on.live waiting_proper few);
    }

  -- and from the half that works
  pub table_handed : (table mid_table : TableData F) (handed : List VersionedEntry) → mid_table ≡ record table { waiting = [] }
      → WorksOnRun a tag version table handed → WorksOnRun a tag version mid_table (handed ++ in_version version table.waiting)
  table_handed table mid_table handed rest works =
      let w = works.world in
      let all : List VersionedEntry = handed ++ in_version version table.waiting in
      let split : contents w.world.sealed ≡ all =
      works.works.waits ∙ ap (λ (v : Version). handed ++ in_version v table.waiting) works.version_is in
      record {
        version_is = ap (λ (t : TableData F). t.version) rest ∙ works.version_is;
        world = w;
        reached = works.reached;
        works = subst (λ (t : TableData F). WorksOn a (OnTwoDisks tag) w t all) (sym rest)
            (works_after a (OnTwoDisks tag) w table w.world.stored w.world.work w.world.disks all [] works.works works.works.version
            (split ∙ sym (append-nil all)));
      }

  -- ---- where none waits, the halves are at work on one world
  module _ {D : Type 0} {G : Ghosts D} (table : TableData F) (half : SlotWriterHalf D G) (handed : List VersionedEntry) (stored : ℕ)
      (none : table.waiting ≡ []) (works : WorksOnRun a tag version table handed) (on : WritesLive a tag version handed stored half) where
    abbrev work : SlotWriter
    work = slot_writer on.other half.journal

    abbrev met : SlotWorld a tag
    met = gone_on a tag works.world stored work (disks_of half.journal)

    all_handed : contents works.world.world.sealed ≡ handed
    all_handed = works.works.waits ∙ ap (λ (more : List Entry). handed ++ in_version table.version more) none ∙ append-nil handed

    pub met_reached : IsReached a (OnTwoDisks tag) met
    met_reached =
        let place = OnTwoDisks tag in
        let led = works.reached in
        let live : LiveWith (contents works.world.world.sealed) stored work (disks_of half.journal) =
        subst (λ (rs : List VersionedEntry). LiveWith rs stored work (disks_of half.journal)) (sym all_handed) on.live in
        let there : LiveWith (contents (after_acts a place led.start led.acts).world.sealed) stored work (disks_of half.journal) =
        subst (λ (w : SlotWorld a tag). LiveWith (contents w.world.sealed) stored work (disks_of half.journal)) (sym led.is) live in
        record {
          start = gone_on a tag (after_acts a place led.start led.acts) stored work (disks_of half.journal);
          begins = at_meeting led.start led.begins led.acts led.can stored work (disks_of half.journal) there;
          acts = [];
          can = tt;
          is = ap (λ (w : SlotWorld a tag). gone_on a tag w stored work (disks_of half.journal)) led.is;
        }

    abbrev pub met_at_work : AreAtWork a tag met table half
    met_at_work = record {
      handed = handed;
      works = record {
        running = works.works.running;
        working = works.works.working;
        version = works.version_is ∙ sym on.version_is;
        image = works.works.image;
        claims = works.works.claims;
        base = record {
          image = works.works.base.image;
          folded = works.works.base.folded;
          program = works.works.base.program;
          roots = works.works.base.roots;
          entries = works.works.base.entries;
        };
        sealed = works.works.sealed;
        waits = works.works.waits;
      };
      slot = on.slot;
      other = on.other;
      writes = on.writes;
      tag_is = on.tag_is;
      work = refl;
      disks = refl;
    }

-- ---- what both desks keep then
module _ {F L : Type 0} (a : Analysis F L) (tag : ℕ) (version : Version) (first : List VersionedEntry) (keep : TwoDisksKeep (slots_of a))
    {D : Type 0} {G : Ghosts D} (table new_table : TableData F) (old new : SlotWriterHalf D G) (seat : TableView VersionedEntry)
    (writer : WriterView VersionedEntry) (counts : CountsSealed table seat) (kept : IsTableDesk a tag version first table seat)
    (begins : IsPrefix writer.taken seat.sealed) (count : length writer.taken ≡ seat.handed) where
  some_sealed : length first ≤ length seat.sealed
  some_sealed = let some = kept.begun in let few = counts.handed in omega (arith, some, few)

  sealed_count : length (records_in first seat.sealed) ≡ length seat.sealed
  sealed_count = records_count first seat.sealed some_sealed

  -- all that is sealed: what was handed over, and what waits
  all_sealed : handed_of first seat ++ in_version version table.waiting ≡ records_in first seat.sealed
  all_sealed =
      ap (λ (xs : List VersionedEntry). handed_of first seat ++ xs) kept.waits ∙ take-append-drop seat.handed (records_in first seat.sealed)

  taken_is : records_in first writer.taken ≡ handed_of first seat
  taken_is =
      ap (records_in first) (first_of writer.taken seat.sealed seat.handed begins count)
      ∙ records_take first seat.sealed seat.handed kept.begun counts.handed

  pub table_desk : new_table ≡ record table { waiting = [] } → IsTableDesk a tag version first new_table (record seat { handed = length seat.sealed })
  table_desk rest =
      let same = sealed_count in
      record {
        begun = some_sealed;
        waits = ap (λ (t : TableData F). in_version version t.waiting) rest ∙ sym (drop_all (length seat.sealed) (records_in first seat.sealed) (omega (arith, same)));
        run = λ working.
            subst (WorksOnRun a tag version new_table)
            (all_sealed ∙ sym (take_all (length seat.sealed) (records_in first seat.sealed) (omega (arith, same))))
            (table_handed a tag version keep table new_table (handed_of first seat) rest
            (kept.run (sym (ap (λ (t : TableData F). t.failed) rest) ∙ working)));
      }

  pub writer_desk : IsWriterDesk a tag version first old writer false → length writer.stored ≤ length writer.taken → new.journal ≡ old.journal
      → new.commands.items ≡ old.commands.items → table.sealed ≤ 4294967295 → All IsEntry (entries_of new.waiting.items)
      → HandsAll table new_table old.waiting.items new.waiting.items
      → IsWriterDesk a tag version first new (record writer { taken = seat.sealed }) false
  writer_desk writes some journal commands few proper hands =
      let within : length writer.taken ≤ length seat.sealed = prefix_length writer.taken seat.sealed begins in
      let least = writes.begun in
      let long = ap length all_sealed ∙ sealed_count ∙ sym counts.count in
      record {
        begun = omega (arith, least, within);
        unknown_first = take_prefix (length first) writer.taken seat.sealed begins least ∙ writes.unknown_first;
        honest = subst AreHonest (sym journal) writes.honest;
        keeps =
            subst (λ (rs : List VersionedEntry). WritesLive a tag version rs (length writer.stored) new) all_sealed
            (writer_handed a tag version keep table new_table old new (handed_of first seat) (length writer.stored) journal commands
            (omega (
              arith,
              long,
              few,
              length-append (handed_of first seat) (in_version version table.waiting),
              length-map {B = VersionedEntry} table.waiting (λ (entry : Entry). (version, entry)),
            )) proper hands
            (subst (λ (rs : List VersionedEntry). WritesLive a tag version rs (length writer.stored) old) taken_is writes.keeps));
      }

-- where none waits in the queue, all that waits with the half that works goes over
pub hands_all : {F : Type 0} (old new : TableData F) (before after : List RawRecord) → HandsTo old new before after → before ≡ [] → HandsAll old new before after
hands_all old new before after (gave none took same) empty = record { waits = took ∙ ap (λ (rs : List RawRecord). entries_of rs ++ old.waiting) (sym empty); rest = same }
hands_all old new before after (kept some items same) empty = absurd (some empty)

-- nothing is sealed or lost where records go over
pub handed_sealed : {F : Type 0} (old new : TableData F) (before after : List RawRecord) → HandsTo old new before after → new.sealed ≡ old.sealed
handed_sealed {F = F} old new before after (gave none took same) = ap (λ (t : TableData F). t.sealed) same
handed_sealed {F = F} old new before after (kept some items same) = ap (λ (t : TableData F). t.sealed) same

module _ {F L : Type 0} (a : Analysis F L) (tag : ℕ) (version : Version) (first : List VersionedEntry) (keep : TwoDisksKeep (slots_of a))
    {D : Type 0} {G : Ghosts D} (table new_table : TableData F) (old new : SlotWriterHalf D G) (seat : TableView VersionedEntry)
    (writer : WriterView VersionedEntry) (failed : Bool) (works : failed ≡ false) (counts : CountsSealed table seat)
    (begins : IsPrefix writer.taken seat.sealed) (count : length writer.taken ≡ seat.handed) (all : length writer.stored ≡ length writer.taken)
    (hands : HandsTo table new_table old.waiting.items new.waiting.items) where
  going : IsWriterDesk a tag version first old writer failed → IsWriterDesk a tag version first old writer false
  going desk = subst (IsWriterDesk a tag version first old writer) works desk

  -- the writer has nothing left
  none_left : IsWriterDesk a tag version first old writer failed → old.waiting.items ≡ []
  none_left desk =
      let one = going desk in
      let long = records_count first writer.taken one.begun in
      none_mapped entry_of old.waiting.items
      (one.keeps.writes.waiting
      ∙ ap (map plain) (drop_all (length writer.stored) (records_in first writer.taken) (omega (arith, long, all))))

  pub table_takes : IsTableDesk a tag version first table seat → IsWriterDesk a tag version first old writer failed
      → IsTableDesk a tag version first new_table (record seat { handed = length seat.sealed })
  table_takes desk writes =
      let over = hands_all table new_table old.waiting.items new.waiting.items hands (none_left writes) in
      table_desk a tag version first keep table new_table old new seat writer counts desk begins count over.rest

  pub writer_takes : IsTableDesk a tag version first table seat → IsWriterDesk a tag version first old writer failed → new.journal ≡ old.journal
      → new.commands.items ≡ old.commands.items → table.sealed ≤ 4294967295 → All IsEntry (entries_of new.waiting.items)
      → IsWriterDesk a tag version first new (record writer { taken = seat.sealed }) failed
  writer_takes desk writes journal commands few proper =
      let over = hands_all table new_table old.waiting.items new.waiting.items hands (none_left writes) in
      subst (IsWriterDesk a tag version first new (record writer { taken = seat.sealed })) (sym works)
      (writer_desk a tag version first keep table new_table old new seat writer counts desk begins count (going writes) (omega (arith, all)) journal commands few
      proper over)

-- what a hand over of all leaves of the half that works, if memory does not want
pub rest_kept : {F T : Type 0} (table mid : TableData F) (before after : List RawRecord) (result : Result T Refused) → OnOk result (HandsAll table mid before after)
    → OnErr result (IsSameTable table mid) → IsUnchanged table.core mid.core × (mid.sealed ≡ table.sealed) × (mid.failed ≡ table.failed)
rest_kept {F = F} table mid before after (Ok done) hands same = (
  unchanged_equal table.core mid.core (ap (λ (t : TableData F). t.core) hands.rest),
  ap (λ (t : TableData F). t.sealed) hands.rest,
  ap (λ (t : TableData F). t.failed) hands.rest,
)
rest_kept table mid before after (Err refused) hands same = (same.core, same.rest.sealed, same.rest.failed)

-- neither of them failed
pub none_failed : (b c : Bool) → (b || c) ≡ false → (b ≡ false) × (c ≡ false)
none_failed false c is = (refl, is)
none_failed true c is = cc (is)

-- ---- desks that are given up: their halves are on one run, where nothing waits with the one that works
module _ {F L : Type 0} (a : Analysis F L) (tag : ℕ) (version : Version) (first : List VersionedEntry) (keep : TwoDisksKeep (slots_of a)) {D : Type 0} {G : Ghosts D}
    (meet : HalvesMeet a G) (table mid : TableData F) (old new : SlotWriterHalf D G) (seat : TableView VersionedEntry) (writer : WriterView VersionedEntry)
    (counts : CountsSealed table seat) (within : length writer.stored ≤ length writer.taken) (begins : IsPrefix writer.taken seat.sealed)
    (count : length writer.taken ≡ seat.handed) (journal : new.journal ≡ old.journal) (commands : new.commands.items ≡ old.commands.items)
    (few : table.sealed ≤ 4294967295) (proper : All IsEntry (entries_of new.waiting.items)) (working : table.failed ≡ false)
    (none : mid.waiting ≡ []) where
  on_run : (records : List VersionedEntry) → WorksOnRun a tag version mid records → WritesLive a tag version records (length writer.stored) new → AreOnRun a tag mid new
  on_run records works writes = (meet tag version mid new records (length writer.stored) none works writes).0

  pub met_on_run : {T : Type 0} (result : Result T Refused) → OnOk result (HandsAll table mid old.waiting.items new.waiting.items) → OnErr result (IsSameTable table mid)
      → OnErr result (new.waiting.items ≡ old.waiting.items) → IsTableDesk a tag version first table seat → IsWriterDesk a tag version first old writer false
      → AreOnRun a tag mid new
  met_on_run (Ok done) hands same queue desk writes =
      let after = table_desk a tag version first keep table mid old new seat writer counts desk begins count hands.rest in
      let written = writer_desk a tag version first keep table mid old new seat writer counts desk begins count writes within journal commands few proper hands in
      let long = sealed_count a tag version first keep table mid old new seat writer counts desk begins count in
      on_run (records_in first seat.sealed)
      (subst (WorksOnRun a tag version mid) (take_all (length seat.sealed) (records_in first seat.sealed) (omega (arith, long)))
      (after.run (ap (λ (t : TableData F). t.failed) hands.rest ∙ working))) written.keeps
  met_on_run (Err refused) hands same queue desk writes =
      on_run (handed_of first seat) (stayed a tag version (handed_of first seat) table mid same (desk.run working))
      (subst (λ (rs : List VersionedEntry). WritesLive a tag version rs (length writer.stored) new)
      (taken_is a tag version first keep table mid old new seat writer counts desk begins count)
      (same_half_live a tag version keep (records_in first writer.taken) (length writer.stored) old new writes.keeps
      (record { journal = journal; waiting = queue; commands = commands })))

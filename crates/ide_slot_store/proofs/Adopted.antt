-- A store that was adopted from one disk goes on with the run that left it.
use Rattle.std.proofs.Common.{◌≡◌, ◌<◌, ◌++◌, ℕ, List, [], ◌∷◌, Result, Ok, Err, refl, sym}
use Rattle.std.specs.Prelude.{IfErr, IfOk}
use Rattle.ide_disk.specs.Disk.{DiskState}
use Rattle.ide_disk.specs.declared.disk.Disk.{Ghosts}
use Rattle.ide_journal.specs.Format.{head_of, header}
use Rattle.ide_journal.specs.declared.version.Version.{Version}
use Rattle.ide_journal.specs.declared.version.Version.TheVariants.{Two}
use Rattle.ide_slot_journal.specs.Opened.{states_of}
use Rattle.ide_slot_journal.specs.Stands.{disks_of}
use Rattle.ide_slot_journal.proofs.Making.{closed_first}
use Rattle.ide_slots.specs.Slot.{IsClosedSlot}
use Rattle.ide_slots.specs.Two.{SlotWriter, first_disk, first_writer}
use Rattle.ide_wire.specs.declared.refused.Refused.{Refused}
use Rattle.ide_store.proofs.Acts.{reached_more}
use Rattle.ide_store.specs.Hands.{Happens}
use Rattle.ide_store.specs.Places.{OnOneDisk, OnTwoDisks}
use Rattle.ide_store.specs.Runs.{IsLeftByRun}
use Rattle.ide_store.specs.Table.{Analysis, at_adopted, IsReached, OneWorld, StoreAct, TableData, after_act, beside}
use Rattle.ide_store.specs.World.{Opens}
use Rattle.ide_slot_store.specs.Adopting.{AreAdopted, IsAdoptingStop, not_opened}
use Rattle.ide_slot_store.specs.Engine.{AreOpened, OpensEngine, RefusesEngine}
use Rattle.ide_slot_store.specs.Runs.{AreOnRun}
use Rattle.ide_slot_store.specs.declared.engine.SlotEngine.{SlotEngine}
use Rattle.ide_slot_store.specs.declared.writer.SlotWriterHalf.{SlotWriterHalf}

module _ {F L : Type 0} (a : Analysis F L) (version : Version) (tag : ℕ) (some : 0 < tag) where
  -- a run on one disk goes on beside a closed slot
  pub goes_on : (w : OneWorld a version tag) (work : SlotWriter) (other : List ℕ) → IsClosedSlot other
      → IsReached a (OnOneDisk (head_of version tag)) w → IsReached a (OnTwoDisks tag) (beside a version tag w work other)
  goes_on w work other closed reached = record {
    start = beside a version tag w work other;
    begins = at_adopted (record { some_tag = some; version = version; world = w; run = reached; work = work; other = other; closed = closed; is = refl });
    acts = [];
    can = tt;
    is = refl;
  }

module _ {F L : Type 0} (a : Analysis F L) (tag : ℕ) (some : 0 < tag) {D : Type 0} {G : Ghosts D} (first closed : D)
    (is : G.state closed ≡ first_disk (head_of Two tag)) where
  -- so does one that is opened beside it
  taken_over : (version : Version) (table : TableData F) (writer : SlotWriterHalf D G)
      → AreOpened a tag (states_of G first closed) table writer → AreAdopted a version tag (G.state first) table writer
  taken_over version table writer opened w reached stands =
      let bare = head_of Two tag in
      let other = header bare ++ 0 ∷ [] in
      let slot : IsClosedSlot other = closed_first bare (first_disk bare) refl in
      let stood = first_writer version 4096 in
      let did = opened (beside a version tag w stood other) (goes_on a version tag some w stood other slot reached) (λ i. record { a = stands i; b = sym is i }) in
      record {
        some_tag = some;
        stood = stood;
        other = other;
        closed = slot;
        found = did.0;
        image = did.1;
        work = did.2;
        can = did.3.0;
        at_work = did.3.1;
      }

  pub adopted : {P E : Type 0} (result : Result (SlotEngine P D L F G) E) → OpensEngine a tag first closed result → G.honest first → G.honest closed
      → IfOk result (λ engine. AreAdopted a engine.writer.journal.version tag (G.state first) engine.table engine.writer)
  adopted (Ok engine) opens first_honest closed_honest =
      taken_over engine.writer.journal.version engine.table engine.writer (opens first_honest closed_honest)
  adopted (Err e) opens first_honest closed_honest = tt

  pub not_adopted : {P : Type 0} (second : D) (result : Result (SlotEngine P D L F G) (Refused × D × D)) → RefusesEngine a tag first closed result
      → G.honest first → G.honest closed → IfErr result (λ all. IsAdoptingStop a G tag first second all.1 all.2 all.0)
  not_adopted second (Ok engine) refuses first_honest closed_honest = tt
  not_adopted second (Err all) refuses first_honest closed_honest = not_opened closed is (refuses first_honest closed_honest)

module _ {F L : Type 0} (a : Analysis F L) {D : Type 0} {G : Ghosts D} where
  -- an engine over it is on a run
  pub adopting_stays : (version : Version) (tag : ℕ) (before : DiskState) (table : TableData F) (writer : SlotWriterHalf D G)
      → IsLeftByRun a (OnOneDisk (head_of version tag)) before → AreAdopted a version tag before table writer → AreOnRun a tag table writer
  adopting_stays version tag before table writer left adopts =
      let is = adopts left.world left.reached left.stands in
      let start = beside a version tag left.world is.stood is.other in
      let act : StoreAct a (OnTwoDisks tag) = Happens (Opens is.found is.image is.work (disks_of writer.journal)) in
      record {
        world = after_act a (OnTwoDisks tag) start act;
        reached = reached_more a (OnTwoDisks tag) start (act ∷ []) (goes_on a version tag is.some_tag left.world is.stood is.other is.closed left.reached) (is.can, tt);
        at_work = is.at_work;
      }

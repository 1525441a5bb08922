-- The desks over an engine that is on a run, and whose records were all handed over.
use Rattle.std.proofs.Common.{◌≡◌, ◌∙◌, ◌≤◌, ◌++◌, ℕ, false, List, length, drop, take, ap, arith, subst, sym}
use Rattle.std.specs.List.{All}
use Rattle.std.proofs.lemmas.List.{append-nil, drop_all, length-map, length-replicate, take_all}
use Rattle.atomic_table.specs.Seated.{TableId}
use Rattle.ide_board.specs.Records.{TableView, WriterView}
use Rattle.ide_disk.specs.declared.disk.Disk.{Ghosts}
use Rattle.ide_journal.specs.Format.{Entry, IsEntry}
use Rattle.ide_journal.specs.declared.version.Version.{Version}
use Rattle.ide_journal.specs.Lists.{entries_of}
use Rattle.ide_slot_journal.specs.Stands.{records_stored}
use Rattle.ide_slot_store.specs.declared.engine.SlotEngine.{SlotEngine}
use Rattle.ide_slot_store.proofs.Stepping.{all_handed_at_work}
use Rattle.ide_store.specs.Handing.{HandsAll}
use Rattle.ide_store.specs.Table.{Analysis}
use Rattle.ide_desks.specs.Apart.{RunsAreLive}
use Rattle.ide_desks.specs.Desks.{CountsTaken, IsTableDesk, IsWriterDesk}
use Rattle.ide_store.specs.Versioned.{VersionedEntry, in_version}
use Rattle.ide_desks.specs.Keeping.{WorksOnRun, WritesLive, unknown}
use Rattle.ide_desks.specs.Opened.{AreNewSeats, IsToldOf, StaysOnRun}
use Rattle.ide_desks.proofs.Lists.{records_first, take_replicate}
use Rattle.ide_desks.proofs.Steps.{live_count}

module _ {P D L F : Type 0} {G : Ghosts D} (board : TableId) (engine : SlotEngine P D L F G) (table : TableView VersionedEntry)
    (writer : WriterView VersionedEntry) (seats : AreNewSeats board engine table writer) where
  abbrev sealed : ℕ
  sealed = engine.table.sealed

  sealed_count : length table.sealed ≡ sealed
  sealed_count = ap length seats.sealed ∙ length-replicate sealed unknown

  taken_count : length writer.taken ≡ sealed
  taken_count = ap length seats.taken ∙ sealed_count

  abbrev stored : ℕ
  stored = records_stored engine.writer.journal

  stored_count : length writer.stored ≡ stored
  stored_count = ap length seats.stored ∙ length-replicate stored unknown

  pub new_counts : CountsTaken writer sealed
  new_counts =
      let few = seats.few in
      let here = stored_count in
      let all = taken_count in
      record {
        count = sym taken_count;
        within = omega (arith, few, here, all);
        beginning =
            seats.stored ∙ sym (take_replicate sealed stored unknown few)
            ∙ ap (take stored) (sym (seats.taken ∙ seats.sealed)) ∙ ap (λ (n : ℕ). take n writer.taken) (sym stored_count);
      }

  module _ (a : Analysis F L) (tag : ℕ) (version : Version) (first : List VersionedEntry) (told : IsToldOf a tag engine version first)
      (live : RunsAreLive a G) where
    first_count : length first ≡ sealed
    first_count =
        let works = told.run.at_work.works in
        let whole = works.waits ∙ ap (λ (more : List Entry). told.run.at_work.handed ++ in_version engine.table.version more) seats.none ∙ append-nil told.run.at_work.handed in
        ap length (told.is ∙ sym whole) ∙ length-map told.run.world.world.sealed (λ s. s.content) ∙ works.sealed

    halves : WorksOnRun a tag version engine.table first × WritesLive a tag version first told.run.world.world.stored engine.writer
    halves =
        subst (λ (v : Version). WorksOnRun a tag v engine.table first × WritesLive a tag v first told.run.world.world.stored engine.writer) told.version_is
        (subst (λ (rs : List VersionedEntry). WorksOnRun a tag engine.table.version engine.table rs × WritesLive a tag engine.table.version rs told.run.world.world.stored engine.writer)
        (sym told.is) (live tag engine.table engine.writer told.run seats.none))

    pub new_table_desk : IsTableDesk a tag version first engine.table table
    new_table_desk =
        let same = first_count in
        let count = sealed_count in
        let handed = seats.handed in
        let all = records_first first table.sealed (omega (arith, same, count)) in
        record {
          begun = omega (arith, same, handed);
          waits = ap (in_version version) seats.none ∙ sym (ap (drop table.handed) all ∙ drop_all table.handed first (omega (arith, same, handed)));
          run = λ working. subst (WorksOnRun a tag version engine.table) (sym (ap (take table.handed) all ∙ take_all table.handed first (omega (arith, same, handed)))) halves.0;
        }

    pub new_writer_desk : IsWriterDesk a tag version first engine.writer writer false
    new_writer_desk =
        let same = first_count in
        let count = taken_count in
        let all = records_first first writer.taken (omega (arith, same, count)) in
        record {
          begun = omega (arith, same, count);
          unknown_first =
              ap (take (length first)) (seats.taken ∙ seats.sealed) ∙ take_replicate sealed (length first) unknown (omega (arith, same));
          honest = told.honest;
          keeps =
              subst (λ (rs : List VersionedEntry). WritesLive a tag version rs (length writer.stored) engine.writer) (sym all)
              (subst (λ (n : ℕ). WritesLive a tag version first n engine.writer)
              (sym (live_count a tag version first told.run.world.world.stored engine.writer halves.1) ∙ sym stored_count) halves.1);
        }

-- what is handed over leaves an engine on its run
pub handed_on_run : {P D L F : Type 0} {G : Ghosts D} (a : Analysis F L) (tag : ℕ) (old new : SlotEngine P D L F G) → new.writer.journal ≡ old.writer.journal
    → new.writer.commands.items ≡ old.writer.commands.items → old.table.sealed ≤ 4294967295 → All IsEntry (entries_of new.writer.waiting.items)
    → HandsAll old.table new.table old.writer.waiting.items new.writer.waiting.items → StaysOnRun a tag old new
handed_on_run a tag old new journal commands few proper hands on = record {
  world = on.world;
  reached = on.reached;
  at_work = all_handed_at_work a tag on.world old.table new.table old.writer new.writer on.at_work journal commands few proper hands;
}

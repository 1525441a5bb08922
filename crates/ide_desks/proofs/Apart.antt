-- Halves of an engine on a run keep what they keep apart, and are on a run where they meet.
use Rattle.std.proofs.Common.{◌≡◌, ◌∙◌, ◌++◌, List, ap, refl, subst, sym}
use Rattle.std.proofs.lemmas.List.{append-nil}
use Rattle.ide_disk.specs.Disk.{DiskState}
use Rattle.ide_disk.specs.declared.disk.Disk.{Ghosts}
use Rattle.ide_journal.specs.Format.{Entry}
use Rattle.ide_slot_journal.specs.Stands.{disks_of, slot_writer}
use Rattle.ide_slots.specs.Sides.{Sides}
use Rattle.ide_slots.specs.Two.{SlotWriter}
use Rattle.ide_store.proofs.Reached.{Knows, reached_whole}
use Rattle.ide_store.specs.Places.{OnTwoDisks}
use Rattle.ide_store.specs.Table.{Analysis}
use Rattle.ide_store.specs.TwoDisks.{IsLiveTwo, sealing_version}
use Rattle.ide_store.specs.Versioned.{VersionedEntry, in_version}
use Rattle.ide_store.specs.TwoDisksLaws.{TwoDisksKeep, slots_of}
use Rattle.ide_store.specs.World.{contents}
use Rattle.ide_desks.specs.Apart.{HalvesMeet, RunsAreLive}
use Rattle.ide_desks.proofs.Meeting.{met_at_work, met_reached}

module _ {F L : Type 0} (a : Analysis F L) {D : Type 0} (G : Ghosts D) where
  pub runs_are_live : Knows a → RunsAreLive a G
  runs_are_live knows tag table half on none =
      let at = on.at_work in
      let w = on.world in
      let live = (reached_whole a knows (OnTwoDisks tag) w on.reached).held.world.live at.works.running in
      let whole : contents w.world.sealed ≡ at.handed =
      at.works.waits ∙ ap (λ (more : List Entry). at.handed ++ in_version table.version more) none ∙ append-nil at.handed in (
        record { version_is = refl; world = w; reached = on.reached; works = at.works },
        record {
          slot = at.slot;
          other = at.other;
          writes = at.writes;
          version_is = ap sealing_version (sym at.work) ∙ sym at.works.version;
          tag_is = at.tag_is;
          live =
              subst (λ (rs : List VersionedEntry). IsLiveTwo (slots_of a) tag rs w.world.stored (slot_writer at.other half.journal) (disks_of half.journal)) whole
              (subst (λ (d : Sides DiskState). IsLiveTwo (slots_of a) tag (contents w.world.sealed) w.world.stored (slot_writer at.other half.journal) d) at.disks
              (subst (λ (k : SlotWriter). IsLiveTwo (slots_of a) tag (contents w.world.sealed) w.world.stored k w.world.disks) at.work live));
        },
      )

  pub halves_meet : TwoDisksKeep (slots_of a) → HalvesMeet a G
  halves_meet keep tag version table half handed stored none works on = (
    record {
      world = _;
      reached = met_reached a tag version keep table half handed stored none works on;
      at_work = met_at_work a tag version keep table half handed stored none works on;
    },
    refl,
    refl,
  )

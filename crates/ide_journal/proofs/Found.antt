-- An opening finds what the disk holds, and leaves it held.
use Rattle.std.specs.Prelude.{◌≡◌, ℕ, ◌+◌, ◌-◌, List, [], ◌∷◌, ◌++◌, length, take, drop, slice_range, Result, Ok, Err, OnOk}
use Rattle.std.proofs.Common.{arith, ap, inl, inr, ◌∙◌}
use Rattle.std.proofs.lemmas.List.{length-append, length-take, length-drop}
use Rattle.ide_disk.specs.Disk.{DiskState, CrashLeaves, settled, cut_to, synced_now}
use Rattle.ide_disk.specs.declared.disk.Disk.{Ghosts}
use Rattle.ide_journal.specs.Bytes.{IsBefore}
use Rattle.ide_journal.specs.Format.{header, Holds}
use Rattle.ide_journal.specs.Lists.{entries_of}
use Rattle.ide_journal.specs.Moments.{LeavesNoMore}
use Rattle.ide_journal.specs.Opening.{IsLoaded, IsRecovered, HoldSame, LeftOrSame, KeepsRecords, CutsBehind, LeavesFront, head_read}
use Rattle.ide_journal.specs.declared.reading.Loaded.{Loaded}
use Rattle.ide_journal.proofs.Left.{cut_behind}
use Rattle.ide_journal.proofs.Lists.{holds_before}
use Rattle.ide_journal.proofs.Moments.{goes_on, weaker}
use Rattle.ide_journal.proofs.OneList.{length-header}
use Rattle.ide_journal.proofs.Whole.{holds_read, split_read}

-- all that stands before the closed gate
abbrev front : ℕ → Loaded → List ℕ → List ℕ
front tag loaded bytes = header (head_read tag loaded) ++ slice_range bytes 4096 loaded.gate

loaded_holds : (tag : ℕ) (bytes : List ℕ) (loaded : Loaded) → IsLoaded tag bytes loaded
    → Holds (head_read tag loaded) (entries_of loaded.records.items) bytes
loaded_holds tag bytes loaded is = holds_read (head_read tag loaded) _ loaded.gate bytes is.store is.read is.closed

loaded_split : (tag : ℕ) (bytes : List ℕ) (loaded : Loaded) → IsLoaded tag bytes loaded
    → bytes ≡ front tag loaded bytes ++ 0 ∷ drop (loaded.gate + 1) bytes
loaded_split tag bytes loaded is = split_read (head_read tag loaded) _ loaded.gate bytes is.store is.read is.closed

loaded_place : (tag : ℕ) (bytes : List ℕ) (loaded : Loaded) → IsLoaded tag bytes loaded → loaded.gate ≡ length (front tag loaded bytes)
loaded_place tag bytes loaded is =
    let gate = loaded.gate in
    let size : length (slice_range bytes 4096 gate) ≡ gate - 4096 = simp (length-take, length-drop) (omega (arith, is.read.inside, is.read.behind)) in
    omega (arith, length-append (header (head_read tag loaded)) (slice_range bytes 4096 gate), length-header (head_read tag loaded), size, is.read.behind)

-- a store that was read, once nothing stays behind its closed gate
pub is_recovered : {D : Type 0} (G : Ghosts D) (first second third : D) (tag : ℕ) (loaded : Loaded) → IsLoaded tag (G.state first).now loaded
    → G.state second ≡ settled (G.state first).now → CutsBehind loaded.gate (G.state second) (G.state third)
    → IsRecovered G tag first third loaded
is_recovered G first second third tag loaded is state cuts =
    let bytes = (G.state first).now in
    let place = loaded_place tag bytes loaded is in record {
      held = loaded_holds tag bytes loaded is;
      found = record {
        pages = slice_range bytes 4096 loaded.gate;
        whole = is.read.whole;
        place = place;
        settled_disk = cuts (front tag loaded bytes) (drop (loaded.gate + 1) bytes) place (state ∙ ap settled (loaded_split tag bytes loaded is));
      };
    }

-- a cut behind the closed gate, and a sync
cut_synced : (gate : ℕ) (old cut new : DiskState) → cut ≡ cut_to (gate + 1) old → new ≡ synced_now cut → CutsBehind gate old new
cut_synced gate old cut new was synced base rest place is =
    let now : cut.now ≡ base ++ 0 ∷ [] =
    ap (λ (d : DiskState). d.now) was
    ∙ ap (λ (d : DiskState). take (gate + 1) d.now) is
    ∙ ap (λ (n : ℕ). take (n + 1) (base ++ 0 ∷ rest)) place ∙ cut_behind base rest in
    synced ∙ ap settled now

pub cut_then_synced : {T E : Type 0} (gate : ℕ) (old cut new : DiskState) (result : Result T E) → cut ≡ cut_to (gate + 1) old
    → OnOk result (new ≡ synced_now cut) → OnOk result (CutsBehind gate old new)
cut_then_synced gate old cut new (Err fault) was synced = tt
cut_then_synced gate old cut new (Ok done) was synced = cut_synced gate old cut new was synced

-- the records before the closed gate are those of the file
same_list : (tag : ℕ) (bytes : List ℕ) (loaded : Loaded) → IsLoaded tag bytes loaded
    → (left : List ℕ) → IsBefore (front tag loaded bytes) left → HoldSame bytes left
same_list tag bytes loaded is left before = record {
  head = head_read tag loaded;
  entries = entries_of loaded.records.items;
  first = loaded_holds tag bytes loaded is;
  second = holds_before (head_read tag loaded) _ (slice_range bytes 4096 loaded.gate) left is.read.whole is.read.few before;
}

-- reading, and then the repair
pub recovers : {D : Type 0} (G : Ghosts D) (first second third : D) (tag : ℕ) (loaded : Loaded) → IsLoaded tag (G.state first).now loaded
    → G.state second ≡ settled (G.state first).now → LeavesNoMore G first second → LeavesFront G loaded.gate second third
    → KeepsRecords G first third
recovers G first second third tag loaded is state reading repairing =
    let bytes = (G.state first).now in
    goes_on G first second third (LeftOrSame (G.state first))
    (weaker G first second (CrashLeaves (G.state first)) (LeftOrSame (G.state first)) (λ left leaves. inl leaves) reading)
    (weaker G second third (IsBefore (front tag loaded bytes)) (LeftOrSame (G.state first))
    (λ left before. inr (same_list tag bytes loaded is left before))
    (repairing (front tag loaded bytes) (drop (loaded.gate + 1) bytes) (loaded_place tag bytes loaded is) (state ∙ ap settled (loaded_split tag bytes loaded is))))

-- A store whose records are all of one version keeps what a store has to.
use Rattle.std.proofs.Common.{◌≡◌, ◌∙◌, ℕ, List, [], ◌∷◌, ◌++◌, length, map, take, refl, ap, sym, subst, arith, inl, inr}
use Rattle.std.proofs.lemmas.List.{length-map, map-append, take-map}
use Rattle.ide_journal.specs.Format.{Entry, Head}
use Rattle.ide_journal.specs.declared.version.Version.{Version}
use Rattle.ide_journal.proofs.OneList.{holds_the_same}
use Rattle.ide_disk.specs.Disk.{DiskState}
use Rattle.ide_store.specs.OneDisk.{Stops, one_disk}
use Rattle.ide_store.specs.Store.{IsFoundOf, IsSafe, Store, StoreLaws}
use Rattle.ide_store.specs.Versioned.{AreIn, IsIn, VersionedEntry, in_version, one_version, plain}
use Rattle.ide_store.specs.World.{AreAlike, IsFolded, Rules}
use Rattle.ide_store.proofs.OneDisk.{one_disk_keeps}

pub plain_again : (version : Version) (entries : List Entry) → map plain (in_version version entries) ≡ entries
plain_again version [] = refl
plain_again version (entry ∷ entries) = ap (λ (es : List Entry). entry ∷ es) (plain_again version entries)

pub are_in : (version : Version) (entries : List Entry) → AreIn version (in_version version entries)
are_in version entries = ap (in_version version) (sym (plain_again version entries))

module _ {Image Step : Type 0} (rules : Rules Image Step VersionedEntry) (version : Version) (S : Store Entry)
    (laws : StoreLaws (λ found other. found ≡ other) S) where
  abbrev T : Store VersionedEntry
  T = one_version version S

  plain_count : (records : List VersionedEntry) → length (map plain records) ≡ length records
  plain_count records = length-map records plain

  -- some of the records that the store has are some of these
  some_found : (records : List VersionedEntry) (stored : ℕ) (found : List Entry) → AreIn version records → IsFoundOf (map plain records) stored found
      → IsFoundOf records stored (in_version version found)
  some_found records stored found are is = record {
    count = is.count;
    least = is.least;
    most = let most = is.most in omega (arith, plain_count records);
    is = ap (in_version version) is.is
        ∙ sym (take-map (λ (entry : Entry). (version, entry)) is.count (map plain records))
        ∙ ap (take is.count) (sym are);
  }

  safe_in : (records : List VersionedEntry) (stored : ℕ) (disks : S.Disks) → AreIn version records → IsSafe S (map plain records) stored disks
      → IsSafe T records stored disks
  safe_in records stored disks are safe = record {
    each = λ left leaves.
        let one = safe.each left leaves in (
          in_version version one.0,
          (are_in version one.0, subst (λ (found : List Entry). S.Holds found left) (sym (plain_again version one.0)) one.1),
          some_found records stored one.0 are one.2,
        );
    possible = safe.possible;
  }

  more_in : (records : List VersionedEntry) (r : VersionedEntry) → AreIn version records → IsIn version r → AreIn version (records ++ r ∷ [])
  more_in records r are is =
      ap (λ (rs : List VersionedEntry). rs ++ r ∷ []) are
      ∙ ap (λ (v : Version). in_version version (map plain records) ++ (v, r.1) ∷ []) is
      ∙ sym (map-append (λ (entry : Entry). (version, entry)) (map plain records) (r.1 ∷ []))
      ∙ ap (in_version version) (sym (map-append plain records (r ∷ [])))

  sealed : (records : List VersionedEntry) (stored : ℕ) (r : VersionedEntry) (work : S.Work) (disks : S.Disks) → T.Live records stored work disks
      → T.Fits work (length records) r → T.Live (records ++ r ∷ []) stored work disks
  sealed records stored r work disks live fits = (
    more_in records r live.0 fits.0,
    subst (λ (entries : List Entry). S.Live entries stored work disks) (sym (map-append plain records (r ∷ [])))
        (laws.sealed (map plain records) stored r.1 work disks live.1 (subst (λ (n : ℕ). S.Fits work n r.1) (sym (plain_count records)) fits.1)),
  )

  pub one_version_keeps : ((records : List VersionedEntry) (stored : ℕ) (disks after : S.Disks) → IsSafe T records stored disks
      → S.Stops disks after → IsSafe T records stored after) → StoreLaws (AreAlike rules) T
  one_version_keeps stopped = record {
    alike = λ found other left holds holds_other.
        let same : found ≡ other =
        holds.0 ∙ ap (in_version version) (laws.alike (map plain found) (map plain other) left holds.1 holds_other.1) ∙ sym holds_other.0 in
        record {
          count = ap length same;
          there = λ image folded. subst (λ (rs : List VersionedEntry). IsFolded rules rs image) same folded;
          back = λ image folded. subst (λ (rs : List VersionedEntry). IsFolded rules rs image) (sym same) folded;
        };
    crashed_leaves = laws.crashed_leaves;
    crashed_reads = laws.crashed_reads;
    live_safe = λ records stored work disks live. safe_in records stored disks live.0 (laws.live_safe (map plain records) stored work disks live.1);
    sealed = sealed;
    called = λ records stored work next disks after live calls. (live.0, laws.called (map plain records) stored work next disks after live.1 calls);
    stores = λ records stored work next disks after live stores. (live.0, laws.stores (map plain records) stored work next disks after live.1 stores);
    stores_some = λ records stored work next disks after stores.
        let less = laws.stores_some (map plain records) stored work next disks after stores in omega (arith, less, plain_count records);
    failed = λ records stored work disks after live fails.
        safe_in records stored after live.0 (laws.failed (map plain records) stored work disks after live.1 fails);
    begun = λ records stored work next disks live begins. (live.0, laws.begun (map plain records) stored work next disks live.1 begins);
    opened = λ found disks after work possible holds opens. (
      holds.0,
      subst (λ (n : ℕ). S.Live (map plain found) n work after) (plain_count found)
          (laws.opened (map plain found) disks after work possible holds.1 opens),
    );
    can_open = λ found disks holds. laws.can_open (map plain found) disks holds.1;
    stopped = stopped;
  }

-- one on one disk that stops within an opening holds what it held
stopped_in : (head : Head) (records : List VersionedEntry) (stored : ℕ) (disk after : DiskState)
    → IsSafe (one_version head.version (one_disk head)) records stored disk → Stops disk after
    → IsSafe (one_version head.version (one_disk head)) records stored after
stopped_in head records stored disk after safe stops = record {
  each = λ left leaves. elim (stops.each left leaves) [
    | inl before ↦ safe.each left before
    | inr same ↦
        let found = safe.each disk.now safe.possible in
        (found.0, (found.1.0, holds_the_same head (map plain found.0) disk.now left same found.1.1), found.2)
  ];
  possible = stops.possible;
}

-- so it keeps that too
pub one_disk_in_version : {Image Step : Type 0} (rules : Rules Image Step VersionedEntry) (head : Head)
    → StoreLaws (AreAlike rules) (one_version head.version (one_disk head))
one_disk_in_version rules head =
    one_version_keeps rules head.version (one_disk head) (one_disk_keeps head)
    (stopped_in head)

-- Records with the version in which each is spelled; and stores of which all records are of one version.
use Rattle.std.specs.Prelude.{◌≡◌, List, map}
use Rattle.ide_journal.specs.Format.{Entry, IsEntry}
use Rattle.ide_journal.specs.declared.version.Version.{Version}
use Rattle.ide_store.specs.Store.{Store}

-- a record as it was sealed: the version in which it is spelled, and what a journal has of it
abbrev pub VersionedEntry : Type 0
VersionedEntry = Version × Entry

-- what a journal has of it
abbrev pub plain : VersionedEntry → Entry
plain r = r.1

abbrev pub IsIn : Version → VersionedEntry → Type 0
IsIn version r = r.0 ≡ version

abbrev pub IsPlainEntry : VersionedEntry → Type 0
IsPlainEntry r = IsEntry r.1

-- the records that a journal of that version has, with it
abbrev pub in_version : Version → List Entry → List VersionedEntry
in_version version entries = map (λ entry. (version, entry)) entries

-- all of the records are of the one version
abbrev pub AreIn : Version → List VersionedEntry → Type 0
AreIn version records = records ≡ in_version version (map plain records)

-- the store, of whose records each is of that version
abbrev pub one_version : Version → Store Entry → Store VersionedEntry
one_version version S = record {
  Disks = S.Disks;
  Left = S.Left;
  Work = S.Work;
  reads = S.reads;
  crashed = S.crashed;
  Leaves = S.Leaves;
  Holds = λ found left. AreIn version found × S.Holds (map plain found) left;
  Fits = λ work number r. IsIn version r × S.Fits work number r.1;
  Live = λ records stored work disks. AreIn version records × S.Live (map plain records) stored work disks;
  Calls = λ records. S.Calls (map plain records);
  Stores = λ records. S.Stores (map plain records);
  Fails = λ records. S.Fails (map plain records);
  Begins = λ records. S.Begins (map plain records);
  Opens = S.Opens;
  Stops = S.Stops;
}

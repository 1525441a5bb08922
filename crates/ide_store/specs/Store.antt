-- A store of records as those above it see it, whatever devices it has.
use Rattle.std.specs.Prelude.{◌≡◌, ℕ, ◌+◌, ◌<◌, ◌≤◌, List, [], ◌∷◌, ◌++◌, length, take}

-- records are sealed one behind the other, and stored in that order: `records` are all that were
-- sealed, of which the first `stored` are stored
pub record Store (R : Type 0) : Type 1 where
  -- the devices, what a crash leaves of them, and where the writer stands
  pub Disks : Type 0
  pub Left : Type 0
  pub Work : Type 0
  -- what a read gives, the devices with just that, and what a crash may leave
  pub reads : Disks → Left
  pub crashed : Left → Disks
  pub Leaves : Disks → Left → Type 0
  -- what is left holds the records
  pub Holds : List R → Left → Type 0
  -- where the writer stands so, a record may be sealed under that number
  pub Fits : Work → ℕ → R → Type 0
  -- the writer stands so, with these records sealed and so many stored
  pub Live : (records : List R) (stored : ℕ) → Work → Disks → Type 0
  -- its calls: a good one, a good one that stores a record, and one that failed
  pub Calls : (records : List R) (stored : ℕ) → Work → Disks → Work → Disks → Type 0
  pub Stores : (records : List R) (stored : ℕ) → Work → Disks → Work → Disks → Type 0
  pub Fails : (records : List R) (stored : ℕ) → Work → Disks → Disks → Type 0
  -- a checkpoint of the records begins
  pub Begins : (records : List R) → Work → Work → Type 0
  -- an opening, and one that stops within
  pub Opens : Disks → Work → Disks → Type 0
  pub Stops : Disks → Disks → Type 0

-- the stored records were found, and perhaps some behind them
pub record IsFoundOf {R : Type 0} (records : List R) (stored : ℕ) (found : List R) : Type 0 where
  pub count : ℕ
  pub least : stored ≤ count
  pub most : count ≤ length records
  pub is : found ≡ take count records

-- whatever a crash leaves holds the stored records, and perhaps some behind them; and what is read is
-- something that a crash may leave
pub record IsSafe {R : Type 0} (S : Store R) (records : List R) (stored : ℕ) (disks : S.Disks) : Type 0 where
  pub each : (left : S.Left) → S.Leaves disks left → (found : List R) × S.Holds found left × IsFoundOf records stored found
  pub possible : S.Leaves disks (S.reads disks)

-- what a store keeps; two lists that the same bytes hold are alike
pub record StoreLaws {R : Type 0} (Alike : List R → List R → Type 0) (S : Store R) : Type 0 where
  pub alike : (found other : List R) (left : S.Left) → S.Holds found left → S.Holds other left → Alike found other
  pub crashed_leaves : (left other : S.Left) → S.Leaves (S.crashed left) other → other ≡ left
  pub crashed_reads : (left : S.Left) → S.Leaves (S.crashed left) (S.reads (S.crashed left))
  pub live_safe : (records : List R) (stored : ℕ) (work : S.Work) (disks : S.Disks)
      → S.Live records stored work disks → IsSafe S records stored disks
  pub sealed : (records : List R) (stored : ℕ) (r : R) (work : S.Work) (disks : S.Disks)
      → S.Live records stored work disks → S.Fits work (length records) r → S.Live (records ++ r ∷ []) stored work disks
  pub called : (records : List R) (stored : ℕ) (work next : S.Work) (disks after : S.Disks)
      → S.Live records stored work disks → S.Calls records stored work disks next after → S.Live records stored next after
  pub stores : (records : List R) (stored : ℕ) (work next : S.Work) (disks after : S.Disks)
      → S.Live records stored work disks → S.Stores records stored work disks next after → S.Live records (stored + 1) next after
  pub stores_some : (records : List R) (stored : ℕ) (work next : S.Work) (disks after : S.Disks)
      → S.Stores records stored work disks next after → stored < length records
  pub failed : (records : List R) (stored : ℕ) (work : S.Work) (disks after : S.Disks)
      → S.Live records stored work disks → S.Fails records stored work disks after → IsSafe S records stored after
  pub begun : (records : List R) (stored : ℕ) (work next : S.Work) (disks : S.Disks)
      → S.Live records stored work disks → S.Begins records work next → S.Live records stored next disks
  pub opened : (found : List R) (disks after : S.Disks) (work : S.Work) → S.Leaves disks (S.reads disks)
      → S.Holds found (S.reads disks) → S.Opens disks work after → S.Live found (length found) work after
  pub can_open : (found : List R) (disks : S.Disks) → S.Holds found (S.reads disks)
      → (work : S.Work) × (after : S.Disks) × S.Opens disks work after
  pub stopped : (records : List R) (stored : ℕ) (disks after : S.Disks)
      → IsSafe S records stored disks → S.Stops disks after → IsSafe S records stored after

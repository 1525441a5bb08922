-- What a table says in contracts: the function of each present key.
use Rattle.std.specs.Prelude.{◌≡◌, ℕ, zero, suc, ◌+◌, ◌-◌, ◌<◌, ◌≤◌, ◌^◌, Bool, length, map, slice_index_or, List, [], ◌∷◌, Option, None, Some, if◌then◌else◌}
use Rattle.std.specs.List.{AllByRecursion, list_any}
use Rattle.std.specs.List.Sorted.{IsStrictlySortedBy}
use Rattle.std.specs.Map.{lookup, keys_of}
use Rattle.std.specs.BTreeMap.{is_at}
use Rattle.std.specs.Option.{is_some}
use Rattle.std.specs.Ordering.{nat_cmp}
use Rattle.std.specs.declared.cmp.Ordering.{Ordering}
use Rattle.ide_lattice.specs.Algebra.{EdgeAlgebra}
use Rattle.ide_wire.specs.declared.key.Key.{Key}
use Rattle.ide_wire.specs.declared.key.Key.TheVariants.{Jump, Summary}
use Rattle.ide_wire.specs.Key.{same_key}

-- a table: its present keys with their functions. Their order is the one in which a walk meets them, and means nothing else
pub record Table (F : Type 0) : Type 0 where
  pub entries : List (Key × F)

-- the function of the key, if it is present
abbrev pub found : {F : Type 0} → Table F → Key → Option F
found table key = lookup (same_key key) table.entries

-- the key's function is f, and every other entry stays
pub record Sets {F : Type 0} (old new : Table F) (key : Key) (f : F) : Type 0 where
  pub entries : (q : Key) → found new q ≡ (if same_key key q then Some f else found old q)

-- the key counts among the present ones now: there is one more, if it was not among them
abbrev pub CountsKey : {F : Type 0} → (old new : Table F) → Key → Type 0
CountsKey old new key = length new.entries ≡ length old.entries + (if is_some (found old key) then 0 else 1)

-- the last function that the entries have for the key, or f where they have none
abbrev pub last_of : {F : Type 0} → List (Key × F) → Key → Option F → Option F
last_of [] key f = f
last_of (e ∷ es) key f = last_of es key (if same_key e.0 key then Some e.1 else f)

-- the entries of the list are set one after the other, and every other entry stays
pub record SetsAll {F : Type 0} (old new : Table F) (list : List (Key × F)) : Type 0 where
  pub entries : (q : Key) → found new q ≡ last_of list q (found old q)

-- the keys are the present ones, ascending
pub record AreKeys {F : Type 0} (cmp : Key → Key → Ordering) (table : Table F) (keys : List Key) : Type 0 where
  pub ascending : IsStrictlySortedBy cmp keys
  pub exact : (key : Key) → list_any (same_key key) keys ≡ is_some (found table key)

module _ {F L : Type 0} (edge : EdgeAlgebra F L) where
  -- the function, where an absent one is always top
  abbrev pub or_top : Option F → F
  or_top None = edge.all_top
  or_top (Some f) = f

  -- the function that the key stands for
  abbrev pub function_at : Table F → Key → F
  function_at table key = or_top (found table key)

  -- the key's function, lowered by f
  abbrev pub lowered_by : Table F → Key → F → F
  lowered_by table key f = edge.meet (function_at table key) f

  -- the key's function is met with f, and every other entry stays
  abbrev pub Lowers : (old new : Table F) → Key → F → Type 0
  Lowers old new key f = Sets old new key (lowered_by old key f)

  -- a function falls to another one of smaller rank: so the other is not the one before, nor always top
  pub record Falls (old new : F) : Type 0 where
    pub less : edge.rank new < edge.rank old
    pub most : edge.rank old ≤ edge.height

  -- the key's function falls where it is lowered by f
  abbrev pub FallsAt : Table F → Key → F → Type 0
  FallsAt table key f = Falls (function_at table key) (lowered_by table key f)

-- whether the key's function, lowered by f, is what it was
abbrev pub is_kept : {F L : Type 0} → (F → F → Bool) → EdgeAlgebra F L → Table F → Key → F → Bool
is_kept eq edge table key f = eq (lowered_by edge table key f) (function_at edge table key)

-- the partners, ascending by fact, are the present ones of the keys `at` a fact
pub record ArePartners {F : Type 0} (at : ℕ → Key) (table : Table F) (partners : List (ℕ × F)) : Type 0 where
  pub ascending : IsStrictlySortedBy nat_cmp (keys_of partners)
  pub within : AllByRecursion (λ d. d < 2 ^ 16) (keys_of partners)
  pub exact : (d : ℕ) → d < 2 ^ 16 → lookup (is_at (nat_cmp d)) partners ≡ found table (at d)

-- they are those of the jumps at the node to the fact
abbrev pub AreJumpsTo : {F : Type 0} → ℕ → ℕ → Table F → List (ℕ × F) → Type 0
AreJumpsTo node fact table partners = ArePartners (λ d. Jump node d fact) table partners

-- they are those of the summaries at the node from the fact
abbrev pub AreSummariesFrom : {F : Type 0} → ℕ → ℕ → Table F → List (ℕ × F) → Type 0
AreSummariesFrom node fact table partners = ArePartners (Summary node fact) table partners

-- the entries, with f at the key: the key stays where it stands, and a new one goes last
abbrev pub with_entry : {F : Type 0} → List (Key × F) → Key → F → List (Key × F)
with_entry [] key f = (key, f) ∷ []
with_entry (e ∷ es) key f = if same_key key e.0 then (e.0, f) ∷ es else e ∷ with_entry es key f

-- the entries, with those of the list put in, one after the other
abbrev pub with_all : {F : Type 0} → List (Key × F) → List (Key × F) → List (Key × F)
with_all es [] = es
with_all es (x ∷ xs) = with_all (with_entry es x.0 x.1) xs

-- the place behind a first entry
abbrev pub behind : ℕ → ℕ
behind zero = 0
behind (suc n) = suc (suc n)

-- one more than the index of the key's entry: 0, if it has none
abbrev pub place_in : {F : Type 0} → Key → List (Key × F) → ℕ
place_in key [] = 0
place_in key (e ∷ es) = if same_key key e.0 then 1 else behind (place_in key es)

-- the fact with the function that is kept under the index before the number, or with f where there is none
abbrev pub partner_at : {F : Type 0} → F → List F → ℕ × ℕ → ℕ × F
partner_at f functions listed = (listed.0, slice_index_or functions (listed.1 - 1) f)

-- the same of each fact of a row, where there is none always top
abbrev pub partners_at : {F L : Type 0} → EdgeAlgebra F L → List F → List (ℕ × ℕ) → List (ℕ × F)
partners_at edge functions row = map (partner_at edge.all_top functions) row

-- Two sides, and which of two slots is current.
use Rattle.std.specs.Prelude.{◌≡◌, ◌⊎◌, ℕ, ◌<◌, ◌≤◌, List, length}
pub use Rattle.ide_slots.specs.declared.side.Side.{Side}
pub use Rattle.ide_slots.specs.declared.side.Side.TheVariants.{First, Second}
use Rattle.ide_slots.specs.Slot.{HoldsSlot, IsClosedSlot, IsOpenSlot, Slot, records_of}

abbrev pub across : Side → Side
across First = Second
across Second = First

-- one of each for A and B
pub record Sides (X : Type 0) : Type 0 where
  pub a : X
  pub b : X

-- that of a side, and that of the other
abbrev pub on : {X : Type 0} → Side → Sides X → X
on First sides = sides.a
on Second sides = sides.b

abbrev pub off : {X : Type 0} → Side → Sides X → X
off First sides = sides.b
off Second sides = sides.a

-- the one for a side, and the other for the other
abbrev pub two_sides : {X : Type 0} → Side → X → X → Sides X
two_sides First x y = record { a = x; b = y }
two_sides Second x y = record { a = y; b = x }

-- the slot that an opening takes: of the open ones that of greater generation, A where they are equal or none is open
abbrev pub IsChosen : Side → Sides (List ℕ) → Type 0
IsChosen First left =
    IsClosedSlot left.b ⊎ ((g : ℕ) × (h : ℕ) × IsOpenSlot g left.a × IsOpenSlot h left.b × (h ≤ g))
IsChosen Second left =
    (h : ℕ) × IsOpenSlot h left.b × (IsClosedSlot left.a ⊎ ((g : ℕ) × IsOpenSlot g left.a × (g < h)))

-- beside a current slot on that side and of this generation, a slot of the lesser one is not taken
abbrev pub IsLesser : Side → ℕ → ℕ → Type 0
IsLesser First lesser generation = lesser ≤ generation
IsLesser Second lesser generation = lesser < generation

-- an open slot of lesser generation; something stands behind its first gate, since of a file that ends with that byte
-- the write that closes it may leave no more than the first page, which is no slot
pub record IsLesserSlot (side : Side) (generation : ℕ) (bytes : List ℕ) : Type 0 where
  pub lesser : ℕ
  pub less : IsLesser side lesser generation
  pub opened : IsOpenSlot lesser bytes
  pub more : 4097 < length bytes

-- a slot that is closed, or of lesser generation
abbrev pub IsClosedOrLesser : Side → ℕ → List ℕ → Type 0
IsClosedOrLesser side generation bytes = IsClosedSlot bytes ⊎ IsLesserSlot side generation bytes

-- a slot that is not taken beside this one: where this one has no record, it is that of A, and the other is closed
abbrev pub IsBehind : Side → Slot → List ℕ → Type 0
IsBehind side slot bytes =
    ((side ≡ First) × IsClosedSlot bytes)
    ⊎ ((0 < length (records_of slot)) × IsClosedOrLesser side slot.generation bytes)

-- the one file holds the slot, and the other is not taken beside it
pub record Shows (slot : Slot) (left : Sides (List ℕ)) : Type 0 where
  pub side : Side
  pub holds : HoldsSlot slot (on side left)
  pub behind : IsBehind side slot (off side left)

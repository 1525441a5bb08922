-- The first of some faults of a text.
use Rattle.std.specs.Prelude.{ℕ, ◌≤◌, Result, Ok, Err}
use Rattle.ide_wire.specs.declared.refused.Fault.{Fault}
use Rattle.ide_wire.specs.declared.refused.Fault.TheVariants.{TextTooLong, NoSuchLine, OutOfPlace, TooMany, DeclaredTwice, NoSuchVariable, NoSuchLabel, NoSuchProcedure, WrongArguments, WrongCallees}
use Rattle.ide_wire.specs.declared.refused.Refused.{Refused}
use Rattle.ide_wire.specs.declared.refused.Refused.TheVariants.{NoMemory, Text}

-- the number of a fault, F1 to F10
abbrev pub number_of : Fault → ℕ
number_of TextTooLong = 1
number_of NoSuchLine = 2
number_of OutOfPlace = 3
number_of TooMany = 4
number_of DeclaredTwice = 5
number_of NoSuchVariable = 6
number_of NoSuchLabel = 7
number_of NoSuchProcedure = 8
number_of WrongArguments = 9
number_of WrongCallees = 10

-- of these faults the one with the least number
pub record IsLeast (faults : Fault → Type 0) (fault : Fault) : Type 0 where
  pub found : faults fault
  pub least_number : (f : Fault) → faults f → number_of fault ≤ number_of f

-- of these faults on lines, the one on the least line, and there with the least number
pub record IsFirst (faults : ℕ → Fault → Type 0) (line : ℕ) (fault : Fault) : Type 0 where
  pub found : faults line fault
  pub least_line : (l : ℕ) (f : Fault) → faults l f → line ≤ l
  pub least_number : (f : Fault) → faults line f → number_of fault ≤ number_of f

-- a line was checked: it has none of the faults, or this is the one with the least number
abbrev pub LineChecked : (Fault → Type 0) → Result (Unit {0}) Fault → Type 0
LineChecked faults (Ok _) = (fault : Fault) → ¬ faults fault
LineChecked faults (Err fault) = IsLeast faults fault

-- the refusal is for want of memory, or tells the first of the faults
abbrev pub TellsFirst : (ℕ → Fault → Type 0) → Refused → Type 0
TellsFirst faults NoMemory = Unit {0}
TellsFirst faults (Text line fault) = IsFirst faults line fault
TellsFirst faults _ = ⊥

-- lines were checked: they have none of the faults, or the refusal tells the first
abbrev pub Checked : (ℕ → Fault → Type 0) → Result (Unit {0}) Refused → Type 0
Checked faults (Ok _) = (line : ℕ) (fault : Fault) → ¬ faults line fault
Checked faults (Err refused) = TellsFirst faults refused

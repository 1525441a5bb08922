-- What keeps a line from being taken.
use Rattle.std.specs.Prelude.{◌≡◌}
use Rattle.ide_wire.specs.declared.refused.Fault.{Fault}
use Rattle.ide_wire.specs.declared.refused.Fault.TheVariants.{NoSuchLine}
use Rattle.ide_text.specs.declared.flaw.Flaw.{Flaw}
use Rattle.ide_text.specs.declared.flaw.Flaw.TheVariants.{NoMemory, Faulty}

-- of the fault, where it is not memory that is wanting
abbrev pub IfFaulty : Flaw → (Fault → Type 0) → Type 0
IfFaulty NoMemory P = Unit {0}
IfFaulty (Faulty fault) P = P fault

-- only for a line that is none of the grammar, for which that fact holds
abbrev pub IsNoLine : Type 0 → Flaw → Type 0
IsNoLine P flaw = IfFaulty flaw (λ fault. (fault ≡ NoSuchLine) × P)

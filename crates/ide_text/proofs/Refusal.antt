-- Refusals of a text, between other lines.
use Rattle.std.proofs.Common.{◌≤◌, ℕ, arith}
use Rattle.ide_wire.specs.declared.refused.Refused.{Refused}
use Rattle.ide_wire.specs.declared.refused.Refused.TheVariants.{NoMemory, Text}
use Rattle.ide_text.specs.Refusal.{IsTextRefusal}

pub IsTextRefusal-wider : (first last first' last' : ℕ) (r : Refused) → first' ≤ first → last ≤ last' → IsTextRefusal first last r → IsTextRefusal first' last' r
IsTextRefusal-wider first last first' last' NoMemory low high h = tt
IsTextRefusal-wider first last first' last' (Text line fault) low high h = (omega arith, omega arith)
IsTextRefusal-wider first last first' last' _ low high h = h

-- Hands that work as one, and why they are refused.
use Rattle.std.specs.Prelude.{ℕ, ◌+◌, ◌<◌, ◌≤◌}
use Rattle.ide_wire.specs.declared.refused.Refused.{Refused}
use Rattle.ide_wire.specs.declared.refused.Refused.TheVariants.{Limit, NoMemory}
use Rattle.ide_service.specs.Refusing.{HandCall, IsLoopRefusal}
use Rattle.ide_service.specs.declared.apart.Span.{Span}

-- there is a hand, and none has a number over 63
pub record AreHands (span : Span) : Type 0 where
  pub some : 0 < span.count
  pub within : span.first + span.count ≤ 64

-- the hand is one of them
pub record IsOneOf (span : Span) (hand : ℕ) : Type 0 where
  pub least : span.first ≤ hand
  pub below : hand < span.first + span.count

-- why they are refused: there is none, or one has too great a number; memory is wanting; or a loop of one of them is refused so
pub data IsSpanRefusal {H F : Type 0} (refuses : H → HandCall F → Refused → Type 0) (span : Span) : Refused → Type 0 where
  no_hands : ¬ (AreHands span) → IsSpanRefusal refuses span Limit
  no_memory : IsSpanRefusal refuses span NoMemory
  as_one : {why : Refused} (hand : ℕ) → IsOneOf span hand → IsLoopRefusal refuses hand why → IsSpanRefusal refuses span why

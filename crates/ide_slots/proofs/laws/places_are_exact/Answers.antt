use Rattle.ide_slots.proofs.Exact.{places_are_exact}
use Rattle.ide_slots.proofs.laws.places_are_exact.Goals as goal

pub returns : goal.returns
returns c = places_are_exact

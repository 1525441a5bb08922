use Rattle.std.proofs.Common.{refl}
use Rattle.ide_values.proofs.laws.dumps_of_best_are_best.Goals as goal

pub returns : goal.returns
returns g c = λ graph roots table value shown best p of all solved. record { value = value; best = best p of all solved; lines = refl }

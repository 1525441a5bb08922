use Rattle.std.proofs.Common.{arith}
use Rattle.std.proofs.lemmas.List.Elements.{All-replicate}
use Rattle.ide_values.specs.Stretches.{IsStretch}
use Rattle.ide_values.proofs.stretches.Stretches.unscanned.Goals as goal

pub returns : goal.returns
returns c =
    All-replicate (IsStretch c.args.graph.now) 128 record { begin = 0; end = 0; procedure = 0 } (λ n from to. let no : ⊥ = omega (arith, to) in absurd no)

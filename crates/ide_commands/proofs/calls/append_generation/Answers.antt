use Rattle.std.proofs.Common.{◌++◌, ℕ, ap, codes, ◌∙◌}
use Rattle.std.proofs.lemmas.Result.{on_ok_weaker}
use Rattle.ide_commands.specs.Lines.{number_line}
use Rattle.ide_commands.proofs.calls.append_generation.Goals as goal

pub returns : goal.returns
returns g c =
    on_ok_weaker c.append_line.result
    (λ appended. appended ∙ ap (λ (n : ℕ). c.args.out.now.items ++ number_line (codes "generation ") n) (c.from.ensures ∙ c.generation.ensures))
    c.append_line.ensures

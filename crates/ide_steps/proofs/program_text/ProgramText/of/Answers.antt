use Rattle.std.proofs.Common.{ap, refl}
use Rattle.ide_text.specs.Program.{value_of}
use Rattle.ide_steps.specs.Said.{SaysOnce}
use Rattle.ide_steps.specs.SaidOnce.{SaysOnce-prop}
use Rattle.ide_steps.proofs.program_text.ProgramText.of.Goals as goal

pub invariant_of-result : goal.invariant_of-result
invariant_of-result c = record { spelled = (value_of c.args._program.now, ∣ (c.args._program.now, c.requires, refl) ∣₁) }

-- what is kept says what the program says, since a text says one thing
pub returns : goal.returns
returns c =
    let said : SaysOnce c.args.text.items = (value_of c.args._program.now, ∣ (c.args._program.now, c.requires, refl) ∣₁) in
    ap (λ (s : SaysOnce c.args.text.items). s.0) (SaysOnce-prop c.args.text.items c.result-1.given.0 said)

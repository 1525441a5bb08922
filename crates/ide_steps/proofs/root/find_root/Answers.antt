use Rattle.std.proofs.Common.{rules, ◌∙◌}
use Rattle.ide_steps.specs.Refusal.{already, parameters, unnamed}
use Rattle.ide_steps.proofs.root.find_root.Goals as goal

pub returns-in_default-clause-fault : goal.returns-in_default-clause-fault
returns-in_default-clause-fault c = unnamed (search rules)

pub returns-then-parameter_count-ne0-clause-fault : goal.returns-then-parameter_count-ne0-clause-fault
returns-then-parameter_count-ne0-clause-fault c =
    parameters c.in-Some.procedure (search rules) (λ none. c.if-parameter_count-ne0.true (c.parameter_count.ensures ∙ none))

pub returns-then-contains-clause-fault : goal.returns-then-contains-clause-fault
returns-then-contains-clause-fault c = already c.in-Some.procedure (search rules) (search rules) (search rules)

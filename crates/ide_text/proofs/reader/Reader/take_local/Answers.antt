use Rattle.ide_text.specs.FirstFault.{last_variables}
use Rattle.ide_text.specs.Reader.{taken_lines}
use Rattle.std.proofs.Common.{◌≡◌, ◌+◌, vec_len, ◌≢◌, ◌∙◌, sym, length, arith}
use Rattle.std.proofs.lemmas.Bool.Decides.{nat_tests}
use Rattle.std.proofs.lemmas.Bool.{false≢true}
use Rattle.ide_text.proofs.Standing.{at_open, counts_local, no_variable_closed, variable_open, no_variable_stated}
use Rattle.ide_text.proofs.reader.Reader.take_local.Goals as goal

pub returns-in_default-clause-fault : goal.returns-in_default-clause-fault
returns-in_default-clause-fault c = let r = c.args.self.now in no_variable_closed r.globals.items r.procedures.items r.open (sym c.in_default.ensures.value)

pub returns-then-not-is_empty-clause-fault : goal.returns-then-not-is_empty-clause-fault
returns-then-not-is_empty-clause-fault c =
    let r = c.args.self.now in
    let ok = c.in-Some.procedure.statements.ok.0 in
    let some : length c.in-Some.procedure.statements.items ≢ 0 = grind (arith, nat_tests, c.if-not-is_empty.ensures) in
    no_variable_stated r.globals.items r.procedures.items r.open c.in-Some.procedure (sym c.in-Some.ensures.value) some

pub returns-then-not-facts_fit-clause-fault : goal.returns-then-not-facts_fit-clause-fault
returns-then-not-facts_fit-clause-fault c =
    let r = c.args.self.now in
    let ok = c.in-Some.procedure.statements.ok.0 in
    let none : length c.in-Some.procedure.statements.items ≡ 0 = grind (arith, nat_tests, c.if-not-is_empty.ensures) in (
      variable_open r.globals.items r.procedures.items r.open c.in-Some.procedure (sym c.in-Some.ensures.value) none,
      λ fits. let counts = counts_local c.args.name (taken_lines r) in
          let variables = at_open r.open c.in-Some.procedure (λ p. vec_len p.parameters + vec_len p.locals ≡ last_variables (taken_lines r)) (sym c.in-Some.ensures.value) c.requires.variables in
          false≢true (sym c.if-not-facts_fit.true ∙ c.facts_fit.ensures.1 (omega (arith, counts.2, counts.3, fits.facts, c.requires.globals, c.requires.most, variables))),
    )

pub returns-clause-place : goal.returns-clause-place
returns-clause-place c =
    let r = c.args.self.now in
    let ok = c.in-Some.procedure.statements.ok.0 in
    let none : length c.in-Some.procedure.statements.items ≡ 0 = grind (arith, nat_tests, c.if-not-is_empty.ensures) in
    variable_open r.globals.items r.procedures.items r.open c.in-Some.procedure (sym c.in-Some.ensures.value) none

use Rattle.ide_text.specs.declared.line.Line.TheVariants.{Statement}
use Rattle.ide_text.specs.FirstFault.{last_variables}
use Rattle.ide_text.specs.Reader.{taken_lines}
use Rattle.std.proofs.Common.{◌≡◌, ◌+◌, option_to_list, vec_len, ap, ◌∷◌, sym, refl, length, arith}
use Rattle.ide_text.proofs.Standing.{at_open, counted_from, step_taken, counts_step, no_inside_closed, inside_open}
use Rattle.ide_text.proofs.reader.Reader.take_statement.Goals as goal

pub returns-in_default-clause-fault : goal.returns-in_default-clause-fault
returns-in_default-clause-fault c = let r = c.args.self.now in no_inside_closed r.globals.items r.procedures.items r.open (sym c.in_default.ensures.value)

pub returns-then-nodes-gt-MAX_NODES-clause-fault : goal.returns-then-nodes-gt-MAX_NODES-clause-fault
returns-then-nodes-gt-MAX_NODES-clause-fault c =
    let r = c.args.self.now in
    (inside_open r.globals.items r.procedures.items r.open c.in-Some.procedure (sym c.in-Some.ensures.value), λ fits. let counts = counts_step c.args.statement (taken_lines r) in omega (arith, counts.1, fits.nodes, c.nodes.ensures.counted, c.requires.nodes))

pub returns-clause-counted : goal.returns-clause-counted
returns-clause-counted c =
    let r = c.args.self.now in
    let counts = counts_step c.args.statement (taken_lines r) in
    let fits = c.requires.fits in
    let opened : length (option_to_list r.open) ≡ 1 = ap (λ o. length (option_to_list o)) (sym c.in-Some.ensures.value) in
    let variables : vec_len c.in-Some.procedure.parameters + vec_len c.in-Some.procedure.locals ≡ last_variables (taken_lines r) = at_open r.open c.in-Some.procedure (λ p. vec_len p.parameters + vec_len p.locals ≡ last_variables (taken_lines r)) (sym c.in-Some.ensures.value) c.requires.variables in
    counted_from _ (Statement c.args.statement ∷ taken_lines r) (step_taken r.globals.items r.procedures.items r.open c.in-Some.procedure (record c.in-Some.procedure { statements = c.push.new.self }) c.args.statement (sym c.in-Some.ensures.value) refl refl refl c.in_ok-push.ensures.items) (omega (arith, counts.2, c.requires.globals)) (omega (arith, counts.0, c.requires.procedures)) (omega (arith, counts.1, c.requires.nodes, c.nodes.ensures.counted)) variables (omega (arith, counts.3, c.requires.most))
    (record { procedures = omega (arith, counts.0, fits.procedures); parameters = (omega arith, fits.parameters); nodes = omega (arith, counts.1, fits.nodes, c.requires.nodes, c.nodes.ensures.counted); facts = omega (arith, counts.2, counts.3, fits.facts) })

pub returns-clause-place : goal.returns-clause-place
returns-clause-place c = let r = c.args.self.now in inside_open r.globals.items r.procedures.items r.open c.in-Some.procedure (sym c.in-Some.ensures.value)

use Rattle.ide_text.specs.declared.line.Line.TheVariants.{End}
use Rattle.ide_text.specs.declared.program.Procedure.{Procedure}
use Rattle.ide_text.specs.Reader.{taken_lines}
use Rattle.std.proofs.Common.{◌≡◌, [], option_to_list, length, ◌∷◌, ◌++◌, None, ap, refl, sym, arith}
use Rattle.ide_text.proofs.Standing.{counted_from, end_taken, counts_end, no_inside_closed, inside_open}
use Rattle.ide_text.proofs.reader.Reader.take_end.Goals as goal

pub returns-in_default-clause-fault : goal.returns-in_default-clause-fault
returns-in_default-clause-fault c = let r = c.args.self.now in no_inside_closed r.globals.items r.procedures.items r.open (sym c.in_default.ensures.value)

pub returns-clause-taken : goal.returns-clause-taken
returns-clause-taken c =
    let r = c.args.self.now in
    let gone : c.take.new.self ≡ None = c.in-Some.ensures.after in
    let ended : Procedure = record c.in-Some.procedure { statements = c.shrink_to_fit.new.self } in
    let items : c.push.new.self.items ≡ r.procedures.items ++ ended ∷ [] = c.in_ok-push.ensures.items in
    rw (gone, items) (end_taken r.globals.items r.procedures.items r.open c.in-Some.procedure ended (sym c.in-Some.ensures.value) refl refl refl c.shrink_to_fit.ensures.items)

pub returns-clause-counted : goal.returns-clause-counted
returns-clause-counted c =
    let r = c.args.self.now in
    let gone : c.take.new.self ≡ None = c.in-Some.ensures.after in
    let ended : Procedure = record c.in-Some.procedure { statements = c.shrink_to_fit.new.self } in
    let items : c.push.new.self.items ≡ r.procedures.items ++ ended ∷ [] = c.in_ok-push.ensures.items in
    let counts = counts_end (taken_lines r) in
    let opened : length (option_to_list r.open) ≡ 1 = ap (λ o. length (option_to_list o)) (sym c.in-Some.ensures.value) in
    counted_from _ (End ∷ taken_lines r) (rw (gone, items) (end_taken r.globals.items r.procedures.items r.open c.in-Some.procedure ended (sym c.in-Some.ensures.value) refl refl refl c.shrink_to_fit.ensures.items)) (omega (arith, counts.2, c.requires.globals)) (rw gone (omega (arith, counts.0, c.requires.procedures, c.in_ok-push.ensures.len))) (omega (arith, counts.1, c.requires.nodes)) (rw gone tt) (omega (arith, counts.3, c.requires.most))
    (record { procedures = omega (arith, counts.0, c.requires.fits.procedures); parameters = (omega arith, c.requires.fits.parameters); nodes = omega (arith, counts.1, c.requires.fits.nodes); facts = omega (arith, counts.2, counts.3, c.requires.fits.facts) })

pub returns-clause-place : goal.returns-clause-place
returns-clause-place c = let r = c.args.self.now in inside_open r.globals.items r.procedures.items r.open c.in-Some.procedure (sym c.in-Some.ensures.value)

use Rattle.ide_text.specs.declared.line.Line.TheVariants.{Global}
use Rattle.ide_text.specs.Reader.{taken_lines}
use Rattle.std.proofs.Common.{◌≡◌, ◌∷◌, ◌≢◌, sym, length, arith}
use Rattle.std.proofs.lemmas.Bool.Decides.{nat_tests}
use Rattle.ide_text.proofs.Standing.{none_open, counted_from, global_taken, counts_global, no_global_open, no_global_ended}
use Rattle.ide_text.proofs.reader.Reader.take_global.Goals as goal
use Rattle.ide_text.proofs.reader.Reader.take_global.Goals.{then-is_some-via-then-is_some, then-is_some-via-else-is_some+then-not-is_empty}

pub returns-then-is_some-clause-fault : goal.returns-then-is_some-clause-fault
returns-then-is_some-clause-fault c =
    let r = c.args.self.now in
    elim c.then-is_some.branch [
      | then-is_some-via-then-is_some w ↦ no_global_open r.globals.items r.procedures.items r.open (sym w.if-is_some.ensures)
      | then-is_some-via-else-is_some+then-not-is_empty w ↦
          let ok = r.procedures.ok.0 in
          let some : length r.procedures.items ≢ 0 = grind (arith, nat_tests, w.if-not-is_empty.ensures) in
          no_global_ended r.globals.items r.procedures.items r.open (sym w.if-is_some.ensures) some
    ]

pub returns-clause-counted : goal.returns-clause-counted
returns-clause-counted c =
    let r = c.args.self.now in
    let counts = counts_global c.args.name (taken_lines r) in
    let fits = c.requires.fits in
    let ok = r.procedures.ok.0 in
    let none : length r.procedures.items ≡ 0 = grind (arith, nat_tests, c.if-not-is_empty.ensures) in
    counted_from _ (Global c.args.name ∷ taken_lines r) (rw c.in_ok-push.ensures.items (global_taken r.globals.items r.procedures.items r.open c.args.name (sym c.if-is_some.ensures) none)) (omega (arith, counts.2, c.requires.globals, c.in_ok-push.ensures.len)) (omega (arith, counts.0, c.requires.procedures)) (omega (arith, counts.1, c.requires.nodes)) (none_open r.open _ (sym c.if-is_some.ensures)) (omega (arith, counts.3, c.requires.most))
    (record { procedures = omega (arith, counts.0, fits.procedures); parameters = (omega arith, fits.parameters); nodes = omega (arith, counts.1, fits.nodes); facts = omega (arith, counts.2, counts.3, c.requires.globals, c.requires.most, c.if-not-facts_fit.ensures.0) })

use Rattle.std.proofs.Common.{◌≡◌, ◌≢◌, length, sym, refl, arith}
use Rattle.std.proofs.lemmas.Bool.Decides.{nat_tests}
use Rattle.ide_text.proofs.Standing.{no_end_open, no_end_empty, end_ended}
use Rattle.ide_text.proofs.reader.Reader.finish.Goals as goal
use Rattle.ide_text.proofs.reader.Reader.finish.Goals.{then-is_some-via-then-is_some, then-is_some-via-else-is_some+then-is_empty}

pub returns-then-is_some-clause-fault : goal.returns-then-is_some-clause-fault
returns-then-is_some-clause-fault c = (
  refl,
  let r = c.args.self in
      elim c.then-is_some.branch [
        | then-is_some-via-then-is_some w ↦ no_end_open r.globals.items r.procedures.items r.open (sym w.if-is_some.ensures)
        | then-is_some-via-else-is_some+then-is_empty w ↦
            let ok = r.procedures.ok.0 in
            let none : length r.procedures.items ≡ 0 = grind (arith, nat_tests, w.if-is_empty.ensures) in
            no_end_empty r.globals.items r.procedures.items r.open (sym w.if-is_some.ensures) none
      ],
)

pub returns-clause-place : goal.returns-clause-place
returns-clause-place c =
    let r = c.args.self in
    let ok = r.procedures.ok.0 in
    let some : length r.procedures.items ≢ 0 = grind (arith, nat_tests, c.if-is_empty.ensures) in
    end_ended r.globals.items r.procedures.items r.open (sym c.if-is_some.ensures) some

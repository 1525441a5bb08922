use Rattle.std.proofs.Common.{◌≡◌, ◌≢◌, [], length, ap, arith}
use Rattle.std.proofs.lemmas.Bool.Decides.{nat_tests}
use Rattle.std.proofs.lemmas.List.{nil_from_length}
use Rattle.ide_text.specs.Reader.{taken_lines}
use Rattle.ide_text.proofs.Refusal.{IsTextRefusal-wider}
use Rattle.ide_text.proofs.Texts.{FirstFault-ended, FirstFault-unended, IsFirstFault-refused, Spells-at_end, lines_fit, program_fits}
use Rattle.ide_text.proofs.parser.read.Goals as goal

pub returns-in-Err-clause-refusals : goal.returns-in-Err-clause-refusals
returns-in-Err-clause-refusals c =
    let few = lines_fit c.args.text.now (taken_lines c.loop-next.reader) c.loop-next.rest.now c.loop-next.invariant.text in
    IsTextRefusal-wider _ _ _ _ _ (omega (arith, c.loop-next.invariant.line)) (omega (arith, few, c.loop-next.invariant.line)) c.on_line.ensures.range

pub returns-in-Err-clause-faults : goal.returns-in-Err-clause-faults
returns-in-Err-clause-faults c =
    rw c.on_line.ensures.exact (IsFirstFault-refused c.args.text.now (taken_lines c.loop-next.reader) c.loop-next.rest.now c.in-Some.next.now c.in-Some.after.now c.loop-next.line c.in-Err.flaw
    c.loop-next.invariant.taken c.loop-next.invariant.text c.in-Some.ensures.0 c.in-Some.ensures.1 c.loop-next.invariant.line c.in-Err.ensures.fault)

pub overflow_add-line : goal.overflow_add-line
overflow_add-line c =
    let few = lines_fit c.args.text.now (taken_lines c.loop-next.reader) c.loop-next.rest.now c.loop-next.invariant.text in
    omega (arith, few, c.loop-next.invariant.line, c.requires)

pub returns-then-not-is_empty-clause-refusals : goal.returns-then-not-is_empty-clause-refusals
returns-then-not-is_empty-clause-refusals c =
    let few = lines_fit c.args.text.now (taken_lines c.loop-next.reader) c.loop-next.rest.now c.loop-next.invariant.text in
    IsTextRefusal-wider _ _ _ _ _ (omega (arith, c.loop-next.invariant.line)) (omega (arith, few, c.loop-next.invariant.line)) c.on_line-then-not-is_empty.ensures.range

pub returns-then-not-is_empty-clause-faults : goal.returns-then-not-is_empty-clause-faults
returns-then-not-is_empty-clause-faults c =
    let some : c.loop-next.rest.now ≢ [] = λ none. let empty : length c.loop-next.rest.now ≡ 0 = ap length none in grind (arith, nat_tests, c.if-not-is_empty.ensures) in
    rw c.on_line-then-not-is_empty.ensures.exact (FirstFault-unended c.args.text.now (taken_lines c.loop-next.reader) c.loop-next.rest.now c.loop-next.line
    c.loop-next.invariant.taken c.loop-next.invariant.text c.in_default.ensures some c.loop-next.invariant.line)

pub returns-in-Ok-clause-lines : goal.returns-in-Ok-clause-lines
returns-in-Ok-clause-lines c = program_fits c.args.text.now (taken_lines c.loop-next.reader) c.loop-next.rest.now c.in-Ok.draft c.loop-next.invariant.text c.in-Ok.ensures.lines

pub returns-in-Ok-clause-spelled : goal.returns-in-Ok-clause-spelled
returns-in-Ok-clause-spelled c =
    let none : c.loop-next.rest.now ≡ [] = nil_from_length c.loop-next.rest.now (grind (arith, nat_tests, c.if-not-is_empty.ensures)) in
    Spells-at_end c.args.text.now (taken_lines c.loop-next.reader) c.loop-next.rest.now c.in-Ok.draft c.loop-next.invariant.taken c.loop-next.invariant.text none c.in-Ok.ensures.lines

pub returns-clause-refusals : goal.returns-clause-refusals
returns-clause-refusals c =
    let few = lines_fit c.args.text.now (taken_lines c.loop-next.reader) c.loop-next.rest.now c.loop-next.invariant.text in
    IsTextRefusal-wider _ _ _ _ _ (omega (arith, c.loop-next.invariant.line)) (omega (arith, few, c.loop-next.invariant.line)) c.on_line-in-Err-finish.ensures.range

pub returns-clause-faults : goal.returns-clause-faults
returns-clause-faults c =
    let none : c.loop-next.rest.now ≡ [] = nil_from_length c.loop-next.rest.now (grind (arith, nat_tests, c.if-not-is_empty.ensures)) in
    rw c.on_line-in-Err-finish.ensures.exact (FirstFault-ended c.args.text.now (taken_lines c.loop-next.reader) c.loop-next.rest.now c.loop-next.line c.in-Err-finish.fault
    c.loop-next.invariant.taken c.loop-next.invariant.text none c.in-Err-finish.ensures.fault.1 c.in-Err-finish.ensures.fault.0 c.loop-next.invariant.line)

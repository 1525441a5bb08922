use Rattle.std.proofs.Common.{Option, Some, None, IfNone, sym}
use Rattle.ide_text.proofs.Tokens.{empty_spells_none, letter_spells_none, sign_spells_none, longer_spells_none}
use Rattle.ide_text.proofs.token.unreserved.Goals as goal

if_none_weaker : {T P Q : Type 0} (o : Option T) → (P → Q) → IfNone o P → IfNone o Q
if_none_weaker None f p = f p
if_none_weaker (Some x) f p = p

pub returns-in_err-first-clause-none : goal.returns-in_err-first-clause-none
returns-in_err-first-clause-none c = rw c.from_residual.ensures (empty_spells_none c.args.word.now c.in_err-first.ensures.cases)

pub returns-in_err-name-clause-none : goal.returns-in_err-name-clause-none
returns-in_err-name-clause-none c = rw c.from_residual-in_err-name.ensures
    (letter_spells_none c.args.word.now c.in_ok-first.first.now c.in_ok-first.field-0-1.now c.in_ok-first.ensures.cases.0 c.requires
    (sym c.if-is_ascii_digit.ensures.value) (sym c.if-begins_name.ensures) c.in_err-name.ensures)

pub returns-then-word-eq1-clause-none : goal.returns-then-word-eq1-clause-none
returns-then-word-eq1-clause-none c = if_none_weaker _
    (λ signs. sign_spells_none c.args.word.now c.in_ok-first.first.now c.in_ok-first.field-0-1.now c.in_ok-first.ensures.cases.0 c.requires
    (sym c.if-is_ascii_digit.ensures.value) (sym c.if-begins_name.ensures) signs) c.sign.ensures.none

pub returns-else-word-eq1-clause-none : goal.returns-else-word-eq1-clause-none
returns-else-word-eq1-clause-none c =
    longer_spells_none c.args.word.now c.in_ok-first.first.now c.in_ok-first.field-0-1.now c.in_ok-first.ensures.cases.0 c.requires
    (sym c.if-is_ascii_digit.ensures.value) (sym c.if-begins_name.ensures) c.if-word-eq1.false

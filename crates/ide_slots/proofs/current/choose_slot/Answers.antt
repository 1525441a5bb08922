use Rattle.std.proofs.Common.{ap, ◌∙◌, rules}
use Rattle.ide_slots.specs.Refusals.{no_current, other_tag}
use Rattle.ide_slots.specs.declared.current.Current.{Current}
use Rattle.ide_slots.proofs.current.choose_slot.Goals as goal

pub returns-in_default-clause-refused : goal.returns-in_default-clause-refused
returns-in_default-clause-refused c = no_current (search rules)

pub returns-then-found-tag-clause-refused : goal.returns-then-found-tag-clause-refused
returns-then-found-tag-clause-refused c =
    let tag = ap (λ (found : Current). found.head.head.tag) c.found.view_is in
    other_tag c.in-Some.found.side c.in-Some.found.head c.in-Some.ensures.current (λ same. c.if-found-tag.true (tag ∙ same))

use Rattle.std.proofs.Common.{◌≡◌, ◌+◌, ◌-◌, ◌<◌, ◌∙◌, drop, length, rules, sym, take}
use Rattle.std.proofs.lemmas.List.{take_rest}
use Rattle.ide_values.proofs.Begun.{one_byte}
use Rattle.ide_values.proofs.line_text.only_change.Goals as goal

pub returns-clause-change : goal.returns-clause-change
returns-clause-change c =
    let at = c.in_ok-at.at in
    let within : at < length c.args.old.now = search rules in
    let before : take at c.args.old.now ≡ take at c.args.new.now = search rules in
    let rest : take (length c.args.old.now - (at + 1)) (drop (at + 1) c.args.old.now) ≡ take (length c.args.new.now - (at + 1)) (drop (at + 1) c.args.new.now) = search rules in
    one_byte c.args.old.now c.args.new.now at within c.requires before
    (sym (take_rest c.args.old.now (at + 1)) ∙ rest ∙ take_rest c.args.new.now (at + 1))

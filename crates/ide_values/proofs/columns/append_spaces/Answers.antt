use Rattle.std.proofs.Common.{◌≡◌, ℕ, replicate, rules, take}
use Rattle.std.proofs.lemmas.List.{take-replicate}
use Rattle.ide_values.proofs.columns.append_spaces.Goals as goal

pub returns-clause-text : goal.returns-clause-text
returns-clause-text c =
    let spaces : take {A = ℕ} c.args.count (replicate 31 32) ≡ replicate c.args.count 32 = take-replicate c.args.count 31 32 c.requires in
    search (rules, spaces)

use Rattle.std.proofs.Common.{◌≡◌, take}
use Rattle.ide_text.specs.Token.{name_tokens}
use Rattle.ide_text.proofs.line.names.Given as goal

-- the names so far
abbrev pub invariant-loop-token : goal.invariant-loop-token
invariant-loop-token l = name_tokens l.names.items ≡ take l.token-index l.tokens

use Rattle.std.proofs.Common.{refl}
use Rattle.ide_text.proofs.Lines.{name_at}
use Rattle.ide_text.proofs.line.names.Goals as goal

pub returns-in_default-clause-none : goal.returns-in_default-clause-none
returns-in_default-clause-none c = (refl, λ names e. let n = name_at names c.args.tokens.now c.loop-token.token-index c.token-item.result e c.loop-token-test.true c.token-item.is in c.in_default.not-Name n.0 n.1)

use Rattle.std.proofs.Common.{◌≡◌, ◌==◌, false, take, arith}
use Rattle.std.proofs.lemmas.Bool.Decides.{nat_tests}
use Rattle.std.proofs.lemmas.List.{take_all}
use Rattle.std.proofs.lemmas.List.Elements.{All-more}
use Rattle.ide_text.proofs.cut.cut.Goals as goal

pub loop-index-preserved : goal.loop-index-preserved
loop-index-preserved c = All-more (λ b. (b == c.args.byte) ≡ false) c.args.text.now c.loop-index.index 0 c.loop-index-test.true c.loop-index.invariant (grind (arith, nat_tests))

pub returns : goal.returns
returns c =
    let all : take c.loop-index.index c.args.text.now ≡ c.args.text.now = take_all c.loop-index.index c.args.text.now c.loop-index-test.false in
    rw all at c.loop-index.invariant

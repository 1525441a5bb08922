use Rattle.std.proofs.Common.{length, subst}
use Rattle.std.specs.Prelude.{IfSome}
use Rattle.ide_image.specs.Grid.{AreNumbersOfRows, RanksAscend}
use Rattle.ide_image.proofs.Rows.{are-numbers, are-rows}
use Rattle.ide_image.proofs.grid.Grid.numbers.Goals as goal

pub returns-clause-numbers : goal.returns-clause-numbers
returns-clause-numbers g c =
    let indexed = c.args.indexed.now in
    let pages = c.args.self.now in
    let are = subst (λ o. IfSome o (AreNumbersOfRows indexed pages)) c.in-Some.is c.in_ok-numbers.ensures in
    are-numbers indexed pages (length pages) c.in-Some.numbers.items c.sort_unstable.new.self.items c.sort_unstable.ensures.permutation are

pub returns-clause-rows : goal.returns-clause-rows
returns-clause-rows g c =
    let indexed = c.args.indexed.now in
    let pages = c.args.self.now in
    let sorted = c.sort_unstable.new.self.items in
    let are = subst (λ o. IfSome o (AreNumbersOfRows indexed pages)) c.in-Some.is c.in_ok-numbers.ensures in
    let numbers = are-numbers indexed pages (length pages) c.in-Some.numbers.items sorted c.sort_unstable.ensures.permutation are in
    are-rows indexed pages sorted numbers.each (subst RanksAscend c.deref.ensures.value (c.ranks_ascend.ensures c.if-not-ranks_ascend.false))

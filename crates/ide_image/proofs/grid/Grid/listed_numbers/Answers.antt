use Rattle.std.proofs.Common.{◌+◌, ◌≡◌, ◌%◌, arith, subst, sym}
use Rattle.std.specs.Prelude.{IfSome}
use Rattle.ide_image.specs.Grid.{AreNumbersTo, IsRowNumber}
use Rattle.ide_image.proofs.Rows.{number-more}
use Rattle.ide_image.proofs.grid.Grid.listed_numbers.Goals as goal

pub loop-row-preserved : goal.loop-row-preserved
loop-row-preserved g c =
    let indexed = c.args.indexed.now in
    let pages = c.args.self.now in
    let row = c.loop-row.row in
    let number = subst (λ o. IfSome o (IsRowNumber indexed pages)) c.in-Some.is c.row_number.ensures.number in
    let low = subst (λ o. IfSome o (λ number. number % 65536 ≡ row)) c.in-Some.is c.row_number.ensures.row in
    record {
      numbers =
          subst (AreNumbersTo indexed pages (row + 1)) (sym c.push_reserved.ensures.items)
          (number-more indexed pages row c.in-Some.number c.loop-row.numbers.items number low c.loop-row.invariant.numbers);
      few = omega (arith, c.push_reserved.ensures.len, c.loop-row.invariant.few);
      room = omega (arith, c.push_reserved.ensures.capacity, c.loop-row.invariant.room);
    }

use Rattle.std.proofs.Common.{refl, ◌∙◌, arith}
use Rattle.ide_image.proofs.Widened.{cells-more, widens-more, widens-none}
use Rattle.ide_image.proofs.indexed.Indexed.make_cells.Goals as goal

pub loop-entry-init : goal.loop-entry-init
loop-entry-init g c = record {
  widens = widens-none c.args.self.now;
  distinct = λ apart. apart;
  room = refl;
  made = λ k d less. absurd (omega (arith, less));
}

pub loop-entry-preserved : goal.loop-entry-preserved
loop-entry-preserved g c = record {
  widens = widens-more c.args.self.now c.loop-entry.self c.make_cell.new.self c.loop-entry.invariant.widens c.make_cell.ensures.widens;
  distinct = λ _. c.make_cell.ensures.distinct;
  room = c.make_cell.ensures.room ∙ c.loop-entry.invariant.room;
  made =
      cells-more c.loop-entry.self c.make_cell.new.self c.args.list.now c.loop-entry.entry-index c.in_ok-make_cell.field-0 c.entry-item.result c.loop-entry-test.true c.entry-item.is
      c.make_cell.ensures.widens c.in_ok-make_cell.ensures.cell c.loop-entry.invariant.made;
}

pub returns-in_err-make_cell-clause-widens : goal.returns-in_err-make_cell-clause-widens
returns-in_err-make_cell-clause-widens g c =
    widens-more c.args.self.now c.loop-entry.self c.make_cell.new.self c.loop-entry.invariant.widens c.make_cell.ensures.widens

use Rattle.std.proofs.Common.{◌+◌, ◌<◌, arith, length, subst, sym}
use Rattle.std.specs.Global.{Vec}
use Rattle.ide_image.specs.ChangeLog.{is_noted_in}
use Rattle.ide_image.specs.Grid.{AreStarts, IsOn}
use Rattle.ide_image.proofs.Rows.{AreReadToBlock, begin-blocks, block-between, pass-block, ranks-between, read-rows}
use Rattle.ide_image.proofs.grid.Grid.slots.Goals as goal
use Rattle.ide_image.proofs.grid.Grid.slots.Goals.{then-begins_block, else-begins_block}

pub loop-row-init : goal.loop-row-init
loop-row-init c = record {
  read = λ rank ranks.
      let P = IsOn (is_noted_in c.args.marks) c.args.self.now in
      subst (AreReadToBlock P rank c.args.rows.now 0) (sym c.in_ok-slots.ensures.items) (begin-blocks P rank c.args.self.now c.args.rows.now c.requires);
}

pub loop-row-preserved : goal.loop-row-preserved
loop-row-preserved c =
    let pages = c.args.self.now in
    let noted = is_noted_in c.args.marks in
    let rows = c.args.rows.now in
    let row = c.loop-row.row in
    let there : row < length rows = omega (arith, c.loop-row-test.true) in
    record {
      read = λ rank ranks.
          let before = c.loop-row.invariant.read rank ranks in
          let to = λ (slots : Vec _). AreReadToBlock (IsOn noted pages) rank rows (row + 1) slots.items in
          elim c.if-begins_block.branch [
            | then-begins_block w ↦
                (let starts = w.deref.result.now in
                let are = subst (AreStarts pages rows (length rows)) (sym w.deref.ensures.value) c.in_ok-starts.ensures in
                let end = w.block_end.result in
                let up = w.block_end.ensures.from in
                let within = w.block_end.ensures.to in
                let block = block-between pages rows starts are row end up within c.requires w.block_end.ensures.block in
                let on = ranks-between pages rows starts are row end up within noted rank ranks in
                subst to (sym w.slots-is)
                (read-rows (IsOn noted pages) rank pages rows c.requires row end c.loop-row.slots.items w.push_block.new.slots.items there up within
                (c.begins_block.ensures w.if-begins_block.true) (w.push_block.ensures pages _ rank block on) before))
            | else-begins_block w ↦ subst to (sym w.slots-is) (pass-block (IsOn noted pages) rank pages rows c.requires row c.loop-row.slots.items before)
          ];
    }

pub returns : goal.returns
returns c = λ rank ranks. (c.loop-row.invariant.read rank ranks).are.read

use Rattle.std.proofs.Common.{◌≡◌, ◌+◌, ◌/◌, ◌<◌, ◌∙◌, arith, length, subst, sym}
use Rattle.std.specs.Prelude.{slice_index}
use Rattle.std.specs.Global.{Vec}
use Rattle.ide_image.specs.ChangeLog.{is_noted_in}
use Rattle.ide_image.specs.Grid.{HasPage, IsOn}
use Rattle.ide_image.proofs.Rows.{AreReadToRow, begin-column, end-column, pass-row, read-row}
use Rattle.ide_image.proofs.grid.push_column.Goals as goal
use Rattle.ide_image.proofs.grid.push_column.Goals.{then-is_noted+then-len-capacity, else-is_noted}

pub loop-row-init : goal.loop-row-init
loop-row-init c = record {
  read = λ pages numbers rank block ranks are.
      begin-column (IsOn (is_noted_in c.args.marks) pages) rank pages numbers c.args.block.now c.args.offset block c.args.slots.now.items are;
}

pub loop-row-preserved : goal.loop-row-preserved
loop-row-preserved c =
    let noted = is_noted_in c.args.marks in
    let starts = c.args.block.now in
    let offset = c.args.offset in
    let row = c.loop-row.row in
    let start = slice_index starts row in
    record {
      read = λ pages numbers rank block ranks are.
          let before = c.loop-row.invariant.read pages numbers rank block ranks are in
          let passed = pass-row (IsOn noted pages) rank pages numbers starts offset block row c.loop-row.slots.items before in
          let to = λ (slots : Vec _). AreReadToRow (IsOn noted pages) rank numbers offset (row + 1) slots.items in
          elim c.if-is_noted.branch [
            | then-is_noted+then-len-capacity w ↦
                (let is = sym c.is_noted.ensures ∙ w.if-is_noted.true in
                let whole = c.requires.starts row 0 (omega (arith, c.loop-row-test.true)) in
                let there : row < length numbers = omega (arith, c.loop-row-test.true, block.long) in
                let page : start / 64 ≡ (start + offset) / 64 = omega (arith, whole, c.requires.offset) in
                let has : IsOn noted pages (start + offset) = record { marked = is; page = subst (HasPage pages) page (block.on row 0 (omega (arith, c.loop-row-test.true))) } in
                let read =
                read-row (IsOn noted pages) rank pages numbers starts offset block row (start + offset) c.loop-row.slots.items there has
                (ranks row offset there c.requires.offset is) before in
                subst to (sym w.slots-is) (subst (AreReadToRow (IsOn noted pages) rank numbers offset (row + 1)) (sym w.push_reserved.ensures.items) read))
            | else-is_noted w ↦ subst to (sym w.slots-is) passed
          ];
    }

pub returns : goal.returns
returns c = λ pages numbers rank block ranks are.
    end-column (IsOn (is_noted_in c.args.marks) pages) rank pages numbers c.args.block.now c.args.offset block c.loop-row.row c.loop-row.slots.items
    (c.loop-row.invariant.read pages numbers rank block ranks are)

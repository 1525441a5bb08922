use Rattle.std.proofs.Common.{◌≡◌, ◌+◌, ap, arith, refl, suc, sym, ◌∙◌}
use Rattle.std.specs.Prelude.{slice_set}
use Rattle.ide_pages.specs.CellNumbers.{with_run}
use Rattle.ide_pages.proofs.cell_numbers.write_cells.Goals as goal

pub loop-step-init : goal.loop-step-init
loop-step-init g c = refl

pub loop-step-preserved : goal.loop-step-preserved
loop-step-preserved g c =
    let step = c.loop-step.step in
    let next : step + 1 ≡ suc step = omega arith in
    ap (λ numbers. slice_set numbers (c.args.first + step) c.args.number) c.loop-step.invariant
    ∙ sym (ap (with_run c.args.numbers.now c.args.first c.args.number) next)

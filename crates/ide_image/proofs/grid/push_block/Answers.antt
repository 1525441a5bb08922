use Rattle.std.proofs.Common.{◌≡◌, arith, subst}
use Rattle.std.specs.Prelude.{slice_index}
use Rattle.ide_image.specs.ChangeLog.{is_noted_in}
use Rattle.ide_image.specs.Grid.{AreReadTo, IsOn, bound_at}
use Rattle.ide_image.proofs.grid.push_block.Goals as goal

pub loop-offset-preserved : goal.loop-offset-preserved
loop-offset-preserved c = record {
  reads = λ pages numbers rank block ranks are.
      c.push_column.ensures pages numbers rank block ranks (c.loop-offset.invariant.reads pages numbers rank block ranks are);
}

pub returns : goal.returns
returns c = λ pages numbers rank block ranks are.
    let last : c.loop-offset.offset ≡ 64 = omega (arith, c.loop-offset-test.false, c.loop-offset.auto) in
    subst (λ n. AreReadTo (IsOn (is_noted_in c.args.marks) pages) rank (bound_at (slice_index numbers 0) n) c.loop-offset.slots.items) last
    (c.loop-offset.invariant.reads pages numbers rank block ranks are)

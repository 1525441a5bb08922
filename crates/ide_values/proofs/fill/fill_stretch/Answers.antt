use Rattle.std.proofs.Common.{◌≡◌, ◌+◌, ◌-◌, ◌*◌, ◌∙◌, ap, arith, refl, subst, sym}
use Rattle.ide_image.specs.Cells.{AreAlike}
use Rattle.ide_values.specs.Fill.{IsFilledBy}
use Rattle.ide_values.specs.Start.{row_value}
use Rattle.ide_values.proofs.fill.fill_stretch.Goals as goal

pub loop-offset-init : goal.loop-offset-init
loop-offset-init g c = record { begin = omega arith; end = c.requires.order; count = refl; filled = c.requires.filled }

pub fill_run-requires-clause-alike : goal.fill_run-requires-clause-alike
fill_run-requires-clause-alike g c =
    let after = c.alike_to.ensures.after in
    let next : c.alike_to.result ≡ 64 * c.args.page + (c.alike_to.result - 64 * c.args.page) = omega (arith, after) in
    subst (AreAlike c.args.tables.now (64 * c.args.page + c.loop-offset.offset)) next c.alike_to.ensures.alike

pub loop-offset-preserved : goal.loop-offset-preserved
loop-offset-preserved g c =
    let A = g.F.L.Lattice.algebra in
    let graph = c.args.graph.now in
    let starts = c.args.starts.now in
    let from = c.loop-offset.invariant.begin in
    let after = c.alike_to.ensures.after in
    let within = c.alike_to.ensures.within in
    record {
      begin = omega (arith, from, after);
      end = omega (arith, within);
      count = c.fill_run.ensures.count ∙ c.loop-offset.invariant.count;
      filled =
          c.fill_run.ensures.filled starts
          (λ n least less h. ap (λ p. row_value A graph starts p c.args.jump.from) (c.requires.procedure n (omega (arith, from, least)) (omega (arith, less, after, within)) h)
          ∙ sym c.start_of-start.ensures)
          c.loop-offset.invariant.filled;
    }

pub returns-clause-filled : goal.returns-clause-filled
returns-clause-filled g c =
    let least = c.loop-offset.invariant.end in
    let end : c.loop-offset.offset ≡ c.args.end = omega (arith, least, c.loop-offset-test.false) in
    subst (λ (n : _). IsFilledBy g.F.L.Lattice.algebra g.F.EdgeFn.edge c.args.graph.now c.args.tables.now c.args.starts.now c.args.first (64 * c.args.page + n) c.loop-offset.rows)
    end c.loop-offset.invariant.filled

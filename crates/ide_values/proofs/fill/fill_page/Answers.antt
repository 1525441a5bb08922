use Rattle.std.proofs.Common.{◌≡◌, ◌+◌, ◌*◌, ◌<◌, arith, refl, subst, sym}
use Rattle.ide_values.specs.Fill.{IsFilledBy}
use Rattle.ide_values.proofs.Filled.{passed_before, passed_behind, passed_page}
use Rattle.ide_values.proofs.fill.fill_page.Goals as goal

pub returns-in_default-clause-filled : goal.returns-in_default-clause-filled
returns-in_default-clause-filled g c =
    passed_page g.F.L.Lattice.algebra g.F.EdgeFn.edge c.args.graph.now c.args.tables.now c.args.starts.now c.args.first c.requires.shown c.args.rows.now
    c.args.page (c.first_jump.ensures.none c.in_default.is) c.requires.filled

pub loop-offset-init : goal.loop-offset-init
loop-offset-init g c =
    let jump = c.in-Some.jump in
    record {
      begin = omega arith;
      end = c.near_offsets-begin.ensures.order;
      stretches = c.requires.stretches;
      count = refl;
      filled =
          passed_before g.F.L.Lattice.algebra g.F.EdgeFn.edge c.args.graph.now c.args.tables.now c.args.starts.now c.args.first c.requires.shown c.args.rows.now c.args.more c.requires.few
          c.args.page jump.node jump.from jump.to c.near_offsets-begin.result.0 c.near_offsets-begin.result.1 c.in-Some.ensures.first c.near_offsets-begin.ensures c.requires.filled;
    }

pub fill_stretch-requires-clause-near : goal.fill_stretch-requires-clause-near
fill_stretch-requires-clause-near g c =
    c.near_offsets-begin.ensures.behind c.loop-offset.offset c.loop-offset.invariant.begin c.loop-offset-test.true

pub returns-clause-filled : goal.returns-clause-filled
returns-clause-filled g c =
    let A = g.F.L.Lattice.algebra in
    let B = g.F.EdgeFn.edge in
    let jump = c.in-Some.jump in
    let least = c.loop-offset.invariant.end in
    let end : c.loop-offset.offset ≡ c.near_offsets-begin.result.1 = omega (arith, c.loop-offset-test.false, least) in
    passed_behind A B c.args.graph.now c.args.tables.now c.args.starts.now c.args.first c.requires.shown c.loop-offset.rows c.args.more
    (subst (λ count. 0 < c.args.graph.now.facts → count < (c.args.more + 1) * c.args.graph.now.facts) (sym c.loop-offset.invariant.count) c.requires.few)
    c.args.page jump.node jump.from jump.to c.near_offsets-begin.result.0 c.near_offsets-begin.result.1 c.in-Some.ensures.first c.near_offsets-begin.ensures
    (subst (λ (n : _). IsFilledBy A B c.args.graph.now c.args.tables.now c.args.starts.now c.args.first (64 * c.args.page + n) c.loop-offset.rows) end c.loop-offset.invariant.filled)

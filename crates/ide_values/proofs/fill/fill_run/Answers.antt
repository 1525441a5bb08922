use Rattle.std.proofs.Common.{rules, ◌≡◌, ◌+◌, ◌-◌, ◌*◌, ◌^◌, ◌<◌, ◌∙◌, None, Some, ap, arith, get_or, subst, sym}
use Rattle.ide_image.specs.Cells.{function_shown_in}
use Rattle.ide_values.specs.Fill.{IsFilledBy}
use Rattle.ide_values.proofs.Filled.{filled_more, passed_none}
use Rattle.ide_values.proofs.Lowered.{meets_there, place_behind, place_few}
use Rattle.ide_values.proofs.Shown.{shown_behind, shown_is_found}
use Rattle.ide_values.proofs.fill.fill_run.Goals as goal
use Rattle.ide_wire.specs.declared.key.Key.TheVariants.{Jump}

pub returns-in_default-clause-filled : goal.returns-in_default-clause-filled
returns-in_default-clause-filled g c =
    λ starts begun so_far.
    passed_none g.F.L.Lattice.algebra g.F.EdgeFn.edge c.args.graph.now c.args.tables.now starts c.args.first c.args.rows.now
    (64 * c.args.page) c.args.begin c.args.end c.requires.order c.requires.alike (sym c.function_in.ensures ∙ c.in_default.is) so_far

pub loop-offset-init : goal.loop-offset-init
loop-offset-init g c =
    record {
      place = ap (λ n. (c.args.jump.node + c.args.begin - c.args.first) * n + c.args.jump.to) c.fact_count-facts.ensures.count;
      filled = λ starts begun so_far. so_far;
    }

pub overflow_add-place-in-loop-offset : goal.overflow_add-place-in-loop-offset
overflow_add-place-in-loop-offset g c =
    let node : c.args.jump.node < 2 ^ 32 = search rules in
    let less : c.args.jump.to < 2 ^ 16 = search rules in
    let end = c.requires.end in
    let few =
    place_few (c.args.jump.node + c.loop-offset._offset - c.args.first) c.fact_count-facts.result c.args.jump.to c.loop-offset.place
    (omega (arith, node, end, c.loop-offset-test.true)) c.fact_count-facts.ensures.few (omega (arith, less))
    (c.loop-offset.invariant.place ∙ ap (λ n. (c.args.jump.node + c.loop-offset._offset - c.args.first) * n + c.args.jump.to) (sym c.fact_count-facts.ensures.count)) in
    omega (arith, few)

pub loop-offset-preserved : goal.loop-offset-preserved
loop-offset-preserved g c =
    let A = g.F.L.Lattice.algebra in
    let B = g.F.EdgeFn.edge in
    let graph = c.args.graph.now in
    let first = c.args.first in
    let tables = c.args.tables.now in
    let jump = c.args.jump in
    let offset = c.loop-offset._offset in
    let cell = 64 * c.args.page + offset in
    let row = jump.node + offset - first in
    let near = c.requires.near in
    let from = c.loop-offset.auto._offset in
    let page_end = c.requires.end in
    let function = c.in-Some.function in
    let key = Jump (jump.node + offset) jump.from jump.to in
    let sum : jump.node + offset ≡ first + row = omega (arith, near, from) in
    let step : jump.node + (offset + 1) - first ≡ row + 1 = omega (arith, near, from) in
    let next : cell + 1 ≡ 64 * c.args.page + (offset + 1) = omega arith in
    let behind : c.loop-offset.place + graph.facts ≡ (jump.node + (offset + 1) - first) * graph.facts + jump.to =
    place_behind row (jump.node + (offset + 1) - first) graph.facts jump.to c.loop-offset.place step c.loop-offset.invariant.place in
    let alike : function_shown_in tables cell ≡ function_shown_in tables (64 * c.args.page + c.args.begin) =
    c.requires.alike cell (omega (arith, from)) (omega (arith, c.loop-offset-test.true)) in
    let shows : get_or tables.cells cell None ≡ Some (key, function) =
    shown_behind tables c.args.page offset jump.node jump.from jump.to function c.requires.jump (omega (arith, c.loop-offset-test.true, page_end))
    (alike ∙ sym c.function_in.ensures ∙ c.in-Some.is) in
    record {
      place = ap (λ n. c.loop-offset.place + n) c.fact_count-facts.ensures.count ∙ behind;
      filled = λ starts begun so_far.
          let meets =
          meets_there A B graph starts first (jump.node + offset) jump.from jump.to function
          row c.loop-offset.place sum c.loop-offset.invariant.place c.loop-offset.rows c.lower.new.values c.apply-value.result
          c.lower.ensures.other c.lower.ensures.met
          (λ h. c.apply-value.ensures ∙ ap (B.apply function) (sym (begun (jump.node + offset) (omega (arith, from)) (omega arith) h))) in
          subst (λ n. IsFilledBy A B graph tables starts first n c.lower.new.values) next
          (filled_more A B graph tables starts first cell c.loop-offset.rows c.lower.new.values
          (key, function) (sym shows)
          (shown_is_found tables c.requires.shown cell (key, function) shows)
          c.lower.ensures.count meets
          (c.loop-offset.invariant.filled starts (λ n least less h. begun n least (omega (arith, less)) h) so_far));
    }

pub returns-clause-filled : goal.returns-clause-filled
returns-clause-filled g c =
    let order = c.requires.order in
    let end : c.loop-offset._offset ≡ c.args.end = omega (arith, order, c.loop-offset-test.false, c.loop-offset.auto._offset-end) in
    λ starts begun so_far.
    subst (λ (n : _). IsFilledBy g.F.L.Lattice.algebra g.F.EdgeFn.edge c.args.graph.now c.args.tables.now starts c.args.first (64 * c.args.page + n) c.loop-offset.rows)
    end (c.loop-offset.invariant.filled starts (λ n least less h. begun n least (omega (arith, less, end)) h) so_far)

use Rattle.std.specs.Prelude.{◌≡◌, ◌≢◌, [], ◌∷◌}
use Rattle.std.proofs.Common.{arith, rules}
use Rattle.std.proofs.lemmas.Grind.{common_steps}
use Rattle.ide_batch.specs.Items.{functions_by}
use Rattle.ide_batch.specs.FormLaws.{no_mark_at_end, no_marked, no_other_mark, no_top}
use Rattle.ide_batch.proofs.entry.Tuple2BoolCoded.front.Goals as goal

pub returns-in_default-clause-none : goal.returns-in_default-clause-none
returns-in_default-clause-none g c =
    let empty : c.in_ok-function.rest.now ≡ [] = grind (arith, common_steps, c.in_default.ensures) in
    no_marked (functions_by g.F.Wire.proper g.F.Wire.form g.F.PartialEq.eq g.F.EdgeFn.edge.all_top) g.met.F.Wire.prefix_free
    c.args.bytes.now c.in_ok-function.function c.in_ok-function.rest.now c.in_ok-function.ensures.proper c.in_ok-function.ensures.found
    (no_mark_at_end c.in_ok-function.rest.now empty)

pub returns-then-eq-clause-none : goal.returns-then-eq-clause-none
returns-then-eq-clause-none g c =
    no_top (functions_by g.F.Wire.proper g.F.Wire.form g.F.PartialEq.eq g.F.EdgeFn.edge.all_top) g.met.F.Wire.prefix_free
    c.args.bytes.now c.in_ok-function.function c.in_ok-function.rest.now c.in_ok-function.ensures.proper c.in_ok-function.ensures.found
    (search rules)

pub returns-in_default-mark-clause-none : goal.returns-in_default-mark-clause-none
returns-in_default-mark-clause-none g c =
    let split : c.in_ok-function.rest.now ≡ c.in-Some.mark ∷ c.in-Some.rest.now = grind (arith, common_steps, c.in-Some.ensures) in
    let not_zero : c.in-Some.mark ≢ 0 = omega (arith, c.in_default-mark) in
    let not_one : c.in-Some.mark ≢ 1 = omega (arith, c.in_default-mark) in
    no_marked (functions_by g.F.Wire.proper g.F.Wire.form g.F.PartialEq.eq g.F.EdgeFn.edge.all_top) g.met.F.Wire.prefix_free
    c.args.bytes.now c.in_ok-function.function c.in_ok-function.rest.now c.in_ok-function.ensures.proper c.in_ok-function.ensures.found
    (no_other_mark c.in_ok-function.rest.now c.in-Some.rest.now c.in-Some.mark split not_zero not_one)

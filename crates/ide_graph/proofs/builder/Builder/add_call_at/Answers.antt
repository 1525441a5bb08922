use Rattle.std.proofs.Common.{◌+◌, OnOk, refl, sym, subst}
use Rattle.ide_graph.specs.Building.{AllCallersBefore}
use Rattle.ide_graph.specs.Numbering.{spot_value}
use Rattle.ide_graph.specs.Numbers.{statement}
use Rattle.ide_graph.specs.ProgramEdges.{CallAt, Stands}
use Rattle.ide_graph.proofs.CallerLemmas.{before_more, no_call_here, no_call_statement}
use Rattle.ide_graph.proofs.builder.Builder.add_call_at.Goals as goal

pub returns-in_default-clause-exact : goal.returns-in_default-clause-exact
returns-in_default-clause-exact c = λ p q is stands before.
    before_more p c.args.node c.args.callers.now.items (no_call_here p c.args.node c.args.spot.procedure q c.args.spot.place stands c.in_default.not-Statement) before

pub returns-in_default-statement-clause-exact : goal.returns-in_default-statement-clause-exact
returns-in_default-statement-clause-exact c = λ p q is stands before.
    let here = subst (λ place. Stands p c.args.node c.args.spot.procedure q (spot_value place)) c.in-Statement.is stands in
    before_more p c.args.node c.args.callers.now.items (no_call_statement p c.args.node c.args.spot.procedure q c.in-Statement.statement.now here c.in_default-statement.not-Call) before

pub returns-clause-exact : goal.returns-clause-exact
returns-clause-exact c = λ p q is stands before.
    let place = subst (λ place. Stands p c.args.node c.args.spot.procedure q (spot_value place)) c.in-Statement.is stands in
    let here = subst (λ s. Stands p c.args.node c.args.spot.procedure q (statement s)) c.in-Call.is place in
    let at : CallAt p c.args.node = record { index = c.args.spot.procedure; procedure = q; target = c.in-Call.target; callees = c.in-Call.callees; arguments = c.in-Call.arguments; stands = here } in
    let scope = c.scope-scope.ensures.exact p q is here.owner in
    let call = c.in_ok-call.ensures.exact p is at scope refl c.deref.ensures.value c.deref-2.ensures.value in
    let node = c.in_ok-call.ensures.node in
    subst (λ n. OnOk c.add_callers.result (AllCallersBefore p (n + 1) c.add_callers.new.callers.items)) node
    (c.add_callers.ensures.exact p is call (subst (λ n. AllCallersBefore p n c.args.callers.now.items) (sym node) before))

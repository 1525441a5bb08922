use Rattle.std.proofs.Common.{◌≡◌, ℕ, ◌+◌, ◌<◌, ◌^◌, Some, None, IfOk, inl, inr, refl, ap, subst, ◌∙◌, arith}
use Rattle.ide_text.specs.declared.program.Program.{Program}
use Rattle.ide_text.specs.declared.program.Procedure.{Procedure}
use Rattle.ide_text.specs.declared.program.Statement.{Statement}
use Rattle.ide_text.specs.declared.program.Statement.TheVariants.{Assign, Skip, At, Goto, Branch, Return}
use Rattle.ide_text.specs.Program.{procedures_of}
use Rattle.ide_graph.specs.Building.{IsBuilderOf, node_count}
use Rattle.ide_graph.specs.declared.builder.Builder.{Builder}
use Rattle.ide_graph.specs.declared.edge.Effect.TheVariants.{Copy, Nothing}
use Rattle.ide_graph.specs.Numbers.{statement, exit_of, start_of, result_of}
use Rattle.ide_graph.specs.ProgramEdges.{CallAt, IsSiteOf, Stands}
use Rattle.ide_graph.proofs.DeclaredLemmas.{label_known, variables_known}
use Rattle.ide_graph.proofs.ProgramLemmas.{counted, exit_within, label_within, next_within, statement_of}
use Rattle.ide_graph.proofs.SiteLemmas.{branch_result, plain_site}
use Rattle.ide_graph.proofs.builder.Builder.statement_site.Goals as goal

next_below : (p : Program) (b : Builder) → IsBuilderOf p b → (n i : ℕ) (q : Procedure) (s : Statement) → Stands p n i q (statement s) → n + 1 < node_count b
next_below p b is n i q s stands = omega (arith, counted p b is, next_within p n i q (statement s) stands (λ e. cc))

few_below : (p : Program) (b : Builder) → IsBuilderOf p b → (n : ℕ) → n < node_count b → n < 2 ^ 32
few_below p b is n below = omega (arith, is.ready.numbered.few)

pub returns-in-Assign-clause-exact : goal.returns-in-Assign-clause-exact
returns-in-Assign-clause-exact c = λ p i q is scope stands.
    let s : Statement = Assign c.in-Assign.target c.in-Assign.expression in
    let here : Stands p c.args.node i q (statement s) = subst (λ s. Stands p c.args.node i q (statement s)) c.in-Assign.is stands in
    let below = next_below p c.args.self.now is c.args.node i q s here in
    let few = few_below p c.args.self.now is (c.args.node + 1) below in
    let next : c.saturating_add-next.result ≡ c.args.node + 1 = omega (arith, c.saturating_add-next.ensures, few) in
    let place = statement_of p c.args.node i q s here in
    let known = variables_known p i q here.owner place.0 s place.1 in
    let effect = c.assign.ensures p i q scope known in
    plain_site p c.args.node i q (statement s) here tt (λ l e. cc) (c.args.node + 1) c.assign.result (refl, effect.0, effect.1, effect.2) c.normal.result c.saturating_add-next.result c.assign.result next refl
    (c.normal.ensures.exact p is (rw next below))

pub returns-in-Goto-clause-exact : goal.returns-in-Goto-clause-exact
returns-in-Goto-clause-exact c = λ p i q is scope stands.
    let s : Statement = Goto c.in-Goto.label in
    let here : Stands p c.args.node i q (statement s) = subst (λ s. Stands p c.args.node i q (statement s)) c.in-Goto.is stands in
    let place = statement_of p c.args.node i q s here in
    let label = label_known p i q here.owner place.0 s place.1 (start_of (procedures_of p) i) c.in-Goto.label (0, omega arith, refl) in
    let there : c.label.result ≡ label.0 = c.label.ensures p i q label.0 scope label.1 in
    let below : label.0 < node_count c.args.self.now = omega (arith, counted p c.args.self.now is, label_within p i q c.in-Goto.label label.0 here.owner label.1) in
    plain_site p c.args.node i q (statement s) here tt (λ l e. cc) label.0 Nothing (label.1, refl) c.normal-in-Goto.result c.label.result Nothing there refl
    (c.normal-in-Goto.ensures.exact p is (rw there below))

pub returns-in-Branch-clause-exact : goal.returns-in-Branch-clause-exact
returns-in-Branch-clause-exact c = λ p i q is scope stands.
    let s : Statement = Branch c.in-Branch.label in
    let here : Stands p c.args.node i q (statement s) = subst (λ s. Stands p c.args.node i q (statement s)) c.in-Branch.is stands in
    let first = next_below p c.args.self.now is c.args.node i q s here in
    let few = few_below p c.args.self.now is (c.args.node + 1) first in
    let next : c.saturating_add-next.result ≡ c.args.node + 1 = omega (arith, c.saturating_add-next.ensures, few) in
    let place = statement_of p c.args.node i q s here in
    let label = label_known p i q here.owner place.0 s place.1 (start_of (procedures_of p) i) c.in-Branch.label (0, omega arith, refl) in
    let there : c.label-in-Branch.result ≡ label.0 = c.label-in-Branch.ensures p i q label.0 scope label.1 in
    let second : label.0 < node_count c.args.self.now = omega (arith, counted p c.args.self.now is, label_within p i q c.in-Branch.label label.0 here.owner label.1) in
    branch_result p c.args.node i q c.in-Branch.label label.0 here label.1 c.branch-self.result c.saturating_add-next.result c.label-in-Branch.result next there
    (c.branch-self.ensures.exact p is (rw next first) (rw there second))

pub returns-in_ok-call-in-Call-clause-exact : goal.returns-in_ok-call-in-Call-clause-exact
returns-in_ok-call-in-Call-clause-exact c = λ p i q is scope stands.
    let here = subst (λ s. Stands p c.args.node i q (statement s)) c.in-Call.is stands in
    let at : CallAt p c.args.node = record { index = i; procedure = q; target = c.in-Call.target; callees = c.in-Call.callees; arguments = c.in-Call.arguments; stands = here } in
    let call = c.in_ok-call-in-Call.ensures.exact p is at scope refl c.deref.ensures.value c.deref-in-Call.ensures.value in
    subst (λ n. IfOk c.call_site.result (IsSiteOf p n)) c.in_ok-call-in-Call.ensures.node (c.call_site.ensures.exact p is call)

pub returns-in-Return-None-clause-exact : goal.returns-in-Return-None-clause-exact
returns-in-Return-None-clause-exact c = λ p i q is scope stands.
    let s : Statement = Return None in
    let is_none : c.args.statement.now ≡ s = (let at : c.in-Return-None.field-0 ≡ None = rw c.in-Return-None.is at c.in-Return-None.field-0-is in c.in-Return-None.is ∙ ap (λ y. Return y) at) in
    let here : Stands p c.args.node i q (statement s) = subst (λ s. Stands p c.args.node i q (statement s)) is_none stands in
    let exit : c.args.scope.layout.now.exit ≡ exit_of (procedures_of p) i = scope.layout.exit in
    let below : exit_of (procedures_of p) i < node_count c.args.self.now = omega (arith, counted p c.args.self.now is, exit_within p i q here.owner) in
    plain_site p c.args.node i q (statement s) here tt (λ l e. cc) (exit_of (procedures_of p) i) Nothing (refl, refl) c.normal-in-Return-None.result c.args.scope.layout.now.exit Nothing exit refl
    (c.normal-in-Return-None.ensures.exact p is (rw exit below))

pub returns-in-Return-Some-clause-exact : goal.returns-in-Return-Some-clause-exact
returns-in-Return-Some-clause-exact c = λ p i q is scope stands.
    let s : Statement = Return (Some c.in-Return-Some.value) in
    let is_some : c.args.statement.now ≡ s = (let at : c.in-Return-Some.field-0 ≡ Some c.in-Return-Some.value = rw c.in-Return-Some.is at c.in-Return-Some.field-0-is in c.in-Return-Some.is ∙ ap (λ y. Return y) at) in
    let here : Stands p c.args.node i q (statement s) = subst (λ s. Stands p c.args.node i q (statement s)) is_some stands in
    let place = statement_of p c.args.node i q s here in
    let known = variables_known p i q here.owner place.0 s place.1 in
    let source = known c.in-Return-Some.value (0, omega arith, refl) in
    let effect = c.give_back.ensures p i q source.0 scope source.1 in
    let exit : c.args.scope.layout.now.exit ≡ exit_of (procedures_of p) i = scope.layout.exit in
    let below : exit_of (procedures_of p) i < node_count c.args.self.now = omega (arith, counted p c.args.self.now is, exit_within p i q here.owner) in
    plain_site p c.args.node i q (statement s) here tt (λ l e. cc) (exit_of (procedures_of p) i) (Copy (result_of p) source.0) (refl, source.0, source.1, refl {a = Copy (result_of p) source.0})
    c.normal-in-Return-Some.result c.args.scope.layout.now.exit c.give_back.result exit effect
    (c.normal-in-Return-Some.ensures.exact p is (rw exit below))

pub returns-in-Skip-clause-exact : goal.returns-in-Skip-clause-exact
returns-in-Skip-clause-exact c = λ p i q is scope stands.
    let below = next_below p c.args.self.now is c.args.node i q c.args.statement.now stands in
    let few = few_below p c.args.self.now is (c.args.node + 1) below in
    let next : c.saturating_add-next.result ≡ c.args.node + 1 = omega (arith, c.saturating_add-next.ensures, few) in
    let has = c.normal-in-Skip.ensures.exact p is (rw next below) in
    elim c.in-Skip.is [
      | inl skip ↦
          let here : Stands p c.args.node i q (statement Skip) = subst (λ s. Stands p c.args.node i q (statement s)) skip stands in
          plain_site p c.args.node i q (statement Skip) here tt (λ l e. cc) (c.args.node + 1) Nothing (refl, refl) c.normal-in-Skip.result c.saturating_add-next.result Nothing next refl has
      | inr at ↦
          let here : Stands p c.args.node i q (statement (At at.0)) = subst (λ s. Stands p c.args.node i q (statement s)) at.1 stands in
          plain_site p c.args.node i q (statement (At at.0)) here tt (λ l e. cc) (c.args.node + 1) Nothing (refl, refl) c.normal-in-Skip.result c.saturating_add-next.result Nothing next refl has
    ]

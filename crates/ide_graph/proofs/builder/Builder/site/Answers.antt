use Rattle.std.proofs.Common.{◌≡◌, ◌≢◌, ℕ, ◌+◌, ◌<◌, ◌^◌, Some, length, refl, sym, ap, subst, ◌∙◌, arith}
use Rattle.std.specs.Prelude.{slice_get}
use Rattle.std.specs.Global.{Vec}
use Rattle.std.proofs.lemmas.Option.{slice_get_read}
use Rattle.ide_text.specs.declared.program.Procedure.{Procedure}
use Rattle.ide_text.specs.declared.program.Program.{Program}
use Rattle.ide_text.specs.Program.{procedures_of}
use Rattle.ide_graph.specs.Building.{IsBuilderOf, node_count}
use Rattle.ide_graph.specs.Numbering.{spot_value}
use Rattle.ide_graph.specs.Lists.{Lists}
use Rattle.ide_graph.specs.declared.builder.Builder.{Builder}
use Rattle.ide_graph.specs.declared.edge.Effect.TheVariants.{Enter, Nothing}
use Rattle.ide_graph.specs.declared.site.Caller.{Caller}
use Rattle.ide_graph.specs.Numbers.{Spot, start, return_site, exit, exit_of, result_of}
use Rattle.ide_graph.specs.ProgramEdges.{IsCallerOf, Stands}
use Rattle.ide_graph.proofs.CallerLemmas.{at_set_other}
use Rattle.ide_graph.proofs.ProgramLemmas.{counted, exit_is, next_within}
use Rattle.ide_graph.proofs.SiteLemmas.{plain_site}
use Rattle.ide_graph.proofs.builder.Builder.site.Goals as goal

next_below : (p : Program) (b : Builder) → IsBuilderOf p b → (n i : ℕ) (q : Procedure) (spot : Spot) → Stands p n i q spot → spot ≢ exit → n + 1 < node_count b
next_below p b is n i q spot stands inner = omega (arith, counted p b is, next_within p n i q spot stands inner)

few_below : (p : Program) (b : Builder) → IsBuilderOf p b → (n : ℕ) → n < node_count b → n < 2 ^ 32
few_below p b is n below = omega (arith, is.ready.numbered.few)

pub returns-in-Start-clause-exact : goal.returns-in-Start-clause-exact
returns-in-Start-clause-exact c = λ p q is stands from.
    let i : ℕ = c.args.spot.procedure in
    let here : Stands p c.args.node i q start = subst (λ place. Stands p c.args.node i q (spot_value place)) c.in-Start.is stands in
    let below = next_below p c.args.self.now is c.args.node i q start here (λ e. cc) in
    let few = few_below p c.args.self.now is (c.args.node + 1) below in
    let next : c.saturating_add-next.result ≡ c.args.node + 1 = omega (arith, c.saturating_add-next.ensures, few) in
    let effect = c.enter.ensures p i q (c.scope-scope.ensures.exact p q is here.owner) in
    plain_site p c.args.node i q start here tt (λ l e. cc) (c.args.node + 1) (Enter (result_of p + 1 + length q.parameters.items) (result_of p + 1 + length q.parameters.items + length q.locals.items)) (refl, refl)
    c.normal.result c.saturating_add-next.result c.enter.result next effect (c.normal.ensures.exact p is (rw next below))

pub returns-in-ReturnSite-clause-exact : goal.returns-in-ReturnSite-clause-exact
returns-in-ReturnSite-clause-exact c = λ p q is stands from.
    let i : ℕ = c.args.spot.procedure in
    let here : Stands p c.args.node i q return_site = subst (λ place. Stands p c.args.node i q (spot_value place)) c.in-ReturnSite.is stands in
    let below = next_below p c.args.self.now is c.args.node i q return_site here (λ e. cc) in
    let few = few_below p c.args.self.now is (c.args.node + 1) below in
    let next : c.saturating_add-next.result ≡ c.args.node + 1 = omega (arith, c.saturating_add-next.ensures, few) in
    plain_site p c.args.node i q return_site here tt (λ l e. cc) (c.args.node + 1) Nothing (refl, refl)
    c.normal-in-ReturnSite.result c.saturating_add-next.result Nothing next refl (c.normal-in-ReturnSite.ensures.exact p is (rw next below))

pub returns-in-Start-clause-left : goal.returns-in-Start-clause-left
returns-in-Start-clause-left c = λ p q is stands from index callers at more. from index callers at (omega (arith, more))

pub returns-in-Statement-clause-left : goal.returns-in-Statement-clause-left
returns-in-Statement-clause-left c = λ p q is stands from index callers at more. from index callers at (omega (arith, more))

pub returns-in-ReturnSite-clause-left : goal.returns-in-ReturnSite-clause-left
returns-in-ReturnSite-clause-left c = λ p q is stands from index callers at more. from index callers at (omega (arith, more))

pub returns-in-Exit-clause-exact : goal.returns-in-Exit-clause-exact
returns-in-Exit-clause-exact c = λ p q is stands from.
    let i : ℕ = c.args.spot.procedure in
    let here : Stands p c.args.node i q exit = subst (λ place. Stands p c.args.node i q (spot_value place)) c.in-Exit.is stands in
    let lists = c.args.callers.now.items in
    let within : i < length lists = omega (arith, c.requires.procedure, c.requires.callers.whole) in
    let old : slice_get lists i ≡ Some c.index_mut-owner.result.now = slice_get_read lists (length lists) i c.index_mut-owner.result.now refl within c.index_mut-owner.ensures.value in
    let listed = from i c.index_mut-owner.result.now old (omega (arith, exit_is p c.args.node i q here)) in
    let scope = c.scope-scope.ensures.exact p q is here.owner in
    record {
      index = i;
      node = here.node;
      begins = scope.layout.start;
      listed = rw c.of.ensures (subst (λ (v : Vec Caller). Lists (IsCallerOf p i) (λ caller. caller.call_node) v.items) (sym c.replace.ensures.value) listed);
    }

pub returns-in-Exit-clause-left : goal.returns-in-Exit-clause-left
returns-in-Exit-clause-left c = λ p q is stands from index callers at more.
    let i : ℕ = c.args.spot.procedure in
    let here : Stands p c.args.node i q exit = subst (λ place. Stands p c.args.node i q (spot_value place)) c.in-Exit.is stands in
    let node : c.args.node ≡ exit_of (procedures_of p) i = exit_is p c.args.node i q here in
    let apart : index ≢ i = λ e. let same : exit_of (procedures_of p) index ≡ exit_of (procedures_of p) i = ap (exit_of (procedures_of p)) e in omega (arith, more, node, same) in
    from index callers (sym (at_set_other c.args.callers.now.items i index _ apart) ∙ at) (omega (arith, more))

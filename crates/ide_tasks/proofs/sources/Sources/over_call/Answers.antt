use Rattle.std.proofs.Common.{rules, ◌≡◌, ◌≢◌, List, Some, ap, map, refl, ◌∙◌, arith}
use Rattle.std.specs.Prelude.{slice_get}
use Rattle.std.specs.List.{All}
use Rattle.std.specs.List.Sorted.{IsNonDecreasingBy}
use Rattle.ide_graph.specs.declared.site.Caller.{Caller}
use Rattle.ide_graph.specs.declared.site.Site.TheVariants.{Exit}
use Rattle.ide_tasks.specs.Sources.{fact_and_function}
use Rattle.ide_tasks.proofs.Called.{Laws}
use Rattle.ide_tasks.proofs.Lent.{lent-none, lent-some, not-among, rows-read, site-read}
use Rattle.ide_tasks.proofs.sources.Sources.over_call.Goals as goal

pub returns-then-start-node_count : goal.returns-then-start-node_count
returns-then-start-node_count g c = λ p is has are.
    let laws : Laws = record {
      joined = c.sites_of_programs_are_joined.ensures;
      closed = c.graphs_of_programs_are_closed.ensures;
      exits = c.exits_of_programs_are_owned.ensures;
      ends = c.ends_of_programs_are_nodes.ensures;
    } in
    ap (map fact_and_function) c.none.ensures
    ∙ lent-none p c.args.graph.now is has laws g.P.Problem.targets c.args.self.now are c.args.call c.args.start c.args.fact
    (λ among. omega (arith, among.within, c.if-start-node_count.true, c.node_count.ensures.count))

pub returns : goal.returns
returns g c = λ p is has are.
    let laws : Laws = record {
      joined = c.sites_of_programs_are_joined.ensures;
      closed = c.graphs_of_programs_are_closed.ensures;
      exits = c.exits_of_programs_are_owned.ensures;
      ends = c.ends_of_programs_are_nodes.ensures;
    } in
    let graph = c.args.graph.now in
    let found = c.in-Some-caller_at.ensures.found in
    let at : slice_get graph.sites c.exit_of.result ≡ Some (Exit c.args.start found.0) =
    site-read p graph is has laws c.exit_of.result c.site-exit.result.now c.exit_of.ensures.within c.site-exit.ensures.site ∙ ap (λ s. Some s) found.2 in
    let lookup = c.in-Some.ensures.lookup in
    let read =
    rows-read c.self.inside.procedures.items c.deref.result.now c.args.self.now c.procedure_of-procedure.result c.in-Some.sources.now
    c.deref.ensures.value c.self.view_is c.self.invariant lookup.1 lookup.3.0 in
    lent-some p graph is has laws g.P.Problem.targets c.args.self.now are c.args.call c.args.start c.args.fact c.procedure_of-procedure.result c.exit_of.result c.in-Some-caller_at.caller
    found.0 found.1 c.in-Some.sources.now _ c.over.result c.exit_of.ensures.exit c.procedure_of-procedure.ensures.within at found.3 found.4 read.0
    refl (c.over.ensures read.1)

pub returns-in_default-caller_at : goal.returns-in_default-caller_at
returns-in_default-caller_at g c = λ p is has are.
    let laws : Laws = record {
      joined = c.sites_of_programs_are_joined.ensures;
      closed = c.graphs_of_programs_are_closed.ensures;
      exits = c.exits_of_programs_are_owned.ensures;
      ends = c.ends_of_programs_are_nodes.ensures;
    } in
    let graph = c.args.graph.now in
    let at : slice_get graph.sites c.exit_of.result ≡ Some c.site-exit.result.now =
    site-read p graph is has laws c.exit_of.result c.site-exit.result.now c.exit_of.ensures.within c.site-exit.ensures.site in
    let none : (callers : List Caller) → c.site-exit.result.now ≡ Exit c.args.start callers → IsNonDecreasingBy (λ (k : Caller). k.call_node) callers
    → All (λ (k : Caller). k.call_node ≢ c.args.call) callers = search rules in
    ap (map fact_and_function) c.none-in_default-caller_at.ensures
    ∙ lent-none p graph is has laws g.P.Problem.targets c.args.self.now are c.args.call c.args.start c.args.fact
    (not-among p graph is has laws c.args.call c.args.start c.procedure_of-procedure.result c.exit_of.result c.site-exit.result.now
    c.procedure_of-procedure.ensures.owner c.exit_of.ensures.exit at none)

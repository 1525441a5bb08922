use Rattle.std.proofs.Common.{map, subst, sym}
use Rattle.std.proofs.lemmas.Result.{err_from_is_err_and}
use Rattle.ide_graph.specs.Joined.{start_at}
use Rattle.ide_theory.specs.Sites.{edges_of}
use Rattle.ide_text.specs.Parsed.{IsParsed, IsRefusalOf}
use Rattle.ide_solver.specs.Refusal.{IsSolveRefusal, memory}
use Rattle.ide_solver.proofs.Refused.{of-text, roots-refused}
use Rattle.ide_solver.proofs.Results.{refused-on}
use Rattle.ide_solver.proofs.Started.{Laws, started}
use Rattle.ide_solver.proofs.solver.started.Goals as goal

pub returns-clause-started : goal.returns-clause-started
returns-clause-started g c =
    let A = g.P.L.Lattice.algebra in
    let B = g.P.F.EdgeFn.edge in
    let targets = g.P.Problem.targets in
    let laws : Laws A B targets = record {
      supergraphs = c.graphs_are_supergraphs.ensures;
      joined = c.sites_of_programs_are_joined.ensures;
      closed = c.graphs_of_programs_are_closed.ensures;
      exits = c.exits_of_programs_are_owned.ensures;
      ends = c.ends_of_programs_are_nodes.ensures;
      goes = λ graph all joined.
          c.runs_go_on.ensures (edges_of graph.facts graph.sites all (start_at graph)) (c.sites_make_a_graph.ensures graph.facts graph.sites all (start_at graph) joined).0;
    } in
    let parsed = subst (λ text. IsParsed text c.in_ok-program.program) c.deref.ensures.value c.in_ok-program.ensures.parsed in
    started A B targets laws c.args.text.items (map (λ name. name.now) c.args.roots.now) c.in_ok-program.program parsed
    c.load_spelled.new.self c.begin_roots.new.core
    c.in_ok-load_spelled.ensures.loads.program c.in_ok-load_spelled.ensures.loads.graph c.in_ok-load_spelled.ensures.loads.edges c.in_ok-load_spelled.ensures.loads.state c.in_ok-load_spelled.ensures.loads.roots
    c.in_ok-load_spelled.ensures.loads.claims c.in_ok-begin_roots.ensures.begun

pub returns-in_err-program-clause-refused : goal.returns-in_err-program-clause-refused
returns-in_err-program-clause-refused g c =
    let p = err_from_is_err_and c.from_residual.result c.from_residual.ensures.1 in
    let names = map (λ name. name.now) c.args.roots.now in
    refused-on (IsSolveRefusal c.args.text.items names) c.from_residual.result c.in_err-program.field-0.0 p.0 p.1 p.2
    (of-text c.args.text.items names c.in_err-program.field-0.0
    (subst (λ text. IsRefusalOf text c.in_err-program.field-0.0) c.deref.ensures.value c.in_err-program.ensures.fault))

pub returns-in_err-load_spelled-clause-refused : goal.returns-in_err-load_spelled-clause-refused
returns-in_err-load_spelled-clause-refused g c =
    let p = err_from_is_err_and c.from_residual-in_err-load_spelled.result c.from_residual-in_err-load_spelled.ensures.1 in
    let P = IsSolveRefusal c.args.text.items (map (λ name. name.now) c.args.roots.now) in
    refused-on P c.from_residual-in_err-load_spelled.result c.in_err-load_spelled.field-0.0 p.0 p.1 p.2 (subst P (sym c.in_err-load_spelled.ensures.refused) memory)

pub returns-in_err-begin_roots-clause-refused : goal.returns-in_err-begin_roots-clause-refused
returns-in_err-begin_roots-clause-refused g c =
    let p = err_from_is_err_and c.from_residual-in_err-begin_roots.result c.from_residual-in_err-begin_roots.ensures.1 in
    let names = map (λ name. name.now) c.args.roots.now in
    let parsed = subst (λ text. IsParsed text c.in_ok-program.program) c.deref.ensures.value c.in_ok-program.ensures.parsed in
    refused-on (IsSolveRefusal c.args.text.items names) c.from_residual-in_err-begin_roots.result c.in_err-begin_roots.field-0.0 p.0 p.1 p.2
    (roots-refused g.P.L.Lattice.algebra g.P.F.EdgeFn.edge g.P.Problem.targets c.args.text.items names c.load_spelled.new.self c.in_ok-program.program
    parsed c.in_ok-load_spelled.ensures.loads.graph c.in_ok-load_spelled.ensures.loads.edges c.in_ok-load_spelled.ensures.loads.roots
    c.in_err-begin_roots.ensures.refused)

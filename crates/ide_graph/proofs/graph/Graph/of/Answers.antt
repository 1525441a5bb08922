use Rattle.std.proofs.Common.{◌≡◌, ℕ, ◌+◌, ◌≤◌, ◌^◌, min, arith, List, [], length, map, ap, ◌∙◌, sym, subst, refl, lit≤}
use Rattle.std.specs.Arc.{arc_value}
use Rattle.std.specs.Global.{Vec}
use Rattle.std.specs.List.{All}
use Rattle.std.proofs.lemmas.List.{length-map}
use Rattle.std.proofs.lemmas.List.Elements.{All-same}
use Rattle.ide_graph.specs.Edges.{EdgesWithin}
use Rattle.ide_graph.specs.declared.graph.Graph.TheInside.{Inside}
use Rattle.ide_graph.specs.declared.numbering.Spot.{Spot}
use Rattle.ide_graph.specs.declared.site.Site.{Site}
use Rattle.ide_text.specs.declared.program.Procedure.{Procedure}
use Rattle.ide_text.specs.Program.{globals_of, procedures_of}
use Rattle.ide_graph.specs.Named.{procedure_of_name}
use Rattle.ide_graph.specs.Naming.{AreNew}
use Rattle.ide_graph.specs.ProgramEdges.{AreSitesOf}
use Rattle.ide_graph.specs.Steps.{AreStepsOf}
use Rattle.ide_graph.specs.Numbering.{IsNumberingOf}
use Rattle.ide_graph.specs.Numbers.{nodes_of, procedure_of, facts_of}
use Rattle.ide_graph.proofs.BuilderOfLemmas.{builder_of}
use Rattle.ide_graph.proofs.FirstPass.{facts_are}
use Rattle.ide_graph.proofs.GraphLemmas.{All-owners}
use Rattle.ide_graph.proofs.GraphOfLemmas.{graph_of}
use Rattle.ide_graph.proofs.LimitLemmas.{few_facts, few_nodes, global_names}
use Rattle.ide_graph.proofs.graph.Graph.of.Goals as goal

-- a program has few enough nodes for their numbers
pub of-requires-3 : goal.of-requires-3
of-requires-3 c =
    let p = c.args.program.now in
    let procedures : c.procedures-procedures.result.now ≡ procedures_of p = c.procedures-procedures.ensures in
    let same = ap (λ (ps : List Procedure). length (nodes_of ps)) procedures in
    let bound : 65537 ≤ 2 ^ 32 = lit≤ tt in
    omega (arith, same, few_nodes p, bound)

-- the first pass counted what the second made
pub invariant_of-result : goal.invariant_of-result
invariant_of-result c =
    let procedure : Spot → ℕ = λ spot. spot.procedure in
    let numbered = c.in_ok-numbering.ensures.numbered in
    let facts = min (length c.in_ok-globals.globals.names + 2 + c.most_own_of-most_own.result) 65536 in
    let made : (arc_value c.in_ok-sites-2.sites).items ≡ c.in_ok-sites.sites.items = ap (λ (sites : Vec Site). sites.items) c.in_ok-sites-2.ensures.ok in
    let sites : length (arc_value c.in_ok-sites-2.sites).items ≡ length c.in_ok-numbering.numbering.spots.items =
    ap length made ∙ (c.in_ok-sites.ensures.whole ∙ ap (λ n. length n.now.spots.items) c.new.ensures.same) in
    let owners : c.in_ok-owners.owners.items ≡ map procedure c.in_ok-numbering.numbering.spots.items =
    c.in_ok-owners.ensures ∙ ap (map procedure) c.deref-2.ensures.value in
    record {
      few = rw sites numbered.few;
      edges = subst (λ sites. All (EdgesWithin (length sites)) sites) (sym made)
          (subst (λ n. All (EdgesWithin n) c.in_ok-sites.sites.items) (sym c.in_ok-sites.ensures.whole) c.in_ok-sites.ensures.within);
      owners = ap length owners ∙ (length-map _ procedure ∙ sym sites);
      owned = All-owners _ _ _ owners numbered.owned;
      placed = rw sites numbered.placed;
      named = c.in_ok-directory.ensures.counted ∙ sym c.in_ok-numbering.ensures.whole;
      own = All-same (λ layout. length layout.own ≤ c.most_own_of-most_own.result) _ _ (sym c.deref.ensures.value) c.most_own_of-most_own.ensures.most;
      stepped = subst (λ sites. AreStepsOf facts sites c.in_ok-steps.steps.items) (c.deref-3.ensures.value ∙ sym made)
          (subst (λ n. AreStepsOf n c.deref-3.result.now c.in_ok-steps.steps.items) c.fact_count-facts.ensures c.in_ok-steps.ensures);
    }

pub returns-clause-numbered : goal.returns-clause-numbered
returns-clause-numbered c =
    let procedure : Spot → ℕ = λ spot. spot.procedure in
    let p = c.args.program.now in
    let numbering = c.in_ok-numbering.numbering in
    let procedures : c.procedures-procedures.result.now ≡ procedures_of p = c.procedures-procedures.ensures in
    let globals : c.globals.result.now ≡ globals_of p = c.globals.ensures in
    let owners : c.in_ok-owners.owners.items ≡ map procedure numbering.spots.items =
    c.in_ok-owners.ensures ∙ ap (map procedure) c.deref-2.ensures.value in
    let layouts = c.deref.ensures.value in
    let made : Inside = record {
      globals = c.in_ok-globals.globals;
      directory = c.in_ok-directory.directory;
      layouts = numbering.layouts;
      sites = c.in_ok-sites-2.sites;
      owners = c.in_ok-owners.owners;
      most_own = c.most_own_of-most_own.result;
      steps = c.in_ok-steps.steps;
    } in
    graph_of p made numbering
    (subst (λ (ps : List Procedure). IsNumberingOf ps numbering) procedures c.in_ok-numbering.ensures.numbering)
    refl
    (subst (λ (gs : List (List ℕ)). AreNew [] gs → c.in_ok-globals.globals.names ≡ gs) globals c.in_ok-globals.ensures.named)
    (subst (λ (ps : List Procedure). (name : List ℕ) → procedure_of_name c.in_ok-directory.directory.procedures name ≡ procedure_of ps name) procedures c.in_ok-directory.ensures.named)
    owners
    (ap (λ (sites : Vec Site). length sites.items) c.in_ok-sites-2.ensures.ok ∙ (c.in_ok-sites.ensures.whole ∙ ap (λ n. length n.now.spots.items) c.new.ensures.same))
    (All-same (λ layout. length layout.own ≤ c.most_own_of-most_own.result) _ _ (sym layouts) c.most_own_of-most_own.ensures.most)
    (λ bound all. c.most_own_of-most_own.ensures.least bound (All-same (λ layout. length layout.own ≤ bound) _ _ layouts all))

-- the second pass rests on what the first found
pub returns-clause-edges : goal.returns-clause-edges
returns-clause-edges c =
    let p = c.args.program.now in
    let numbering = c.in_ok-numbering.numbering in
    let procedures : c.procedures-procedures.result.now ≡ procedures_of p = c.procedures-procedures.ensures in
    let is : IsNumberingOf (procedures_of p) numbering = subst (λ (ps : List Procedure). IsNumberingOf ps numbering) procedures c.in_ok-numbering.ensures.numbering in
    let globals : AreNew [] (globals_of p) → c.in_ok-globals.globals.names ≡ globals_of p =
    subst (λ (gs : List (List ℕ)). AreNew [] gs → c.in_ok-globals.globals.names ≡ gs) c.globals.ensures c.in_ok-globals.ensures.named in
    let directory : (name : List ℕ) → procedure_of_name c.in_ok-directory.directory.procedures name ≡ procedure_of (procedures_of p) name =
    subst (λ (ps : List Procedure). (name : List ℕ) → procedure_of_name c.in_ok-directory.directory.procedures name ≡ procedure_of ps name) procedures c.in_ok-directory.ensures.named in
    let layouts = c.deref.ensures.value in
    let facts : min (length c.in_ok-globals.globals.names + 2 + c.most_own_of-most_own.result) 65536 ≡ facts_of p =
    facts_are p numbering is c.most_own_of-most_own.result
    (All-same (λ layout. length layout.own ≤ c.most_own_of-most_own.result) _ _ (sym layouts) c.most_own_of-most_own.ensures.most)
    (λ bound all. c.most_own_of-most_own.ensures.least bound (All-same (λ layout. length layout.own ≤ bound) _ _ layouts all))
    c.in_ok-globals.globals.names (globals (global_names p)) in
    let count : c.fact_count-facts.result ≡ facts_of p = c.fact_count-facts.ensures ∙ facts in
    let builder = builder_of p c.new.result c.new.ensures.ready (subst (λ n. IsNumberingOf (procedures_of p) n.now) (sym c.new.ensures.same) is)
    (λ new. ap (λ g. g.now.names) c.new.ensures.globals ∙ globals new)
    (λ name. ap (λ d. procedure_of_name d.now.procedures name) c.new.ensures.directory ∙ directory name)
    (omega (arith, c.new.ensures.facts, count, few_facts p)) in
    subst (λ (sites : Vec Site). AreSitesOf p sites.items) (sym c.in_ok-sites-2.ensures.ok) (c.in_ok-sites.ensures.exact p builder)

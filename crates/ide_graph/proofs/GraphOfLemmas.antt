-- The numbers of a graph are those of the program, where both passes went over it.
use Rattle.std.proofs.Common.{◌≡◌, ℕ, ◌≤◌, codes, List, [], ◌∷◌, ◌++◌, length, map, get_or, slice_get, Some, ◌∙◌, sym, ap, refl, arith, append_assoc}
use Rattle.std.specs.List.{All}
use Rattle.std.specs.Option.{option_map}
use Rattle.std.proofs.lemmas.List.{length-map}
use Rattle.std.proofs.lemmas.Option.{get_or_from_slice_get, slice_get-map}
use Rattle.ide_text.specs.declared.program.Program.{Program}
use Rattle.ide_text.specs.declared.program.Procedure.{Procedure}
use Rattle.ide_text.specs.Program.{globals_of, procedures_of}
use Rattle.ide_graph.specs.declared.graph.Graph.TheInside.{Inside}
use Rattle.ide_graph.specs.declared.layout.Layout.{Layout}
use Rattle.ide_graph.specs.declared.numbering.Numbering.{Numbering}
use Rattle.ide_graph.specs.declared.numbering.Spot.{Spot as Node}
use Rattle.ide_graph.specs.GraphOf.{IsGraphOf}
use Rattle.ide_graph.specs.Named.{procedure_of_name, fact_of_name, names_of_facts}
use Rattle.ide_graph.specs.Naming.{AreNew}
use Rattle.ide_graph.specs.Numbering.{node_value, IsLayoutOf, IsNumberingOf}
use Rattle.ide_graph.specs.Numbers.{procedure_of}
use Rattle.ide_graph.specs.Whole.{counts_of, sites_of}
use Rattle.ide_graph.proofs.FirstPass.{layout_at, facts_are}
use Rattle.ide_graph.proofs.SliceLemmas.{element_of}
use Rattle.ide_graph.proofs.LimitLemmas.{few_facts, few_nodes, global_names, own_names, fact_of_name_at}

mapped_at : {X Y : Type 0} (f : X → Y) (xs : List X) (i : ℕ) (x : X) (d : Y) → slice_get xs i ≡ Some x → get_or (map f xs) i d ≡ f x
mapped_at f xs i x d at = get_or_from_slice_get (map f xs) i (f x) d (slice_get-map f xs i ∙ ap (option_map f) at)

owners_in : (nodes : List Node) → map (λ node. node.procedure) nodes ≡ map (λ node. node.0) (map node_value nodes)
owners_in [] = refl
owners_in (node ∷ nodes) = ap (λ rest. node.procedure ∷ rest) (owners_in nodes)

module _ (p : Program) (graph : Inside) (numbering : Numbering) (is : IsNumberingOf (procedures_of p) numbering)
    (layouts : graph.layouts.items ≡ numbering.layouts.items)
    (globals : AreNew [] (globals_of p) → graph.globals.names ≡ globals_of p)
    (directory : (name : List ℕ) → procedure_of_name graph.directory.procedures name ≡ procedure_of (procedures_of p) name)
    (owners : graph.owners.items ≡ map (λ node. node.procedure) numbering.spots.items)
    (sites : length (sites_of graph) ≡ length numbering.spots.items)
    (most : All (λ layout. length layout.own ≤ graph.most_own) numbering.layouts.items)
    (least : (bound : ℕ) → All (λ layout. length layout.own ≤ bound) numbering.layouts.items → graph.most_own ≤ bound) where
  -- what the layout of a procedure gives
  from_layout : {Y : Type 0} (f : Layout → Y) (d : Y) (i : ℕ) (q : Procedure) → slice_get (procedures_of p) i ≡ Some q → (l : Layout) × (get_or (map f graph.layouts.items) i d ≡ f l) × IsLayoutOf (procedures_of p) i q l
  from_layout f d i q at =
      let l = layout_at p numbering is i q at in
      (l.0, ap (λ ls. get_or (map f ls) i d) layouts ∙ mapped_at f numbering.layouts.items i l.0 d l.1, l.2)

  own_at : (i : ℕ) (q : Procedure) → slice_get (procedures_of p) i ≡ Some q → get_or (map (λ layout. layout.own) graph.layouts.items) i [] ≡ q.parameters.items ++ q.locals.items
  own_at i q at = let l = from_layout (λ layout. layout.own) [] i q at in l.1 ∙ l.2.own (own_names p i q at)

  pub graph_of : IsGraphOf p (counts_of graph)
  graph_of = record {
    procedures = ap length layouts ∙ is.layouts;
    nodes = sites ∙ (sym (length-map numbering.spots.items node_value) ∙ ap length is.spots);
    sited = sites ∙ (sym (length-map numbering.spots.items node_value) ∙ ap length is.spots);
    owners = owners ∙ (owners_in numbering.spots.items ∙ ap (map (λ node. node.0)) is.spots);
    starts = λ i within. let at = element_of (procedures_of p) i within in let l = from_layout (λ layout. layout.start) 0 i at.0 at.1 in l.1 ∙ l.2.start;
    exits = λ i within. let at = element_of (procedures_of p) i within in let l = from_layout (λ layout. layout.exit) 0 i at.0 at.1 in l.1 ∙ l.2.exit;
    named = directory;
    counts =
        let same = globals (global_names p) in
        let names = ap length same in
        let few = few_facts p in
        (facts_are p numbering is graph.most_own most least graph.globals.names same, omega (arith, names, few));
    few =
        let same = globals (global_names p) in
        let facts = facts_are p numbering is graph.most_own most least graph.globals.names same in
        let nodes = sites ∙ (sym (length-map numbering.spots.items node_value) ∙ ap length is.spots) in
        (omega (arith, nodes, few_nodes p), omega (arith, facts, few_facts p));
    parameters = λ i q at. let l = from_layout (λ layout. layout.parameter_count) 0 i q at in l.1 ∙ l.2.parameters (own_names p i q at);
    names = λ i q at.
        ap (λ names. names_of_facts names (get_or (map (λ layout. layout.own) graph.layouts.items) i [])) (globals (global_names p))
        ∙ ap (names_of_facts (globals_of p)) (own_at i q at)
        ∙ sym (append_assoc (codes "@zero" ∷ globals_of p) (codes "@result" ∷ q.parameters.items) q.locals.items);
    fact = λ i q at name.
        ap (λ names. fact_of_name names (get_or (map (λ layout. layout.own) graph.layouts.items) i []) name) (globals (global_names p))
        ∙ ap (λ own. fact_of_name (globals_of p) own name) (own_at i q at)
        ∙ fact_of_name_at p i q at name;
  }

-- Two graphs of one text are the same.
use Rattle.std.proofs.Common.{◌≡◌, ℕ, ◌<◌, Some, length, sym, ap, ◌∙◌, arith}
use Rattle.std.specs.Prelude.{slice_get}
use Rattle.std.specs.Str.{bytes_eq}
use Rattle.std.specs.List.{position}
use Rattle.ide_text.specs.declared.program.Procedure.{Procedure}
use Rattle.ide_text.specs.declared.program.Program.{Program}
use Rattle.ide_text.specs.Laws.{SpellOneProgram}
use Rattle.ide_text.specs.Program.{globals_of, procedures_of, value_of}
use Rattle.ide_text.specs.Value.{ProcedureValue, value_of_procedure}
use Rattle.ide_graph.specs.GraphOf.{IsGraphOf}
use Rattle.ide_graph.specs.Numbers.{nodes_of}
use Rattle.ide_graph.specs.ProgramEdges.{HasEdgesOf}
use Rattle.ide_graph.specs.SameGraphs.{AreSameGraphs, GraphsOfOneTextAreSame}
use Rattle.ide_graph.specs.Supergraph.{Supergraph}
use Rattle.ide_graph.proofs.OneSite.{one_site}
use Rattle.ide_graph.proofs.SameGraph.{count_same, exit_same, facts_same, globals_same, names_same, owners_same, procedure_same, procedure_there, procedures_same, result_same, site_same, start_same}
use Rattle.ide_graph.proofs.SliceLemmas.{element_of, same_elements}
use Rattle.std.proofs.lemmas.List.{length-map}

module _ (p q : Program) (e : value_of p ≡ value_of q) (graph other : Supergraph)
    (a : IsGraphOf p graph) (b : IsGraphOf q other) (edges : HasEdgesOf p graph) (others : HasEdgesOf q other) where
  -- the procedure of an index, in both programs
  there : (i : ℕ) → i < graph.procedures → (x : Procedure) × (y : Procedure) × (slice_get (procedures_of p) i ≡ Some x) × (slice_get (procedures_of q) i ≡ Some y) × (value_of_procedure x ≡ value_of_procedure y)
  there i within =
      let one = element_of (procedures_of p) i (omega (arith, within, a.procedures)) in
      let two = procedure_there p q e i one.0 one.1 in
      (one.0, two.0, one.1, two.1, two.2)

  procedure_count : length (procedures_of p) ≡ length (procedures_of q)
  procedure_count = sym (length-map (procedures_of p) value_of_procedure) ∙ ap length (procedures_same p q e) ∙ length-map (procedures_of q) value_of_procedure

  node_count : length (nodes_of (procedures_of p)) ≡ length (nodes_of (procedures_of q))
  node_count = count_same (procedures_of p) (procedures_of q) (procedures_same p q e)

  same : AreSameGraphs graph other
  same =
      let listed = procedures_same p q e in
      record {
        procedures = a.procedures ∙ procedure_count ∙ sym b.procedures;
        nodes = a.nodes ∙ node_count ∙ sym b.nodes;
        facts = a.counts.0 ∙ facts_same p q e ∙ sym b.counts.0;
        entries = a.counts.1 ∙ result_same p q e ∙ sym b.counts.1;
        owners = a.owners ∙ owners_same (procedures_of p) (procedures_of q) listed ∙ sym b.owners;
        starts = λ i within.
            a.starts i (omega (arith, within, a.procedures))
            ∙ start_same (procedures_of p) (procedures_of q) listed i
            ∙ sym (b.starts i (omega (arith, within, a.procedures, procedure_count)));
        exits = λ i within.
            a.exits i (omega (arith, within, a.procedures))
            ∙ exit_same (procedures_of p) (procedures_of q) listed i
            ∙ sym (b.exits i (omega (arith, within, a.procedures, procedure_count)));
        parameters = λ i within.
            let r = there i within in
            a.parameters i r.0 r.2 ∙ ap (λ (v : ProcedureValue). length v.parameters) r.4 ∙ sym (b.parameters i r.1 r.3);
        named = λ name. a.named name ∙ procedure_same (procedures_of p) (procedures_of q) listed name ∙ sym (b.named name);
        names = λ i within.
            let r = there i within in
            a.names i r.0 r.2 ∙ names_same (globals_of p) (globals_of q) r.0 r.1 (globals_same p q e) r.4 ∙ sym (b.names i r.1 r.3);
        found = λ i within name.
            let r = there i within in
            a.fact i r.0 r.2 name
            ∙ ap (position (bytes_eq name)) (names_same (globals_of p) (globals_of q) r.0 r.1 (globals_same p q e) r.4)
            ∙ sym (b.fact i r.1 r.3 name);
        sites = same_elements graph.sites other.sites (a.sited ∙ node_count ∙ sym b.sited)
            (λ node one two at to. one_site q node one two (site_same p q e node one (edges node one at)) (others node two to));
      }

pub same_graphs : SpellOneProgram → GraphsOfOneTextAreSame
same_graphs one text graph other a b =
    same a.program b.program (one text a.program.draft b.program.draft a.parsed.spelled b.parsed.spelled) graph other a.counted b.counted a.edges b.edges

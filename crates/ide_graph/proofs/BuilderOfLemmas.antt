-- What the first pass finds of a program is what the second rests on.
use Rattle.std.proofs.Common.{◌≡◌, ℕ, List, [], arith}
use Rattle.ide_text.specs.declared.program.Program.{Program}
use Rattle.ide_text.specs.Program.{globals_of, procedures_of}
use Rattle.ide_graph.specs.declared.builder.Builder.{Builder}
use Rattle.ide_graph.specs.Building.{IsBuilderOf, IsReady}
use Rattle.ide_graph.specs.Named.{procedure_of_name}
use Rattle.ide_graph.specs.Naming.{AreNew}
use Rattle.ide_graph.specs.Numbering.{IsNumberingOf}
use Rattle.ide_graph.specs.Numbers.{procedure_of, facts_of}
use Rattle.ide_graph.proofs.LimitLemmas.{few_facts, global_names, own_names, fact_of_name_at}

pub builder_of : (p : Program) (b : Builder) → IsReady b → IsNumberingOf (procedures_of p) b.numbering.now → (AreNew [] (globals_of p) → b.globals.now.names ≡ globals_of p)
    → ((name : List ℕ) → procedure_of_name b.directory.now.procedures name ≡ procedure_of (procedures_of p) name) → b.facts ≡ facts_of p → IsBuilderOf p b
builder_of p b ready is globals directory facts = record {
  ready = ready;
  spots = is.spots;
  counted = is.layouts;
  layouts = λ i q layout labels owner at labelled.
      let own = own_names p i q owner in
      let l = is.layout i q layout owner at in
      record { start = l.start; exit = l.exit; own = l.own own; parameters = l.parameters own; labelled = is.labels i q labels owner labelled };
  directory = directory;
  globals = globals (global_names p);
  finds = λ i q at name. fact_of_name_at p i q at name;
  facts = facts;
  few = omega (arith, few_facts p);
}

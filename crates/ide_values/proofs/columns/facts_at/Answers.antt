use Rattle.std.proofs.Common.{◌≡◌, Some, length, map, sym, ap, ◌∙◌, rules, arith}
use Rattle.std.proofs.lemmas.List.{length-map}
use Rattle.std.specs.Option.{option_map}
use Rattle.ide_graph.specs.Supergraph.{name_at}
use Rattle.ide_values.specs.Dump.{fact_columns}
use Rattle.ide_values.proofs.Lines.{none_after}
use Rattle.ide_values.proofs.Told.{no_more, one_more}
use Rattle.ide_values.proofs.columns.facts_at.Goals as goal
use Rattle.ide_values.proofs.columns.facts_at.Goals.{else-loop-index-test, then-loop-index-test+in_default}

pub loop-index-preserved : goal.loop-index-preserved
loop-index-preserved c =
    let named : name_at c.args.graph.now c.args.node c.loop-index.index ≡ Some c.in-Some.name.now = search rules in
    record {
      count = search rules;
      few = omega (arith, c.loop-index-test.true, c.fact_count-index-end.ensures);
      each =
          one_more (λ columns. columns.items) (name_at c.args.graph.now c.args.node) c.loop-index.facts.items c.push.new.self.items c.in_ok-columns_of.field-0 c.loop-index.index
          c.in_ok-push.ensures.items c.loop-index.invariant.count c.loop-index.invariant.each
          (ap Some c.in_ok-columns_of.ensures ∙ sym (ap (option_map (fact_columns c.loop-index.index)) named));
    }

pub returns : goal.returns
returns c =
    let graph = c.args.graph.now in
    let many : c.fact_count-index-end.result ≡ graph.facts = c.fact_count-index-end.ensures.count in
    record {
      within = c.requires;
      each =
          no_more (λ columns. columns.items) (name_at graph c.args.node) c.loop-index.facts.items c.loop-index.index graph.facts c.loop-index.invariant.count c.loop-index.invariant.each
          (λ fact behind within. elim c.loop-index-test.branch [
            | else-loop-index-test w ↦ absurd (omega (arith, w.loop-index-test, many, behind, within))
            | then-loop-index-test+in_default w ↦ none_after graph c.args.node c.loop-index.index fact (search rules) behind
          ]);
      few =
          let count : length (map (λ columns. columns.items) c.loop-index.facts.items) ≡ length c.loop-index.facts.items = length-map c.loop-index.facts.items (λ columns. columns.items) in
          omega (arith, count, c.loop-index.invariant.count, c.loop-index.invariant.few);
    }

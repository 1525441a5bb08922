use Rattle.std.proofs.Common.{◌≡◌, Some, length, ap, refl, sym, ◌∙◌, arith}
use Rattle.std.specs.Prelude.{slice_get}
use Rattle.std.proofs.lemmas.Option.{slice_get_past, slice_get_read}
use Rattle.ide_tasks.proofs.Exits.{none_more, some_more, is_current, still_current, at_end}
use Rattle.ide_tasks.proofs.parts.Parts.add_exit.Goals as goal
use Rattle.ide_tasks.proofs.parts.Parts.add_exit.Goals.{then-ne+in_ok-flow, else-ne}

pub loop-source-preserved-in_default : goal.loop-source-preserved-in_default
loop-source-preserved-in_default g c = record {
  parts = none_more g.P.F.EdgeFn.edge g.P.Problem.targets c.args.to c.args.function c.args.callers.now c.args.reaching.now c.loop-source.source-index
      c.source-item.result _ _ c.loop-source-test.true c.source-item.is
      (slice_get_past c.args.callers.now c.source-item.result.caller c.in_default.ensures.lookup.3) c.loop-source.invariant.parts;
  targets = c.loop-source.invariant.targets;
}

pub loop-source-preserved : goal.loop-source-preserved
loop-source-preserved g c =
    let found = c.in-Some.ensures.lookup in
    let caller : slice_get c.args.callers.now c.source-item.result.caller ≡ Some c.in-Some.caller.now =
    slice_get_read c.args.callers.now (length c.args.callers.now) c.source-item.result.caller c.in-Some.caller.now refl found.3.0 found.1 in
    elim c.if-ne.branch [
      | then-ne+in_ok-flow w ↦
          let are : c.if-ne.self.targets.list.items ≡ g.P.Problem.targets c.in-Some.caller.now.back c.args.to =
          ap (λ parts. parts.targets.list.items) w.self-is ∙ w.in_ok-flow.ensures.targets in
          record {
            parts = some_more g.P.F.EdgeFn.edge g.P.Problem.targets c.args.to c.args.function c.args.callers.now c.args.reaching.now c.loop-source.source-index
                c.source-item.result c.in-Some.caller.now _ c.if-ne.self.list.items _ c.as_slice-targets.result.now c.compose-through.result
                c.loop-source-test.true c.source-item.is caller
                (ap (λ parts. parts.list.items) w.self-is ∙ ap (λ list. list.items) w.in_ok-flow.ensures.parts ∙ c.loop-source.invariant.parts)
                (c.as_slice-targets.ensures.value ∙ are) c.compose-through.ensures c.in_ok-add_summaries.ensures;
            targets = still_current g.P.F.EdgeFn.edge g.P.Problem.targets c.args.to c.args.function c.args.callers.now
                c.if-ne.current c.source-item.result.caller c.in-Some.caller.now c.if-ne.self.targets.list.items w.current-is caller are;
          }
      | else-ne w ↦
          let current : c.if-ne.current ≡ Some c.source-item.result.caller =
          w.current-is ∙ is_current c.loop-source.current c.source-item.result.caller c.ne.result c.ne.ensures w.if-ne.false in
          let are : c.if-ne.self.targets.list.items ≡ g.P.Problem.targets c.in-Some.caller.now.back c.args.to =
          ap (λ parts. parts.targets.list.items) w.self-is
          ∙ c.loop-source.invariant.targets c.source-item.result.caller c.in-Some.caller.now (sym w.current-is ∙ current) caller in
          record {
            parts = some_more g.P.F.EdgeFn.edge g.P.Problem.targets c.args.to c.args.function c.args.callers.now c.args.reaching.now c.loop-source.source-index
                c.source-item.result c.in-Some.caller.now _ c.if-ne.self.list.items _ c.as_slice-targets.result.now c.compose-through.result
                c.loop-source-test.true c.source-item.is caller
                (ap (λ parts. parts.list.items) w.self-is ∙ c.loop-source.invariant.parts)
                (c.as_slice-targets.ensures.value ∙ are) c.compose-through.ensures c.in_ok-add_summaries.ensures;
            targets = still_current g.P.F.EdgeFn.edge g.P.Problem.targets c.args.to c.args.function c.args.callers.now
                c.if-ne.current c.source-item.result.caller c.in-Some.caller.now c.if-ne.self.targets.list.items current caller are;
          }
    ]

pub returns : goal.returns
returns g c =
    at_end g.P.F.EdgeFn.edge g.P.Problem.targets c.args.to c.args.function c.args.callers.now c.args.reaching.now c.loop-source.source-index _ _
    (omega arith) c.loop-source.invariant.parts

use Rattle.std.proofs.Common.{refl}
use Rattle.ide_store.specs.Table.{Analysis}
use Rattle.ide_slot_store.proofs.Stored.{all_then, call_then}
use Rattle.ide_slot_store.proofs.engine.SlotEngine.store_all.Given.{Over}
use Rattle.ide_slot_store.proofs.engine.SlotEngine.store_all.Goals as goal

-- the analysis of the store
abbrev kept : (g : Over) → Analysis g.row.P-F.Denot g.row.P-L.Denot
kept g = record {
  lattice = g.P.L.Lattice.algebra;
  functions = g.P.F.EdgeFn.edge;
  targets = g.P.Problem.targets;
  same = g.P.F.PartialEq.eq;
  proper = g.P.F.Wire.proper;
  form = g.P.F.Wire.form;
}

pub loop-init : goal.loop-init
loop-init g c = (
  λ honest tag w reached at_work. record { world = w; reached = reached; at_work = at_work; honest = honest; same = refl },
  λ honest. honest,
)

pub loop-preserved : goal.loop-preserved
loop-preserved g c =
    let before = c.loop.invariant in
    let step = c.in_ok-disk_step.ensures in (
      λ honest tag w reached at_work.
          let on = before.0 honest tag w reached at_work in
          call_then (kept g) tag w.world.sealed _ _ _ _ c.in_ok-disk_step.field-0 on (step.steps on.honest tag) c.if-not-branch.false (step.honest on.honest),
      λ honest. step.honest (before.1 honest),
    )

pub returns-then-not-branch-clause-stored : goal.returns-then-not-branch-clause-stored
returns-then-not-branch-clause-stored g c = λ honest tag w reached at_work.
    let on = c.loop.invariant.0 honest tag w reached at_work in
    let step = c.in_ok-disk_step.ensures in
    all_then (kept g) tag w.world.sealed _ _ _ _ c.in_ok-disk_step.field-0 on (step.steps on.honest tag) c.if-not-branch.true (step.honest on.honest)

pub returns-then-not-branch-clause-honest : goal.returns-then-not-branch-clause-honest
returns-then-not-branch-clause-honest g c = λ honest. c.in_ok-disk_step.ensures.honest (c.loop.invariant.1 honest)

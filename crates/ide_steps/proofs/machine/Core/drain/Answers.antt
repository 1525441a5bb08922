use Rattle.std.proofs.Common.{refl, rules, subst, sym}
use Rattle.std.proofs.lemmas.Result.{IfErr-weaker, err_from_is_err_and}
use Rattle.ide_steps.proofs.States.{handed-on}
use Rattle.ide_steps.specs.DrainRefusal.{IsDrainRefusal, memory, no_drain}
use Rattle.ide_steps.proofs.Going.{goes-on, goes-same}
use Rattle.ide_steps.proofs.Bounded.{few-of}
use Rattle.ide_steps.proofs.Noted.{remembers-same}
use Rattle.ide_steps.proofs.machine.Core.drain.Goals as goal

pub returns-in_err-may_drain-clause-goes : goal.returns-in_err-may_drain-clause-goes
returns-in_err-may_drain-clause-goes g c =
    goes-on g.P.L.Lattice.algebra g.P.F.EdgeFn.edge g.P.Problem.targets c.args.self.now c.args.self.now
    (goes-same g.P.L.Lattice.algebra g.P.F.EdgeFn.edge g.P.Problem.targets 0 c.args.self.now c.args.self.now refl)

pub returns-in_err-may_drain-clause-refused : goal.returns-in_err-may_drain-clause-refused
returns-in_err-may_drain-clause-refused g c =
    let p = err_from_is_err_and c.from_residual.result c.from_residual.ensures.1 in
    handed-on (IsDrainRefusal {F = g.row.P-F.Denot} c.args.self.now) c.from_residual.result c.in_err-may_drain.field-0.0 p.0 p.1 p.2
    (no_drain c.in_err-may_drain.ensures.refused)

pub returns-in_err-may_drain-clause-remembers : goal.returns-in_err-may_drain-clause-remembers
returns-in_err-may_drain-clause-remembers g c = remembers-same _ _ refl refl refl

pub returns-clause-few : goal.returns-clause-few
returns-clause-few g c =
    few-of g.P.L.Lattice.algebra g.P.F.EdgeFn.edge g.P.Problem.targets (c.images_have_room.ensures) c.run_all-drained.result c.args.self.now c.run_all-drained.new.self
    c.cores_are_whole.ensures c.run_all-drained.ensures.claims

pub returns-clause-refused : goal.returns-clause-refused
returns-clause-refused g c =
    IfErr-weaker c.run_all-drained.result _ _
    (λ refused is. subst (IsDrainRefusal {F = g.row.P-F.Denot} c.args.self.now) (sym is) (memory (record { loaded = search rules; free = search rules })))
    c.run_all-drained.ensures.refused

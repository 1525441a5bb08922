use Rattle.ide_store.specs.Table.{Analysis}
use Rattle.ide_service.specs.Holds.{IsWorkRefusal, in_a_hold, in_its_loop}
use Rattle.ide_service.specs.Refusing.{HalfRefuses, IsLoopRefusal}
use Rattle.ide_service.proofs.Loops.{if_err, loops_met}
use Rattle.ide_service.proofs.service.Service.work.Goals as goal

pub returns-clause-refused : goal.returns-clause-refused
returns-clause-refused g c =
    let a : Analysis g.row.P-F.Denot g.row.P-L.Denot = record {
      lattice = g.P.L.Lattice.algebra;
      functions = g.P.F.EdgeFn.edge;
      targets = g.P.Problem.targets;
      same = g.P.F.PartialEq.eq;
      proper = g.P.F.Wire.proper;
      form = g.P.F.Wire.form;
    } in
    if_err c.hand_loop.result (IsLoopRefusal (HalfRefuses a) c.args.hand) (IsWorkRefusal a c.args.hand) (λ why loop. in_its_loop loop)
    (loops_met a _ c.args.hand c.hand_loop.result c.hand_loop.ensures.refused)

pub returns-in-Err-clause-refused : goal.returns-in-Err-clause-refused
returns-in-Err-clause-refused g c = in_a_hold c.in-Err.ensures.refused

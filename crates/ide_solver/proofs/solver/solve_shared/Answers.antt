use Rattle.std.proofs.Common.{map, refl, subst, sym}
use Rattle.std.proofs.lemmas.Result.{IfErr-weaker}
use Rattle.ide_values.specs.Dump.{dump_of}
use Rattle.ide_values.specs.Values.{value_there}
use Rattle.ide_solver.specs.Refusal.{IsSharedRefusal, memory, not_solved}
use Rattle.ide_solver.proofs.Results.{on-ok}
use Rattle.ide_solver.proofs.solver.solve_shared.Goals as goal

pub returns-clause-solution : goal.returns-clause-solution
returns-clause-solution g c =
    let values = c.in_ok-values.values in
    let is = c.in_ok-values.ensures.solved in
    let value = value_there g.P.L.Lattice.algebra values in
    on-ok c.dump.result c.dump.ensures.text (λ text. (
      dump_of values.graph (λ n d. g.P.L.Lattice.shown (value n d)),
      text,
      record {
        graph = values.graph;
        spelled = is.spelled;
        roots = values.roots;
        named = is.named;
        all = is.all;
        best = record { value = value; best = is.best; lines = refl };
      },
    ))

pub returns-clause-refused : goal.returns-clause-refused
returns-clause-refused g c =
    IfErr-weaker c.dump.result _ _ (λ refused is. subst (IsSharedRefusal c.args.workers c.args.text.now (map (λ name. name.now) c.args.roots.now)) (sym is)
    (not_solved c.in_ok-values.ensures.workers memory)) c.dump.ensures.refused

-- The frame of a lawful analysis over a supergraph that is given as lists is lawful, so the theorems
-- hold of it.
use Rattle.std.proofs.Common.{◌≤◌, sym, subst}
use Rattle.ide_lattice.specs.Algebra.{LatticeAlgebra, EdgeAlgebra}
use Rattle.ide_lattice.specs.Laws.{IsLattice, IsEdgeAlgebra}
use Rattle.ide_problem.specs.Flow.{Targets, IsFlow, AreTargets}
use Rattle.ide_theory.specs.Frame.{IsLawfulFrame}
use Rattle.ide_theory.specs.Given.{Edges, IsGraph, frame_of, roots_of}
use Rattle.ide_theory.specs.Theorem.{ValuesAreBest, RunsAreBest, BestIsUnique, TopIsBest, PartsAreOwed, PartsInRangeAreOwed, RunsAreSound, RunsGoOn, StartsAreSeeded, ClaimsArePaid, LoweringsAreFew}
use Rattle.ide_theory.proofs.Laws.Effects.{best-unique, top-best}
use Rattle.ide_theory.proofs.Laws.Paid.{claims-paid}
use Rattle.ide_theory.proofs.Laws.Parts.{parts-are}
use Rattle.ide_theory.proofs.Laws.Ranged.{run-parts}
use Rattle.ide_theory.proofs.Laws.Ranks.{lowerings-few}
use Rattle.ide_theory.proofs.Laws.Reached.{run-reached, runs-go-on}
use Rattle.ide_theory.proofs.Laws.Runs.{quiet-best, run-best}
use Rattle.ide_theory.proofs.Laws.Seeded.{start-seeded}

module _ {L F : Type 0} (lattice : LatticeAlgebra L) (functions : EdgeAlgebra F L) (targets : Targets F)
    (lattice_laws : IsLattice lattice) (function_laws : IsEdgeAlgebra lattice functions) (flow : IsFlow functions targets) where
  pub lawful-frame : (G : Edges) → IsGraph G → IsLawfulFrame (frame_of lattice functions targets G)
  lawful-frame G graph = record {
    lattice = lattice_laws;
    functions = function_laws;
    in_order = λ e k. subst (λ n. AreTargets functions.proper 0 n (targets e.edge k)) e.counted (flow.in_order e.edge k e.lawful);
    none_outside = λ e k h. flow.none_outside e.edge k e.lawful (subst (λ n. n ≤ k) (sym e.counted) h);
    flat = graph.flat;
    back = graph.back;
    callee = λ e call. graph.callee e call.0 call.1;
    exit = graph.exit;
    one_site = graph.one_site;
    is_call = λ call ret matched. (ret, matched);
  }

  pub values-are-best : ValuesAreBest lattice functions targets
  values-are-best G graph roots entry given s inv quiet identities start started n d h =
      quiet-best (frame_of lattice functions targets G) (lawful-frame G graph) (roots_of (frame_of lattice functions targets G) roots entry) given
      s inv quiet identities start started n d h

  pub runs-are-best : RunsAreBest lattice functions targets
  runs-are-best G graph roots entry given s run quiet identities start started n d h =
      run-best (frame_of lattice functions targets G) (lawful-frame G graph) (roots_of (frame_of lattice functions targets G) roots entry) given
      run quiet identities start started n d h

  pub best-is-unique : BestIsUnique lattice functions targets
  best-is-unique G graph roots entry given n d v w a b =
      best-unique (frame_of lattice functions targets G) (lawful-frame G graph) (roots_of (frame_of lattice functions targets G) roots entry) n d v w a b

  pub top-is-best : TopIsBest lattice functions targets
  top-is-best G graph roots entry given n d none =
      top-best (frame_of lattice functions targets G) (lawful-frame G graph) (roots_of (frame_of lattice functions targets G) roots entry) n d none

  pub parts-are-owed : PartsAreOwed lattice functions targets
  parts-are-owed G graph at edges s run q = run-parts (frame_of lattice functions targets G) (lawful-frame G graph) run at edges q

  pub parts-in-range-are-owed : PartsInRangeAreOwed lattice functions targets
  parts-in-range-are-owed G graph at edges get ranged q =
      parts-are (frame_of lattice functions targets G) (lawful-frame G graph) get at edges ranged q

  pub runs-are-sound : RunsAreSound lattice functions targets
  runs-are-sound G graph s run = run-reached (frame_of lattice functions targets G) (lawful-frame G graph) run

  pub runs-go-on-over : RunsGoOn lattice functions targets
  runs-go-on-over G graph = runs-go-on (frame_of lattice functions targets G) (lawful-frame G graph)

  pub starts-are-seeded : StartsAreSeeded lattice functions targets
  starts-are-seeded G graph s run n a b f same = start-seeded (frame_of lattice functions targets G) (lawful-frame G graph) run n a b f same

  pub claims-are-paid : ClaimsArePaid lattice functions targets
  claims-are-paid G graph = claims-paid (frame_of lattice functions targets G) (lawful-frame G graph)

  pub lowerings-are-few : LoweringsAreFew lattice functions targets
  lowerings-are-few G graph = lowerings-few (frame_of lattice functions targets G) (lawful-frame G graph)

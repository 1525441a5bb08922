use Rattle.std.proofs.Common.{◌≡◌, Some, ap, rules}
use Rattle.std.specs.Arc.{arc_value}
use Rattle.std.specs.Option.{option_map}
use Rattle.std.specs.declared.sync.Arc.{Arc}
use Rattle.ide_steps.specs.ProgramText.{said_by}
use Rattle.ide_steps.specs.Room.{IsGraphSaid}
use Rattle.ide_steps.specs.declared.loaded.Loaded.{Loaded}
use Rattle.ide_steps.proofs.States.{said-by, said-of}
use Rattle.ide_steps.proofs.laws.cores_are_whole.Goals as goal

pub returns-in-Some : goal.returns-in-Some
returns-in-Some g c =
    let Held = Loaded g.row.P.Denot g.row.P-L.Denot g.row.P-F.Denot in
    let stands : (x : Arc Held _) → c.core.inside.loaded ≡ Some x → IsGraphSaid (Some (said_by (arc_value x).program)) (arc_value x).graph =
    λ x is. said-by _ _ (c.core.invariant (arc_value x) (ap (option_map (arc_value {X = Held})) is)).0.graphed in
    record {
      distinct = search rules;
      sited = search rules;
      said = rw (← c.core.view_is) (said-of (λ x. said_by (arc_value {X = Held} x).program) (λ x. (arc_value {X = Held} x).graph) c.core.inside.loaded stands);
    }

-- The flow of origins is lawful, and keeps what a statement does not name.
use Rattle.std.specs.Prelude.{◌≡◌, ℕ, true, ◌||◌, false, nat_eq}
use Rattle.std.proofs.Common.{refl}
use Rattle.ide_graph.specs.Alone.{is_unnamed}
use Rattle.ide_graph.specs.declared.edge.EdgeKind.{EdgeKind}
use Rattle.ide_graph.specs.declared.edge.EdgeKind.TheVariants.{Normal, Call, Return, CallToReturn}
use Rattle.ide_graph.specs.declared.edge.Effect.{Effect}
use Rattle.ide_graph.specs.declared.edge.Effect.TheVariants.{Nothing, Number, Copy, Sum, Difference, Unknown, Mix, Enter}
use Rattle.ide_problem.specs.Flow.{IsFlow, KeepsUnnamed}
use Rattle.ide_problem.specs.SharedLaws.{IsReceived, shared_flow}
use Rattle.ide_problem.specs.UnnamedLaws.{neither, not-given, not-source, shared_keeps, unnamed-parts}
use Rattle.ide_example.specs.Carry.{carries}
use Rattle.ide_example.specs.CarryLaws.{carries_are_edge_functions}
use Rattle.ide_example.specs.Inputs.{inputs_targets, received_on, received_over}
use Rattle.ide_example.specs.Origin.{origins}
use Rattle.ide_example.specs.declared.carry.Carry.{Carry}
use Rattle.ide_example.specs.declared.carry.Carry.TheVariants as carry
use Rattle.std.specs.Prelude.{Option, Some, None}

-- every function over origins is proper
any-received : (received : Option Carry) → IsReceived carries.proper received
any-received None = tt
any-received (Some f) = refl

pub inputs_flow : IsFlow carries inputs_targets
inputs_flow = shared_flow origins carries carries_are_edge_functions (λ edge fact. received_on edge.kind fact) carry.Nothing
    (λ edge fact lawful. any-received (received_on edge.kind fact)) refl

-- from what a statement does not name the assigned fact receives nothing
over_nothing : (effect : Effect) (fact : ℕ) → is_unnamed (Normal effect) fact ≡ true → received_over effect fact ≡ None
over_nothing Nothing fact h = refl
over_nothing (Number target number) fact h = refl
over_nothing (Copy target source) fact h = not-given (nat_eq fact source) carry.Origin (not-source target source fact (unnamed-parts (Copy target source) fact h).1)
over_nothing (Sum target source number) fact h =
    not-given (nat_eq fact source) carry.Origin (not-source target source fact (unnamed-parts (Sum target source number) fact h).1)
over_nothing (Difference target source number) fact h =
    not-given (nat_eq fact source) carry.Origin (not-source target source fact (unnamed-parts (Difference target source number) fact h).1)
over_nothing (Unknown target) fact h = not-given (nat_eq fact 0) carry.Origin (unnamed-parts (Unknown target) fact h).0
over_nothing (Mix target first second) fact h =
    let parts = neither (nat_eq fact target || nat_eq fact first) (nat_eq fact second) (unnamed-parts (Mix target first second) fact h).1 in
    let first_not = (neither (nat_eq fact target) (nat_eq fact first) parts.0).1 in
    not-given (nat_eq fact first || nat_eq fact second) carry.Origin (rw first_not parts.1)
over_nothing (Enter first end) fact h = refl

on_nothing : (kind : EdgeKind) (fact : ℕ) → is_unnamed kind fact ≡ true → received_on kind fact ≡ None
on_nothing (Normal effect) fact h = over_nothing effect fact h
on_nothing (Call pairs) fact h = refl
on_nothing (Return target) fact h = refl
on_nothing (CallToReturn target) fact h = refl

pub inputs_keep : KeepsUnnamed carry.Origin inputs_targets
inputs_keep = shared_keeps carry.Origin carry.Nothing received_on on_nothing

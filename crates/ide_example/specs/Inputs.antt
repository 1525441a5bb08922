-- How the origin of values flows over edges.
use Rattle.std.specs.Prelude.{ℕ, ◌||◌, Option, None, nat_eq}
use Rattle.std.specs.Bool.{then_some}
use Rattle.ide_graph.specs.declared.edge.EdgeKind.{EdgeKind}
use Rattle.ide_graph.specs.declared.edge.EdgeKind.TheVariants.{Normal, Call, Return, CallToReturn}
use Rattle.ide_graph.specs.declared.edge.Effect.{Effect}
use Rattle.ide_graph.specs.declared.edge.Effect.TheVariants.{Nothing, Number, Copy, Sum, Difference, Unknown, Mix, Enter}
use Rattle.ide_problem.specs.Flow.{Targets}
use Rattle.ide_problem.specs.Shared.{edge_targets}
use Rattle.ide_example.specs.declared.carry.Carry.{Carry}
use Rattle.ide_example.specs.declared.carry.Carry.TheVariants as carry

-- what the variable that a statement assigns receives from a fact: an input from `@zero`, and else
-- from each variable that is read
abbrev pub received_over : Effect → ℕ → Option Carry
received_over Nothing fact = None
received_over (Number target number) fact = None
received_over (Copy target source) fact = then_some (nat_eq fact source) carry.Origin
received_over (Sum target source number) fact = then_some (nat_eq fact source) carry.Origin
received_over (Difference target source number) fact = then_some (nat_eq fact source) carry.Origin
received_over (Unknown target) fact = then_some (nat_eq fact 0) carry.Origin
received_over (Mix target first second) fact = then_some (nat_eq fact first || nat_eq fact second) carry.Origin
received_over (Enter first end) fact = None

-- nothing is assigned on an edge of a call
abbrev pub received_on : EdgeKind → ℕ → Option Carry
received_on (Normal effect) fact = received_over effect fact
received_on (Call pairs) fact = None
received_on (Return assigned) fact = None
received_on (CallToReturn assigned) fact = None

-- the flow: out of a start no local holds what came from an input
abbrev pub inputs_targets : Targets Carry
inputs_targets edge fact = edge_targets carry.Origin (received_on edge.kind fact) carry.Nothing edge fact

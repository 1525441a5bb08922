-- What the fact that a statement assigns receives from a fact before it, for each analysis.
use Rattle.std.specs.Prelude.{ℕ, ◌||◌, Option, None, nat_eq}
use Rattle.std.specs.Bool.{then_some}
use Rattle.ide_graph.specs.declared.edge.EdgeKind.{EdgeKind}
use Rattle.ide_graph.specs.declared.edge.EdgeKind.TheVariants.{Normal, Call, Return, CallToReturn}
use Rattle.ide_graph.specs.declared.edge.Effect.{Effect}
use Rattle.ide_graph.specs.declared.edge.Effect.TheVariants.{Nothing, Number, Copy, Sum, Difference, Unknown, Mix, Enter}
use Rattle.ide_problem.specs.Flow.{Targets}
use Rattle.ide_problem.specs.Shared.{edge_targets}
use Rattle.ide_instances.specs.Modular.{negated_of}
use Rattle.ide_instances.specs.declared.const_fn.ConstFn.{ConstFn}
use Rattle.ide_instances.specs.declared.const_fn.ConstFn.TheVariants.{Shift, Const, Bottom}
use Rattle.ide_instances.specs.declared.uninit_fn.UninitFn.{UninitFn}
use Rattle.ide_instances.specs.declared.uninit_fn.UninitFn.TheVariants.{Id}

-- by an edge, where a statement gives so much
abbrev pub received_by : {F : Type 0} → (Effect → ℕ → Option F) → EdgeKind → ℕ → Option F
received_by by_effect (Normal effect) fact = by_effect effect fact
received_by by_effect (Call pairs) fact = None
received_by by_effect (Return assigned) fact = None
received_by by_effect (CallToReturn assigned) fact = None

-- copy constants: a number, or a copied variable; anything else is unknown
abbrev pub copy_received : Effect → ℕ → Option ConstFn
copy_received Nothing fact = None
copy_received (Number target number) fact = then_some (nat_eq fact 0) (Const number)
copy_received (Copy target source) fact = then_some (nat_eq fact source) (Shift 0)
copy_received (Sum target source number) fact = then_some (nat_eq fact 0) Bottom
copy_received (Difference target source number) fact = then_some (nat_eq fact 0) Bottom
copy_received (Unknown target) fact = then_some (nat_eq fact 0) Bottom
copy_received (Mix target first second) fact = then_some (nat_eq fact 0) Bottom
copy_received (Enter first end) fact = None

-- constants of factor 1: a sum or a difference with a number shifts the variable too
abbrev pub shift_received : Effect → ℕ → Option ConstFn
shift_received Nothing fact = None
shift_received (Number target number) fact = then_some (nat_eq fact 0) (Const number)
shift_received (Copy target source) fact = then_some (nat_eq fact source) (Shift 0)
shift_received (Sum target source number) fact = then_some (nat_eq fact source) (Shift number)
shift_received (Difference target source number) fact = then_some (nat_eq fact source) (Shift (negated_of number))
shift_received (Unknown target) fact = then_some (nat_eq fact 0) Bottom
shift_received (Mix target first second) fact = then_some (nat_eq fact 0) Bottom
shift_received (Enter first end) fact = None

-- uninitialised variables: a variable that is read hands on whether it may be uninitialised
abbrev pub uninit_received : Effect → ℕ → Option UninitFn
uninit_received Nothing fact = None
uninit_received (Number target number) fact = None
uninit_received (Copy target source) fact = then_some (nat_eq fact source) Id
uninit_received (Sum target source number) fact = then_some (nat_eq fact source) Id
uninit_received (Difference target source number) fact = then_some (nat_eq fact source) Id
uninit_received (Unknown target) fact = None
uninit_received (Mix target first second) fact = then_some (nat_eq fact first || nat_eq fact second) Id
uninit_received (Enter first end) fact = None

-- the flow of each: out of a start, `@result` and the locals are unknown, or uninitialised
abbrev pub copy_targets : Targets ConstFn
copy_targets edge fact = edge_targets (Shift 0) (received_by copy_received edge.kind fact) Bottom edge fact

abbrev pub shift_targets : Targets ConstFn
shift_targets edge fact = edge_targets (Shift 0) (received_by shift_received edge.kind fact) Bottom edge fact

abbrev pub uninit_targets : Targets UninitFn
uninit_targets edge fact = edge_targets Id (received_by uninit_received edge.kind fact) Id edge fact

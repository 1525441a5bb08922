-- The flows of the analyses are lawful: what is received is proper.
use Rattle.std.specs.Prelude.{ℕ, ◌<◌, ◌^◌, Bool, true, false, ◌||◌, Option, IsTrue, nat_eq}
use Rattle.std.specs.Bool.{then_some}
use Rattle.std.proofs.Common.{refl, arith}
use Rattle.std.proofs.lemmas.Bool.Decides.{nat_tests}
use Rattle.ide_graph.specs.declared.edge.EdgeKind.{EdgeKind}
use Rattle.ide_graph.specs.declared.edge.EdgeKind.TheVariants.{Normal, Call, Return, CallToReturn}
use Rattle.ide_graph.specs.declared.edge.Effect.{Effect}
use Rattle.ide_graph.specs.declared.edge.Effect.TheVariants.{Nothing, Number, Copy, Sum, Difference, Unknown, Mix, Enter}
use Rattle.ide_graph.specs.Lawful.{IsEffect, IsKind}
use Rattle.ide_wire.specs.Numbers.{fits}
use Rattle.ide_problem.specs.Flow.{IsFlow}
use Rattle.ide_problem.specs.SharedLaws.{IsReceived, shared_flow}
use Rattle.ide_instances.specs.Modular.{negated_of, negated-fits}
use Rattle.ide_instances.specs.Received.{received_by, copy_received, shift_received, uninit_received, copy_targets, shift_targets, uninit_targets}
use Rattle.ide_instances.specs.ConstValue.{const_algebra}
use Rattle.ide_instances.specs.ConstFn.{const_edge, is_proper_fn}
use Rattle.ide_instances.specs.ConstFnLaws.{const_functions}
use Rattle.ide_instances.specs.UninitValue.{uninit_algebra}
use Rattle.ide_instances.specs.UninitFn.{uninit_edge}
use Rattle.ide_instances.specs.UninitLaws.{uninit_functions}
use Rattle.ide_instances.specs.declared.const_fn.ConstFn.TheVariants.{Shift, Const, Bottom}
use Rattle.ide_instances.specs.declared.uninit_fn.UninitFn.TheVariants.{Id}

-- a function that is received where a test holds
pub given : {F : Type 0} (proper : F → Bool) (test : Bool) (function : F) → IsTrue (proper function) → IsReceived proper (then_some test function)
given proper true function p = p
given proper false function p = tt

-- a statement gives what is proper, so does an edge
pub by_edge : {F : Type 0} (proper : F → Bool) (by_effect : Effect → ℕ → Option F) (result facts fact : ℕ)
    → ((effect : Effect) → IsEffect result facts effect → IsReceived proper (by_effect effect fact))
    → (kind : EdgeKind) → IsKind result facts kind → IsReceived proper (received_by by_effect kind fact)
by_edge proper by_effect result facts fact gives (Normal effect) lawful = gives effect lawful
by_edge proper by_effect result facts fact gives (Call pairs) lawful = tt
by_edge proper by_effect result facts fact gives (Return assigned) lawful = tt
by_edge proper by_effect result facts fact gives (CallToReturn assigned) lawful = tt

pub fits_64 : (n : ℕ) → n < 2 ^ 64 → IsTrue (fits 64 n)
fits_64 n h = grind (arith, nat_tests)

pub copy_proper : (result facts fact : ℕ) (effect : Effect) → IsEffect result facts effect → IsReceived is_proper_fn (copy_received effect fact)
copy_proper result facts fact Nothing lawful = tt
copy_proper result facts fact (Number target number) lawful = given is_proper_fn (nat_eq fact 0) (Const number) (fits_64 number lawful.1)
copy_proper result facts fact (Copy target source) lawful = given is_proper_fn (nat_eq fact source) (Shift 0) refl
copy_proper result facts fact (Sum target source number) lawful = given is_proper_fn (nat_eq fact 0) Bottom refl
copy_proper result facts fact (Difference target source number) lawful = given is_proper_fn (nat_eq fact 0) Bottom refl
copy_proper result facts fact (Unknown target) lawful = given is_proper_fn (nat_eq fact 0) Bottom refl
copy_proper result facts fact (Mix target first second) lawful = given is_proper_fn (nat_eq fact 0) Bottom refl
copy_proper result facts fact (Enter first end) lawful = tt

pub shift_proper : (result facts fact : ℕ) (effect : Effect) → IsEffect result facts effect → IsReceived is_proper_fn (shift_received effect fact)
shift_proper result facts fact Nothing lawful = tt
shift_proper result facts fact (Number target number) lawful = given is_proper_fn (nat_eq fact 0) (Const number) (fits_64 number lawful.1)
shift_proper result facts fact (Copy target source) lawful = given is_proper_fn (nat_eq fact source) (Shift 0) refl
shift_proper result facts fact (Sum target source number) lawful = given is_proper_fn (nat_eq fact source) (Shift number) (fits_64 number lawful.2)
shift_proper result facts fact (Difference target source number) lawful =
    given is_proper_fn (nat_eq fact source) (Shift (negated_of number)) (fits_64 (negated_of number) (negated-fits number))
shift_proper result facts fact (Unknown target) lawful = given is_proper_fn (nat_eq fact 0) Bottom refl
shift_proper result facts fact (Mix target first second) lawful = given is_proper_fn (nat_eq fact 0) Bottom refl
shift_proper result facts fact (Enter first end) lawful = tt

pub uninit_proper : (result facts fact : ℕ) (effect : Effect) → IsEffect result facts effect → IsReceived uninit_edge.proper (uninit_received effect fact)
uninit_proper result facts fact Nothing lawful = tt
uninit_proper result facts fact (Number target number) lawful = tt
uninit_proper result facts fact (Copy target source) lawful = given uninit_edge.proper (nat_eq fact source) Id refl
uninit_proper result facts fact (Sum target source number) lawful = given uninit_edge.proper (nat_eq fact source) Id refl
uninit_proper result facts fact (Difference target source number) lawful = given uninit_edge.proper (nat_eq fact source) Id refl
uninit_proper result facts fact (Unknown target) lawful = tt
uninit_proper result facts fact (Mix target first second) lawful = given uninit_edge.proper (nat_eq fact first || nat_eq fact second) Id refl
uninit_proper result facts fact (Enter first end) lawful = tt

pub copy_flow : IsFlow const_edge copy_targets
copy_flow = shared_flow const_algebra const_edge const_functions (λ edge fact. received_by copy_received edge.kind fact) Bottom
    (λ edge fact lawful. by_edge is_proper_fn copy_received edge.result edge.facts fact (copy_proper edge.result edge.facts fact) edge.kind lawful.kind) refl

pub shift_flow : IsFlow const_edge shift_targets
shift_flow = shared_flow const_algebra const_edge const_functions (λ edge fact. received_by shift_received edge.kind fact) Bottom
    (λ edge fact lawful. by_edge is_proper_fn shift_received edge.result edge.facts fact (shift_proper edge.result edge.facts fact) edge.kind lawful.kind) refl

pub uninit_flow : IsFlow uninit_edge uninit_targets
uninit_flow = shared_flow uninit_algebra uninit_edge uninit_functions (λ edge fact. received_by uninit_received edge.kind fact) Id
    (λ edge fact lawful. by_edge uninit_edge.proper uninit_received edge.result edge.facts fact (uninit_proper edge.result edge.facts fact) edge.kind lawful.kind) refl

-- The flow of each analysis keeps what a statement does not name: from that the assigned fact receives nothing.
use Rattle.std.specs.Prelude.{◌≡◌, ℕ, true, false, ◌||◌, Option, None, nat_eq}
use Rattle.std.proofs.Common.{refl}
use Rattle.ide_graph.specs.Alone.{is_unnamed}
use Rattle.ide_graph.specs.declared.edge.EdgeKind.{EdgeKind}
use Rattle.ide_graph.specs.declared.edge.EdgeKind.TheVariants.{Normal, Call, Return, CallToReturn}
use Rattle.ide_graph.specs.declared.edge.Effect.{Effect}
use Rattle.ide_graph.specs.declared.edge.Effect.TheVariants.{Nothing, Number, Copy, Sum, Difference, Unknown, Mix, Enter}
use Rattle.ide_problem.specs.Flow.{KeepsUnnamed}
use Rattle.ide_problem.specs.UnnamedLaws.{neither, not-given, not-source, shared_keeps, unnamed-parts}
use Rattle.ide_instances.specs.Modular.{negated_of}
use Rattle.ide_instances.specs.Received.{received_by, copy_received, shift_received, uninit_received, copy_targets, shift_targets, uninit_targets}
use Rattle.ide_instances.specs.declared.const_fn.ConstFn.TheVariants.{Shift, Const, Bottom}
use Rattle.ide_instances.specs.declared.uninit_fn.UninitFn.TheVariants.{Id}

-- nothing is received over an edge from what its statement does not name, where no statement gives anything
by_kind : {F : Type 0} (by_effect : Effect → ℕ → Option F)
    → ((effect : Effect) (fact : ℕ) → is_unnamed (Normal effect) fact ≡ true → by_effect effect fact ≡ None)
    → (kind : EdgeKind) (fact : ℕ) → is_unnamed kind fact ≡ true → received_by by_effect kind fact ≡ None
by_kind by_effect nothing (Normal effect) fact h = nothing effect fact h
by_kind by_effect nothing (Call pairs) fact h = refl
by_kind by_effect nothing (Return assigned) fact h = refl
by_kind by_effect nothing (CallToReturn assigned) fact h = refl

copy_nothing : (effect : Effect) (fact : ℕ) → is_unnamed (Normal effect) fact ≡ true → copy_received effect fact ≡ None
copy_nothing Nothing fact h = refl
copy_nothing (Number target number) fact h = not-given (nat_eq fact 0) (Const number) (unnamed-parts (Number target number) fact h).0
copy_nothing (Copy target source) fact h = not-given (nat_eq fact source) (Shift 0) (not-source target source fact (unnamed-parts (Copy target source) fact h).1)
copy_nothing (Sum target source number) fact h = not-given (nat_eq fact 0) Bottom (unnamed-parts (Sum target source number) fact h).0
copy_nothing (Difference target source number) fact h = not-given (nat_eq fact 0) Bottom (unnamed-parts (Difference target source number) fact h).0
copy_nothing (Unknown target) fact h = not-given (nat_eq fact 0) Bottom (unnamed-parts (Unknown target) fact h).0
copy_nothing (Mix target first second) fact h = not-given (nat_eq fact 0) Bottom (unnamed-parts (Mix target first second) fact h).0
copy_nothing (Enter first end) fact h = refl

shift_nothing : (effect : Effect) (fact : ℕ) → is_unnamed (Normal effect) fact ≡ true → shift_received effect fact ≡ None
shift_nothing Nothing fact h = refl
shift_nothing (Number target number) fact h = not-given (nat_eq fact 0) (Const number) (unnamed-parts (Number target number) fact h).0
shift_nothing (Copy target source) fact h = not-given (nat_eq fact source) (Shift 0) (not-source target source fact (unnamed-parts (Copy target source) fact h).1)
shift_nothing (Sum target source number) fact h =
    not-given (nat_eq fact source) (Shift number) (not-source target source fact (unnamed-parts (Sum target source number) fact h).1)
shift_nothing (Difference target source number) fact h =
    not-given (nat_eq fact source) (Shift (negated_of number)) (not-source target source fact (unnamed-parts (Difference target source number) fact h).1)
shift_nothing (Unknown target) fact h = not-given (nat_eq fact 0) Bottom (unnamed-parts (Unknown target) fact h).0
shift_nothing (Mix target first second) fact h = not-given (nat_eq fact 0) Bottom (unnamed-parts (Mix target first second) fact h).0
shift_nothing (Enter first end) fact h = refl

uninit_nothing : (effect : Effect) (fact : ℕ) → is_unnamed (Normal effect) fact ≡ true → uninit_received effect fact ≡ None
uninit_nothing Nothing fact h = refl
uninit_nothing (Number target number) fact h = refl
uninit_nothing (Copy target source) fact h = not-given (nat_eq fact source) Id (not-source target source fact (unnamed-parts (Copy target source) fact h).1)
uninit_nothing (Sum target source number) fact h = not-given (nat_eq fact source) Id (not-source target source fact (unnamed-parts (Sum target source number) fact h).1)
uninit_nothing (Difference target source number) fact h =
    not-given (nat_eq fact source) Id (not-source target source fact (unnamed-parts (Difference target source number) fact h).1)
uninit_nothing (Unknown target) fact h = refl
uninit_nothing (Mix target first second) fact h =
    let parts = neither (nat_eq fact target || nat_eq fact first) (nat_eq fact second) (unnamed-parts (Mix target first second) fact h).1 in
    let first_not = (neither (nat_eq fact target) (nat_eq fact first) parts.0).1 in
    not-given (nat_eq fact first || nat_eq fact second) Id (rw first_not parts.1)
uninit_nothing (Enter first end) fact h = refl

pub copy_keeps : KeepsUnnamed (Shift 0) copy_targets
copy_keeps = shared_keeps (Shift 0) Bottom (received_by copy_received) (by_kind copy_received copy_nothing)

pub shift_keeps : KeepsUnnamed (Shift 0) shift_targets
shift_keeps = shared_keeps (Shift 0) Bottom (received_by shift_received) (by_kind shift_received shift_nothing)

pub uninit_keeps : KeepsUnnamed Id uninit_targets
uninit_keeps = shared_keeps Id Id (received_by uninit_received) (by_kind uninit_received uninit_nothing)

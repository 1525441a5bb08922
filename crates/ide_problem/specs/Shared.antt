-- The flow that analyses of assignments share: all of it but what an assigned fact receives.
use Rattle.std.specs.Prelude.{◌≡◌, ℕ, ◌-◌, Bool, true, false, not, ◌&&◌, ◌||◌, List, [], ◌∷◌, ◌++◌, Option, Some, None, cond, nat_eq, nat_lt, nat_le, map}
use Rattle.std.specs.List.{flat_map, range_with_len}
use Rattle.ide_problem.specs.Flow.{IsPassed}
use Rattle.ide_graph.specs.declared.edge.EdgeData.{EdgeData}
use Rattle.ide_graph.specs.declared.edge.EdgeKind.{EdgeKind}
use Rattle.ide_graph.specs.declared.edge.EdgeKind.TheVariants.{Normal, Call, Return, CallToReturn}
use Rattle.ide_graph.specs.declared.edge.Effect.{Effect}
use Rattle.ide_graph.specs.declared.edge.Effect.TheVariants.{Nothing, Number, Copy, Sum, Difference, Unknown, Mix, Enter}

-- the fact to itself, where the test holds
abbrev pub kept : {F : Type 0} → F → Bool → ℕ → List (ℕ × F)
kept id test fact = cond test ((fact, id) ∷ []) []

-- the assigned fact by the function that it receives, where it receives one
abbrev pub received_at : {F : Type 0} → ℕ → Option F → List (ℕ × F)
received_at target None = []
received_at target (Some function) = (target, function) ∷ []

-- over an assignment: each other fact to itself, and the assigned one by what it receives
abbrev pub assigned_targets : {F : Type 0} → F → ℕ → Option F → ℕ → List (ℕ × F)
assigned_targets id target received fact =
    kept id (nat_lt fact target) fact ++ (received_at target received ++ kept id (nat_lt target fact) fact)

-- whether a fact gets what it holds at entry: `@result`, or a local from `first` to before `end`
abbrev pub is_entered : ℕ → ℕ → ℕ → ℕ → Bool
is_entered result first end fact = nat_eq fact result || (nat_le first fact && nat_lt fact end)

-- out of a start: `@zero` gives `@result` and each local what it holds at entry; every other fact
-- but these goes to itself
abbrev pub entered_targets : {F : Type 0} → F → F → ℕ → ℕ → ℕ → ℕ → List (ℕ × F)
entered_targets id at_entry result first end fact =
    cond (nat_eq fact 0)
    ((0, id) ∷ (result, at_entry) ∷ map (λ local. (local, at_entry)) (range_with_len first (end - first)))
    (kept id (not (is_entered result first end fact)) fact)

-- over a call: `@zero` and the globals to themselves, and each argument to its parameter
abbrev pub call_targets : {F : Type 0} → F → ℕ → List (ℕ × ℕ) → ℕ → List (ℕ × F)
call_targets id result pairs fact =
    kept id (nat_lt fact result) fact ++ flat_map (λ pair. kept id (nat_eq pair.0 fact) pair.1) pairs

-- whether the fact is the assigned one
abbrev pub is_assigned : Option ℕ → ℕ → Bool
is_assigned None fact = false
is_assigned (Some target) fact = nat_eq target fact

-- over a return: `@zero` and the globals but the assigned fact to themselves, and `@result` to it
abbrev pub return_targets : {F : Type 0} → F → ℕ → Option ℕ → ℕ → List (ℕ × F)
return_targets id result None fact = kept id (nat_lt fact result) fact
return_targets id result (Some target) fact =
    cond (nat_eq fact result) ((target, id) ∷ []) (kept id (nat_lt fact result && not (nat_eq target fact)) fact)

-- along a call: `@zero`, and each fact past the globals but the assigned one, to themselves
abbrev pub along_targets : {F : Type 0} → F → ℕ → Option ℕ → ℕ → List (ℕ × F)
along_targets id result assigned fact =
    kept id (nat_eq fact 0 || (nat_le result fact && not (is_assigned assigned fact))) fact

-- by one statement
abbrev pub effect_targets : {F : Type 0} → F → Option F → F → ℕ → Effect → ℕ → List (ℕ × F)
effect_targets id received at_entry result Nothing fact = (fact, id) ∷ []
effect_targets id received at_entry result (Number target number) fact = assigned_targets id target received fact
effect_targets id received at_entry result (Copy target source) fact = assigned_targets id target received fact
effect_targets id received at_entry result (Sum target source number) fact = assigned_targets id target received fact
effect_targets id received at_entry result (Difference target source number) fact = assigned_targets id target received fact
effect_targets id received at_entry result (Unknown target) fact = assigned_targets id target received fact
effect_targets id received at_entry result (Mix target first second) fact = assigned_targets id target received fact
effect_targets id received at_entry result (Enter first end) fact = entered_targets id at_entry result first end fact

-- over an edge of each kind
abbrev pub kind_targets : {F : Type 0} → F → Option F → F → ℕ → EdgeKind → ℕ → List (ℕ × F)
kind_targets id received at_entry result (Normal effect) fact = effect_targets id received at_entry result effect fact
kind_targets id received at_entry result (Call pairs) fact = call_targets id result pairs fact
kind_targets id received at_entry result (Return assigned) fact = return_targets id result assigned fact
kind_targets id received at_entry result (CallToReturn assigned) fact = along_targets id result assigned fact

-- the targets of a fact over an edge, where the fact that the edge assigns receives `received` from
-- it, and what is entered gets `at_entry` from `@zero`; a fact out of range has none
abbrev pub edge_targets : {F : Type 0} → F → Option F → F → EdgeData → ℕ → List (ℕ × F)
edge_targets id received at_entry edge fact =
    cond (nat_lt fact edge.facts) (kind_targets id received at_entry edge.result edge.kind fact) []

-- whether a statement passes a fact on, from which the assigned one receives nothing
abbrev pub passes_effect : ℕ → Effect → ℕ → Bool
passes_effect result Nothing fact = true
passes_effect result (Number target number) fact = not (nat_eq fact target)
passes_effect result (Copy target source) fact = not (nat_eq fact target)
passes_effect result (Sum target source number) fact = not (nat_eq fact target)
passes_effect result (Difference target source number) fact = not (nat_eq fact target)
passes_effect result (Unknown target) fact = not (nat_eq fact target)
passes_effect result (Mix target first second) fact = not (nat_eq fact target)
passes_effect result (Enter first end) fact = not (nat_eq fact 0) && not (is_entered result first end fact)

-- the edge passes the fact on unchanged, whatever is entered
abbrev pub PassesOn : {F : Type 0} → F → Option F → EdgeData → ℕ → Type 0
PassesOn {F} id received edge fact = (at_entry : F) → IsPassed id (edge_targets id received at_entry edge fact) fact

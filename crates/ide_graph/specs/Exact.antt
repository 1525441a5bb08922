-- For which program, procedure, node or name the clauses on exact edges speak.
use Rattle.std.specs.Prelude.{ℕ, ◌+◌, ◌≡◌, ◌⊎◌, ◌<◌, List, Option, Result, Some, OnOk, slice_get}
use Rattle.std.specs.Global.{Vec}
use Rattle.ide_text.specs.declared.program.Procedure.{Procedure}
use Rattle.ide_text.specs.declared.program.Program.{Program}
use Rattle.ide_text.specs.declared.program.Statement.{Statement}
use Rattle.ide_text.specs.Program.{procedures_of}
use Rattle.ide_graph.specs.Building.{AllCallersBefore, AllCallersFrom, HasNormal, IsBuilderOf, IsCallOf, IsScopeOf, node_count}
use Rattle.ide_graph.specs.declared.builder.Builder.{Builder}
use Rattle.ide_graph.specs.declared.call.Call.{Call}
use Rattle.ide_graph.specs.declared.edge.EdgeData.{EdgeData}
use Rattle.ide_graph.specs.declared.edge.EdgeKind.TheVariants as kind
use Rattle.ide_graph.specs.declared.edge.Effect.{Effect}
use Rattle.ide_graph.specs.declared.edge.Effect.TheVariants.{Nothing}
use Rattle.ide_graph.specs.declared.numbering.Spot.{Spot as Node}
use Rattle.ide_graph.specs.declared.scope.Scope.{Scope}
use Rattle.ide_graph.specs.declared.site.Caller.{Caller}
use Rattle.ide_graph.specs.declared.site.Site.{Site}
use Rattle.ide_graph.specs.Lists.{Lists}
use Rattle.ide_graph.specs.Numbering.{spot_value}
use Rattle.ide_graph.specs.Numbers.{label_from, start_of, statement}
use Rattle.ide_graph.specs.ProgramEdges.{CallAt, HasFact, IsCallee, Stands, edge_of}

-- P holds for the program whose builder it is
abbrev pub ForProgram : Builder → (Program → Type 0) → Type 0
ForProgram builder P = (p : Program) → IsBuilderOf p builder → P p

-- P holds for that program, where the node is one of it
abbrev pub ForNode : Builder → ℕ → (Program → Type 0) → Type 0
ForNode builder node P = (p : Program) → IsBuilderOf p builder → node < node_count builder → P p

-- P holds for that program and its procedure of that index
abbrev pub ForProcedure : Builder → ℕ → (Program → ℕ → Procedure → Type 0) → Type 0
ForProcedure builder index P = (p : Program) (q : Procedure) → IsBuilderOf p builder → slice_get (procedures_of p) index ≡ Some q → P p index q

-- P holds for that program, where the spot stands there at the node
abbrev pub ForSpot : Builder → ℕ → Node → (Program → Type 0) → Type 0
ForSpot builder node s P = (p : Program) (q : Procedure) → IsBuilderOf p builder → Stands p node s.procedure q (spot_value s.place) → P p

-- P holds for that program, where the statement stands at the node, in the procedure that the scope is of
abbrev pub ForStatement : Builder → Scope → ℕ → Statement → (Program → Type 0) → Type 0
ForStatement builder scope node s P =
    (p : Program) (index : ℕ) (q : Procedure) → IsBuilderOf p builder → IsScopeOf p index q scope → Stands p node index q (statement s) → P p

-- P holds for that program, where a call of these names stands at the node, in the procedure that the scope is of
abbrev pub ForCallAt : Builder → Scope → ℕ → Option (List ℕ) → List (List ℕ) → List (List ℕ) → (Program → Type 0) → Type 0
ForCallAt builder scope node target callees arguments P =
    (p : Program) → IsBuilderOf p builder → (at : CallAt p node) → IsScopeOf p at.index at.procedure scope
    → target ≡ at.target → callees ≡ at.callees.items → arguments ≡ at.arguments.items → P p

-- P holds for that program, where the call is one of it
abbrev pub ForCall : Builder → Call → (Program → Type 0) → Type 0
ForCall builder call P = (p : Program) → IsBuilderOf p builder → IsCallOf p call → P p

-- P holds for that program, where the call is one of it and may call the procedure of that index
abbrev pub ForCallee : Builder → Call → ℕ → (Program → Type 0) → Type 0
ForCallee builder call callee P = (p : Program) → IsBuilderOf p builder → (is : IsCallOf p call) → IsCallee p is.at.callees.items callee → P p

-- P holds for the program and the procedure that the scope is of
abbrev pub ForScope : Scope → (Program → Procedure → Type 0) → Type 0
ForScope scope P = (p : Program) (index : ℕ) (q : Procedure) → IsScopeOf p index q scope → P p q

-- P holds for that program and the fact of the name in that procedure
abbrev pub ForFact : Scope → List ℕ → (Program → ℕ → Type 0) → Type 0
ForFact scope name P = (p : Program) (index : ℕ) (q : Procedure) (fact : ℕ) → IsScopeOf p index q scope → HasFact p q name fact → P p fact

-- P holds for the node of the label in that procedure
abbrev pub ForLabel : Scope → List ℕ → (ℕ → Type 0) → Type 0
ForLabel scope name P =
    (p : Program) (index : ℕ) (q : Procedure) (node : ℕ) → IsScopeOf p index q scope
    → label_from (start_of (procedures_of p) index) q name ≡ Some node → P node

-- the procedures that the names call
abbrev pub AreCallees : Program → List (List ℕ) → Vec ℕ → Type 0
AreCallees p names callees = Lists (IsCallee p names) (λ callee. callee) callees.items

-- the site has the normal edge to the node with that effect, and no other
abbrev pub HasNormalTo : Program → ℕ → Effect → Site → Type 0
HasNormalTo p end effect = HasNormal (λ edge. edge ≡ edge_of p end (kind.Normal effect))

-- an edge of a branch: it leads to the next node, or to the label's
abbrev pub IsOfBranch : Program → ℕ → ℕ → EdgeData → Type 0
IsOfBranch p next label edge = (edge ≡ edge_of p next (kind.Normal Nothing)) ⊎ (edge ≡ edge_of p label (kind.Normal Nothing))

-- where the lists had the calls before the node n, they then have its call too
abbrev pub AddsCallers : {T E : Type 0} → Program → ℕ → Result T E → List (Vec Caller) → List (Vec Caller) → Type 0
AddsCallers p n result old new = AllCallersBefore p n old → OnOk result (AllCallersBefore p (n + 1) new)

-- the lists of exits after the node n stay whole
abbrev pub KeepsCallers : Program → ℕ → List (Vec Caller) → List (Vec Caller) → Type 0
KeepsCallers p n old new = AllCallersFrom p n old → AllCallersFrom p (n + 1) new

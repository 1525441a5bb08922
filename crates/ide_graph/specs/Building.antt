-- What the second pass over a program rests on.
use Rattle.std.specs.Prelude.{ℕ, ◌≡◌, ◌-◌, ◌<◌, ◌≤◌, ◌^◌, List, ◌++◌, Some, length, slice_get}
use Rattle.std.specs.Global.{Vec}
use Rattle.std.specs.List.{All, Contains}
use Rattle.ide_text.specs.declared.program.Procedure.{Procedure}
use Rattle.ide_text.specs.declared.program.Program.{Program}
use Rattle.ide_text.specs.Program.{globals_of, procedures_of}
use Rattle.ide_graph.specs.declared.builder.Builder.{Builder}
use Rattle.ide_graph.specs.declared.call.Call.{Call}
use Rattle.ide_graph.specs.declared.edge.EdgeData.{EdgeData}
use Rattle.ide_graph.specs.declared.layout.Layout.{Layout}
use Rattle.ide_graph.specs.declared.scope.Scope.{Scope}
use Rattle.ide_graph.specs.declared.site.Caller.{Caller}
use Rattle.ide_graph.specs.declared.site.Site.{Site}
use Rattle.ide_graph.specs.declared.site.Site.TheVariants as site
use Rattle.ide_graph.specs.Edges.{AllCallersWithin}
use Rattle.ide_graph.specs.Lists.{Lists}
use Rattle.ide_graph.specs.Named.{procedure_of_name, fact_of_name}
use Rattle.ide_graph.specs.Numbered.{IsNumbered}
use Rattle.ide_text.specs.Places.{place_of}
use Rattle.ide_graph.specs.Numbering.{nodes_in}
use Rattle.ide_graph.specs.Numbers.{nodes_of, start_of, exit_of, label_from, procedure_of, fact_at, facts_of}
use Rattle.ide_graph.specs.ProgramEdges.{CallAt, HasFact, IsCallee, IsCallerOf, IsTargetFact}

-- how many nodes the program has
abbrev pub node_count : Builder → ℕ
node_count builder = length builder.numbering.now.spots.items

-- how many procedures the program has
abbrev pub procedure_count : Builder → ℕ
procedure_count builder = length builder.numbering.now.layouts.items

-- there is a list of callers for each procedure, all of them within the program
pub record ListsCallers (builder : Builder) (callers : List (Vec Caller)) : Type 0 where
  pub whole : length callers ≡ procedure_count builder
  pub within : AllCallersWithin (node_count builder) callers

-- each is one of the program's procedures
abbrev pub AreProcedures : Builder → List ℕ → Type 0
AreProcedures builder procedures = All (λ procedure. procedure < procedure_count builder) procedures

-- the first pass went over the whole program
pub record IsReady (builder : Builder) : Type 0 where
  pub numbered : IsNumbered builder.numbering.now
  pub counted : builder.directory.now.count ≡ procedure_count builder
  pub last : builder.last ≡ node_count builder - 1

-- the layout and the labels are those of the procedure q of the program, the one of that index
pub record DescribeProcedure (p : Program) (index : ℕ) (q : Procedure) (layout : Layout) (labels : List (List ℕ × ℕ)) : Type 0 where
  pub start : layout.start ≡ start_of (procedures_of p) index
  pub exit : layout.exit ≡ exit_of (procedures_of p) index
  pub own : layout.own ≡ q.parameters.items ++ q.locals.items
  pub parameters : layout.parameter_count ≡ length q.parameters.items
  pub labelled : (name : List ℕ) → place_of labels name ≡ label_from (start_of (procedures_of p) index) q name

-- the names of the program find their facts as the globals and a procedure's own facts are looked up
abbrev pub FindsFacts : Program → Type 0
FindsFacts p = (index : ℕ) (q : Procedure) → slice_get (procedures_of p) index ≡ Some q → (name : List ℕ) → fact_of_name (globals_of p) (q.parameters.items ++ q.locals.items) name ≡ fact_at (globals_of p) q name

-- the first pass went over that program
pub record IsBuilderOf (p : Program) (builder : Builder) : Type 0 where
  pub ready : IsReady builder
  pub spots : nodes_in builder.numbering.now.spots.items ≡ nodes_of (procedures_of p)
  pub counted : procedure_count builder ≡ length (procedures_of p)
  pub layouts : (index : ℕ) (q : Procedure) (layout : Layout) (labels : List (List ℕ × ℕ)) → slice_get (procedures_of p) index ≡ Some q → slice_get builder.numbering.now.layouts.items index ≡ Some layout → slice_get builder.numbering.now.labels.items index ≡ Some labels → DescribeProcedure p index q layout labels
  pub directory : (name : List ℕ) → procedure_of_name builder.directory.now.procedures name ≡ procedure_of (procedures_of p) name
  pub globals : builder.globals.now.names ≡ globals_of p
  pub finds : FindsFacts p
  pub facts : builder.facts ≡ facts_of p
  pub few : facts_of p < 2 ^ 16

-- the scope is that of the procedure q of the program, the one of that index
pub record IsScopeOf (p : Program) (index : ℕ) (q : Procedure) (scope : Scope) : Type 0 where
  pub owner : slice_get (procedures_of p) index ≡ Some q
  pub layout : DescribeProcedure p index q scope.layout.now scope.labels.now
  pub globals : scope.globals.now.names ≡ globals_of p
  pub finds : FindsFacts p
  pub few : facts_of p < 2 ^ 16

-- each of the names has a fact at the nodes of q
abbrev pub AllHaveFacts : Program → Procedure → List (List ℕ) → Type 0
AllHaveFacts p q names = (name : List ℕ) → Contains names name → (fact : ℕ) × HasFact p q name fact

-- the site has exactly the normal edges of which P holds
abbrev pub HasNormal : (EdgeData → Type 0) → Site → Type 0
HasNormal P (site.Normal edges) = Lists P (λ edge. edge.end) edges
HasNormal P (site.Call calls along) = ⊥
HasNormal P (site.Exit begin callers) = ⊥

-- the call is that at its node, with its names looked up
pub record IsCallOf (p : Program) (call : Call) : Type 0 where
  pub at : CallAt p call.node
  pub scope : IsScopeOf p at.index at.procedure call.scope
  pub target : IsTargetFact p at.procedure at.target call.target
  pub callees : Lists (IsCallee p at.callees.items) (λ callee. callee) call.callees.items
  pub arguments : call.arguments.now ≡ at.arguments.items

-- each list has exactly the calls of its procedure from the nodes before n
abbrev pub AllCallersBefore : Program → ℕ → List (Vec Caller) → Type 0
AllCallersBefore p n lists = (index : ℕ) (callers : Vec Caller) → slice_get lists index ≡ Some callers → Lists (λ caller. IsCallerOf p index caller × (caller.call_node < n)) (λ caller. caller.call_node) callers.items

-- each list of a procedure whose exit is not before n has exactly the calls of the procedure
abbrev pub AllCallersFrom : Program → ℕ → List (Vec Caller) → Type 0
AllCallersFrom p n lists = (index : ℕ) (callers : Vec Caller) → slice_get lists index ≡ Some callers → n ≤ exit_of (procedures_of p) index → Lists (IsCallerOf p index) (λ caller. caller.call_node) callers.items

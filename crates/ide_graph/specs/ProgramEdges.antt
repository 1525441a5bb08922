-- The edges of a program: out of each node those that its statement asks for, and no other.
use Rattle.std.specs.Prelude.{ℕ, ◌+◌, ◌≡◌, ◌⊎◌, List, Option, None, Some, length, slice_get}
use Rattle.std.specs.Global.{Vec}
use Rattle.std.specs.List.{Contains}
use Rattle.ide_text.specs.declared.program.Expression.{Expression}
use Rattle.ide_text.specs.declared.program.Expression.TheVariants as expression
use Rattle.ide_text.specs.declared.program.Procedure.{Procedure}
use Rattle.ide_text.specs.declared.program.Program.{Program}
use Rattle.ide_text.specs.declared.program.Statement.TheVariants.{Assign, Skip, At, Goto, Branch, Call, Return}
use Rattle.ide_text.specs.Program.{globals_of, procedures_of}
use Rattle.ide_graph.specs.declared.edge.EdgeData.{EdgeData}
use Rattle.ide_graph.specs.declared.edge.EdgeKind.{EdgeKind}
use Rattle.ide_graph.specs.declared.edge.EdgeKind.TheVariants as kind
use Rattle.ide_graph.specs.declared.edge.Effect.{Effect}
use Rattle.ide_graph.specs.declared.edge.Effect.TheVariants.{Nothing, Number, Copy, Sum, Difference, Unknown, Mix, Enter}
use Rattle.ide_graph.specs.declared.site.Caller.{Caller}
use Rattle.ide_graph.specs.declared.site.Site.{Site}
use Rattle.ide_graph.specs.declared.site.Site.TheVariants as site
use Rattle.ide_graph.specs.Lists.{Lists}
use Rattle.ide_graph.specs.Supergraph.{Supergraph}
use Rattle.ide_graph.specs.Numbers.{Spot, start, statement, return_site, exit, nodes_of, start_of, exit_of, label_from, procedure_of, fact_at, result_of, facts_of}

-- an edge of the program: where it ends, and what it is
abbrev pub edge_of : Program → ℕ → EdgeKind → EdgeData
edge_of p end kind = record { end = end; result = result_of p; facts = facts_of p; kind = kind }

-- the spot stands at the node n, which is of the procedure q, the one of that index
pub record Stands (p : Program) (n index : ℕ) (q : Procedure) (spot : Spot) : Type 0 where
  pub node : slice_get (nodes_of (procedures_of p)) n ≡ Some (index, spot)
  pub owner : slice_get (procedures_of p) index ≡ Some q

-- the name has that fact at the nodes of q
abbrev pub HasFact : Program → Procedure → List ℕ → ℕ → Type 0
HasFact p q name fact = fact_at (globals_of p) q name ≡ Some fact

-- what giving a fact the value of an expression does
abbrev pub Gives : Program → Procedure → ℕ → Expression → Effect → Type 0
Gives p q target (expression.Number k) effect = effect ≡ Number target k
Gives p q target (expression.Copy y) effect = (source : ℕ) × HasFact p q y source × (effect ≡ Copy target source)
Gives p q target (expression.Sum y k) effect = (source : ℕ) × HasFact p q y source × (effect ≡ Sum target source k)
Gives p q target (expression.Difference y k) effect = (source : ℕ) × HasFact p q y source × (effect ≡ Difference target source k)
Gives p q target expression.Unknown effect = effect ≡ Unknown target
Gives p q target (expression.Mix y z) effect =
    (first : ℕ) × (second : ℕ) × HasFact p q y first × HasFact p q z second × (effect ≡ Mix target first second)

-- what giving a variable the value of an expression does
abbrev pub Assigns : Program → Procedure → List ℕ → Expression → Effect → Type 0
Assigns p q x e effect = (target : ℕ) × HasFact p q x target × Gives p q target e effect

-- what entering a procedure does: its locals have no value yet
abbrev pub entering : Program → Procedure → Effect
entering p q = Enter (result_of p + 1 + length q.parameters.items) (result_of p + 1 + length q.parameters.items + length q.locals.items)

-- where a normal edge goes out of the node n of the procedure q, and with what effect
abbrev pub Goes : Program → ℕ → ℕ → Procedure → Spot → ℕ → Effect → Type 0
Goes p n index q start end effect = (end ≡ n + 1) × (effect ≡ entering p q)
Goes p n index q (statement (Assign x e)) end effect = (end ≡ n + 1) × (target : ℕ) × HasFact p q x target × Gives p q target e effect
Goes p n index q (statement Skip) end effect = (end ≡ n + 1) × (effect ≡ Nothing)
Goes p n index q (statement (At l)) end effect = (end ≡ n + 1) × (effect ≡ Nothing)
Goes p n index q (statement (Goto l)) end effect = (label_from (start_of (procedures_of p) index) q l ≡ Some end) × (effect ≡ Nothing)
Goes p n index q (statement (Branch l)) end effect =
    ((end ≡ n + 1) ⊎ (label_from (start_of (procedures_of p) index) q l ≡ Some end)) × (effect ≡ Nothing)
Goes p n index q (statement (Call target callees arguments)) end effect = ⊥
Goes p n index q (statement (Return None)) end effect = (end ≡ exit_of (procedures_of p) index) × (effect ≡ Nothing)
Goes p n index q (statement (Return (Some y))) end effect =
    (end ≡ exit_of (procedures_of p) index) × (source : ℕ) × HasFact p q y source × (effect ≡ Copy (result_of p) source)
Goes p n index q return_site end effect = (end ≡ n + 1) × (effect ≡ Nothing)
Goes p n index q exit end effect = ⊥

-- a normal edge out of the node n
pub record IsNormal (p : Program) (n : ℕ) (edge : EdgeData) : Type 0 where
  pub index : ℕ
  pub procedure : Procedure
  pub spot : Spot
  pub effect : Effect
  pub stands : Stands p n index procedure spot
  pub goes : Goes p n index procedure spot edge.end effect
  pub is : edge ≡ edge_of p edge.end (kind.Normal effect)

-- the call statement that stands at the node n
pub record CallAt (p : Program) (n : ℕ) : Type 0 where
  pub index : ℕ
  pub procedure : Procedure
  pub target : Option (List ℕ)
  pub callees : Vec (List ℕ)
  pub arguments : Vec (List ℕ)
  pub stands : Stands p n index procedure (statement (Call target callees arguments))

-- one of the names is that of the procedure of that index
abbrev pub IsCallee : Program → List (List ℕ) → ℕ → Type 0
IsCallee p names callee = (name : List ℕ) × Contains names name × (procedure_of (procedures_of p) name ≡ Some callee)

-- the arguments, each in its place, with the facts of the parameters in those places
pub record ArePassed (p : Program) (q : Procedure) (arguments : List (List ℕ)) (pairs : List (ℕ × ℕ)) : Type 0 where
  pub each_once : length pairs ≡ length arguments
  pub in_place : (k : ℕ) (x : List ℕ) → slice_get arguments k ≡ Some x → (fact : ℕ) × HasFact p q x fact × (slice_get pairs k ≡ Some (fact, result_of p + 1 + k))

-- what a call assigns: the fact of its target, where it has one
abbrev pub IsTargetFact : Program → Procedure → Option (List ℕ) → Option ℕ → Type 0
IsTargetFact p q None assigned = assigned ≡ None
IsTargetFact p q (Some x) assigned = (fact : ℕ) × HasFact p q x fact × (assigned ≡ Some fact)

-- the call edge from the node n to the start of that callee
pub record IsCall (p : Program) (n callee : ℕ) (edge : EdgeData) : Type 0 where
  pub call : CallAt p n
  pub called : IsCallee p call.callees.items callee
  pub pairs : List (ℕ × ℕ)
  pub passed : ArePassed p call.procedure call.arguments.items pairs
  pub is : edge ≡ edge_of p (start_of (procedures_of p) callee) (kind.Call pairs)

-- the call-to-return edge from the node n
pub record IsAlong (p : Program) (n : ℕ) (edge : EdgeData) : Type 0 where
  pub call : CallAt p n
  pub target : Option ℕ
  pub assigned : IsTargetFact p call.procedure call.target target
  pub is : edge ≡ edge_of p (n + 1) (kind.CallToReturn target)

-- the return edge from the exit of that callee to the return site of the call at the node n
pub record IsBack (p : Program) (n callee : ℕ) (edge : EdgeData) : Type 0 where
  pub call : CallAt p n
  pub called : IsCallee p call.callees.items callee
  pub target : Option ℕ
  pub assigned : IsTargetFact p call.procedure call.target target
  pub is : edge ≡ edge_of p (n + 1) (kind.Return target)

-- a call edge from the node n
abbrev pub IsCallFrom : Program → ℕ → EdgeData → Type 0
IsCallFrom p n edge = (callee : ℕ) × IsCall p n callee edge

-- a call of that procedure, with the edge to its start and the edge back from its exit
abbrev pub IsCallerOf : Program → ℕ → Caller → Type 0
IsCallerOf p callee caller = IsCall p caller.call_node callee caller.call × IsBack p caller.call_node callee caller.back

-- neither a call nor an exit
abbrev pub IsPlain : Spot → Type 0
IsPlain start = Unit {0}
IsPlain (statement (Assign x e)) = Unit {0}
IsPlain (statement Skip) = Unit {0}
IsPlain (statement (At l)) = Unit {0}
IsPlain (statement (Goto l)) = Unit {0}
IsPlain (statement (Branch l)) = Unit {0}
IsPlain (statement (Call target callees arguments)) = ⊥
IsPlain (statement (Return y)) = Unit {0}
IsPlain return_site = Unit {0}
IsPlain exit = ⊥

-- at the node n stands neither a call nor an exit
pub record IsPlainNode (p : Program) (n : ℕ) : Type 0 where
  pub index : ℕ
  pub spot : Spot
  pub node : slice_get (nodes_of (procedures_of p)) n ≡ Some (index, spot)
  pub plain : IsPlain spot

-- the node n is an exit, its procedure begins at that start, and these are its callers
pub record IsExitSite (p : Program) (n begin : ℕ) (callers : List Caller) : Type 0 where
  pub index : ℕ
  pub node : slice_get (nodes_of (procedures_of p)) n ≡ Some (index, exit)
  pub begins : begin ≡ start_of (procedures_of p) index
  pub listed : Lists (IsCallerOf p index) (λ caller. caller.call_node) callers

-- the site has exactly the edges of the program at the node n
abbrev pub IsSiteOf : Program → ℕ → Site → Type 0
IsSiteOf p n (site.Normal edges) = IsPlainNode p n × Lists (IsNormal p n) (λ edge. edge.end) edges
IsSiteOf p n (site.Call calls along) = Lists (IsCallFrom p n) (λ edge. edge.end) calls × IsAlong p n along
IsSiteOf p n (site.Exit begin callers) = IsExitSite p n begin callers

-- each site has exactly the edges of the program at its node
abbrev pub AreSitesOf : Program → List Site → Type 0
AreSitesOf p sites = (node : ℕ) (site : Site) → slice_get sites node ≡ Some site → IsSiteOf p node site

-- the graph has exactly the edges of the program out of each of its nodes
abbrev pub HasEdgesOf : Program → Supergraph → Type 0
HasEdgesOf p graph = AreSitesOf p graph.sites

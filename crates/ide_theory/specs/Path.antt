-- Paths through a supergraph: those within one procedure, and those that a run can take.
use Rattle.std.specs.Prelude.{ℕ, List, [], ◌∷◌, ◌++◌}

-- edges between nodes, of which some stay in their procedure and some are calls, each call with
-- its return edges; and for each node the start of its procedure
pub record FlowGraph : Type 1 where
  pub Edge : Type 0
  pub from : Edge → ℕ
  pub to : Edge → ℕ
  pub IsFlat : Edge → Type 0
  pub IsCall : Edge → Type 0
  pub Matched : Edge → Edge → Type 0
  pub start_of : ℕ → ℕ

-- a path on which each call that is entered is left by its own return, from a node to a node
pub data SameLevel (G : FlowGraph) : ℕ → List G.Edge → ℕ → Type 0 where
  here : {s : ℕ} → SameLevel G s [] s
  step : {s : ℕ} {es : List G.Edge} → (e : G.Edge) → SameLevel G s es (G.from e) → G.IsFlat e
      → SameLevel G s (es ++ (e ∷ [])) (G.to e)
  through : {s : ℕ} {es fs : List G.Edge} → (call ret : G.Edge) → SameLevel G s es (G.from call) → G.Matched call ret
      → SameLevel G (G.to call) fs (G.from ret) → SameLevel G s (es ++ (call ∷ (fs ++ (ret ∷ [])))) (G.to ret)

-- a path from the root on which no return leaves another call than the last one that is open
pub data Valid (G : FlowGraph) (r : ℕ) : List G.Edge → ℕ → Type 0 where
  within : {es : List G.Edge} {n : ℕ} → SameLevel G r es n → Valid G r es n
  enters : {es fs : List G.Edge} {n : ℕ} → (call : G.Edge) → Valid G r es (G.from call) → G.IsCall call
      → SameLevel G (G.to call) fs n → Valid G r (es ++ (call ∷ fs)) n

-- The parts that a claim owes, as a list: by the edges at the key's node, then by partner, then by
-- target.
use Rattle.std.specs.Prelude.{◌≡◌, ℕ, ◌<◌, List, [], ◌∷◌, ◌++◌, Option, Some, None, cond, nat_eq, map}
use Rattle.std.specs.List.{flat_map, range_with_len}
use Rattle.ide_wire.specs.declared.key.Key.{Key}
use Rattle.ide_wire.specs.declared.key.Key.TheVariants.{Jump, Summary}
use Rattle.ide_theory.specs.Frame.{Frame}
use Rattle.ide_theory.specs.Member.{IsIn}
use Rattle.ide_theory.specs.State.{Claim, State}

-- what stands at a node: the call edges and the flat edges out of it, where its calls return to, and
-- each call that leaves its procedure there, with its return edge
pub record NodeEdges (E : Type 0) : Type 0 where
  pub calls : List E
  pub flat : List E
  pub return_sites : List ℕ
  pub callers : List (E × E)

-- a call at the node, with its return edge to the site
pub record CallBetween (K : Frame) (n m : ℕ) : Type 0 where
  pub call : K.graph.Edge
  pub ret : K.graph.Edge
  pub matched : K.graph.Matched call ret
  pub leaves : K.graph.from call ≡ n
  pub returns : K.graph.to ret ≡ m

-- the nodes have exactly the edges of the supergraph
pub record AreEdgesOf (K : Frame) (at : ℕ → NodeEdges K.graph.Edge) : Type 0 where
  pub has_flat : (e : K.graph.Edge) → K.graph.IsFlat e → IsIn e (at (K.graph.from e)).flat
  pub has_call : (e : K.graph.Edge) → K.graph.IsCall e → IsIn e (at (K.graph.from e)).calls
  pub has_site : (call ret : K.graph.Edge) → K.graph.Matched call ret → IsIn (K.graph.to ret) (at (K.graph.from call)).return_sites
  pub has_caller : (call ret : K.graph.Edge) → K.graph.Matched call ret
      → IsIn {T = K.graph.Edge × K.graph.Edge} (call, ret) (at (K.graph.from ret)).callers
  pub is_flat : (n : ℕ) (e : K.graph.Edge) → IsIn e (at n).flat → K.graph.IsFlat e × (K.graph.from e ≡ n)
  pub is_call : (n : ℕ) (e : K.graph.Edge) → IsIn e (at n).calls → K.graph.IsCall e × (K.graph.from e ≡ n)
  pub is_site : (n m : ℕ) → IsIn m (at n).return_sites → CallBetween K n m
  pub is_caller : (n : ℕ) (call ret : K.graph.Edge) → IsIn {T = K.graph.Edge × K.graph.Edge} (call, ret) (at n).callers
      → K.graph.Matched call ret × (K.graph.from ret ≡ n)

-- what follows from a value, if there is one
abbrev pub if_some : {X Y : Type 0} → Option X → (X → List Y) → List Y
if_some None f = []
if_some (Some x) f = f x

module _ (K : Frame) (get : Key → Option K.F) where
  open K use {F, functions.{compose, id}, facts, targets, graph.{Edge, from, to}}

  -- over a call edge: the identity at each target
  abbrev pub parts_of_seed : Edge → ℕ → List (Key × F)
  parts_of_seed e b = map (λ t. (Jump (to e) t.0 t.0, id)) (targets e b)

  -- over a flat edge: the function goes on to each target
  abbrev pub parts_over_flat : Edge → ℕ → ℕ → F → List (Key × F)
  parts_over_flat e a b f = map (λ t. (Jump (to e) a t.0, compose f t.1)) (targets e b)

  -- at a call node: the function goes on by each summary from its fact
  abbrev pub parts_after_call : ℕ → ℕ → ℕ → F → ℕ → List (Key × F)
  parts_after_call n a b f site = flat_map (λ d. if_some (get (Summary n b d)) (λ s. (Jump site a d, compose f s) ∷ [])) (range_with_len 0 facts)

  -- at an exit: the summaries of a call, from each fact that the call's flow carries to the first one
  abbrev pub parts_at_exit : ℕ → ℕ → F → Edge × Edge → List (Key × F)
  parts_at_exit a b f pair =
      flat_map (λ x. flat_map (λ t. cond (nat_eq t.0 a) (map (λ u. (Summary (from pair.0) x u.0, compose (compose t.1 f) u.1)) (targets pair.1 b)) [])
      (targets pair.0 x)) (range_with_len 0 facts)

  -- for a summary: each jump function to its fact goes on
  abbrev pub parts_resumed : ℕ → ℕ → ℕ → F → ℕ → List (Key × F)
  parts_resumed c b d s site = flat_map (λ a. if_some (get (Jump c a b)) (λ f. (Jump site a d, compose f s) ∷ [])) (range_with_len 0 facts)

  abbrev pub jump_parts : NodeEdges Edge → ℕ → ℕ → ℕ → F → List (Key × F)
  jump_parts here n a b f =
      flat_map (λ e. parts_of_seed e b) here.calls
      ++ (flat_map (λ e. parts_over_flat e a b f) here.flat
      ++ (flat_map (parts_after_call n a b f) here.return_sites
      ++ flat_map (parts_at_exit a b f) here.callers))

  -- the parts of the key, each a key and the function that it receives; none where it is absent
  abbrev pub parts_of : (ℕ → NodeEdges Edge) → Key → List (Key × F)
  parts_of at (Jump n a b) = if_some (get (Jump n a b)) (jump_parts (at n) n a b)
  parts_of at (Summary c b d) = if_some (get (Summary c b d)) (λ s. flat_map (parts_resumed c b d s) (at c).return_sites)

-- the facts of the key are in range
abbrev pub IsKeyInRange : ℕ → Key → Type 0
IsKeyInRange facts (Jump n a b) = (a < facts) × (b < facts)
IsKeyInRange facts (Summary c a d) = (a < facts) × (d < facts)

-- each present key has its facts in range
abbrev pub AreKeysInRange : (K : Frame) → (Key → Option K.F) → Type 0
AreKeysInRange K get = (key : Key) (f : K.F) → get key ≡ Some f → IsKeyInRange K.facts key

-- and so has each part of each claim
pub record AreAllInRange (K : Frame) (s : State K.F) : Type 0 where
  pub keys : AreKeysInRange K s.get
  pub parts : (h : ℕ) (c : Claim K.F) → s.claims h ≡ Some c → (k : Key) (g : K.F) → IsIn {T = Key × K.F} (k, g) c.parts → IsKeyInRange K.facts k

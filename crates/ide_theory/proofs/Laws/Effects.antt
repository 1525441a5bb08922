-- Effects of edges and paths keep proper environments and their order, and a path of two parts has
-- the effect of the second after that of the first. From this a best value is unique, and it is
-- top where no path leads.
use Rattle.std.proofs.Common.{◌≡◌, ℕ, ◌+◌, ◌<◌, Bool, true, false, cond, nat_eq, List, [], ◌∷◌, ◌++◌, IsTrue, refl}
use Rattle.ide_lattice.specs.Algebra.{LatticeAlgebra, EdgeAlgebra}
use Rattle.ide_lattice.specs.Laws.{IsEdgeAlgebra}
use Rattle.ide_lattice.specs.Order.{IsBelow, IsDistributive, below-trans, below-antisym, below-top, distributive-mono}
use Rattle.ide_lattice.specs.Meets.{proper-meet_of, meet_of-below, below-meet_of, distributive-apply}
use Rattle.ide_problem.specs.Flow.{function_to, AreTargets}
use Rattle.ide_theory.specs.Frame.{Frame, Roots, IsLawfulFrame}
use Rattle.ide_theory.specs.Path.{Valid}
use Rattle.ide_theory.specs.Effect.{arrow, edge_effect, path_effect}
use Rattle.ide_theory.specs.Best.{IsBest}

-- the listed function or always-top is proper
pub proper-function_to : {F L : Type 0} (A : LatticeAlgebra L) (B : EdgeAlgebra F L) → IsEdgeAlgebra A B → (d low count : ℕ) (ts : List (ℕ × F))
    → AreTargets B.proper low count ts → IsTrue (B.proper (function_to B d ts))
proper-function_to A B laws d low count [] lawful = laws.proper_all_top
proper-function_to A B laws d low count (t ∷ ts) lawful =
    let rest : IsTrue (B.proper (function_to B d ts)) = proper-function_to A B laws d (t.0 + 1) count ts lawful.3 in
    choose (nat_eq t.0 d) lawful.2 rest
  where
    choose : (b : Bool) {f g : _} → IsTrue (B.proper f) → IsTrue (B.proper g) → IsTrue (B.proper (cond b f g))
    choose true p q = p
    choose false p q = q

module _ (K : Frame) (laws : IsLawfulFrame K) where
  open K use {L, F, lattice as A, functions as B, facts, targets, graph.{Edge}}

  -- an environment gives each fact a proper value
  abbrev pub IsProper : (ℕ → L) → Type 0
  IsProper env = (k : ℕ) → k < facts → IsTrue (A.proper (env k))

  pub proper-target : (e : Edge) (k d : ℕ) → IsTrue (B.proper (function_to B d (targets e k)))
  proper-target e k d = proper-function_to A B laws.functions d 0 facts (targets e k) (laws.in_order e k)

  pub distributive-arrow : (e : Edge) (k d : ℕ) → IsDistributive A (arrow K e k d)
  distributive-arrow e k d =
      distributive-apply A laws.lattice B laws.functions (function_to B d (targets e k)) (proper-target e k d)

  pub proper-term : (e : Edge) (env : ℕ → L) → IsProper env → (d k : ℕ) → k < facts → IsTrue (A.proper (arrow K e k d (env k)))
  proper-term e env p d k h = (distributive-arrow e k d).proper (env k) (p k h)

  pub proper-edge : (e : Edge) (env : ℕ → L) → IsProper env → (d : ℕ) → IsTrue (A.proper (edge_effect K e env d))
  proper-edge e env p d = proper-meet_of A laws.lattice (λ k. arrow K e k d (env k)) facts (proper-term e env p d)

  pub proper-path : (es : List Edge) (env : ℕ → L) → IsProper env → IsProper (path_effect K es env)
  proper-path [] env p = p
  proper-path (e ∷ es) env p = proper-path es (edge_effect K e env) (λ d h. proper-edge e env p d)

  -- an environment is below another
  abbrev pub IsLower : (ℕ → L) → (ℕ → L) → Type 0
  IsLower low high = (k : ℕ) → k < facts → IsBelow A (low k) (high k)

  pub edge-mono : (e : Edge) (low high : ℕ → L) → IsLower low high → (d : ℕ) → IsBelow A (edge_effect K e low d) (edge_effect K e high d)
  edge-mono e low high under d =
      below-meet_of A laws.lattice (edge_effect K e low d) (λ k. arrow K e k d (high k)) facts
      (proper-edge e low (λ k h. (under k h).left) d)
      (λ k h. below-trans A laws.lattice (edge_effect K e low d) (arrow K e k d (low k)) (arrow K e k d (high k))
      (meet_of-below A laws.lattice (λ j. arrow K e j d (low j)) facts (proper-term e low (λ j b. (under j b).left) d) k h)
      (distributive-mono A laws.lattice (arrow K e k d) (distributive-arrow e k d) (low k) (high k) (under k h)))

  pub path-mono : (es : List Edge) (low high : ℕ → L) → IsLower low high → IsLower (path_effect K es low) (path_effect K es high)
  path-mono [] low high under = under
  path-mono (e ∷ es) low high under =
      path-mono es (edge_effect K e low) (edge_effect K e high) (λ d h. edge-mono e low high under d)

  pub path-append : (es fs : List Edge) (env : ℕ → L) → path_effect K (es ++ fs) env ≡ path_effect K fs (path_effect K es env)
  path-append [] fs env = refl
  path-append (e ∷ es) fs env = path-append es fs (edge_effect K e env)

  -- two best values are the same
  pub best-unique : (R : Roots K) (n d : ℕ) (v w : L) → IsBest K R n d v → IsBest K R n d w → v ≡ w
  best-unique R n d v w a b =
      below-antisym A laws.lattice v w (b.greatest v a.proper a.lower) (a.greatest w b.proper b.lower)

  -- where no valid path from a root leads, top is best
  pub top-best : (R : Roots K) (n d : ℕ) → ((r : ℕ) (es : List Edge) → R.IsRoot r → Valid K.graph r es n → ⊥) → IsBest K R n d A.top
  top-best R n d none = record {
    proper = laws.lattice.proper_top;
    lower = λ r es root path. elim (none r es root path) [ ];
    greatest = λ w p below. below-top A laws.lattice w p;
  }

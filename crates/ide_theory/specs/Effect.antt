-- What edges and paths do to environments, which give each fact a value.
use Rattle.std.specs.Prelude.{ℕ, List, [], ◌∷◌}
use Rattle.ide_lattice.specs.Algebra.{LatticeAlgebra, EdgeAlgebra}
use Rattle.ide_lattice.specs.Meets.{meet_of}
use Rattle.ide_problem.specs.Flow.{function_to}
use Rattle.ide_theory.specs.Frame.{Frame}

-- the value of fact `d` after an edge with these targets, where that of each of the facts before it
-- is `env`'s: the meet of what each fact gives it, by the function that the targets list
abbrev pub effect_at : {F L : Type 0} → LatticeAlgebra L → EdgeAlgebra F L → (ℕ → List (ℕ × F)) → ℕ → (ℕ → L) → ℕ → L
effect_at lattice functions targets facts env d = meet_of lattice (λ k. functions.apply (function_to functions d (targets k)) (env k)) facts

module _ (K : Frame) where
  open K use {L, lattice, functions, facts, targets, graph.{Edge}}

  -- how the value of fact `d` after an edge depends on that of fact `k` before it
  abbrev pub arrow : Edge → ℕ → ℕ → L → L
  arrow e k d = functions.apply (function_to functions d (targets e k))

  -- the environment after an edge: at each fact the meet of what all facts give it
  abbrev pub edge_effect : Edge → (ℕ → L) → ℕ → L
  edge_effect e env d = effect_at lattice functions (targets e) facts env d

  -- the environment after the edges of a path, one after the other
  abbrev pub path_effect : List Edge → (ℕ → L) → ℕ → L
  path_effect [] env = env
  path_effect (e ∷ es) env = path_effect es (edge_effect e env)

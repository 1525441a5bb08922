-- Environments as lists of values, and what an edge does to them.
use Rattle.std.specs.Prelude.{◌≡◌, ℕ, List, length, map, slice_index_or}
use Rattle.std.specs.Global.{Vec}
use Rattle.std.specs.List.{range_with_len}
use Rattle.ide_graph.specs.declared.edge.EdgeData.{EdgeData}
use Rattle.ide_theory.specs.Effect.{effect_at}
use Rattle.ide_solver.specs.Shown.{ShownAnalysis}

-- the value of a fact in an environment that lists them: top past its end
abbrev pub value_in : {L : Type 0} → L → List L → ℕ → L
value_in top environment fact = slice_index_or environment fact top

module _ {F L : Type 0} (a : ShownAnalysis F L) (edge : EdgeData) where
  -- the value of a fact after the edge
  abbrev pub value_over : List L → ℕ → L
  value_over environment fact =
      effect_at a.lattice a.functions (a.targets edge) (length environment) (value_in a.lattice.top environment) fact

  -- the environment after it, of as many facts
  abbrev pub environment_over : List L → List L
  environment_over environment = map (value_over environment) (range_with_len 0 (length environment))

  -- the value comes out of the edge at that fact
  abbrev pub ComesOut : List L → ℕ → L → Type 0
  ComesOut environment fact value = value ≡ value_over environment fact

  -- the values come out of it, one for each fact
  abbrev pub ComeOut : List L → Vec L → Type 0
  ComeOut environment values = values.items ≡ environment_over environment

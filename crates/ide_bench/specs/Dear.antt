-- An analysis whose functions are dear: over each edge a fact goes to itself and to those behind it, ten in all.
use Rattle.std.specs.Global.{Vec}
use Rattle.std.specs.Prelude.{◌≡◌, ℕ, ◌+◌, ◌-◌, ◌++◌, List, map, min}
use Rattle.std.specs.List.{range_with_len}
use Rattle.ide_instances.specs.declared.const_fn.ConstFn.{ConstFn}
use Rattle.ide_instances.specs.declared.const_fn.ConstFn.TheVariants.{Shift}
use Rattle.ide_problem.specs.Flow.{Targets}

-- the fact behind the last that a fact goes to: no number of a fact is past 65,535
abbrev pub spread_end : (facts fact : ℕ) → ℕ
spread_end facts fact = min (min (fact + 10) 65535) facts

-- a fact by the identity
abbrev pub with_identity : ℕ → ℕ × ConstFn
with_identity fact = (fact, Shift 0)

-- each fact from the first to before the end, by the identity
abbrev pub spread_between : (first end : ℕ) → List (ℕ × ConstFn)
spread_between first end = map with_identity (range_with_len first (end - first))

abbrev pub spread_targets : Targets ConstFn
spread_targets edge fact = spread_between fact (spread_end edge.facts fact)

-- these are added to the targets
abbrev pub AddsSpread : (first end : ℕ) → (old new : Vec (ℕ × ConstFn)) → Type 0
AddsSpread first end old new = new.items ≡ old.items ++ spread_between first end

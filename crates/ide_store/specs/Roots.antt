-- Roots by the names of their procedures.
use Rattle.std.specs.Prelude.{ℕ, List, cond, map, nat_lt, unwrap_or}
use Rattle.ide_theory.specs.Frame.{Frame, Roots}
use Rattle.ide_theory.specs.Given.{roots_of}
use Rattle.ide_theory.specs.Images.{Procedures}

module _ {Program Name : Type 0} (procedures : Procedures Program Name) (K : Frame) (p : Program) where
  -- where the procedures of these names begin
  abbrev pub starts_of : List Name → List ℕ
  starts_of names = map (λ name. unwrap_or (procedures.start p name) 0) names

  -- what is known of a fact there: bottom of those that hold at an entry
  abbrev pub root_entry : ℕ → K.L
  root_entry k = cond (nat_lt k (procedures.entries p)) K.lattice.bottom K.lattice.top

  abbrev pub roots_named : List Name → Roots K
  roots_named names = roots_of K (starts_of names) root_entry

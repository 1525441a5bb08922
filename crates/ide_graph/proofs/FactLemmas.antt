-- Facts of a program: how many a procedure has.
use Rattle.std.proofs.Common.{◌≡◌, ℕ, zero, suc, ◌+◌, ◌≤◌, List, [], ◌∷◌, Some, length, arith}
use Rattle.std.specs.Prelude.{slice_get}
use Rattle.ide_text.specs.declared.program.Procedure.{Procedure}
use Rattle.ide_text.specs.declared.program.Program.{Program}
use Rattle.ide_text.specs.Program.{globals_of, procedures_of}
use Rattle.ide_graph.specs.Numbers.{most_own, facts_of}

pub own_at_most : (procedures : List Procedure) (index : ℕ) (q : Procedure) → slice_get procedures index ≡ Some q → length q.parameters.items + length q.locals.items ≤ most_own procedures
own_at_most [] index q at = let none : ⊥ = cc in elim none [ ]
own_at_most (r ∷ procedures) zero q at = let same : r ≡ q = cc in rw (← same) (omega arith)
own_at_most (r ∷ procedures) (suc index) q at = let below : length q.parameters.items + length q.locals.items ≤ most_own procedures = own_at_most procedures index q at in omega arith

pub own_within : (p : Program) (index : ℕ) (q : Procedure) → slice_get (procedures_of p) index ≡ Some q → length (globals_of p) + 2 + length q.parameters.items + length q.locals.items ≤ facts_of p
own_within p index q at = let below : length q.parameters.items + length q.locals.items ≤ most_own (procedures_of p) = own_at_most (procedures_of p) index q at in omega arith

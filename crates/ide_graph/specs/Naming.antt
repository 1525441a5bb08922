-- Names that are declared once.
use Rattle.std.specs.Prelude.{ℕ, List, [], ◌∷◌, ◌++◌, cond}
use Rattle.ide_text.specs.declared.program.Procedure.{Procedure}
use Rattle.ide_text.specs.Names.{is_among, IsRepeated}

-- none of the names is a known one, or stands there twice
abbrev pub AreNew : List (List ℕ) → List (List ℕ) → Type 0
AreNew known names = (k : ℕ) → ¬ IsRepeated known names k

-- the names, and one more, unless it is among them
abbrev pub with_name : List (List ℕ) → List ℕ → List (List ℕ)
with_name names name = cond (is_among names name) names (names ++ name ∷ [])

-- each of the procedure's parameters and locals is declared once in it
pub record HasOwnNames (q : Procedure) : Type 0 where
  pub parameters : AreNew [] q.parameters.items
  pub locals : AreNew q.parameters.items q.locals.items

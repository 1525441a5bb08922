-- What each analysis prints of a text.
use Rattle.std.specs.Io.KnownBytes.{Appends}
use Rattle.std.specs.Prelude.{ℕ, List, [], ◌∷◌, Option, Result, IfOk, OnOk}
use Rattle.ide_instances.specs.ConstFn.{const_edge}
use Rattle.ide_instances.specs.ConstValue.{const_algebra, shown_constant}
use Rattle.ide_instances.specs.Received.{copy_targets, shift_targets, uninit_targets}
use Rattle.ide_instances.specs.UninitFn.{uninit_edge}
use Rattle.ide_instances.specs.UninitValue.{uninit_algebra, shown_uninit}
use Rattle.ide_solver.specs.Solve.{IsSolution}
use Rattle.ide_words.specs.declared.words.Instance.{Instance}
use Rattle.ide_words.specs.declared.words.Instance.TheVariants.{Uninit, Copy, Shift}

-- the dump of a text by an analysis, with one root
abbrev pub IsDump : Instance → List ℕ → List ℕ → List ℕ → Type 0
IsDump Uninit text root dump = IsSolution uninit_algebra uninit_edge uninit_targets shown_uninit text (root ∷ []) dump
IsDump Copy text root dump = IsSolution const_algebra const_edge copy_targets shown_constant text (root ∷ []) dump
IsDump Shift text root dump = IsSolution const_algebra const_edge shift_targets shown_constant text (root ∷ []) dump

-- there is such a dump, and where the output did not fail it is written behind what that had
pub record WritesDump (instance : Instance) (text root : List ℕ) {T E : Type 0} (end : Result T E) (before after : Option (List ℕ)) : Type 0 where
  pub dump : List ℕ
  pub is : IsDump instance text root dump
  pub written : OnOk end (Appends before after dump)

-- where that was not refused, and with what an output has had written to it at each moment
abbrev pub WritesBest : {T E X O : Type 0} → Instance → (text root : List ℕ) → Result (Result T E) X → (O → Option (List ℕ))
    → (before after : O) → Type 0
WritesBest instance text root result contents before after =
    IfOk result (λ end. WritesDump instance text root end (contents before) (contents after))

-- and so of some text
abbrev pub WritesSomeBest : {T E X O : Type 0} → Instance → (root : List ℕ) → Result (Result T E) X → (O → Option (List ℕ))
    → (before after : O) → Type 0
WritesSomeBest instance root result contents before after =
    IfOk result (λ end. (text : List ℕ) × WritesDump instance text root end (contents before) (contents after))

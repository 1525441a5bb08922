-- That a text which is kept is parsed to what it says, and refused for want of memory alone.
use Rattle.std.proofs.Common.{◌≡◌, sym, ◌∙◌, subst, List}
use Rattle.std.proofs.Math.Logic.{∥∥₁_elim}
use Rattle.std.specs.Coded.{Coded-set, codes}
use Rattle.std.specs.Prelude.{ℕ, Result, Ok, Err, IfOk, IfErr, IsOkUnless}
use Rattle.ide_text.specs.Laws.{PrintedAreParsedAgain}
use Rattle.ide_text.specs.Parsed.{IsParsed, IsRefusalOf}
use Rattle.ide_text.specs.Program.{value_of}
use Rattle.ide_text.specs.Value.{ProgramValue}
use Rattle.ide_text.specs.declared.program.Program.{Program}
use Rattle.ide_wire.specs.declared.refused.Refused.{Refused}
use Rattle.ide_wire.specs.declared.refused.Refused.TheVariants.{NoMemory}
use Rattle.ide_steps.specs.Said.{IsTextOf}

values-set : IsSet ProgramValue
values-set = Coded-set (Prim.hlevel codes)

refusals-set : IsSet Refused
refusals-set = Coded-set (Prim.hlevel codes)

module _ (again : PrintedAreParsedAgain) (text : List ℕ) (value : ProgramValue) (is : IsTextOf text value) where
  pub says : (result : Result Program Refused) → IfOk result (IsParsed text) → IfOk result (λ p. value_of p ≡ value)
  says (Ok q) parsed =
      ∥∥₁_elim is (values-set (value_of q) value) (λ a. (again a.0).equal q (subst (λ t. IsParsed t q) (sym a.1) parsed) ∙ a.2)
  says (Err e) parsed = tt

  pub only_memory : (result : Result Program Refused) → IfErr result (IsRefusalOf text) → IsOkUnless result NoMemory
  only_memory (Ok q) why = tt
  only_memory (Err e) why =
      ∥∥₁_elim is (refusals-set e NoMemory) (λ a. (again a.0).refused e (subst (λ t. IsRefusalOf t e) (sym a.1) why))

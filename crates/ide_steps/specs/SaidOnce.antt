-- That a text says one thing at most, so that who keeps it can tell what.
use Rattle.std.proofs.Common.{◌≡◌, sym, ◌∙◌, subst}
use Rattle.std.proofs.Math.Logic.{∥∥₁_elim, ∥∥₁_prop}
use Rattle.std.specs.Coded.{Coded-set, codes}
use Rattle.std.specs.Prelude.{ℕ, List}
use mathlib.Core.HLevel.{Σ_prop_path}
use Rattle.ide_text.proofs.RoundTrip.{parsed_again}
use Rattle.ide_text.specs.declared.program.Program.{Program}
use Rattle.ide_text.specs.Parsed.{IsParsed}
use Rattle.ide_text.specs.Program.{text_of, value_of}
use Rattle.ide_text.specs.Value.{ProgramValue}
use Rattle.ide_steps.specs.Said.{IsTextOf, SaysOnce}

values-set : IsSet ProgramValue
values-set = Coded-set (Prim.hlevel codes)

one_value : (p q : Program) → text_of p ≡ text_of q → value_of p ≡ value_of q
one_value p q same = sym ((parsed_again p).equal q (subst (λ text. IsParsed text q) (sym same) (parsed_again q).itself))

said_once : (text : List ℕ) (v w : ProgramValue) → IsTextOf text v → IsTextOf text w → v ≡ w
said_once text v w first second =
    ∥∥₁_elim first (values-set v w) (λ a. ∥∥₁_elim second (values-set v w) (λ b.
    sym a.2 ∙ one_value a.0 b.0 (a.1 ∙ sym b.1) ∙ b.2))

pub SaysOnce-prop : (text : List ℕ) → IsProp (SaysOnce text)
SaysOnce-prop text a b = Σ_prop_path (λ v. ∥∥₁_prop) (said_once text a.0 b.0 a.1 b.1)

-- A refusal of lines, or of names, as a refusal of the whole text.
use Rattle.std.proofs.Common.{◌≡◌, ◌≤◌, ℕ, List, length, sym, subst, Err, Result}
use Rattle.std.specs.Prelude.{IfErr}
use Rattle.ide_wire.specs.declared.refused.Refused.{Refused}
use Rattle.ide_wire.specs.declared.refused.Refused.TheVariants.{NoMemory, Text}
use Rattle.ide_text.specs.declared.program.Draft.{Draft}
use Rattle.ide_text.specs.First.{TellsFirst}
use Rattle.ide_text.specs.Grammar.{Spells}
use Rattle.ide_text.specs.Lines.{IsWithinLimits}
use Rattle.ide_text.specs.NameFault.{NameFault}
use Rattle.ide_text.specs.Parsed.{IsRefusalOf, In_lines, In_names}
use Rattle.ide_text.specs.Refusal.{IsFirstFault}

pub refused_lines : (text : List ℕ) (refused : Refused) → length text ≤ 1048576 → IsFirstFault text refused → IsRefusalOf text refused
refused_lines text NoMemory short h = tt
refused_lines text (Text line fault) short h = In_lines short line fault h
refused_lines text _ short h = h

pub refused_names : (text : List ℕ) (p : Draft) (refused : Refused) → length text ≤ 1048576 → Spells text p → IsWithinLimits p
    → TellsFirst (NameFault p) refused → IsRefusalOf text refused
refused_names text p NoMemory short spelled limits h = tt
refused_names text p (Text line fault) short spelled limits h = In_names short p spelled limits line fault h
refused_names text p _ short spelled limits h = h

-- of a refusal that `?` hands on
pub handed_on : {T : Type 0} (P : Refused → Type 0) (result : Result T Refused) (given handed : Refused)
    → result ≡ Err handed → handed ≡ given → P given → IfErr result P
handed_on P result given handed is same h = subst (λ r. IfErr r P) (sym is) (subst P (sym same) h)

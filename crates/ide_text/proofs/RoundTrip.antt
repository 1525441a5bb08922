-- Parsing and printing undo each other.
use Rattle.std.proofs.Common.{◌≡◌, refl}
use Rattle.ide_wire.specs.declared.refused.Refused.{Refused}
use Rattle.ide_wire.specs.declared.refused.Refused.TheVariants.{NoMemory, Text}
use Rattle.ide_text.specs.declared.program.Program.{Program}
use Rattle.ide_text.specs.Laws.{EqualHaveOneText, ParsedArePrintedAgain, PrintedAreParsedAgain}
use Rattle.ide_text.specs.Limits.{limits_program}
use Rattle.ide_text.specs.Parsed.{IsParsed, IsRefusalOf}
use Rattle.ide_text.specs.Program.{text_of}
use Rattle.ide_text.proofs.OneFault.{parsed_has_none}
use Rattle.ide_text.proofs.OneProgram.{one_program}
use Rattle.ide_text.proofs.Value.{draft_text-same}

itself : (p : Program) → IsParsed (text_of p) p
itself p = record { short = p.short; spelled = record { same = refl; proper = limits_program p.draft p.limits } }

only_memory : (p : Program) (refused : Refused) → IsRefusalOf (text_of p) refused → refused ≡ NoMemory
only_memory p NoMemory h = refl
only_memory p (Text line fault) h = absurd (parsed_has_none (text_of p) p line fault (itself p) h)
only_memory p _ h = absurd h

pub parsed_again : PrintedAreParsedAgain
parsed_again p = record {
  itself = itself p;
  equal = λ q parsed. one_program (text_of p) q.draft p.draft parsed.spelled (itself p).spelled;
  refused = only_memory p;
}

pub printed_again : ParsedArePrintedAgain
printed_again text p parsed = parsed.spelled.same

pub equal_text : EqualHaveOneText
equal_text p q same = draft_text-same p.draft q.draft same

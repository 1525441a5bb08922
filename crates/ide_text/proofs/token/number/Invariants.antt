use Rattle.std.proofs.Common.{◌≡◌, take}
use Rattle.std.specs.Str.Parse.{AllDigits, digits_value}
use Rattle.ide_text.specs.Grammar.{IsNumber}
use Rattle.ide_text.proofs.token.number.Given as goal

-- the digits so far, and their value
abbrev pub invariant-loop-byte : goal.invariant-loop-byte
invariant-loop-byte l =
    AllDigits 10 (take l.byte-index l.word) × (l.value ≡ digits_value 10 (take l.byte-index l.word)) × IsNumber l.value

use Rattle.std.proofs.Common.{◌≡◌, ◌==◌, ◌++◌, length, map}
use Rattle.std.specs.List.{AllByRecursion, slice_split}
use Rattle.ide_text.specs.Token.{IsToken, token_text}
use Rattle.ide_text.proofs.line.split.Given as goal

-- the words of the tokens so far, and those of the rest, are the words of the text
abbrev pub invariant-loop-word : goal.invariant-loop-word
invariant-loop-word l = record {
  words : slice_split (λ b. b == 32) l.text ≡ map token_text l.tokens.items ++ slice_split (λ b. b == 32) l.rest;
  proper : AllByRecursion IsToken l.tokens.items;
}

abbrev pub decreases-loop-word : goal.decreases-loop-word
decreases-loop-word l = length l.rest

use Rattle.std.proofs.Common.{ap, sym, ◌∙◌, w64}
use Rattle.std.specs.Prelude.{nat_eq}
use Rattle.std.proofs.lemmas.Nat.Bits.{bit_at_clear_other, bit_at_clear_same, bit_at_set_other, bit_at_set_same}
use Rattle.ide_image.proofs.bits.with_bit.Goals as goal

pub returns-then-bit-clause-own : goal.returns-then-bit-clause-own
returns-then-bit-clause-own c = ap (λ bit. nat_eq bit 1) (bit_at_set_same w64 c.args.word c.args.place c.requires) ∙ sym c.if-bit.true

pub returns-then-bit-clause-others : goal.returns-then-bit-clause-others
returns-then-bit-clause-others c = λ n within apart. bit_at_set_other w64 c.args.word c.args.place c.requires n apart

pub returns-else-bit-clause-own : goal.returns-else-bit-clause-own
returns-else-bit-clause-own c = ap (λ bit. nat_eq bit 1) (bit_at_clear_same w64 c.args.word c.args.place c.requires) ∙ sym c.if-bit.false

pub returns-else-bit-clause-others : goal.returns-else-bit-clause-others
returns-else-bit-clause-others c = λ n within apart. bit_at_clear_other w64 c.args.word c.args.place c.requires n within apart

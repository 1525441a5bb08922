use Rattle.std.proofs.Common.{◌≡◌, ℕ, ◌+◌, length, slice_range, arith, sym, ap, subst}
use Rattle.std.proofs.lemmas.List.{length-take, length-drop}
use Rattle.ide_journal.specs.Format.{padding, zeros}
use Rattle.ide_journal.proofs.Whole.{count_is, are_zeros, zeros_are}
use Rattle.ide_journal.proofs.reading.framed_length.Goals as goal

pub returns-then-bytes-lt14-clause-none : goal.returns-then-bytes-lt14-clause-none
returns-then-bytes-lt14-clause-none c count framed = omega (arith, framed.inside)

pub returns-then-count-gt4194304-clause-none : goal.returns-then-count-gt4194304-clause-none
returns-then-count-gt4194304-clause-none c count framed =
    let same = count_is _ c.number_of-count.result count c.number_of-count.type_inv framed.short c.number_of-count.ensures framed.sized in
    omega (arith, same, framed.short)

pub returns-then-size-bytes-clause-none : goal.returns-then-size-bytes-clause-none
returns-then-size-bytes-clause-none c count framed =
    let same = count_is _ c.number_of-count.result count c.number_of-count.type_inv framed.short c.number_of-count.ensures framed.sized in
    omega (arith, same, ap padding same, framed.inside, c.padding.ensures.value)

pub returns-then-not-filled-clause-none : goal.returns-then-not-filled-clause-none
returns-then-not-filled-clause-none c count framed =
    let bytes = c.args.bytes.now in
    let own = c.number_of-count.result in
    let same = count_is _ own count c.number_of-count.type_inv framed.short c.number_of-count.ensures framed.sized in
    let filled = subst (λ (n : ℕ). slice_range bytes (13 + n) (13 + n + padding n) ≡ zeros (padding n)) same framed.filled in
    let here = subst (λ (p : ℕ). slice_range bytes (13 + own) (13 + own + p) ≡ zeros p) (sym c.padding.ensures.value) filled in
    let told = c.are_zeros-filled.ensures.1 (zeros_are _ _ here) in cc

pub returns-clause-framed : goal.returns-clause-framed
returns-clause-framed c =
    let count = c.number_of-count.result in
    let bytes = c.args.bytes.now in
    let size : length (slice_range bytes (13 + count) (13 + count + c.padding.result)) ≡ c.padding.result = simp (length-take, length-drop) (omega arith) in
    let here = are_zeros (slice_range bytes (13 + count) (13 + count + c.padding.result)) c.padding.result size
    (c.are_zeros-filled.ensures.0 c.if-not-filled.false) in
    record {
      sized = c.number_of-count.ensures;
      short = omega arith;
      filled = subst (λ (p : ℕ). slice_range bytes (13 + count) (13 + count + p) ≡ zeros p) c.padding.ensures.value here;
      inside = omega (arith, c.padding.ensures.value);
    }

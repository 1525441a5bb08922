use Rattle.std.proofs.Common.{◌≡◌, IfNone, length, slice_range, arith, refl, sym, subst}
use Rattle.std.proofs.lemmas.List.{length-take, length-drop}
use Rattle.ide_journal.specs.Reading.{IsNoStore}
use Rattle.ide_journal.proofs.Whole.{is_store, store_is, are_zeros, zeros_are}
use Rattle.ide_journal.proofs.reading.read_head.Goals as goal

pub returns-in_err-version-clause-none : goal.returns-in_err-version-clause-none
returns-in_err-version-clause-none c =
    let bytes = c.args.bytes.now in
    subst (λ r. IfNone r (IsNoStore bytes)) (sym c.from_residual.ensures)
    (λ told store. c.in_err-version.ensures.none told.version (is_store bytes told store).0)

pub returns-then-tag-eq0-clause-none : goal.returns-then-tag-eq0-clause-none
returns-then-tag-eq0-clause-none c told store = omega (arith, (is_store c.args.bytes.now told store).1, store.some)

pub returns-then-not-filled-clause-none : goal.returns-then-not-filled-clause-none
returns-then-not-filled-clause-none c told store =
    let zeros = c.are_zeros-filled.ensures.1 (zeros_are _ 4087 (is_store c.args.bytes.now told store).2) in
    cc

pub returns-clause-store : goal.returns-clause-store
returns-clause-store c =
    let bytes = c.args.bytes.now in
    let size : length (slice_range bytes 9 4096) ≡ 4087 = simp (length-take, length-drop) (omega arith) in
    store_is bytes _ (omega arith) c.in_ok-version.ensures.letters refl (omega arith)
    (are_zeros (slice_range bytes 9 4096) 4087 size (c.are_zeros-filled.ensures.0 c.if-not-filled.false))

use Rattle.std.proofs.Common.{IfNone, length, slice_index, arith, ap, refl, sym, subst}
use Rattle.std.proofs.lemmas.List.{length-append}
use Rattle.ide_journal.specs.Format.{head_of}
use Rattle.ide_journal.proofs.Whole.{zeros_are}
use Rattle.ide_slots.specs.Reading.{TellsNothing}
use Rattle.ide_slots.specs.Slot.{IsValidHead, SlotHead, slot_header}
use Rattle.ide_slots.proofs.Heads.{length-slot_header}
use Rattle.ide_slots.proofs.Pages.{HasPieces, page_is, pieces_are, pieces_read, same_pieces}
use Rattle.ide_slots.proofs.head.read_head.Goals as goal

pub returns-then-bytes-lt4096-clause-none : goal.returns-then-bytes-lt4096-clause-none
returns-then-bytes-lt4096-clause-none c told tells =
    omega (arith, ap length tells.split, length-append (slot_header told) tells.rest, length-slot_header told)

pub returns-in_err-version-clause-none : goal.returns-in_err-version-clause-none
returns-in_err-version-clause-none c =
    let bytes = c.args.bytes.now in
    subst (λ r. IfNone r (TellsNothing bytes)) (sym c.from_residual.ensures)
    (λ told tells. c.in_err-version.ensures.none told.head.version (pieces_are told bytes tells.rest tells.split).named)

pub returns-in_err-generation-clause-none : goal.returns-in_err-generation-clause-none
returns-in_err-generation-clause-none c =
    let bytes = c.args.bytes.now in
    subst (λ r. IfNone r (TellsNothing bytes)) (sym c.from_residual-in_err-generation.ensures)
    (λ told tells. c.in_err-generation.ensures.none told.generation tells.valid.generation
    (pieces_are told bytes tells.rest tells.split).generation)

pub returns-in_err-base-clause-none : goal.returns-in_err-base-clause-none
returns-in_err-base-clause-none c =
    let bytes = c.args.bytes.now in
    subst (λ r. IfNone r (TellsNothing bytes)) (sym c.from_residual-in_err-base.ensures)
    (λ told tells. c.in_err-base.ensures.none told.base tells.valid.base (pieces_are told bytes tells.rest tells.split).base)

pub returns-then-not-filled-clause-none : goal.returns-then-not-filled-clause-none
returns-then-not-filled-clause-none c told tells =
    let zeros = c.are_zeros-filled.ensures.1 (zeros_are _ 4063 (pieces_are told c.args.bytes.now tells.rest tells.split).filled) in
    cc

pub returns-then-not-is_valid-clause-none : goal.returns-then-not-is_valid-clause-none
returns-then-not-is_valid-clause-none c told tells =
    let bytes = c.args.bytes.now in
    let head : SlotHead = record {
      head = head_of c.in_ok-version.version (slice_index bytes 8);
      generation = c.in_ok-generation.generation;
      base = c.in_ok-base.base;
      commands = c.number_of.result;
      parts = c.number_of-2.result;
    } in
    let has : HasPieces head bytes = pieces_read head bytes (omega arith) c.in_ok-version.ensures.letters refl c.in_ok-generation.ensures.told
    c.in_ok-base.ensures.told c.number_of.ensures c.number_of-2.ensures (c.are_zeros-filled.ensures.0 c.if-not-filled.false) in
    let same = same_pieces told head bytes tells.valid (omega arith) (omega arith) (omega arith) (omega arith)
    (pieces_are told bytes tells.rest tells.split) has in
    let valid = c.is_valid.ensures.1 (subst IsValidHead same tells.valid) in
    cc

pub returns-clause-told : goal.returns-clause-told
returns-clause-told c =
    let bytes = c.args.bytes.now in
    let head : SlotHead = record {
      head = head_of c.in_ok-version.version (slice_index bytes 8);
      generation = c.in_ok-generation.generation;
      base = c.in_ok-base.base;
      commands = c.number_of.result;
      parts = c.number_of-2.result;
    } in
    let has : HasPieces head bytes = pieces_read head bytes (omega arith) c.in_ok-version.ensures.letters refl c.in_ok-generation.ensures.told
    c.in_ok-base.ensures.told c.number_of.ensures c.number_of-2.ensures (c.are_zeros-filled.ensures.0 c.if-not-filled.false) in
    record { valid = c.is_valid.ensures.0 c.if-not-is_valid.false; rest = _; split = page_is head bytes has }

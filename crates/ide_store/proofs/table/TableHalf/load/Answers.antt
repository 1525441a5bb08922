use Rattle.std.proofs.Common.{◌∙◌, ◌+◌, ◌++◌, [], ◌∷◌, ap, arith, refl, subst, sym}
use Rattle.std.proofs.lemmas.Result.{err_from_is_err_and}
use Rattle.ide_steps.proofs.States.{handed-on}
use Rattle.ide_wire.specs.declared.refused.Refused.TheVariants.{NoMemory}
use Rattle.ide_journal.specs.Lists.{entry_of}
use Rattle.ide_text.specs.Parsed.{IsParsed}
use Rattle.ide_store.specs.TableCalls.{IsLoadStop, IsRefusal, after_failure, by_itself, no_memory, no_number}
use Rattle.ide_store.proofs.Sealed.{loads_program, noted_anew, one_proper, sealed_keeps, waits_one}
use Rattle.ide_store.proofs.table.TableHalf.load.Goals as goal

pub returns-then-self-clause-refused : goal.returns-then-self-clause-refused
returns-then-self-clause-refused g c = rw (← c.self.view_is) (after_failure c.if-self.true)

pub returns-then-self-ge-MOST_RECORDS-clause-refused : goal.returns-then-self-ge-MOST_RECORDS-clause-refused
returns-then-self-ge-MOST_RECORDS-clause-refused g c =
    let most = c.if-self-ge-MOST_RECORDS.true in
    let numbered = c.self.invariant.numbered in
    rw (← c.self.view_is) (by_itself c.if-self.false (no_number (omega (arith, most, numbered))))

pub returns-in_err-text-clause-refused : goal.returns-in_err-text-clause-refused
returns-in_err-text-clause-refused g c =
    let p = err_from_is_err_and c.from_residual.result c.from_residual.ensures.1 in
    let room = c.if-self-ge-MOST_RECORDS.false in
    rw (← c.self.view_is)
    (handed-on (IsRefusal _ (IsLoadStop _)) c.from_residual.result NoMemory p.0 p.1 (p.2 ∙ c.in_err-text.ensures.refused) (by_itself c.if-self.false (no_memory (omega (arith, room)))))

pub returns-in_err-raw-clause-refused : goal.returns-in_err-raw-clause-refused
returns-in_err-raw-clause-refused g c =
    let p = err_from_is_err_and c.from_residual-in_err-raw.result c.from_residual-in_err-raw.ensures.1 in
    let room = c.if-self-ge-MOST_RECORDS.false in
    rw (← c.self.view_is)
    (handed-on (IsRefusal _ (IsLoadStop _)) c.from_residual-in_err-raw.result NoMemory p.0 p.1 (p.2 ∙ c.in_err-raw.ensures.refused) (by_itself c.if-self.false (no_memory (omega (arith, room)))))

pub returns-in_err-reserve-clause-refused : goal.returns-in_err-reserve-clause-refused
returns-in_err-reserve-clause-refused g c =
    let p = err_from_is_err_and c.from_residual-in_err-reserve.result c.from_residual-in_err-reserve.ensures.1 in
    let room = c.if-self-ge-MOST_RECORDS.false in
    rw (← c.self.view_is)
    (handed-on (IsRefusal _ (IsLoadStop _)) c.from_residual-in_err-reserve.result NoMemory p.0 p.1 p.2 (by_itself c.if-self.false (no_memory (omega (arith, room)))))

pub returns-in_err-load_spelled-clause-refused : goal.returns-in_err-load_spelled-clause-refused
returns-in_err-load_spelled-clause-refused g c =
    let p = err_from_is_err_and c.from_residual-in_err-load_spelled.result c.from_residual-in_err-load_spelled.ensures.1 in
    let room = c.if-self-ge-MOST_RECORDS.false in
    rw (← c.self.view_is)
    (handed-on (IsRefusal _ (IsLoadStop _)) c.from_residual-in_err-load_spelled.result NoMemory p.0 p.1 (p.2 ∙ c.in_err-load_spelled.ensures.refused)
    (by_itself c.if-self.false (no_memory (omega (arith, room)))))

pub invariant_of-self-2 : goal.invariant_of-self-2
invariant_of-self-2 g c =
    let room = c.if-self-ge-MOST_RECORDS.false in
    let one = c.push.ensures.sealed in
    let same = c.in_ok-reserve.ensures.sealed in
    sealed_keeps c.self.inside.core c.load_spelled.new.self c.self.inside.outbox.sealed c.push.new.self.sealed _ _ _ c.self.invariant
    (noted_anew c.self.inside.core.changes c.load_spelled.new.self.changes c.self.invariant.noting c.in_ok-load_spelled.ensures.loads.changes) (one_proper (entry_of c.in_ok-raw.raw) c.in_ok-raw.ensures.spells.proper)
    (waits_one c.self.inside.outbox.waiting.items c.push.new.self.waiting.items c.in_ok-raw.raw (c.push.ensures.waiting ∙ ap (λ items. items ++ c.in_ok-raw.raw ∷ []) c.in_ok-reserve.ensures.waiting))
    (omega (arith, one, same)) (omega (arith, one, same, room))

pub returns-clause-loads : goal.returns-clause-loads
returns-clause-loads g c =
    let room = c.if-self-ge-MOST_RECORDS.false in
    rw (← c.self.view_is)
    (loads_program _ c.calls_are_acts.ensures _ _ c.cores_are_whole.ensures c.args.self.now c.self.view_is c.args.program c.as_slice.result.now (entry_of c.in_ok-raw.raw) c.push.result.number
    (subst (λ text. IsParsed text c.args.program) (c.in_ok-text.ensures.text ∙ sym c.as_slice.ensures.value) c.spelled.ensures.parsed) c.in_ok-raw.ensures.spells (omega (arith, room))
    (record {
      version = refl;
      failed = refl;
      waiting = waits_one c.self.inside.outbox.waiting.items c.push.new.self.waiting.items c.in_ok-raw.raw (c.push.ensures.waiting ∙ ap (λ items. items ++ c.in_ok-raw.raw ∷ []) c.in_ok-reserve.ensures.waiting);
      sealed = c.push.ensures.sealed ∙ ap (λ n. n + 1) c.in_ok-reserve.ensures.sealed;
    })
    (record {
      program = c.in_ok-load_spelled.ensures.loads.program;
      graph = c.in_ok-load_spelled.ensures.loads.graph;
      roots = c.in_ok-load_spelled.ensures.loads.roots;
      entries = c.in_ok-load_spelled.ensures.loads.entries;
      pending = c.in_ok-load_spelled.ensures.loads.pending;
      claims = c.in_ok-load_spelled.ensures.loads.claims;
    })
    (noted_anew c.self.inside.core.changes c.load_spelled.new.self.changes c.self.invariant.noting c.in_ok-load_spelled.ensures.loads.changes) (c.push.ensures.ticket ∙ c.in_ok-reserve.ensures.sealed))

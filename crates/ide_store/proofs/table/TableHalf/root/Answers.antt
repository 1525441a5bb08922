use Rattle.std.proofs.Common.{◌∙◌, ◌+◌, ◌++◌, ap, arith, length, refl, sym}
use Rattle.std.proofs.lemmas.Result.{err_from_is_err_and}
use Rattle.ide_steps.proofs.States.{handed-on}
use Rattle.ide_wire.specs.declared.refused.Refused.TheVariants.{NoMemory}
use Rattle.ide_journal.specs.Lists.{entries_of, entry_of}
use Rattle.std.specs.Option.{option_map}
use Rattle.ide_store.specs.TableCalls.{IsRefusal, IsRootStop, after_failure, behind_first, by_itself, last_number, memory_wanting, no_root, not_sealed}
use Rattle.ide_store.proofs.Sealed.{begins_root, behind_few, first_proper, sealed_keeps}
use Rattle.ide_store.proofs.Stops.{root_stop}
use Rattle.ide_store.proofs.table.TableHalf.root.Goals as goal

pub returns-then-self-clause-refused : goal.returns-then-self-clause-refused
returns-then-self-clause-refused g c = rw (← c.self.view_is) (after_failure c.if-self.true)

pub returns-in_err-root_of-clause-refused : goal.returns-in_err-root_of-clause-refused
returns-in_err-root_of-clause-refused g c =
    let p = err_from_is_err_and c.from_residual.result c.from_residual.ensures.1 in
    rw (← c.self.view_is)
    (handed-on (IsRefusal _ (IsRootStop _ _ c.args.name.now)) c.from_residual.result c.in_err-root_of.field-0.0 p.0 p.1 p.2
    (by_itself c.if-self.false (no_root c.in_err-root_of.ensures.refused)))

pub returns-then-self-2-clause-refused : goal.returns-then-self-2-clause-refused
returns-then-self-2-clause-refused g c = rw (← c.self.view_is) (by_itself c.if-self.false (last_number c.if-self-2.true))

pub returns-in_err-first-clause-refused : goal.returns-in_err-first-clause-refused
returns-in_err-first-clause-refused g c =
    let p = err_from_is_err_and c.from_residual-in_err-first.result c.from_residual-in_err-first.ensures.1 in
    handed-on (IsRefusal c.args.self.now (IsRootStop _ c.args.self.now c.args.name.now)) c.from_residual-in_err-first.result c.in_err-first.field-0.0 p.0 p.1 p.2
    (by_itself (ap (λ table. table.failed) (sym c.self.view_is) ∙ c.if-self.false) (not_sealed c.in_err-first.ensures.refused))

pub returns-in_err-raw-clause-refused : goal.returns-in_err-raw-clause-refused
returns-in_err-raw-clause-refused g c =
    let p = err_from_is_err_and c.from_residual-in_err-raw.result c.from_residual-in_err-raw.ensures.1 in
    handed-on (IsRefusal c.args.self.now (IsRootStop _ c.args.self.now c.args.name.now)) c.from_residual-in_err-raw.result c.in_err-raw.field-0.0 p.0 p.1 p.2
    (by_itself (ap (λ table. table.failed) (sym c.self.view_is) ∙ c.if-self.false) c.in_err-raw.ensures.refused)

pub returns-in_err-reserve-clause-refused : goal.returns-in_err-reserve-clause-refused
returns-in_err-reserve-clause-refused g c =
    let p = err_from_is_err_and c.from_residual-in_err-reserve.result c.from_residual-in_err-reserve.ensures.1 in
    handed-on (IsRefusal c.args.self.now (IsRootStop _ c.args.self.now c.args.name.now)) c.from_residual-in_err-reserve.result NoMemory p.0 p.1 p.2
    (by_itself (ap (λ table. table.failed) (sym c.self.view_is) ∙ c.if-self.false) memory_wanting)

pub returns-in_err-root-clause-refused : goal.returns-in_err-root-clause-refused
returns-in_err-root-clause-refused g c =
    let p = err_from_is_err_and c.from_residual-in_err-root.result c.from_residual-in_err-root.ensures.1 in
    rw (← c.self.view_is)
    (handed-on (IsRefusal _ (IsRootStop _ _ c.args.name.now)) c.from_residual-in_err-root.result c.in_err-root.field-0.0 p.0 p.1 p.2
    (by_itself c.if-self.false (root_stop _ _ c.args.name.now c.in_err-root.field-0.0 c.in_err-root.ensures.refused)))

pub invariant_of-self-2 : goal.invariant_of-self-2
invariant_of-self-2 g c =
    let first = option_map entry_of c.in_ok-first.first in
    let raw = entry_of c.in_ok-raw.raw in
    let room = c.if-self-2.false in
    let more = c.push_behind.ensures.sealed in
    let same = c.in_ok-reserve.ensures.sealed in
    let waits = c.push_behind.ensures.waiting ∙ ap (λ items. entries_of items ++ behind_first first raw) c.in_ok-reserve.ensures.waiting in
    let few = behind_few first raw in
    sealed_keeps c.self.inside.core c.note_anew.new.self c.self.inside.outbox.sealed c.push_behind.new.self.sealed _ (behind_first first raw) _ c.self.invariant
    (ap (λ core. core.changes) c.note_anew.ensures.stays) (first_proper _ c.args.self.now first raw c.in_ok-first.ensures.spells c.in_ok-raw.ensures.spells.proper)
    waits (omega (arith, more, same)) (omega (arith, more, same, few, room))

pub returns-clause-begins : goal.returns-clause-begins
returns-clause-begins g c =
    let first = option_map entry_of c.in_ok-first.first in
    let raw = entry_of c.in_ok-raw.raw in
    let room = c.if-self-2.false in
    let more = c.push_behind.ensures.sealed in
    let same = c.in_ok-reserve.ensures.sealed in
    let waits = c.push_behind.ensures.waiting ∙ ap (λ items. entries_of items ++ behind_first first raw) c.in_ok-reserve.ensures.waiting in
    rw (← c.self.view_is)
    (begins_root _ c.calls_are_acts.ensures _ _ c.cores_are_whole.ensures c.args.self.now c.self.view_is c.args.name.now first raw c.root.new.self c.push_behind.result.number
    c.in_ok-first.ensures.spells c.in_ok-raw.ensures.spells (omega (arith, room)) c.in_ok-root.ensures.begun c.note_anew.ensures.stays
    (record { version = refl; failed = refl; waiting = waits; sealed = more ∙ ap (λ n. n + length (behind_first first raw)) same }) c.push_behind.ensures.ticket)

pub returns-clause-few : goal.returns-clause-few
returns-clause-few g c =
    let room = c.if-self-2.false in
    let more = c.push_behind.ensures.sealed in
    let same = c.in_ok-reserve.ensures.sealed in
    let few = behind_few (option_map entry_of c.in_ok-first.first) (entry_of c.in_ok-raw.raw) in
    omega (arith, more, same, few, room)

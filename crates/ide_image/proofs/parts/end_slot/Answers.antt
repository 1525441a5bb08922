use Rattle.std.proofs.Common.{◌≡◌, ◌+◌, false, cond, arith, subst, sym, ap, ◌∙◌}
use Rattle.std.specs.Option.{is_some}
use Rattle.std.specs.Prelude.{nat_eq}
use Rattle.ide_image.specs.ChangeLog.{noted_at}
use Rattle.ide_image.specs.Indexed.{place_of_key}
use Rattle.ide_image.specs.KeyedImage.{entry_by}
use Rattle.ide_image.specs.Notes.{noted, with_note}
use Rattle.ide_image.specs.Queue.{SetsMark, held_at, one_if, pending_at}
use Rattle.ide_image.proofs.Agree.{at-index}
use Rattle.ide_image.proofs.Before.{at-some}
use Rattle.ide_image.proofs.Marked.{at-same}
use Rattle.ide_image.proofs.Stack.{pending-there}
use Rattle.ide_image.proofs.parts.end_slot.Goals as goal

pub cell_of-slot-requires : goal.cell_of-slot-requires
cell_of-slot-requires g c = record { cell = at-some (pending_at c.args.queue.now.list) (place_of_key c.args.indexed.now c.args.key) c.requires.pending }

pub note_now-requires-clause-slot : goal.note_now-requires-clause-slot
note_now-requires-clause-slot g c =
    let some = at-some (pending_at c.args.queue.now.list) (place_of_key c.args.indexed.now c.args.key) c.requires.pending in
    omega (arith, some, c.cell_of-slot.ensures.place)

pub note_now-requires-clause-listed : goal.note_now-requires-clause-listed
note_now-requires-clause-listed g c =
    let place = place_of_key c.args.indexed.now c.args.key in
    at-same (noted_at c.args.changes.now) (noted_at c.make_room.new.self) place c.make_room.ensures.marks
    ∙ c.requires.listed
    ∙ ap (λ list. is_some (noted list c.args.key)) (sym c.make_room.ensures.list)

pub settle-requires : goal.settle-requires
settle-requires g c =
    let place = place_of_key c.args.indexed.now c.args.key in
    let some = at-some (pending_at c.args.queue.now.list) place c.requires.pending in
    let stands : c.cell_of-slot.result + 1 ≡ place = omega (arith, some, c.cell_of-slot.ensures.place) in
    record { there = pending-there c.args.queue.now.list c.cell_of-slot.result (sym (at-index (pending_at c.args.queue.now.list) place c.cell_of-slot.result stands) ∙ c.requires.pending) }

pub returns-clause-pending : goal.returns-clause-pending
returns-clause-pending g c = λ slot is.
    let some = at-some (pending_at c.args.queue.now.list) (place_of_key c.args.indexed.now c.args.key) c.requires.pending in
    let same : c.cell_of-slot.result ≡ slot = omega (arith, is, some, c.cell_of-slot.ensures.place) in
    subst (λ s. SetsMark s false (pending_at c.args.queue.now.list) (pending_at c.settle.new.self.list)) same c.settle.ensures.pending

pub returns-clause-held : goal.returns-clause-held
returns-clause-held g c = λ slot is.
    let some = at-some (pending_at c.args.queue.now.list) (place_of_key c.args.indexed.now c.args.key) c.requires.pending in
    let same : c.cell_of-slot.result ≡ slot = omega (arith, is, some, c.cell_of-slot.ensures.place) in
    subst (λ s. SetsMark s false (held_at c.args.queue.now.list) (held_at c.settle.new.self.list)) same c.settle.ensures.held

pub returns-clause-count : goal.returns-clause-count
returns-clause-count g c =
    let place = place_of_key c.args.indexed.now c.args.key in
    let some = at-some (pending_at c.args.queue.now.list) place c.requires.pending in
    let stands : c.cell_of-slot.result + 1 ≡ place = omega (arith, some, c.cell_of-slot.ensures.place) in
    let one : one_if (pending_at c.args.queue.now.list c.cell_of-slot.result) ≡ 1 =
    ap one_if (sym (at-index (pending_at c.args.queue.now.list) place c.cell_of-slot.result stands) ∙ c.requires.pending) in
    omega (arith, one, c.settle.ensures.count)

pub returns-clause-list : goal.returns-clause-list
returns-clause-list g c =
    c.note_now.ensures.list ∙ ap (λ list. with_note list c.args.key (entry_by c.args.indexed.now c.args.queue.now c.args.key)) c.make_room.ensures.list

pub returns-clause-marks : goal.returns-clause-marks
returns-clause-marks g c = λ slot is n.
    let some = at-some (pending_at c.args.queue.now.list) (place_of_key c.args.indexed.now c.args.key) c.requires.pending in
    let same : c.cell_of-slot.result ≡ slot = omega (arith, is, some, c.cell_of-slot.ensures.place) in
    c.note_now.ensures.marks n
    ∙ ap (λ b. cond (nat_eq c.cell_of-slot.result n) b (noted_at c.make_room.new.self n)) (ap is_some c.make_room.ensures.list)
    ∙ ap (cond (nat_eq c.cell_of-slot.result n) (is_some c.args.changes.now.list)) (c.make_room.ensures.marks n)
    ∙ ap (λ s. cond (nat_eq s n) (is_some c.args.changes.now.list) (noted_at c.args.changes.now n)) same

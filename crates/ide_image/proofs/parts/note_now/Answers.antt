use Rattle.std.proofs.Common.{rules, ◌≡◌, false, sym, ap, ◌∙◌}
use Rattle.std.specs.Option.{is_some}
use Rattle.std.specs.Prelude.{◌&&◌, not}
use Rattle.ide_image.specs.ChangeLog.{noted_at}
use Rattle.ide_image.specs.Indexed.{function_of, place_of_key}
use Rattle.ide_image.specs.Queue.{pending_at}
use Rattle.ide_image.proofs.Agree.{at-index, note-idle, noted-idle}
use Rattle.ide_image.proofs.Marked.{still-set}
use Rattle.ide_image.proofs.parts.note_now.Goals as goal

pub note-requires-clause-mark : goal.note-requires-clause-mark
note-requires-clause-mark g c =
    sym (at-index (noted_at c.args.changes.now) (place_of_key c.args.indexed.now c.args.key) c.args.slot c.requires.slot) ∙ c.requires.listed

pub returns-then-not-wants-clause-list : goal.returns-then-not-wants-clause-list
returns-then-not-wants-clause-list g c =
    let changes = c.args.changes.now in
    let listed = sym (at-index (noted_at changes) (place_of_key c.args.indexed.now c.args.key) c.args.slot c.requires.slot) ∙ c.requires.listed in
    let idle : (is_some changes.list && not (noted_at changes c.args.slot)) ≡ false = search rules in
    note-idle changes.list c.args.key _ (ap (λ b. is_some changes.list && not b) (sym listed) ∙ idle)

pub returns-then-not-wants-clause-marks : goal.returns-then-not-wants-clause-marks
returns-then-not-wants-clause-marks g c =
    let changes = c.args.changes.now in
    let listed = sym (at-index (noted_at changes) (place_of_key c.args.indexed.now c.args.key) c.args.slot c.requires.slot) ∙ c.requires.listed in
    let idle : (is_some changes.list && not (noted_at changes c.args.slot)) ≡ false = search rules in
    still-set c.args.slot (is_some changes.list) (noted_at changes)
    (listed ∙ noted-idle changes.list c.args.key (ap (λ b. is_some changes.list && not b) (sym listed) ∙ idle))

pub returns-clause-list : goal.returns-clause-list
returns-clause-list g c =
    let function : c.function_at.result ≡ function_of c.args.indexed.now.cells c.args.key = c.function_at.ensures c.args.key c.requires.slot in
    let pending = at-index (pending_at c.args.queue.now.list) (place_of_key c.args.indexed.now c.args.key) c.args.slot c.requires.slot ∙ sym c.is_pending.ensures in
    let noted = c.note.ensures.list in
    cc (function, pending, noted)

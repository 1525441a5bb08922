use Rattle.std.proofs.Common.{◌≡◌, sym, ap, ◌∙◌, true, false, None, Some}
use Rattle.ide_image.specs.Indexed.{function_of, place_of_key}
use Rattle.ide_image.specs.Left.{left_of}
use Rattle.ide_image.specs.KeyedImage.{pending_by_slot}
use Rattle.ide_image.specs.Queue.{pending_at}
use Rattle.ide_image.proofs.Agree.{at-index}
use Rattle.ide_image.proofs.Left.{left-as}
use Rattle.ide_image.proofs.Ranks.{item-at}
use Rattle.ide_image.proofs.parts.left_at.Goals as goal

pub returns-in_err-now-clause-left : goal.returns-in_err-now-clause-left
returns-in_err-now-clause-left g c =
    let none : function_of c.args.indexed.now.cells c.args.key ≡ None = sym (c.in_err-now.ensures c.args.key (sym c.requires.slot)) in
    c.from_residual.ensures
    ∙ ap (λ o. left_of g.F.PartialEq.eq c.args.key o (pending_by_slot c.args.indexed.now c.args.queue.now c.args.key) c.args.before) (sym none)

pub returns-then-is_left-clause-left : goal.returns-then-is_left-clause-left
returns-then-is_left-clause-left g c =
    let place = place_of_key c.args.indexed.now c.args.key in
    let now : function_of c.args.indexed.now.cells c.args.key ≡ Some c.in_ok-now.now = sym (c.in_ok-now.ensures c.args.key (sym c.requires.slot)) in
    let waits : pending_by_slot c.args.indexed.now c.args.queue.now c.args.key ≡ c.is_pending-pending.result =
    at-index (pending_at c.args.queue.now.list) place c.args.slot (sym c.requires.slot) ∙ sym c.is_pending-pending.ensures in
    left-as g.F.PartialEq.eq c.args.key _ c.in_ok-now.now _ c.is_pending-pending.result c.args.before true now waits c.if-is_left.ensures

pub returns-else-is_left-clause-left : goal.returns-else-is_left-clause-left
returns-else-is_left-clause-left g c =
    let place = place_of_key c.args.indexed.now c.args.key in
    let now : function_of c.args.indexed.now.cells c.args.key ≡ Some c.in_ok-now.now = sym (c.in_ok-now.ensures c.args.key (sym c.requires.slot)) in
    let waits : pending_by_slot c.args.indexed.now c.args.queue.now c.args.key ≡ c.is_pending-pending.result =
    at-index (pending_at c.args.queue.now.list) place c.args.slot (sym c.requires.slot) ∙ sym c.is_pending-pending.ensures in
    left-as g.F.PartialEq.eq c.args.key _ c.in_ok-now.now _ c.is_pending-pending.result c.args.before false now waits c.if-is_left.ensures

pub returns-then-is_left-clause-item : goal.returns-then-is_left-clause-item
returns-then-is_left-clause-item g c =
    item-at c.args.indexed.now c.args.queue.now c.args.key c.args.slot c.in_ok-now.now c.is_pending-pending.result c.requires.slot
    (sym (c.in_ok-now.ensures c.args.key (sym c.requires.slot))) c.is_pending-pending.ensures

use Rattle.std.proofs.Common.{◌≤◌, ◌+◌, ap, arith}
use Rattle.ide_tasks.specs.Work.{WorkData}
use Rattle.ide_service.specs.Refusing.{no_part}
use Rattle.ide_service.proofs.Counted.{more_behind}
use Rattle.ide_service.proofs.hands.parts_with_room.Goals as goal

pub loop-preserved : goal.loop-preserved
loop-preserved g c =
    let before = c.loop.invariant.2 in
    let further = c.in-Err.ensures.further in
    let counted = ap (λ (w : WorkData _). w.done) before.2 in
    let few : before.0 + further.0 ≤ c.args.most = omega (arith, before.1, further.1, counted, c.done.ensures, c.done-before.ensures) in
    (tt, tt, (before.0 + further.0, few, more_behind c.args.work.now c.loop.work c.parts.new.work before.0 further.0 before.2 further.2))

pub returns-then-not-is_full-clause-refused : goal.returns-then-not-is_full-clause-refused
returns-then-not-is_full-clause-refused g c =
    no_part c.parts.new.work (λ full. let no = c.if-not-is_full.ensures.1 full in cc (no)) c.in-Err.ensures.cause

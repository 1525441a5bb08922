use Rattle.ide_service.specs.Refusing.{no_end}
use Rattle.ide_service.proofs.hands.finish_with_room.Goals as goal

pub returns-then-not-is_full-clause-refused : goal.returns-then-not-is_full-clause-refused
returns-then-not-is_full-clause-refused g c =
    no_end c.args.work.now (λ full. let no = c.if-not-is_full.ensures.1 full in cc (no)) (c.loop.hands, c.in-Err.ensures.cause)

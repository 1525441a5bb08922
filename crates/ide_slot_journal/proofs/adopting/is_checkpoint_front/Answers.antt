use Rattle.std.proofs.Common.{ap, arith}
use Rattle.std.proofs.lemmas.Bool.{lt-ltb, ltb-true}
use Rattle.ide_slots.specs.Slot.{SlotHead}
use Rattle.ide_slots.proofs.OneCurrent.{one_told}
use Rattle.ide_slot_journal.proofs.adopting.is_checkpoint_front.Goals as goal

pub returns-in-Some : goal.returns-in-Some
returns-in-Some c =
    let told = c.in-Some.ensures.told in
    let same = ap (λ (h : SlotHead). h.generation) c.head.view_is in (
      λ later.
          let more = ltb-true 0 c.head.inside.generation later in
          record { told = c.in-Some.head; tells = told; later = omega (arith, more, same); opened = c.if-front-eq0.false },
      λ has.
          let one = one_told has.told c.in-Some.head c.args.front.now has.tells told in
          let generation = ap (λ (h : SlotHead). h.generation) one in
          lt-ltb 0 c.head.inside.generation (omega (arith, generation, has.later, same)),
    )

pub returns-in-None : goal.returns-in-None
returns-in-None c = (λ no. cc (no), λ has. absurd (c.in-None.ensures.none has.told has.tells))

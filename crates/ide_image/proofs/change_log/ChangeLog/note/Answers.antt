use Rattle.std.proofs.Common.{◌≡◌, ◌<◌, sym, ◌∙◌, ap, arith, length, Some, true, cond}
use Rattle.std.specs.Prelude.{nat_eq}
use Rattle.std.specs.Option.{is_some}
use Rattle.ide_image.specs.ChangeLog.{ChangeLog, list_of, noted_at, note_room}
use Rattle.ide_image.proofs.Stamps.{length-set, marks-set, past-set}
use Rattle.ide_image.proofs.change_log.ChangeLog.note.Goals as goal

pub invariant_of-self : goal.invariant_of-self
invariant_of-self g c = record {
  begun = c.self.invariant.begun;
  past = past-set c.self.inside.stamps.items c.args.slot c.self.inside.epoch c.self.invariant.past;
}

pub returns-then-not-is_noted-clause-marks : goal.returns-then-not-is_noted-clause-marks
returns-then-not-is_noted-clause-marks g c = λ n.
    let noting : is_some c.args.self.now.list ≡ true = ap (λ (v : ChangeLog _). is_some v.list) (sym c.self.view_is) ∙ ap (λ o. is_some (list_of o)) c.in-Some.is in
    let stamped = c.requires.room.stamped noting in
    let same : c.args.self.now.stamps ≡ c.self.inside.stamps.items = ap (λ (v : ChangeLog _). v.stamps) (sym c.self.view_is) in
    let long : length c.args.self.now.stamps ≡ length c.self.inside.stamps.items = ap length same in
    let within : c.args.slot < length c.self.inside.stamps.items = omega (arith, stamped, long) in
    marks-set c.self.inside.stamps.items c.args.slot c.self.inside.epoch within n
    ∙ ap (λ (v : ChangeLog _). cond (nat_eq c.args.slot n) true (noted_at v n)) c.self.view_is
    ∙ ap (λ b. cond (nat_eq c.args.slot n) b (noted_at c.args.self.now n)) (sym noting)

pub returns-then-not-is_noted-clause-room : goal.returns-then-not-is_noted-clause-room
returns-then-not-is_noted-clause-room g c = λ n s room.
    let noting : is_some c.args.self.now.list ≡ true = ap (λ (v : ChangeLog _). is_some v.list) (sym c.self.view_is) ∙ ap (λ o. is_some (list_of o)) c.in-Some.is in
    let free = room.free noting in
    let stamped = room.stamped noting in
    let same : c.args.self.now.room ≡ note_room c.self.inside.list c.self.inside.slots = ap (λ (v : ChangeLog _). v.room) (sym c.self.view_is) in
    let some : note_room c.self.inside.list c.self.inside.slots ≡ note_room (Some c.in-Some.list) c.self.inside.slots = ap (λ o. note_room o c.self.inside.slots) c.in-Some.is in
    let long : length c.args.self.now.stamps ≡ length c.self.inside.stamps.items = ap (λ (v : ChangeLog _). length v.stamps) (sym c.self.view_is) in
    let kept = length-set c.self.inside.stamps.items c.args.slot c.self.inside.epoch in
    record {
      free = λ _. omega (arith, free, same, some, c.push.ensures.room, c.push_reserved.ensures.len, c.push_reserved.ensures.capacity);
      stamped = λ _. omega (arith, stamped, long, kept);
    }

pub returns-else-not-is_noted-clause-room : goal.returns-else-not-is_noted-clause-room
returns-else-not-is_noted-clause-room g c = λ n s room. record {
  free = λ is. let noting : is_some c.args.self.now.list ≡ true = ap (λ (v : ChangeLog _). is_some v.list) (sym c.self.view_is) ∙ ap (λ o. is_some (list_of o)) c.in-Some.is in
      let free = room.free noting in
      let same : c.args.self.now.room ≡ note_room c.self.inside.list c.self.inside.slots = ap (λ (v : ChangeLog _). v.room) (sym c.self.view_is) in
      let some : note_room c.self.inside.list c.self.inside.slots ≡ note_room (Some c.in-Some.list) c.self.inside.slots = ap (λ o. note_room o c.self.inside.slots) c.in-Some.is in
      omega (arith, free, same, some);
  stamped = λ is. let noting : is_some c.args.self.now.list ≡ true = ap (λ (v : ChangeLog _). is_some v.list) (sym c.self.view_is) ∙ ap (λ o. is_some (list_of o)) c.in-Some.is in
      let stamped = room.stamped noting in
      let long : length c.args.self.now.stamps ≡ length c.self.inside.stamps.items = ap (λ (v : ChangeLog _). length v.stamps) (sym c.self.view_is) in
      omega (arith, stamped, long);
}

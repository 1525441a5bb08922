use Rattle.std.proofs.Common.{◌+◌, ◌<◌, ◌++◌, [], sym, ap, ◌∙◌, arith, drop, length}
use Rattle.std.specs.Prelude.{vec_capacity, vec_len}
use Rattle.std.specs.Global.{Vec}
use Rattle.std.specs.List.{cons_option, filter_map}
use Rattle.std.proofs.lemmas.List.{append-nil}
use Rattle.ide_image.specs.Ranks.{note_slot}
use Rattle.ide_image.proofs.Left.{got, next-listed}
use Rattle.ide_image.proofs.noted_slots.NotedSlots.told_slots.Goals as goal
use Rattle.ide_image.proofs.noted_slots.NotedSlots.told_slots.Goals.{in-Some, in_default}

pub loop-index-preserved : goal.loop-index-preserved
loop-index-preserved g c =
    let told = note_slot c.args.self.now.slots.now in
    let numbers = c.args.numbers.now in
    let index = c.loop-index.index in
    let done = c.loop-index.slots.items in
    let rest = filter_map told (drop (index + 1) numbers) in
    let within : index < length numbers = omega (arith, c.loop-index-test.true) in
    let next = next-listed told done numbers index c.slot_told.result within (λ x is. c.slot_told.ensures ∙ ap told (got numbers index 0 x is)) in
    let listed = next ∙ c.loop-index.invariant.listed in
    record {
      listed = elim c.match-slot_told.branch [
        | in-Some w ↦
            ap (λ (v : Vec _). v.items ++ rest) w.slots-is
            ∙ ap (λ xs. xs ++ rest) w.push_reserved.ensures.items
            ∙ ap (λ o. (done ++ cons_option o []) ++ rest) (sym w.in-Some.is)
            ∙ listed
        | in_default w ↦
            ap (λ (v : Vec _). v.items ++ rest) w.slots-is
            ∙ ap (λ xs. xs ++ rest) (sym (append-nil done))
            ∙ ap (λ o. (done ++ cons_option o []) ++ rest) (sym w.in_default.is)
            ∙ listed
      ];
      few = elim c.match-slot_told.branch [
        | in-Some w ↦ (let len = ap vec_len w.slots-is in omega (arith, len, w.push_reserved.ensures.len, c.loop-index.invariant.few))
        | in_default w ↦ (let len = ap vec_len w.slots-is in omega (arith, len, c.loop-index.invariant.few))
      ];
      room = elim c.match-slot_told.branch [
        | in-Some w ↦ (let kept = ap vec_capacity w.slots-is in omega (arith, kept, w.push_reserved.ensures.capacity, c.loop-index.invariant.room))
        | in_default w ↦ (let kept = ap vec_capacity w.slots-is in omega (arith, kept, c.loop-index.invariant.room))
      ];
    }

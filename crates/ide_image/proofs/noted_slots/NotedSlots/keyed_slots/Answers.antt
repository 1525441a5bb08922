use Rattle.std.proofs.Common.{◌+◌, ◌<◌, ◌≤◌, ◌++◌, ◌∷◌, [], sym, ap, subst, ◌∙◌, arith, drop, length}
use Rattle.std.specs.Prelude.{vec_capacity, vec_len}
use Rattle.std.specs.Global.{Vec}
use Rattle.std.specs.List.{All, cons_option, filter_map}
use Rattle.std.proofs.lemmas.List.{append-nil, drop_all}
use Rattle.std.proofs.lemmas.List.Elements.{All-push, filter_map-append}
use Rattle.ide_wire.specs.declared.key.Key.{Key}
use Rattle.ide_image.specs.declared.entry.Entry.{Entry}
use Rattle.ide_image.specs.Left.{left_by_slot}
use Rattle.ide_image.specs.Ordered.{keyed_item}
use Rattle.ide_image.specs.Ranks.{IsKeyed, item_beside, left_by_slots}
use Rattle.ide_image.proofs.Left.{next-listed}
use Rattle.ide_image.proofs.noted_slots.NotedSlots.keyed_slots.Goals as goal
use Rattle.ide_image.proofs.noted_slots.NotedSlots.keyed_slots.Goals.{in-Some, in_default}

pub loop-index-preserved : goal.loop-index-preserved
loop-index-preserved g c =
    let indexed = c.args.self.now.indexed.now in
    let marks = c.args.self.now.queue.now in
    let left = λ (note : Key × Entry _). left_by_slot g.F.PartialEq.eq indexed marks note.0 note.1 in
    let told = item_beside indexed marks in
    let notes = c.args.self.now.notes.now.items in
    let index = c.loop-index.index in
    let keyed = c.loop-index.keyed.items in
    let done = filter_map told keyed in
    let rest = filter_map left (drop (index + 1) notes) in
    let within : index < length notes = omega (arith, c.loop-index-test.true) in
    let next = next-listed left done notes index (keyed_item c.args.self.now c.keyed_at.result) within c.keyed_at.ensures.left in
    let listed = next ∙ c.loop-index.invariant.listed in
    record {
      listed = elim c.match-keyed_at.branch [
        | in-Some w ↦
            ap (λ (v : Vec _). filter_map told v.items ++ rest) w.keyed-is
            ∙ ap (λ ks. filter_map told ks ++ rest) w.push_reserved.ensures.items
            ∙ ap (λ xs. xs ++ rest) (filter_map-append told keyed (w.in-Some.slot ∷ []))
            ∙ ap (λ o. (done ++ cons_option (keyed_item c.args.self.now o) []) ++ rest) (sym w.in-Some.is)
            ∙ listed
        | in_default w ↦
            ap (λ (v : Vec _). filter_map told v.items ++ rest) w.keyed-is
            ∙ ap (λ xs. xs ++ rest) (sym (append-nil done))
            ∙ ap (λ o. (done ++ cons_option (keyed_item c.args.self.now o) []) ++ rest) (sym w.in_default.is)
            ∙ listed
      ];
      each = elim c.match-keyed_at.branch [
        | in-Some w ↦
            subst (All (IsKeyed indexed marks)) (sym (ap (λ (v : Vec _). v.items) w.keyed-is ∙ w.push_reserved.ensures.items))
            (All-push (IsKeyed indexed marks) keyed w.in-Some.slot c.loop-index.invariant.each w.in-Some.ensures.keyed)
        | in_default w ↦ subst (All (IsKeyed indexed marks)) (sym (ap (λ (v : Vec _). v.items) w.keyed-is)) c.loop-index.invariant.each
      ];
      few = elim c.match-keyed_at.branch [
        | in-Some w ↦ (let len = ap vec_len w.keyed-is in omega (arith, len, w.push_reserved.ensures.len, c.loop-index.invariant.few))
        | in_default w ↦ (let len = ap vec_len w.keyed-is in omega (arith, len, c.loop-index.invariant.few))
      ];
      room = elim c.match-keyed_at.branch [
        | in-Some w ↦ (let kept = ap vec_capacity w.keyed-is in omega (arith, kept, w.push_reserved.ensures.capacity, c.loop-index.invariant.room))
        | in_default w ↦ (let kept = ap vec_capacity w.keyed-is in omega (arith, kept, c.loop-index.invariant.room))
      ];
    }

pub returns : goal.returns
returns g c =
    let indexed = c.args.self.now.indexed.now in
    let marks = c.args.self.now.queue.now in
    let done = filter_map (item_beside indexed marks) c.loop-index.keyed.items in
    let notes = c.args.self.now.notes.now.items in
    let all : length notes ≤ c.loop-index.index = omega (arith, c.loop-index-test.false) in
    record {
      listed =
          sym (append-nil done)
          ∙ ap (λ xs. done ++ left_by_slots g.F.PartialEq.eq indexed marks xs) (sym (drop_all c.loop-index.index notes all))
          ∙ c.loop-index.invariant.listed;
      each = c.loop-index.invariant.each;
    }

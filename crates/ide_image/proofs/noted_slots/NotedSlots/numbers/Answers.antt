use Rattle.std.proofs.Common.{◌≡◌, ◌+◌, ◌<◌, ◌≤◌, ◌++◌, ◌∷◌, [], Some, sym, ap, subst, ◌∙◌, arith, drop, length}
use Rattle.std.specs.Prelude.{slice_get, vec_capacity, vec_len}
use Rattle.std.specs.Global.{Vec}
use Rattle.std.specs.List.{All, cons_option, filter_map}
use Rattle.std.proofs.lemmas.List.{append-nil, drop_all}
use Rattle.std.proofs.lemmas.List.Elements.{All-append, All-cons, All-nil, filter_map-append}
use Rattle.ide_wire.specs.declared.key.Key.{Key}
use Rattle.ide_image.specs.declared.entry.Entry.{Entry}
use Rattle.ide_image.specs.Left.{left_by_slot}
use Rattle.ide_image.specs.Ranks.{IsNumber, item_of, item_told, left_by_slots}
use Rattle.ide_image.proofs.Left.{next-listed}
use Rattle.ide_image.proofs.noted_slots.NotedSlots.numbers.Goals as goal
use Rattle.ide_image.proofs.noted_slots.NotedSlots.numbers.Goals.{in-Some+in-Some-number_of, in_default}

pub loop-index-preserved : goal.loop-index-preserved
loop-index-preserved g c =
    let left = λ (note : Key × Entry _). left_by_slot g.F.PartialEq.eq c.args.self.now.indexed.now c.args.self.now.queue.now note.0 note.1 in
    let told = item_told c.args.self.now.indexed.now c.args.self.now.queue.now c.args.self.now.slots.now in
    let notes = c.args.self.now.notes.now.items in
    let index = c.loop-index.index in
    let numbers = c.loop-index.numbers.items in
    let done = filter_map told numbers in
    let rest = filter_map left (drop (index + 1) notes) in
    let within : index < length notes = omega (arith, c.loop-index-test.true) in
    let next = next-listed left done notes index c.left_at.result within c.left_at.ensures.left in
    let listed = next ∙ c.loop-index.invariant.listed in
    record {
      listed = elim c.match-left_at.branch [
        | in-Some+in-Some-number_of w ↦
            (let number = w.in-Some-number_of.number in
            let is : told number ≡ Some w.in-Some.item =
            ap (λ k. item_of c.args.self.now.indexed.now c.args.self.now.queue.now (slice_get c.args.self.now.slots.now k)) w.in-Some-number_of.ensures.low ∙ w.in-Some.ensures.item in
            ap (λ (v : Vec _). filter_map told v.items ++ rest) w.numbers-is
            ∙ ap (λ ns. filter_map told ns ++ rest) w.push_reserved.ensures.items
            ∙ ap (λ xs. xs ++ rest) (filter_map-append told numbers (number ∷ []))
            ∙ ap (λ o. (done ++ cons_option o []) ++ rest) (is ∙ sym w.in-Some.is)
            ∙ listed)
        | in_default w ↦
            ap (λ (v : Vec _). filter_map told v.items ++ rest) w.numbers-is
            ∙ ap (λ xs. xs ++ rest) (sym (append-nil done))
            ∙ ap (λ o. (done ++ cons_option o []) ++ rest) (sym w.in_default.is)
            ∙ listed
      ];
      each = elim c.match-left_at.branch [
        | in-Some+in-Some-number_of w ↦
            (let number = w.in-Some-number_of.number in
            let is : told number ≡ Some w.in-Some.item =
            ap (λ k. item_of c.args.self.now.indexed.now c.args.self.now.queue.now (slice_get c.args.self.now.slots.now k)) w.in-Some-number_of.ensures.low ∙ w.in-Some.ensures.item in
            let one : IsNumber told number =
            record { item = w.in-Some.item; is = is; ranked = w.in-Some-number_of.ensures.ranked; rank = w.in-Some-number_of.ensures.rank } in
            let all = All-append (IsNumber told) numbers (number ∷ []) c.loop-index.invariant.each (All-cons (IsNumber told) number [] one (All-nil (IsNumber told))) in
            subst (All (IsNumber told)) (sym (ap (λ (v : Vec _). v.items) w.numbers-is ∙ w.push_reserved.ensures.items)) all)
        | in_default w ↦ subst (All (IsNumber told)) (sym (ap (λ (v : Vec _). v.items) w.numbers-is)) c.loop-index.invariant.each
      ];
      few = elim c.match-left_at.branch [
        | in-Some+in-Some-number_of w ↦ (let len = ap vec_len w.numbers-is in omega (arith, len, w.push_reserved.ensures.len, c.loop-index.invariant.few))
        | in_default w ↦ (let len = ap vec_len w.numbers-is in omega (arith, len, c.loop-index.invariant.few))
      ];
      room = elim c.match-left_at.branch [
        | in-Some+in-Some-number_of w ↦ (let kept = ap vec_capacity w.numbers-is in omega (arith, kept, w.push_reserved.ensures.capacity, c.loop-index.invariant.room))
        | in_default w ↦ (let kept = ap vec_capacity w.numbers-is in omega (arith, kept, c.loop-index.invariant.room))
      ];
    }

pub returns : goal.returns
returns g c =
    let done = filter_map (item_told c.args.self.now.indexed.now c.args.self.now.queue.now c.args.self.now.slots.now) c.loop-index.numbers.items in
    let notes = c.args.self.now.notes.now.items in
    let all : length notes ≤ c.loop-index.index = omega (arith, c.loop-index-test.false) in
    record {
      listed =
          sym (append-nil done)
          ∙ ap (λ xs. done ++ left_by_slots g.F.PartialEq.eq c.args.self.now.indexed.now c.args.self.now.queue.now xs) (sym (drop_all c.loop-index.index notes all))
          ∙ c.loop-index.invariant.listed;
      each = c.loop-index.invariant.each;
    }

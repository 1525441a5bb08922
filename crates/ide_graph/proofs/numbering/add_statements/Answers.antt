use Rattle.std.proofs.Common.{◌≡◌, ℕ, ◌+◌, List, [], ◌∷◌, ◌++◌, length, take, ◌∙◌, sym, ap, refl, arith}
use Rattle.std.specs.List.{flat_map}
use Rattle.std.proofs.lemmas.List.{length-map}
use Rattle.std.proofs.lemmas.Option.{slice_get_read}
use Rattle.ide_text.specs.declared.program.Statement.{Statement}
use Rattle.ide_graph.proofs.RoomLemmas.{room_before, some_spot}
use Rattle.ide_graph.specs.Numbers.{spots_on, label_among, statement, return_site}
use Rattle.ide_graph.specs.Numbering.{nodes_at, nodes_in, node_value}
use Rattle.ide_text.specs.Places.{place_of}
use Rattle.ide_graph.proofs.StatementLemmas.{front_more, nodes_more, next_node, labels_more, labels_same, plain_spots, plain_declares, label_spots, call_spots, call_declares, two_nodes}
use Rattle.ide_graph.proofs.numbering.add_statements.Goals as goal
use Rattle.ide_graph.proofs.numbering.add_statements.Goals.{in-At+in_ok-add-in-At, in-Call+in_ok-add_spot-in-Call, in_default}

-- the numbers suffice for a statement, and for the return site of a call
pub add_spot-requires-clause-few : goal.add_spot-requires-clause-few
add_spot-requires-clause-few c =
    let ss = c.args.statements.now in
    let i = c.loop-statement.statement-index in
    let s = c.statement-item.result in
    let at = slice_get_read ss (length ss) i s refl c.loop-statement-test.true c.statement-item.is in
    omega (arith, room_before c.loop-statement.spots.items c.args.spots.now.items c.args.procedure ss i s c.loop-statement.invariant.added at, some_spot s, c.requires.few)

pub add_spot-requires-in-Call-clause-few : goal.add_spot-requires-in-Call-clause-few
add_spot-requires-in-Call-clause-few c =
    let ss = c.args.statements.now in
    let i = c.loop-statement.statement-index in
    let s = c.statement-item.result in
    let at = slice_get_read ss (length ss) i s refl c.loop-statement-test.true c.statement-item.is in
    let two : length (spots_on s) ≡ 2 = ap (λ (t : Statement). length (spots_on t)) c.in-Call.is in
    omega (arith, room_before c.loop-statement.spots.items c.args.spots.now.items c.args.procedure ss i s c.loop-statement.invariant.added at, two, c.in_ok-node.ensures.longer, c.requires.few)

pub loop-statement-preserved : goal.loop-statement-preserved
loop-statement-preserved c =
    let k = c.args.procedure in
    let i = c.loop-statement.statement-index in
    let s = c.statement-item.result in
    let statements = c.args.statements.now in
    let xs = take i statements in
    let old = nodes_in c.args.spots.now.items in
    let now = nodes_in c.loop-statement.spots.items in
    let next = nodes_in c.add_spot.new.spots.items in
    let begin = length c.args.spots.now.items in
    let number : c.in_ok-node.node ≡ begin + length (flat_map spots_on xs) =
    c.in_ok-node.ensures.number ∙ sym (length-map c.loop-statement.spots.items node_value) ∙ next_node k old now xs c.loop-statement.invariant.added
    ∙ ap (λ n. n + length (flat_map spots_on xs)) (length-map c.args.spots.now.items node_value) in
    record {
      added =
          front_more (λ xs. nodes_in c.match-statement.spots.items ≡ old ++ nodes_at k (flat_map spots_on xs)) statements i s c.loop-statement-test.true c.statement-item.is
          (elim c.match-statement.branch [
            | in-At+in_ok-add-in-At w ↦ rw w.spots-is (nodes_more k old now next xs s (statement s ∷ []) c.loop-statement.invariant.added c.in_ok-node.ensures.added (label_spots s w.in-At.label w.in-At.is))
            | in-Call+in_ok-add_spot-in-Call w ↦ rw w.spots-is (nodes_more k old now (nodes_in w.add_spot-in-Call.new.spots.items) xs s (statement s ∷ return_site ∷ []) c.loop-statement.invariant.added (two_nodes k now next _ (statement s) return_site c.in_ok-node.ensures.added w.in_ok-add_spot-in-Call.ensures.added) (call_spots s w.in-Call.target w.in-Call.callees w.in-Call.arguments w.in-Call.is))
            | in_default w ↦ rw w.spots-is (nodes_more k old now next xs s (statement s ∷ []) c.loop-statement.invariant.added c.in_ok-node.ensures.added (plain_spots s w.in_default.not-At w.in_default.not-Call))
          ]);
      labels =
          front_more (λ xs. (name : List ℕ) → place_of c.match-statement.labels name ≡ label_among begin xs name) statements i s c.loop-statement-test.true c.statement-item.is
          (elim c.match-statement.branch [
            | in-At+in_ok-add-in-At w ↦ rw (w.labels-is, w.in_ok-add-in-At.ensures.added) (labels_more begin xs s c.loop-statement.labels c.loop-statement.invariant.labels w.in-At.label c.in_ok-node.node number w.in-At.is)
            | in-Call+in_ok-add_spot-in-Call w ↦ rw w.labels-is (labels_same begin xs s c.loop-statement.labels c.loop-statement.invariant.labels (call_declares s w.in-Call.target w.in-Call.callees w.in-Call.arguments w.in-Call.is))
            | in_default w ↦ rw w.labels-is (labels_same begin xs s c.loop-statement.labels c.loop-statement.invariant.labels (plain_declares s w.in_default.not-At))
          ]);
      few = elim c.match-statement.branch [
        | in-At+in_ok-add-in-At w ↦ rw w.spots-is c.in_ok-node.ensures.few
        | in-Call+in_ok-add_spot-in-Call w ↦ rw w.spots-is w.in_ok-add_spot-in-Call.ensures.few
        | in_default w ↦ rw w.spots-is c.in_ok-node.ensures.few
      ];
      owned = elim c.match-statement.branch [
        | in-At+in_ok-add-in-At w ↦ rw w.spots-is c.in_ok-node.ensures.owned
        | in-Call+in_ok-add_spot-in-Call w ↦ rw w.spots-is w.in_ok-add_spot-in-Call.ensures.owned
        | in_default w ↦ rw w.spots-is c.in_ok-node.ensures.owned
      ];
      longer = elim c.match-statement.branch [
        | in-At+in_ok-add-in-At w ↦ rw w.spots-is (omega (arith, c.loop-statement.invariant.longer, c.in_ok-node.ensures.longer))
        | in-Call+in_ok-add_spot-in-Call w ↦ rw w.spots-is (omega (arith, c.loop-statement.invariant.longer, c.in_ok-node.ensures.longer, w.in_ok-add_spot-in-Call.ensures.longer))
        | in_default w ↦ rw w.spots-is (omega (arith, c.loop-statement.invariant.longer, c.in_ok-node.ensures.longer))
      ];
    }

use Rattle.std.proofs.Common.{rules, ◌≡◌, ℕ, ◌+◌, ◌*◌, ◌-◌, ◌≤◌, ◌++◌, [], drop, length, take, ap, subst, sym, ◌∙◌, arith}
use Rattle.std.proofs.Math.Nat.{add-mul, mul-le-mul_right}
use Rattle.std.proofs.lemmas.List.{length-append, length-drop, length-take-le}
use Rattle.ide_values.specs.Dump.{Moves}
use Rattle.ide_values.specs.Rows.{lines_of_rows}
use Rattle.ide_values.proofs.Parts.{all_from, fills_on, lines_on, some_filled}
use Rattle.ide_values.proofs.Pieces.{moves_more, no_text_moved, rest_written}
use Rattle.ide_values.proofs.chunks.write_chunks.Goals as goal

pub loop-first-init : goal.loop-first-init
loop-first-init g c = record {
  room = c.requires.room;
  within = omega arith;
  done = [];
  long = omega arith;
  fills = λ k h. absurd (omega (arith, h));
  moves = no_text_moved c.args.piece.now.items (g.W.Write.contents c.args.out.now) c.requires.piece;
}

pub returns-in_err-write_nodes : goal.returns-in_err-write_nodes
returns-in_err-write_nodes g c =
    let (rows, filled) = some_filled g.F.L.Lattice.algebra g.F.EdgeFn.edge c.args.graph.now c.args.tables.now.table c.args.starts.now in
    record { rows = rows; filled = filled; written = search rules }

pub loop-first-preserved : goal.loop-first-preserved
loop-first-preserved g c =
    let A = g.F.L.Lattice.algebra in
    let graph = c.args.graph.now in
    let first = c.loop-first.first in
    let count = c.min-count.result in
    let done = c.loop-first.invariant.done in
    let part = c.fill_nodes.new.rows in
    let lines = lines_of_rows A g.F.L.Lattice.shown graph in
    let contents = g.W.Write.contents in
    let facts : c.fact_count.result ≡ graph.facts = c.fact_count.ensures.count in
    let few : count * graph.facts ≤ c.args.size * graph.facts = mul-le-mul_right graph.facts (omega (arith, c.min-count.ensures)) in
    let taken : length (take (count * c.fact_count.result) c.loop-first.rows) ≡ count * graph.facts =
    ap (λ n. length (take (count * n) c.loop-first.rows)) facts ∙ length-take-le (count * graph.facts) c.loop-first.rows (omega (arith, few, c.loop-first.invariant.room)) in
    let long : length part ≡ count * graph.facts = c.fill_nodes.ensures.count ∙ c.blank.ensures.count ∙ taken in
    let within : first + count ≤ graph.nodes = omega (arith, c.loop-first.invariant.within, c.min-count.ensures, c.loop-first-test.true, c.node_count-nodes.ensures.count) in
    record {
      room =
          let left : length (drop (count * c.fact_count.result) c.loop-first.rows) ≡ length c.loop-first.rows - count * graph.facts =
          ap (λ n. length (drop (count * n) c.loop-first.rows)) facts ∙ length-drop (count * graph.facts) c.loop-first.rows in
          length-append part (drop (count * c.fact_count.result) c.loop-first.rows) ∙ omega (arith, long, left, few, c.loop-first.invariant.room);
      within = within;
      done = done ++ part;
      long = length-append done part ∙ omega (arith, long, c.loop-first.invariant.long, add-mul first count graph.facts);
      fills = fills_on A g.F.EdgeFn.edge graph c.args.tables.now.table c.args.starts.now done part first c.loop-first.invariant.long c.loop-first.invariant.fills c.fill_nodes.ensures.filled;
      moves =
          subst (λ text. Moves text c.write_nodes.new.piece.items (contents c.args.out.now) (contents c.write_nodes.new.out))
          (sym (lines_on A g.F.L.Lattice.shown graph done part first count c.loop-first.invariant.long))
          (moves_more (lines 0 first done) (lines first count part) c.loop-first.piece.items c.write_nodes.new.piece.items
          (contents c.args.out.now) (contents c.loop-first.out) (contents c.write_nodes.new.out) c.loop-first.invariant.moves c.in_ok-write_nodes.ensures);
    }

pub returns : goal.returns
returns g c =
    let A = g.F.L.Lattice.algebra in
    let graph = c.args.graph.now in
    let done = c.loop-first.invariant.done in
    let lines = lines_of_rows A g.F.L.Lattice.shown graph in
    let contents = g.W.Write.contents in
    let all : c.loop-first.first ≡ graph.nodes = omega (arith, c.loop-first.invariant.within, c.loop-first-test.false, c.node_count-nodes.ensures.count) in
    record {
      rows = done;
      filled = all_from A g.F.EdgeFn.edge graph c.args.tables.now.table c.args.starts.now done (c.loop-first.invariant.long ∙ ap (λ n. n * graph.facts) all) c.loop-first.invariant.fills;
      written =
          rest_written c.write_rest.result (lines 0 graph.nodes done) c.loop-first.piece.items c.deref.result.now
          (contents c.args.out.now) (contents c.loop-first.out) (contents c.write_rest.new.out)
          (subst (λ (n : ℕ). Moves (lines 0 n done) c.loop-first.piece.items (contents c.args.out.now) (contents c.loop-first.out)) all c.loop-first.invariant.moves)
          c.deref.ensures.value c.write_rest.ensures;
    }

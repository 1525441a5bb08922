use Rattle.std.proofs.Common.{ℕ, List, ◌+◌, ◌++◌, ap, subst, sym, ◌∙◌, append_assoc}
use Rattle.std.specs.List.{flat_map, range_with_len}
use Rattle.ide_values.specs.Dump.{Moves}
use Rattle.ide_values.specs.Rows.{lines_in_row}
use Rattle.ide_values.proofs.Lines.{flat_more}
use Rattle.ide_values.proofs.Pieces.{moves_more}
use Rattle.ide_values.proofs.dump.write_nodes.Goals as goal

pub loop-row-preserved : goal.loop-row-preserved
loop-row-preserved g c =
    let A = g.L.Lattice.algebra in
    let shown = g.L.Lattice.shown in
    let lines : ℕ → List ℕ = λ k. lines_in_row g.L.Lattice.algebra g.L.Lattice.shown c.args.graph.now c.args.rows.now k (c.args.first + k) in
    let had = c.args.piece.now.items in
    let row = c.loop-row.row in
    record {
      graph = c.append_lines.ensures.graph ∙ c.loop-row.invariant.graph;
      moves =
          subst (λ text. Moves text c.write_full.new.piece.items (g.W.Write.contents c.args.out.now) (g.W.Write.contents c.write_full.new.out))
          (append_assoc had (flat_map lines (range_with_len 0 row)) (lines row) ∙ ap (λ l. had ++ l) (sym (flat_more lines row)))
          (moves_more (had ++ flat_map lines (range_with_len 0 row)) (lines row) c.loop-row.piece.items c.write_full.new.piece.items
          (g.W.Write.contents c.args.out.now) (g.W.Write.contents c.loop-row.out) (g.W.Write.contents c.write_full.new.out) c.loop-row.invariant.moves
          (subst (λ piece. Moves piece c.write_full.new.piece.items (g.W.Write.contents c.loop-row.out) (g.W.Write.contents c.write_full.new.out))
          (c.in_ok-append_lines.ensures.text
          ∙ ap (λ graph. c.loop-row.piece.items ++ lines_in_row A shown graph c.args.rows.now row (c.args.first + row)) c.loop-row.invariant.graph)
          c.in_ok-write_full.ensures));
    }

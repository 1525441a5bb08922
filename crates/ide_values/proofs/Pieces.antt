-- Pieces of a text that is written: what was written before, with what is written then.
use Rattle.std.proofs.Common.{◌≡◌, ◌+◌, ◌<◌, ◌++◌, ℕ, zero, suc, List, [], Option, Result, Ok, Err, ap, ap₂, arith, refl, subst, sym, ◌∙◌, append_assoc}
use Rattle.std.proofs.KnownBytes.{Appends-nil, Appends-trans}
use Rattle.std.specs.List.{flat_map, range_with_len}
use Rattle.std.specs.Prelude.{OnOk}
use Rattle.std.specs.Io.KnownBytes.{Appends as WritesOut}
use Rattle.ide_graph.specs.Supergraph.{Supergraph}
use Rattle.ide_lattice.specs.Algebra.{LatticeAlgebra}
use Rattle.ide_values.specs.Dump.{Moves}
use Rattle.ide_values.specs.Rows.{lines_in_row, lines_of_rows}
use Rattle.ide_values.specs.Values.{ValuesData, dump_of_values, lines_of_values}

-- no text is written
pub no_text_moved : (piece : List ℕ) (at : Option (List ℕ)) → piece ≡ [] → Moves [] piece at at
no_text_moved piece at none = record { written = []; split = sym none; appends = Appends-nil at }

-- one text, and another behind it
pub moves_more : (text more piece left : List ℕ) (before middle after : Option (List ℕ)) → Moves text piece before middle → Moves (piece ++ more) left middle after
    → Moves (text ++ more) left before after
moves_more text more piece left before middle after first then = record {
  written = first.written ++ then.written;
  split =
      ap (λ s. s ++ more) first.split
      ∙ append_assoc first.written piece more
      ∙ ap (λ s. first.written ++ s) then.split
      ∙ sym (append_assoc first.written then.written left);
  appends = Appends-trans before middle after first.written then.written first.appends then.appends;
}

-- what is left of a text is written
pub rest_written : {T E : Type 0} (end : Result T E) (text piece rest : List ℕ) (before middle after : Option (List ℕ)) → Moves text piece before middle
    → rest ≡ piece → OnOk end (WritesOut middle after rest) → OnOk end (WritesOut before after text)
rest_written (Ok x) text piece rest before middle after moves same then =
    subst (WritesOut before after) (ap (λ s. moves.written ++ s) same ∙ sym moves.split)
    (Appends-trans before middle after moves.written rest moves.appends then)
rest_written (Err e) text piece rest before middle after moves same then = tt

-- lists of the same texts are the same
pub flat_shift : {X : Type 0} (f g : ℕ → List X) (from other count : ℕ) → ((j : ℕ) → j < count → f (from + j) ≡ g (other + j))
    → flat_map f (range_with_len from count) ≡ flat_map g (range_with_len other count)
flat_shift f g from other zero same = refl
flat_shift f g from other (suc count) same =
    let one : from + 0 ≡ from = omega arith in
    let two : other + 0 ≡ other = omega arith in
    ap₂ ◌++◌ (ap f (sym one) ∙ same 0 (omega arith) ∙ ap g two)
    (flat_shift f g (from + 1) (other + 1) count (λ j h.
    let low : from + 1 + j ≡ from + (j + 1) = omega arith in
    let high : other + (j + 1) ≡ other + 1 + j = omega arith in
    ap f low ∙ same (j + 1) (omega (arith, h)) ∙ ap g high))

module _ {L : Type 0} (A : LatticeAlgebra L) (shown : L → List ℕ) where
  -- the lines of all rows are the dump of the values
  pub values_lines : (values : ValuesData L) (graph : Supergraph) (count : ℕ) (rows : List L)
      → graph ≡ values.graph → count ≡ graph.nodes → rows ≡ values.values → lines_of_rows A shown graph 0 count rows ≡ dump_of_values A shown values
  values_lines values graph count rows same nodes is =
      ap (λ n. lines_of_rows A shown graph 0 n rows) nodes
      ∙ ap (λ r. lines_of_rows A shown graph 0 graph.nodes r) is
      ∙ ap (λ (g : Supergraph). lines_of_rows A shown g 0 g.nodes values.values) same
      ∙ flat_shift (λ k. lines_in_row A shown values.graph values.values k (0 + k)) (lines_of_values A shown values) 0 0 values.graph.nodes
      (λ j h. let on : 0 + (0 + j) ≡ 0 + j = omega arith in ap (lines_in_row A shown values.graph values.values (0 + j)) on)

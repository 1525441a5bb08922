use Rattle.std.proofs.Common.{ℕ, ◌≡◌, ◌+◌, ◌<◌, ◌++◌, ◌∙◌, [], ap, ap₂, arith, length, slice_index_or, sym}
use Rattle.ide_values.specs.Lines.{columns_in, line_tail, told_line}
use Rattle.ide_values.specs.Start.{at_place}
use Rattle.ide_values.proofs.Begun.{tail_is}
use Rattle.ide_values.proofs.Renewed.{each_push, lines_push}
use Rattle.ide_values.proofs.Told.{columns_read}
use Rattle.ide_values.proofs.line_text.Lines.tell.Goals as goal

pub loop-index-preserved : goal.loop-index-preserved
loop-index-preserved g c =
    let self = c.loop-index.self in
    let index = c.loop-index.index in
    let value : ℕ → g.row.L.Denot = λ k. at_place g.L.Lattice.algebra c.args.rows.now (c.args.first + k) in
    let x = c.in_ok-told.told in
    let within : index < length self.facts.items = omega (arith, c.loop-index-test.true, c.len-index-end.ensures, ap (λ v. length v.items) c.loop-index.invariant.facts) in
    let stem : c.deref.result.now ≡ self.stem.items = c.deref.ensures.value in
    let columns : c.deref-in-loop-index.result.now ≡ slice_index_or (columns_in self.facts.items) index [] =
    c.deref-in-loop-index.ensures.value
    ∙ sym (columns_read (λ columns. columns.items) self.facts.items index c.index.result.now within c.index.ensures) in
    let shows : c.value_at_place-value.result ≡ value index = c.value_at_place-value.ensures in
    let line : told_line c.deref.result.now c.deref-in-loop-index.result.now (g.L.Lattice.shown c.value_at_place-value.result)
    ≡ self.stem.items ++ line_tail g.L.Lattice.shown (columns_in self.facts.items) value index =
    ap₂ (λ a b. told_line a b (g.L.Lattice.shown c.value_at_place-value.result)) stem columns
    ∙ ap (λ v. told_line self.stem.items (slice_index_or (columns_in self.facts.items) index []) (g.L.Lattice.shown v)) shows
    ∙ tail_is self.stem.items (slice_index_or (columns_in self.facts.items) index []) (g.L.Lattice.shown (value index)) in
    record {
      facts = c.loop-index.invariant.facts;
      stem = c.loop-index.invariant.stem;
      count = omega (arith, c.in_ok-push.ensures.len, c.loop-index.invariant.count);
      values = each_push self.told.items c.push.new.self.items x index c.loop-index.invariant.count c.in_ok-push.ensures.items
          (λ k t. t.value ≡ value k) c.loop-index.invariant.values (c.in_ok-told.ensures.value ∙ shows);
      lines = lines_push self.told.items c.push.new.self.items x index c.loop-index.invariant.count c.in_ok-push.ensures.items
          self.stem.items (line_tail g.L.Lattice.shown (columns_in self.facts.items) value) self.text.items c.append_line.new.out.items c.loop-index.invariant.lines
          (c.in_ok-told.ensures.length ∙ ap length line)
          (c.in_ok-told.ensures.text ∙ ap (λ l. self.text.items ++ l) line);
    }

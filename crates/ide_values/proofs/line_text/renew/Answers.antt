use Rattle.std.proofs.Common.{ℕ, ◌≡◌, ◌+◌, ◌-◌, ◌<◌, ◌≤◌, ◌++◌, ◌∙◌, ◌^◌, [], ap, arith, drop, length, length-set, refl, rules, slice_index_or, slice_set, subst, sym, take}
use Rattle.std.proofs.lemmas.List.{get_or_read, length-map, take_rest}
use Rattle.std.proofs.lemmas.List.Sums.{sum_by-drop_more}
use Rattle.ide_values.specs.Lines.{TellValues, columns_in, lengths_from, told_line}
use Rattle.ide_values.specs.declared.line_text.Told.{Told}
use Rattle.ide_values.proofs.Lines.{OnOk-appended}
use Rattle.ide_values.proofs.Renewed.{AreRenewed, tell_all, tell_none, tell_one, tell_room, tell_stay}
use Rattle.ide_values.proofs.Told.{columns_read}
use Rattle.ide_values.proofs.line_text.renew.Goals as goal

pub stay-run-requires-clause-few : goal.stay-run-requires-clause-few
stay-run-requires-clause-few g c =
    let told = c.requires.told in
    let value : ℕ → g.row.L.Denot = λ k. slice_index_or c.args.values.now k g.L.Lattice.algebra.top in
    let room : 0 + lengths_from c.args.told.now 0 ≡ length c.args.text.now =
    tell_room g.L.Lattice.shown (columns_in c.args.facts.now) told.value value c.args.told.now c.args.stem.now c.args.text.now told.tell
    c.args.told.now [] 0 0 0 (tell_none g.L.Lattice.shown (columns_in c.args.facts.now) told.value value c.args.told.now c.args.stem.now c.args.text.now told.tell) in
    let fits : length c.args.text.now < 2 ^ 64 = search rules in
    omega (arith, room, fits)

pub loop-run-init : goal.loop-run-init
loop-run-init g c =
    let value : ℕ → g.row.L.Denot = λ k. slice_index_or c.args.values.now k g.L.Lattice.algebra.top in
    record {
      within = c.stay-run.ensures.end.1;
      count = refl;
      renewed = λ given tell.
          subst
          (λ out. AreRenewed g.L.Lattice.shown (columns_in c.args.facts.now) given value c.args.told.now c.args.stem.now c.args.text.now tell c.args.told.now out c.stay-run.result.end 0 c.stay-run.result.place)
          (sym c.clear.ensures.items)
          (tell_stay g.L.Lattice.shown (columns_in c.args.facts.now) given value c.args.told.now c.args.stem.now c.args.text.now tell
          c.args.told.now [] 0 c.stay-run.result.end 0 0 c.stay-run.result.place
          (tell_none g.L.Lattice.shown (columns_in c.args.facts.now) given value c.args.told.now c.args.stem.now c.args.text.now tell)
          c.stay-run.ensures.end.0 c.stay-run.ensures.end.1
          (λ k d past before. c.stay-run.ensures.stay k d g.L.Lattice.algebra.top past before) c.stay-run.ensures.place);
    }

pub overflow_add-kept : goal.overflow_add-kept
overflow_add-kept g c =
    let told = c.requires.told in
    let value : ℕ → g.row.L.Denot = λ k. slice_index_or c.args.values.now k g.L.Lattice.algebra.top in
    let end = c.loop-run.run.end in
    let room : c.loop-run.run.place + lengths_from c.loop-run.told end ≡ length c.args.text.now =
    tell_room g.L.Lattice.shown (columns_in c.args.facts.now) told.value value c.args.told.now c.args.stem.now c.args.text.now told.tell
    c.loop-run.told c.loop-run.out.items end c.loop-run.kept c.loop-run.run.place (c.loop-run.invariant.renewed told.value told.tell) in
    let first : lengths_from c.loop-run.told end ≡ (slice_index_or c.loop-run.told end c.index-told-index.result).length + lengths_from c.loop-run.told (end + 1) =
    sum_by-drop_more (λ (t : Told g.row.L.Denot). t.length) c.loop-run.told end c.index-told-index.result c.loop-run-test.true in
    let bound : c.loop-run.run.place + (slice_index_or c.loop-run.told end c.index-told-index.result).length ≤ length c.args.text.now = omega (arith, room, first) in
    search (rules, bound)

pub stay-run-requires-in-loop-run-clause-few : goal.stay-run-requires-in-loop-run-clause-few
stay-run-requires-in-loop-run-clause-few g c =
    let told = c.requires.told in
    let value : ℕ → g.row.L.Denot = λ k. slice_index_or c.args.values.now k g.L.Lattice.algebra.top in
    let end = c.loop-run.run.end in
    let length_is = (slice_index_or c.loop-run.told end c.index-told-index.result).length in
    let on = c.loop-run.run.place + length_is in
    let after = slice_set c.loop-run.told end c.in_ok-told.field-0 in
    let columns : c.deref.result.now ≡ slice_index_or (columns_in c.args.facts.now) end [] =
    c.deref.ensures.value
    ∙ sym (columns_read (λ columns. columns.items) c.args.facts.now end c.index-facts-index.result
    (omega (arith, c.loop-run-test.true, c.loop-run.invariant.count, told.tell.count, length-map c.args.facts.now (λ columns. columns.items))) c.index-facts-index.is) in
    let shows : c.index-values-index.result ≡ value end =
    get_or_read c.args.values.now end c.index-values-index.result (omega (arith, c.loop-run-test.true, c.loop-run.invariant.count, c.requires.count)) c.index-values-index.is g.L.Lattice.algebra.top in
    let one : AreRenewed g.L.Lattice.shown (columns_in c.args.facts.now) told.value value c.args.told.now c.args.stem.now c.args.text.now told.tell after c.append_line.new.out.items (end + 1) on on =
    tell_one g.L.Lattice.shown (columns_in c.args.facts.now) told.value value c.args.told.now c.args.stem.now c.args.text.now told.tell
    c.loop-run.told after c.loop-run.out.items (take (c.loop-run.run.place - c.loop-run.kept) (drop c.loop-run.kept c.args.text.now)) c.append_line.new.out.items c.deref.result.now
    end c.loop-run.kept c.loop-run.run.place on c.in_ok-told.field-0 c.index-told-index.result c.index-values-index.result
    (c.loop-run.invariant.renewed told.value told.tell) c.loop-run-test.true refl columns shows c.in_ok-told.ensures.value c.in_ok-told.ensures.length refl
    (c.in_ok-told.ensures.text ∙ ap (λ l. l ++ told_line c.args.stem.now c.deref.result.now (g.L.Lattice.shown c.index-values-index.result)) c.in_ok-extend_from_slice.ensures.items) refl in
    let room : on + lengths_from after (end + 1) ≡ length c.args.text.now =
    tell_room g.L.Lattice.shown (columns_in c.args.facts.now) told.value value c.args.told.now c.args.stem.now c.args.text.now told.tell
    after c.append_line.new.out.items (end + 1) on on one in
    let fits : length c.args.text.now < 2 ^ 64 = search rules in
    omega (arith, room, fits)

pub loop-run-preserved : goal.loop-run-preserved
loop-run-preserved g c =
    let value : ℕ → g.row.L.Denot = λ k. slice_index_or c.args.values.now k g.L.Lattice.algebra.top in
    let end = c.loop-run.run.end in
    let length_is = (slice_index_or c.loop-run.told end c.index-told-index.result).length in
    let on = c.loop-run.run.place + length_is in
    let after = slice_set c.loop-run.told end c.in_ok-told.field-0 in
    let columns : c.deref.result.now ≡ slice_index_or (columns_in c.args.facts.now) end [] =
    c.deref.ensures.value
    ∙ sym (columns_read (λ columns. columns.items) c.args.facts.now end c.index-facts-index.result
    (omega (arith, c.loop-run-test.true, c.loop-run.invariant.count, c.requires.told.tell.count, length-map c.args.facts.now (λ columns. columns.items))) c.index-facts-index.is) in
    let shows : c.index-values-index.result ≡ value end =
    get_or_read c.args.values.now end c.index-values-index.result (omega (arith, c.loop-run-test.true, c.loop-run.invariant.count, c.requires.count)) c.index-values-index.is g.L.Lattice.algebra.top in
    record {
      within = c.stay-run-in-loop-run.ensures.end.1;
      count = length-set c.loop-run.told end c.in_ok-told.field-0 ∙ c.loop-run.invariant.count;
      renewed = λ given tell.
          tell_stay g.L.Lattice.shown (columns_in c.args.facts.now) given value c.args.told.now c.args.stem.now c.args.text.now tell
          after c.append_line.new.out.items (end + 1) c.stay-run-in-loop-run.result.end on on c.stay-run-in-loop-run.result.place
          (tell_one g.L.Lattice.shown (columns_in c.args.facts.now) given value c.args.told.now c.args.stem.now c.args.text.now tell
          c.loop-run.told after c.loop-run.out.items (take (c.loop-run.run.place - c.loop-run.kept) (drop c.loop-run.kept c.args.text.now)) c.append_line.new.out.items c.deref.result.now
          end c.loop-run.kept c.loop-run.run.place on c.in_ok-told.field-0 c.index-told-index.result c.index-values-index.result
          (c.loop-run.invariant.renewed given tell) c.loop-run-test.true refl columns shows c.in_ok-told.ensures.value c.in_ok-told.ensures.length refl
          (c.in_ok-told.ensures.text ∙ ap (λ l. l ++ told_line c.args.stem.now c.deref.result.now (g.L.Lattice.shown c.index-values-index.result)) c.in_ok-extend_from_slice.ensures.items) refl)
          c.stay-run-in-loop-run.ensures.end.0 c.stay-run-in-loop-run.ensures.end.1
          (λ k d past before. c.stay-run-in-loop-run.ensures.stay k d g.L.Lattice.algebra.top past before) c.stay-run-in-loop-run.ensures.place;
    }

pub returns : goal.returns
returns g c =
    let told = c.requires.told in
    let value : ℕ → g.row.L.Denot = λ k. slice_index_or c.args.values.now k g.L.Lattice.algebra.top in
    OnOk-appended c.extend_from_slice-2.result
    (TellValues g.L.Lattice.shown (columns_in c.args.facts.now) value c.loop-run.told c.args.stem.now c.extend_from_slice-2.new.self.items)
    c.loop-run.out.items (take (length c.args.text.now - c.loop-run.kept) (drop c.loop-run.kept c.args.text.now)) c.extend_from_slice-2.new.self.items
    c.extend_from_slice-2.ensures.items
    (λ is.
    tell_all g.L.Lattice.shown (columns_in c.args.facts.now) told.value value c.args.told.now c.args.stem.now c.args.text.now told.tell
    c.loop-run.told c.loop-run.out.items c.extend_from_slice-2.new.self.items c.loop-run.run.end c.loop-run.kept c.loop-run.run.place
    (c.loop-run.invariant.renewed told.value told.tell) c.loop-run-test.false
    (is ∙ ap (λ l. c.loop-run.out.items ++ l) (take_rest c.args.text.now c.loop-run.kept)))

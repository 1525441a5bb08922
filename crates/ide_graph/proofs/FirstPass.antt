-- What the first pass over a program gives the second, where the program's names have no fault and it
-- is within the limits.
use Rattle.std.proofs.Common.{◌≡◌, ℕ, ◌+◌, ◌≤◌, min, List, ◌++◌, length, get_or, slice_get, Some, ap, arith, length-append}
use Rattle.std.specs.List.{All}
use Rattle.std.proofs.lemmas.Option.{get_or_from_slice_get, slice_get-get_or, slice_get_within}
use Rattle.ide_text.specs.declared.program.Program.{Program}
use Rattle.ide_text.specs.declared.program.Procedure.{Procedure}
use Rattle.ide_text.specs.Program.{globals_of, procedures_of}
use Rattle.ide_graph.specs.declared.layout.Layout.{Layout}
use Rattle.ide_graph.specs.declared.numbering.Numbering.{Numbering}
use Rattle.ide_graph.specs.Numbering.{IsLayoutOf, IsNumberingOf}
use Rattle.ide_graph.specs.Numbers.{start_of, exit_of, most_own, facts_of}
use Rattle.ide_graph.proofs.FactLemmas.{own_at_most}
use Rattle.ide_graph.proofs.LimitLemmas.{few_facts, most_bound, own_names}
use Rattle.ide_graph.proofs.SliceLemmas.{element_of}

module _ (p : Program) (numbering : Numbering) (is : IsNumberingOf (procedures_of p) numbering) where
  -- the layout of a procedure
  pub layout_at : (i : ℕ) (q : Procedure) → slice_get (procedures_of p) i ≡ Some q → (l : Layout) × (slice_get numbering.layouts.items i ≡ Some l) × IsLayoutOf (procedures_of p) i q l
  layout_at i q at =
      let within = slice_get_within (procedures_of p) i q at in
      let found = element_of numbering.layouts.items i (omega (arith, is.layouts, within)) in
      (found.0, found.1, is.layout i q found.0 at found.1)

  -- a layout says where its procedure stands, and what its own facts are
  pub named_layout : (i : ℕ) (q : Procedure) (l : Layout) → slice_get (procedures_of p) i ≡ Some q → slice_get numbering.layouts.items i ≡ Some l
      → (l.start ≡ start_of (procedures_of p) i) × (l.exit ≡ exit_of (procedures_of p) i) × (l.own ≡ q.parameters.items ++ q.locals.items) × (l.parameter_count ≡ length q.parameters.items)
  named_layout i q l at found =
      let layout = is.layout i q l at found in
      let own = own_names p i q at in
      (layout.start, layout.exit, layout.own own, layout.parameters own)

  module _ (most : ℕ) (bounds : All (λ layout. length layout.own ≤ most) numbering.layouts.items)
      (least : (bound : ℕ) → All (λ layout. length layout.own ≤ bound) numbering.layouts.items → most ≤ bound) where
    within_most : (d : Layout) (i : ℕ) (l : Layout) → slice_get numbering.layouts.items i ≡ Some l → length l.own ≤ most
    within_most d i l found =
        let less = slice_get_within numbering.layouts.items i l found in
        let same = ap (λ (x : Layout). length x.own) (get_or_from_slice_get numbering.layouts.items i l d found) in
        omega (arith, bounds i d less, same)

    -- the most parameters and locals that a procedure has
    pub most_is : most ≡ most_own (procedures_of p)
    most_is =
        let low = least (most_own (procedures_of p)) (λ k d within.
        let at = element_of (procedures_of p) k (omega (arith, is.layouts, within)) in
        let layout = is.layout k at.0 (get_or numbering.layouts.items k d) at.1 (slice_get-get_or numbering.layouts.items k d within) in
        omega (arith, layout.few, own_at_most (procedures_of p) k at.0 at.1)) in
        let high = most_bound (procedures_of p) most (λ i q at.
        let l = layout_at i q at in
        omega (arith, within_most l.0 i l.0 l.1, ap length (l.2.own (own_names p i q at)), length-append q.parameters.items q.locals.items)) in
        omega (arith, low, high)

    -- how many facts there are
    pub facts_are : (globals : List (List ℕ)) → globals ≡ globals_of p → min (length globals + 2 + most) 65536 ≡ facts_of p
    facts_are globals same = let few = few_facts p in let names = ap length same in omega (arith, few, names, most_is)

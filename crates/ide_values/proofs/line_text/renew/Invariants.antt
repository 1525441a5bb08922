use Rattle.std.proofs.Common.{ℕ, ◌≡◌, ◌-◌, ◌≤◌, ◌++◌, length}
use Rattle.std.specs.Prelude.{slice_index_or}
use Rattle.ide_values.specs.Lines.{TellValues, columns_in, line_tail}
use Rattle.ide_values.proofs.Renewed.{IsRenewed}
use Rattle.ide_values.proofs.line_text.renew.Given as goal

-- the lines before the end of the run are renewed
abbrev pub invariant-loop-run : goal.invariant-loop-run
invariant-loop-run g l = record {
  within : l.run.end ≤ length l.told;
  count : length l.told ≡ length l.fn.told;
  renewed : (given : ℕ → g.row.L.Denot) → TellValues g.L.Lattice.shown (columns_in l.facts) given l.fn.told l.stem l.text
      → IsRenewed l.fn.told (λ k. l.stem ++ line_tail g.L.Lattice.shown (columns_in l.facts) given k)
      (λ k. l.stem ++ line_tail g.L.Lattice.shown (columns_in l.facts) (λ k. slice_index_or l.values k g.L.Lattice.algebra.top) k)
      (λ k. slice_index_or l.values k g.L.Lattice.algebra.top) l.text l.told l.out.items l.run.end l.kept l.run.place;
}

abbrev pub decreases-loop-run : goal.decreases-loop-run
decreases-loop-run g l = length l.told - l.run.end

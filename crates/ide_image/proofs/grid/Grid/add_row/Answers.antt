use Rattle.std.proofs.Common.{subst, sym}
use Rattle.std.specs.Prelude.{slice_set, true}
use Rattle.ide_image.specs.Grid.{IsGrid}
use Rattle.ide_image.proofs.Rows.{with-row}
use Rattle.ide_image.proofs.grid.Grid.add_row.Goals as goal

pub invariant_of-self-then-index-len : goal.invariant_of-self-then-index-len
invariant_of-self-then-index-len c =
    subst (IsGrid (slice_set c.self.inside.has_row.items c.args.page true)) (sym c.in_ok-push.ensures.items)
    (with-row c.self.inside.has_row.items c.self.inside.pages.items c.args.page c.self.invariant c.requires)

use Rattle.std.proofs.Common.{◌≡◌, ◌++◌, drop}
use Rattle.ide_pages.specs.Pages.{read_blocks}
use Rattle.ide_image.specs.Tables.{partners_at}
use Rattle.ide_image.proofs.indexed.fill_from_blocks.Given as goal

-- the partners so far, and those of the blocks from here on
abbrev pub invariant-loop-listed : goal.invariant-loop-listed
invariant-loop-listed g l = record {
  listed : l.partners.items ++ partners_at g.F.EdgeFn.edge l.functions.items (read_blocks l.places (drop l.listed-index l.pages))
      ≡ partners_at g.F.EdgeFn.edge l.functions.items (read_blocks l.places l.pages);
}

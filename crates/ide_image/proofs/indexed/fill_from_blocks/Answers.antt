use Rattle.std.proofs.Common.{◌+◌, ◌<◌, ◌++◌, drop, ap, ◌∙◌}
use Rattle.ide_pages.specs.Pages.{read_blocks}
use Rattle.ide_image.specs.Tables.{partners_at}
use Rattle.ide_image.proofs.Blocks.{block-at, blocks-more}
use Rattle.ide_image.proofs.indexed.fill_from_blocks.Goals as goal

pub add_block-requires : goal.add_block-requires
add_block-requires g c = record { few = block-at (λ block. block < 1024) c.args.pages.now c.loop-listed.listed-index (0, 0) c.loop-listed-test.true c.requires.few }

pub loop-listed-preserved : goal.loop-listed-preserved
loop-listed-preserved g c =
    let edge = g.F.EdgeFn.edge in
    let functions = c.args.functions.now.items in
    let numbers = c.args.places.now in
    let pages = c.args.pages.now in
    let i = c.loop-listed.listed-index in
    record {
      listed =
          ap (λ items. items ++ partners_at edge functions (read_blocks numbers (drop (i + 1) pages))) c.in_ok-add_block.ensures
          ∙ blocks-more edge.all_top functions numbers c.loop-listed.partners.items pages i c.loop-listed-test.true
          ∙ c.loop-listed.invariant.listed;
    }

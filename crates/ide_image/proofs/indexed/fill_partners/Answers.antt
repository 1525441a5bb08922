use Rattle.std.proofs.Common.{◌%◌, sym, ◌∙◌, arith}
use Rattle.ide_pages.specs.Pages.{number_on_page, partner_of}
use Rattle.ide_image.specs.Tables.{partner_at}
use Rattle.ide_image.proofs.Listed.{passed, passed_over}
use Rattle.ide_image.proofs.indexed.fill_partners.Goals as goal
use Rattle.ide_image.proofs.indexed.fill_partners.Goals.{in-Some, in_default}

pub loop-listed-preserved : goal.loop-listed-preserved
loop-listed-preserved g c =
    let numbered = partner_of (number_on_page c.args.places.now (c.args.node % 64)) in
    let function = partner_at g.F.EdgeFn.edge.all_top c.args.functions.now.items in
    let before = c.loop-listed.partners in
    let pages = c.args.pages.now in
    let i = c.loop-listed.listed-index in
    elim c.match-numbered_fact.branch [
      | in-Some w ↦
          rw (w.partners-is)
          (record {
            listed = rw (w.push_reserved.ensures.items, w.partner_at.ensures)
                (passed numbered function before.items pages i (0, 0) c.loop-listed-test.true _ (sym c.numbered_fact.ensures ∙ w.in-Some.is) ∙ c.loop-listed.invariant.listed);
            few = omega (arith, w.push_reserved.ensures.len);
            room = omega (arith, w.push_reserved.ensures.capacity);
          })
      | in_default w ↦
          rw (w.partners-is)
          (record {
            listed = passed_over numbered function before.items pages i (0, 0) c.loop-listed-test.true (sym c.numbered_fact.ensures ∙ w.in_default.is) ∙ c.loop-listed.invariant.listed;
            few = omega arith;
            room = c.loop-listed.invariant.room;
          })
    ]

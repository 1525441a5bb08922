use Rattle.std.proofs.Common.{◌∙◌, ap, sym}
use Rattle.ide_store.proofs.Stops.{part_full}
use Rattle.ide_store.proofs.table.TableHalf.part_overflows.Goals as goal

pub returns-clause-yes : goal.returns-clause-yes
returns-clause-yes g c =
    let full = c.if-not-is_full_for.false in
    part_full _ _ c.self.inside.core c.args.hand c.args.work.now c.args.self.now.core c.in-Some.part c.is_changed.result c.has_received.result
    (ap (λ table. table.core) c.self.view_is) (c.is_full_for.ensures.current full) (c.is_full_for.ensures.full full)
    (sym c.next.ensures.next ∙ c.in-Some.is) c.is_changed.ensures c.if-is_changed.false c.has_received.ensures.1

use Rattle.std.proofs.Common.{◌∙◌, ap, map, subst}
use Rattle.ide_image.specs.Tables.{AreKeys}
use Rattle.ide_wire.specs.KeyOrder.{key_cmp}
use Rattle.ide_steps.specs.Core.{CoreData}
use Rattle.ide_steps.specs.Items.{item_of}
use Rattle.ide_steps.proofs.Listed.{are-items}
use Rattle.ide_steps.proofs.machine.Core.items.Goals as goal

pub returns-clause-items : goal.returns-clause-items
returns-clause-items g c =
    are-items g.P.F.EdgeFn.edge c.args.self.now c.in_ok-keys.keys.items c.in_ok-items.items.items
    (subst (λ (core : CoreData g.row.P-F.Denot). AreKeys key_cmp core.table c.in_ok-keys.keys.items) c.self.view_is c.in_ok-keys.ensures.keys)
    (c.in_ok-items.ensures ∙ ap (map (item_of g.P.F.EdgeFn.edge c.args.self.now)) c.deref.ensures.value)

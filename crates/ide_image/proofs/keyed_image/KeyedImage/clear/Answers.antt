use Rattle.std.proofs.Common.{ap, ◌∙◌, []}
use Rattle.std.specs.Option.{is_some}
use Rattle.std.specs.Prelude.{unwrap_or}
use Rattle.ide_image.specs.Notes.{noted}
use Rattle.ide_image.proofs.Agree.{whole-new}
use Rattle.ide_image.proofs.Before.{anew-empty, anew-none}
use Rattle.ide_image.proofs.keyed_image.KeyedImage.clear.Goals as goal

pub invariant_of-self : goal.invariant_of-self
invariant_of-self g c =
    let list = c.clear-3.ensures.list in
    whole-new {F = g.row.F.Denot} {T = g.row.T.Denot} c.new.result c.clear.new.self c.clear-2.new.self.items c.clear-3.new.self c.new.ensures.cells c.clear.ensures c.clear-2.ensures.items
    (ap (λ l. unwrap_or l []) list ∙ anew-empty c.self.inside.changes.list) c.clear-3.ensures.slots (λ key. ap (λ l. is_some (noted l key)) list ∙ anew-none c.self.inside.changes.list key) c.clear-3.ensures.marks

pub returns-clause-changes : goal.returns-clause-changes
returns-clause-changes g c = rw (← c.self.view_is) c.clear-3.ensures.list

use Rattle.std.proofs.Common.{ap, []}
use Rattle.std.specs.Option.{is_some}
use Rattle.std.specs.Prelude.{unwrap_or}
use Rattle.ide_image.specs.Notes.{noted}
use Rattle.ide_image.proofs.Agree.{whole-new}
use Rattle.ide_image.proofs.keyed_image.KeyedImage.new.Goals as goal

pub invariant_of-result : goal.invariant_of-result
invariant_of-result g c =
    whole-new {F = g.row.F.Denot} {T = g.row.T.Denot} c.new.result c.new-2.result c.new-3.result.items c.new-4.result c.new.ensures.cells c.new-2.ensures c.new-3.ensures.items
    (ap (λ list. unwrap_or list []) c.new-4.ensures.list) c.new-4.ensures.slots (λ key. ap (λ list. is_some (noted list key)) c.new-4.ensures.list) c.new-4.ensures.marks

use Rattle.std.proofs.Common.{sym, subst, ◌∙◌}
use Rattle.std.specs.List.{IsDistinct}
use Rattle.ide_wire.specs.Key.{same_key}
use Rattle.ide_image.proofs.Columns.{same-count, same-keys}
use Rattle.ide_image.proofs.indexed.Indexed.len.Goals as goal

pub returns-clause-count : goal.returns-clause-count
returns-clause-count g c =
    let are = c.self.invariant in
    rw (← c.self.view_is) (c.len.ensures.count ∙ same-count c.self.inside.places c.self.inside.functions.items are.paged are.kept)

pub returns-clause-distinct : goal.returns-clause-distinct
returns-clause-distinct g c =
    let are = c.self.invariant in
    rw (← c.self.view_is)
    (subst (IsDistinct same_key) (sym (same-keys c.self.inside.places c.self.inside.functions.items are.paged are.kept)) c.len.ensures.distinct)

use Rattle.std.proofs.Common.{is_some, ◌∙◌, ap}
use Rattle.std.specs.List.{list_any}
use Rattle.ide_text.proofs.Positions.{is_some-position}
use Rattle.ide_text.proofs.tables.Table.has.Goals as goal

pub returns : goal.returns
returns g c =
    let test = g.T.Named.has_name c.args.name.now in
    c.is_some.ensures ∙ ap is_some (c.find.ensures ∙ c.self.invariant c.args.name.now) ∙ is_some-position test c.self.inside.list.now
    ∙ ap (list_any test) c.self.view_is

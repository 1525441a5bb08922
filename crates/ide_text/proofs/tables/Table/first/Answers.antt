use Rattle.std.proofs.Common.{Some, None, ◌∙◌, sym, ap}
use Rattle.std.specs.List.{find}
use Rattle.ide_text.proofs.PlaceLemmas.{first_at, copied_at}
use Rattle.ide_text.proofs.tables.Table.first.Goals as goal

pub returns-in-Some : goal.returns-in-Some
returns-in-Some g c =
    let test = g.T.Named.has_name in
    let found = first_at test c.self.inside.list.now c.self.inside.places c.self.invariant c.args.name.now (Some c.in-Some.first) (sym c.find.ensures ∙ c.in-Some.is) in
    copied_at c.get.result c.self.inside.list.now c.in-Some.first c.get.ensures.lookup.3 ∙ sym found.0 ∙ ap (find (test c.args.name.now)) c.self.view_is

pub returns-in-None : goal.returns-in-None
returns-in-None g c =
    let test = g.T.Named.has_name in
    let found = first_at test c.self.inside.list.now c.self.inside.places c.self.invariant c.args.name.now None (sym c.find.ensures ∙ c.in-None.is) in
    sym found.0 ∙ ap (find (test c.args.name.now)) c.self.view_is

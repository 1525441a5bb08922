use Rattle.std.proofs.Common.{Some, None, take, ◌∙◌, sym, ap}
use Rattle.std.specs.List.{list_any}
use Rattle.ide_text.proofs.PlaceLemmas.{first_at, before-first_at}
use Rattle.ide_text.proofs.tables.Table.has_before.Goals as goal

pub returns-in-Some : goal.returns-in-Some
returns-in-Some g c =
    let test = g.T.Named.has_name in
    let list = c.self.inside.list.now in
    let found = first_at test list c.self.inside.places c.self.invariant c.args.name.now (Some c.in-Some.first) (sym c.find.ensures ∙ c.in-Some.is) in
    before-first_at (test c.args.name.now) list c.in-Some.first c.args.place found ∙ ap (λ l. list_any (test c.args.name.now) (take c.args.place l)) c.self.view_is

pub returns-in-None : goal.returns-in-None
returns-in-None g c =
    let test = g.T.Named.has_name in
    let list = c.self.inside.list.now in
    let found = first_at test list c.self.inside.places c.self.invariant c.args.name.now None (sym c.find.ensures ∙ c.in-None.is) in
    sym (found.1 c.args.place) ∙ ap (λ l. list_any (test c.args.name.now) (take c.args.place l)) c.self.view_is

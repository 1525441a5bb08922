use Rattle.std.proofs.Common.{◌≡◌, ◌∙◌, ap}
use Rattle.ide_graph.specs.Naming.{with_name}
use Rattle.ide_graph.proofs.NameLemmas.{map-insert_key}
use Rattle.ide_graph.proofs.names.Names.add.Goals as goal

pub returns-clause-added : goal.returns-clause-added
returns-clause-added c =
    let bytes : c.in_ok-to_vec.field-0.items ≡ c.args.name.now = c.in_ok-to_vec.ensures.items_if_clones_equal (λ x y h. h) ∙ c.as_bytes.ensures.value in
    rw c.in_ok-insert.ensures.keys
    (map-insert_key (λ v. v.items) c.self.inside.set.keys c.in_ok-to_vec.field-0 c.args.name.now bytes
    ∙ ap (λ names. with_name names c.args.name.now) c.self.view_is)

use Rattle.std.proofs.Common.{◌∙◌, sym}
use Rattle.std.specs.Str.{bytes_eq}
use Rattle.ide_graph.proofs.NamedLemmas.{position-map}
use Rattle.ide_graph.proofs.names.Names.index_of.Goals as goal

pub returns-clause-value : goal.returns-clause-value
returns-clause-value c =
    rw (← c.self.view_is)
    (c.get_index_of.ensures.index ∙ sym (position-map (λ v. v.items) (bytes_eq c.args.name.now) c.self.inside.set.keys))

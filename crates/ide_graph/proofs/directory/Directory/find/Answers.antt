use Rattle.std.proofs.Common.{◌∙◌, sym}
use Rattle.std.specs.Str.{bytes_eq}
use Rattle.ide_graph.proofs.NamedLemmas.{lookup-map_keys}
use Rattle.ide_graph.proofs.directory.Directory.find.Goals as goal

pub returns-clause-value : goal.returns-clause-value
returns-clause-value c =
    rw (← c.self.view_is)
    (c.copied.ensures ∙ c.get.ensures.value ∙ sym (lookup-map_keys (λ v. v.items) (bytes_eq c.args.name.now) c.self.inside.indices.entries))

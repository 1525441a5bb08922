use Rattle.std.proofs.Common.{◌∙◌, ap}
use Rattle.ide_text.specs.Names.{is_among}
use Rattle.ide_text.proofs.NameLists.{is_among-keys}
use Rattle.ide_text.proofs.names.Names.has.Goals as goal

pub returns : goal.returns
returns c =
    c.contains.ensures ∙ is_among-keys c.self.inside.set.keys c.as_bytes.result c.args.name.now c.as_bytes.ensures.value
    ∙ ap (λ names. is_among names c.args.name.now) c.self.view_is

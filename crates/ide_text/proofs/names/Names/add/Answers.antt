use Rattle.std.proofs.Common.{◌++◌, ◌∷◌, [], not, ◌∙◌, sym, ap}
use Rattle.ide_text.specs.Names.{is_among}
use Rattle.ide_text.proofs.NameLists.{is_among-keys, map-insert_key, false_from_not}
use Rattle.ide_text.proofs.names.Names.add.Goals as goal

pub returns-clause-new : goal.returns-clause-new
returns-clause-new c =
    c.in_ok-insert.ensures.added
    ∙ ap not (is_among-keys c.self.inside.set.keys c.as_bytes.result c.args.name.now c.as_bytes.ensures.value ∙ ap (λ names. is_among names c.args.name.now) c.self.view_is)

pub returns-clause-added : goal.returns-clause-added
returns-clause-added c is_new =
    rw c.in_ok-insert.ensures.keys
    (map-insert_key c.self.inside.set.keys c.as_bytes.result c.args.name.now c.as_bytes.ensures.value (false_from_not _ (sym c.in_ok-insert.ensures.added ∙ is_new))
    ∙ ap (λ names. names ++ c.args.name.now ∷ []) c.self.view_is)

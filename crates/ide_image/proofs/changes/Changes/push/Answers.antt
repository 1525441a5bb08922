use Rattle.std.proofs.Common.{◌++◌, ◌∷◌, [], ap, ◌∙◌}
use Rattle.ide_image.specs.Changes.{Changes, notes_by}
use Rattle.ide_image.proofs.Codes.{note-more}
use Rattle.ide_image.proofs.changes.Changes.push.Goals as goal

pub returns-clause-items : goal.returns-clause-items
returns-clause-items g c =
    let entries = c.code_of-code.new.entries.items in
    ap (λ keys. notes_by keys entries) c.push_reserved.ensures.items
    ∙ note-more c.self.inside.entries.items entries c.code_of-code.ensures.others c.self.inside.keys.items c.args.key c.code_of-code.result c.args.before
    c.self.invariant c.code_of-code.ensures.kept
    ∙ ap (λ (v : Changes _). v.items ++ (c.args.key, c.args.before) ∷ []) c.self.view_is

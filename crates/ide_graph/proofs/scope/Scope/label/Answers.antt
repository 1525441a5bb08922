use Rattle.std.proofs.Common.{◌≡◌, ◌∙◌, Some, ap}
use Rattle.std.specs.Option.{unwrap_or}
use Rattle.ide_graph.proofs.scope.Scope.label.Goals as goal

pub returns : goal.returns
returns c = λ p index q node scope at.
    let found : c.find.result ≡ Some node = c.find.ensures ∙ (scope.layout.labelled c.args.name.now ∙ at) in
    c.unwrap_or.ensures ∙ ap (λ o. unwrap_or o c.args.self.layout.now.exit) found

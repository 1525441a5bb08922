use Rattle.std.proofs.Common.{◌≡◌, true, take}
use Rattle.std.specs.List.{list_all}
use Rattle.ide_text.specs.Names.{is_among}
use Rattle.ide_text.specs.Scope.{variables_of_scope}
use Rattle.ide_text.proofs.scope.Scope.are_variables.Given as goal

abbrev pub invariant-loop-name : goal.invariant-loop-name
invariant-loop-name l = list_all (is_among (variables_of_scope l.self)) (take l.name-index l.names) ≡ true

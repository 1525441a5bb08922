use Rattle.std.proofs.Common.{◌≡◌, true, take}
use Rattle.std.specs.List.{list_all}
use Rattle.ide_text.specs.Names.{takes}
use Rattle.ide_text.proofs.scope.Scope.take_arguments.Given as goal

abbrev pub invariant-loop-name : goal.invariant-loop-name
invariant-loop-name l = list_all (takes l.self.procedures.now l.count) (take l.name-index l.names) ≡ true

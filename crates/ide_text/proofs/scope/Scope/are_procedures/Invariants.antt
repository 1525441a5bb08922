use Rattle.std.proofs.Common.{◌≡◌, true, take}
use Rattle.std.specs.List.{list_all}
use Rattle.ide_text.specs.Names.{is_procedure}
use Rattle.ide_text.proofs.scope.Scope.are_procedures.Given as goal

abbrev pub invariant-loop-name : goal.invariant-loop-name
invariant-loop-name l = list_all (is_procedure l.self.procedures.now) (take l.name-index l.names) ≡ true

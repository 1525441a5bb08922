use Rattle.std.proofs.Common.{◌≡◌, ◌++◌, replicate}
use Rattle.ide_desks.specs.Keeping.{unknown}
use Rattle.ide_desks.proofs.opened.seal_unknown.Given as goal

abbrev pub invariant-loop : goal.invariant-loop
invariant-loop l = l.table ≡ record l.initial.table { sealed = l.initial.table.sealed ++ replicate l.counter unknown }

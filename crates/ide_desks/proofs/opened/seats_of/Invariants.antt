use Rattle.std.proofs.Common.{replicate}
use Rattle.ide_desks.specs.Keeping.{unknown}
use Rattle.ide_desks.proofs.opened.seats_of.Given as goal

abbrev pub ghosts-new : goal.ghosts-new
ghosts-new g a = record { records = replicate a.count unknown.0 }

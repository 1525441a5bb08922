use Rattle.std.proofs.Common.{◌≡◌, ℕ, List, length, take}
use Rattle.ide_graph.specs.Named.{procedure_of_name}
use Rattle.ide_graph.specs.Numbers.{procedure_of}
use Rattle.ide_graph.proofs.directory.Directory.of.Given as goal

abbrev pub invariant-loop-index : goal.invariant-loop-index
invariant-loop-index l = record {
  named : (name : List ℕ) → procedure_of_name l.directory.procedures name ≡ procedure_of (take l.index l.procedures) name;
  counted : l.directory.count ≡ length l.procedures;
}

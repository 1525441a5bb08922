use Rattle.std.proofs.Common.{◌≡◌, ◌+◌, ◌≤◌, ◌++◌, length, take}
use Rattle.ide_graph.specs.Naming.{AreNew}
use Rattle.ide_graph.proofs.names.Names.add_all.Given as goal

abbrev pub invariant-loop-name : goal.invariant-loop-name
invariant-loop-name l = record {
  added : AreNew l.initial.self l.names → l.self ≡ l.initial.self ++ take l.name-index l.names;
  longer : length l.initial.self ≤ length l.self;
  few : length l.self ≤ length l.initial.self + l.name-index;
}

use Rattle.std.proofs.Common.{◌≡◌, ◌++◌, length, IsTrue}
use Rattle.std.specs.List.{flat_map}
use Rattle.ide_batch.specs.Forms.{all_proper}
use Rattle.ide_batch.proofs.list.list_in_front.Given as goal

abbrev pub invariant-loop-taken : goal.invariant-loop-taken
invariant-loop-taken g l = record {
  count : length l.list.items ≡ l._taken;
  proper : IsTrue (all_proper g.T.Coded.proper l.list.items);
  found : l.bytes ≡ flat_map g.T.Coded.form l.list.items ++ l.rest;
}

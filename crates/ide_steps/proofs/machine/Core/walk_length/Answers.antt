use Rattle.std.proofs.Common.{rules}
use Rattle.ide_wire.specs.declared.key.Key.TheVariants.{Jump}
use Rattle.ide_steps.proofs.machine.Core.walk_length.Goals as goal

pub returns-in-Some : goal.returns-in-Some
returns-in-Some g c = record {
  most = c.length_of_walk.ensures.most;
  may = λ some. rw (← c.self.view_is) (record { graph = c.deref.result.now.graph; loaded = search rules; may = c.length_of_walk.ensures.may some });
}

pub length_of_walk-requires : goal.length_of_walk-requires
length_of_walk-requires g c =
    let loaded = c.deref.result.now in
    let kept = (c.self.invariant loaded (search rules)).1 in
    record { node = kept.pending (Jump c.args.node c.args.from c.args.to) (search rules) }

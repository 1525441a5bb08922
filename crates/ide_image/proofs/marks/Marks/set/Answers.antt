use Rattle.std.proofs.Common.{ap, arith, length, sym, ◌∙◌}
use Rattle.ide_image.specs.Queue.{held_at}
use Rattle.ide_image.proofs.OfBits.{held-within, marks-length}
use Rattle.ide_image.proofs.marks.Marks.set.Goals as goal

pub write-requires-clause-there : goal.write-requires-clause-there
write-requires-clause-there c =
    let m = c.self.inside in
    omega (arith, sym (ap length c.self.view_is) ∙ marks-length m.pending m.stacked m.held, c.requires.there)

pub write-requires-clause-room : goal.write-requires-clause-room
write-requires-clause-room c = λ is.
    let m = c.self.inside in
    held-within m.pending m.stacked m.held c.args.slot c.self.invariant (ap (λ marks. held_at marks c.args.slot) c.self.view_is ∙ c.requires.held is)

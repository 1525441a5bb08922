use Rattle.std.proofs.Common.{ap, arith, length, sym, ◌∙◌}
use Rattle.std.specs.Prelude.{slice_set}
use Rattle.ide_image.proofs.OfBits.{marks-length, marks-same}
use Rattle.ide_image.proofs.marks.Marks.hold.Goals as goal

pub write-requires-clause-there : goal.write-requires-clause-there
write-requires-clause-there c =
    let m = c.self.inside in
    omega (arith, sym (ap length c.self.view_is) ∙ marks-length m.pending m.stacked m.held, c.requires.there)

pub returns-clause-marked : goal.returns-clause-marked
returns-clause-marked c =
    let m = c.self.inside in
    c.write.ensures.marks
    ∙ ap (λ marks. slice_set marks c.args.slot c.args.mark) (marks-same m.pending m.stacked m.held c.cover.new.self c.self.invariant c.cover.ensures.same ∙ c.self.view_is)

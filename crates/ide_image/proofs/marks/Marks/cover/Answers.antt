use Rattle.std.proofs.Common.{arith, ap, length, sym, ◌∙◌}
use Rattle.ide_image.specs.declared.mark.Mark.TheVariants.{Settled}
use Rattle.ide_image.specs.Bits.{AreMarked, marks_in}
use Rattle.ide_image.specs.Queue.{mark_in}
use Rattle.ide_image.proofs.OfBits.{marked-cover, marks-cover, marks-length, sum-same}
use Rattle.ide_image.proofs.marks.Marks.cover.Goals as goal

pub returns-clause-covered : goal.returns-clause-covered
returns-clause-covered c =
    let long = marks-length c.cover.new.self c.cover-2.new.self c.self.inside.held in
    omega (arith, long, c.in_ok-cover-2.ensures.len)

pub returns-clause-few : goal.returns-clause-few
returns-clause-few c =
    let long = marks-length c.cover.new.self c.cover-2.new.self c.self.inside.held in
    let was = sym (ap length c.self.view_is) ∙ marks-length c.self.inside.pending c.self.inside.stacked c.self.inside.held in
    omega (arith, long, was, c.in_ok-cover-2.ensures.len, c.requires.few, c.requires.marks)

pub returns-clause-same : goal.returns-clause-same
returns-clause-same c = λ n.
    let before = c.self.inside in
    let longer = c.in_ok-cover-2.ensures.len in
    let are : AreMarked c.cover.new.self c.cover-2.new.self =
    marked-cover before.pending before.stacked before.held c.cover.new.self c.cover-2.new.self before.held c.self.invariant c.cover.ensures.same
    (omega (arith, longer, c.in_ok-cover.ensures.len, c.self.invariant.covered)) (omega (arith, longer)) in
    marks-cover before.pending before.stacked before.held c.cover.new.self c.cover-2.new.self before.held c.self.invariant c.cover.ensures.same are c.cover-2.ensures.same n
    ∙ ap (λ marks. mark_in marks n) c.self.view_is

pub returns-clause-counts : goal.returns-clause-counts
returns-clause-counts c = λ f none. sum-same f Settled none c.args.self.now (marks_in c.cover.new.self c.cover-2.new.self c.self.inside.held) (returns-clause-same c)

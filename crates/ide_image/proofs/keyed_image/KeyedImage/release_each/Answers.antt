use Rattle.std.proofs.Common.{arith, ◌∙◌, ⊎_elim}
use Rattle.std.proofs.lemmas.Bool.{cases_lt}
use Rattle.ide_image.specs.Worklist.{claim_at}
use Rattle.ide_image.proofs.Rest.{past-none, put-gone, put-still}
use Rattle.ide_image.proofs.keyed_image.KeyedImage.release_each.Goals as goal

pub loop-hand-preserved : goal.loop-hand-preserved
loop-hand-preserved g c =
    let before = c.loop-hand.self.pile in
    record {
      none = λ h less. c.release.ensures.claims h ∙ put-gone (claim_at before) c.loop-hand.hand h less (c.loop-hand.invariant.none h);
      still = λ h is. c.release.ensures.claims h ∙ put-still (claim_at before) c.loop-hand.hand h (c.loop-hand.invariant.still h is);
      table = c.release.ensures.table ∙ c.loop-hand.invariant.table;
      pending = c.release.ensures.pending ∙ c.loop-hand.invariant.pending;
      changes = c.release.ensures.changes ∙ c.loop-hand.invariant.changes;
    }

pub returns-clause-free : goal.returns-clause-free
returns-clause-free g c = λ h.
    ⊎_elim
    (λ less. c.loop-hand.invariant.none h less)
    (λ more. c.loop-hand.invariant.still h
    (rw (← c.self.view_is) (past-none c.self.inside.claims.items h (omega (arith, more, c.len-hands.ensures, c.self.inside.claims.ok, c.loop-hand-test.false)))))
    (cases_lt h c.loop-hand.hand)

use Rattle.std.proofs.Common.{◌≡◌, ◌/◌, ◌<◌, ◌∙◌, ⊎_elim, ap, arith, length, subst, sym, true}
use Rattle.std.specs.Prelude.{slice_index}
use Rattle.std.proofs.lemmas.Bool.{cases_lt}
use Rattle.std.proofs.lemmas.Bool.Decides.{nat_tests}
use Rattle.std.proofs.lemmas.Grind.{get_or_default_zero}
use Rattle.ide_image.specs.Grid.{HasPage}
use Rattle.ide_image.specs.Ranks.{SaysIfLeftAt}
use Rattle.ide_image.proofs.noted_slots.NotedSlots.grid.Goals as goal

pub loop-index-preserved : goal.loop-index-preserved
loop-index-preserved g c =
    let says = SaysIfLeftAt g.F.PartialEq.eq c.args.self.now.indexed.now c.args.self.now.queue.now c.args.self.now.notes.now.items in
    let slots = c.args.self.now.slots.now in
    let index = c.loop-index.index in
    let slot = c.in-Some.slot.now in
    let known : index < length slots = grind (arith, nat_tests, c.in-Some.ensures.lookup.0) in
    let stands : slot ≡ slice_index slots index = c.in-Some.ensures.lookup.1 ∙ get_or_default_zero slots index slot known in
    record {
      pages = λ i less.
          ⊎_elim (λ l. c.in_ok-put.ensures.same (slice_index slots i / 64) (c.loop-index.invariant.pages i l))
          (λ r. let last : i ≡ index = omega (arith, less, r) in
          subst (λ n. HasPage c.put.new.self (n / 64)) (stands ∙ ap (λ n. slice_index slots n) (sym last)) c.in_ok-put.ensures.row) (cases_lt i index);
      left = λ i less.
          ⊎_elim (c.loop-index.invariant.left i)
          (λ r. let last : i ≡ c.loop-index.index = omega (arith, less, r) in
          subst (λ n. says n true) (sym last) (λ note is. sym c.if-not-is_left_at.false ∙ c.is_left_at.ensures note is))
          (cases_lt i c.loop-index.index);
    }

pub returns-clause-pages : goal.returns-clause-pages
returns-clause-pages g c = λ i within. c.loop-index.invariant.pages i (omega (arith, within, c.loop-index-test.false))

pub returns-clause-left : goal.returns-clause-left
returns-clause-left g c = λ i within. c.loop-index.invariant.left i (omega (arith, within, c.loop-index-test.false))

use Rattle.std.proofs.Common.{◌≡◌, inl, inr, ◌∙◌, ap, refl, Ok, Some}
use Rattle.std.specs.Prelude.{slice_get}
use Rattle.std.proofs.lemmas.Option.{slice_get_read}
use Rattle.ide_wire.specs.declared.key.Key.{Key}
use Rattle.ide_image.specs.Worklist.{claim_at}
use Rattle.ide_steps.proofs.Going.{same-problem}
use Rattle.ide_steps.proofs.Noted.{remembers-same, remembers-then}
use Rattle.ide_steps.proofs.Running.{change-is, none-works, still-pending, works-lowered, works-none, works-same, works-still}
use Rattle.ide_steps.proofs.machine.Core.do_parts.Goals as goal

pub loop-part-init : goal.loop-part-init
loop-part-init g c = record {
  works = works-none g.P.L.Lattice.algebra g.P.F.EdgeFn.edge g.P.Problem.targets 0 c.args.key c.args.parts.now c.args.self.now;
  free = c.requires.free;
  pending = c.requires.pending;
  same = record { program = refl; graph = refl; roots = refl };
  remembers = remembers-same _ _ refl refl refl;
}

pub loop-part-preserved : goal.loop-part-preserved
loop-part-preserved g c =
    let A = g.P.L.Lattice.algebra in
    let B = g.P.F.EdgeFn.edge in
    let targets = g.P.Problem.targets in
    let key = c.args.key in
    let parts = c.args.parts.now in
    let start = c.args.self.now in
    let old = c.loop-part.self in
    let new = c.lower_owed.new.self in
    let index = c.loop-part.part-index in
    let part : Key × g.row.P-F.Denot = c.part-item.result in
    let before = c.loop-part.invariant in
    let ensures = c.in_ok-change.ensures in
    let at : slice_get parts index ≡ Some part = slice_get_read parts _ index part refl c.loop-part-test.true c.part-item.is in
    let now = c.is_lowered_too-is_lowered.result in
    record {
      works = elim (change-is c.in_ok-change.change) [
        | inl lowered ↦
            let is = ap Ok lowered in
            works-lowered A B targets 0 key parts start old new index c.loop-part.is_lowered before.works ensures.stays part at now
            (c.is_lowered_too-is_lowered.ensures.lowered lowered) before.pending (ensures.lowered is) (ensures.changes is) (ensures.count is)
            (ensures.paid is 0).ranks (ensures.falls is)
        | inr same ↦
            let is = ap Ok same in
            works-same A B targets 0 key parts start old new index c.loop-part.is_lowered before.works ensures.stays part at now
            (c.is_lowered_too-is_lowered.ensures.same same) (ensures.still is) (ensures.same is) (ensures.met is)
      ];
      free = λ h. none-works {F = g.row.P-F.Denot} (claim_at old.pile h) (claim_at new.pile h) (before.free h) (ensures.progress h);
      pending = elim (change-is c.in_ok-change.change) [
        | inl lowered ↦ still-pending B targets old new part.0 key part.1 (ensures.lowered (ap Ok lowered)) before.pending
        | inr same ↦ ap (λ s. s.pending key) (ensures.same (ap Ok same)) ∙ before.pending
      ];
      same = same-problem A B targets before.same ensures.stays;
      remembers = remembers-then _ _ _ before.remembers ensures.remembers;
    }

pub returns-in_err-change-clause-some : goal.returns-in_err-change-clause-some
returns-in_err-change-clause-some g c =
    let before = c.loop-part.invariant in (
      c.loop-part.part-index,
      c.loop-part.is_lowered,
      works-still g.P.L.Lattice.algebra g.P.F.EdgeFn.edge g.P.Problem.targets 0 c.args.key c.args.parts.now c.args.self.now c.loop-part.self c.lower_owed.new.self
          c.loop-part.part-index c.loop-part.is_lowered before.works c.in_err-change.ensures.stays c.in_err-change.ensures.unchanged,
    )

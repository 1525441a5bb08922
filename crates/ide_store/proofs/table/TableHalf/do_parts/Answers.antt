use Rattle.std.proofs.Common.{◌≡◌, ◌∙◌, Ok, Some, ap, inl, inr, refl, subst, sym, true}
use Rattle.std.specs.Prelude.{slice_get}
use Rattle.std.proofs.lemmas.Option.{slice_get_read}
use Rattle.std.proofs.lemmas.Result.{err_from_is_err_and}
use Rattle.ide_image.specs.Worklist.{claim_at, is_pending}
use Rattle.ide_steps.specs.Core.{StandsIn}
use Rattle.ide_steps.proofs.Running.{change-is, none-works, still-pending}
use Rattle.ide_steps.proofs.States.{handed-on}
use Rattle.ide_wire.specs.declared.key.Key.{Key}
use Rattle.ide_wire.specs.declared.refused.Refused.TheVariants.{NoMemory}
use Rattle.ide_store.proofs.Drained.{rest_then, same_pile, same_problem}
use Rattle.ide_store.proofs.Owed.{off_lowered, off_none, off_same, off_sealed, off_unchanged}
use Rattle.ide_store.specs.Draining.{IsWorkStop, memory_is_wanting}
use Rattle.ide_store.specs.Table.{Analysis}
use Rattle.ide_store.proofs.table.TableHalf.do_parts.Given.{Over}
use Rattle.ide_store.proofs.table.TableHalf.do_parts.Goals as goal

-- the analysis of the store
abbrev kept : (g : Over) → Analysis g.row.P-F.Denot g.row.P-L.Denot
kept g = record {
  lattice = g.P.L.Lattice.algebra;
  functions = g.P.F.EdgeFn.edge;
  targets = g.P.Problem.targets;
  same = g.P.F.PartialEq.eq;
  proper = g.P.F.Wire.proper;
  form = g.P.F.Wire.form;
}

pub loop-part-init : goal.loop-part-init
loop-part-init g c = (
  off_none (kept g) c.calls_are_acts.ensures c.args.key c.args.parts.now c.args.self.now,
  record { free = c.requires.free; waits = c.requires.pending; same = record { program = refl; graph = refl; roots = refl } },
  c.requires.noting,
  λ leaves. record { version = refl; sealed = refl; waiting = refl; failed = refl },
)

pub returns-in_err-make_room-clause-some : goal.returns-in_err-make_room-clause-some
returns-in_err-make_room-clause-some g c = (
  c.loop-part.part-index,
  c.loop-part.is_lowered,
  off_sealed (kept g) c.calls_are_acts.ensures c.args.key c.args.parts.now c.args.self.now c.loop-part.self c.make_room.new.self c.loop-part.part-index
      c.loop-part.is_lowered c.loop-part.invariant.0 c.make_room.ensures.held c.make_room.ensures.core,
)

pub returns-in_err-make_room-clause-noting : goal.returns-in_err-make_room-clause-noting
returns-in_err-make_room-clause-noting g c = c.make_room.ensures.noting

pub lower-requires-clause-inside : goal.lower-requires-clause-inside
lower-requires-clause-inside g c = λ graph is.
    let same = same_problem c.loop-part.self.core c.make_room.new.self.core c.make_room.ensures.core in
    let here : c.args.self.now.core.graph ≡ Some graph = sym c.loop-part.invariant.1.same.graph ∙ sym same.graph ∙ is in
    subst (λ e. StandsIn graph e.0) (sym c.part-item.is) (c.requires.inside graph here c.loop-part.part-index c.part-item.result c.loop-part-test.true)

pub returns-in_err-change-clause-some : goal.returns-in_err-change-clause-some
returns-in_err-change-clause-some g c = (
  c.loop-part.part-index,
  c.loop-part.is_lowered,
  off_unchanged (kept g) c.calls_are_acts.ensures c.args.key c.args.parts.now c.args.self.now c.make_room.new.self c.lower.new.self c.loop-part.part-index
      c.loop-part.is_lowered
      (off_sealed (kept g) c.calls_are_acts.ensures c.args.key c.args.parts.now c.args.self.now c.loop-part.self c.make_room.new.self c.loop-part.part-index
      c.loop-part.is_lowered c.loop-part.invariant.0 c.make_room.ensures.held c.make_room.ensures.core)
      c.lower.ensures.rest c.in_err-change.ensures.unchanged,
)

pub returns-in_err-change-clause-refused : goal.returns-in_err-change-clause-refused
returns-in_err-change-clause-refused g c =
    let p = err_from_is_err_and c.from_residual-in_err-change.result c.from_residual-in_err-change.ensures.1 in
    handed-on (IsWorkStop _ _ c.lower.new.self) c.from_residual-in_err-change.result NoMemory p.0 p.1 (p.2 ∙ c.in_err-change.ensures.refused) memory_is_wanting

pub returns-clause-noting : goal.returns-clause-noting
returns-clause-noting g c = c.loop-part.invariant.2

pub returns-in_err-make_room-clause-rest : goal.returns-in_err-make_room-clause-rest
returns-in_err-make_room-clause-rest g c = λ leaves.
    rest_then c.args.self.now c.loop-part.self c.make_room.new.self (c.loop-part.invariant.3 leaves) (c.make_room.ensures.rest leaves)

pub returns-in_err-change-clause-rest : goal.returns-in_err-change-clause-rest
returns-in_err-change-clause-rest g c = λ leaves.
    rest_then c.args.self.now c.make_room.new.self c.lower.new.self
    (rest_then c.args.self.now c.loop-part.self c.make_room.new.self (c.loop-part.invariant.3 leaves) (c.make_room.ensures.rest leaves)) c.lower.ensures.rest

pub loop-part-preserved : goal.loop-part-preserved
loop-part-preserved g c =
    let B = g.P.F.EdgeFn.edge in
    let targets = g.P.Problem.targets in
    let key = c.args.key in
    let parts = c.args.parts.now in
    let start = c.args.self.now in
    let old = c.loop-part.self in
    let full = c.make_room.new.self in
    let new = c.lower.new.self in
    let index = c.loop-part.part-index in
    let part : Key × g.row.P-F.Denot = c.part-item.result in
    let before = c.loop-part.invariant in
    let pile = same_pile old.core full.core c.make_room.ensures.core in
    let same = same_problem old.core full.core c.make_room.ensures.core in
    let at : slice_get parts index ≡ Some part = slice_get_read parts _ index part refl c.loop-part-test.true c.part-item.is in
    let now = c.is_lowered_too-is_lowered.result in
    let off = off_sealed (kept g) c.calls_are_acts.ensures key parts start old full index c.loop-part.is_lowered before.0 c.make_room.ensures.held c.make_room.ensures.core in
    let waits : is_pending full.core.pile key ≡ true = ap (λ p. is_pending p key) pile ∙ before.1.waits in (
      elim (change-is c.in_ok-change.change) [
        | inl lowered ↦
            off_lowered (kept g) c.calls_are_acts.ensures key parts start full new index c.loop-part.is_lowered off c.lower.ensures.rest c.make_room.ensures.noting
            c.lower.ensures.stays c.lower.ensures.remembers part at now (c.is_lowered_too-is_lowered.ensures.lowered lowered) (c.in_ok-change.ensures.lowered (ap Ok lowered))
        | inr equal ↦
            off_same (kept g) c.calls_are_acts.ensures key parts start full new index c.loop-part.is_lowered off c.lower.ensures.rest c.make_room.ensures.noting
            c.lower.ensures.stays c.lower.ensures.remembers part at now (c.is_lowered_too-is_lowered.ensures.same equal) (c.in_ok-change.ensures.same (ap Ok equal))
      ],
      record {
        free = λ h. none-works {F = g.row.P-F.Denot} (claim_at full.core.pile h) (claim_at new.core.pile h) (ap (λ p. claim_at p h) pile ∙ before.1.free h)
            (c.in_ok-change.ensures.tasks h);
        waits = elim (change-is c.in_ok-change.change) [
          | inl lowered ↦ still-pending B targets full.core new.core part.0 key part.1 (c.in_ok-change.ensures.lowered (ap Ok lowered)).lowers waits
          | inr equal ↦ ap (λ s. s.pending key) (c.in_ok-change.ensures.same (ap Ok equal)).same ∙ waits
        ];
        same = record {
          program = c.lower.ensures.stays.program ∙ same.program ∙ before.1.same.program;
          graph = c.lower.ensures.stays.graph ∙ same.graph ∙ before.1.same.graph;
          roots = c.lower.ensures.stays.roots ∙ same.roots ∙ before.1.same.roots;
        };
      },
      c.lower.ensures.remembers.noting ∙ c.make_room.ensures.noting,
      λ leaves. rest_then start full new (rest_then start old full (before.3 leaves) (c.make_room.ensures.rest leaves)) c.lower.ensures.rest,
    )

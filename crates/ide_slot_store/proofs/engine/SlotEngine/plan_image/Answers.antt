use Rattle.std.proofs.Common.{◌≡◌, ◌∙◌, All, List, Bool, Result, Ok, true, ap, sym, subst}
use Rattle.std.specs.Prelude.{IfErr}
use Rattle.ide_journal.specs.Lists.{entries_of}
use Rattle.ide_journal.specs.declared.record.RawRecord.{RawRecord}
use Rattle.ide_slots.specs.Slot.{IsPartEntry}
use Rattle.ide_wire.specs.declared.refused.Refused.{Refused}
use Rattle.ide_store.specs.Table.{Analysis}
use Rattle.ide_slot_store.specs.Asking.{IsImageStop, PlansTo, did_not, no_parts}
use Rattle.ide_slot_store.specs.Checkpoint.{spelling_anew}
use Rattle.ide_slot_store.specs.Parts.{AreImageParts}
use Rattle.ide_slot_store.specs.declared.engine.SlotEngine.{SlotEngine}
use Rattle.ide_slot_store.specs.declared.writer.SlotWriterHalf.{SlotWriterHalf}
use Rattle.ide_slot_store.proofs.Asking.{plan_comes_to, plan_stop}
use Rattle.ide_slot_store.proofs.ImageParts.{parts_proper}
use Rattle.ide_slot_store.proofs.engine.SlotEngine.plan_image.Given.{Over}
use Rattle.ide_slot_store.proofs.engine.SlotEngine.plan_image.Goals as goal
use Rattle.ide_slot_store.proofs.engine.SlotEngine.plan_image.Goals.{else-matches, in-Ok-true, in_default, in_default-2, then-matches}

-- the analysis of the store
abbrev kept : (g : Over) → Analysis g.row.P-F.Denot g.row.P-L.Denot
kept g = record {
  lattice = g.P.L.Lattice.algebra;
  functions = g.P.F.EdgeFn.edge;
  targets = g.P.Problem.targets;
  same = g.P.F.PartialEq.eq;
  proper = g.P.F.Wire.proper;
  form = g.P.F.Wire.form;
}

pub plan_all-planned-requires-clause-parts : goal.plan_all-planned-requires-clause-parts
plan_all-planned-requires-clause-parts g c =
    let are = c.in-Ok.ensures.parts in
    subst (λ (rs : List RawRecord). All IsPartEntry (entries_of rs)) (sym c.as_slice.ensures.value)
    (parts_proper (kept g) are.items (entries_of c.in-Ok.parts.items) are.in_parts)

-- ---- what is answered is what the writer planned, and the half that works spells anew exactly then
answered_is : (g : Over) (c : goal.After-drop-parts g) → c.match-matches.planned ≡ c.plan_all-planned.result
answered_is g c = elim c.match-matches.branch [
  | in-Ok-true w ↦ cc (w.planned-is, w.in-Ok-true.is)
  | in_default w ↦ cc (w.planned-is, w.in_default.is)
  | in_default-2 w ↦ cc (w.planned-is, w.in_default.is)
]

writer_is : (g : Over) (c : goal.After-drop-parts g) → c.if-matches.self.writer ≡ c.plan_all-planned.new.self
writer_is g c = elim c.if-matches.branch [
  | then-matches v ↦ ap (λ (e : SlotEngine _ _ _ _ _). e.writer) v.self-is
  | else-matches v ↦ ap (λ (e : SlotEngine _ _ _ _ _). e.writer) v.self-is
]

spelled_anew : (g : Over) (c : goal.After-drop-parts g) → c.match-matches.planned ≡ Ok true → c.if-matches.self.table ≡ spelling_anew c.args.self.now.table
spelled_anew g c is = elim c.match-matches.branch [
  | in-Ok-true w ↦ elim c.if-matches.branch [
    | then-matches v ↦ ap (λ (e : SlotEngine _ _ _ _ _). e.table) v.self-is ∙ v.spell_in.ensures
    | else-matches v ↦ cc (w.matches-is, v.if-matches.false)
  ]
  | in_default w ↦ cc (is, w.planned-is)
  | in_default-2 w ↦ cc (is, w.planned-is)
]

spelled_still : (g : Over) (c : goal.After-drop-parts g) → (c.match-matches.planned ≡ Ok true → ⊥) → c.if-matches.self.table ≡ c.args.self.now.table
spelled_still g c none = elim c.if-matches.branch [
  | then-matches v ↦ elim c.match-matches.branch [
    | in-Ok-true w ↦ absurd (none (w.planned-is ∙ ap (λ b. Ok b) w.in-Ok-true.field-0-test))
    | in_default w ↦ cc (w.matches-is, v.if-matches.true)
    | in_default-2 w ↦ cc (w.matches-is, v.if-matches.true)
  ]
  | else-matches v ↦ ap (λ (e : SlotEngine _ _ _ _ _). e.table) v.self-is
]

pub returns-after-matches-clause-plans : goal.returns-after-matches-clause-plans
returns-after-matches-clause-plans g c tag w reached at =
    let planned = c.plan_all-planned in
    let result = answered_is g c in
    let image =
    subst (λ (rs : List RawRecord). AreImageParts (kept g) c.args.self.now.table (entries_of rs)) (sym c.as_slice.ensures.value) c.in-Ok.ensures.parts in
    subst (λ (h : SlotWriterHalf _ _). PlansTo (kept g) tag w c.if-matches.self.table h c.match-matches.planned) (sym (writer_is g c))
    (subst (λ (r : Result Bool Refused). PlansTo (kept g) tag w c.if-matches.self.table planned.new.self r) (sym result)
    (plan_comes_to (kept g) tag c.slot_checkpoints_begin.ensures.begins w c.args.self.now.table (entries_of c.as_slice.result.now) c.args.self.now.writer
    planned.new.self c.requires.handed c.requires.still image planned.ensures.disks at planned.result c.if-matches.self.table
    (λ is. spelled_anew g c (result ∙ is)) (λ none. spelled_still g c (λ is. none (sym result ∙ is)))
    planned.ensures.planned planned.ensures.none planned.ensures.unplanned planned.ensures.quiet))

pub returns-after-matches-clause-refused : goal.returns-after-matches-clause-refused
returns-after-matches-clause-refused g c =
    subst (λ (r : Result Bool Refused). IfErr r (IsImageStop (kept g) c.args.self.now)) (sym (answered_is g c))
    (plan_stop (kept g) c.args.self.now c.plan_all-planned.result c.plan_all-planned.ensures.refused)

pub returns-in-Err-clause-plans : goal.returns-in-Err-clause-plans
returns-in-Err-clause-plans g c tag w reached at = did_not at

pub returns-in-Err-clause-refused : goal.returns-in-Err-clause-refused
returns-in-Err-clause-refused g c = no_parts c.in-Err.ensures.refused

use Rattle.std.proofs.Common.{◌≡◌, ◌+◌, ◌-◌, ◌∙◌, ap, refl, arith, ℕ, List, length}
use Rattle.ide_text.specs.declared.program.Statement.{Statement}
use Rattle.std.specs.List.{flat_map}
use Rattle.ide_graph.specs.Numbers.{label_among, spots_on}
use Rattle.ide_graph.proofs.NumberedLemmas.{StandWithin-push, BelongTo-more}
use Rattle.ide_graph.proofs.ProcedureLemmas.{numbering_more, whole_procedure, layout_by}
use Rattle.ide_graph.proofs.RoomLemmas.{spots_after, spots_count}
use Rattle.ide_graph.proofs.numbering.Numbering.add_procedure.Goals as goal

-- the numbers suffice for the start, for the statements and for the exit
pub add_spot-requires-clause-few : goal.add_spot-requires-clause-few
add_spot-requires-clause-few c = omega (arith, c.requires.few, spots_count c.args.procedure.now)

pub add_statements-requires-clause-few : goal.add_statements-requires-clause-few
add_statements-requires-clause-few c =
    let same = ap (λ (ss : List Statement). length (flat_map spots_on ss)) c.deref.ensures.value in
    omega (arith, c.requires.few, spots_count c.args.procedure.now, c.in_ok-start.ensures.longer, same)

pub add_spot-requires-2-clause-few : goal.add_spot-requires-2-clause-few
add_spot-requires-2-clause-few c =
    let same = ap (λ (ss : List Statement). length (flat_map spots_on ss)) c.deref.ensures.value in
    let count = spots_after _ _ _ _ c.in_ok-labels.ensures.added in
    omega (arith, c.requires.few, spots_count c.args.procedure.now, c.in_ok-start.ensures.longer, same, count)

pub returns-clause-numbering : goal.returns-clause-numbering
returns-clause-numbering c before is =
    let self = c.args.self.now in
    let q = c.args.procedure.now in
    let last : c.in_ok-exit.exit ≡ length c.add_spot-2.new.spots.items - 1 = omega (arith, c.in_ok-exit.ensures.number, c.in_ok-exit.ensures.longer) in
    numbering_more before q self _ is c.in_ok-of.field-0 c.in_ok-labels.labels
    (whole_procedure c.len-index.result (length self.layouts.items) q c.deref.result.now _ _ _ _
    (omega (arith, c.len-index.ensures, self.layouts.ok)) c.deref.ensures.value c.in_ok-start.ensures.added c.in_ok-labels.ensures.added c.in_ok-exit.ensures.added)
    c.in_ok-push-2.ensures.items
    (layout_by _ _ _ _ q q c.in_ok-of.field-0 c.in_ok-of.field-0 c.in_ok-start.ensures.number last refl refl c.in_ok-of.ensures.layout)
    c.in_ok-push.ensures.items
    (λ name. c.in_ok-labels.ensures.labels name ∙ ap (λ (begin : ℕ). label_among begin c.deref.result.now name) c.in_ok-start.ensures.longer ∙ ap (λ (ss : List Statement). label_among (length self.spots.items + 1) ss name) c.deref.ensures.value)

pub returns-clause-numbered : goal.returns-clause-numbered
returns-clause-numbered c = record {
  few = c.in_ok-exit.ensures.few;
  fewer = omega (arith, c.requires.numbered.fewer, c.in_ok-push-2.ensures.len, c.in_ok-start.ensures.longer, c.in_ok-labels.ensures.longer, c.in_ok-exit.ensures.longer);
  owned = BelongTo-more _ _ _ (omega (arith, c.in_ok-push-2.ensures.len, c.len-index.ensures)) c.in_ok-exit.ensures.owned;
  placed = rw c.in_ok-push-2.ensures.items (StandWithin-push _ _ _ _ (omega (arith, c.in_ok-start.ensures.longer, c.in_ok-labels.ensures.longer, c.in_ok-exit.ensures.longer)) c.requires.numbered.placed (omega (arith, c.in_ok-of.ensures.layout.start, c.in_ok-start.ensures.number, c.in_ok-start.ensures.longer, c.in_ok-labels.ensures.longer, c.in_ok-exit.ensures.longer)) (omega (arith, c.in_ok-of.ensures.layout.exit, c.in_ok-exit.ensures.number, c.in_ok-exit.ensures.longer)));
  labelled = omega (arith, c.requires.numbered.labelled, c.in_ok-push.ensures.len, c.in_ok-push-2.ensures.len);
}

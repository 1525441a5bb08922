use Rattle.std.proofs.Common.{◌≡◌, ◌<◌, ◌≤◌, Some, true, false, ap, length, subst, sym, ◌∙◌, arith}
use Rattle.ide_image.specs.Spent.{spent}
use Rattle.ide_image.specs.Indexed.{entries_in, table_of}
use Rattle.ide_image.specs.Tables.{found, function_at, or_top}
use Rattle.ide_image.proofs.Falls.{falls-at, lowers, spent-lower}
use Rattle.ide_image.proofs.Places.{long-stays}
use Rattle.ide_image.proofs.Shown.{few-shown}
use Rattle.ide_image.proofs.Agree.{image-same, on-err, cell-same, is-worklist, same-cells, same-then, whole-same}
use Rattle.ide_image.proofs.Before.{count-then, function-before, kept-is, note-before, pending-then, sets-before, spends-before}
use Rattle.ide_image.proofs.keyed_image.KeyedImage.lower.Goals as goal

pub returns-in_err-cell-clause-held : goal.returns-in_err-cell-clause-held
returns-in_err-cell-clause-held g c =
    rw (← c.self.view_is) (is-worklist c.self.inside.indexed c.self.inside.queue c.self.inside.claims.items c.self.inside.changes c.self.invariant)

pub returns-then-eq-clause-held : goal.returns-then-eq-clause-held
returns-then-eq-clause-held g c =
    rw (← c.self.view_is) (is-worklist c.self.inside.indexed c.self.inside.queue c.self.inside.claims.items c.self.inside.changes c.self.invariant)

pub returns-in_err-make_room-clause-held : goal.returns-in_err-make_room-clause-held
returns-in_err-make_room-clause-held g c =
    rw (← c.self.view_is) (is-worklist c.self.inside.indexed c.self.inside.queue c.self.inside.claims.items c.self.inside.changes c.self.invariant)

pub returns-clause-held : goal.returns-clause-held
returns-clause-held g c =
    rw (← c.self.view_is) (is-worklist c.self.inside.indexed c.self.inside.queue c.self.inside.claims.items c.self.inside.changes c.self.invariant)

pub invariant_of-self-then-eq : goal.invariant_of-self-then-eq
invariant_of-self-then-eq g c =
    let inside = c.self.inside in
    let grown = same-cells inside.indexed c.make_cell.new.self inside.queue inside.changes c.make_cell.ensures.widens (λ _. c.make_cell.ensures.distinct) in
    whole-same inside.indexed c.make_cell.new.self inside.queue inside.queue inside.claims.items inside.changes inside.changes grown c.self.invariant

pub invariant_of-self-in_err-make_room : goal.invariant_of-self-in_err-make_room
invariant_of-self-in_err-make_room g c =
    let inside = c.self.inside in
    let grown = same-cells inside.indexed c.make_cell.new.self inside.queue inside.changes c.make_cell.ensures.widens (λ _. c.make_cell.ensures.distinct) in
    let same = same-then inside.indexed c.make_cell.new.self c.make_room.new.indexed inside.queue inside.queue c.make_room.new.queue inside.changes inside.changes c.make_room.new.changes grown c.make_room.ensures.same in
    whole-same inside.indexed c.make_room.new.indexed inside.queue c.make_room.new.queue inside.claims.items inside.changes c.make_room.new.changes same c.self.invariant

pub enter-requires-clause-whole : goal.enter-requires-clause-whole
enter-requires-clause-whole g c =
    let inside = c.self.inside in
    let grown = same-cells inside.indexed c.make_cell.new.self inside.queue inside.changes c.make_cell.ensures.widens (λ _. c.make_cell.ensures.distinct) in
    let same = same-then inside.indexed c.make_cell.new.self c.make_room.new.indexed inside.queue inside.queue c.make_room.new.queue inside.changes inside.changes c.make_room.new.changes grown c.make_room.ensures.same in
    whole-same inside.indexed c.make_room.new.indexed inside.queue c.make_room.new.queue inside.claims.items inside.changes c.make_room.new.changes same c.self.invariant

pub enter-requires-clause-cell : goal.enter-requires-clause-cell
enter-requires-clause-cell g c =
    cell-same c.make_cell.new.self c.make_room.new.indexed c.args.key c.in_ok-cell.cell c.make_room.ensures.same.cells c.in_ok-cell.ensures.cell

pub returns-clause-lowered : goal.returns-clause-lowered
returns-clause-lowered g c = λ _.
    let inside = c.self.inside in
    let grown = same-cells inside.indexed c.make_cell.new.self inside.queue inside.changes c.make_cell.ensures.widens (λ _. c.make_cell.ensures.distinct) in
    let same = same-then inside.indexed c.make_cell.new.self c.make_room.new.indexed inside.queue inside.queue c.make_room.new.queue inside.changes inside.changes c.make_room.new.changes grown c.make_room.ensures.same in
    let B = g.F.EdgeFn.edge in
    let old : c.function_in-old.result ≡ function_at B (table_of inside.indexed.cells) c.args.key =
    c.function_in-old.ensures c.args.key c.in_ok-cell.ensures.cell
    ∙ ap (or_top B) (function-before inside.indexed c.make_cell.new.self inside.queue inside.queue inside.claims.items inside.changes inside.changes c.self.invariant grown c.args.key) in
    let sets = sets-before inside.indexed c.make_room.new.indexed inside.queue c.make_room.new.queue inside.claims.items inside.changes c.make_room.new.changes c.self.invariant same
    c.enter.new.indexed c.enter.new.queue c.enter.new.claims.items c.enter.new.changes c.args.key c.enter.ensures.whole c.fallen-new.result c.enter.ensures.cells in
    rw (← c.self.view_is)
    (lowers B (table_of inside.indexed.cells) c.args.key c.args.f c.function_in-old.result c.fallen-new.result old c.fallen-new.ensures.meet (table_of c.enter.new.indexed.cells) sets)

pub returns-clause-spent : goal.returns-clause-spent
returns-clause-spent g c = λ _.
    let inside = c.self.inside in
    let grown = same-cells inside.indexed c.make_cell.new.self inside.queue inside.changes c.make_cell.ensures.widens (λ _. c.make_cell.ensures.distinct) in
    let same = same-then inside.indexed c.make_cell.new.self c.make_room.new.indexed inside.queue inside.queue c.make_room.new.queue inside.changes inside.changes c.make_room.new.changes grown c.make_room.ensures.same in
    let B = g.F.EdgeFn.edge in
    let old : c.function_in-old.result ≡ function_at B (table_of inside.indexed.cells) c.args.key =
    c.function_in-old.ensures c.args.key c.in_ok-cell.ensures.cell
    ∙ ap (or_top B) (function-before inside.indexed c.make_cell.new.self inside.queue inside.queue inside.claims.items inside.changes inside.changes c.self.invariant grown c.args.key) in
    let spends = spends-before inside.indexed c.make_room.new.indexed inside.queue c.make_room.new.queue inside.claims.items inside.changes c.make_room.new.changes c.self.invariant same
    B c.enter.new.indexed c.args.key c.fallen-new.result c.enter.ensures.cells in
    let less = c.fallen-new.ensures.falls (sym c.eq.ensures ∙ c.if-eq.false) in
    let most = subst (λ f. B.rank f ≤ B.height) old c.fallen-new.ensures.most in
    let below = subst (λ f. B.rank c.fallen-new.result < B.rank f) old less in
    rw (← c.self.view_is)
    (spent-lower B (found (table_of inside.indexed.cells) c.args.key) c.fallen-new.result (spent B (entries_in inside.indexed.cells)) (spent B (entries_in c.enter.new.indexed.cells)) most below spends)

pub returns-clause-few : goal.returns-clause-few
returns-clause-few g c = λ _.
    let stands = cell-same c.make_cell.new.self c.make_room.new.indexed c.args.key c.in_ok-cell.cell c.make_room.ensures.same.cells c.in_ok-cell.ensures.cell in
    let long = ap length c.enter.ensures.cells ∙ long-stays c.args.key c.make_room.new.indexed.cells (Some c.fallen-new.result) c.in_ok-cell.cell stands in
    let few = few-shown c.enter.new.indexed.cells in
    omega (arith, long, few, c.make_room.ensures.bound, c.make_cell.ensures.bound)

pub returns-clause-pending : goal.returns-clause-pending
returns-clause-pending g c = λ _.
    let inside = c.self.inside in
    let grown = same-cells inside.indexed c.make_cell.new.self inside.queue inside.changes c.make_cell.ensures.widens (λ _. c.make_cell.ensures.distinct) in
    let same = same-then inside.indexed c.make_cell.new.self c.make_room.new.indexed inside.queue inside.queue c.make_room.new.queue inside.changes inside.changes c.make_room.new.changes grown c.make_room.ensures.same in
    rw (← c.self.view_is)
    (pending-then inside.indexed c.make_room.new.indexed inside.queue c.make_room.new.queue inside.claims.items inside.changes c.make_room.new.changes c.self.invariant same
    c.enter.new.indexed c.enter.new.queue c.enter.new.claims.items c.enter.new.changes c.args.key c.enter.ensures.whole c.enter.ensures.pending)

pub returns-clause-count : goal.returns-clause-count
returns-clause-count g c = λ _.
    let inside = c.self.inside in
    let grown = same-cells inside.indexed c.make_cell.new.self inside.queue inside.changes c.make_cell.ensures.widens (λ _. c.make_cell.ensures.distinct) in
    let same = same-then inside.indexed c.make_cell.new.self c.make_room.new.indexed inside.queue inside.queue c.make_room.new.queue inside.changes inside.changes c.make_room.new.changes grown c.make_room.ensures.same in
    rw (← c.self.view_is)
    (count-then inside.indexed c.make_room.new.indexed inside.queue c.make_room.new.queue inside.claims.items inside.changes c.make_room.new.changes c.self.invariant same
    c.enter.new.indexed c.enter.new.queue c.enter.new.claims.items c.enter.new.changes c.args.key c.enter.ensures.whole c.make_room.ensures.count c.enter.ensures.count)

pub returns-clause-noted : goal.returns-clause-noted
returns-clause-noted g c = λ _.
    let inside = c.self.inside in
    let grown = same-cells inside.indexed c.make_cell.new.self inside.queue inside.changes c.make_cell.ensures.widens (λ _. c.make_cell.ensures.distinct) in
    let same = same-then inside.indexed c.make_cell.new.self c.make_room.new.indexed inside.queue inside.queue c.make_room.new.queue inside.changes inside.changes c.make_room.new.changes grown c.make_room.ensures.same in
    rw (← c.self.view_is)
    (note-before inside.indexed c.make_room.new.indexed inside.queue c.make_room.new.queue inside.claims.items inside.changes c.make_room.new.changes c.self.invariant same c.args.key c.enter.new.changes.list c.enter.ensures.list)

pub invariant_of-self : goal.invariant_of-self
invariant_of-self g c =
    let inside = c.self.inside in
    let grown = same-cells inside.indexed c.make_cell.new.self inside.queue inside.changes c.make_cell.ensures.widens (λ _. c.make_cell.ensures.distinct) in
    whole-same inside.indexed c.make_cell.new.self inside.queue inside.queue inside.claims.items inside.changes inside.changes grown c.self.invariant

pub returns-in_err-cell-clause-err : goal.returns-in_err-cell-clause-err
returns-in_err-cell-clause-err g c =
    let inside = c.self.inside in
    let grown = same-cells inside.indexed c.make_cell.new.self inside.queue inside.changes c.make_cell.ensures.widens (λ _. c.make_cell.ensures.distinct) in
    rw (← c.self.view_is)
    (on-err _ (image-same inside.indexed c.make_cell.new.self inside.queue inside.queue inside.claims.items inside.changes inside.changes grown c.self.invariant))

pub returns-in_err-make_room-clause-err : goal.returns-in_err-make_room-clause-err
returns-in_err-make_room-clause-err g c =
    let inside = c.self.inside in
    let grown = same-cells inside.indexed c.make_cell.new.self inside.queue inside.changes c.make_cell.ensures.widens (λ _. c.make_cell.ensures.distinct) in
    let same = same-then inside.indexed c.make_cell.new.self c.make_room.new.indexed inside.queue inside.queue c.make_room.new.queue inside.changes inside.changes c.make_room.new.changes grown c.make_room.ensures.same in
    rw (← c.self.view_is)
    (on-err _ (image-same inside.indexed c.make_room.new.indexed inside.queue c.make_room.new.queue inside.claims.items inside.changes c.make_room.new.changes same c.self.invariant))

pub returns-then-eq-clause-same : goal.returns-then-eq-clause-same
returns-then-eq-clause-same g c = λ _.
    let inside = c.self.inside in
    let grown = same-cells inside.indexed c.make_cell.new.self inside.queue inside.changes c.make_cell.ensures.widens (λ _. c.make_cell.ensures.distinct) in
    rw (← c.self.view_is)
    (image-same inside.indexed c.make_cell.new.self inside.queue inside.queue inside.claims.items inside.changes inside.changes grown c.self.invariant)

pub returns-then-eq-clause-met : goal.returns-then-eq-clause-met
returns-then-eq-clause-met g c = λ _.
    let inside = c.self.inside in
    let grown = same-cells inside.indexed c.make_cell.new.self inside.queue inside.changes c.make_cell.ensures.widens (λ _. c.make_cell.ensures.distinct) in
    let B = g.F.EdgeFn.edge in
    let old : c.function_in-old.result ≡ function_at B (table_of inside.indexed.cells) c.args.key =
    c.function_in-old.ensures c.args.key c.in_ok-cell.ensures.cell
    ∙ ap (or_top B) (function-before inside.indexed c.make_cell.new.self inside.queue inside.queue inside.claims.items inside.changes inside.changes c.self.invariant grown c.args.key) in
    rw (← c.self.view_is)
    (kept-is B g.F.PartialEq.eq (table_of inside.indexed.cells) c.args.key c.args.f c.function_in-old.result c.fallen-new.result true old c.fallen-new.ensures.meet (sym c.eq.ensures ∙ c.if-eq.true))

pub returns-clause-changes : goal.returns-clause-changes
returns-clause-changes g c = λ _.
    let inside = c.self.inside in
    let grown = same-cells inside.indexed c.make_cell.new.self inside.queue inside.changes c.make_cell.ensures.widens (λ _. c.make_cell.ensures.distinct) in
    let B = g.F.EdgeFn.edge in
    let old : c.function_in-old.result ≡ function_at B (table_of inside.indexed.cells) c.args.key =
    c.function_in-old.ensures c.args.key c.in_ok-cell.ensures.cell
    ∙ ap (or_top B) (function-before inside.indexed c.make_cell.new.self inside.queue inside.queue inside.claims.items inside.changes inside.changes c.self.invariant grown c.args.key) in
    rw (← c.self.view_is)
    (kept-is B g.F.PartialEq.eq (table_of inside.indexed.cells) c.args.key c.args.f c.function_in-old.result c.fallen-new.result false old c.fallen-new.ensures.meet (sym c.eq.ensures ∙ c.if-eq.false))

pub returns-clause-falls : goal.returns-clause-falls
returns-clause-falls g c = λ _.
    let inside = c.self.inside in
    let grown = same-cells inside.indexed c.make_cell.new.self inside.queue inside.changes c.make_cell.ensures.widens (λ _. c.make_cell.ensures.distinct) in
    let B = g.F.EdgeFn.edge in
    let old : c.function_in-old.result ≡ function_at B (table_of inside.indexed.cells) c.args.key =
    c.function_in-old.ensures c.args.key c.in_ok-cell.ensures.cell
    ∙ ap (or_top B) (function-before inside.indexed c.make_cell.new.self inside.queue inside.queue inside.claims.items inside.changes inside.changes c.self.invariant grown c.args.key) in
    rw (← c.self.view_is)
    (falls-at B (table_of inside.indexed.cells) c.args.key c.args.f c.function_in-old.result c.fallen-new.result old c.fallen-new.ensures.meet
    c.fallen-new.ensures.most (c.fallen-new.ensures.falls (sym c.eq.ensures ∙ c.if-eq.false)))

pub returns-clause-claims : goal.returns-clause-claims
returns-clause-claims g c = λ _. rw (← c.self.view_is) c.enter.ensures.claims

use Rattle.std.proofs.Common.{◌≡◌, ◌≤◌, length, rules, ap, subst, ◌∙◌}
use Rattle.ide_board.specs.declared.view.Role.TheVariants.{Table, Writer}
use Rattle.ide_board.specs.declared.view.Role.{Role}
use Rattle.ide_board.specs.declared.view.View.{View}
use Rattle.ide_board.specs.Roles.{Sitter, without_note, sealed_in, handed_in, taken_in, stored_in}
use Rattle.ide_board.specs.Steps.{told_of}
use Rattle.ide_board.proofs.Tables.{begins_hand_over, ends_told}
use Rattle.ide_board.proofs.Writers.{takes_told}
use Rattle.ide_board.proofs.board.Board.hand_over.Goals as goal

pub load-requires : goal.load-requires
load-requires g c = (search rules, search rules, begins_hand_over _ _ _ (rw c.tell.ensures.to_me c.table.invariant.table) (rw c.tell.ensures.to_me c.writer.invariant.writer))

pub load-requires-2 : goal.load-requires-2
load-requires-2 g c =
    let V : Type 0 = View g.row.R.Denot in
    let table : Role g.row.R.Denot = c.table.inside.seat.me.0.role in
    let writer : Role g.row.R.Denot = c.writer.inside.seat.me.0.role in
    let same : c.tell.new.from.me.0 ≡ c.writer.inside.seat.me.0 = ap {A = Sitter g.row.R.Denot} (λ m. m.0) c.tell.ensures.from_me in
    let begun : c.load.new.seat.me.0 ≡ without_note (Table (sealed_in table) (length (sealed_in table)) (handed_in table)) =
    subst (λ (v : V). c.load.new.seat.me.0 ≡ without_note (Table (sealed_in v.role) (length (sealed_in v.role)) (handed_in v.role))) c.tell.ensures.to_me c.load.ensures.2.0 in
    let few : length (taken_in writer) ≤ handed_in table = subst (λ (v : V). length (taken_in v.note) ≤ handed_in v.role) c.tell.ensures.to_me c.load.ensures.2.2 in
    let within : handed_in table ≤ length (sealed_in table) = subst (λ (v : V). handed_in v.role ≤ length (sealed_in v.role)) c.tell.ensures.to_me c.load.ensures.2.3 in
    (search rules, search rules, takes_told _ _ _ writer table (c.tell-2.ensures.to_me ∙ (λ i. told_of (same i) (begun i))) c.writer.invariant.writer few within)

pub load-requires-3 : goal.load-requires-3
load-requires-3 g c =
    let V : Type 0 = View g.row.R.Denot in
    let table : Role g.row.R.Denot = c.table.inside.seat.me.0.role in
    let writer : Role g.row.R.Denot = c.writer.inside.seat.me.0.role in
    let same : c.tell.new.from.me.0 ≡ c.writer.inside.seat.me.0 = ap {A = Sitter g.row.R.Denot} (λ m. m.0) c.tell.ensures.from_me in
    let begun : c.load.new.seat.me.0 ≡ without_note (Table (sealed_in table) (length (sealed_in table)) (handed_in table)) =
    subst (λ (v : V). c.load.new.seat.me.0 ≡ without_note (Table (sealed_in v.role) (length (sealed_in v.role)) (handed_in v.role))) c.tell.ensures.to_me c.load.ensures.2.0 in
    let told_writer : c.tell-2.new.to.me.0 ≡ told_of c.writer.inside.seat.me.0 (without_note (Table (sealed_in table) (length (sealed_in table)) (handed_in table))) = c.tell-2.ensures.to_me ∙ (λ i. told_of (same i) (begun i)) in
    let took : c.load-2.new.seat.me.0 ≡ without_note (Writer (sealed_in table) (stored_in writer)) =
    subst (λ (v : V). c.load-2.new.seat.me.0 ≡ without_note (Writer (sealed_in v.note) (stored_in v.role))) told_writer c.load-2.ensures.2.0 in
    let still : c.tell-2.new.from.me.0 ≡ without_note (Table (sealed_in table) (length (sealed_in table)) (handed_in table)) = ap {A = Sitter g.row.R.Denot} (λ m. m.0) c.tell-2.ensures.from_me ∙ begun in
    (search rules, search rules, ends_told _ _ _ (sealed_in table) (stored_in writer) (handed_in table) (c.tell-3.ensures.to_me ∙ (λ i. told_of (still i) (took i))))

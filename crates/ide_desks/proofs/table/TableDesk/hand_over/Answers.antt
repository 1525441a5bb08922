use Rattle.std.proofs.Common.{◌≡◌, ◌∙◌, List, ap, arith, length, subst, sym}
use Rattle.std.proofs.Math.Logic.{∥∥₁_map₂}
use Rattle.ide_board.specs.Records.{Marked}
use Rattle.ide_desks.specs.declared.switch.TableSwitch.{TableSwitch}
use Rattle.ide_desks.specs.declared.switch.WriterSwitch.{WriterSwitch}
use Rattle.ide_desks.specs.Switching.{version_after}
use Rattle.ide_desks.specs.Desks.{CountsSealed, CountsTaken, IsTableDesk, IsWriterDesk}
use Rattle.ide_desks.proofs.Lists.{first_of_more, prefix_length}
use Rattle.ide_desks.proofs.Meeting.{handed_sealed, table_takes, writer_takes}
use Rattle.ide_store.specs.Table.{Analysis}
use Rattle.ide_desks.proofs.table.TableDesk.hand_over.Given.{Over}
use Rattle.ide_desks.proofs.table.TableDesk.hand_over.Goals as goal

-- the analysis of the store
abbrev kept : (g : Over) → Analysis g.row.P-F.Denot g.row.P-L.Denot
kept g = record {
  lattice = g.P.L.Lattice.algebra;
  functions = g.P.F.EdgeFn.edge;
  targets = g.P.Problem.targets;
  same = g.P.F.PartialEq.eq;
  proper = g.P.F.Wire.proper;
  form = g.P.F.Wire.form;
}

pub invariant_of-self : goal.invariant_of-self
invariant_of-self g c =
    let old = c.args.self.now in
    let writer = c.args.writer.now in
    let over = c.hand_over.ensures in
    let within = writer.counts.within in
    let taken = writer.counts.count in
    let stored = c.stored.ensures in
    let some = c.if-stored-writer.false in
    let all : length writer.seat.stored ≡ length writer.seat.taken = omega (arith, within, taken, stored, some) in
    record {
      named = (old.named.0, ap (λ s. s.board) over.table ∙ old.named.1);
      switched = ap (λ (s : TableSwitch). s.board) c.agree.ensures.table ∙ old.switched;
      counts = subst (CountsSealed c.take_over.new.working) (sym over.table) (record {
        count = handed_sealed old.half c.take_over.new.working _ _ c.take_over.ensures.hands ∙ old.counts.count;
        handed = omega arith;
      });
      kept = λ told.
          let first = g.J.Accord.first told in
          let version = g.J.Accord.version told in
          ∥∥₁_map₂ (old.kept told) (writer.kept told) (λ desk writes.
          subst (λ (s : TableSwitch). IsTableDesk (kept g) g.P.Problem.TAG (version_after version s.seat.sealed) first c.take_over.new.working c.hand_over.new.table)
          (sym c.agree.ensures.table)
          (subst (IsTableDesk (kept g) g.P.Problem.TAG (version_after version old.switch.seat.sealed) first c.take_over.new.working) (sym over.table)
          (table_takes (kept g) g.P.Problem.TAG (version_after version old.switch.seat.sealed) first c.two_disks_are_a_store.ensures.keep old.half
          c.take_over.new.working writer.half c.take_over.new.writing old.seat writer.seat writer.failed c.if-writer.false old.counts over.begins over.all all
          c.take_over.ensures.hands desk
          (subst (λ (xs : List (Marked (Unit {0}))). IsWriterDesk (kept g) g.P.Problem.TAG (version_after version xs) first writer.half writer.seat writer.failed)
          c.agree.ensures.agreed writes))));
    }

pub invariant_of-writer : goal.invariant_of-writer
invariant_of-writer g c =
    let old = c.args.self.now in
    let writer = c.args.writer.now in
    let over = c.hand_over.ensures in
    let within = writer.counts.within in
    let taken = writer.counts.count in
    let stored = c.stored.ensures in
    let some = c.if-stored-writer.false in
    let all : length writer.seat.stored ≡ length writer.seat.taken = omega (arith, within, taken, stored, some) in
    let more = prefix_length writer.seat.taken old.seat.sealed over.begins in
    record {
      named = (writer.named.0, ap (λ s. s.board) over.writer ∙ writer.named.1);
      switched = ap (λ (s : WriterSwitch). s.seat.board) c.agree.ensures.writer ∙ writer.switched;
      counts = subst (λ w. CountsTaken w c.sealed-writer.result) (sym over.writer) (record {
        count = c.sealed-writer.ensures ∙ handed_sealed old.half c.take_over.new.working _ _ c.take_over.ensures.hands ∙ old.counts.count;
        within = omega (arith, within, more);
        beginning = first_of_more writer.seat.stored writer.seat.taken old.seat.sealed over.begins writer.counts.beginning within;
      });
      kept = λ told.
          let first = g.J.Accord.first told in
          let version = g.J.Accord.version told in
          ∥∥₁_map₂ (old.kept told) (writer.kept told) (λ desk writes.
          subst (λ (s : WriterSwitch). IsWriterDesk (kept g) g.P.Problem.TAG (version_after version s.seat.taken) first c.take_over.new.writing
          c.hand_over.new.writer writer.failed) (sym c.agree.ensures.writer)
          (subst (λ w. IsWriterDesk (kept g) g.P.Problem.TAG (version_after version writer.switch.seat.taken) first c.take_over.new.writing w writer.failed)
          (sym over.writer)
          (writer_takes (kept g) g.P.Problem.TAG (version_after version writer.switch.seat.taken) first c.two_disks_are_a_store.ensures.keep old.half
          c.take_over.new.working writer.half c.take_over.new.writing old.seat writer.seat writer.failed c.if-writer.false old.counts over.begins over.all all
          c.take_over.ensures.hands
          (subst (λ (xs : List (Marked (Unit {0}))). IsTableDesk (kept g) g.P.Problem.TAG (version_after version xs) first old.half old.seat)
          (sym c.agree.ensures.agreed) desk)
          writes c.take_over.ensures.journal c.take_over.ensures.commands c.take_over.ensures.few c.take_over.ensures.proper)));
    }

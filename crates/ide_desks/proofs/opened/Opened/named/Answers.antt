use Rattle.std.proofs.Common.{List, false, subst, sym}
use Rattle.ide_board.specs.Records.{Marked}
use Rattle.ide_desks.specs.Desks.{CountsTaken, IsTableDesk, IsWriterDesk}
use Rattle.ide_desks.specs.Switching.{version_after}
use Rattle.ide_store.specs.Table.{Analysis}
use Rattle.ide_desks.proofs.Opening.{new_counts, new_table_desk, new_writer_desk}
use Rattle.ide_desks.proofs.opened.Opened.named.Given.{Over}
use Rattle.ide_desks.proofs.opened.Opened.named.Goals as goal

-- the analysis of the store
abbrev kept : (g : Over) → Analysis g.row.P-F.Denot g.row.P-L.Denot
kept g = record {
  lattice = g.P.L.Lattice.algebra;
  functions = g.P.F.EdgeFn.edge;
  targets = g.P.Problem.targets;
  same = g.P.F.PartialEq.eq;
  proper = g.P.F.Wire.proper;
  form = g.P.F.Wire.form;
}

pub over-table-requires-clause-kept : goal.over-table-requires-clause-kept
over-table-requires-clause-kept g c told =
    let all = c.args.self in
    let version = g.J.Accord.version told in
    let first = g.J.Accord.first told in
    ∣ subst (λ (xs : List (Marked (Unit {0}))). IsTableDesk (kept g) g.P.Problem.TAG (version_after version xs) first all.engine.table all.table)
    (sym all.switches.sealed)
    (new_table_desk _ all.engine all.table all.writer all.seats (kept g) g.P.Problem.TAG version first (c.requires.told told) c.runs_are_live.ensures) ∣₁

pub over-writer-requires-clause-counts : goal.over-writer-requires-clause-counts
over-writer-requires-clause-counts g c =
    let all = c.args.self in
    subst (CountsTaken all.writer) (sym c.sealed-taken.ensures) (new_counts _ all.engine all.table all.writer all.seats)

pub over-writer-requires-clause-kept : goal.over-writer-requires-clause-kept
over-writer-requires-clause-kept g c told =
    let all = c.args.self in
    let version = g.J.Accord.version told in
    let first = g.J.Accord.first told in
    ∣ subst (λ (xs : List (Marked (Unit {0}))). IsWriterDesk (kept g) g.P.Problem.TAG (version_after version xs) first all.engine.writer all.writer false)
    (sym all.switches.taken)
    (new_writer_desk _ all.engine all.table all.writer all.seats (kept g) g.P.Problem.TAG version first (c.requires.told told) c.runs_are_live.ensures) ∣₁

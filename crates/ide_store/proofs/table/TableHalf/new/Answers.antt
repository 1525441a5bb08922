use Rattle.std.proofs.Common.{arith, subst}
use Rattle.ide_store.specs.Opening.{BeginsOn}
use Rattle.ide_store.specs.Table.{Analysis, TableData}
use Rattle.ide_store.proofs.Begins.{begun_table, free_of_none, is_half_over}
use Rattle.ide_store.proofs.table.TableHalf.new.Goals as goal

pub invariant_of-result : goal.invariant_of-result
invariant_of-result g c = begun_table c.new-core.result c.take_changes.new.self c.take_changes.ensures.stays c.new.result.items c.new.ensures.items 0 (omega arith)

pub returns-clause-begins : goal.returns-clause-begins
returns-clause-begins g c =
    let a : Analysis g.row.P-F.Denot g.row.P-L.Denot = record {
      lattice = g.P.L.Lattice.algebra;
      functions = g.P.F.EdgeFn.edge;
      targets = g.P.Problem.targets;
      same = g.P.F.PartialEq.eq;
      proper = g.P.F.Wire.proper;
      form = g.P.F.Wire.form;
    } in
    subst (λ (table : TableData g.row.P-F.Denot). BeginsOn a table)
    (is_half_over c.new-core.result c.take_changes.new.self c.take_changes.ensures.stays c.new.result.items c.new.ensures.items 0 c.args.version)
    (c.halves_begin.ensures.begins c.new-core.result c.args.version
    (c.new_cores_are_empty.ensures c.new-core.result c.new-core.ensures.program c.new-core.ensures.graph c.new-core.ensures.roots c.new-core.ensures.entries c.new-core.ensures.pending)
    (free_of_none c.new-core.result.pile c.new-core.ensures.claims))

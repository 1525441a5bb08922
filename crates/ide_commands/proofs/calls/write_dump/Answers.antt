use Rattle.ide_commands.specs.Asked.{not_frozen}
use Rattle.ide_commands.proofs.Told.{dump_refused, writes_now}
use Rattle.ide_commands.proofs.calls.write_dump.Goals as goal

pub returns-in-Ok-clause-written : goal.returns-in-Ok-clause-written
returns-in-Ok-clause-written g c =
    let frozen = c.in-Ok.ensures in
    writes_now _ g.P.L.Lattice.shown c.args.table.now c.in-Ok.closed frozen.quiet frozen.graph frozen.table frozen.roots
    c.write_values.result (g.W.Write.contents c.args.out.now) (g.W.Write.contents c.write_values.new.out) c.write_values.ensures.written

pub returns-in-Ok-clause-refused : goal.returns-in-Ok-clause-refused
returns-in-Ok-clause-refused g c = dump_refused c.args.table.now c.write_values.result c.write_values.ensures.refused

pub returns-in-Err-clause-refused : goal.returns-in-Err-clause-refused
returns-in-Err-clause-refused g c = not_frozen c.in-Err.ensures.refused

use Rattle.ide_desks.specs.Desks.{last_sealed}
use Rattle.ide_desks.specs.Orders.{SpellsLoad}
use Rattle.ide_store.specs.Table.{Analysis}
use Rattle.ide_text.specs.Program.{value_of}
use Rattle.ide_service.specs.Clients.{SpellsText, not_loaded, not_parsed}
use Rattle.ide_service.proofs.Clients.{ordered_by}
use Rattle.ide_service.proofs.Loops.{if_err}
use Rattle.ide_service.proofs.service.Service.load.Given.{Over}
use Rattle.ide_service.proofs.service.Service.load.Goals as goal

-- the analysis of the store
abbrev kept : (g : Over) → Analysis g.row.P-F.Denot g.row.P-L.Denot
kept g = record {
  lattice = g.P.L.Lattice.algebra;
  functions = g.P.F.EdgeFn.edge;
  targets = g.P.Problem.targets;
  same = g.P.F.PartialEq.eq;
  proper = g.P.F.Wire.proper;
  form = g.P.F.Wire.form;
}

pub returns-in-Ok-clause-ordered : goal.returns-in-Ok-clause-ordered
returns-in-Ok-clause-ordered g c =
    let program = c.in-Ok.program in
    ordered_by g.J.Accord.told (SpellsLoad (kept g) (value_of program)) (SpellsText (kept g) c.args.text.now) c.load.result c.args.client.now c.load.new.client
    (last_sealed c.load.new.self.half) (λ entry loads. record { program = program; parsed = c.in-Ok.ensures.parsed; loads = loads })
    c.load.ensures.noted c.load.ensures.command

pub returns-in-Ok-clause-refused : goal.returns-in-Ok-clause-refused
returns-in-Ok-clause-refused g c = if_err c.load.result _ _ (λ why stop. not_loaded (c.deref_mut.result.now.half, stop)) c.load.ensures.refused

pub returns-in-Err-clause-refused : goal.returns-in-Err-clause-refused
returns-in-Err-clause-refused g c = not_parsed c.in-Err.ensures.fault

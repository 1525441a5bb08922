use Rattle.ide_store.specs.Table.{Analysis}
use Rattle.ide_store.proofs.BatchActs.{forgets_nothing, seals_batch}
use Rattle.ide_store.proofs.ClaimActs.{hands_claim}
use Rattle.ide_store.proofs.HandActs.{hands_finish, hands_lower, hands_release, hands_skip}
use Rattle.ide_store.proofs.RecordActs.{seals_load, seals_root}
use Rattle.ide_store.specs.Known.{Knows}
use Rattle.ide_store.proofs.laws.calls_are_acts.Goals as goal

pub returns : goal.returns
returns g c =
    let a : Analysis g.row.P-F.Denot g.row.P-L.Denot = record {
      lattice = g.P.L.Lattice.algebra;
      functions = g.P.F.EdgeFn.edge;
      targets = g.P.Problem.targets;
      same = g.P.F.PartialEq.eq;
      proper = g.P.F.Wire.proper;
      form = g.P.F.Wire.form;
    } in
    let knows : Knows a = c.analyses_are_known.ensures in
    record {
      claim = hands_claim a knows;
      lower = hands_lower a knows;
      skip = hands_skip a knows;
      finish = hands_finish a;
      release = hands_release a;
      load = seals_load a;
      root = seals_root a knows;
      batch = seals_batch a knows;
      nothing = forgets_nothing a knows;
    }

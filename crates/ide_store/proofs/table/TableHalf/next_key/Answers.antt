use Rattle.std.proofs.Common.{arith}
use Rattle.ide_store.specs.Table.{Analysis, TableData}
use Rattle.ide_store.proofs.Walked.{taken-comes, taken-few, taken-noting}
use Rattle.ide_store.proofs.table.TableHalf.next_key.Given.{Over}
use Rattle.ide_store.proofs.table.TableHalf.next_key.Goals as goal

-- the analysis of the store
abbrev kept : (g : Over) → Analysis g.row.P-F.Denot g.row.P-L.Denot
kept g = record {
  lattice = g.P.L.Lattice.algebra;
  functions = g.P.F.EdgeFn.edge;
  targets = g.P.Problem.targets;
  same = g.P.F.PartialEq.eq;
  proper = g.P.F.Wire.proper;
  form = g.P.F.Wire.form;
}

pub invariant_of-self-2 : goal.invariant_of-self-2
invariant_of-self-2 g c =
    let top = g.met.P.F.EdgeFn.lawful.rank_all_top in
    let steps = c.calls_are_steps.ensures in
    let free = rw (← c.self.view_is) at c.requires.free in
    let before = c.self.invariant in
    let came = c.in_ok-next.ensures.takes in
    let half : TableData g.row.P-F.Denot = record c.args.self.now { core = c.self.inside.core } in
    let least = c.min.ensures in
    let room = c.saturating_sub-room.ensures in
    let noted = c.changed_count.ensures in
    record {
      noting = taken-noting (kept g) c.calls_are_acts.ensures steps top half c.next_key.new.self c.min.result c.next_key.new.parts free c.in_ok-next.next came before.noting;
      few = taken-few (kept g) c.calls_are_acts.ensures steps top half c.next_key.new.self c.min.result c.next_key.new.parts free c.in_ok-next.next came before.few
          (omega (arith, least, room, noted));
      proper = before.proper;
      within = before.within;
      numbered = before.numbered;
    }

pub returns-clause-comes : goal.returns-clause-comes
returns-clause-comes g c =
    let top = g.met.P.F.EdgeFn.lawful.rank_all_top in
    let steps = c.calls_are_steps.ensures in
    let free = rw (← c.self.view_is) at c.requires.free in
    let least = c.min.ensures in
    rw (← c.self.view_is)
    (taken-comes (kept g) c.calls_are_acts.ensures steps top _ c.next_key.new.self c.min.result c.next_key.new.parts free c.in_ok-next.next
    c.in_ok-next.ensures.takes c.cores_are_whole.ensures c.self.invariant.noting c.args.most (omega (arith, least)))

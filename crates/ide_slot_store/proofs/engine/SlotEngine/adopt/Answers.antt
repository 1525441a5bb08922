use Rattle.std.proofs.Common.{◌≡◌, ℕ, refl, subst}
use Rattle.ide_journal.specs.Format.{head_of}
use Rattle.ide_journal.specs.declared.version.Version.TheVariants.{Two}
use Rattle.ide_slots.specs.Two.{first_disk}
use Rattle.ide_store.specs.Table.{Analysis}
use Rattle.ide_slot_store.specs.Adopting.{not_closed}
use Rattle.ide_slot_store.proofs.Adopted.{adopted, not_adopted}
use Rattle.ide_slot_store.proofs.engine.SlotEngine.adopt.Given.{Over}
use Rattle.ide_slot_store.proofs.engine.SlotEngine.adopt.Goals as goal

-- the analysis of the store
abbrev kept : (g : Over) → Analysis g.row.P-F.Denot g.row.P-L.Denot
kept g = record {
  lattice = g.P.L.Lattice.algebra;
  functions = g.P.F.EdgeFn.edge;
  targets = g.P.Problem.targets;
  same = g.P.F.PartialEq.eq;
  proper = g.P.F.Wire.proper;
  form = g.P.F.Wire.form;
}

-- ---- beside the closed slot it is opened, or not
pub returns-in-Ok-clause-adopts : goal.returns-in-Ok-clause-adopts
returns-in-Ok-clause-adopts g c first second =
    let disk = c.put_closed.new.disk in
    let closed = subst (λ (tag : ℕ). g.D.Disk.state disk ≡ first_disk (head_of Two tag)) c.TAG.ensures (c.in-Ok.ensures.closed second) in
    adopted (kept g) g.P.Problem.TAG g.met.P.Problem.tag_not_zero c.args.a disk closed c.open.result c.open.ensures.opened first
    (c.put_closed.ensures.honest second)

pub returns-in-Ok-clause-refused : goal.returns-in-Ok-clause-refused
returns-in-Ok-clause-refused g c first second =
    let disk = c.put_closed.new.disk in
    let closed = subst (λ (tag : ℕ). g.D.Disk.state disk ≡ first_disk (head_of Two tag)) c.TAG.ensures (c.in-Ok.ensures.closed second) in
    not_adopted (kept g) g.P.Problem.TAG g.met.P.Problem.tag_not_zero c.args.a disk closed c.args.b c.open.result c.open.ensures.refused first
    (c.put_closed.ensures.honest second)

-- ---- no closed slot is put on B
pub returns-in-Err-clause-refused : goal.returns-in-Err-clause-refused
returns-in-Err-clause-refused g c first second = not_closed refl c.in-Err.ensures.refused

use Rattle.std.proofs.Common.{◌≡◌, ◌∙◌, ◌+◌, ◌-◌, arith, subst, sym}
use Rattle.std.proofs.lemmas.Result.{err_from_is_err_and}
use Rattle.ide_steps.proofs.Free.{quiet-free}
use Rattle.ide_steps.proofs.States.{handed-on}
use Rattle.ide_wire.specs.declared.refused.Refused.TheVariants.{NoMemory}
use Rattle.ide_store.specs.Draining.{ComesTo, IsWorkStop, WorksBy, memory_is_wanting}
use Rattle.ide_store.proofs.Drained.{works_still, works_then}
use Rattle.ide_store.specs.Table.{Analysis}
use Rattle.ide_store.proofs.table.TableHalf.run_next.Given.{Over}
use Rattle.ide_store.proofs.table.TableHalf.run_next.Goals as goal

-- the analysis of the store
abbrev kept : (g : Over) → Analysis g.row.P-F.Denot g.row.P-L.Denot
kept g = record {
  lattice = g.P.L.Lattice.algebra;
  functions = g.P.F.EdgeFn.edge;
  targets = g.P.Problem.targets;
  same = g.P.F.PartialEq.eq;
  proper = g.P.F.Wire.proper;
  form = g.P.F.Wire.form;
}

-- memory is wanting
pub returns-in_err-walked-clause-stops : goal.returns-in_err-walked-clause-stops
returns-in_err-walked-clause-stops g c =
    (0, 0, omega arith, subst (λ new. WorksBy (kept g) c.args.self.now new 0 0) (sym c.in_err-walked.ensures.unchanged) (works_still (kept g) _ _ (λ place w handed reached on. on)))

pub returns-in_err-walked-clause-refused : goal.returns-in_err-walked-clause-refused
returns-in_err-walked-clause-refused g c =
    let p = err_from_is_err_and c.from_residual.result c.from_residual.ensures.1 in
    handed-on (IsWorkStop _ _ c.next_key.new.self) c.from_residual.result NoMemory p.0 p.1 (p.2 ∙ c.in_err-walked.ensures.refused) memory_is_wanting

-- the parts of a key, behind a walk or none
pub returns-in_err-run-in-Owes-clause-stops : goal.returns-in_err-run-in-Owes-clause-stops
returns-in_err-run-in-Owes-clause-stops g c =
    let came = subst (ComesTo (kept g) c.args.self.now c.next_key.new.self (c.args.most - 1) c.next_key.new.parts) c.in-Owes.is c.in_ok-walked.ensures.comes in
    let stops = c.run.ensures.stops in
    let few = stops.2 in (
      c.in-Owes.walked + stops.0,
      0 + stops.1,
      omega (arith, few),
      works_then (kept g) c.args.self.now c.next_key.new.self c.run.new.self c.in-Owes.walked 0 stops.0 stops.1 came.2 stops.3,
    )

pub returns-in_ok-run-in-Owes-clause-works : goal.returns-in_ok-run-in-Owes-clause-works
returns-in_ok-run-in-Owes-clause-works g c =
    let came = subst (ComesTo (kept g) c.args.self.now c.next_key.new.self (c.args.most - 1) c.next_key.new.parts) c.in-Owes.is c.in_ok-walked.ensures.comes in
    works_then (kept g) c.args.self.now c.next_key.new.self c.run.new.self c.in-Owes.walked 0 1 0 came.2 c.in_ok-run-in-Owes.ensures.works

pub returns-in_ok-run-in-Owes-clause-stops : goal.returns-in_ok-run-in-Owes-clause-stops
returns-in_ok-run-in-Owes-clause-stops g c = (c.in-Owes.walked + 1, 0, omega arith, returns-in_ok-run-in-Owes-clause-works g c)

pub returns-in_ok-run-in-Owes-clause-quiet : goal.returns-in_ok-run-in-Owes-clause-quiet
returns-in_ok-run-in-Owes-clause-quiet g c = λ is.
    let none : c.in-Owes.walked + 1 ≡ 0 = cc (is) in
    absurd (omega (arith, none))

pub returns-in_ok-run-in-Owes-clause-falls : goal.returns-in_ok-run-in-Owes-clause-falls
returns-in_ok-run-in-Owes-clause-falls g c = λ _.
    let came = subst (ComesTo (kept g) c.args.self.now c.next_key.new.self (c.args.most - 1) c.next_key.new.parts) c.in-Owes.is c.in_ok-walked.ensures.comes in
    let still = came.1 in
    let less = c.in_ok-run-in-Owes.ensures.falls in
    omega (arith, still, less)

pub returns-in_ok-run-in-Owes-clause-most : goal.returns-in_ok-run-in-Owes-clause-most
returns-in_ok-run-in-Owes-clause-most g c =
    let came = subst (ComesTo (kept g) c.args.self.now c.next_key.new.self (c.args.most - 1) c.next_key.new.parts) c.in-Owes.is c.in_ok-walked.ensures.comes in
    let least = came.0 in
    let some = c.requires.some in
    omega (arith, least, some)

-- a walk over some nodes, behind which memory is wanting
pub returns-in-Walked-clause-quiet : goal.returns-in-Walked-clause-quiet
returns-in-Walked-clause-quiet g c = λ is.
    let came = subst (ComesTo (kept g) c.args.self.now c.next_key.new.self (c.args.most - 1) c.next_key.new.parts) c.in-Walked.is c.in_ok-walked.ensures.comes in
    let some = came.0 in
    let none : c.in-Walked.count ≡ 0 = cc (is) in
    absurd (omega (arith, some, none))

-- no key is pending
pub returns-in-Nothing-clause-works : goal.returns-in-Nothing-clause-works
returns-in-Nothing-clause-works g c =
    let came = subst (ComesTo (kept g) c.args.self.now c.next_key.new.self (c.args.most - 1) c.next_key.new.parts) c.in-Nothing.is c.in_ok-walked.ensures.comes in
    subst (λ new. WorksBy (kept g) c.args.self.now new 0 0) (sym came.0) (works_still (kept g) _ _ (λ place w handed reached on. on))

pub returns-in-Nothing-clause-stops : goal.returns-in-Nothing-clause-stops
returns-in-Nothing-clause-stops g c = (0, 0, omega arith, returns-in-Nothing-clause-works g c)

pub returns-in-Nothing-clause-quiet : goal.returns-in-Nothing-clause-quiet
returns-in-Nothing-clause-quiet g c = λ _.
    let came = subst (ComesTo (kept g) c.args.self.now c.next_key.new.self (c.args.most - 1) c.next_key.new.parts) c.in-Nothing.is c.in_ok-walked.ensures.comes in
    quiet-free c.next_key.new.self.core.pile c.in_ok-walked.ensures.may.free came.1

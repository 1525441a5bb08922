use Rattle.std.proofs.Common.{◌≡◌, ◌<◌, ap, rules, subst, sym, ◌∙◌, Some, refl}
use Rattle.std.proofs.lemmas.Result.{err_from_is_err_and}
use Rattle.std.proofs.lemmas.List.Elements.{All-weaker}
use Rattle.std.proofs.lemmas.Option.{same_Some}
use Rattle.ide_wire.specs.Key.{node_of}
use Rattle.ide_steps.specs.Core.{AllStandIn, StandsIn}
use Rattle.ide_wire.specs.declared.refused.Refused.TheVariants.{NoMemory}
use Rattle.ide_steps.specs.Refusal.{IsRootName, IsRootRefusal, RootFault, fault, memory, no_program}
use Rattle.ide_steps.specs.Rooted.{with_entries, AllAbsent}
use Rattle.ide_steps.specs.State.{state_of}
use Rattle.ide_steps.proofs.Rooted.{begun}
use Rattle.ide_steps.proofs.States.{handed-on}
use Rattle.ide_steps.proofs.Noted.{remembers-same}
use Rattle.ide_steps.proofs.machine.Core.root.Goals as goal

pub returns-in_default-clause-refused : goal.returns-in_default-clause-refused
returns-in_default-clause-refused g c = no_program (search rules)

pub returns-in_err-procedure-clause-refused : goal.returns-in_err-procedure-clause-refused
returns-in_err-procedure-clause-refused g c =
    let graph = c.deref.result.now.graph in
    let is : c.args.self.now.graph ≡ Some graph = search rules in
    let roots : c.as_slice.result.now ≡ c.args.self.now.roots = search rules in
    let p = err_from_is_err_and c.from_residual.result c.from_residual.ensures.1 in
    handed-on (IsRootRefusal c.args.self.now.graph c.args.self.now.roots c.args.name.now) c.from_residual.result c.in_err-procedure.field-0.0 p.0 p.1 p.2
    (fault graph is (subst (λ rs. RootFault graph rs c.args.name.now c.in_err-procedure.field-0.0) roots c.in_err-procedure.ensures.fault))

pub returns-in_err-jumps-clause-refused : goal.returns-in_err-jumps-clause-refused
returns-in_err-jumps-clause-refused g c =
    let graph = c.deref.result.now.graph in
    let is : c.args.self.now.graph ≡ Some graph = search rules in
    let roots : c.as_slice.result.now ≡ c.args.self.now.roots = search rules in
    let p = err_from_is_err_and c.from_residual-in_err-jumps.result c.from_residual-in_err-jumps.ensures.1 in
    handed-on (IsRootRefusal c.args.self.now.graph c.args.self.now.roots c.args.name.now) c.from_residual-in_err-jumps.result NoMemory p.0 p.1 p.2
    (memory graph c.in_ok-procedure.procedure is (subst (λ rs. IsRootName graph rs c.args.name.now c.in_ok-procedure.procedure) roots c.in_ok-procedure.ensures.root))

pub returns-in_err-begin-clause-refused : goal.returns-in_err-begin-clause-refused
returns-in_err-begin-clause-refused g c =
    let graph = c.deref.result.now.graph in
    let is : c.args.self.now.graph ≡ Some graph = search rules in
    let roots : c.as_slice.result.now ≡ c.args.self.now.roots = search rules in
    let p = err_from_is_err_and c.from_residual-in_err-begin.result c.from_residual-in_err-begin.ensures.1 in
    handed-on (IsRootRefusal c.args.self.now.graph c.args.self.now.roots c.args.name.now) c.from_residual-in_err-begin.result NoMemory p.0 p.1
    (p.2 ∙ c.in_err-begin.ensures.refused)
    (memory graph c.in_ok-procedure.procedure is (subst (λ rs. IsRootName graph rs c.args.name.now c.in_ok-procedure.procedure) roots c.in_ok-procedure.ensures.root))

-- the start is a node, and each of the jumps stands at it
pub begin-requires-clause-inside : goal.begin-requires-clause-inside
begin-requires-clause-inside g c = λ graph is.
    let there : c.args.self.now.graph ≡ Some c.deref.result.now.graph = search rules in
    let start = subst (λ g. c.start_of-start.result < g.nodes) (same_Some _ _ (sym there ∙ is)) c.start_of-start.ensures.within in
    subst (AllStandIn graph) (sym c.deref-2.ensures.value)
    (All-weaker (λ jump. node_of jump.0 ≡ c.start_of-start.result) (λ jump. StandsIn graph jump.0)
    (λ jump at. subst (λ n. n < graph.nodes) (sym at) start) c.in_ok-jumps.jumps.items c.in_ok-jumps.ensures.place)

pub returns-clause-begun : goal.returns-clause-begun
returns-clause-begun g c =
    let B = g.P.F.EdgeFn.edge in
    let targets = g.P.Problem.targets in
    let graph = c.deref.result.now.graph in
    let is : c.args.self.now.graph ≡ Some graph = search rules in
    let roots : c.as_slice.result.now ≡ c.args.self.now.roots = search rules in
    begun g.P.L.Lattice.algebra B targets graph c.in_ok-procedure.procedure
    c.start_of-start.result c.entry_count-entries.result c.args.self.now c.begin.new.self c.args.name.now
    c.sites_make_a_graph.ensures c.starts_are_seeded.ensures c.runs_go_on.ensures
    is (subst (λ rs. IsRootName graph rs c.args.name.now c.in_ok-procedure.procedure) roots c.in_ok-procedure.ensures.root)
    c.in_ok-procedure.ensures.within (search rules) (search rules)
    c.in_ok-begin.ensures.program c.in_ok-begin.ensures.graph c.in_ok-begin.ensures.progress
    (c.in_ok-begin.ensures.state ∙ (ap (with_entries (state_of B targets c.args.self.now)) c.deref-2.ensures.value ∙ sym c.in_ok-jumps.ensures.entered))
    c.in_ok-begin.ensures.roots

pub begin-requires-clause-absent : goal.begin-requires-clause-absent
begin-requires-clause-absent g c = subst (AllAbsent c.args.self.now) (sym c.deref-2.ensures.value) c.in_ok-jumps.ensures.absent

pub returns-in_default-clause-remembers : goal.returns-in_default-clause-remembers
returns-in_default-clause-remembers g c = remembers-same _ _ refl refl refl

pub returns-in_err-procedure-clause-remembers : goal.returns-in_err-procedure-clause-remembers
returns-in_err-procedure-clause-remembers g c = remembers-same _ _ refl refl refl

pub returns-in_err-jumps-clause-remembers : goal.returns-in_err-jumps-clause-remembers
returns-in_err-jumps-clause-remembers g c = remembers-same _ _ refl refl refl

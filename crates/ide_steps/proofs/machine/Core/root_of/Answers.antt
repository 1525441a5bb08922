use Rattle.std.proofs.Common.{◌≡◌, Some, rules, subst}
use Rattle.ide_steps.specs.Refusal.{RootFault, no_program}
use Rattle.std.specs.Prelude.{IfErr}
use Rattle.ide_steps.proofs.Refusing.{no-root-of-fault}
use Rattle.ide_steps.proofs.machine.Core.root_of.Goals as goal

pub returns-in-None-clause-refused : goal.returns-in-None-clause-refused
returns-in-None-clause-refused g c = record { why = no_program (search rules); not_memory = λ is. cc (is) }

pub returns-in-Some-clause-refused : goal.returns-in-Some-clause-refused
returns-in-Some-clause-refused g c =
    let graph = c.deref.result.now.graph in
    let is : c.args.self.now.graph ≡ Some graph = search rules in
    let roots : c.as_slice.result.now ≡ c.args.self.now.roots = search rules in
    no-root-of-fault c.find_root.result c.args.self.now.graph graph c.args.self.now.roots c.args.name.now is
    (subst (λ rs. IfErr c.find_root.result (RootFault graph rs c.args.name.now)) roots c.find_root.ensures.fault)

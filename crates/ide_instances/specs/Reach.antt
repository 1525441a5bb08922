-- The flow of the least analysis: every edge carries `@zero` to `@zero` and nothing else.
use Rattle.std.specs.Prelude.{◌≡◌, ℕ, ◌<◌, ◌≤◌, Bool, true, false, [], ◌∷◌, cond, nat_eq}
use Rattle.std.proofs.Common.{refl, arith}
use Rattle.std.proofs.lemmas.Bool.Decides.{nat_tests}
use Rattle.ide_problem.specs.Flow.{Targets, AreTargets, IsFlow}
use Rattle.ide_instances.specs.UninitFn.{uninit_edge}
use Rattle.ide_instances.specs.declared.uninit_fn.UninitFn.{UninitFn}
use Rattle.ide_instances.specs.declared.uninit_fn.UninitFn.TheVariants.{Id}

abbrev pub reach_targets : Targets UninitFn
reach_targets edge fact = cond (nat_eq fact 0) ((0, Id) ∷ []) []

-- by whether the fact is `@zero`
in-order : (facts : ℕ) (is_zero : Bool) → 0 < facts → AreTargets uninit_edge.proper 0 facts (cond is_zero ((0, Id) ∷ []) [])
in-order facts true some = (omega arith, some, refl, tt)
in-order facts false some = tt

not-zero : (fact facts : ℕ) → 0 < facts → facts ≤ fact → nat_eq fact 0 ≡ false
not-zero fact facts some past = grind (arith, nat_tests)

pub reach_flow : IsFlow uninit_edge reach_targets
reach_flow = record {
  in_order = λ edge fact lawful. in-order edge.facts (nat_eq fact 0) (omega (arith, lawful.result, lawful.facts));
  none_outside = λ edge fact lawful past. rw (not-zero fact edge.facts (omega (arith, lawful.result, lawful.facts)) past) refl;
  zero = λ edge lawful. refl;
}

-- Why a hand's work does not go on, and why a name is no root.
use Rattle.std.proofs.Common.{◌≡◌, ◌≢◌, ℕ, ◌<◌, List, length, refl, sym, subst, arith, true, Result, Ok, Err, Option, None, Some}
use Rattle.std.specs.Prelude.{IfErr, IsOk, IsOkUnless, IsSome, OnErr, slice_get}
use Rattle.std.specs.Option.{is_some}
use Rattle.std.proofs.lemmas.Option.{slice_get_within}
use Rattle.ide_lattice.specs.Algebra.{EdgeAlgebra}
use Rattle.ide_problem.specs.Flow.{Targets}
use Rattle.ide_tasks.specs.Work.{WorkData}
use Rattle.ide_wire.specs.declared.refused.Refused.{Refused}
use Rattle.ide_wire.specs.declared.refused.Refused.TheVariants.{NoMemory}
use Rattle.ide_graph.specs.Supergraph.{Supergraph}
use Rattle.ide_steps.specs.Core.{CoreData}
use Rattle.ide_steps.specs.PartRefusal.{IsFinishRefusal, IsPartRefusal, memory, wanting}
use Rattle.ide_steps.specs.Refusal.{IsNoRoot, RootFault, already, fault, parameters, unnamed}
use Rattle.ide_steps.specs.Steps.{IsCurrent}

module _ {F L : Type 0} (B : EdgeAlgebra F L) (targets : Targets F) (core : CoreData F) (hand : ℕ) (work : WorkData F) where
  -- where the work is the hand's claim, it wants memory where it is refused
  pub wants-memory : {T : Type 0} (r : Result T Refused) → IsOkUnless r NoMemory → OnErr r (work.done < length work.parts) → IsCurrent B targets core hand work
      → IfErr r (IsPartRefusal B targets core hand work)
  wants-memory (Ok x) is left current = tt
  wants-memory (Err e) is left current = subst (IsPartRefusal B targets core hand work) (sym is) (memory current left)

-- what holds in any case holds at Err
pub at-err : {T E P : Type 0} (r : Result T E) → P → OnErr r P
at-err (Ok x) p = tt
at-err (Err e) p = p

-- something is there, unless nothing is
pub some-unless : {X : Type 0} (o : Option X) → (o ≡ None → ⊥) → IsSome o
some-unless None some = absurd (some (λ i. None))
some-unless (Some x) some = refl

-- where all parts of the hand's work are done, its end wants memory for a note where it is refused
pub wants-note : {T F L : Type 0} (B : EdgeAlgebra F L) (targets : Targets F) (core : CoreData F) (hand : ℕ) (work : WorkData F) (r : Result T Refused)
    → IsCurrent B targets core hand work → work.done ≡ length work.parts → IsOkUnless r NoMemory → (core.changes ≡ None → IsOk r)
    → IfErr r (IsFinishRefusal B targets core hand work)
wants-note B targets core hand work (Ok x) own over is nobody = tt
wants-note B targets core hand work (Err e) own over is nobody =
    subst (IsFinishRefusal B targets core hand work) (sym is) (wanting own (omega (arith, over)) (some-unless core.changes (λ none. cc (nobody none))))

-- what is read from a list stands in it
pub read-within : {X : Type 0} (xs : List X) (k : ℕ) (read : Option X) → read ≡ slice_get xs k → is_some read ≡ true → k < length xs
read-within xs k None is some = absurd (cc (some))
read-within xs k (Some x) is some = slice_get_within xs k x (sym is)

-- a fault of a name is no want of memory
pub not-memory : {graph : Supergraph} {roots : List ℕ} {name : List ℕ} {refused : Refused} → RootFault graph roots name refused → refused ≢ NoMemory
not-memory (unnamed none) is = cc (is)
not-memory (parameters root named some) is = cc (is)
not-memory (already root named closed there) is = cc (is)

-- it is why the name may be no root of the loaded graph
pub no-root-of-fault : {T : Type 0} (r : Result T Refused) (loaded : Option Supergraph) (graph : Supergraph) (roots : List ℕ) (name : List ℕ)
    → loaded ≡ Some graph → IfErr r (RootFault graph roots name) → IfErr r (IsNoRoot loaded roots name)
no-root-of-fault (Ok x) loaded graph roots name is faulty = tt
no-root-of-fault (Err e) loaded graph roots name is faulty = record { why = fault graph is faulty; not_memory = not-memory faulty }

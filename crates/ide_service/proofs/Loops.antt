-- Why hands that share a half are refused: as the half was that they met.
use Rattle.std.proofs.Common.{ℕ, Result, Ok, Err}
use Rattle.std.specs.Prelude.{IfErr}
use Rattle.ide_store.specs.Table.{Analysis, TableData}
use Rattle.ide_wire.specs.declared.refused.Refused.{Refused}
use Rattle.ide_service.specs.Spans.{IsSpanRefusal, as_one, no_hands, no_memory as no_room}
use Rattle.ide_service.specs.declared.apart.Span.{Span}
use Rattle.ide_service.specs.Refusing.{HalfRefuses, IsLoopRefusal, IsTaskRefusal, SharedRefuses, no_claim, no_end, no_memory, no_part, no_seal, no_task}

-- a reason for each refusal that has another
pub if_err : {T E : Type 0} (result : Result T E) (P Q : E → Type 0) → ((e : E) → P e → Q e) → IfErr result P → IfErr result Q
if_err (Ok x) P Q more why = tt
if_err (Err e) P Q more why = more e why

module _ {F L : Type 0} (a : Analysis F L) (H : Type 0) (hand : ℕ) where
  -- it met the half under the lock
  task_met : (why : Refused) → IsTaskRefusal {H = H} (λ hands call why. SharedRefuses a call why) hand why → IsTaskRefusal (HalfRefuses a) hand why
  task_met why (no_part work room (hands, over)) = no_part work room over
  task_met why (no_end work room (hands, over)) = no_end work room over
  task_met why (no_seal (hands, over)) = no_seal over
  task_met why no_memory = no_memory

  loop_met : (why : Refused) → IsLoopRefusal {H = H} (λ hands call why. SharedRefuses a call why) hand why → IsLoopRefusal (HalfRefuses a) hand why
  loop_met why (no_claim (hands, loop)) = loop
  loop_met why (no_task current task) = no_task current (task_met why task)

  pub loops_met : {T : Type 0} (result : Result T Refused) → IfErr result (IsLoopRefusal {H = H} (λ hands call why. SharedRefuses a call why) hand)
      → IfErr result (IsLoopRefusal (HalfRefuses a) hand)
  loops_met result = if_err result (IsLoopRefusal {H = H} (λ hands call why. SharedRefuses a call why) hand) (IsLoopRefusal (HalfRefuses a) hand) loop_met

  -- or has it to itself
  module _ (half : H → TableData F) where
    task_own : (why : Refused) → IsTaskRefusal (λ hands call why. HalfRefuses a (half hands) call why) hand why → IsTaskRefusal (HalfRefuses a) hand why
    task_own why (no_part work room (hands, over)) = no_part work room (half hands, over)
    task_own why (no_end work room (hands, over)) = no_end work room (half hands, over)
    task_own why (no_seal (hands, over)) = no_seal (half hands, over)
    task_own why no_memory = no_memory

    pub loop_own : (why : Refused) → IsLoopRefusal (λ hands call why. HalfRefuses a (half hands) call why) hand why → IsLoopRefusal (HalfRefuses a) hand why
    loop_own why (no_claim (hands, over)) = no_claim (half hands, over)
    loop_own why (no_task current task) = no_task current (task_own why task)

-- and so are hands that work as one over a half which they have to themselves
pub span_own : {F L H : Type 0} (a : Analysis F L) (half : H → TableData F) (span : Span) (why : Refused)
    → IsSpanRefusal (λ hands call why. HalfRefuses a (half hands) call why) span why → IsSpanRefusal (HalfRefuses a) span why
span_own a half span why (no_hands none) = no_hands none
span_own a half span why no_room = no_room
span_own {H = H} a half span why (as_one hand one loop) = as_one hand one (loop_own a H hand half why loop)

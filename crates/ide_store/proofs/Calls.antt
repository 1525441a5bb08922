-- Calls of a half that works, from those of its core.
use Rattle.std.proofs.Common.{◌≡◌, ◌∙◌, ◌≤◌, ℕ, true, List, Result, Ok, Err, None, cond, length, drop, ap, sym, subst, arith, inl, inr}
use Rattle.std.specs.Prelude.{OnErr, OnOk}
use Rattle.std.specs.Option.{is_some}
use Rattle.std.proofs.lemmas.List.{length-drop}
use Rattle.std.proofs.lemmas.Option.{same_Some}
use Rattle.ide_tasks.specs.Parts.{owed}
use Rattle.ide_journal.specs.Format.{Entry}
use Rattle.ide_lattice.specs.Algebra.{EdgeAlgebra}
use Rattle.ide_problem.specs.Flow.{Targets}
use Rattle.ide_image.specs.Notes.{ended_key}
use Rattle.ide_steps.specs.Changed.{Notes, Remembers}
use Rattle.ide_steps.specs.Core.{CoreData, IsSameProblem}
use Rattle.ide_steps.specs.Drain.{HasDonePart}
use Rattle.ide_steps.specs.Steps.{EndsDone, IsCurrent, LowersPart, SkipsPart, progress_of}
use Rattle.ide_steps.specs.declared.part.Parted.{Parted}
use Rattle.ide_steps.specs.declared.part.Parted.TheVariants.{Lowered, Same}
use Rattle.ide_tasks.specs.Work.{WorkData}
use Rattle.ide_wire.specs.declared.refused.Refused.{Refused}
use Rattle.ide_theory.proofs.Laws.Targets.{nat_eq-refl}
use Rattle.ide_image.specs.Worklist.{Pile, PutsClaim, claim_at}
use Rattle.ide_store.specs.Acting.{CallsAreActs}
use Rattle.ide_store.specs.Table.{Analysis, IsTable, KeepsRest, TableData}
use Rattle.ide_store.specs.TableCalls.{DoesPart, EndsClaim, HasRoomForEnd}
use Rattle.ide_store.proofs.Overflow.{table_kept}

module _ {F L : Type 0} (a : Analysis F L) (acts : CallsAreActs a) (hand : ℕ) (old new : TableData F) (noting : is_some old.core.changes ≡ true)
    (rest : KeepsRest old new) (same : IsSameProblem old.core new.core) (remembers : Remembers old.core new.core) where
  -- the work is the hand's claim, where a part is done
  abbrev own_at : WorkData F → Result Parted Refused → Type 0
  own_at work result = OnOk result (IsCurrent a.functions a.targets old.core hand work)

  -- a part that is done is one, whether it lowered its key or not
  pub does_part : (result : Result Parted Refused) (work after : WorkData F) → OnOk result (IsCurrent a.functions a.targets old.core hand work)
      → (result ≡ Ok Lowered → LowersPart a.functions a.targets hand old.core new.core work after)
      → (result ≡ Ok Same → SkipsPart a.functions a.targets hand old.core new.core work after) → HasDonePart result → DoesPart a hand old new work after
  does_part result work after own lowers skips done = elim done [
    | inl lowered ↦ acts.lower hand old new work after noting rest same remembers (subst (own_at work) lowered own) (lowers lowered)
    | inr skipped ↦ acts.skip hand old new work after noting rest same remembers (subst (own_at work) skipped own) (skips skipped)
  ]

  -- so is an end
  pub ends_claim : {T : Type 0} (result : Result T Refused) → OnOk result (EndsDone a.functions a.targets hand old.core new.core) → OnOk result (EndsClaim a hand old new)
  ends_claim (Ok x) ends = acts.finish hand old new noting rest same remembers ends
  ends_claim (Err refused) ends = tt

-- no part of the hand's work is left, where its claim ended
none_left : {F L : Type 0} (B : EdgeAlgebra F L) (targets : Targets F) (hand : ℕ) (old new : CoreData F) (work : WorkData F) → IsCurrent B targets old hand work
    → EndsDone B targets hand old new → length work.parts ≤ work.done
none_left B targets hand old new work own ends =
    let is : (ends.0.task, ends.0.done) ≡ (work.task, work.done) = same_Some _ _ (sym (ap progress_of ends.1) ∙ own.claim) in
    let parts : drop ends.0.done (owed B targets ends.0.task) ≡ drop work.done work.parts =
    (λ i. drop ((is i).1) (owed B targets ((is i).0))) ∙ ap (drop work.done) (sym own.parts) in
    let none : length (drop work.done work.parts) ≡ 0 = ap length (sym parts ∙ ends.2) in
    let long = length-drop work.done work.parts in
    omega (arith, none, long)

-- what a half keeps, where its core ends a claim and there is room
pub end_keeps : {T F L : Type 0} (B : EdgeAlgebra F L) (targets : Targets F) (result : Result T Refused) (hand : ℕ) (old new : CoreData F) (work : WorkData F) (sealed : ℕ)
    (waiting : List Entry) → IsTable old sealed waiting → Remembers old new → OnOk result (IsCurrent B targets old hand work)
    → OnOk result (EndsDone B targets hand old new) → OnOk result (Notes old new (ended_key (claim_at old.pile hand))) → OnErr result (new ≡ old)
    → (now : CoreData F) → old ≡ now → HasRoomForEnd B targets now hand work → IsTable new sealed waiting
end_keeps B targets (Ok x) hand old new work sealed waiting kept remembers own ends notes stays now is room =
    let fits = subst (λ (core : CoreData _). HasRoomForEnd B targets core hand work) (sym is) room own (none_left B targets hand old new work own ends) kept.few in
    table_kept old new sealed waiting kept remembers.noting (omega (arith, notes.count, fits))
end_keeps B targets (Err refused) hand old new work sealed waiting kept remembers own ends notes stays now is room =
    subst (λ (core : CoreData _). IsTable core sealed waiting) (sym stays) kept

-- a hand that gave its claim away has none
pub put_none : {T E : Type 0} {Task : Type 0} (result : Result T E) (hand : ℕ) (old new : Pile Task) → OnOk result (PutsClaim hand None old new)
    → OnOk result (claim_at new hand ≡ None)
put_none (Ok x) hand old new puts = puts hand ∙ ap (λ b. cond b None (claim_at old hand)) (nat_eq-refl hand)
put_none (Err e) hand old new puts = tt

-- What a hold comes to in which a hand wants to drain, by what the drain answers.
use Rattle.std.proofs.Common.{◌≡◌, false, true, refl, subst, inl, inr}
use Rattle.std.specs.Prelude.{IsSome}
use Rattle.ide_image.specs.Worklist.{IsFree}
use Rattle.ide_steps.specs.DrainRefusal.{busy, no_program, unfinished}
use Rattle.ide_store.specs.Draining.{BarsDrain, full_batch_is_left, full_batch_stays, memory_is_wanting, no_drain, stops}
use Rattle.ide_store.specs.Table.{Analysis, TableData}
use Rattle.ide_store.specs.TableCalls.{after_failure, by_itself}
use Rattle.ide_wire.specs.declared.refused.Refused.{Refused}
use Rattle.ide_wire.specs.declared.refused.Refused.TheVariants.{Busy, Limit, Unfinished}
use Rattle.ide_service.specs.Holds.{FindsClaim, IsHoldRefusal, no_memory_left, nothing_loaded, store_failed}

-- no other refusal says so
neither : {refused : Refused} → ¬ (refused ≡ Busy) → ¬ (refused ≡ Unfinished) → ¬ (FindsClaim refused)
neither own other claim = elim claim [ inl is ↦ own is | inr is ↦ other is ]

module _ {F L : Type 0} (a : Analysis F L) (old new : TableData F) where
  -- where no batch is full and no hand has a claim
  pub hold_refused : (refused : Refused) → BarsDrain a false old new refused → ¬ (refused ≡ Limit) → ¬ (FindsClaim refused) → IsHoldRefusal a refused
  hold_refused _ (after_failure failed) full claim = store_failed old failed
  hold_refused _ (by_itself working (no_drain (no_program none))) full claim = nothing_loaded old none
  hold_refused _ (by_itself working (no_drain (busy loaded some))) full claim = absurd (claim (inl refl))
  hold_refused _ (by_itself working (no_drain (unfinished loaded free hand far some))) full claim = absurd (claim (inr refl))
  hold_refused _ (by_itself working (stops may memory_is_wanting)) full claim = no_memory_left
  hold_refused _ (by_itself working (stops may (full_batch_stays seals is stop))) full claim = let off : false ≡ true = seals in absurd (cc (off))
  hold_refused _ (by_itself working (stops may (full_batch_is_left leaves is))) full claim = absurd (full refl)

  -- some hand has one
  pub hold_claimed : (refused : Refused) → BarsDrain a false old new refused → FindsClaim refused → ¬ (IsFree old.core.pile)
  hold_claimed _ (by_itself working (no_drain (busy loaded some))) claim = λ free. (let off : false ≡ true = subst (λ o. IsSome o) (free 0) some in cc (off))
  hold_claimed _ (by_itself working (no_drain (unfinished loaded none hand far some))) claim = λ free. (let off : false ≡ true = subst (λ o. IsSome o) (free hand) some in cc (off))
  hold_claimed _ (by_itself working (no_drain (no_program none))) claim = absurd (neither (λ is. cc (is)) (λ is. cc (is)) claim)
  hold_claimed _ (after_failure failed) claim = absurd (neither (λ is. cc (is)) (λ is. cc (is)) claim)
  hold_claimed _ (by_itself working (stops may memory_is_wanting)) claim = absurd (neither (λ is. cc (is)) (λ is. cc (is)) claim)
  hold_claimed _ (by_itself working (stops may (full_batch_stays seals is stop))) claim = λ free. (let off : false ≡ true = seals in cc (off))
  hold_claimed _ (by_itself working (stops may (full_batch_is_left leaves is))) claim = absurd (neither (λ is. cc (is)) (λ is. cc (is)) claim)

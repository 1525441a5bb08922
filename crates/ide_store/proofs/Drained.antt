-- What one hand does, one act after the other.
use Rattle.std.proofs.Common.{◌≡◌, ◌∙◌, ◌+◌, ◌++◌, ◌⊎◌, ℕ, Bool, false, List, [], ◌∷◌, Result, Ok, Err, refl, ap, sym, subst, arith, inl, inr}
use Rattle.std.specs.Prelude.{IfErr, OnErr}
use Rattle.std.proofs.lemmas.List.Elements.{All-append, All-cons, All-nil}
use Rattle.ide_store.specs.Versioned.{VersionedEntry}
use Rattle.ide_steps.proofs.Going.{state-unchanged}
use Rattle.ide_image.specs.Notes.{noted_count}
use Rattle.ide_steps.specs.Core.{CoreData, IsSameProblem, IsUnchanged}
use Rattle.ide_steps.specs.DrainRefusal.{IsNoDrain, MayDrain}
use Rattle.ide_image.specs.Tables.{found}
use Rattle.ide_wire.specs.declared.refused.Refused.{Refused}
use Rattle.ide_wire.specs.declared.refused.Refused.TheVariants.{Limit, NoMemory}
use Rattle.ide_image.specs.Worklist.{claim_at}
use Rattle.ide_store.specs.Acting.{BeginsAnew}
use Rattle.ide_store.specs.Draining.{AreByDrainer, IsByHand, IsDrainStop, IsSameCore, IsWorkStop, WorksBy, count_of, full_batch_is_left, full_batch_stays, is_claim, is_release, memory_is_wanting, no_drain, stops}
use Rattle.ide_store.specs.Places.{Place}
use Rattle.ide_store.specs.Table.{Analysis, IsAct, IsReached, IsSameTable, KeepsRest, StoreAct, StoreWorld, TableData, WorksOn, after_acts}
use Rattle.ide_store.specs.TableCalls.{IsRefusal, IsSealStop, after_failure, by_itself, no_number_left, not_spelled, wants_memory}
use Rattle.ide_store.proofs.Acts.{count_more, may_more, after_more, reached_more}
use Rattle.ide_store.proofs.HandActs.{state_is, then_stays, works_on}

-- ---- lists of acts of one hand
module _ {F L : Type 0} (a : Analysis F L) where
  -- one hand goes on from where it came to
  pub works_then : (old mid new : TableData F) (claims releases more_claims more_releases : ℕ) → WorksBy a old mid claims releases
      → WorksBy a mid new more_claims more_releases → WorksBy a old new (claims + more_claims) (releases + more_releases)
  works_then old mid new claims releases more_claims more_releases first then place w handed reached works =
      let one = first place w handed reached works in
      let two = then place (after_acts a place w one.0) handed (reached_more a place w one.0 reached one.2) one.3 in (
        one.0 ++ two.0,
        record {
          own = All-append (IsByHand a place 0) one.0 two.0 one.1.own two.1.own;
          claimed =
              let here = one.1.claimed in let there = two.1.claimed in let sum = count_more a place (is_claim a place) one.0 two.0 in omega (arith, here, there, sum);
          released =
              let here = one.1.released in let there = two.1.released in let sum = count_more a place (is_release a place) one.0 two.0 in omega (arith, here, there, sum);
        },
        may_more a place w one.0 two.0 one.2 two.2,
        subst (λ (u : StoreWorld a place). WorksOn a place u new handed) (sym (after_more a place w one.0 two.0)) two.3,
      )

  -- by one act
  pub works_once : (old new : TableData F) (claims releases : ℕ) (act : (place : Place) → StoreAct a place) → IsAct a old new act
      → ((place : Place) → AreByDrainer a place claims releases (act place ∷ [])) → WorksBy a old new claims releases
  works_once old new claims releases act is by place w handed reached works =
      let done = is place w handed reached works in (act place ∷ [], by place, (done.0, tt), done.1)

  -- by none, where the half works on the same worlds
  pub works_still : (old new : TableData F)
      → ((place : Place) (w : StoreWorld a place) (handed : List VersionedEntry) → IsReached a place w → WorksOn a place w old handed → WorksOn a place w new handed)
      → WorksBy a old new 0 0
  works_still old new still place w handed reached works =
      ([], record { own = All-nil (IsByHand a place 0); claimed = refl; released = refl }, tt, still place w handed reached works)

  -- as it does where all stays
  pub works_same : (old new : TableData F) → KeepsRest old new → IsUnchanged old.core new.core
      → (place : Place) (w : StoreWorld a place) (handed : List VersionedEntry) → IsReached a place w → WorksOn a place w old handed → WorksOn a place w new handed
  works_same old new rest same place w handed reached on =
      works_on a place w old new w.world.image w.claims w.world.history w.tally on rest
      (record { program = same.program; graph = same.graph; roots = same.roots }) refl refl
      (state_is a place w old on ∙ sym (state-unchanged a.lattice a.functions a.targets old.core new.core same))
      (then_stays old.core new.core same.table same.pending same.changes)

  pub works_unchanged : (old new : TableData F) → KeepsRest old new → IsUnchanged old.core new.core → WorksBy a old new 0 0
  works_unchanged old new rest same = works_still old new (works_same old new rest same)

  -- what stops it where a batch is full, stops it where all stays
  pub stop_stays : (seals : Bool) (old new : TableData F) (refused : Refused) → new.core.table ≡ old.core.table → new.core.changes ≡ old.core.changes
      → new.sealed ≡ old.sealed → IsWorkStop a seals old refused → IsWorkStop a seals new refused
  stop_stays seals old new _ table changes sealed memory_is_wanting = memory_is_wanting
  stop_stays seals old new _ table changes sealed (full_batch_is_left leaves full) =
      full_batch_is_left leaves (let same = ap noted_count changes in omega (arith, full, same))
  stop_stays seals old new _ table changes sealed (full_batch_stays does full stop) =
      full_batch_stays does (let same = ap noted_count changes in omega (arith, full, same)) (seal_stop old new _ table sealed stop)
    where
      seal_stop : (old new : TableData F) (refused : Refused) → new.core.table ≡ old.core.table → new.sealed ≡ old.sealed → IsSealStop a old refused → IsSealStop a new refused
      seal_stop old new _ table sealed (no_number_left last) = no_number_left (sealed ∙ last)
      seal_stop old new _ table sealed (not_spelled item there improper) = not_spelled item (ap (λ t. found t item.0) table ∙ there) improper
      seal_stop old new _ table sealed wants_memory = wants_memory

-- ---- cores that differ in what is noted
module _ {F : Type 0} (old new : CoreData F) (same : IsSameCore old new) where
  pub same_problem : IsSameProblem old new
  same_problem = record {
    program = ap (λ (core : CoreData F). core.program) same;
    graph = ap (λ (core : CoreData F). core.graph) same;
    roots = ap (λ (core : CoreData F). core.roots) same;
  }

  pub same_pile : new.pile ≡ old.pile
  same_pile = ap (λ (core : CoreData F). core.pile) same

  pub same_tables : new.table ≡ old.table
  same_tables = ap (λ (core : CoreData F). core.table) same

-- ---- calls of one hand
-- an equal core is unchanged
pub unchanged_equal : {F : Type 0} (old new : CoreData F) → new ≡ old → IsUnchanged old new
unchanged_equal old new same = record {
  program = ap (λ (core : CoreData _). core.program) same;
  graph = ap (λ (core : CoreData _). core.graph) same;
  roots = ap (λ (core : CoreData _). core.roots) same;
  table = ap (λ (core : CoreData _). core.table) same;
  pending = ap (λ (core : CoreData _). core.pile.pending) same;
  claims = λ hand. ap (λ (core : CoreData _). claim_at core.pile hand) same;
  changes = ap (λ (core : CoreData _). core.changes) same;
}

-- so is a table, where its core and the rest are
pub same_table : {T F : Type 0} (r : Result T Refused) (old new : TableData F) → OnErr r ((new.core ≡ old.core) × KeepsRest old new) → OnErr r (IsSameTable old new)
same_table (Ok x) old new same = tt
same_table (Err e) old new same = record { core = unchanged_equal old.core new.core same.0; rest = same.1 }

-- what begins anew differs in what is noted
pub anew_core : {F : Type 0} (old new : CoreData F) → BeginsAnew old new → IsSameCore old new
anew_core old new anew = anew ∙ sym (ap (λ notes. record old { changes = notes }) (ap (λ (core : CoreData _). core.changes) anew))

pub equal_core : {F : Type 0} (old new : CoreData F) → new ≡ old → IsSameCore old new
equal_core old new same = same ∙ sym (ap (λ notes. record old { changes = notes }) (ap (λ (core : CoreData _). core.changes) same))

module _ {F L : Type 0} (a : Analysis F L) where
  -- one act of the hand that is neither a claim nor one that gives it back
  pub plain_act : (old new : TableData F) (act : (place : Place) → StoreAct a place) → IsAct a old new act → ((place : Place) → IsByHand a place 0 (act place))
      → ((place : Place) → count_of a place (is_claim a place) (act place ∷ []) ≡ 0) → ((place : Place) → count_of a place (is_release a place) (act place ∷ []) ≡ 0)
      → WorksBy a old new 0 0
  plain_act old new act is own claimed released =
      works_once a old new 0 0 act is (λ place. record {
        own = All-cons (IsByHand a place 0) (act place) [] (own place) (All-nil (IsByHand a place 0));
        claimed = claimed place;
        released = released place;
      })

-- why a hand does not go on is want of memory or the limit of a batch
pub stop_names : {F L : Type 0} (a : Analysis F L) (seals : Bool) (now : TableData F) (refused : Refused) → IsWorkStop a seals now refused
    → (refused ≡ NoMemory) ⊎ (refused ≡ Limit)
stop_names a seals now _ memory_is_wanting = inl refl
stop_names a seals now _ (full_batch_is_left leaves full) = inr refl
stop_names a seals now _ (full_batch_stays does full (no_number_left last)) = inr refl
stop_names a seals now _ (full_batch_stays does full (not_spelled item there improper)) = inr refl
stop_names a seals now _ (full_batch_stays does full wants_memory) = inl refl

-- what may not be drained, is not
pub not_begun : {F L : Type 0} (a : Analysis F L) (seals : Bool) (old : TableData F) (refused : Refused) → IsRefusal old (IsNoDrain old.core) refused
    → IsRefusal old (IsDrainStop a seals old old) refused
not_begun a seals old _ (after_failure failed) = after_failure failed
not_begun a seals old refused (by_itself working why) = by_itself working (no_drain why)

-- what a drain that began answers
pub drain_stop : {T F L : Type 0} (a : Analysis F L) (seals : Bool) (r : Result T Refused) (old mid new : TableData F) → old.failed ≡ false → MayDrain old.core
    → ((e : Refused) → IsWorkStop a seals mid e → IsWorkStop a seals new e) → IfErr r (IsWorkStop a seals mid) → IfErr r (IsRefusal old (IsDrainStop a seals old new))
drain_stop a seals (Ok x) old mid new working may stays why = tt
drain_stop a seals (Err e) old mid new working may stays why = by_itself working (stops may (stays e why))

pub drain_names : {T F L : Type 0} (a : Analysis F L) (seals : Bool) (P : Type 0) (r : Result T Refused) (mid : TableData F) → IfErr r (IsWorkStop a seals mid)
    → IfErr r (λ e. (e ≡ NoMemory) ⊎ ((e ≡ Limit) ⊎ P))
drain_names a seals P (Ok x) mid why = tt
drain_names a seals P (Err e) mid why = elim (stop_names a seals mid e why) [ inl memory ↦ inl memory | inr limit ↦ inr (inl limit) ]

-- all but the core stays from one step to the next
pub rest_then : {F : Type 0} (old mid new : TableData F) → KeepsRest old mid → KeepsRest mid new → KeepsRest old new
rest_then old mid new first then = record {
  version = then.version ∙ first.version;
  sealed = then.sealed ∙ first.sealed;
  waiting = then.waiting ∙ first.waiting;
  failed = then.failed ∙ first.failed;
}

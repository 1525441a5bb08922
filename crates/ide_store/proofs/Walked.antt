-- That a walk of the core is, to the store, a claim of each key by hand 0, its one part and its end.
use Rattle.std.proofs.Common.{◌≡◌, ◌∙◌, ◌+◌, ◌-◌, ◌≤◌, ℕ, zero, suc, inl, inr, true, false, List, [], ◌∷◌, add-one, ap, arith, refl, subst, sym, ◌||◌}
use Rattle.std.specs.Option.{is_some}
use Rattle.ide_image.specs.Notes.{noted_count}
use Rattle.ide_image.specs.Worklist.{IsFree}
use Rattle.ide_steps.specs.Calls.{CallsAreSteps}
use Rattle.ide_steps.specs.Changed.{Remembers}
use Rattle.ide_steps.specs.Core.{CoreData, IsSameProblem}
use Rattle.ide_steps.specs.Room.{IsGraphSaid, IsWholeCore}
use Rattle.ide_steps.specs.State.{state_of}
use Rattle.ide_steps.specs.Running.{TakesUp}
use Rattle.ide_steps.specs.Walk.{HasWalked, WalksOwed}
use Rattle.ide_steps.specs.declared.drain.NextKey.{NextKey}
use Rattle.ide_steps.specs.declared.drain.NextKey.TheVariants.{Walked, Owes, Nothing}
use Rattle.ide_wire.specs.declared.key.Key.{Key}
use Rattle.ide_steps.proofs.Walked.{PassesOn, core-first, core-last, core-links, core-same, core_amid, core_then, has-no-more, has-remembered, state-first, state-last, walked-count, walked-falls, walked-remembers}
use Rattle.ide_store.specs.Acting.{CallsAreActs}
use Rattle.ide_store.specs.Draining.{ComesTo, WorksBy}
use Rattle.ide_store.specs.Table.{Analysis, KeepsRest, TableData}
use Rattle.ide_store.proofs.Drained.{works_still, works_then}
use Rattle.ide_store.proofs.HandActs.{state_is, works_on}
use Rattle.ide_store.proofs.Owed.{key_works, off_lowered, off_none}

module _ {F L : Type 0} (a : Analysis F L) (acts : CallsAreActs a) where
  -- a key that gives its turn to the next one is claimed, its part done, and its claim ended
  passed-works : (table : TableData F) (old mid new : CoreData F) → IsWholeCore table.core → IsSameProblem table.core old → is_some old.changes ≡ true
      → PassesOn a.functions a.targets old mid new → WorksBy a (record table { core = old }) (record table { core = new }) 1 0
  passed-works table old mid new whole from_start noting passes =
      let start = record table { core = old } in
      let amid = record table { core = mid } in
      let after = record table { core = new } in
      let parts = (passes.next, passes.function) ∷ [] in
      let still : KeepsRest start amid = record { version = refl; sealed = refl; waiting = refl; failed = refl } in
      let rest : KeepsRest amid after = record { version = refl; sealed = refl; waiting = refl; failed = refl } in
      let whole_start : IsWholeCore start.core = record {
        distinct = passes.distinct;
        sited = λ graph is. whole.sited graph (sym from_start.graph ∙ is);
        said = λ graph is. subst (λ said. IsGraphSaid said graph) (sym from_start.program) (whole.said graph (sym from_start.graph ∙ is));
      } in
      let off = off_lowered a acts passes.key parts start start amid 0 false (off_none a acts passes.key parts start) still noting passes.same passes.before
      (passes.next, passes.function) refl false (sym (ap (λ b. b || false) passes.other))
      (record { lowers = passes.lowers; changes = passes.changes; falls = passes.falls }) in
      key_works a acts passes.key parts start whole_start passes.free passes.waits passes.owes amid 1 false off (passes.free_amid 0)
      after (omega arith) (passes.before.noting ∙ noting) rest passes.onward passes.behind passes.claims passes.waits_amid passes.table passes.ends

  -- the half works on the same worlds where its core is in the same state and remembers what it did
  remembered-works : (old new : TableData F) → KeepsRest old new → IsSameProblem old.core new.core → is_some old.core.changes ≡ true
      → state_of a.functions a.targets new.core ≡ state_of a.functions a.targets old.core → Remembers old.core new.core → WorksBy a old new 0 0
  remembered-works old new rest same noting state remembers =
      works_still a old new (λ place w handed reached on. works_on a place w old new w.world.image w.claims w.world.history w.tally on rest same refl refl
      (state_is a place w old on ∙ sym state) (remembers.entries noting))

  module _ (steps : CallsAreSteps a.lattice a.functions a.targets) (top : a.functions.rank a.functions.all_top ≡ a.functions.height) (old new : TableData F) (count : ℕ)
      (whole : IsWholeCore old.core) (free : IsFree old.core.pile) (noting : is_some old.core.changes ≡ true) (rest : KeepsRest old new)
      (walk : WalksOwed a.functions a.targets old.core new.core count) where
    abbrev then_core : ℕ → CoreData F
    then_core = core_then a.lattice a.functions a.targets steps top old.core new.core count free walk

    -- changes are noted all the way
    noting-still : (n : ℕ) → n ≤ count → is_some (then_core n).changes ≡ true
    noting-still zero few = (core-first a.lattice a.functions a.targets steps top old.core new.core count free walk).noting ∙ noting
    noting-still (suc n) few =
        let passes = core-links a.lattice a.functions a.targets steps top old.core new.core count free walk whole.distinct n (omega (arith, few)) in
        passes.behind.noting ∙ passes.before.noting ∙ noting-still n (omega (arith, few))

    works-along : (n : ℕ) → n ≤ count → WorksBy a (record old { core = then_core 0 }) (record old { core = then_core n }) n 0
    works-along zero few = works_still a _ _ (λ place w handed reached on. on)
    works-along (suc n) few =
        subst (λ m. WorksBy a (record old { core = then_core 0 }) (record old { core = then_core (suc n) }) m 0) (add-one n)
        (works_then a (record old { core = then_core 0 }) (record old { core = then_core n }) (record old { core = then_core (suc n) }) n 0 1 0
        (works-along n (omega (arith, few)))
        (passed-works old (then_core n) (core_amid a.lattice a.functions a.targets steps top old.core new.core count free walk n) (then_core (suc n)) whole
        (core-same a.lattice a.functions a.targets steps top old.core new.core count free walk n) (noting-still n (omega (arith, few)))
        (core-links a.lattice a.functions a.targets steps top old.core new.core count free walk whole.distinct n (omega (arith, few)))))

    -- so many claims of hand 0 lead from the one to the other
    pub walk-works : WorksBy a old new count 0
    walk-works =
        let last = core-same a.lattice a.functions a.targets steps top old.core new.core count free walk count in
        subst (λ m. WorksBy a old new m 0) (omega arith)
        (works_then a old (record old { core = then_core count }) new (0 + count) 0 0 0
        (works_then a old (record old { core = then_core 0 }) (record old { core = then_core count }) 0 0 count 0
        (remembered-works old (record old { core = then_core 0 }) (record { version = refl; sealed = refl; waiting = refl; failed = refl })
        (core-same a.lattice a.functions a.targets steps top old.core new.core count free walk 0) noting
        (state-first a.lattice a.functions a.targets steps top old.core new.core count free walk)
        (core-first a.lattice a.functions a.targets steps top old.core new.core count free walk))
        (works-along count (omega arith)))
        (remembered-works (record old { core = then_core count }) new (record { version = rest.version; sealed = rest.sealed; waiting = rest.waiting; failed = rest.failed })
        (record { program = walk.same.program ∙ sym last.program; graph = walk.same.graph ∙ sym last.graph; roots = walk.same.roots ∙ sym last.roots })
        (noting-still count (omega arith))
        (state-last a.lattice a.functions a.targets steps top old.core new.core count free walk)
        (core-last a.lattice a.functions a.targets steps top old.core new.core count free walk)))

  -- where so many nodes were walked over, or none, so many claims of hand 0 lead to that
  has-works : (steps : CallsAreSteps a.lattice a.functions a.targets) (top : a.functions.rank a.functions.all_top ≡ a.functions.height) (old : TableData F) (core : CoreData F) (count : ℕ)
      → IsWholeCore old.core → IsFree old.core.pile → is_some old.core.changes ≡ true → HasWalked a.functions a.targets old.core core count → WorksBy a old (record old { core = core }) count 0
  has-works steps top old core count whole free noting (inl none) =
      let same : record old { core = core } ≡ old = ap (λ (core : CoreData F). record old { core = core }) none.1 in
      subst (λ new. WorksBy a old new count 0) (sym same)
      (subst (λ n. WorksBy a old old n 0) (sym none.0) (works_still a old old (λ place w handed reached on. on)))
  has-works steps top old core count whole free noting (inr some) =
      walk-works steps top old (record old { core = core }) count whole free noting (record { version = refl; sealed = refl; waiting = refl; failed = refl }) some.1

  -- what the core's next key came to is what the half's came to, whose core alone changes
  module _ (steps : CallsAreSteps a.lattice a.functions a.targets) (top : a.functions.rank a.functions.all_top ≡ a.functions.height) (old : TableData F) (core : CoreData F)
      (most : ℕ) (parts : List (Key × F)) (free : IsFree old.core.pile) where
    pub taken-noting : (next : NextKey) → TakesUp a.functions a.targets most old.core core parts next → is_some old.core.changes ≡ true → is_some core.changes ≡ true
    taken-noting (Walked count) came noting = (walked-remembers a.lattice a.functions a.targets steps top old.core core count free came.2).noting ∙ noting
    taken-noting (Owes walked key) came noting = (has-remembered a.lattice a.functions a.targets steps top old.core core walked free came.1).noting ∙ noting
    taken-noting Nothing came noting = ap (λ (core : CoreData F). is_some core.changes) came.0 ∙ noting

    -- no more is noted than there is room for
    pub taken-few : (next : NextKey) → TakesUp a.functions a.targets most old.core core parts next → noted_count old.core.changes ≤ 65536
        → most ≤ 65535 - noted_count old.core.changes → noted_count core.changes ≤ 65536
    taken-few (Walked count) came few room =
        let more = walked-count a.lattice a.functions a.targets steps top old.core core count free came.2 in
        let least = came.1 in
        let some = came.0 in
        omega (arith, more, room, least, some)
    taken-few (Owes walked key) came few room =
        elim came.1 [
          | inl none ↦ let same = ap (λ (core : CoreData F). noted_count core.changes) none.1 in omega (arith, same, few)
          | inr over ↦
              let more = walked-count a.lattice a.functions a.targets steps top old.core core walked free over.1 in
              let least = came.0 in
              let some = over.0 in
              omega (arith, more, room, least, some)
        ]
    taken-few Nothing came few room = let same = ap (λ (core : CoreData F). noted_count core.changes) came.0 in omega (arith, same, few)

    pub taken-comes : (next : NextKey) → TakesUp a.functions a.targets most old.core core parts next → IsWholeCore old.core → is_some old.core.changes ≡ true
        → (limit : ℕ) → most ≤ limit → ComesTo a old (record old { core = core }) limit parts next
    taken-comes (Walked count) came whole noting limit within =
        let least = came.1 in (
          came.0,
          omega (arith, least, within),
          walked-falls a.lattice a.functions a.targets steps top old.core core count free came.2 came.0,
          walk-works steps top old (record old { core = core }) count whole free noting (record { version = refl; sealed = refl; waiting = refl; failed = refl }) came.2,
        )
    taken-comes (Owes walked key) came whole noting limit within =
        let least = came.0 in (
          omega (arith, least, within),
          has-no-more a.lattice a.functions a.targets steps top old.core core walked free came.1,
          has-works steps top old core walked whole free noting came.1,
          came.2,
        )
    taken-comes Nothing came whole noting limit within = (ap (λ (core : CoreData F). record old { core = core }) came.0, came.1)

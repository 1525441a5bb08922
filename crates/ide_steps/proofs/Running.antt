-- That the parts of a pending key, done by a hand that has no claim, are those of its claim.
use Rattle.std.proofs.Common.{◌≡◌, ◌≢◌, ℕ, zero, suc, ◌+◌, ◌-◌, ◌*◌, ◌^◌, ◌<◌, ◌≤◌, ◌⊎◌, inl, inr, Bool, true, false, cond, ◌||◌, get_or, List, [], ◌∷◌, Option, Some, None, option_map, slice_get, drop, length, ap, sym, subst, ◌∙◌, refl, add-one, arith}
use Rattle.std.specs.Prelude.{◌&&◌, not, nat_eq, Result, Ok, Err, OnOk}
use Rattle.std.specs.List.{list_any}
use Rattle.std.proofs.lemmas.Option.{same_Some}
use Rattle.ide_graph.specs.Exits.{AreExitsOwned}
use Rattle.std.proofs.lemmas.Bool.{eqb-true}
use Rattle.std.proofs.lemmas.List.{drop_all}
use Rattle.ide_graph.specs.Supergraph.{Supergraph}
use Rattle.ide_lattice.specs.Algebra.{LatticeAlgebra, EdgeAlgebra}
use Rattle.ide_problem.specs.Flow.{Targets}
use Rattle.ide_tasks.specs.Parts.{owed}
use Rattle.ide_tasks.specs.Task.{TaskData}
use Rattle.ide_theory.specs.Graphs.{frame_at}
use Rattle.ide_theory.specs.Run.{lower, skip}
use Rattle.ide_theory.specs.State.{Claim, State, claim_marked, new_claim, part_done, put, rest_of, with_claim, with_lowered, without_first}
use Rattle.ide_image.specs.KeyedImage.{CountsPending}
use Rattle.ide_image.specs.Spent.{spent}
use Rattle.ide_image.specs.Tables.{found}
use Rattle.ide_image.specs.Worklist.{IsFree, claim_at, ends_key, is_pending}
use Rattle.ide_image.specs.declared.change.Change.{Change}
use Rattle.ide_image.specs.declared.change.Change.TheVariants.{Lowered, Same}
use Rattle.ide_image.specs.declared.claim.Claim.{Claim as Held}
use Rattle.ide_wire.specs.Key.{same_key, same_key_exact}
use Rattle.ide_wire.specs.declared.key.Key.{Key}
use Rattle.ide_steps.specs.Calls.{CallsAreSteps}
use Rattle.ide_steps.specs.Core.{CoreData, IsProgramKept, IsSameProblem, IsUnchanged}
use Rattle.ide_steps.specs.Drain.{ArePaid, HasLess, potential}
use Rattle.ide_steps.specs.Going.{GoesOn, GoesOnByHand}
use Rattle.ide_steps.specs.Running.{ListsParts, OwesParts, WorksOff, claimed_as, put_claim, with_held}
use Rattle.ide_steps.specs.declared.loaded.Loaded.{Loaded}
use Rattle.ide_steps.specs.State.{IsTaskOf, claim_of, state_of}
use Rattle.ide_steps.specs.Steps.{EndsDone, GivesBack, HasReceived, IsChangedBy, IsCurrent, IsLoweredBy, IsTaken, LowersPart, SameState, SkipsPart, progress_of}
use Rattle.ide_steps.specs.Claiming.{FindsTask, KeepsAllBut}
use Rattle.ide_steps.specs.Kept.{IsTaskWhere}
use Rattle.ide_steps.proofs.Going.{StepBy, drop-at, goes-back, goes-ended, goes-nowhere, goes-on, goes-step, goes-then}
use Rattle.ide_steps.proofs.Potential.{at-most-one}
use Rattle.ide_steps.proofs.States.{drop-more, ends-cond}
use Rattle.ide_theory.proofs.Laws.Targets.{nat_eq-refl}

-- a key that is taken out is not pending, and any other as it was
pub not-or-as : (same waits : Bool) → (not same && waits) ≡ cond same false waits
not-or-as true waits = refl
not-or-as false waits = refl

-- fewer keys are pending where nothing was lowered, and no more where something was
pub fallen : (twice before pending waits start more : ℕ) → twice ≡ before → 1 + pending ≤ waits + more → before + waits < start → more ≤ 1 → twice + pending < start
fallen twice before pending waits start more same count less one = omega (arith, same, count, less, one)

pub settled : (twice before pending waits start more : ℕ) → twice ≡ before → 1 + pending ≤ waits + more → before + waits ≡ start → more ≡ 0 → twice + pending < start
settled twice before pending waits start more same count still none = omega (arith, same, count, still, none)

-- no hand has a claim in no claims
nil-at : {T : Type 0} (h : ℕ) → get_or {A = Option (Held T)} [] h None ≡ None
nil-at zero = refl
nil-at (suc h) = refl

-- each hand's claim, where one is replaced
put-own : {T : Type 0} (claims : List (Option (Held T))) (hand : ℕ) (claim : Option (Held T)) → get_or (put_claim hand claim claims) hand None ≡ claim
put-own [] zero claim = refl
put-own (c ∷ cs) zero claim = refl
put-own [] (suc hand) claim = put-own [] hand claim
put-own (c ∷ cs) (suc hand) claim = put-own cs hand claim

put-other : {T : Type 0} (claims : List (Option (Held T))) (hand h : ℕ) (claim : Option (Held T)) → (hand ≡ h → ⊥)
    → get_or (put_claim hand claim claims) h None ≡ get_or claims h None
put-other [] zero zero claim apart = absurd (apart refl)
put-other [] zero (suc h) claim apart = nil-at h
put-other (c ∷ cs) zero zero claim apart = absurd (apart refl)
put-other (c ∷ cs) zero (suc h) claim apart = refl
put-other [] (suc hand) zero claim apart = refl
put-other [] (suc hand) (suc h) claim apart = put-other [] hand h claim (λ e. apart (ap suc e)) ∙ nil-at h
put-other (c ∷ cs) (suc hand) zero claim apart = refl
put-other (c ∷ cs) (suc hand) (suc h) claim apart = put-other cs hand h claim (λ e. apart (ap suc e))

not-own : (hand h : ℕ) → nat_eq hand h ≡ false → hand ≡ h → ⊥
not-own hand h other e =
    let is : true ≡ false = sym (ap (nat_eq hand) (sym e) ∙ nat_eq-refl hand) ∙ other in
    let no : ⊥ = cc (is) in
    no

-- what holds of one hand's value and of each other one's, holds of each
by-hand : {X : Type 0} (hand : ℕ) (f g : ℕ → X) → f hand ≡ g hand → ((h : ℕ) → nat_eq hand h ≡ false → f h ≡ g h) → (h : ℕ) → f h ≡ g h
by-hand hand f g own others h = elim (nat_eq hand h) as (λ b. nat_eq hand h ≡ b → f h ≡ g h) [
  | true ↦ λ same. subst (λ j. f j ≡ g j) (eqb-true hand h same) own
  | false ↦ λ other. others h other
] refl

module _ {F L : Type 0} (A : LatticeAlgebra L) (B : EdgeAlgebra F L) (targets : Targets F) (hand : ℕ) where
  -- the claims of the core as it would be
  held-own : (core : CoreData F) (held : Held (TaskData F)) → (state_of B targets (with_held core hand held)).claims hand ≡ Some (claim_of B targets held)
  held-own core held = ap (option_map (claim_of B targets)) (put-own core.pile.claims hand (Some held))

  held-other : (core : CoreData F) (held : Held (TaskData F)) (h : ℕ) → nat_eq hand h ≡ false
      → (state_of B targets (with_held core hand held)).claims h ≡ (state_of B targets core).claims h
  held-other core held h other =
      ap (option_map (claim_of B targets)) (put-other core.pile.claims hand h (Some held) (not-own hand h other))

  -- a claim that is put for a hand
  put-here : (f : ℕ → Option (Claim F)) (claim : Option (Claim F)) → put nat_eq f hand claim hand ≡ claim
  put-here f claim = ap (λ b. cond b claim (f hand)) (nat_eq-refl hand)

  put-there : (f : ℕ → Option (Claim F)) (claim : Option (Claim F)) (h : ℕ) → nat_eq hand h ≡ false → put nat_eq f hand claim h ≡ f h
  put-there f claim h other = ap (λ b. cond b claim (f h)) other

  held-same : (old new : CoreData F) (a b : Held (TaskData F)) → IsSameProblem old new → IsSameProblem (with_held old hand a) (with_held new hand b)
  held-same old new a b same = record { program = same.program; graph = same.graph; roots = same.roots }

  -- the hand's claim, and each other hand's where they stay
  pub held-there : (core : CoreData F) (held : Held (TaskData F)) → claim_at (with_held core hand held).pile hand ≡ Some held
  held-there core held = put-own core.pile.claims hand (Some held)

  pub held-claims : (old new : CoreData F) (held : Held (TaskData F)) → ((h : ℕ) → claim_at new.pile h ≡ claim_at old.pile h)
      → (h : ℕ) → claim_at (with_held new hand held).pile h ≡ claim_at (with_held old hand held).pile h
  held-claims old new held same =
      by-hand hand (claim_at (with_held new hand held).pile) (claim_at (with_held old hand held).pile) (held-there new held ∙ sym (held-there old held))
      (λ h other.
      put-other new.pile.claims hand h (Some held) (not-own hand h other) ∙ same h ∙ sym (put-other old.pile.claims hand h (Some held) (not-own hand h other)))

  -- nothing happens to it where the core is unchanged
  held-still : (old new : CoreData F) (held : Held (TaskData F)) → IsSameProblem old new → IsUnchanged old new
      → GoesOnByHand A B targets hand 0 0 0 (with_held old hand held) (with_held new hand held)
  held-still old new held same unchanged =
      goes-nowhere A B targets hand (with_held old hand held) (with_held new hand held) (held-same old new held held same)
      (λ i. record { get = found (unchanged.table i); pending = λ q. list_any (same_key q) (unchanged.pending i); claims = λ h. by-hand hand after.claims before.claims own others h i })
    where
      before : State F
      before = state_of B targets (with_held old hand held)

      after : State F
      after = state_of B targets (with_held new hand held)

      own : after.claims hand ≡ before.claims hand
      own = held-own new held ∙ sym (held-own old held)

      others : (h : ℕ) → nat_eq hand h ≡ false → after.claims h ≡ before.claims h
      others h other = held-other new held h other ∙ ap (option_map (claim_of B targets)) (unchanged.claims h) ∙ sym (held-other old held h other)

  module _ (key : Key) (task : TaskData F) (done : ℕ) (lowered : Bool) where
    -- what such a claim owes, when one part more is done
    one-done : (mark : Bool)
        → Some (record { key = key; parts = rest_of (drop done (owed B targets task)); lowered = mark }) ≡ Some (claim_of B targets (claimed_as key task (suc done) mark))
    one-done mark = ap (λ ps. Some (record { key = key; parts = ps; lowered = mark })) (sym (drop-more done (owed B targets task)))

    -- a part that lowers its key
    module _ (old new : CoreData F) (part : Key × F) (lowers : IsLoweredBy B targets old new part.0 part.1) where
      lowered-state : part_done (with_lowered B (state_of B targets (with_held old hand (claimed_as key task done lowered))) part.0 part.1) hand
          ≡ state_of B targets (with_held new hand (claimed_as key task (suc done) (same_key key part.0 || lowered)))
      lowered-state = λ i. record { get = (sym lowers i).get; pending = (sym lowers i).pending; claims = λ h. by-hand hand there.claims here.claims own others h i }
        where
          marks : Option (Claim F) → Option (Claim F)
          marks = option_map (claim_marked part.0)

          before : State F
          before = state_of B targets (with_held old hand (claimed_as key task done lowered))

          there : State F
          there = part_done (with_lowered B before part.0 part.1) hand

          here : State F
          here = state_of B targets (with_held new hand (claimed_as key task (suc done) (same_key key part.0 || lowered)))

          own : there.claims hand ≡ here.claims hand
          own =
              put-here (λ h. marks (before.claims h)) (option_map without_first (marks (before.claims hand)))
              ∙ ap (λ o. option_map without_first (marks o)) (held-own old (claimed_as key task done lowered))
              ∙ one-done (same_key key part.0 || lowered)
              ∙ sym (held-own new (claimed_as key task (suc done) (same_key key part.0 || lowered)))

          others : (h : ℕ) → nat_eq hand h ≡ false → there.claims h ≡ here.claims h
          others h other =
              put-there (λ h. marks (before.claims h)) (option_map without_first (marks (before.claims hand))) h other
              ∙ ap marks (held-other old (claimed_as key task done lowered) h other)
              ∙ ap (λ s. s.claims h) (sym lowers)
              ∙ sym (held-other new (claimed_as key task (suc done) (same_key key part.0 || lowered)) h other)

    pub part-lowers : (old new : CoreData F) (part : Key × F) → IsSameProblem old new → slice_get (owed B targets task) done ≡ Some part
        → IsLoweredBy B targets old new part.0 part.1 → IsChangedBy B targets old part.0 part.1
        → GoesOnByHand A B targets hand 0 1 0 (with_held old hand (claimed_as key task done lowered))
        (with_held new hand (claimed_as key task (suc done) (same_key key part.0 || lowered)))
    part-lowers old new part same at lowers changes =
        let before = with_held old hand (claimed_as key task done lowered) in
        let after = with_held new hand (claimed_as key task (suc done) (same_key key part.0 || lowered)) in
        goes-step A B targets hand 0 1 0 before after (held-same old new (claimed_as key task done lowered) (claimed_as key task (suc done) (same_key key part.0 || lowered)) same)
        (λ g is all fit run. subst (StepBy (frame_at A B targets g all) hand 0 1 0 (state_of B targets before)) (lowered-state old new part lowers) (
          lower hand (claim_of B targets (claimed_as key task done lowered)) part.0 part.1 (drop (suc done) (owed B targets task))
              (held-own old (claimed_as key task done lowered)) (drop-at (owed B targets task) done part at) changes.falls,
          refl,
          refl,
          refl,
          refl,
        ))

    -- a part that its key has received already
    skipped-state : (old new : CoreData F) → SameState B targets old new
        → part_done (state_of B targets (with_held old hand (claimed_as key task done lowered))) hand
        ≡ state_of B targets (with_held new hand (claimed_as key task (suc done) lowered))
    skipped-state old new is = λ i. record { get = (sym is i).get; pending = (sym is i).pending; claims = λ h. by-hand hand there.claims here.claims own others h i }
      where
        before : State F
        before = state_of B targets (with_held old hand (claimed_as key task done lowered))

        there : State F
        there = part_done before hand

        here : State F
        here = state_of B targets (with_held new hand (claimed_as key task (suc done) lowered))

        own : there.claims hand ≡ here.claims hand
        own =
            put-here before.claims (option_map without_first (before.claims hand))
            ∙ ap (option_map without_first) (held-own old (claimed_as key task done lowered))
            ∙ one-done lowered
            ∙ sym (held-own new (claimed_as key task (suc done) lowered))

        others : (h : ℕ) → nat_eq hand h ≡ false → there.claims h ≡ here.claims h
        others h other =
            put-there before.claims (option_map without_first (before.claims hand)) h other
            ∙ held-other old (claimed_as key task done lowered) h other
            ∙ ap (λ s. s.claims h) (sym is)
            ∙ sym (held-other new (claimed_as key task (suc done) lowered) h other)

    pub part-skips : (old new : CoreData F) (part : Key × F) → IsSameProblem old new → slice_get (owed B targets task) done ≡ Some part
        → SameState B targets old new → HasReceived B targets old part.0 part.1
        → GoesOnByHand A B targets hand 0 0 0 (with_held old hand (claimed_as key task done lowered)) (with_held new hand (claimed_as key task (suc done) lowered))
    part-skips old new part same at state_is met =
        let before = with_held old hand (claimed_as key task done lowered) in
        let after = with_held new hand (claimed_as key task (suc done) lowered) in
        goes-step A B targets hand 0 0 0 before after (held-same old new (claimed_as key task done lowered) (claimed_as key task (suc done) lowered) same)
        (λ g is all fit run. subst (StepBy (frame_at A B targets g all) hand 0 0 0 (state_of B targets before)) (skipped-state old new state_is) (
          skip hand (claim_of B targets (claimed_as key task done lowered)) part.0 part.1 (drop (suc done) (owed B targets task))
              (held-own old (claimed_as key task done lowered)) (drop-at (owed B targets task) done part at) met,
          refl,
          refl,
          refl,
          refl,
        ))

    -- the claim is given back
    pub part-back : (core : CoreData F) → claim_at core.pile hand ≡ None → GivesBack B targets hand (with_held core hand (claimed_as key task done lowered)) core
    part-back core free = λ i. record { get = found core.table; pending = is_pending core.pile; claims = λ h. by-hand hand (state_of B targets core).claims back.claims own others h i }
      where
        held : Held (TaskData F)
        held = claimed_as key task done lowered

        back : State F
        back = with_claim (state_of B targets (with_held core hand held)) hand None

        own : (state_of B targets core).claims hand ≡ back.claims hand
        own = ap (option_map (claim_of B targets)) free ∙ sym (put-here (state_of B targets (with_held core hand held)).claims None)

        others : (h : ℕ) → nat_eq hand h ≡ false → (state_of B targets core).claims h ≡ back.claims h
        others h other = sym (put-there (state_of B targets (with_held core hand held)).claims None h other ∙ held-other core held h other)

    pub part-stops : (core : CoreData F) → claim_at core.pile hand ≡ None → GoesOnByHand A B targets hand 0 0 1 (with_held core hand (claimed_as key task done lowered)) core
    part-stops core free =
        goes-back A B targets (with_held core hand (claimed_as key task done lowered)) core hand (claimed_as key task done lowered)
        (record { program = refl; graph = refl; roots = refl }) (put-own core.pile.claims hand (Some (claimed_as key task done lowered))) (part-back core free)

    -- the claim is of the work with so many parts done, and what is done of it are the work's next parts
    pub part-current : (core : CoreData F) (parts : List (Key × F)) → parts ≡ owed B targets task
        → IsCurrent B targets (with_held core hand (claimed_as key task done lowered)) hand (record { task = task; parts = parts; done = done })
    part-current core parts owes = record {
      claim = ap progress_of (put-own core.pile.claims hand (Some (claimed_as key task done lowered)));
      parts = owes;
    }

    pub part-lowered : (old new : CoreData F) (parts : List (Key × F)) (part : Key × F) → slice_get parts done ≡ Some part
        → IsLoweredBy B targets old new part.0 part.1 → IsChangedBy B targets old part.0 part.1
        → LowersPart B targets hand (with_held old hand (claimed_as key task done lowered)) (with_held new hand (claimed_as key task (done + 1) (same_key key part.0 || lowered)))
        (record { task = task; parts = parts; done = done }) (record { task = task; parts = parts; done = done + 1 })
    part-lowered old new parts part at lowers changes = record {
      part = part;
      next = at;
      changes = record { falls = changes.falls; present = changes.present };
      state =
          ap (λ n. state_of B targets (with_held new hand (claimed_as key task n (same_key key part.0 || lowered)))) (add-one done)
          ∙ sym (lowered-state old new part lowers);
      counted = record { task = refl; parts = refl; done = refl };
    }

    pub part-skipped : (old new : CoreData F) (parts : List (Key × F)) (part : Key × F) → slice_get parts done ≡ Some part
        → SameState B targets old new → HasReceived B targets old part.0 part.1
        → SkipsPart B targets hand (with_held old hand (claimed_as key task done lowered)) (with_held new hand (claimed_as key task (done + 1) lowered))
        (record { task = task; parts = parts; done = done }) (record { task = task; parts = parts; done = done + 1 })
    part-skipped old new parts part at same met = record {
      part = part;
      next = at;
      met = met;
      state = ap (λ n. state_of B targets (with_held new hand (claimed_as key task n lowered))) (add-one done) ∙ sym (skipped-state old new same);
      counted = record { task = refl; parts = refl; done = refl };
    }

  -- a pending key that no hand has claimed is claimed
  pub key-claimed : (core : CoreData F) (key : Key) (task : TaskData F) → claim_at core.pile hand ≡ None → is_pending core.pile key ≡ true
      → ((h : ℕ) (held : Held (TaskData F)) → claim_at core.pile h ≡ Some held → held.key ≢ key) → task.key ≡ key
      → IsTaken B targets hand core (with_held core hand (claimed_as key task 0 false)) task
  key-claimed core key task free waits unclaimed of_key = record {
    free = free;
    pending = ap (is_pending core.pile) of_key ∙ waits;
    unclaimed = λ h held has. subst (λ k. held.key ≢ k) (sym of_key) (unclaimed h held has);
    state = λ i. record { get = found core.table; pending = is_pending core.pile; claims = λ h. by-hand hand there.claims here.claims own others h i };
  }
    where
      there : State F
      there = state_of B targets (with_held core hand (claimed_as key task 0 false))

      here : State F
      here = with_claim (state_of B targets core) hand (Some (new_claim task.key (owed B targets task)))

      own : there.claims hand ≡ here.claims hand
      own =
          held-own core (claimed_as key task 0 false)
          ∙ ap (λ k. Some (new_claim k (owed B targets task))) (sym of_key)
          ∙ sym (put-here (state_of B targets core).claims (Some (new_claim task.key (owed B targets task))))

      others : (h : ℕ) → nat_eq hand h ≡ false → there.claims h ≡ here.claims h
      others h other =
          held-other core (claimed_as key task 0 false) h other
          ∙ sym (put-there (state_of B targets core).claims (Some (new_claim task.key (owed B targets task))) h other)

  -- all stays but the claim, which is of the key's task with no part done
  pub key-keeps : (core : CoreData F) (held : Held (TaskData F)) → KeepsAllBut hand core (with_held core hand held)
  key-keeps core held = record {
    stays = record { program = refl; graph = refl; roots = refl };
    table = refl;
    pending = refl;
    changes = refl;
    others = λ h other. put-other core.pile.claims hand h (Some held) (not-own hand h other);
  }

  pub key-found : (core : CoreData F) (key : Key) (task : TaskData F) → claim_at core.pile hand ≡ None → is_pending core.pile key ≡ true
      → ((h : ℕ) (held : Held (TaskData F)) → claim_at core.pile h ≡ Some held → held.key ≢ key) → task.key ≡ key
      → ((graph : Supergraph) → IsTaskWhere B targets graph core task)
      → FindsTask B targets hand core (with_held core hand (claimed_as key task 0 false)) task
  key-found core key task free waits unclaimed of_key is_task = record {
    fresh = ap ends_key (put-own core.pile.claims hand (Some (claimed_as key task 0 false)));
    taken = key-claimed core key task free waits unclaimed of_key;
    is_task = is_task;
    progress = ap progress_of (put-own core.pile.claims hand (Some (claimed_as key task 0 false)));
  }

  -- a claim with no part left is ended, and its key is taken out, unless it was lowered
  pub key-over : (core new : CoreData F) (key : Key) (task : TaskData F) (done : ℕ) (lowered : Bool)
      → claim_at core.pile hand ≡ None → ((h : ℕ) → claim_at new.pile h ≡ claim_at core.pile h)
      → length (owed B targets task) ≤ done → is_pending core.pile key ≡ true → new.table ≡ core.table
      → ((q : Key) → is_pending new.pile q ≡ (not (not lowered && same_key key q) && is_pending core.pile q))
      → EndsDone B targets hand (with_held core hand (claimed_as key task done lowered)) new
  key-over core new key task done lowered free claims all waits table pending = (
    held,
    put-own core.pile.claims hand (Some held),
    drop_all done (owed B targets task) all,
    λ i. record { get = found (table i); pending = λ q. pendings q i; claims = λ h. by-hand hand (state_of B targets new).claims over own others h i },
  )
    where
      held : Held (TaskData F)
      held = claimed_as key task done lowered

      pendings : (q : Key) → is_pending new.pile q ≡ put same_key (is_pending core.pile) key lowered q
      pendings q = pending q ∙ ends-cond B targets lowered (same_key key q) (is_pending core.pile q) (λ here. ap (is_pending core.pile) (sym (same_key_exact key q here)) ∙ waits)

      over : ℕ → Option (Claim F)
      over = put nat_eq (state_of B targets (with_held core hand held)).claims hand None

      own : (state_of B targets new).claims hand ≡ over hand
      own = ap (option_map (claim_of B targets)) (claims hand ∙ free) ∙ sym (put-here (state_of B targets (with_held core hand held)).claims None)

      others : (h : ℕ) → nat_eq hand h ≡ false → (state_of B targets new).claims h ≡ over h
      others h other =
          ap (option_map (claim_of B targets)) (claims h)
          ∙ sym (put-there (state_of B targets (with_held core hand held)).claims None h other ∙ held-other core held h other)

  pub key-ended : (core new : CoreData F) (key : Key) (task : TaskData F) (done : ℕ) (lowered : Bool) → IsSameProblem core new
      → claim_at core.pile hand ≡ None → ((h : ℕ) → claim_at new.pile h ≡ claim_at core.pile h)
      → length (owed B targets task) ≤ done → is_pending core.pile key ≡ true → new.table ≡ core.table
      → ((q : Key) → is_pending new.pile q ≡ (not (not lowered && same_key key q) && is_pending core.pile q))
      → GoesOnByHand A B targets hand 0 0 0 (with_held core hand (claimed_as key task done lowered)) new
  key-ended core new key task done lowered same free claims all waits table pending =
      let over = key-over core new key task done lowered free claims all waits table pending in
      goes-ended A B targets (with_held core hand (claimed_as key task done lowered)) new hand over.0
      (record { program = same.program; graph = same.graph; roots = same.roots }) over.1 over.2 over.3

  -- the count goes on by one
  one_more : (m k l : ℕ) (core new : CoreData F) (key : Key) (task : TaskData F) (done : ℕ) (now lowered : Bool) → now ≡ lowered
      → GoesOnByHand A B targets hand m k l core (with_held new hand (claimed_as key task (suc done) lowered))
      → GoesOnByHand A B targets hand m k l core (with_held new hand (claimed_as key task (done + 1) now))
  one_more m k l core new key task done now lowered is goes =
      subst (λ b. GoesOnByHand A B targets hand m k l core (with_held new hand (claimed_as key task (done + 1) b))) (sym is)
      (subst (λ n. GoesOnByHand A B targets hand m k l core (with_held new hand (claimed_as key task n lowered))) (sym (add-one done)) goes)

  -- ---- what is done part by part

  module _ (key : Key) (parts : List (Key × F)) (start : CoreData F) where
    -- nothing is done yet
    pub works-none : WorksOff A B targets hand key parts 0 false start start
    works-none = record {
      lowerings = 0;
      goes = λ task owes. goes-nowhere A B targets hand (with_held start hand (claimed_as key task 0 false)) (with_held start hand (claimed_as key task 0 false))
          (record { program = refl; graph = refl; roots = refl }) refl;
      keys = omega arith;
      ranks = omega arith;
      less = inr (refl, refl);
    }

    module _ (old new : CoreData F) (done : ℕ) (lowered : Bool) (before : WorksOff A B targets hand key parts done lowered start old) (same : IsSameProblem old new)
        (part : Key × F) (at : slice_get parts done ≡ Some part) where
      -- a part that lowers its key is paid for by a rank
      pub works-lowered : (now : Bool) → now ≡ (same_key key part.0 || lowered) → is_pending old.pile key ≡ true
          → IsLoweredBy B targets old new part.0 part.1 → IsChangedBy B targets old part.0 part.1
          → CountsPending part.0 old.pile new.pile → 1 + spent B old.table.entries ≤ spent B new.table.entries → HasLess B old new
          → WorksOff A B targets hand key parts (done + 1) now start new
      works-lowered now is waits lowers changes count ranks falls = record {
        lowerings = before.lowerings + 1;
        goes = λ task owes.
            let one = part-lowers key task done lowered old new part same (subst (λ ps. slice_get ps done ≡ Some part) owes at) lowers changes in
            goes-then A B targets (with_held start hand (claimed_as key task 0 false)) (with_held old hand (claimed_as key task done lowered)) (with_held new hand (claimed_as key task (done + 1) now))
            (before.goes task owes)
            (one_more 0 1 0 (with_held old hand (claimed_as key task done lowered)) new key task done now _ is one);
        keys = subst (λ b. length new.pile.pending + cond b 1 0 ≤ length start.pile.pending + (before.lowerings + 1)) (sym is) (pays (same_key key part.0) refl);
        ranks = let earlier = before.ranks in omega (arith, earlier, ranks);
        less = elim before.less [
          | inl less ↦ inl (omega (arith, less, falls))
          | inr still ↦ inl (let equal = still.0 in omega (arith, equal, falls))
        ];
      }
        where
          pays : (own : Bool) → same_key key part.0 ≡ own
              → length new.pile.pending + cond (own || lowered) 1 0 ≤ length start.pile.pending + (before.lowerings + 1)
          pays true own =
              let here : is_pending old.pile part.0 ≡ true = ap (is_pending old.pile) (sym (same_key_exact key part.0 own)) ∙ waits in
              let none : ◌≡◌ {A = ℕ} (cond (is_pending old.pile part.0) 0 1) 0 = ap (λ b. cond b 0 1) here in
              let earlier = before.keys in
              omega (arith, earlier, count, none)
          pays false own =
              let one = at-most-one (is_pending old.pile part.0) in
              let earlier = before.keys in
              omega (arith, earlier, count, one)

      -- a part that its key has received already changes nothing
      pub works-same : (now : Bool) → now ≡ lowered → IsUnchanged old new → SameState B targets old new → HasReceived B targets old part.0 part.1
          → WorksOff A B targets hand key parts (done + 1) now start new
      works-same now is unchanged state met = record {
        lowerings = before.lowerings + 0;
        goes = λ task owes.
            let one = part-skips key task done lowered old new part same (subst (λ ps. slice_get ps done ≡ Some part) owes at) state met in
            goes-then A B targets (with_held start hand (claimed_as key task 0 false)) (with_held old hand (claimed_as key task done lowered)) (with_held new hand (claimed_as key task (done + 1) now))
            (before.goes task owes)
            (one_more 0 0 0 (with_held old hand (claimed_as key task done lowered)) new key task done now _ is one);
        keys =
            let earlier = before.keys in
            let pending = ap length unchanged.pending in
            subst (λ b. length new.pile.pending + cond b 1 0 ≤ length start.pile.pending + (before.lowerings + 0)) (sym is) (omega (arith, earlier, pending));
        ranks = let earlier = before.ranks in let entries = ap (λ t. spent B t.entries) unchanged.table in omega (arith, earlier, entries);
        less = elim before.less [
          | inl less ↦ inl (subst (λ n. n < potential B start) (sym still) less)
          | inr earlier ↦ inr (still ∙ earlier.0, is ∙ earlier.1)
        ];
      }
        where
          still : potential B new ≡ potential B old
          still = λ i. 2 * (2 ^ 64 * B.height - spent B (unchanged.table i).entries) + length (unchanged.pending i)

    -- what is unchanged is where it was
    pub works-still : (old new : CoreData F) (done : ℕ) (lowered : Bool) → WorksOff A B targets hand key parts done lowered start old → IsSameProblem old new
        → IsUnchanged old new → WorksOff A B targets hand key parts done lowered start new
    works-still old new done lowered before same unchanged = record {
      lowerings = before.lowerings + 0;
      goes = λ task owes.
          goes-then A B targets (with_held start hand (claimed_as key task 0 false)) (with_held old hand (claimed_as key task done lowered)) (with_held new hand (claimed_as key task done lowered))
          (before.goes task owes) (held-still old new (claimed_as key task done lowered) same unchanged);
      keys = let earlier = before.keys in let pending = ap length unchanged.pending in omega (arith, earlier, pending);
      ranks = let earlier = before.ranks in let entries = ap (λ t. spent B t.entries) unchanged.table in omega (arith, earlier, entries);
      less = elim before.less [
        | inl less ↦ inl (subst (λ n. n < potential B start) (sym still) less)
        | inr earlier ↦ inr (still ∙ earlier.0, earlier.1)
      ];
    }
      where
        still : potential B new ≡ potential B old
        still = λ i. 2 * (2 ^ 64 * B.height - spent B (unchanged.table i).entries) + length (unchanged.pending i)

  -- ---- a key that is run

  module _ (old mid new : CoreData F) (key : Key) (parts : List (Key × F)) (lowered : Bool) (works : WorksOff A B targets hand key parts (length parts) lowered old mid)
      (table : new.table ≡ mid.table) (count : 1 + length new.pile.pending ≤ length mid.pile.pending + cond lowered 1 0) where
    -- it is claimed, its parts are done and its claim is ended, and that is paid for
    pub key-runs : (task : TaskData F) → parts ≡ owed B targets task → GoesOnByHand A B targets hand 1 0 0 old (with_held old hand (claimed_as key task 0 false))
        → IsSameProblem mid new → claim_at mid.pile hand ≡ None → ((h : ℕ) → claim_at new.pile h ≡ claim_at mid.pile h) → is_pending mid.pile key ≡ true
        → ((q : Key) → is_pending new.pile q ≡ (not (not lowered && same_key key q) && is_pending mid.pile q))
        → GoesOnByHand A B targets hand 1 (0 + works.lowerings + 0) 0 old new × ArePaid B 1 (0 + works.lowerings + 0) old new
    key-runs task owes claimed same free claims waits pending = (
      goes-then A B targets old (with_held mid hand (claimed_as key task (length parts) lowered)) new
          (goes-then A B targets old (with_held old hand (claimed_as key task 0 false)) (with_held mid hand (claimed_as key task (length parts) lowered)) claimed (works.goes task owes))
          (key-ended mid new key task (length parts) lowered same free claims (let long = ap length owes in omega (arith, long)) waits table pending),
      record {
        keys = let earlier = works.keys in omega (arith, earlier, count);
        ranks = let earlier = works.ranks in let entries = ap (λ t. spent B t.entries) table in omega (arith, earlier, entries);
      },
    )

  -- it is claimed, some of its parts are done, and the claim is given back
  pub key-stops : (old mid : CoreData F) (key : Key) (parts : List (Key × F)) (done : ℕ) (lowered : Bool) → WorksOff A B targets hand key parts done lowered old mid
      → (task : TaskData F) → parts ≡ owed B targets task → GoesOnByHand A B targets hand 1 0 0 old (with_held old hand (claimed_as key task 0 false))
      → claim_at mid.pile hand ≡ None → GoesOn A B targets hand old mid
  key-stops old mid key parts done lowered works task owes claimed free =
      goes-on A B targets old mid
      (goes-then A B targets old (with_held mid hand (claimed_as key task done lowered)) mid
      (goes-then A B targets old (with_held old hand (claimed_as key task 0 false)) (with_held mid hand (claimed_as key task done lowered)) claimed (works.goes task owes))
      (part-stops key task done lowered mid free))

-- where no hand has a claim, a pending key is claimed by hand 0 in one step
pub key-begins : {F L : Type 0} (A : LatticeAlgebra L) (B : EdgeAlgebra F L) (targets : Targets F) → CallsAreSteps A B targets
    → (core : CoreData F) (key : Key) (parts : List (Key × F)) → IsFree core.pile → is_pending core.pile key ≡ true → (owed : OwesParts B targets core key parts)
    → GoesOnByHand A B targets 0 1 0 0 core (with_held core 0 (claimed_as key owed.task 0 false))
key-begins A B targets steps core key parts free waits owed =
    steps.claim 0 core (with_held core 0 (claimed_as key owed.task 0 false)) owed.task (record { program = refl; graph = refl; roots = refl })
    (key-claimed A B targets 0 core key owed.task (free 0) waits (λ h held has. let no : None ≡ Some held = sym (free h) ∙ has in absurd (cc (no))) owed.of_key)
    owed.is_task

-- what a table lists over the graph of a program that is kept, the core owes that has both
pub owes-of : {P Q T E F L : Type 0} (B : EdgeAlgebra F L) (targets : Targets F) (r : Result T E) (loaded : Loaded P Q F) (core : CoreData F) (key : Key)
    (parts : List (Key × F)) → core.graph ≡ Some loaded.graph → IsProgramKept targets loaded.program loaded.graph loaded.sources
    → OnOk r (ListsParts B targets loaded core.table key parts) → OnOk r (OwesParts B targets core key parts)
owes-of B targets (Ok x) loaded core key parts graph kept lists = record {
  task = lists.task;
  of_key = lists.of_key;
  owes = lists.owes;
  is_task = λ g is exits present.
      let same : loaded.graph ≡ g = same_Some _ _ (sym graph ∙ is) in
      subst (λ h. IsTaskOf B targets h core.table lists.task) same (lists.is_task kept (subst AreExitsOwned (sym same) exits));
}
owes-of B targets (Err e) loaded core key parts graph kept lists = tt

-- what a call did to an entry
pub change-is : (change : Change) → (change ≡ Lowered) ⊎ (change ≡ Same)
change-is Lowered = inl refl
change-is Same = inr refl

-- a hand that works on nothing has no claim
pub none-works : {F : Type 0} (old new : Option (Held (TaskData F))) → old ≡ None → progress_of new ≡ progress_of old → new ≡ None
none-works old None none same = refl
none-works old (Some held) none same = absurd (cc (same ∙ ap progress_of none))

-- a key that is pending stays so, where another is lowered
pub still-pending : {F L : Type 0} (B : EdgeAlgebra F L) (targets : Targets F) (old new : CoreData F) (t key : Key) (g : F) → IsLoweredBy B targets old new t g
    → is_pending old.pile key ≡ true → is_pending new.pile key ≡ true
still-pending B targets old new t key g lowers waits =
    ap (λ s. s.pending key) lowers
    ∙ elim (same_key t key) as (λ b. cond b true (is_pending old.pile key) ≡ true) [ true ↦ refl | false ↦ waits ]

-- The part that a hand does, the end of its claim and its claim that is given back are acts of the store.
use Rattle.std.proofs.Common.{◌≡◌, ◌∙◌, ℕ, zero, suc, Bool, true, false, cond, List, [], ◌∷◌, ◌++◌, Option, Some, None, refl, ap, sym, subst, true≢false}
use Rattle.std.specs.Prelude.{drop, map, option_map, slice_get, unwrap_or}
use Rattle.std.specs.List.{list_any}
use Rattle.std.specs.Option.{is_some}
use Rattle.std.proofs.lemmas.Option.{same_Some}
use Rattle.ide_batch.specs.Applied.{IsGraphed, named_in}
use Rattle.ide_batch.specs.Fold.{ProgramImage, procedures}
use Rattle.ide_lattice.specs.Algebra.{EdgeAlgebra}
use Rattle.ide_problem.specs.Flow.{Targets}
use Rattle.ide_steps.proofs.States.{claim-of-work}
use Rattle.ide_image.specs.Notes.{noted}
use Rattle.ide_steps.specs.Changed.{Remembers, entry_then}
use Rattle.ide_steps.specs.Core.{CoreData, IsSameProblem}
use Rattle.ide_steps.specs.State.{claim_of}
use Rattle.ide_steps.specs.Steps.{EndsDone, GivesBack, IsKeyBelow, IsCurrent, LowersPart, SkipsPart}
use Rattle.ide_image.specs.Tables.{found}
use Rattle.ide_tasks.specs.Parts.{owed}
use Rattle.ide_tasks.specs.Task.{TaskData}
use Rattle.ide_tasks.specs.Work.{WorkData}
use Rattle.ide_theory.specs.Images.{IsSame, is_met, received}
use Rattle.ide_theory.specs.State.{Claim, State, finished, with_lowered, part_done, with_claim}
use Rattle.ide_wire.specs.Key.{same_key}
use Rattle.ide_wire.specs.declared.key.Key.{Key}
use Rattle.ide_image.specs.Worklist.{claim_at}
use Rattle.ide_image.specs.declared.claim.Claim.{Claim as Held}
use Rattle.ide_store.proofs.Reached.{Knows}
use Rattle.ide_store.proofs.Working.{part_is}
use Rattle.ide_store.specs.Hands.{Parts}
use Rattle.ide_store.specs.Machine.{ProgramStep}
use Rattle.ide_store.specs.Places.{Place}
use Rattle.ide_store.specs.Table.{Analysis, IsAct, KeepsRest, StoreWorld, TableData, WorksOn, table_state, told}
use Rattle.ide_store.specs.TableCalls.{DoesPart, EndsClaim, GivesClaimBack}
use Rattle.ide_store.specs.Tally.{Tally, state_with}
use Rattle.ide_store.specs.Versioned.{VersionedEntry, in_version}

-- what is left from a place on begins with what stands there
drop_at : {X : Type 0} (xs : List X) (i : ℕ) (x : X) → slice_get xs i ≡ Some x → drop i xs ≡ x ∷ drop (suc i) xs
drop_at [] i x at = let no : None ≡ Some x = at in cc
drop_at (y ∷ xs) zero x at = ap (λ z. z ∷ xs) (same_Some y x at)
drop_at (y ∷ xs) (suc i) x at = drop_at xs i x at

-- what is not none is some
pub some_of : {X : Type 0} (o : Option X) → (o ≡ None → ⊥) → (x : X) × (o ≡ Some x)
some_of None has = absurd (has refl)
some_of (Some x) has = (x, refl)

-- entries of then stay with the functions, the pending keys and the notes
pub then_stays : {F : Type 0} (old new : CoreData F) → new.table ≡ old.table → new.pile.pending ≡ old.pile.pending → new.changes ≡ old.changes
    → (key : Key) → entry_then new key ≡ entry_then old key
then_stays old new table pending changes key =
    λ i. unwrap_or (noted (changes i) key) (record { function = found (table i) key; pending = list_any (same_key key) (pending i) })

module _ {F L : Type 0} (functions : EdgeAlgebra F L) (same : F → F → Bool) (is_same : IsSame same) (s : State F) (key : Key) (g : F) where
  -- a part that lowers its key does, and one that was met changes nothing
  lowers : ¬ (IsKeyBelow functions s key g) → received procedures functions same s key g ≡ with_lowered functions s key g
  lowers falls = by (is_met procedures functions same s key g) refl
    where
      by : (b : Bool) → is_met procedures functions same s key g ≡ b → cond b s (with_lowered functions s key g) ≡ with_lowered functions s key g
      by true is = absurd (falls (is_same.exact _ _ is))
      by false is = refl

  stays : IsKeyBelow functions s key g → received procedures functions same s key g ≡ s
  stays met = by (is_met procedures functions same s key g) refl
    where
      by : (b : Bool) → is_met procedures functions same s key g ≡ b → cond b s (with_lowered functions s key g) ≡ s
      by true is = refl
      by false is = absurd (true≢false (sym (ap (same (functions.meet (unwrap_or (s.get key) functions.all_top) g)) (sym met) ∙ is_same.refl _) ∙ is))

-- the claim of a work's hand, whose next part is the work's
pub record HasNext {F L : Type 0} (functions : EdgeAlgebra F L) (targets : Targets F) (core : CoreData F) (hand : ℕ) (part : Key × F) : Type 0 where
  pub held : Held (TaskData F)
  pub is : claim_at core.pile hand ≡ Some held
  pub rest : List (Key × F)
  pub next : (claim_of functions targets held).parts ≡ part ∷ rest

has_next : {F L : Type 0} (functions : EdgeAlgebra F L) (targets : Targets F) (core : CoreData F) (hand : ℕ) (work : WorkData F) (part : Key × F)
    → IsCurrent functions targets core hand work → slice_get work.parts work.done ≡ Some part → HasNext functions targets core hand part
has_next {F = F} functions targets core hand work part own at =
    let of = claim-of-work work (claim_at core.pile hand) own.claim in
    record {
      held = of.0;
      is = of.1;
      rest = drop (suc work.done) (owed functions targets work.task);
      next =
          ap (λ task. drop of.0.done (owed functions targets task)) of.2
          ∙ ap (λ done. drop done (owed functions targets work.task)) of.3
          ∙ drop_at (owed functions targets work.task) work.done part (subst (λ (parts : List (Key × F)). slice_get parts work.done ≡ Some part) own.parts at);
    }

module _ {F L : Type 0} (a : Analysis F L) (place : Place) where
  -- the image and the claims of a world are those of the core that works on it
  pub state_is : (w : StoreWorld a place) (table : TableData F) {handed : List VersionedEntry} → WorksOn a place w table handed → state_with w.world.image w.claims ≡ table_state a table
  state_is w table on = λ i. record {
    get = λ key. on.image.get key i;
    pending = λ key. on.image.pending key i;
    claims = λ hand. on.claims hand i;
  }

  -- the half works on the world of its new state, where nothing is sealed and entries of then stay
  pub works_on : (w : StoreWorld a place) (old new : TableData F) (image : ProgramImage F) (claims : ℕ → Option (Claim F)) (history : List (ProgramStep F))
      (tally : Tally F) {handed : List VersionedEntry} → WorksOn a place w old handed → KeepsRest old new → IsSameProblem old.core new.core
      → image.program ≡ w.world.image.program → image.roots ≡ w.world.image.roots → state_with image claims ≡ table_state a new
      → ((key : Key) → entry_then new.core key ≡ entry_then old.core key)
      → WorksOn a place (record { world = record w.world { image = image; history = history }; claims = claims; tally = tally }) new handed
  works_on w old new image claims history tally {handed} on rest problem program roots state entries = record {
    running = on.running;
    working = rest.failed ∙ on.working;
    version = rest.version ∙ on.version;
    image = record {
      program = program ∙ on.image.program ∙ sym problem.program;
      graphed = subst (λ o. IsGraphed o new.core.graph) (sym problem.program) (subst (IsGraphed old.core.program) (sym problem.graph) on.image.graphed);
      roots =
          ap (map (named_in new.core.graph)) roots
          ∙ ap (λ graph. map (named_in graph) w.world.image.roots) problem.graph
          ∙ on.image.roots
          ∙ ap (map (λ root. Some root)) (sym problem.roots);
      get = λ key. ap (λ (s : State F). s.get key) state;
      pending = λ key. ap (λ (s : State F). s.pending key) state;
    };
    claims = λ hand. ap (λ (s : State F). s.claims hand) state;
    base = record {
      image = on.base.image;
      folded = on.base.folded;
      program = on.base.program ∙ sym program;
      roots = on.base.roots ∙ sym roots;
      entries = λ key. on.base.entries key ∙ ap told (sym (entries key));
    };
    sealed = on.sealed ∙ sym rest.sealed;
    waits = on.waits ∙ (λ i. handed ++ in_version (sym rest.version i) (sym rest.waiting i));
  }

module _ {F L : Type 0} (a : Analysis F L) where
  pub hands_finish : (hand : ℕ) (old new : TableData F) → is_some old.core.changes ≡ true → KeepsRest old new
      → IsSameProblem old.core new.core → Remembers old.core new.core
      → EndsDone a.functions a.targets hand old.core new.core → EndsClaim a hand old new
  hands_finish hand old new notes rest problem remembers (held, is, over, state) = record {
    held = held;
    is = is;
    act = λ place w handed reached on. (
      record { running = on.running; mine = on.claims hand ∙ ap (option_map (claim_of a.functions a.targets)) is; over = over },
      works_on a place w old new _ _ _ _ on rest problem refl refl
          (ap (λ (s : State F). finished s hand (claim_of a.functions a.targets held)) (state_is a place w old on) ∙ sym state) (remembers.entries notes),
    );
  }

  pub hands_release : (hand : ℕ) (old new : TableData F) → KeepsRest old new → IsSameProblem old.core new.core
      → new.core.table ≡ old.core.table → new.core.pile.pending ≡ old.core.pile.pending → new.core.changes ≡ old.core.changes
      → (claim_at old.core.pile hand ≡ None → ⊥) → GivesBack a.functions a.targets hand old.core new.core → GivesClaimBack a hand old new
  hands_release hand old new rest problem table pending changes some state place w handed reached on =
      let held = some_of (claim_at old.core.pile hand) some in (
        record {
          running = on.running;
          claim = claim_of a.functions a.targets held.0;
          mine = on.claims hand ∙ ap (option_map (claim_of a.functions a.targets)) held.1;
        },
        works_on a place w old new _ _ _ _ on rest problem refl refl
            (ap (λ (s : State F). with_claim s hand None) (state_is a place w old on) ∙ sym state) (then_stays old.core new.core table pending changes),
      )

  -- the next part of a hand's work, where the state is what the part leaves
  does_next : (hand : ℕ) (old new : TableData F) (work : WorkData F) (part : Key × F) → is_some old.core.changes ≡ true → KeepsRest old new
      → IsSameProblem old.core new.core → Remembers old.core new.core → IsCurrent a.functions a.targets old.core hand work
      → slice_get work.parts work.done ≡ Some part
      → table_state a new ≡ part_done (received procedures a.functions a.same (table_state a old) part.0 part.1) hand
      → IsAct a old new (λ place. Parts hand part.0 part.1)
  does_next hand old new work part notes rest problem remembers own at state place w handed reached on =
      let has = has_next a.functions a.targets old.core hand work part own at in (
        record {
          running = on.running;
          claim = claim_of a.functions a.targets has.held;
          rest = has.rest;
          mine = on.claims hand ∙ ap (option_map (claim_of a.functions a.targets)) has.is;
          next = has.next;
        },
        works_on a place w old new _ _ _ _ on rest problem refl refl
            (part_is procedures a.functions a.same w.world.image w.claims hand part.0 part.1
            ∙ ap (λ (s : State F). part_done (received procedures a.functions a.same s part.0 part.1) hand) (state_is a place w old on)
            ∙ sym state)
            (remembers.entries notes),
      )

  module _ (knows : Knows a) where
    pub hands_lower : (hand : ℕ) (old new : TableData F) (work after : WorkData F) → is_some old.core.changes ≡ true → KeepsRest old new
        → IsSameProblem old.core new.core → Remembers old.core new.core → IsCurrent a.functions a.targets old.core hand work
        → LowersPart a.functions a.targets hand old.core new.core work after → DoesPart a hand old new work after
    hands_lower hand old new work after notes rest problem remembers own is = record {
      part = is.part;
      next = is.next;
      counted = λ i. record { task = is.counted.task i; parts = is.counted.parts i; done = is.counted.done i };
      act = does_next hand old new work is.part notes rest problem remembers own is.next
          (is.state
          ∙ ap (λ (s : State F). part_done s hand) (sym (lowers a.functions a.same knows.is_same (table_state a old) is.part.0 is.part.1 is.changes.falls)));
    }

    pub hands_skip : (hand : ℕ) (old new : TableData F) (work after : WorkData F) → is_some old.core.changes ≡ true → KeepsRest old new
        → IsSameProblem old.core new.core → Remembers old.core new.core → IsCurrent a.functions a.targets old.core hand work
        → SkipsPart a.functions a.targets hand old.core new.core work after → DoesPart a hand old new work after
    hands_skip hand old new work after notes rest problem remembers own is = record {
      part = is.part;
      next = is.next;
      counted = λ i. record { task = is.counted.task i; parts = is.counted.parts i; done = is.counted.done i };
      act = does_next hand old new work is.part notes rest problem remembers own is.next
          (is.state
          ∙ ap (λ (s : State F). part_done s hand) (sym (stays a.functions a.same knows.is_same (table_state a old) is.part.0 is.part.1 is.met)));
    }

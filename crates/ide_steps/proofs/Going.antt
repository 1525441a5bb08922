-- What a core does to its state is steps of a tabulation.
use Rattle.std.proofs.Common.{◌≡◌, ◌≢◌, ℕ, zero, suc, ◌+◌, List, [], ◌∷◌, Option, Some, None, option_map, slice_get, drop, length, ap, sym, subst, ◌∙◌, refl, arith}
use Rattle.std.specs.List.{list_any}
use Rattle.std.proofs.lemmas.List.{drop_all}
use Rattle.std.proofs.lemmas.Option.{same_Some}
use Rattle.ide_graph.specs.Supergraph.{Supergraph}
use Rattle.ide_lattice.specs.Algebra.{LatticeAlgebra, EdgeAlgebra}
use Rattle.ide_problem.specs.Flow.{Targets}
use Rattle.ide_tasks.specs.Parts.{owed}
use Rattle.ide_tasks.specs.Task.{TaskData}
use Rattle.ide_tasks.specs.Work.{WorkData}
use Rattle.ide_theory.specs.Frame.{Frame}
use Rattle.ide_theory.specs.Graphs.{frame_at}
use Rattle.ide_theory.proofs.Laws.Ways.{joined-claims, joined-lowerings, joined-releases, joined-by}
use Rattle.ide_theory.specs.Run.{ArePartsOf, AreBy, IsBy, Run, goes_on, Step, Steps, claim, skip, lower, finish, release, none, more, steps_joined, claims_of, claims_in, lowerings_of, lowerings_in, releases_of, releases_in}
use Rattle.ide_theory.specs.Sites.{HaveEdgesOf}
use Rattle.ide_theory.specs.State.{Claim, State, finished, with_claim}
use Rattle.ide_image.specs.Tables.{found}
use Rattle.ide_wire.specs.Key.{same_key}
use Rattle.ide_image.specs.Worklist.{claim_at}
use Rattle.ide_image.specs.declared.claim.Claim.{Claim as Held}
use Rattle.ide_steps.specs.Core.{CoreData, IsSameProblem, IsUnchanged}
use Rattle.ide_steps.specs.Drain.{GoesOnPaid}
use Rattle.ide_steps.specs.Going.{GoesOn, GoesOnByHand, IsFit}
use Rattle.ide_steps.specs.State.{state_of, claim_of}
use Rattle.ide_steps.specs.Steps.{IsCurrent, IsLowered, IsOneMore, IsSkipped, IsTaken, progress_at}

-- what is left from a place on begins with what stands there
pub drop-at : {X : Type 0} (xs : List X) (i : ℕ) (x : X) → slice_get xs i ≡ Some x → drop i xs ≡ x ∷ drop (suc i) xs
drop-at [] i x at = let no : None ≡ Some x = at in cc
drop-at (y ∷ xs) zero x at = ap (λ z. z ∷ xs) (same_Some y x at)
drop-at (y ∷ xs) (suc i) x at = drop-at xs i x at

-- one step of the hand, which is so many claims, lowerings and releases
abbrev pub StepBy : (K : Frame) → (hand claims lowerings releases : ℕ) → State K.F → State K.F → Type 0
StepBy K hand claims lowerings releases s t =
    (step : Step K s t) × IsBy hand step × (claims_of step ≡ claims) × (lowerings_of step ≡ lowerings) × (releases_of step ≡ releases)

module _ {F L : Type 0} (A : LatticeAlgebra L) (B : EdgeAlgebra F L) (targets : Targets F) (graph : Supergraph) (all : HaveEdgesOf graph.facts graph.sites) where
  -- the claim of a hand that works on the task and has done so many parts
  record Holds (core : CoreData F) (hand : ℕ) (task : TaskData F) (done : ℕ) : Type 0 where
    pub held : Held (TaskData F)
    pub has : claim_at core.pile hand ≡ Some held
    pub task_is : held.task ≡ task
    pub done_is : held.done ≡ done

  holds : (core : CoreData F) (hand : ℕ) (task : TaskData F) (done : ℕ) (claimed : Option (Held (TaskData F))) → claim_at core.pile hand ≡ claimed
      → option_map {U = TaskData F × ℕ} (λ held. (held.task, held.done)) claimed ≡ Some (task, done) → Holds core hand task done
  holds core hand task done None is progress = let no : None ≡ Some (task, done) = progress in cc
  holds core hand task done (Some held) is progress =
      let pair : (held.task, held.done) ≡ (task, done) = same_Some _ _ progress in
      record { held = held; has = is; task_is = ap (λ p. p.0) pair; done_is = ap (λ p. p.1) pair }

  held_by : (core : CoreData F) (hand : ℕ) (task : TaskData F) (done : ℕ) → progress_at core.pile hand ≡ Some (task, done) → Holds core hand task done
  held_by core hand task done progress = holds core hand task done (claim_at core.pile hand) refl progress

  -- what it still owes
  claim_has : (core : CoreData F) (hand : ℕ) (task : TaskData F) (done : ℕ) (h : Holds core hand task done)
      → (state_of B targets core).claims hand ≡ Some (claim_of B targets h.held)
  claim_has core hand task done h = ap (option_map (claim_of B targets)) h.has

  parts_left : (core : CoreData F) (hand : ℕ) (task : TaskData F) (done : ℕ) (h : Holds core hand task done)
      → (claim_of B targets h.held).parts ≡ drop done (owed B targets task)
  parts_left core hand task done h = ap (λ t. drop h.held.done (owed B targets t)) h.task_is ∙ ap (λ n. drop n (owed B targets task)) h.done_is

  pub lowers : (old new : CoreData F) (hand : ℕ) (work after : WorkData F) (task : TaskData F) → progress_at old.pile hand ≡ Some (task, work.done)
      → work.parts ≡ owed B targets task → IsLowered B (state_of B targets old) (state_of B targets new) hand work after
      → StepBy (frame_at A B targets graph all) hand 0 1 0 (state_of B targets old) (state_of B targets new)
  lowers old new hand work after task progress parts is =
      let h = held_by old hand task work.done progress in
      let at : slice_get (owed B targets task) work.done ≡ Some is.part = subst (λ ps. slice_get ps work.done ≡ Some is.part) parts is.next in
      subst (StepBy (frame_at A B targets graph all) hand 0 1 0 (state_of B targets old)) (sym is.state) (
        lower hand (claim_of B targets h.held) is.part.0 is.part.1 (drop (suc work.done) (owed B targets task))
            (claim_has old hand task work.done h) (parts_left old hand task work.done h ∙ drop-at (owed B targets task) work.done is.part at) is.changes.falls,
        refl,
        refl,
        refl,
        refl,
      )

  pub skips : (old new : CoreData F) (hand : ℕ) (work after : WorkData F) (task : TaskData F) → progress_at old.pile hand ≡ Some (task, work.done)
      → work.parts ≡ owed B targets task → IsSkipped B (state_of B targets old) (state_of B targets new) hand work after
      → StepBy (frame_at A B targets graph all) hand 0 0 0 (state_of B targets old) (state_of B targets new)
  skips old new hand work after task progress parts is =
      let h = held_by old hand task work.done progress in
      let at : slice_get (owed B targets task) work.done ≡ Some is.part = subst (λ ps. slice_get ps work.done ≡ Some is.part) parts is.next in
      subst (StepBy (frame_at A B targets graph all) hand 0 0 0 (state_of B targets old)) (sym is.state) (
        skip hand (claim_of B targets h.held) is.part.0 is.part.1 (drop (suc work.done) (owed B targets task))
            (claim_has old hand task work.done h) (parts_left old hand task work.done h ∙ drop-at (owed B targets task) work.done is.part at) is.met,
        refl,
        refl,
        refl,
        refl,
      )

  pub finishes : (old new : CoreData F) (hand : ℕ) (work : WorkData F) (task : TaskData F) → progress_at old.pile hand ≡ Some (task, work.done)
      → work.parts ≡ owed B targets task → work.done ≡ length work.parts
      → ((held : Held (TaskData F)) → claim_at old.pile hand ≡ Some held → state_of B targets new ≡ finished (state_of B targets old) hand (claim_of B targets held))
      → StepBy (frame_at A B targets graph all) hand 0 0 0 (state_of B targets old) (state_of B targets new)
  finishes old new hand work task progress parts over state =
      let h = held_by old hand task work.done progress in
      let nothing : drop work.done (owed B targets task) ≡ [] = drop_all work.done (owed B targets task) (let same = ap length parts in omega (arith, over, same)) in
      subst (StepBy (frame_at A B targets graph all) hand 0 0 0 (state_of B targets old)) (sym (state h.held h.has))
      (finish hand (claim_of B targets h.held) (claim_has old hand task work.done h) (parts_left old hand task work.done h ∙ nothing), refl, refl, refl, refl)

  pub claims : (old new : CoreData F) (hand : ℕ) (task : TaskData F) → IsTaken B targets hand old new task
      → ArePartsOf (frame_at A B targets graph all) (state_of B targets old).get task.key (owed B targets task)
      → StepBy (frame_at A B targets graph all) hand 1 0 0 (state_of B targets old) (state_of B targets new)
  claims old new hand task is parts =
      subst (StepBy (frame_at A B targets graph all) hand 1 0 0 (state_of B targets old)) (sym is.state)
      (claim hand task.key (owed B targets task) (ap (option_map (claim_of B targets)) is.free) is.pending alone parts, refl, refl, refl, refl)
    where
      apart : (j : ℕ) (c : Claim F) (claimed : Option (Held (TaskData F))) → claim_at old.pile j ≡ claimed
          → option_map (claim_of B targets) claimed ≡ Some c → c.key ≢ task.key
      apart j c None same has = let no : None ≡ Some c = has in cc
      apart j c (Some held) same some = subst (λ d. d.key ≢ task.key) (same_Some _ _ some) (is.unclaimed j held same)

      alone : (j : ℕ) (c : Claim F) → (state_of B targets old).claims j ≡ Some c → c.key ≢ task.key
      alone j c has = apart j c (claim_at old.pile j) refl has

module _ {F L : Type 0} (A : LatticeAlgebra L) (B : EdgeAlgebra F L) (targets : Targets F) where
  pub run-goes : (K : Frame) {s t : State K.F} → Run K s → Steps K s t → Run K t
  run-goes K run none = run
  run-goes K run (more steps step) = goes_on (run-goes K run steps) step

  pub same-problem : {old mid new : CoreData F} → IsSameProblem old mid → IsSameProblem mid new → IsSameProblem old new
  same-problem first next = record { program = next.program ∙ first.program; graph = next.graph ∙ first.graph; roots = next.roots ∙ first.roots }

  -- nothing happens to the state
  pub goes-nowhere : (hand : ℕ) (old new : CoreData F) → IsSameProblem old new
      → state_of B targets new ≡ state_of B targets old → GoesOnByHand A B targets hand 0 0 0 old new
  goes-nowhere hand old new same state = record {
    same = same;
    steps = λ g is all fit run.
        subst (λ t. (way : Steps (frame_at A B targets g all) (state_of B targets old) t) × AreBy hand way × (claims_in way ≡ 0) × (lowerings_in way ≡ 0) × (releases_in way ≡ 0))
        (sym state) (none, tt, refl, refl, refl);
  }

  pub goes-step : (hand m k l : ℕ) (old new : CoreData F) → IsSameProblem old new
      → ((graph : Supergraph) → old.graph ≡ Some graph → (all : HaveEdgesOf graph.facts graph.sites) → IsFit graph
      → Run (frame_at A B targets graph all) (state_of B targets old)
      → StepBy (frame_at A B targets graph all) hand m k l (state_of B targets old) (state_of B targets new))
      → GoesOnByHand A B targets hand m k l old new
  goes-step hand m k l old new same step = record {
    same = same;
    steps = λ g is all fit run. let one = step g is all fit run in
        let claimed : 0 + claims_of one.0 ≡ m = omega (arith, one.2) in
        let lowered : 0 + lowerings_of one.0 ≡ k = omega (arith, one.3) in
        let released : 0 + releases_of one.0 ≡ l = omega (arith, one.4) in
        (more none one.0, (tt, one.1), claimed, lowered, released);
  }

  pub goes-then : {hand m n k l r q : ℕ} (old mid new : CoreData F) → GoesOnByHand A B targets hand m k r old mid → GoesOnByHand A B targets hand n l q mid new
      → GoesOnByHand A B targets hand (m + n) (k + l) (r + q) old new
  goes-then {hand = hand} old mid new first next = record {
    same = same-problem first.same next.same;
    steps = λ g is all fit run.
        let K = frame_at A B targets g all in
        let way = first.steps g is all fit run in
        let rest = next.steps g (first.same.graph ∙ is) all fit (run-goes K run way.0) in (
          steps_joined way.0 rest.0,
          joined-by hand way.0 rest.0 way.1 rest.1,
          joined-claims way.0 rest.0 ∙ (λ i. way.2 i + rest.2 i),
          joined-lowerings way.0 rest.0 ∙ (λ i. way.3 i + rest.3 i),
          joined-releases way.0 rest.0 ∙ (λ i. way.4 i + rest.4 i),
        );
  }

  -- claims, lowerings and releases need not be counted
  pub goes-on : {hand m k r : ℕ} (old new : CoreData F) → GoesOnByHand A B targets hand m k r old new → GoesOn A B targets hand old new
  goes-on {m = m} {k = k} {r = r} old new goes = record { claims = m; lowerings = k; releases = r; by = goes }

  pub goes-on-then : {hand : ℕ} (old mid new : CoreData F) → GoesOn A B targets hand old mid → GoesOn A B targets hand mid new → GoesOn A B targets hand old new
  goes-on-then old mid new first next = goes-on old new (goes-then old mid new first.by next.by)

  -- what happens to nothing is paid for, and so is what is done one after the other
  pub paid-same : (old new : CoreData F) → new ≡ old → GoesOnPaid A B targets 0 old new
  paid-same old new same = subst (GoesOnPaid A B targets 0 old) (sym same) (record {
    lowerings = 0;
    goes = goes-nowhere 0 old old (record { program = refl; graph = refl; roots = refl }) refl;
    paid = record { keys = omega arith; ranks = omega arith };
  })

  pub paid-then : {m n : ℕ} (old mid new : CoreData F) → GoesOnPaid A B targets m old mid → GoesOnPaid A B targets n mid new
      → GoesOnPaid A B targets (m + n) old new
  paid-then old mid new first next = record {
    lowerings = first.lowerings + next.lowerings;
    goes = goes-then old mid new first.goes next.goes;
    paid = record {
      keys = let before = first.paid.keys in let here = next.paid.keys in omega (arith, before, here);
      ranks = let before = first.paid.ranks in let here = next.paid.ranks in omega (arith, before, here);
    };
  }

  -- an image, pending keys and claims that are as they were are the same state
  pub state-unchanged : (old new : CoreData F) → IsUnchanged old new → state_of B targets new ≡ state_of B targets old
  state-unchanged old new is = λ i. record {
    get = found (is.table i);
    pending = λ key. list_any (same_key key) (is.pending i);
    claims = λ h. option_map (claim_of B targets) (is.claims h i);
  }

  -- a claim is a step, where its task owes what a claim of its key does
  pub goes-claim : (old new : CoreData F) (hand : ℕ) (task : TaskData F) → IsSameProblem old new → IsTaken B targets hand old new task
      → ((graph : Supergraph) → old.graph ≡ Some graph → (all : HaveEdgesOf graph.facts graph.sites) → IsFit graph
      → Run (frame_at A B targets graph all) (state_of B targets old)
      → ArePartsOf (frame_at A B targets graph all) (state_of B targets old).get task.key (owed B targets task))
      → GoesOnByHand A B targets hand 1 0 0 old new
  goes-claim old new hand task same taken owes =
      goes-step hand 1 0 0 old new same (λ g is all fit run. claims A B targets g all old new hand task taken (owes g is all fit run))

  -- a part is a step, which lowers a key or finds it met
  pub goes-lowered : (old new : CoreData F) (hand : ℕ) (work after : WorkData F) (task : TaskData F) → IsSameProblem old new
      → progress_at old.pile hand ≡ Some (task, work.done) → work.parts ≡ owed B targets task → IsLowered B (state_of B targets old) (state_of B targets new) hand work after
      → GoesOnByHand A B targets hand 0 1 0 old new
  goes-lowered old new hand work after task same progress parts is =
      goes-step hand 0 1 0 old new same (λ g at all fit run. lowers A B targets g all old new hand work after task progress parts is)

  pub goes-skipped : (old new : CoreData F) (hand : ℕ) (work after : WorkData F) (task : TaskData F) → IsSameProblem old new
      → progress_at old.pile hand ≡ Some (task, work.done) → work.parts ≡ owed B targets task → IsSkipped B (state_of B targets old) (state_of B targets new) hand work after
      → GoesOnByHand A B targets hand 0 0 0 old new
  goes-skipped old new hand work after task same progress parts is =
      goes-step hand 0 0 0 old new same (λ g at all fit run. skips A B targets g all old new hand work after task progress parts is)

  -- a claim that ends with no part left is a step
  pub goes-ended : (old new : CoreData F) (hand : ℕ) (held : Held (TaskData F)) → IsSameProblem old new → claim_at old.pile hand ≡ Some held
      → (claim_of B targets held).parts ≡ [] → state_of B targets new ≡ finished (state_of B targets old) hand (claim_of B targets held)
      → GoesOnByHand A B targets hand 0 0 0 old new
  goes-ended old new hand held same has over state =
      goes-step hand 0 0 0 old new same (λ g at all fit run. subst (StepBy (frame_at A B targets g all) hand 0 0 0 (state_of B targets old)) (sym state)
      (finish hand (claim_of B targets held) (ap (option_map (claim_of B targets)) has) over, refl, refl, refl, refl))

  -- the hand goes on working
  pub works-on : (new : CoreData F) (hand : ℕ) (old work : WorkData F) → IsOneMore old work → old.parts ≡ owed B targets old.task
      → progress_at new.pile hand ≡ Some (old.task, work.done) → IsCurrent B targets new hand work
  works-on new hand old work is parts progress = record {
    claim = progress ∙ ap (λ t. Some (t, work.done)) (sym is.task);
    parts = is.parts ∙ parts ∙ ap (owed B targets) (sym is.task);
  }

  -- a claim that is given back is a step
  pub goes-back : (old new : CoreData F) (hand : ℕ) (held : Held (TaskData F)) → IsSameProblem old new → claim_at old.pile hand ≡ Some held
      → state_of B targets new ≡ with_claim (state_of B targets old) hand None → GoesOnByHand A B targets hand 0 0 1 old new
  goes-back old new hand held same has state =
      goes-step hand 0 0 1 old new same (λ g is all fit run. subst (StepBy (frame_at A B targets g all) hand 0 0 1 (state_of B targets old)) (sym state)
      (release hand (claim_of B targets held) (ap (option_map (claim_of B targets)) has), refl, refl, refl, refl))

  pub goes-same : (hand : ℕ) (old new : CoreData F) → new ≡ old → GoesOnByHand A B targets hand 0 0 0 old new
  goes-same hand old new same =
      goes-nowhere hand old new (record { program = ap (λ c. c.program) same; graph = ap (λ c. c.graph) same; roots = ap (λ c. c.roots) same }) (ap (state_of B targets) same)

  -- nothing happens where tables and pile are as they were
  pub goes-still : (hand : ℕ) (old new : CoreData F) → IsSameProblem old new → new.table ≡ old.table → new.pile ≡ old.pile → GoesOn A B targets hand old new
  goes-still hand old new same table pile =
      goes-on old new (goes-nowhere hand old new same (λ i. record {
        get = found (table i);
        pending = λ key. list_any (same_key key) (pile i).pending;
        claims = λ h. option_map (claim_of B targets) (claim_at (pile i) h);
      }))

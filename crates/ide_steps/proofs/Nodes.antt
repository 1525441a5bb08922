-- That no key stands outside of the graph, whatever a call does.
use Rattle.std.proofs.Common.{◌≡◌, ◌<◌, ℕ, ap, sym, subst, ◌∙◌, refl, Bool, true, false, cond, ◌||◌, List, [], ◌∷◌, ◌++◌, get_or, Option, None, Some, IfSome}
use Rattle.std.specs.Prelude.{◌&&◌, Err, Ok, OnErr, Result, not, slice_get, nat_eq, option_map}
use Rattle.std.specs.List.{All, flat_map, list_any}
use Rattle.std.specs.Map.{keys_of}
use Rattle.std.proofs.lemmas.List.Elements.{All-append, All-head, All-map, All-nil, All-tail}
use Rattle.std.proofs.lemmas.Option.{get_or_from_slice_get, same_Some, slice_get_within}
use Rattle.ide_graph.specs.declared.site.Caller.{Caller}
use Rattle.ide_graph.specs.declared.site.Site.{Site}
use Rattle.ide_graph.specs.declared.site.Site.TheVariants.{Normal, Call, Exit}
use Rattle.ide_graph.specs.Edges.{EdgesWithin, IsCallerWithin}
use Rattle.ide_graph.specs.Supergraph.{Supergraph}
use Rattle.ide_lattice.specs.Algebra.{EdgeAlgebra}
use Rattle.ide_problem.specs.Flow.{Targets}
use Rattle.ide_tasks.specs.Parts.{after_parts, exit_parts, flat_parts, owed, parts_at, seed_parts}
use Rattle.ide_tasks.specs.Task.{TaskData}
use Rattle.ide_tasks.specs.Work.{WorkData}
use Rattle.ide_tasks.specs.declared.partners.Partners.{Partners}
use Rattle.ide_tasks.specs.declared.partners.Partners.TheVariants.{Entries, Callers}
use Rattle.ide_tasks.specs.declared.partners.Reaching.{Reaching}
use Rattle.ide_wire.specs.Key.{node_of, same_key, same_key_exact}
use Rattle.ide_wire.specs.declared.key.Key.{Key}
use Rattle.ide_wire.specs.declared.key.Key.TheVariants.{Jump, Summary}
use Rattle.ide_image.specs.Worklist.{Pile, claim_at, ends, is_pending, marked, put_hand, with_done}
use Rattle.ide_image.specs.declared.change.Change.{Change}
use Rattle.ide_image.specs.declared.change.Change.TheVariants.{Lowered, Same}
use Rattle.ide_image.specs.declared.claim.Claim.{Claim as Held}
use Rattle.ide_wire.specs.declared.refused.Refused.{Refused}
use Rattle.ide_steps.specs.Core.{AllStandIn, AreKeysKept, StandsIn}
use Rattle.ide_image.specs.KeyedImage.{KeyedImageData, marked_all}
use Rattle.ide_image.specs.Walk.{GoesTo}
use Rattle.ide_steps.specs.Steps.{progress_at}

-- what holds of each element of each list holds of each element of all of them
all-flat : {X Y : Type 0} (P : Y → Type 0) (f : X → List Y) (xs : List X) → All (λ x. All P (f x)) xs → All P (flat_map f xs)
all-flat P f [] all = All-nil P
all-flat P f (x ∷ xs) all =
    All-append P (f x) (flat_map f xs) (All-head (λ x. All P (f x)) x xs all) (all-flat P f xs (All-tail (λ x. All P (f x)) x xs all))

-- what holds of every value holds of each element
all-of : {X : Type 0} (P : X → Type 0) (xs : List X) → ((x : X) → P x) → All P xs
all-of P xs every = λ k d less. every (get_or xs k d)

-- and what holds of each element, of the one that is found
pub at-found : {X : Type 0} (P : X → Type 0) (xs : List X) (k : ℕ) (x : X) → All P xs → slice_get xs k ≡ Some x → P x
at-found P xs k x all is = subst P (get_or_from_slice_get xs k x x is) (all k x (slice_get_within xs k x is))

found-all : {X : Type 0} (P : X → Type 0) (xs : List X) (k : ℕ) → All P xs → IfSome (slice_get xs k) P
found-all {X} P xs k all =
    at (slice_get xs k) refl
  where
    at : (o : Option X) → slice_get xs k ≡ o → IfSome o P
    at None is = tt
    at (Some x) is = at-found P xs k x all is

module _ {F L : Type 0} (B : EdgeAlgebra F L) (targets : Targets F) (n : ℕ) where
  -- the entry's key stands at one of the first n nodes
  abbrev Within : Key × F → Type 0
  Within part = node_of part.0 < n

  exit-within : (to : ℕ) (f : F) (source : Reaching F) (o : Option Caller) → IfSome o (IsCallerWithin n) → All Within (exit_parts B targets to f source o)
  exit-within to f source None within = All-nil Within
  exit-within to f source (Some caller) within = All-map Within _ (targets caller.back to) (all-of _ _ (λ t. within.0))

  -- a task owes keys at nodes, where the edges of its site are within them
  pub parts-within : (key : Key) (f : F) (site : Site) (partners : Partners F) → EdgesWithin n site → All Within (parts_at B targets key f site partners)
  parts-within (Jump m from to) f (Normal edges) partners within =
      all-flat Within (flat_parts B targets from to f) edges (λ k d less. All-map Within _ (targets (get_or edges k d) to) (all-of _ _ (λ t. within k d less)))
  parts-within (Jump m from to) f (Call calls along) (Entries summaries) within =
      All-append Within (flat_map (seed_parts B targets to) calls ++ flat_parts B targets from to f along) (after_parts B targets along.end from f summaries)
      (All-append Within (flat_map (seed_parts B targets to) calls) (flat_parts B targets from to f along)
      (all-flat Within (seed_parts B targets to) calls (λ k d less. All-map Within _ (targets (get_or calls k d) to) (all-of _ _ (λ t. within.0 k d less))))
      (All-map Within _ (targets along to) (all-of _ _ (λ t. within.1))))
      (All-map Within _ summaries (all-of _ _ (λ s. within.1)))
  parts-within (Jump m from to) f (Call calls along) (Callers reaching) within = All-nil Within
  parts-within (Jump m from to) f (Exit start callers) (Callers reaching) within =
      all-flat Within (λ source. exit_parts B targets to f source (slice_get callers source.caller)) reaching
      (all-of _ _ (λ source. exit-within to f source (slice_get callers source.caller) (found-all (IsCallerWithin n) callers source.caller within.1)))
  parts-within (Jump m from to) f (Exit start callers) (Entries summaries) within = All-nil Within
  parts-within (Summary c from to) f (Normal edges) partners within = All-nil Within
  parts-within (Summary c from to) f (Call calls along) (Entries jumps) within = All-map Within _ jumps (all-of _ _ (λ j. within.1))
  parts-within (Summary c from to) f (Call calls along) (Callers reaching) within = All-nil Within
  parts-within (Summary c from to) f (Exit start callers) partners within = All-nil Within

-- what is known of a claim's task stays where its key is marked, its parts are counted, or a hand's claim is put
module _ {T : Type 0} (P : T → Type 0) where
  -- it is known of the task of the claim
  abbrev pub IsOf : Option (Held T) → Type 0
  IsOf claim = IfSome claim (λ held. P held.task)

  pub of-marked : (key : Key) (o : Option (Held T)) → IsOf o → IsOf (marked key o)
  of-marked key None is = tt
  of-marked key (Some held) is =
      elim (same_key held.key key) as (λ b. IsOf (cond b (Some (record held { lowered = true })) (Some held))) [ true ↦ is | false ↦ is ]

  pub of-marked-all : (keys : List Key) (o : Option (Held T)) → IsOf o → IsOf (marked_all keys o)
  of-marked-all keys None is = tt
  of-marked-all keys (Some held) is = is

  pub of-done : (count : ℕ) (o : Option (Held T)) → IsOf o → IsOf (with_done count o)
  of-done count None is = tt
  of-done count (Some held) is = is

  pub of-put : (claims : ℕ → Option (Held T)) (hand : ℕ) (o : Option (Held T)) → IsOf o → ((h : ℕ) → IsOf (claims h)) → (h : ℕ) → IsOf (put_hand claims hand o h)
  of-put claims hand o is all h = elim (nat_eq hand h) as (λ b. IsOf (cond b o (claims h))) [ true ↦ is | false ↦ all h ]

module _ {F L : Type 0} (B : EdgeAlgebra F L) (targets : Targets F) (graph : Supergraph) (old new : Pile (TaskData F)) (kept : AreKeysKept B targets graph old) where
  -- the parts of the task have keys at nodes
  abbrev pub OwesInside : TaskData F → Type 0
  OwesInside task = AllStandIn graph (owed B targets task)

  -- pending keys and claims are as they were
  pub kept-same : new.pending ≡ old.pending → new.claims ≡ old.claims → AreKeysKept B targets graph new
  kept-same pending claims = record {
    pending = λ key waits. kept.pending key (ap (list_any (same_key key)) (sym pending) ∙ waits);
    claims = λ h. subst (λ cs. IsOf OwesInside (get_or cs h None)) (sym claims) (kept.claims h);
  }

  -- pending keys are as they were, and each claim owes keys at nodes
  pub kept-claims : new.pending ≡ old.pending → ((h : ℕ) → IsOf OwesInside (claim_at new h)) → AreKeysKept B targets graph new
  kept-claims pending claims = record { pending = λ key waits. kept.pending key (ap (list_any (same_key key)) (sym pending) ∙ waits); claims = claims }

  pub kept-unchanged : new.pending ≡ old.pending → ((h : ℕ) → claim_at new h ≡ claim_at old h) → AreKeysKept B targets graph new
  kept-unchanged pending claims = kept-claims pending (λ h. subst (IsOf OwesInside) (sym (claims h)) (kept.claims h))

  -- one hand's claim is replaced by one that owes keys at nodes
  pub kept-put : (hand : ℕ) (o : Option (Held (TaskData F))) → new.pending ≡ old.pending → IsOf OwesInside o
      → ((h : ℕ) → claim_at new h ≡ put_hand (claim_at old) hand o h) → AreKeysKept B targets graph new
  kept-put hand o pending owes claims =
      kept-claims pending (λ h. subst (IsOf OwesInside) (sym (claims h)) (of-put OwesInside (claim_at old) hand o owes kept.claims h))

  -- the hand's claim has as many parts done, of the same task
  pub kept-done : (hand count : ℕ) → new.pending ≡ old.pending → ((h : ℕ) → claim_at new h ≡ put_hand (claim_at old) hand (with_done count (claim_at old hand)) h)
      → AreKeysKept B targets graph new
  kept-done hand count pending claims = kept-put hand (with_done count (claim_at old hand)) pending (of-done OwesInside count (claim_at old hand) (kept.claims hand)) claims

  -- no hand has a claim then
  pub kept-released : new.pending ≡ old.pending → new.claims ≡ [] → AreKeysKept B targets graph new
  kept-released pending claims = kept-claims pending (λ h. subst (λ cs. IsOf OwesInside (get_or cs h None)) (sym claims) tt)

  -- a key at a node is pushed
  pub kept-pushed : (key : Key) → StandsIn graph key → ((q : Key) → is_pending new q ≡ (same_key key q || is_pending old q))
      → ((h : ℕ) → claim_at new h ≡ marked key (claim_at old h)) → AreKeysKept B targets graph new
  kept-pushed key stands pending claims = record {
    pending = λ q waits. waited q (same_key key q) refl (sym (pending q) ∙ waits);
    claims = λ h. subst (IsOf OwesInside) (sym (claims h)) (of-marked OwesInside key (claim_at old h) (kept.claims h));
  }
    where
      waited : (q : Key) (b : Bool) → same_key key q ≡ b → (b || is_pending old q) ≡ true → StandsIn graph q
      waited q true same waits = subst (StandsIn graph) (same_key_exact key q same) stands
      waited q false other waits = kept.pending q waits

  -- a key at a node is lowered, or nothing changes
  pub kept-lowered : (key : Key) → StandsIn graph key → (r : Result Change Refused)
      → (r ≡ Ok Lowered → (q : Key) → is_pending new q ≡ (same_key key q || is_pending old q))
      → (r ≡ Ok Lowered → (h : ℕ) → claim_at new h ≡ marked key (claim_at old h))
      → (r ≡ Ok Same → new ≡ old) → OnErr r (new ≡ old) → AreKeysKept B targets graph new
  kept-lowered key stands (Ok Lowered) pending claims same err = kept-pushed key stands (pending refl) (claims refl)
  kept-lowered key stands (Ok Same) pending claims same err = subst (AreKeysKept B targets graph) (sym (same refl)) kept
  kept-lowered key stands (Err e) pending claims same err = subst (AreKeysKept B targets graph) (sym err) kept

  -- a claim ends, and its key may be pending no longer
  pub kept-finished : (hand : ℕ) (o : Option (Held (TaskData F))) → ((q : Key) → is_pending new q ≡ (not (ends o q) && is_pending old q))
      → ((h : ℕ) → claim_at new h ≡ put_hand (claim_at old) hand None h) → AreKeysKept B targets graph new
  kept-finished hand o pending claims = record {
    pending = λ q waits. waited q (not (ends o q)) (sym (pending q) ∙ waits);
    claims = λ h. subst (IsOf OwesInside) (sym (claims h)) (of-put OwesInside (claim_at old) hand None tt kept.claims h);
  }
    where
      waited : (q : Key) (b : Bool) → (b && is_pending old q) ≡ true → StandsIn graph q
      waited q true waits = kept.pending q waits
      waited q false waits = absurd (cc (waits))

  -- entries' keys at nodes are pushed
  pub kept-entered : (es : List (Key × F)) → AllStandIn graph es → ((q : Key) → is_pending new q ≡ (list_any (same_key q) (keys_of es) || is_pending old q))
      → ((h : ℕ) → claim_at new h ≡ marked_all (keys_of es) (claim_at old h)) → AreKeysKept B targets graph new
  kept-entered es stand pending claims = record {
    pending = λ q waits. waited q (list_any (same_key q) (keys_of es)) refl (sym (pending q) ∙ waits);
    claims = λ h. subst (IsOf OwesInside) (sym (claims h)) (of-marked-all OwesInside (keys_of es) (claim_at old h) (kept.claims h));
  }
    where
      among : (q : Key) (fs : List (Key × F)) → AllStandIn graph fs → list_any (same_key q) (keys_of fs) ≡ true → StandsIn graph q
      among q [] stand is = absurd (cc (is))
      among q (f ∷ fs) stand is =
          elim (same_key q f.0) as (λ b. same_key q f.0 ≡ b → (b || list_any (same_key q) (keys_of fs)) ≡ true → StandsIn graph q) [
            | true ↦ λ same _. subst (StandsIn graph) (sym (same_key_exact q f.0 same)) (All-head (λ (e : Key × F). StandsIn graph e.0) f fs stand)
            | false ↦ λ other rest. among q fs (All-tail (λ (e : Key × F). StandsIn graph e.0) f fs stand) rest
          ] refl is

      waited : (q : Key) (b : Bool) → list_any (same_key q) (keys_of es) ≡ b → (b || is_pending old q) ≡ true → StandsIn graph q
      waited q true is waits = among q es stand is
      waited q false is waits = kept.pending q waits

  -- a key at a node is set to be pending, or not to be
  pub kept-set : (key : Key) (waits : Bool) → StandsIn graph key → ((q : Key) → is_pending new q ≡ cond (same_key key q) waits (is_pending old q))
      → new.claims ≡ old.claims → AreKeysKept B targets graph new
  kept-set key set stands pending claims = record {
    pending = λ q waits. waited q (same_key key q) refl (sym (pending q) ∙ waits);
    claims = λ h. subst (λ cs. IsOf OwesInside (get_or cs h None)) (sym claims) (kept.claims h);
  }
    where
      waited : (q : Key) (b : Bool) → same_key key q ≡ b → cond b set (is_pending old q) ≡ true → StandsIn graph q
      waited q true same waits = subst (StandsIn graph) (same_key_exact key q same) stands
      waited q false other waits = kept.pending q waits

  -- one key at a node is pending in the place of another
  pub kept-moved : (first last : Key) → StandsIn graph last → GoesTo first last old new → new.claims ≡ old.claims → AreKeysKept B targets graph new
  kept-moved first last stands goes claims = record {
    pending = λ q waits. waited q (same_key last q) (not (same_key first q)) refl (sym (goes q) ∙ waits);
    claims = λ h. subst (λ cs. IsOf OwesInside (get_or cs h None)) (sym claims) (kept.claims h);
  }
    where
      waited : (q : Key) (b there : Bool) → same_key last q ≡ b → (b || (there && is_pending old q)) ≡ true → StandsIn graph q
      waited q true there same waits = subst (StandsIn graph) (same_key_exact last q same) stands
      waited q false true other waits = kept.pending q waits
      waited q false false other waits = absurd (cc (waits))

-- the image is as it was
pub kept-equal : {F L : Type 0} (B : EdgeAlgebra F L) (targets : Targets F) (graph : Supergraph) (old new : KeyedImageData F (TaskData F))
    → AreKeysKept B targets graph old.pile → new ≡ old → AreKeysKept B targets graph new.pile
kept-equal B targets graph old new kept same = subst (λ image. AreKeysKept B targets graph image.pile) (sym same) kept

-- with nothing pending or claimed, nothing stands outside
pub kept-nothing : {F L : Type 0} (B : EdgeAlgebra F L) (targets : Targets F) (graph : Supergraph) (pile : Pile (TaskData F)) → pile.pending ≡ [] → pile.claims ≡ []
    → AreKeysKept B targets graph pile
kept-nothing {F} B targets graph pile pending claims = record {
  pending = λ key waits. let no : false ≡ true = sym (ap (list_any (same_key key)) pending) ∙ waits in absurd (cc (no));
  claims = λ h. subst (λ cs. IsOf {T = TaskData F} (λ task. AllStandIn graph (owed B targets task)) (get_or cs h None)) (sym claims) tt;
}

-- the parts of work that is the hand's claim have keys at nodes
pub work-inside : {F L : Type 0} (B : EdgeAlgebra F L) (targets : Targets F) (graph : Supergraph) (pile : Pile (TaskData F)) (hand : ℕ) (work : WorkData F) (task : TaskData F)
    → AreKeysKept B targets graph pile → progress_at pile hand ≡ Some (task, work.done) → work.parts ≡ owed B targets task → AllStandIn graph work.parts
work-inside {F} B targets graph pile hand work task kept progress parts =
    subst (AllStandIn graph) (sym parts) (of-claim (claim_at pile hand) progress (kept.claims hand))
  where
    of-claim : (o : Option (Held (TaskData F))) → option_map {U = TaskData F × ℕ} (λ held. (held.task, held.done)) o ≡ Some (task, work.done)
        → IsOf (λ (t : TaskData F). AllStandIn graph (owed B targets t)) o → AllStandIn graph (owed B targets task)
    of-claim None is owes = absurd (cc (is))
    of-claim (Some held) is owes =
        let pair : (held.task, held.done) ≡ (task, work.done) = same_Some _ _ is in
        subst (λ t. AllStandIn graph (owed B targets t)) (ap (λ p. p.0) pair) owes

-- what is kept of a loaded value holds of its graph
pub of-loaded : {A X : Type 0} {P : X → Type 0} (v : A → X) (o : Option A) → ((x : X) → option_map v o ≡ Some x → P x)
    → (f : X → Supergraph) (Q : Supergraph → Type 0) → ((x : X) → P x → Q (f x)) → (graph : Supergraph) → option_map (λ a. f (v a)) o ≡ Some graph → Q graph
of-loaded v None known f Q gives graph is = absurd (cc (is))
of-loaded v (Some a) known f Q gives graph is = subst Q (same_Some _ _ is) (gives (v a) (known (v a) refl))

-- a value that is reached in two steps
pub through : {A X Y : Type 0} (v : A → X) (o : Option A) (x : X) → option_map v o ≡ Some x → (f : X → Y) → option_map (λ a. f (v a)) o ≡ Some (f x)
through v None x is f = absurd (cc (is))
through v (Some a) x is f = ap (λ y. Some (f y)) (same_Some (v a) x is)

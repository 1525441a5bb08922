-- Each call of a core as what it does to the state: table by table, place by place.
use Rattle.std.proofs.Common.{◌≡◌, ◌<◌, ◌≤◌, ℕ, zero, suc, refl, sym, ap, subst, ◌∙◌, arith, ◌⊎◌, inl, inr, List, [], ◌∷◌, drop, Option, None, Some, Bool, true, false, cond, get_or, ◌||◌}
use Rattle.std.proofs.lemmas.Bool.{eqb-true}
use Rattle.std.proofs.lemmas.Option.{same_Some}
use Rattle.std.specs.Map.{lookup}
use Rattle.std.specs.Prelude.{Result, Ok, Err, IfErr, OnErr, OnOk, ◌&&◌, not, nat_eq, option_map, unwrap_or}
use Rattle.std.specs.List.{list_any}
use Rattle.ide_graph.specs.Supergraph.{Supergraph}
use Rattle.ide_lattice.specs.Algebra.{EdgeAlgebra}
use Rattle.ide_problem.specs.Flow.{Targets}
use Rattle.ide_image.specs.Tables.{Table, Falls, Lowers, found, function_at, or_top, lowered_by as lowered_in}
use Rattle.ide_tasks.specs.Parts.{owed}
use Rattle.ide_tasks.specs.Task.{TaskData}
use Rattle.ide_tasks.specs.Work.{WorkData}
use Rattle.ide_theory.proofs.Laws.Targets.{nat_eq-refl}
use Rattle.ide_theory.specs.State.{State, nothing_done, put, rest_of, without_first, claim_marked, with_claim, part_done, with_lowered, finished}
use Rattle.ide_wire.specs.declared.key.Key.{Key}
use Rattle.ide_wire.specs.Key.{same_key, same_key_exact}
use Rattle.ide_image.specs.Worklist.{Pile, IsWorklist, is_pending, claim_at, put_hand, with_done, ends, ends_key, marked as marked_claim}
use Rattle.ide_image.specs.declared.claim.Claim.{Claim as Held}
use Rattle.ide_image.specs.declared.entry.Entry.{Entry}
use Rattle.ide_steps.specs.Core.{CoreData, IsOfProgram, IsUnchanged, of_program}
use Rattle.ide_steps.specs.declared.part.Parted.{Parted}
use Rattle.ide_steps.specs.declared.part.Parted.TheVariants as part
use Rattle.ide_steps.specs.Room.{IsGraphSaid}
use Rattle.ide_steps.specs.State.{claim_of, state_of}
use Rattle.ide_text.specs.Value.{ProgramValue}
use Rattle.ide_steps.specs.Steps.{Changes, IsClaimOfWork, KeepTasks, progress_at}

pub or-cond : (a b : Bool) → (a || b) ≡ cond a true b
or-cond true b = refl
or-cond false b = refl

pub drop-more : {X : Type 0} (n : ℕ) (xs : List X) → drop (suc n) xs ≡ rest_of (drop n xs)
drop-more zero [] = refl
drop-more zero (x ∷ xs) = refl
drop-more (suc n) [] = refl
drop-more (suc n) (x ∷ xs) = drop-more n xs

module _ {F L : Type 0} (B : EdgeAlgebra F L) (targets : Targets F) where
  pub or_top-unwrap : (o : Option F) → or_top B o ≡ unwrap_or o B.all_top
  or_top-unwrap None = refl
  or_top-unwrap (Some f) = refl

  pub claim-marked : (key : Key) (o : Option (Held (TaskData F)))
      → option_map (claim_of B targets) (marked_claim key o) ≡ option_map (claim_marked key) (option_map (claim_of B targets) o)
  claim-marked key None = refl
  claim-marked key (Some c) =
      elim (same_key c.key key) as (λ b. option_map (claim_of B targets) (cond b (Some (record c { lowered = true })) (Some c))
      ≡ Some (record (claim_of B targets c) { lowered = b || c.lowered })) [ true ↦ refl | false ↦ refl ]

  -- the state that tables with these pending keys and claims are
  abbrev pub state-at : Table F → Pile (TaskData F) → State F
  state-at table pile = record { get = found table; pending = is_pending pile; claims = λ h. option_map (claim_of B targets) (claim_at pile h) }

  -- a lowered table with its key pushed
  pub state-lowered : (table new_table : Table F) (pile new_pile : Pile (TaskData F)) (key : Key) (g : F) → Lowers B table new_table key g
      → ((q : Key) → is_pending new_pile q ≡ (same_key key q || is_pending pile q))
      → ((h : ℕ) → claim_at new_pile h ≡ marked_claim key (claim_at pile h))
      → state-at new_table new_pile ≡ with_lowered B (state-at table pile) key g
  state-lowered table new_table pile new_pile key g lowers pending claims =
      let gets : (q : Key) → found new_table q ≡ put same_key (found table) key (Some (B.meet (unwrap_or (found table key) B.all_top) g)) q =
      λ q. lowers.entries q ∙ ap (λ f. cond (same_key key q) (Some (B.meet f g)) (found table q)) (or_top-unwrap (found table key)) in
      let waits : (q : Key) → is_pending new_pile q ≡ put same_key (is_pending pile) key true q =
      λ q. pending q ∙ or-cond (same_key key q) (is_pending pile q) in
      let hands : (h : ℕ) → option_map (claim_of B targets) (claim_at new_pile h) ≡ option_map (claim_marked key) (option_map (claim_of B targets) (claim_at pile h)) =
      λ h. ap (option_map (claim_of B targets)) (claims h) ∙ claim-marked key (claim_at pile h) in
      λ i. record { get = λ q. gets q i; pending = λ q. waits q i; claims = λ h. hands h i }

  -- a function that falls is not the one before, and not always top
  pub changes-of : B.rank B.all_top ≡ B.height → (table : Table F) (pile : Pile (TaskData F)) (key : Key) (g : F)
      → Falls B (function_at B table key) (lowered_in B table key g) → Changes B (state-at table pile) key g
  changes-of top table pile key g falls =
      let old : function_at B table key ≡ unwrap_or (found table key) B.all_top = or_top-unwrap (found table key) in
      let less : B.rank (B.meet (unwrap_or (found table key) B.all_top) g) < B.rank (unwrap_or (found table key) B.all_top) =
      subst (λ f. B.rank (B.meet f g) < B.rank f) old falls.less in
      let most : B.rank (unwrap_or (found table key) B.all_top) ≤ B.height = subst (λ f. B.rank f ≤ B.height) old falls.most in
      record {
        falls = λ same. let rank = ap B.rank same in omega (arith, less, rank);
        present = λ same. let rank = ap B.rank same in omega (arith, less, most, rank, top);
      }

  -- empty tables with nothing pending or claimed
  pub state-nothing : (table : Table F) (pile : Pile (TaskData F)) → table.entries ≡ [] → pile.pending ≡ [] → pile.claims ≡ []
      → state-at table pile ≡ nothing_done F
  state-nothing table pile entries pending claims =
      λ i. record {
        get = λ q. lookup (same_key q) (entries i);
        pending = λ q. list_any (same_key q) (pending i);
        claims = λ h. option_map (claim_of B targets) (get_or (claims i) h None);
      }

  -- cores of the same tables, pending keys and claims have one state
  pub same-state : (old new : CoreData F) → new.table ≡ old.table → new.pile.pending ≡ old.pile.pending → new.pile.claims ≡ old.pile.claims
      → state_of B targets new ≡ state_of B targets old
  same-state old new table pending claims =
      λ i. record {
        get = found (table i);
        pending = λ q. list_any (same_key q) (pending i);
        claims = λ h. option_map (claim_of B targets) (get_or (claims i) h None);
      }

  pub map-cond : {X Y : Type 0} (f : X → Y) (b : Bool) (x y : Option X)
      → option_map f (cond b x y) ≡ cond b (option_map f x) (option_map f y)
  map-cond f true x y = refl
  map-cond f false x y = refl

  -- the count of a progress
  abbrev pub count-of : Option (TaskData F × ℕ) → ℕ
  count-of None = 0
  count-of (Some at) = at.1

  pub claim-counted : (o : Option (Held (TaskData F))) (task : TaskData F) (n count : ℕ)
      → option_map {U = TaskData F × ℕ} (λ held. (held.task, held.done)) o ≡ Some (task, n) → count ≡ suc n
      → option_map (claim_of B targets) (with_done count o) ≡ option_map without_first (option_map (claim_of B targets) o)
  claim-counted None task n count is one = absurd (cc)
  claim-counted (Some c) task n count is one =
      let done : c.done ≡ n = ap count-of is in
      ap (λ k. Some (record { key = c.key; parts = drop k (owed B targets c.task); lowered = c.lowered })) (one ∙ ap suc (sym done))
      ∙ ap (λ parts. Some (record { key = c.key; parts = parts; lowered = c.lowered })) (drop-more c.done (owed B targets c.task))

  -- one part more of the hand's claim is done
  pub state-counted : (table new_table : Table F) (pile new_pile : Pile (TaskData F)) (hand : ℕ) (task : TaskData F) (n count : ℕ)
      → option_map {U = TaskData F × ℕ} (λ held. (held.task, held.done)) (claim_at pile hand) ≡ Some (task, n) → count ≡ suc n
      → new_table ≡ table → new_pile.pending ≡ pile.pending
      → ((h : ℕ) → claim_at new_pile h ≡ put_hand (claim_at pile) hand (with_done count (claim_at pile hand)) h)
      → state-at new_table new_pile ≡ part_done (state-at table pile) hand
  state-counted table new_table pile new_pile hand task n count is one same pending claims =
      let hands : (h : ℕ) → option_map (claim_of B targets) (claim_at new_pile h)
      ≡ put nat_eq (λ j. option_map (claim_of B targets) (claim_at pile j)) hand (option_map without_first (option_map (claim_of B targets) (claim_at pile hand))) h =
      λ h.
      ap (option_map (claim_of B targets)) (claims h)
      ∙ map-cond (claim_of B targets) (nat_eq hand h) (with_done count (claim_at pile hand)) (claim_at pile h)
      ∙ ap (λ o. cond (nat_eq hand h) o (option_map (claim_of B targets) (claim_at pile h))) (claim-counted (claim_at pile hand) task n count is one) in
      λ i. record { get = found (same i); pending = λ q. list_any (same_key q) (pending i); claims = λ h. hands h i }

  -- the hand's claim is replaced
  pub state-claimed : (table new_table : Table F) (pile new_pile : Pile (TaskData F)) (hand : ℕ) (o : Option (Held (TaskData F)))
      → new_table ≡ table → new_pile.pending ≡ pile.pending
      → ((h : ℕ) → claim_at new_pile h ≡ put_hand (claim_at pile) hand o h)
      → state-at new_table new_pile ≡ with_claim (state-at table pile) hand (option_map (claim_of B targets) o)
  state-claimed table new_table pile new_pile hand o same pending claims =
      let hands : (h : ℕ) → option_map (claim_of B targets) (claim_at new_pile h)
      ≡ put nat_eq (λ j. option_map (claim_of B targets) (claim_at pile j)) hand (option_map (claim_of B targets) o) h =
      λ h. ap (option_map (claim_of B targets)) (claims h) ∙ map-cond (claim_of B targets) (nat_eq hand h) o (claim_at pile h) in
      λ i. record { get = found (same i); pending = λ q. list_any (same_key q) (pending i); claims = λ h. hands h i }

  pub ends-cond : (lowered same pending : Bool) → (same ≡ true → pending ≡ true)
      → (not (not lowered && same) && pending) ≡ cond same lowered pending
  ends-cond true true pending is = is refl
  ends-cond true false pending is = refl
  ends-cond false true pending is = refl
  ends-cond false false pending is = refl

  -- the hand's claim is over
  pub state-finished : (table new_table : Table F) (pile new_pile : Pile (TaskData F)) (hand : ℕ) (held : Held (TaskData F)) → IsWorklist pile
      → claim_at pile hand ≡ Some held → new_table ≡ table
      → ((q : Key) → is_pending new_pile q ≡ (not (ends (claim_at pile hand) q) && is_pending pile q))
      → ((h : ℕ) → claim_at new_pile h ≡ put_hand (claim_at pile) hand None h)
      → state-at new_table new_pile ≡ finished (state-at table pile) hand (claim_of B targets held)
  state-finished table new_table pile new_pile hand held list is same pending claims =
      let hands : (h : ℕ) → option_map (claim_of B targets) (claim_at new_pile h)
      ≡ put nat_eq (λ j. option_map (claim_of B targets) (claim_at pile j)) hand None h =
      λ h. ap (option_map (claim_of B targets)) (claims h) ∙ map-cond (claim_of B targets) (nat_eq hand h) None (claim_at pile h) in
      let waits : (q : Key) → is_pending new_pile q ≡ put same_key (is_pending pile) held.key held.lowered q =
      λ q.
      pending q ∙ ap (λ o. not (ends o q) && is_pending pile q) is
      ∙ ends-cond held.lowered (same_key held.key q) (is_pending pile q)
      (λ same. ap (is_pending pile) (sym (same_key_exact held.key q same)) ∙ list.held hand held is) in
      λ i. record { get = found (same i); pending = λ q. waits q i; claims = λ h. hands h i }

-- the claim that is of the work
pub claim-of-work : {F : Type 0} (work : WorkData F) (o : Option (Held (TaskData F))) → IsClaimOfWork work o
    → (held : Held (TaskData F)) × (o ≡ Some held) × (held.task ≡ work.task) × (held.done ≡ work.done)
claim-of-work work None is = let no : None ≡ Some (work.task, work.done) = is in absurd (cc)
claim-of-work work (Some held) is =
    let both : (held.task, held.done) ≡ (work.task, work.done) = same_Some _ _ is in
    (held, refl, ap (λ p. p.0) both, ap (λ p. p.1) both)

-- of a refusal that `?` hands on
pub handed-on : {T E : Type 0} (P : E → Type 0) (result : Result T E) (given handed : E) → result ≡ Err handed → handed ≡ given → P given → IfErr result P
handed-on P result given handed is same h = subst (λ r. IfErr r P) (sym is) (subst P (sym same) h)

-- what holds in any case holds at Ok
pub at-ok : {T E P : Type 0} (r : Result T E) → P → OnOk r P
at-ok (Ok x) p = p
at-ok (Err e) p = tt

-- what holds after each answer of a part holds at Ok
pub after-part : {E P : Type 0} (r : Result Parted E) → ((r ≡ Ok part.Lowered) ⊎ (r ≡ Ok part.Same) → P) → (r ≡ Ok part.NoPart → P) → OnOk r P
after-part (Ok part.Lowered) done none = done (inl refl)
after-part (Ok part.Same) done none = done (inr refl)
after-part (Ok part.NoPart) done none = none refl
after-part (Err e) done none = tt

module _ {F : Type 0} where
  -- nothing changed where the claims stand as they were
  pub unchanged-err : {T E : Type 0} (r : Result T E) (inside old : CoreData F) (table : Table F) (pile : Pile (TaskData F))
      (changes : Option (List (Key × Entry F))) → inside ≡ old → table ≡ inside.table
      → pile.pending ≡ inside.pile.pending → ((h : ℕ) → claim_at pile h ≡ claim_at inside.pile h) → changes ≡ inside.changes
      → OnErr r (IsUnchanged old (record inside { table = table; pile = pile; changes = changes }))
  unchanged-err (Ok x) inside old table pile changes same tables pending claims noted = tt
  unchanged-err (Err e) inside old table pile changes same tables pending claims noted = record {
    program = ap (λ (c : CoreData F). c.program) same;
    graph = ap (λ (c : CoreData F). c.graph) same;
    roots = ap (λ (c : CoreData F). c.roots) same;
    table = tables ∙ ap (λ (c : CoreData F). c.table) same;
    pending = pending ∙ ap (λ (c : CoreData F). c.pile.pending) same;
    claims = λ h. claims h ∙ ap (λ (c : CoreData F). claim_at c.pile h) same;
    changes = noted ∙ ap (λ (c : CoreData F). c.changes) same;
  }

  module _ (pile new_pile : Pile (TaskData F)) (hand : ℕ) (held : Held (TaskData F))
      (claims : (h : ℕ) → claim_at new_pile h ≡ put_hand (claim_at pile) hand (Some held) h) where
    -- a claim that is put for a hand is the hand's
    pub taken-there : claim_at new_pile hand ≡ Some held
    taken-there = claims hand ∙ ap (λ b. cond b (Some held) (claim_at pile hand)) (nat_eq-refl hand)

    pub taken-ends : ends_key (claim_at new_pile hand) ≡ not held.lowered
    taken-ends = ap ends_key taken-there

    pub taken-progress : progress_at new_pile hand ≡ Some (held.task, held.done)
    taken-progress = ap (option_map {U = TaskData F × ℕ} (λ held. (held.task, held.done))) taken-there

  -- what a claim works on and how much of it is done
  abbrev progress-of : Option (Held (TaskData F)) → Option (TaskData F × ℕ)
  progress-of = option_map {U = TaskData F × ℕ} (λ held. (held.task, held.done))

  -- it with that count
  abbrev counted : ℕ → Option (TaskData F × ℕ) → Option (TaskData F × ℕ)
  counted done = option_map {U = TaskData F × ℕ} (λ at. (at.0, done))

  progress-counted : (done : ℕ) (o : Option (Held (TaskData F))) → progress-of (with_done done o) ≡ counted done (progress-of o)
  progress-counted done None = refl
  progress-counted done (Some held) = refl

  recounted : (first last : ℕ) (o : Option (TaskData F × ℕ)) → counted last (counted first o) ≡ counted last o
  recounted first last None = refl
  recounted first last (Some at) = refl

  -- tasks stay where progress stays, and then one hand's count is set
  pub tasks-counted : (hand done : ℕ) (old mid new : Pile (TaskData F)) → ((h : ℕ) → progress_at mid h ≡ progress_at old h)
      → ((h : ℕ) → claim_at new h ≡ put_hand (claim_at mid) hand (with_done done (claim_at mid hand)) h)
      → KeepTasks hand done old new
  tasks-counted hand done old mid new before claims h =
      elim (nat_eq hand h) as (λ b. nat_eq hand h ≡ b → progress_at new h ≡ cond b (counted done (progress_at old h)) (progress_at old h)) [
        | true ↦ λ same.
            ap progress-of (claims h) ∙ ap (λ b. progress-of (cond b (with_done done (claim_at mid hand)) (claim_at mid h))) same
            ∙ progress-counted done (claim_at mid hand) ∙ ap (counted done) (before hand)
            ∙ ap (λ j. counted done (progress_at old j)) (eqb-true hand h same)
        | false ↦ λ other. ap progress-of (claims h) ∙ ap (λ b. progress-of (cond b (with_done done (claim_at mid hand)) (claim_at mid h))) other ∙ before h
      ] refl

  -- tasks stay where nothing happened
  pub tasks-here : (hand done : ℕ) (task : TaskData F) (pile : Pile (TaskData F)) → progress_at pile hand ≡ Some (task, done) → KeepTasks hand done pile pile
  tasks-here hand done task pile is h =
      elim (nat_eq hand h) as (λ b. nat_eq hand h ≡ b → progress_at pile h ≡ cond b (counted done (progress_at pile h)) (progress_at pile h)) [
        | true ↦ λ same.
            let here : progress_at pile h ≡ Some (task, done) = ap (progress_at pile) (sym (eqb-true hand h same)) ∙ is in
            here ∙ sym (ap (counted done) here)
        | false ↦ λ other. refl
      ] refl

  pub tasks-then : (hand first last : ℕ) (old mid new : Pile (TaskData F)) → KeepTasks hand first old mid → KeepTasks hand last mid new → KeepTasks hand last old new
  tasks-then hand first last old mid new before next h =
      next h
      ∙ elim (nat_eq hand h) as (λ b. progress_at mid h ≡ cond b (counted first (progress_at old h)) (progress_at old h)
      → cond b (counted last (progress_at mid h)) (progress_at mid h) ≡ cond b (counted last (progress_at old h)) (progress_at old h)) [
        | true ↦ λ is. ap (counted last) is ∙ recounted first last (progress_at old h)
        | false ↦ λ is. is
      ] (before h)

  pub tasks-unchanged : (hand done : ℕ) (old mid new : Pile (TaskData F)) → KeepTasks hand done old mid → ((h : ℕ) → claim_at new h ≡ claim_at mid h) → KeepTasks hand done old new
  tasks-unchanged hand done old mid new before same h = ap progress-of (same h) ∙ before h

-- a graph of a program that says so, with that program
pub said-by : (value : ProgramValue) (graph : Supergraph) → IsOfProgram value graph → IsGraphSaid (Some value) graph
said-by value graph (of_program p says graphed edges) = record { program = p; says = ap (λ v. Some v) says; graphed = graphed; edges = edges }

-- the graph of what is loaded is that of a program that says so, if each has such a graph
pub said-of : {X : Type 0} (value : X → ProgramValue) (graph : X → Supergraph) (loaded : Option X)
    → ((x : X) → loaded ≡ Some x → IsGraphSaid (Some (value x)) (graph x))
    → (g : Supergraph) → option_map graph loaded ≡ Some g → IsGraphSaid (option_map value loaded) g
said-of value graph None kept g is = absurd (cc (is))
said-of value graph (Some x) kept g is = subst (IsGraphSaid (Some (value x))) (same_Some _ _ is) (kept x refl)

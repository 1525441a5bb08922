-- Entries of a procedure's start that became the identity in turn are steps, and are below it then.
use Rattle.std.proofs.Common.{◌≡◌, ℕ, zero, suc, ◌<◌, ◌≤◌, refl, sym, ap, ◌∙◌, subst, arith, List, [], ◌∷◌, ◌++◌, Option, Some, None, true, false, cond}
use Rattle.std.proofs.lemmas.Bool.Decides.{nat_tests}
use Rattle.std.specs.Option.{is_some}
use Rattle.std.specs.Prelude.{nat_eq, slice_index, option_map}
use Rattle.ide_graph.specs.Joined.{start_at}
use Rattle.ide_graph.specs.Supergraph.{Supergraph}
use Rattle.ide_lattice.specs.Algebra.{LatticeAlgebra, EdgeAlgebra}
use Rattle.ide_problem.specs.Flow.{Targets}
use Rattle.ide_tasks.specs.Task.{TaskData}
use Rattle.ide_theory.specs.Given.{IsGraph}
use Rattle.ide_theory.specs.Graphs.{frame_at}
use Rattle.ide_theory.specs.Sites.{edges_of}
use Rattle.ide_theory.specs.Theorem.{SitesMakeAGraph, StartsAreSeeded, RunsGoOn}
use Rattle.ide_theory.specs.Frame.{Frame}
use Rattle.ide_theory.specs.Image.{IsMet}
use Rattle.ide_theory.specs.Run.{Run, Steps, none, more, root}
use Rattle.ide_theory.specs.State.{State, seeded_at}
use Rattle.ide_wire.specs.declared.key.Key.TheVariants.{Jump}
use Rattle.ide_wire.specs.Key.{same_key, same_key_refl}
use Rattle.ide_image.specs.Worklist.{Pile, claim_at}
use Rattle.ide_image.specs.declared.claim.Claim.{Claim as Held}
use Rattle.ide_steps.specs.Core.{CoreData}
use Rattle.ide_steps.specs.Refusal.{IsRootName}
use Rattle.ide_steps.specs.State.{state_of}
use Rattle.ide_theory.specs.Images.{seeded_below}
use Rattle.ide_steps.specs.Rooted.{IsBegun}
use Rattle.ide_steps.specs.Steps.{progress_at}

-- jumps to different facts are different keys
pub jumps-apart : (r n d : ℕ) → d < n → same_key (Jump r n n) (Jump r d d) ≡ false
jumps-apart r n d less = grind (arith, nat_tests)

pub same_numbers : (d n : ℕ) → nat_eq d n ≡ true → d ≡ n
same_numbers d n is = grind (arith, nat_tests, is)

-- the facts below `n + 1` are those below `n`, and `n`
pub below-more : {P : ℕ → Type 0} (n : ℕ) → ((d : ℕ) → d < n → P d) → P n → (d : ℕ) → d < suc n → P d
below-more {P = P} n below at d less =
    elim (nat_eq d n) as (λ b. nat_eq d n ≡ b → P d) [ true ↦ λ is. subst P (sym (same_numbers d n is)) at | false ↦ λ is. below d (grind (arith, nat_tests, less, is)) ] refl

module _ (K : Frame) (r : ℕ) (s : State K.F) where
  -- the entries are steps
  pub entered-steps : K.graph.start_of r ≡ r → (n : ℕ) → n ≤ K.facts → Steps K s (seeded_below K.functions s r n)
  entered-steps starts zero fits = none
  entered-steps starts (suc n) fits =
      let t = seeded_below K.functions s r n in
      elim (t.get (Jump r n n)) as (λ o. t.get (Jump r n n) ≡ o → Steps K s (cond (is_some o) t (seeded_at K t (Jump r n n)))) [
        | Some f ↦ λ is. entered-steps starts n (omega (arith, fits))
        | None ↦ λ absent. more (entered-steps starts n (omega (arith, fits))) (root r n starts (omega (arith, fits)) absent)
      ] refl

  -- and present then
  pub entered-present : (n d : ℕ) → d < n → is_some ((seeded_below K.functions s r n).get (Jump r d d)) ≡ true
  entered-present zero d less = absurd (omega (arith, less))
  entered-present (suc n) d less =
      let t = seeded_below K.functions s r n in
      elim (t.get (Jump r n n)) as (λ o. t.get (Jump r n n) ≡ o → is_some ((cond (is_some o) t (seeded_at K t (Jump r n n))).get (Jump r d d)) ≡ true) [
        | Some f ↦ λ is. below-more {P = λ d. is_some (t.get (Jump r d d)) ≡ true} n (λ d less. entered-present n d less) (ap is_some is) d less
        | None ↦ λ absent.
            below-more {P = λ d. is_some (cond (same_key (Jump r n n) (Jump r d d)) (Some K.functions.id) (t.get (Jump r d d))) ≡ true} n
            (λ d less. ap (λ b. is_some (cond b (Some K.functions.id) (t.get (Jump r d d)))) (jumps-apart r n d less) ∙ entered-present n d less)
            (ap (λ b. is_some (cond b (Some K.functions.id) (t.get (Jump r n n)))) (same_key_refl (Jump r n n))) d less
      ] refl

-- hands without a progress have no claim
pub no-progress : {F : Type 0} (o : Option (Held (TaskData F))) → option_map {U = TaskData F × ℕ} (λ held. (held.task, held.done)) o ≡ None → o ≡ None
no-progress None is = refl
no-progress (Some held) is = absurd (cc (is))

pub still-unclaimed : {F : Type 0} (old new : Pile (TaskData F)) → ((h : ℕ) → progress_at new h ≡ progress_at old h)
    → ((h : ℕ) → claim_at old h ≡ None) → (h : ℕ) → claim_at new h ≡ None
still-unclaimed {F = F} old new same free h =
    no-progress (claim_at new h) (same h ∙ ap (option_map {U = TaskData F × ℕ} (λ held. (held.task, held.done))) (free h))

-- what is there is some
some-there : {F : Type 0} (o : Option F) → is_some o ≡ true → (f : F) × (o ≡ Some f)
some-there None is = absurd (cc (is))
some-there (Some f) is = (f, refl)

module _ {F L : Type 0} (A : LatticeAlgebra L) (B : EdgeAlgebra F L) (targets : Targets F) where
  -- a procedure whose start has its entries is begun
  pub begun : (graph : Supergraph) (procedure start entries : ℕ) (old new : CoreData F) (name : List ℕ)
      → SitesMakeAGraph A B targets → StartsAreSeeded A B targets → RunsGoOn A B targets
      → old.graph ≡ Some graph → IsRootName graph old.roots name procedure → procedure < graph.procedures
      → start ≡ slice_index graph.starts procedure → entries ≡ graph.entries → new.program ≡ old.program → new.graph ≡ old.graph
      → ((h : ℕ) → progress_at new.pile h ≡ progress_at old.pile h)
      → state_of B targets new ≡ seeded_below B (state_of B targets old) start entries
      → new.roots ≡ old.roots ++ procedure ∷ []
      → IsBegun A B targets old new name
  begun graph procedure start entries old new name make seeds go is named within starts counted program_is graph_is progress entered roots =
      let at = slice_index graph.starts procedure in
      let s = state_of B targets old in
      let state : state_of B targets new ≡ seeded_below B s at graph.entries = entered ∙ (λ i. seeded_below B s (starts i) (counted i)) in
      record {
        graph = graph;
        is = is;
        root = procedure;
        named = named;
        within = within;
        program = program_is;
        same = graph_is;
        roots = roots;
        state = state;
        tasks = progress;
        unclaimed = still-unclaimed old.pile new.pile progress;
        steps = λ all joined home few run.
            subst (Steps (frame_at A B targets graph all) s) (sym state) (entered-steps (frame_at A B targets graph all) at s home graph.entries few);
        met = λ all joined home few run d less.
            let K = frame_at A B targets graph all in
            let G = edges_of graph.facts graph.sites all (start_at graph) in
            let whole : IsGraph G = (make graph.facts graph.sites all (start_at graph) joined).0 in
            let last = seeded_below B s at graph.entries in
            let there = some-there (last.get (Jump at d d)) (entered-present K at s graph.entries d less) in
            let ran : Run K last = (go G whole).run s last run (entered-steps K at s home graph.entries few) in
            subst (λ t. IsMet K t.get (Jump at d d) B.id) (sym state)
            (subst (λ r. IsMet K last.get (Jump r d d) B.id) home (seeds G whole last ran at d d there.0 there.1));
      }

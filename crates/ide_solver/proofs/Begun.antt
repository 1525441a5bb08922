-- Roots that are begun one after the other.
use Rattle.std.proofs.Common.{◌≡◌, ℕ, zero, suc, ◌+◌, ◌<◌, ◌≤◌, length, take, get_or, ◌⊎◌, inl, inr, Bool, true, false, cond, nat_lt, List, [], ◌∷◌, ◌++◌, map, Some, IsTrue, refl, ap, sym, subst, ◌∙◌, arith}
use Rattle.std.specs.Prelude.{slice_index}
use Rattle.std.proofs.lemmas.Option.{same_Some}
use Rattle.ide_graph.specs.Joined.{AreJoined, start_at}
use Rattle.ide_graph.specs.Supergraph.{Supergraph}
use Rattle.ide_lattice.specs.Algebra.{LatticeAlgebra, EdgeAlgebra}
use Rattle.ide_problem.specs.Flow.{Targets}
use Rattle.ide_theory.specs.Graphs.{frame_at}
use Rattle.ide_theory.specs.Image.{IsMet}
use Rattle.ide_theory.specs.Member.{IsIn}
use Rattle.ide_theory.specs.Members.{in-either, in-map, in-one, of-map}
use Rattle.ide_theory.specs.Reached.{DoRunsGoOn}
use Rattle.ide_theory.specs.Run.{Run, Steps, none as no_steps}
use Rattle.ide_theory.specs.Sites.{HaveEdgesOf}
use Rattle.ide_wire.specs.declared.key.Key.TheVariants.{Jump}
use Rattle.ide_steps.specs.Core.{CoreData}
use Rattle.ide_steps.specs.Rooted.{IsBegun}
use Rattle.ide_steps.specs.State.{state_of}
use Rattle.ide_solver.specs.Begun.{AreBegun, IsInOrder}
use Rattle.ide_steps.specs.Refusal.{IsRootName}
use Rattle.ide_solver.specs.Solve.{AreRootNames, none, then}

-- one name more
names-more : (graph : Supergraph) {roots mid : List ℕ} {names : List (List ℕ)} (name : List ℕ) (root : ℕ) → AreRootNames graph roots names mid
    → IsRootName graph mid name root → AreRootNames graph roots (names ++ name ∷ []) (mid ++ root ∷ [])
names-more graph name root none is = then name root is none
names-more graph name root (then n r at rest) is = then n r at (names-more graph name root rest is)

module _ {F L : Type 0} (A : LatticeAlgebra L) (B : EdgeAlgebra F L) (targets : Targets F) where
  pub begun-none : (core : CoreData F) → AreBegun A B targets core core []
  begun-none core = record {
    program = refl;
    same = refl;
    unclaimed = λ free h. free h;
    named = λ graph is. none;
    within = λ graph is all i among. all i among;
    steps = λ graph is all ready run. no_steps;
    begun = λ graph is all ready run has. has;
  }

  -- past the entry facts the entry is top
  entry-top : (d entries : ℕ) → nat_lt d entries ≡ false → cond (nat_lt d entries) A.bottom A.top ≡ A.top
  entry-top d entries past = ap (λ b. cond b A.bottom A.top) past

  less : (d n : ℕ) → nat_lt d n ≡ true → d < n
  less d n is = grind (arith, is)

  module _ (goes : (graph : Supergraph) (all : HaveEdgesOf graph.facts graph.sites) → AreJoined graph.sites (start_at graph) → DoRunsGoOn (frame_at A B targets graph all))
      (proper_id : IsTrue (B.proper B.id)) where
    pub begun-more : (old mid new : CoreData F) (names : List (List ℕ)) (name : List ℕ) → AreBegun A B targets old mid names → IsBegun A B targets mid new name
        → AreBegun A B targets old new (names ++ name ∷ [])
    begun-more old mid new names name before is = record {
      program = is.program ∙ before.program;
      same = is.same ∙ before.same;
      unclaimed = λ free. is.unclaimed (before.unclaimed free);
      named = λ graph at.
          let same = here graph at in
          let root : IsRootName graph mid.roots name is.root =
          subst (λ g. IsRootName g mid.roots name is.root) same is.named in
          subst (AreRootNames graph old.roots (names ++ name ∷ [])) (sym is.roots) (names-more graph name is.root (before.named graph at) root);
      within = λ graph at all i among.
          elim (in-either mid.roots (is.root ∷ []) (subst (IsIn i) is.roots among)) [
            | inl earlier ↦ before.within graph at all i earlier
            | inr last ↦ subst (λ k. k < graph.procedures) (sym (in-one last)) (subst (λ g. is.root < g.procedures) (here graph at) is.within)
          ];
      steps = λ graph at all ready run.
          let way = before.steps graph at all ready run in
          (goes graph all ready.joined).compose (state_of B targets old) (state_of B targets mid) (state_of B targets new) way
          (on graph at all ready ((goes graph all ready.joined).run (state_of B targets old) (state_of B targets mid) run way));
      begun = λ graph at all ready run has r d start within.
          let run_mid = (goes graph all ready.joined).run (state_of B targets old) (state_of B targets mid) run (before.steps graph at all ready run) in
          let of = of-map (slice_index graph.starts) new.roots start in
          elim (in-either mid.roots (is.root ∷ []) (subst (IsIn of.0) is.roots of.1)) [
            | inl earlier ↦ kept graph at all ready run_mid r d (before.begun graph at all ready run has r d (among-starts graph mid.roots of.0 r earlier of.2) within)
            | inr last ↦ given graph at all ready run_mid r d (sym of.2 ∙ ap (slice_index graph.starts) (in-one last))
          ];
    }
      where
        here : (graph : Supergraph) → old.graph ≡ Some graph → is.graph ≡ graph
        here graph at = same_Some is.graph graph (sym is.is ∙ (before.same ∙ at))

        start_is : (graph : Supergraph) → old.graph ≡ Some graph → IsInOrder graph → start_at graph (slice_index graph.starts is.root) ≡ slice_index graph.starts is.root
        start_is graph at ready = ready.home is.root (subst (λ g. is.root < g.procedures) (here graph at) is.within)

        on : (graph : Supergraph) → old.graph ≡ Some graph → (all : HaveEdgesOf graph.facts graph.sites) → IsInOrder graph
            → Run (frame_at A B targets graph all) (state_of B targets mid)
            → Steps (frame_at A B targets graph all) (state_of B targets mid) (state_of B targets new)
        on graph at all ready run =
            subst (λ g. (every : HaveEdgesOf g.facts g.sites) → AreJoined g.sites (start_at g)
            → start_at g (slice_index g.starts is.root) ≡ slice_index g.starts is.root → g.entries ≤ g.facts
            → Run (frame_at A B targets g every) (state_of B targets mid)
            → Steps (frame_at A B targets g every) (state_of B targets mid) (state_of B targets new)) (here graph at) is.steps
            all ready.joined (start_is graph at ready) ready.entries run

        met : (graph : Supergraph) → old.graph ≡ Some graph → (all : HaveEdgesOf graph.facts graph.sites) → IsInOrder graph
            → Run (frame_at A B targets graph all) (state_of B targets mid) → (d : ℕ) → d < graph.entries
            → IsMet (frame_at A B targets graph all) (state_of B targets new).get (Jump (slice_index graph.starts is.root) d d) B.id
        met graph at all ready run d entry =
            subst (λ g. (every : HaveEdgesOf g.facts g.sites) → AreJoined g.sites (start_at g)
            → start_at g (slice_index g.starts is.root) ≡ slice_index g.starts is.root → g.entries ≤ g.facts
            → Run (frame_at A B targets g every) (state_of B targets mid) → (k : ℕ) → k < g.entries
            → IsMet (frame_at A B targets g every) (state_of B targets new).get (Jump (slice_index g.starts is.root) k k) B.id) (here graph at) is.met
            all ready.joined (start_is graph at ready) ready.entries run d entry

        among-starts : (graph : Supergraph) (roots : List ℕ) (i r : ℕ) → IsIn i roots → slice_index graph.starts i ≡ r → IsIn r (map (slice_index graph.starts) roots)
        among-starts graph roots i r among same = subst (λ s. IsIn s (map (slice_index graph.starts) roots)) same (in-map (slice_index graph.starts) among)

        kept : (graph : Supergraph) → old.graph ≡ Some graph → (all : HaveEdgesOf graph.facts graph.sites) → IsInOrder graph
            → Run (frame_at A B targets graph all) (state_of B targets mid) → (r d : ℕ)
            → ((cond (nat_lt d graph.entries) A.bottom A.top) ≡ A.top) ⊎ IsMet (frame_at A B targets graph all) (state_of B targets mid).get (Jump r d d) B.id
            → ((cond (nat_lt d graph.entries) A.bottom A.top) ≡ A.top) ⊎ IsMet (frame_at A B targets graph all) (state_of B targets new).get (Jump r d d) B.id
        kept graph at all ready run r d (inl top) = inl top
        kept graph at all ready run r d (inr has) =
            inr ((goes graph all ready.joined).keeps (state_of B targets mid) (state_of B targets new) run (on graph at all ready run) (Jump r d d) B.id proper_id has)

        by-entry : (graph : Supergraph) → old.graph ≡ Some graph → (all : HaveEdgesOf graph.facts graph.sites) → IsInOrder graph
            → Run (frame_at A B targets graph all) (state_of B targets mid) → (d : ℕ) (entry : Bool) → nat_lt d graph.entries ≡ entry
            → ((cond (nat_lt d graph.entries) A.bottom A.top) ≡ A.top) ⊎ IsMet (frame_at A B targets graph all) (state_of B targets new).get (Jump (slice_index graph.starts is.root) d d) B.id
        by-entry graph at all ready run d true is_entry = inr (met graph at all ready run d (less d graph.entries is_entry))
        by-entry graph at all ready run d false past = inl (entry-top d graph.entries past)

        given : (graph : Supergraph) → old.graph ≡ Some graph → (all : HaveEdgesOf graph.facts graph.sites) → IsInOrder graph
            → Run (frame_at A B targets graph all) (state_of B targets mid) → (r d : ℕ) → r ≡ slice_index graph.starts is.root
            → ((cond (nat_lt d graph.entries) A.bottom A.top) ≡ A.top) ⊎ IsMet (frame_at A B targets graph all) (state_of B targets new).get (Jump r d d) B.id
        given graph at all ready run r d same =
            subst (λ s. ((cond (nat_lt d graph.entries) A.bottom A.top) ≡ A.top) ⊎ IsMet (frame_at A B targets graph all) (state_of B targets new).get (Jump s d d) B.id)
            (sym same) (by-entry graph at all ready run d (nat_lt d graph.entries) refl)

-- what the first of a list are made into, and one more
pub names-with : {X Y : Type 0} (f : X → Y) (xs : List X) (i : ℕ) (d : X) → i < length xs → map f (take (i + 1) xs) ≡ map f (take i xs) ++ f (get_or xs i d) ∷ []
names-with f [] i d within = absurd (omega (arith, within))
names-with f (x ∷ xs) zero d within = refl
names-with f (x ∷ xs) (suc i) d within =
    let one : suc i + 1 ≡ suc (i + 1) = omega arith in
    rw one (ap (λ ys. f x ∷ ys) (names-with f xs i d (omega (arith, within))))

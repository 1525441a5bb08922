-- What is so of an image over the edges of its program, whenever it is stopped: with no claims it is the end of a run, and
-- each of its roots has its identities. So the values that follow from it are best.
use Rattle.std.proofs.Common.{◌≡◌, ◌∙◌, ◌⊎◌, ◌<◌, ◌++◌, ℕ, Bool, true, false, cond, List, [], ◌∷◌, Option, Some, None, IsTrue, refl, ap, sym, subst, arith, inl, inr}
use Rattle.std.specs.Prelude.{nat_lt, unwrap_or}
use Rattle.std.specs.Option.{is_some}
use Rattle.std.proofs.lemmas.Bool.Decides.{nat_tests}
use Rattle.ide_wire.specs.declared.key.Key.{Key}
use Rattle.ide_wire.specs.declared.key.Key.TheVariants.{Jump}
use Rattle.ide_theory.specs.Best.{IsBest}
use Rattle.ide_theory.specs.Frame.{Frame, IsLawfulFrame, AreRoots}
use Rattle.ide_theory.specs.Image.{IsMet, HasRoots}
use Rattle.ide_theory.specs.Images.{Procedures, Image, image_state}
use Rattle.ide_theory.specs.Member.{IsIn}
use Rattle.ide_theory.specs.Members.{in-either, in-one, of-map}
use Rattle.ide_theory.specs.Run.{IsQuiet, Run, Steps}
use Rattle.ide_theory.specs.State.{Claim, State}
use Rattle.ide_theory.specs.Value.{IsStarted, value_at}
use Rattle.ide_theory.proofs.Laws.Reached.{met-on, run-on}
use Rattle.ide_theory.proofs.Laws.Released.{run-released}
use Rattle.ide_theory.proofs.Laws.Runs.{run-best}
use Rattle.ide_theory.proofs.Laws.Seeded.{start-seeded}
use Rattle.ide_store.specs.Roots.{root_entry, roots_named, starts_of}
use Rattle.ide_store.specs.Tally.{Tally, state_with}
use Rattle.ide_store.proofs.Working.{IsWorkTo}

module _ {Program Name : Type 0} (procedures : Procedures Program Name) (K : Frame) (p : Program) where
  open K use {F, L, functions as B, lattice as A, graph.{start_of}}

  -- the procedure of the name begins at a start whose entries have received the identity
  pub record HasStart (get : Key → Option F) (name : Name) : Type 0 where
    pub start : ℕ
    pub is : procedures.start p name ≡ Some start
    pub met : (d : ℕ) → d < procedures.entries p → IsMet K get (Jump start d d) B.id

  abbrev pub HaveStarts : (Key → Option F) → List Name → Type 0
  HaveStarts get names = (name : Name) → IsIn name names → HasStart get name

  pub record IsGood (image : Image Program Name F) : Type 0 where
    pub run : Run K (image_state image)
    pub begun : HaveStarts image.get image.roots

  module _ (laws : IsLawfulFrame K) where
    -- no steps of hands take that away
    pub starts_kept : (s t : State F) (names : List Name) → Run K s → Steps K s t → HaveStarts s.get names → HaveStarts t.get names
    starts_kept s t names run way have name among =
        let has = have name among in
        record { start = has.start; is = has.is; met = λ d less. met-on K laws run way (Jump has.start d d) B.id laws.functions.proper_id (has.met d less) }

    -- and what is worked at is good without its claims
    pub good_released : (image : Image Program Name F) (claims : ℕ → Option (Claim F)) (tally : Tally F) → IsWorkTo K tally (state_with image claims)
        → HaveStarts image.get image.roots → IsGood image
    good_released image claims tally work begun = record { run = run-released K (run-on K laws work.run work.way); begun = begun }

    -- entries of a start that are present have received the identity
    pub start_has : (s : State F) (name : Name) (r : ℕ) → Run K s → procedures.start p name ≡ Some r → start_of r ≡ r
        → ((d : ℕ) → d < procedures.entries p → is_some (s.get (Jump r d d)) ≡ true) → HasStart s.get name
    start_has s name r run is begins present = record { start = r; is = is; met = λ d less. met d (s.get (Jump r d d)) refl (present d less) }
      where
        met : (d : ℕ) (o : Option F) → s.get (Jump r d d) ≡ o → is_some (s.get (Jump r d d)) ≡ true → IsMet K s.get (Jump r d d) B.id
        met d None is has = absurd (cc (is, has))
        met d (Some f) is has = subst (λ (n : ℕ). IsMet K s.get (Jump n d d) B.id) begins (start-seeded K laws run r d d f is)

    -- one root more
    pub starts_more : (s t : State F) (names : List Name) (name : Name) → Run K s → Steps K s t → HaveStarts s.get names → HasStart t.get name
        → HaveStarts t.get (names ++ name ∷ [])
    starts_more s t names name run way have has other among = elim (in-either names (name ∷ []) among) [
      | inl before ↦ starts_kept s t names run way have other before
      | inr now ↦ subst (HasStart t.get) (sym (in-one now)) has
    ]

    -- the roots of good images are roots, and have their identities
    are_roots : (names : List Name) → ((name : Name) (r : ℕ) → procedures.start p name ≡ Some r → start_of r ≡ r)
        → ((name : Name) → IsIn name names → (r : ℕ) × (procedures.start p name ≡ Some r)) → AreRoots K (roots_named procedures K p names)
    are_roots names starts known = record { start = start; proper = proper }
      where
        start : (r : ℕ) → IsIn r (starts_of procedures K p names) → start_of r ≡ r
        start r among =
            let found = of-map (λ name. unwrap_or (procedures.start p name) 0) names among in
            let begins = known found.0 found.1 in
            let same : begins.0 ≡ r = sym (ap (λ (o : Option ℕ). unwrap_or o 0) begins.1) ∙ found.2 in
            subst (λ (n : ℕ). start_of n ≡ n) same (starts found.0 begins.0 begins.1)

        proper : (k : ℕ) → k < K.facts → IsTrue (A.proper (root_entry procedures K p k))
        proper k less = elim (nat_lt k (procedures.entries p)) as (λ b. IsTrue (A.proper (cond b A.bottom A.top))) [
          | true ↦ laws.lattice.proper_bottom
          | false ↦ laws.lattice.proper_top
        ]

    pub has_roots : (image : Image Program Name F) → IsGood image → HasRoots K (roots_named procedures K p image.roots) image.get
    has_roots image good r d among less =
        let found = of-map (λ name. unwrap_or (procedures.start p name) 0) image.roots among in
        let has = good.begun found.0 found.1 in
        let same : has.start ≡ r = sym (ap (λ (o : Option ℕ). unwrap_or o 0) has.is) ∙ found.2 in
        by r (nat_lt d (procedures.entries p)) refl (λ below. subst (λ (n : ℕ). IsMet K image.get (Jump n d d) B.id) same (has.met d (grind (arith, nat_tests, below))))
      where
        by : (r : ℕ) (b : Bool) → nat_lt d (procedures.entries p) ≡ b → (nat_lt d (procedures.entries p) ≡ true → IsMet K image.get (Jump r d d) B.id)
            → (root_entry procedures K p d ≡ A.top) ⊎ IsMet K image.get (Jump r d d) B.id
        by r true is met = inr (met is)
        by r false is met = inl (ap (λ b. cond b A.bottom A.top) is)

    pub good_is_best : (image : Image Program Name F) → ((name : Name) (r : ℕ) → procedures.start p name ≡ Some r → start_of r ≡ r) → IsGood image
        → IsQuiet (image_state image) → (begin : ℕ → ℕ → L) → IsStarted K (roots_named procedures K p image.roots) image.get begin
        → (n d : ℕ) → d < K.facts → IsBest K (roots_named procedures K p image.roots) n d (value_at K image.get begin n d)
    good_is_best image starts good quiet begin started n d less =
        run-best K laws (roots_named procedures K p image.roots)
        (are_roots image.roots starts (λ name among. let has = good.begun name among in (has.start, has.is)))
        good.run quiet (has_roots image good) begin started n d less

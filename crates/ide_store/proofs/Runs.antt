-- Acts of the half that works leave the disks and what is stored as they are, and keep the records that were handed over: so a
-- writer stands to the world after them as it did. And a frozen image of a run answers with best values.
use Rattle.std.proofs.Common.{◌≡◌, ◌∙◌, ◌<◌, ℕ, List, [], ◌∷◌, Option, Some, None, refl, sym, subst}
use Rattle.std.specs.List.{All}
use Rattle.std.proofs.lemmas.List.Elements.{All-cons, All-nil, All-from_recursion, recursion_from_All}
use Rattle.std.specs.List.{AllByRecursion}
use Rattle.ide_steps.specs.Frozen.{program_in}
use Rattle.ide_steps.specs.declared.closed.Closed.{Closed}
use Rattle.ide_image.specs.Tables.{found}
use Rattle.ide_theory.specs.Best.{IsBest}
use Rattle.ide_theory.specs.Value.{IsStarted, value_at}
use Rattle.ide_wire.specs.declared.key.Key.{Key}
use Rattle.ide_store.specs.Answers.{GraphBy, frame_by, roots_by}
use Rattle.ide_store.specs.Draining.{AreByDrainer, IsByHand, WorksBy}
use Rattle.ide_store.specs.Hands.{Batches, Claims, Ends, Happens, IsSoundWorld, Loads, Parts, Releases, Roots, RunsAnswer}
use Rattle.ide_store.specs.Places.{OnOneDisk, OnTwoDisks, Place}
use Rattle.ide_store.specs.Recovery.{OneDiskAnswers, PlaceAnswers}
use Rattle.ide_store.specs.Runs.{IsBestImage, IsImageOfRun, IsOfTable, IsSameBelow}
use Rattle.ide_store.specs.Table.{Analysis, AreActs, IsAct, IsReached, StoreAct, StoreWorld, TableData, WorksOn, after_act, after_acts, forms_of, rules_at, store_at}
use Rattle.ide_store.specs.TwoDisksLaws.{TwoDisksAnswers}
use Rattle.ide_store.specs.Versioned.{VersionedEntry}
use Rattle.ide_store.proofs.Acts.{reached_more}

-- ---- the disks beneath the half that works
module _ {F L : Type 0} (a : Analysis F L) (place : Place) where
  -- an act of the half that works leaves them
  pub act_below : (w : StoreWorld a place) (act : StoreAct a place) → IsOfTable a place act → IsSameBelow a place w (after_act a place w act)
  act_below w (Claims h q parts) of = record { stored = refl; work = refl; disks = refl }
  act_below w (Parts h key g) of = record { stored = refl; work = refl; disks = refl }
  act_below w (Ends h c) of = record { stored = refl; work = refl; disks = refl }
  act_below w (Releases h) of = record { stored = refl; work = refl; disks = refl }
  act_below w (Loads v r) of = record { stored = refl; work = refl; disks = refl }
  act_below w (Roots name None r) of = record { stored = refl; work = refl; disks = refl }
  act_below w (Roots name (Some batch) r) of = record { stored = refl; work = refl; disks = refl }
  act_below w (Batches r) of = record { stored = refl; work = refl; disks = refl }
  act_below w (Happens e) of = absurd of

  -- and behind some, one after the other
  acts_below : (w : StoreWorld a place) (acts : List (StoreAct a place)) → AllByRecursion (IsOfTable a place) acts
      → IsSameBelow a place w (after_acts a place w acts)
  acts_below w [] of = record { stored = refl; work = refl; disks = refl }
  acts_below w (act ∷ acts) of =
      let one = act_below w act of.0 in
      let more = acts_below (after_act a place w act) acts of.1 in
      record { stored = more.stored ∙ one.stored; work = more.work ∙ one.work; disks = more.disks ∙ one.disks }

  -- what one hand does is of that half
  own_of_table : (act : StoreAct a place) → IsByHand a place 0 act → IsOfTable a place act
  own_of_table (Claims h q parts) own = tt
  own_of_table (Parts h key g) own = tt
  own_of_table (Ends h c) own = tt
  own_of_table (Releases h) own = tt
  own_of_table (Loads v r) own = tt
  own_of_table (Roots name first r) own = tt
  own_of_table (Batches r) own = tt
  own_of_table (Happens e) own = own

module _ {F L : Type 0} (a : Analysis F L) where
  -- the half works on a world to which acts of its own led from that one, with the same records handed over
  pub record WorksFrom (place : Place) (w : StoreWorld a place) (new : TableData F) (handed : List VersionedEntry) : Type 0 where
    pub world : StoreWorld a place
    pub reached : IsReached a place world
    pub works : WorksOn a place world new handed
    pub below : IsSameBelow a place w world

  module _ (old new : TableData F) where
    pub acts_go : (Are : (place : Place) → List (StoreAct a place) → Type 0)
        → ((place : Place) (acts : List (StoreAct a place)) → Are place acts → All (IsOfTable a place) acts) → AreActs a old new Are
        → (place : Place) (w : StoreWorld a place) (handed : List VersionedEntry) → IsReached a place w → WorksOn a place w old handed
        → WorksFrom place w new handed
    acts_go Are own acts place w handed reached works =
        let done = acts place w handed reached works in
        record {
          world = after_acts a place w done.0;
          reached = reached_more a place w done.0 reached done.2;
          works = done.3;
          below = acts_below a place w done.0 (recursion_from_All (IsOfTable a place) done.0 (own place done.0 done.1));
        }

    pub act_goes : (act : (place : Place) → StoreAct a place) → ((place : Place) → IsOfTable a place (act place)) → IsAct a old new act
        → (place : Place) (w : StoreWorld a place) (handed : List VersionedEntry) → IsReached a place w → WorksOn a place w old handed
        → WorksFrom place w new handed
    act_goes act of is =
        acts_go (λ place acts. acts ≡ act place ∷ [])
        (λ place acts same. subst (All (IsOfTable a place)) (sym same)
        (All-cons (IsOfTable a place) (act place) [] (of place) (All-nil (IsOfTable a place))))
        (λ place w handed reached works. let done = is place w handed reached works in (act place ∷ [], refl, (done.0, tt), done.1))

    pub works_go : (claims releases : ℕ) → WorksBy a old new claims releases
        → (place : Place) (w : StoreWorld a place) (handed : List VersionedEntry) → IsReached a place w → WorksOn a place w old handed
        → WorksFrom place w new handed
    works_go claims releases =
        acts_go (λ place. AreByDrainer a place claims releases)
        (λ place acts by. All-from_recursion (IsOfTable a place) acts (all_own place acts (recursion_from_All (IsByHand a place 0) acts by.own)))
      where
        all_own : (place : Place) (acts : List (StoreAct a place)) → AllByRecursion (IsByHand a place 0) acts → AllByRecursion (IsOfTable a place) acts
        all_own place [] own = tt
        all_own place (act ∷ acts) own = (own_of_table a place act own.0, all_own place acts own.1)

-- what is so of every run on one disk, and of every run on two, is so wherever the store stands
pub places_answer : {F L : Type 0} (a : Analysis F L) → OneDiskAnswers a.lattice a.functions a.targets a.same a.proper a.form → TwoDisksAnswers a
    → (place : Place) → PlaceAnswers a place
places_answer a one two (OnOneDisk head) start new =
    subst (λ (w : StoreWorld a (OnOneDisk head)).
    RunsAnswer a.lattice a.functions a.targets a.same (forms_of a) (rules_at a (OnOneDisk head)) (store_at a (OnOneDisk head)) w)
    (sym new.is) (one head new.work new.disks new.live)
places_answer a one two (OnTwoDisks tag) start begins = two tag start begins

module _ {F L : Type 0} (a : Analysis F L) (answers : (place : Place) → PlaceAnswers a place) where
  -- what is so of every run is so of the world
  pub sound : (place : Place) (w : StoreWorld a place) → IsReached a place w
      → IsSoundWorld a.lattice a.functions a.targets a.same (forms_of a) (rules_at a place) (store_at a place) w
  sound place w reached =
      subst (λ (u : StoreWorld a place).
      IsSoundWorld a.lattice a.functions a.targets a.same (forms_of a) (rules_at a place) (store_at a place) u)
      reached.is
      (answers place reached.start reached.begins reached.acts reached.can)

  -- so the frozen image of a run answers with best values
  pub best_image : {P : Type 0} (closed : Closed P L F) → IsImageOfRun a closed → (by : GraphBy (program_in closed)) → IsBestImage a closed by
  best_image closed on by =
      let K = frame_by a.lattice a.functions a.targets by in
      let names = on.world.world.image.roots in
      let R = roots_by a.lattice a.functions a.targets by names in
      let get : on.world.world.image.get ≡ found closed.tables.table = λ i key. on.image.functions key i in
      let said = (sound on.place on.world on.reached).answers (program_in closed) on.image.program by in
      record {
        names = names;
        named = on.image.roots;
        best =
            subst (λ (g : Key → Option F). (start : ℕ → ℕ → L) → IsStarted K R g start → (n d : ℕ) → d < by.graph.facts
            → IsBest K R n d (value_at K g start n d))
            get (said.best on.image.quiet);
      }

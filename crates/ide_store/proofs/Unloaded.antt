-- With no program loaded nothing waits: so it is of each world that acts lead to, and of what its records give back.
use Rattle.std.proofs.Common.{◌≡◌, ◌∙◌, ℕ, zero, suc, false, List, [], ◌∷◌, ◌++◌, Option, Some, None, length, take, refl, ap, sym, subst, arith, inl, inr}
use Rattle.std.proofs.lemmas.Bool.{cases_lt}
use Rattle.std.proofs.lemmas.List.{length-append, take-append-le, take-take, take_all}
use Rattle.std.proofs.lemmas.List.Sums.{fold-append}
use Rattle.ide_batch.specs.Fold.{ProgramImage}
use Rattle.ide_journal.specs.Format.{head_of}
use Rattle.ide_text.specs.Value.{ProgramValue}
use Rattle.ide_theory.specs.Images.{Finish, Load, Part, Root}
use Rattle.ide_theory.specs.State.{Claim}
use Rattle.ide_theory.proofs.Laws.Changes.{none-some}
use Rattle.ide_wire.specs.declared.key.Key.{Key}
use Rattle.ide_store.proofs.Hands.{IsWhole, all_held}
use Rattle.ide_store.proofs.Marks.{mark_at, take_more}
use Rattle.ide_store.proofs.Reached.{Knows, reached_whole}
use Rattle.ide_store.proofs.World.{IsKept, one_image}
use Rattle.ide_store.specs.Hands.{Batches, Claims, Ends, Happens, Loads, Parts, ProgramEvent, Releases, Roots, IsOfStore}
use Rattle.ide_store.specs.Machine.{ProgramStep}
use Rattle.ide_store.proofs.Adopted.{start_whole}
use Rattle.ide_store.proofs.Places.{does_at, exact_at, laws_at}
use Rattle.ide_store.specs.Places.{OnOneDisk, OnTwoDisks, Place}
use Rattle.ide_store.specs.Table.{Analysis, at_adopted, at_meeting, at_new, BeginsOnTwo, IsLedTo, IsNew, IsReached, IsStart, MayDo, MayDoAll, StoreAct, StoreWorld, after_act, after_acts, forms_of, rules_at, store_at}
use Rattle.ide_store.specs.Versioned.{VersionedEntry}
use Rattle.ide_store.specs.World.{Acks, Begins, Calls, Crashes, Fails, IsFolded, Opens, Rules, Running, Seals, Steps, Stops, Stores, contents, image_after}

-- with no program no key waits
abbrev pub IsStill : {F : Type 0} → ProgramImage F → Type 0
IsStill image = image.program ≡ None → (key : Key) → image.pending key ≡ false

module _ {F L : Type 0} (a : Analysis F L) (place : Place) where
  abbrev acts_by : Rules (ProgramImage F) (ProgramStep F) VersionedEntry
  acts_by = rules_at a place

  -- the image after each beginning of the steps is still, and with no program no hand has a claim
  record AreStill (history : List (ProgramStep F)) (held : ℕ → Option (Claim F)) : Type 0 where
    pub images : (n : ℕ) → IsStill (image_after acts_by (take n history))
    pub claims : (image_after acts_by history).program ≡ None → (h : ℕ) → held h ≡ None

  -- one step more
  stepped : (history : List (ProgramStep F)) (s : ProgramStep F) → ((n : ℕ) → IsStill (image_after acts_by (take n history)))
      → IsStill (acts_by.step (image_after acts_by history) s) → (n : ℕ) → IsStill (image_after acts_by (take n (history ++ s ∷ [])))
  stepped history s before now n = elim (cases_lt (length history) n) [
    | inl over ↦ subst (λ (steps : List (ProgramStep F)). IsStill (image_after acts_by steps))
        (sym (take_all n (history ++ s ∷ []) (let longer = length-append history (s ∷ []) in omega arith)))
        (subst IsStill (sym (fold-append acts_by.step acts_by.empty history (s ∷ []))) now)
    | inr under ↦ subst (λ (steps : List (ProgramStep F)). IsStill (image_after acts_by steps)) (sym (take-append-le n history (s ∷ []) under)) (before n)
  ]

  -- the program then
  program_after : (history : List (ProgramStep F)) (s : ProgramStep F)
      → (image_after acts_by (history ++ s ∷ [])).program ≡ (acts_by.step (image_after acts_by history) s).program
  program_after history s = ap (λ (image : ProgramImage F). image.program) (fold-append acts_by.step acts_by.empty history (s ∷ []))

  -- a step that leaves a program, whatever the hands have then
  program_stays : (history : List (ProgramStep F)) (s : ProgramStep F) (old new : ℕ → Option (Claim F)) → AreStill history old
      → ((acts_by.step (image_after acts_by history) s).program ≡ None → ⊥) → AreStill (history ++ s ∷ []) new
  program_stays history s old new still some = record {
    images = stepped history s still.images (λ none. absurd (some none));
    claims = λ none. absurd (some (sym (program_after history s) ∙ none));
  }

  -- other claims, where there is a program
  claims_change : (history : List (ProgramStep F)) (old new : ℕ → Option (Claim F)) → AreStill history old
      → ((image_after acts_by history).program ≡ None → ⊥) → AreStill history new
  claims_change history old new still some = record { images = still.images; claims = λ none. absurd (some none) }

  -- a beginning of the steps, with no claim
  cut_off : (history : List (ProgramStep F)) (claims : ℕ → Option (Claim F)) (m : ℕ) → AreStill history claims → AreStill (take m history) (λ h. None)
  cut_off history claims m still = record { images = images; claims = λ none h. refl }
    where
      images : (n : ℕ) → IsStill (image_after acts_by (take n (take m history)))
      images n = elim (cases_lt m n) [
        | inl over ↦ subst (λ (steps : List (ProgramStep F)). IsStill (image_after acts_by steps)) (sym (take_more n m history (omega arith))) (still.images m)
        | inr under ↦ subst (λ (steps : List (ProgramStep F)). IsStill (image_after acts_by steps)) (sym (take-take n m history under)) (still.images n)
      ]

  -- where a hand has a claim, there is a program
  claimed : (history : List (ProgramStep F)) (claims : ℕ → Option (Claim F)) (h : ℕ) (claim : Claim F) → AreStill history claims → claims h ≡ Some claim
      → (image_after acts_by history).program ≡ None → ⊥
  claimed history claims h claim still mine none = none-some (sym (still.claims none h) ∙ mine)

  -- and where the image has one
  has_program : (history : List (ProgramStep F)) (image : ProgramImage F) (v : ProgramValue) → image ≡ image_after acts_by history → image.program ≡ Some v
      → (image_after acts_by history).program ≡ None → ⊥
  has_program history image v is some none = none-some (sym (ap (λ (i : ProgramImage F). i.program) is ∙ none) ∙ some)

  -- so it is of a world
  abbrev IsStillIn : StoreWorld a place → Type 0
  IsStillIn w = AreStill w.world.history w.claims

  -- what happens to the store keeps it
  happens_still : (w : StoreWorld a place) (e : ProgramEvent F (store_at a place)) → IsStillIn w → IsOfStore e → IsStillIn (after_act a place w (Happens e))
  happens_still w (Steps s) still own = absurd own
  happens_still w (Seals r) still own = absurd own
  happens_still w (Begins work) still own = still
  happens_still w (Calls work disks) still own = still
  happens_still w (Stores work disks) still own = still
  happens_still w (Fails disks) still own = still
  happens_still w Acks still own = still
  happens_still w (Crashes left) still own = still
  happens_still w (Opens found image work disks) still own = cut_off w.world.history w.claims _ still
  happens_still w (Stops disks mode) still own = still

  -- and so does each act
  act_still : (w : StoreWorld a place) (act : StoreAct a place) → IsKept acts_by w.world → IsStillIn w → MayDo a place w act → IsStillIn (after_act a place w act)
  act_still w (Claims h q parts) kept still can =
      claims_change w.world.history w.claims _ still (has_program w.world.history w.world.image can.program (kept.image can.running) can.loaded)
  act_still w (Parts h key g) kept still can =
      program_stays w.world.history (Part key g) w.claims _ still (claimed w.world.history w.claims h can.claim still can.mine)
  act_still w (Ends h c) kept still can =
      program_stays w.world.history (Finish c.key c.lowered) w.claims _ still (claimed w.world.history w.claims h c still can.mine)
  act_still w (Releases h) kept still can =
      claims_change w.world.history w.claims _ still (claimed w.world.history w.claims h can.claim still can.mine)
  act_still w (Loads v r) kept still can = program_stays w.world.history (Load v) w.claims _ still (λ none. none-some (sym none))
  act_still w (Roots name None r) kept still can =
      program_stays w.world.history (Root name) w.claims _ still (has_program w.world.history w.world.image can.program (kept.image can.running) can.loaded)
  act_still w (Roots name (Some batch) r) kept still can =
      program_stays w.world.history (Root name) w.claims _ still (has_program w.world.history w.world.image can.program (kept.image can.running) can.loaded)
  act_still w (Batches r) kept still can = still
  act_still w (Happens e) kept still can = happens_still w e still can.0

  module _ (knows : Knows a) where
    -- what acts keep besides
    abbrev IsWholeIn : StoreWorld a place → Type 0
    IsWholeIn w =
        IsWhole a.lattice a.functions a.targets a.same (forms_of a) (store_at a place) knows.is_same
        (exact_at a knows.prefix_free place) (laws_at a place) knows.known w

    -- acts, one after the other
    acts_still : (w : StoreWorld a place) (acts : List (StoreAct a place)) → IsWholeIn w → IsStillIn w → MayDoAll a place w acts
        → IsStillIn (after_acts a place w acts)
    acts_still w [] whole still can = still
    acts_still w (act ∷ acts) whole still can =
        let exact = exact_at a knows.prefix_free place in
        let next : IsWholeIn (after_act a place w act) =
        all_held a.lattice a.functions a.targets a.same (forms_of a) (store_at a place) knows.is_same exact (laws_at a place)
        knows.known (does_at a place) w (act ∷ []) whole (can.0, tt) in
        acts_still (after_act a place w act) acts next (act_still w act whole.held.world still can.0) can.1

    -- of no step
    idle_still : (n : ℕ) → IsStill (image_after acts_by (take n []))
    idle_still zero = λ none key. refl
    idle_still (suc n) = λ none key. refl

module _ {F L : Type 0} (a : Analysis F L) (knows : Knows a) where
  -- so it is of a new store, of what acts lead to from one, and where that was adopted
  new_still : (place : Place) (start : StoreWorld a place) → IsNew a place start → IsStillIn a place start
  new_still place start new = subst (IsStillIn a place) (sym new.is) (record { images = idle_still a place knows; claims = λ none h. refl })

  led_still : (place : Place) (Start : StoreWorld a place → Type 0) → ((start : StoreWorld a place) → Start start → IsStart a place start)
      → ((start : StoreWorld a place) → Start start → IsStillIn a place start) → (w : StoreWorld a place) → IsLedTo a place Start w
      → IsStillIn a place w
  led_still place Start starts still w led =
      let whole = start_whole a knows.is_same knows.prefix_free knows.known place led.start (starts led.start led.begins) in
      subst (IsStillIn a place) led.is (acts_still a place knows led.start led.acts whole (still led.start led.begins) led.can)

  two_still : (tag : ℕ) (start : StoreWorld a (OnTwoDisks tag)) → BeginsOnTwo a tag start → IsStillIn a (OnTwoDisks tag) start
  two_still tag start (at_new new) = new_still (OnTwoDisks tag) start new
  two_still tag start (at_adopted adopted) =
      let one = OnOneDisk (head_of adopted.version tag) in
      let before = led_still one (IsNew a one) (λ begun new. new) (new_still one) adopted.world adopted.run in
      subst (IsStillIn a (OnTwoDisks tag)) (sym adopted.is) (record { images = before.images; claims = before.claims })
  two_still tag _ (at_meeting begun begins acts can stored work disks live) =
      let place = OnTwoDisks tag in
      let whole = start_whole a knows.is_same knows.prefix_free knows.known place begun begins in
      let before = acts_still a place knows begun acts whole (two_still tag begun begins) can in
      record { images = before.images; claims = before.claims }

  start_still : (place : Place) (start : StoreWorld a place) → IsStart a place start → IsStillIn a place start
  start_still (OnOneDisk head) start new = new_still (OnOneDisk head) start new
  start_still (OnTwoDisks tag) start begins = two_still tag start begins

  -- and of each world that acts led to
  reached_still : (place : Place) (w : StoreWorld a place) → IsReached a place w → IsStillIn a place w
  reached_still place w reached = led_still place (IsStart a place) (λ start begins. begins) (start_still place) w reached

module _ {F L : Type 0} (a : Analysis F L) (place : Place) (knows : Knows a) where
  -- while it runs, the image is still
  pub image_still : (w : StoreWorld a place) → IsReached a place w → w.world.mode ≡ Running → IsStill w.world.image
  image_still w reached running =
      let history = w.world.history in
      let kept = (reached_whole a knows place w reached).held.world in
      subst IsStill (ap (image_after (rules_at a place)) (take_all (length history) history (omega arith)) ∙ sym (kept.image running))
      ((reached_still a knows place w reached).images (length history))

  -- and so is what the sealed records give back
  pub base_still : (w : StoreWorld a place) → IsReached a place w → (base : ProgramImage F) → IsFolded (rules_at a place) (contents w.world.sealed) base
      → IsStill base
  base_still w reached base folded =
      let n : ℕ = length w.world.sealed in
      let marks = (reached_whole a knows place w reached).held.world.marks in
      let exact = exact_at a knows.prefix_free place in
      let image : ProgramImage F = image_after (rules_at a place) (take (mark_at w.world.sealed n) w.world.history) in
      let all : IsFolded (rules_at a place) (contents w.world.sealed) image =
      subst (λ sealed. IsFolded (rules_at a place) (contents sealed) image) (take_all n w.world.sealed (omega arith)) (marks.images n) in
      subst IsStill (one_image (rules_at a place) exact (laws_at a place) (contents w.world.sealed) (rules_at a place).empty image base all folded)
      ((reached_still a knows place w reached).images (mark_at w.world.sealed n))

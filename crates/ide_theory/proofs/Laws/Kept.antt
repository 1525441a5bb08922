-- Each step keeps the invariant: who holds which key, that entries are sound, and that parts owe
-- what their keys may receive.
use Rattle.std.proofs.Common.{◌≡◌, ◌≢◌, ℕ, ◌⊎◌, true, List, [], ◌∷◌, Option, Some, None, option_map, IsTrue, ap, sym, subst, refl, ◌∙◌, inl, inr}
use Rattle.ide_wire.specs.declared.key.Key.{Key}
use Rattle.ide_wire.specs.declared.key.Key.TheVariants.{Jump}
use Rattle.ide_theory.specs.Frame.{Frame, IsLawfulFrame}
use Rattle.ide_theory.specs.Path.{here}
use Rattle.ide_theory.specs.Member.{IsIn, first, later}
use Rattle.ide_theory.specs.Image.{function_of, Instance, flat, seed, after, summarised, IsMet}
use Rattle.ide_theory.specs.Entry.{done, MeetOf, one, both, OfKey, IsSound}
use Rattle.ide_theory.specs.State.{Claim, State, rest_of, without_first, claim_marked, new_claim, with_claim, part_done, lowered_in_frame, finished, nothing_done}
use Rattle.ide_theory.specs.Run.{Step, claim, skip, lower, release, finish, root, Run, begins, goes_on}
use Rattle.ide_theory.specs.Invariant.{awaits, IsHeld, IsInvariant}
use Rattle.ide_theory.proofs.Laws.Changes.{key-tells, some-inj, none-some, map-tells, left-with, left-without, left-done}
use Rattle.ide_theory.proofs.Laws.Bridge.{present-or, present-is, absent-is}
use Rattle.ide_theory.proofs.Laws.Sound.{proper-meets, proper-key, has-proper, instance-sound, at-start}
use Rattle.ide_theory.proofs.Laws.Ready.{all_top-meet, lowered-is-seeded, other-instance, met-now, settled-claim, settled-done, open-lowered, pending-lowered, settled-lowered, settled-release, settled-finish}

-- a claim that a part was taken from has the key that it had
pub same-claim-key : {F : Type 0} (d c : Claim F) → (d ≡ c) ⊎ (without_first d ≡ c) → d.key ≡ c.key
same-claim-key d c (inl same) = ap (λ e. e.key) same
same-claim-key d c (inr same) = ap (λ e. e.key) same

pub in-rest : {T : Type 0} {x : T} (xs : List T) → IsIn x (rest_of xs) → IsIn x xs
in-rest [] is = is
in-rest (y ∷ xs) is = later is

module _ {F : Type 0} (s : State F) (held : IsHeld s) where
  pub held-claim : (h : ℕ) (q : Key) (parts : List (Key × F)) → s.pending q ≡ true → ((j : ℕ) (c : Claim F) → s.claims j ≡ Some c → c.key ≢ q)
      → IsHeld (with_claim s h (Some (new_claim q parts)))
  held-claim h q parts waits alone = record {
    pending = λ j c left. elim (left-with s h (new_claim q parts) j c left) [
      | inl own ↦ subst (λ u. s.pending u ≡ true) (ap (λ e. e.key) own.1) waits
      | inr other ↦ held.pending j c other.1
    ];
    one = λ i j c d left right same. elim (left-with s h (new_claim q parts) i c left) [
      | inl own ↦ elim (left-with s h (new_claim q parts) j d right) [
        | inl also ↦ sym own.0 ∙ also.0
        | inr other ↦ elim (alone j d other.1 (sym same ∙ sym (ap (λ e. e.key) own.1))) [ ]
      ]
      | inr before ↦ elim (left-with s h (new_claim q parts) j d right) [
        | inl own ↦ elim (alone i c before.1 (same ∙ sym (ap (λ e. e.key) own.1))) [ ]
        | inr other ↦ held.one i j c d before.1 other.1 same
      ]
    ];
  }

  pub held-done : (h : ℕ) → IsHeld (part_done s h)
  held-done h = record {
    pending = λ j c left.
        let was : (e : Claim F) × (s.claims j ≡ Some e) × ((e ≡ c) ⊎ (without_first e ≡ c)) = left-done s h j c left in
        subst (λ u. s.pending u ≡ true) (same-claim-key was.0 c was.2) (held.pending j was.0 was.1);
    one = λ i j c d left right same.
        let was : (e : Claim F) × (s.claims i ≡ Some e) × ((e ≡ c) ⊎ (without_first e ≡ c)) = left-done s h i c left in
        let too : (e : Claim F) × (s.claims j ≡ Some e) × ((e ≡ d) ⊎ (without_first e ≡ d)) = left-done s h j d right in
        held.one i j was.0 too.0 was.1 too.1 (same-claim-key was.0 c was.2 ∙ same ∙ sym (same-claim-key too.0 d too.2));
  }

  pub held-release : (h : ℕ) → IsHeld (with_claim s h None)
  held-release h = record {
    pending = λ j c left. held.pending j c (left-without s h j c left).1;
    one = λ i j c d left right same. held.one i j c d (left-without s h i c left).1 (left-without s h j d right).1 same;
  }

  pub held-finish : (h : ℕ) (c : Claim F) → s.claims h ≡ Some c → IsHeld (finished s h c)
  held-finish h c mine = record {
    pending = λ j d left.
        let was : (h ≢ j) × (s.claims j ≡ Some d) = left-without s h j d left in
        elim (key-tells s.pending c.key c.lowered d.key) [
          | inl same ↦ elim (was.0 (held.one h j c d mine was.1 same.0)) [ ]
          | inr other ↦ other.1 ∙ held.pending j d was.1
        ];
    one = λ i j d e left right same. held.one i j d e (left-without s h i d left).1 (left-without s h j e right).1 same;
  }

module _ (K : Frame) (laws : IsLawfulFrame K) where
  open K use {L, F, lattice as A, functions as B}

  pub held-lowered : (s : State F) → IsHeld s → (t : Key) (f : F) → IsHeld (lowered_in_frame K s t f)
  held-lowered s held t f = record {
    pending = λ j c left.
        let was : (e : Claim F) × (s.claims j ≡ Some e) × (claim_marked t e ≡ c) = map-tells (claim_marked t) (s.claims j) left in
        pending-lowered K laws s t f c.key (subst (λ u. s.pending u ≡ true) (ap (λ e. e.key) was.2) (held.pending j was.0 was.1));
    one = λ i j c d left right same.
        let was : (e : Claim F) × (s.claims i ≡ Some e) × (claim_marked t e ≡ c) = map-tells (claim_marked t) (s.claims i) left in
        let too : (e : Claim F) × (s.claims j ≡ Some e) × (claim_marked t e ≡ d) = map-tells (claim_marked t) (s.claims j) right in
        held.one i j was.0 too.0 was.1 too.1 (ap (λ e. e.key) was.2 ∙ same ∙ sym (ap (λ e. e.key) too.2));
  }

  pub proper-owed : (k : Key) (g : F) → MeetOf B (OfKey K k) g → IsTrue (B.proper g)
  proper-owed k g meets = proper-meets A B laws.functions (proper-key K laws k) meets

  -- what a key has after it received a function that it may receive
  pub meets-lowered : (get : Key → Option F) → IsSound K get → (t : Key) (g : F) → MeetOf B (OfKey K t) g → MeetOf B (OfKey K t) (B.meet (function_of K get t) g)
  meets-lowered get sound t g meets = elim (present-or K get t) [
    | inl found ↦ subst (λ u. MeetOf B (OfKey K t) (B.meet u g)) (sym (present-is K get t found.0 found.1)) (both (sound t found.0 found.1) meets)
    | inr absent ↦ subst (λ u. MeetOf B (OfKey K t) (B.meet u g)) (sym (absent-is K get t absent))
        (subst (MeetOf B (OfKey K t)) (sym (all_top-meet A B laws.lattice laws.functions g (proper-owed t g meets))) meets)
  ]

  pub sound-lowered : (s : State F) → IsSound K s.get → (t : Key) (g : F) → MeetOf B (OfKey K t) g → IsSound K (lowered_in_frame K s t g).get
  sound-lowered s sound t g meets k f same = elim (key-tells s.get t (Some (B.meet (function_of K s.get t) g)) k) [
    | inl at_key ↦
        let is : B.meet (function_of K s.get t) g ≡ f = some-inj (sym at_key.1 ∙ same) in
        subst (λ u. MeetOf B (OfKey K u) f) at_key.0 (subst (MeetOf B (OfKey K t)) is (meets-lowered s.get sound t g meets))
    | inr other ↦ sound k f (sym other.1 ∙ same)
  ]

  pub inv-lowered : (s : State F) → IsInvariant K s → (t : Key) (f : F) → MeetOf B (OfKey K t) f → IsInvariant K (lowered_in_frame K s t f)
  inv-lowered s inv t f meets = record {
    ready = λ ks k g instance. elim (other-instance K laws s.get t (Some (B.meet (function_of K s.get t) f)) instance) [
      | inl among ↦ awaits t among (open-lowered K laws s t f)
      | inr before ↦ settled-lowered K laws s (has-proper K laws s.get inv.sound) t f (proper-owed t f meets)
          (proper-owed k g (instance-sound K laws s.get inv.sound before)) (inv.ready ks k g before)
    ];
    held = held-lowered s inv.held t f;
    sound = sound-lowered s inv.sound t f meets;
    owed = λ j c left k g part.
        let was : (e : Claim F) × (s.claims j ≡ Some e) × (claim_marked t e ≡ c) = map-tells (claim_marked t) (s.claims j) left in
        inv.owed j was.0 was.1 k g (subst (IsIn {T = Key × F} (k, g)) (sym (ap (λ e. e.parts) was.2)) part);
  }

  pub inv-done : (s : State F) → IsInvariant K s → (h : ℕ) (c : Claim F) (t : Key) (f : F) (rest : List (Key × F)) → s.claims h ≡ Some c
      → c.parts ≡ (t, f) ∷ rest → IsMet K s.get t f → IsInvariant K (part_done s h)
  inv-done s inv h c t f rest mine parts has = record {
    ready = λ ks k g instance. settled-done K laws s h c t f rest mine parts has (inv.ready ks k g instance);
    held = held-done s inv.held h;
    sound = inv.sound;
    owed = λ j d left k g part.
        let was : (e : Claim F) × (s.claims j ≡ Some e) × ((e ≡ d) ⊎ (without_first e ≡ d)) = left-done s h j d left in
        inv.owed j was.0 was.1 k g (elim (was.2) [
          | inl same ↦ subst (IsIn {T = Key × F} (k, g)) (sym (ap (λ e. e.parts) same)) part
          | inr same ↦ in-rest (was.0.parts) (subst (IsIn {T = Key × F} (k, g)) (sym (ap (λ e. e.parts) same)) part)
        ]);
  }

  -- each step keeps the invariant
  pub inv-step : {s t : State F} → Step K s t → IsInvariant K s → IsInvariant K t
  inv-step (claim {s = s} h q parts free waits alone all) inv = record {
    ready = λ ks k g instance. settled-claim K laws s h q parts free all instance (inv.ready ks k g instance);
    held = held-claim s inv.held h q parts waits alone;
    sound = inv.sound;
    owed = λ j c left k g part. elim (left-with s h (new_claim q parts) j c left) [
      | inl own ↦
          let from_rule : (ks : List Key) × Instance K s.get ks k g =
          all.right k g (subst (IsIn {T = Key × F} (k, g)) (sym (ap (λ e. e.parts) own.1)) part) in
          instance-sound K laws s.get inv.sound from_rule.1
      | inr other ↦ inv.owed j c other.1 k g part
    ];
  }
  inv-step (skip {s = s} h c t f rest mine parts has) inv = inv-done s inv h c t f rest mine parts has
  inv-step (lower {s = s} h c t f rest mine parts changes) inv =
      let meets : MeetOf B (OfKey K t) f = inv.owed h c mine t f (subst (IsIn {T = Key × F} (t, f)) (sym parts) first) in
      inv-done (lowered_in_frame K s t f) (inv-lowered s inv t f meets) h (claim_marked t c) t f rest (ap (option_map (claim_marked t)) mine) parts
      (met-now K laws s (has-proper K laws s.get inv.sound) t f (proper-owed t f meets))
  inv-step (release {s = s} h c mine) inv = record {
    ready = λ ks k g instance. settled-release K laws s h inv.held (inv.ready ks k g instance);
    held = held-release s inv.held h;
    sound = inv.sound;
    owed = λ j c left k g part. inv.owed j c (left-without s h j c left).1 k g part;
  }
  inv-step (finish {s = s} h c mine none) inv = record {
    ready = λ ks k g instance. settled-finish K laws s h c mine none (inv.ready ks k g instance);
    held = held-finish s inv.held h c mine;
    sound = inv.sound;
    owed = λ j d left k g part. inv.owed j d (left-without s h j d left).1 k g part;
  }
  inv-step (root {s = s} r d is_start in_range absent) inv =
      subst (IsInvariant K) (lowered-is-seeded K laws s (Jump r d d) absent)
      (inv-lowered s inv (Jump r d d) B.id (one (record { path = []; level = at-start K laws (sym is_start) here; exploded = done })))

  -- an image in which no key is present has no instance
  pub none-present : (get : Key → Option F) → ((k : Key) → get k ≡ None) → {ks : List Key} {k : Key} {g : F} → Instance K get ks k g → ⊥
  none-present get none (flat e a b c f g is_flat same is) = none-some (sym (none (Jump (K.graph.from e) a b)) ∙ same)
  none-present get none (seed e a b c f g is_call same is) = none-some (sym (none (Jump (K.graph.from e) a b)) ∙ same)
  none-present get none (after call ret a b d f s matched same passed) = none-some (sym (none (Jump (K.graph.from call) a b)) ∙ same)
  none-present get none (summarised call ret a b c d g f h matched is same out) = none-some (sym (none (Jump (K.graph.from ret) b c)) ∙ same)

  pub inv-empty : IsInvariant K (nothing_done F)
  inv-empty = record {
    ready = λ ks k g instance. elim (none-present (λ _. None) (λ _. refl) instance) [ ];
    held = record {
      pending = λ h c has. elim (none-some has) [ ];
      one = λ h j c d has other same. elim (none-some has) [ ];
    };
    sound = λ k f same. elim (none-some same) [ ];
    owed = λ h c has k g part. elim (none-some has) [ ];
  }

  pub inv-run : {s : State F} → Run K s → IsInvariant K s
  inv-run begins = inv-empty
  inv-run (goes_on run step) = inv-step step (inv-run run)

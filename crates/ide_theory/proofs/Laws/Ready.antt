-- Each step keeps instances settled.
use Rattle.std.proofs.Common.{◌≡◌, ◌≢◌, ℕ, ◌⊎◌, true, ◌||◌, List, [], ◌∷◌, Option, Some, None, option_map, IsTrue, ap, sym, subst, refl, ◌∙◌, inl, inr}
use Rattle.std.specs.Prelude.{unwrap_or}
use Rattle.ide_lattice.specs.Algebra.{LatticeAlgebra, EdgeAlgebra}
use Rattle.ide_lattice.specs.Laws.{IsLattice, IsEdgeAlgebra}
use Rattle.ide_wire.specs.Key.{same_key, same_key_refl}
use Rattle.ide_wire.specs.declared.key.Key.{Key}
use Rattle.ide_wire.specs.declared.key.Key.TheVariants.{Jump, Summary}
use Rattle.ide_theory.specs.Frame.{Frame, IsLawfulFrame}
use Rattle.ide_theory.specs.Member.{IsIn, first, later}
use Rattle.ide_theory.specs.Image.{function_of, Instance, flat, seed, after, summarised, IsMet}
use Rattle.ide_theory.specs.State.{Claim, State, put, rest_of, without_first, claim_marked, new_claim, with_claim, part_done, with_function, lowered_in_frame, seeded_at, finished}
use Rattle.ide_theory.specs.Run.{ArePartsOf}
use Rattle.ide_theory.specs.Invariant.{IsOpen, IsSettled, met, awaits, owed, IsHeld}
use Rattle.ide_theory.proofs.Laws.Changes.{key-tells, hand-tells, same-or, some-inj, none-some, map-tells, or-true, left-with, has-claim, kept-with, left-without, left-done, kept-done}
use Rattle.ide_theory.specs.Members.{first-or, not-in-empty}
use Rattle.ide_theory.proofs.Laws.Bridge.{HasProper, proper-function_of}

module _ {F L : Type 0} (A : LatticeAlgebra L) (B : EdgeAlgebra F L) (lattice : IsLattice A) (laws : IsEdgeAlgebra A B) where
  -- functions meet as their values do
  pub meet-commutative : (f g : F) → IsTrue (B.proper f) → IsTrue (B.proper g) → B.meet f g ≡ B.meet g f
  meet-commutative f g p q = laws.exact (B.meet f g) (B.meet g f) (laws.proper_meet f g p q) (laws.proper_meet g f q p)
      (λ x t. laws.apply_meet f g x p q t
      ∙ lattice.commutative (B.apply f x) (B.apply g x) (laws.proper_apply f x p t) (laws.proper_apply g x q t)
      ∙ sym (laws.apply_meet g f x q p t))

  pub meet-associative : (f g h : F) → IsTrue (B.proper f) → IsTrue (B.proper g) → IsTrue (B.proper h)
      → B.meet (B.meet f g) h ≡ B.meet f (B.meet g h)
  meet-associative f g h p q r =
      let pfg : IsTrue (B.proper (B.meet f g)) = laws.proper_meet f g p q in
      let pgh : IsTrue (B.proper (B.meet g h)) = laws.proper_meet g h q r in
      laws.exact (B.meet (B.meet f g) h) (B.meet f (B.meet g h)) (laws.proper_meet (B.meet f g) h pfg r) (laws.proper_meet f (B.meet g h) p pgh)
      (λ x t. laws.apply_meet (B.meet f g) h x pfg r t
      ∙ ap (λ y. A.meet y (B.apply h x)) (laws.apply_meet f g x p q t)
      ∙ lattice.associative (B.apply f x) (B.apply g x) (B.apply h x) (laws.proper_apply f x p t) (laws.proper_apply g x q t) (laws.proper_apply h x r t)
      ∙ ap (A.meet (B.apply f x)) (sym (laws.apply_meet g h x q r t))
      ∙ sym (laws.apply_meet f (B.meet g h) x p pgh t))

  pub meet-idempotent : (f : F) → IsTrue (B.proper f) → B.meet f f ≡ f
  meet-idempotent f p = laws.exact (B.meet f f) f (laws.proper_meet f f p p) p
      (λ x t. laws.apply_meet f f x p p t ∙ lattice.idempotent (B.apply f x) (laws.proper_apply f x p t))

  pub all_top-meet : (f : F) → IsTrue (B.proper f) → B.meet B.all_top f ≡ f
  all_top-meet f p = laws.exact (B.meet B.all_top f) f (laws.proper_meet B.all_top f laws.proper_all_top p) p
      (λ x t. laws.apply_meet B.all_top f x laws.proper_all_top p t
      ∙ ap (λ y. A.meet y (B.apply f x)) (laws.apply_all_top x t)
      ∙ lattice.top_meet (B.apply f x) (laws.proper_apply f x p t))

  -- what was received stays received when more is
  pub still-met : (u g h : F) → IsTrue (B.proper u) → IsTrue (B.proper g) → IsTrue (B.proper h) → B.meet u h ≡ u → B.meet (B.meet u g) h ≡ B.meet u g
  still-met u g h p q r has =
      ap (λ f. B.meet f h) (meet-commutative u g p q)
      ∙ meet-associative g u h q p r
      ∙ ap (B.meet g) has
      ∙ meet-commutative g u q p

  pub now-met : (u g : F) → IsTrue (B.proper u) → IsTrue (B.proper g) → B.meet (B.meet u g) g ≡ B.meet u g
  now-met u g p q = meet-associative u g g p q q ∙ ap (B.meet u) (meet-idempotent g q)

module _ (K : Frame) (laws : IsLawfulFrame K) where
  open K use {L, F, lattice as A, functions as B}

  -- an instance of the image that is changed at a key has the key among its premises, or stood before
  pub other-instance : (get : Key → Option F) (t : Key) (v : Option F) {ks : List Key} {k : Key} {g : F} → Instance K (put same_key get t v) ks k g
      → IsIn t ks ⊎ Instance K get ks k g
  other-instance get t v (flat e a b c f g is_flat same is) = elim (key-tells get t v (Jump (K.graph.from e) a b)) [
    | inl here ↦ inl (subst (λ u. IsIn u (Jump (K.graph.from e) a b ∷ [])) (sym here.0) first)
    | inr other ↦ inr (flat e a b c f g is_flat (sym other.1 ∙ same) is)
  ]
  other-instance get t v (seed e a b c f g is_call same is) = elim (key-tells get t v (Jump (K.graph.from e) a b)) [
    | inl here ↦ inl (subst (λ u. IsIn u (Jump (K.graph.from e) a b ∷ [])) (sym here.0) first)
    | inr other ↦ inr (seed e a b c f g is_call (sym other.1 ∙ same) is)
  ]
  other-instance get t v (after call ret a b d f s matched same passed) =
      let ks : List Key = Jump (K.graph.from call) a b ∷ Summary (K.graph.from call) b d ∷ [] in
      elim (key-tells get t v (Jump (K.graph.from call) a b)) [
        | inl here ↦ inl (subst (λ u. IsIn u ks) (sym here.0) first)
        | inr other ↦ elim (key-tells get t v (Summary (K.graph.from call) b d)) [
          | inl here ↦ inl (subst (λ u. IsIn u ks) (sym here.0) (later first))
          | inr summary ↦ inr (after call ret a b d f s matched (sym other.1 ∙ same) (sym summary.1 ∙ passed))
        ]
      ]
  other-instance get t v (summarised call ret a b c d g f h matched is same out) = elim (key-tells get t v (Jump (K.graph.from ret) b c)) [
    | inl here ↦ inl (subst (λ u. IsIn u (Jump (K.graph.from ret) b c ∷ [])) (sym here.0) first)
    | inr other ↦ inr (summarised call ret a b c d g f h matched is (sym other.1 ∙ same) out)
  ]

  -- to receive the identity at an absent key is to become it
  pub lowered-is-seeded : (s : State F) (t : Key) → s.get t ≡ None → lowered_in_frame K s t B.id ≡ seeded_at K s t
  lowered-is-seeded s t absent =
      ap (with_function s t) (ap (λ o. B.meet (unwrap_or o B.all_top) B.id) absent ∙ all_top-meet A B laws.lattice laws.functions B.id laws.functions.proper_id)

  -- the function of each key after one receives another
  pub function-lowered : (s : State F) (t : Key) (g : F) (k : Key)
      → ((t ≡ k) × (function_of K (lowered_in_frame K s t g).get k ≡ B.meet (function_of K s.get k) g)) ⊎ (function_of K (lowered_in_frame K s t g).get k ≡ function_of K s.get k)
  function-lowered s t g k = elim (key-tells s.get t (Some (B.meet (function_of K s.get t) g)) k) [
    | inl here ↦ inl (here.0, ap (λ o. unwrap_or o B.all_top) here.1 ∙ ap (λ u. B.meet (function_of K s.get u) g) here.0)
    | inr other ↦ inr (ap (λ o. unwrap_or o B.all_top) other.1)
  ]

  -- a function that has been received stays received
  pub met-lowered : (s : State F) → HasProper K s.get → (t : Key) (g : F) → IsTrue (B.proper g) → (k : Key) (f : F) → IsTrue (B.proper f)
      → IsMet K s.get k f → IsMet K (lowered_in_frame K s t g).get k f
  met-lowered s proper t g pg k f pf has =
      let u : F = function_of K s.get k in
      let pu : IsTrue (B.proper u) = proper-function_of K laws s.get proper k in
      elim (function-lowered s t g k) [
        | inl here ↦ subst (λ w. B.meet w f ≡ w) (sym here.1) (still-met A B laws.lattice laws.functions u g f pu pg pf has)
        | inr other ↦ subst (λ w. B.meet w f ≡ w) (sym other) has
      ]

  -- what a lowering gives its key is received
  pub met-now : (s : State F) → HasProper K s.get → (t : Key) (g : F) → IsTrue (B.proper g) → IsMet K (lowered_in_frame K s t g).get t g
  met-now s proper t g pg =
      let u : F = function_of K s.get t in
      let pu : IsTrue (B.proper u) = proper-function_of K laws s.get proper t in
      elim (key-tells s.get t (Some (B.meet u g)) t) [
        | inl here ↦ subst (λ w. B.meet w g ≡ w) (sym (ap (λ o. unwrap_or o B.all_top) here.1)) (now-met A B laws.lattice laws.functions u g pu pg)
        | inr other ↦ elim (other.0 refl) [ ]
      ]

  -- a new claim owes each instance with its key
  pub settled-claim : (s : State F) (h : ℕ) (q : Key) (parts : List (Key × F)) → s.claims h ≡ None → ArePartsOf K s.get q parts
      → {ks : List Key} {k : Key} {g : F} → Instance K s.get ks k g → IsSettled K s ks k g → IsSettled K (with_claim s h (Some (new_claim q parts))) ks k g
  settled-claim s h q parts free all instance (met has) = met has
  settled-claim s h q parts free all {ks = ks} {k = k} {g = g} instance (awaits p among expects) = elim (same-or q p) [
    | inl same ↦
        let needs : IsIn q ks = subst (λ u. IsIn u ks) (sym same) among in
        owed h (new_claim q parts) (has-claim s h (new_claim q parts)) needs refl (all.complete ks k g instance needs)
    | inr differs ↦ awaits p among (record {
      pending = expects.pending;
      stale = λ j c has is. elim (left-with s h (new_claim q parts) j c has) [
        | inl own ↦ elim (differs.0 (ap (λ d. d.key) own.1 ∙ is)) [ ]
        | inr other ↦ expects.stale j c other.1 is
      ];
    })
  ]
  settled-claim s h q parts free all {ks = ks} {k = k} {g = g} instance (owed j c has among fresh part) =
      owed j c (kept-with s h (Some (new_claim q parts)) j c (λ e. none-some (sym free ∙ ap s.claims e ∙ has)) has) among fresh part

  -- a part that is done was received
  pub settled-done : (s : State F) (h : ℕ) (c : Claim F) (t : Key) (f : F) (rest : List (Key × F)) → s.claims h ≡ Some c → c.parts ≡ (t, f) ∷ rest → IsMet K s.get t f
      → {ks : List Key} {k : Key} {g : F} → IsSettled K s ks k g → IsSettled K (part_done s h) ks k g
  settled-done s h c t f rest mine parts has (met before) = met before
  settled-done s h c t f rest mine parts has (awaits p among expects) = awaits p among (record {
    pending = expects.pending;
    stale = λ j d left is.
        let before : (e : Claim F) × (s.claims j ≡ Some e) × ((e ≡ d) ⊎ (without_first e ≡ d)) = left-done s h j d left in
        elim (before.2) [
          | inl same ↦ ap (λ e. e.lowered) (sym same) ∙ expects.stale j before.0 before.1 (ap (λ e. e.key) same ∙ is)
          | inr same ↦ ap (λ e. e.lowered) (sym same) ∙ expects.stale j before.0 before.1 (ap (λ e. e.key) same ∙ is)
        ];
  })
  settled-done s h c t f rest mine parts has {ks = ks} {k = k} {g = g} (owed j d held among fresh part) = elim (kept-done s h j d held) [
    | inr same ↦ owed j d same among fresh part
    | inl own ↦
        let is_mine : d ≡ c = some-inj (sym held ∙ ap s.claims (sym own.0) ∙ mine) in
        let there : IsIn {T = Key × F} (k, g) ((t, f) ∷ rest) = subst (IsIn {T = Key × F} (k, g)) (ap (λ e. e.parts) is_mine ∙ parts) part in
        elim (first-or there) [
          | inl same ↦ met (subst (λ p. IsMet K s.get p.0 p.1) (sym same) has)
          | inr further ↦ owed j (without_first d) own.1 among fresh
              (subst (λ ps. IsIn {T = Key × F} (k, g) (rest_of ps)) (sym (ap (λ e. e.parts) is_mine ∙ parts)) further)
        ]
  ]

  -- what has the lowered key among its premises awaits it; all else stands as before
  pub open-lowered : (s : State F) (t : Key) (f : F) → IsOpen (lowered_in_frame K s t f) t
  open-lowered s t f = record {
    pending = elim (key-tells s.pending t true t) [
      | inl here ↦ here.1
      | inr other ↦ elim (other.0 refl) [ ]
    ];
    stale = λ j d left is.
        let before : (e : Claim F) × (s.claims j ≡ Some e) × (claim_marked t e ≡ d) = map-tells (claim_marked t) (s.claims j) left in
        let same : before.0.key ≡ t = ap (λ e. e.key) before.2 ∙ is in
        ap (λ e. e.lowered) (sym before.2) ∙ ap (λ b. b || before.0.lowered) (ap (λ u. same_key u t) same ∙ same_key_refl t);
  }

  pub pending-lowered : (s : State F) (t : Key) (f : F) (q : Key) → s.pending q ≡ true → (lowered_in_frame K s t f).pending q ≡ true
  pending-lowered s t f q before = elim (key-tells s.pending t true q) [
    | inl here ↦ here.1
    | inr other ↦ other.1 ∙ before
  ]

  pub settled-lowered : (s : State F) → HasProper K s.get → (t : Key) (f : F) → IsTrue (B.proper f)
      → {ks : List Key} {k : Key} {g : F} → IsTrue (B.proper g) → IsSettled K s ks k g → IsSettled K (lowered_in_frame K s t f) ks k g
  settled-lowered s proper t f pf {k = k} {g = g} pg (met has) = met (met-lowered s proper t f pf k g pg has)
  settled-lowered s proper t f pf pg (awaits p among expects) = awaits p among (record {
    pending = pending-lowered s t f p expects.pending;
    stale = λ j d left is.
        let before : (e : Claim F) × (s.claims j ≡ Some e) × (claim_marked t e ≡ d) = map-tells (claim_marked t) (s.claims j) left in
        ap (λ e. e.lowered) (sym before.2)
        ∙ or-true (same_key before.0.key t) before.0.lowered (expects.stale j before.0 before.1 (ap (λ e. e.key) before.2 ∙ is));
  })
  settled-lowered s proper t f pf {ks = ks} pg (owed j d held among fresh part) = elim (same-or d.key t) [
    | inl same ↦ awaits t (subst (λ u. IsIn u ks) same among) (open-lowered s t f)
    | inr differs ↦ owed j (claim_marked t d) (ap (option_map (claim_marked t)) held) among (ap (λ b. b || d.lowered) differs.1 ∙ fresh) part
  ]

  -- without a claim its key is open
  pub settled-release : (s : State F) (h : ℕ) → IsHeld s → {ks : List Key} {k : Key} {g : F} → IsSettled K s ks k g → IsSettled K (with_claim s h None) ks k g
  settled-release s h held (met has) = met has
  settled-release s h held (awaits p among expects) = awaits p among (record {
    pending = expects.pending;
    stale = λ j d left is. expects.stale j d (left-without s h j d left).1 is;
  })
  settled-release s h held (owed j d has among fresh part) = elim (hand-tells s.claims h None j) [
    | inr other ↦ owed j d (other.1 ∙ has) among fresh part
    | inl own ↦ awaits d.key among (record {
      pending = held.pending j d has;
      stale = λ i e left is.
          let before : (h ≢ i) × (s.claims i ≡ Some e) = left-without s h i e left in
          elim (before.0 (own.0 ∙ held.one j i d e has before.1 (sym is))) [ ];
    })
  ]

  -- a claim with no part left owes nothing
  pub settled-finish : (s : State F) (h : ℕ) (c : Claim F) → s.claims h ≡ Some c → c.parts ≡ [] → {ks : List Key} {k : Key} {g : F}
      → IsSettled K s ks k g → IsSettled K (finished s h c) ks k g
  settled-finish s h c mine none (met has) = met has
  settled-finish s h c mine none (awaits p among expects) = awaits p among (record {
    pending = elim (key-tells s.pending c.key c.lowered p) [
      | inl here ↦ here.1 ∙ expects.stale h c mine here.0
      | inr other ↦ other.1 ∙ expects.pending
    ];
    stale = λ j d left is. expects.stale j d (left-without s h j d left).1 is;
  })
  settled-finish s h c mine none {k = k} {g = g} (owed j d has among fresh part) = elim (hand-tells s.claims h None j) [
    | inr other ↦ owed j d (other.1 ∙ has) among fresh part
    | inl own ↦
        let is_mine : d ≡ c = some-inj (sym has ∙ ap s.claims (sym own.0) ∙ mine) in
        elim (not-in-empty (subst (IsIn {T = Key × F} (k, g)) (ap (λ e. e.parts) is_mine ∙ none) part)) [ ]
  ]

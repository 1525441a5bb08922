-- Each instance of a rule gives its key a finite meet of functions of paths, where the present
-- functions are such meets: composition carries meets over on both sides, and paths append.
use Rattle.std.proofs.Common.{◌≡◌, ℕ, List, [], ◌∷◌, ◌++◌, Option, IsTrue, ap, sym, subst, refl, ◌∙◌}
use Rattle.ide_lattice.specs.Algebra.{LatticeAlgebra, EdgeAlgebra}
use Rattle.ide_lattice.specs.Laws.{IsEdgeAlgebra}
use Rattle.ide_wire.specs.declared.key.Key.{Key}
use Rattle.ide_wire.specs.declared.key.Key.TheVariants.{Jump, Summary}
use Rattle.ide_theory.specs.Frame.{Frame, IsLawfulFrame}
use Rattle.ide_theory.specs.Path.{SameLevel, here, step, through}
use Rattle.ide_theory.specs.Image.{IsTarget, Instance, flat, seed, after, summarised}
use Rattle.ide_theory.specs.Entry.{Exploded, done, more, MeetOf, one, both, OfJump, OfSummary, OfKey, IsSound}
use Rattle.ide_theory.proofs.Laws.Targets.{IsInRange, in-range}
use Rattle.ide_theory.proofs.Laws.Bridge.{HasProper}

module _ {F L : Type 0} (A : LatticeAlgebra L) (B : EdgeAlgebra F L) (laws : IsEdgeAlgebra A B) where
  -- identity and composition, by what they do to each value
  pub id-compose : (f : F) → IsTrue (B.proper f) → B.compose B.id f ≡ f
  id-compose f p = laws.exact (B.compose B.id f) f (laws.proper_compose B.id f laws.proper_id p) p
      (λ x q. laws.apply_compose B.id f x laws.proper_id p q ∙ ap (B.apply f) (laws.apply_id x q))

  pub compose-id : (f : F) → IsTrue (B.proper f) → B.compose f B.id ≡ f
  compose-id f p = laws.exact (B.compose f B.id) f (laws.proper_compose f B.id p laws.proper_id) p
      (λ x q. laws.apply_compose f B.id x p laws.proper_id q ∙ laws.apply_id (B.apply f x) (laws.proper_apply f x p q))

  pub compose-assoc : (f g h : F) → IsTrue (B.proper f) → IsTrue (B.proper g) → IsTrue (B.proper h)
      → B.compose (B.compose f g) h ≡ B.compose f (B.compose g h)
  compose-assoc f g h p q r =
      let pfg : IsTrue (B.proper (B.compose f g)) = laws.proper_compose f g p q in
      let pgh : IsTrue (B.proper (B.compose g h)) = laws.proper_compose g h q r in
      laws.exact (B.compose (B.compose f g) h) (B.compose f (B.compose g h)) (laws.proper_compose (B.compose f g) h pfg r) (laws.proper_compose f (B.compose g h) p pgh)
      (λ x t. laws.apply_compose (B.compose f g) h x pfg r t
      ∙ ap (B.apply h) (laws.apply_compose f g x p q t)
      ∙ sym (laws.apply_compose g h (B.apply f x) q r (laws.proper_apply f x p t))
      ∙ sym (laws.apply_compose f (B.compose g h) x p pgh t))

  pub compose-meet : (f g h : F) → IsTrue (B.proper f) → IsTrue (B.proper g) → IsTrue (B.proper h)
      → B.compose (B.meet f g) h ≡ B.meet (B.compose f h) (B.compose g h)
  compose-meet f g h p q r =
      let pm : IsTrue (B.proper (B.meet f g)) = laws.proper_meet f g p q in
      let pfh : IsTrue (B.proper (B.compose f h)) = laws.proper_compose f h p r in
      let pgh : IsTrue (B.proper (B.compose g h)) = laws.proper_compose g h q r in
      laws.exact (B.compose (B.meet f g) h) (B.meet (B.compose f h) (B.compose g h)) (laws.proper_compose (B.meet f g) h pm r) (laws.proper_meet (B.compose f h) (B.compose g h) pfh pgh)
      (λ x t. laws.apply_compose (B.meet f g) h x pm r t
      ∙ ap (B.apply h) (laws.apply_meet f g x p q t)
      ∙ laws.distributive h (B.apply f x) (B.apply g x) r (laws.proper_apply f x p t) (laws.proper_apply g x q t)
      ∙ ap (λ y. A.meet y (B.apply h (B.apply g x))) (sym (laws.apply_compose f h x p r t))
      ∙ ap (A.meet (B.apply (B.compose f h) x)) (sym (laws.apply_compose g h x q r t))
      ∙ sym (laws.apply_meet (B.compose f h) (B.compose g h) x pfh pgh t))

  pub meet-compose : (f g h : F) → IsTrue (B.proper f) → IsTrue (B.proper g) → IsTrue (B.proper h)
      → B.compose f (B.meet g h) ≡ B.meet (B.compose f g) (B.compose f h)
  meet-compose f g h p q r =
      let pm : IsTrue (B.proper (B.meet g h)) = laws.proper_meet g h q r in
      let pfg : IsTrue (B.proper (B.compose f g)) = laws.proper_compose f g p q in
      let pfh : IsTrue (B.proper (B.compose f h)) = laws.proper_compose f h p r in
      laws.exact (B.compose f (B.meet g h)) (B.meet (B.compose f g) (B.compose f h)) (laws.proper_compose f (B.meet g h) p pm) (laws.proper_meet (B.compose f g) (B.compose f h) pfg pfh)
      (λ x t. laws.apply_compose f (B.meet g h) x p pm t
      ∙ laws.apply_meet g h (B.apply f x) q r (laws.proper_apply f x p t)
      ∙ ap (λ y. A.meet y (B.apply h (B.apply f x))) (sym (laws.apply_compose f g x p q t))
      ∙ ap (A.meet (B.apply (B.compose f g) x)) (sym (laws.apply_compose f h x p r t))
      ∙ sym (laws.apply_meet (B.compose f g) (B.compose f h) x pfg pfh t))

  -- a finite meet of proper functions is proper
  pub proper-meets : {Q : F → Type 0} → ((f : F) → Q f → IsTrue (B.proper f)) → {f : F} → MeetOf B Q f → IsTrue (B.proper f)
  proper-meets proper (one {f = f} q) = proper f q
  proper-meets proper (both {f = f} {g = g} m n) = laws.proper_meet f g (proper-meets proper m) (proper-meets proper n)

  -- one function before the functions of a finite meet
  pub one-then : {Q R T : F → Type 0} → ((f : F) → Q f → IsTrue (B.proper f)) → ((f : F) → R f → IsTrue (B.proper f))
      → ((f g : F) → Q f → R g → T (B.compose f g)) → (f : F) → Q f → {g : F} → MeetOf B R g → MeetOf B T (B.compose f g)
  one-then pq pr join f q (one {f = g} r) = one (join f g q r)
  one-then {T = T} pq pr join f q (both {f = g} {g = h} m n) =
      subst (MeetOf B T) (sym (meet-compose f g h (pq f q) (proper-meets pr m) (proper-meets pr n)))
      (both (one-then pq pr join f q m) (one-then pq pr join f q n))

  -- the functions of one finite meet before those of another
  pub meets-then : {Q R T : F → Type 0} → ((f : F) → Q f → IsTrue (B.proper f)) → ((f : F) → R f → IsTrue (B.proper f))
      → ((f g : F) → Q f → R g → T (B.compose f g)) → {f : F} → MeetOf B Q f → {g : F} → MeetOf B R g → MeetOf B T (B.compose f g)
  meets-then pq pr join (one {f = f} q) n = one-then pq pr join f q n
  meets-then {T = T} pq pr join (both {f = f} {g = g} l m) {g = h} n =
      subst (MeetOf B T) (sym (compose-meet f g h (proper-meets pq l) (proper-meets pq m) (proper-meets pr n)))
      (both (meets-then pq pr join l n) (meets-then pq pr join m n))

module _ (K : Frame) (laws : IsLawfulFrame K) where
  open K use {L, F, lattice as A, functions as B, facts, targets, graph, graph.{Edge, from, to, IsFlat, IsCall, Matched, start_of}}

  pub target-in-range : (e : Edge) (k d : ℕ) (f : F) → IsTarget K e k d f → IsInRange B.proper 0 facts (d, f)
  target-in-range e k d f is = in-range B.proper is 0 facts (laws.in_order e k)

  pub proper-listed : (e : Edge) (k d : ℕ) (f : F) → IsTarget K e k d f → IsTrue (B.proper f)
  proper-listed e k d f is = (target-in-range e k d f is).proper

  pub proper-exploded : {es : List Edge} {k d : ℕ} {f : F} → Exploded K es k d f → IsTrue (B.proper f)
  proper-exploded done = laws.functions.proper_id
  proper-exploded (more {f = f} e k m g is path) = laws.functions.proper_compose g f (proper-listed e k m g is) (proper-exploded path)

  pub exploded-append : {es fs : List Edge} {a b c : ℕ} {f g : F} → Exploded K es a b f → Exploded K fs b c g → Exploded K (es ++ fs) a c (B.compose f g)
  exploded-append {fs = fs} {a = a} {c = c} {g = g} done path =
      subst (Exploded K fs a c) (sym (id-compose A B laws.functions g (proper-exploded path))) path
  exploded-append {fs = fs} {c = c} {g = g} (more {es = es} {f = f} e k m h is rest) path =
      subst (Exploded K (e ∷ (es ++ fs)) k c) (sym (compose-assoc A B laws.functions h f g (proper-listed e k m h is) (proper-exploded rest) (proper-exploded path)))
      (more e k m h is (exploded-append rest path))

  -- one edge by its listed function
  pub exploded-edge : (e : Edge) (k d : ℕ) (f : F) → IsTarget K e k d f → Exploded K (e ∷ []) k d f
  exploded-edge e k d f is =
      subst (Exploded K (e ∷ []) k d) (compose-id A B laws.functions f (proper-listed e k d f is)) (more e k d f is done)

  -- what a key may receive is proper
  pub proper-jump : (n a b : ℕ) (f : F) → OfJump K n a b f → IsTrue (B.proper f)
  proper-jump n a b f of = proper-exploded of.exploded

  pub proper-summary : (c a d : ℕ) (f : F) → OfSummary K c a d f → IsTrue (B.proper f)
  proper-summary c a d f of = proper-exploded of.exploded

  pub proper-key : (key : Key) (f : F) → OfKey K key f → IsTrue (B.proper f)
  proper-key (Jump n a b) f of = proper-jump n a b f of
  proper-key (Summary c a d) f of = proper-summary c a d f of

  pub has-proper : (get : Key → Option F) → IsSound K get → HasProper K get
  has-proper get sound key f same = proper-meets A B laws.functions (proper-key key) (sound key f same)

  -- a same-level path that starts at the start of one node's procedure, for another of that procedure
  pub at-start : {s t n : ℕ} {es : List Edge} → s ≡ t → SameLevel graph s es n → SameLevel graph t es n
  at-start {n = n} {es = es} same path = subst (λ s. SameLevel graph s es n) same path

  pub flat-of : (e : Edge) → IsFlat e → (a b c : ℕ) (f g : F) → OfJump K (from e) a b f → IsTarget K e b c g → OfJump K (to e) a c (B.compose f g)
  flat-of e is_flat a b c f g of is = record {
    path = of.path ++ (e ∷ []);
    level = at-start (sym (laws.flat e is_flat)) (step e of.level is_flat);
    exploded = exploded-append of.exploded (exploded-edge e b c g is);
  }

  pub seed-of : (e : Edge) → IsCall e → (c : ℕ) → OfJump K (to e) c c B.id
  seed-of e is_call c = record { path = []; level = at-start (sym (laws.callee e is_call)) here; exploded = done }

  pub after-of : (call ret : Edge) → Matched call ret → (a b d : ℕ) (f s : F) → OfJump K (from call) a b f → OfSummary K (from call) b d s
      → OfJump K (to ret) a d (B.compose f s)
  after-of call ret matched a b d f s of passed =
      let site : to passed.ret ≡ to ret = laws.one_site passed.call passed.ret call ret passed.matched matched passed.at_call in
      let path : List Edge = of.path ++ (passed.call ∷ (passed.path ++ (passed.ret ∷ []))) in
      let before : SameLevel graph (start_of (from call)) of.path (from passed.call) =
      subst (SameLevel graph (start_of (from call)) of.path) (sym passed.at_call) of.level in
      record {
        path = path;
        level = at-start (sym (laws.back call ret matched))
            (subst (SameLevel graph (start_of (from call)) path) site (through passed.call passed.ret before passed.matched passed.level));
        exploded = exploded-append of.exploded passed.exploded;
      }

  pub summarised-of : (call ret : Edge) → Matched call ret → (a b c d : ℕ) (g f h : F) → IsTarget K call a b g → OfJump K (from ret) b c f → IsTarget K ret c d h
      → OfSummary K (from call) a d (B.compose (B.compose g f) h)
  summarised-of call ret matched a b c d g f h is of out = record {
    call = call;
    ret = ret;
    path = of.path;
    matched = matched;
    at_call = refl;
    level = at-start (laws.exit call ret matched) of.level;
    exploded =
        let pg : IsTrue (B.proper g) = proper-listed call a b g is in
        let pf : IsTrue (B.proper f) = proper-exploded of.exploded in
        subst (Exploded K (call ∷ (of.path ++ (ret ∷ []))) a d)
        (sym (compose-assoc A B laws.functions g f h pg pf (proper-listed ret c d h out)))
        (more call a b g is (exploded-append of.exploded (exploded-edge ret c d h out)));
  }

  pub instance-sound : (get : Key → Option F) → IsSound K get → {ks : List Key} {key : Key} {g : F} → Instance K get ks key g → MeetOf B (OfKey K key) g
  instance-sound get sound (flat e a b c f g is_flat same is) =
      meets-then A B laws.functions {R = IsTarget K e b c} (proper-jump (from e) a b) (proper-listed e b c)
      (λ q r of listed. flat-of e is_flat a b c q r of listed) (sound (Jump (from e) a b) f same) (one is)
  instance-sound get sound (seed e a b c f g is_call same is) = one (seed-of e is_call c)
  instance-sound get sound (after call ret a b d f s matched same passed) =
      meets-then A B laws.functions (proper-jump (from call) a b) (proper-summary (from call) b d)
      (λ q r of through. after-of call ret matched a b d q r of through)
      (sound (Jump (from call) a b) f same) (sound (Summary (from call) b d) s passed)
  instance-sound get sound (summarised call ret a b c d g f h matched is same out) =
      let Before : F → Type 0 = λ q. (p : F) × OfJump K (from ret) b c p × (B.compose g p ≡ q) in
      let pg : IsTrue (B.proper g) = proper-listed call a b g is in
      let proper_before : (q : F) → Before q → IsTrue (B.proper q) =
      λ q before. subst (λ u. IsTrue (B.proper u)) before.2 (laws.functions.proper_compose g before.0 pg (proper-jump (from ret) b c before.0 before.1)) in
      let entered : MeetOf B Before (B.compose g f) =
      one-then A B laws.functions {Q = λ q. q ≡ g} {T = Before} (λ q itself. subst (λ u. IsTrue (B.proper u)) (sym itself) pg) (proper-jump (from ret) b c)
      (λ q p itself of. (p, of, ap (λ u. B.compose u p) (sym itself))) g refl (sound (Jump (from ret) b c) f same) in
      meets-then A B laws.functions {Q = Before} {R = IsTarget K ret c d} proper_before (proper-listed ret c d)
      (λ q r before listed. subst (λ u. OfSummary K (from call) a d (B.compose u r)) before.2
      (summarised-of call ret matched a b c d g before.0 r is before.1 listed))
      entered (one out)

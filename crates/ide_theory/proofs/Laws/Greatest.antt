-- The greatest half: the value at a node is above whatever is below the effect of each valid path.
-- An entry is covered by the functions of same-level paths, a start value by the values of paths
-- that have just entered, and the two join to valid paths, whose effect is below.
use Rattle.std.proofs.Common.{◌≡◌, ℕ, ◌<◌, ◌⊎◌, List, [], ◌∷◌, ◌++◌, Option, IsTrue, ap, sym, subst, refl, ◌∙◌, inl, inr, append_assoc}
use Rattle.ide_lattice.specs.Order.{IsBelow, IsDistributive, below-refl, below-trans, below-meet, distributive-mono}
use Rattle.ide_lattice.specs.Meets.{proper-meet_of, meet_of-below, below-meet_of, distributive-apply}
use Rattle.ide_problem.specs.Flow.{function_to}
use Rattle.ide_wire.specs.declared.key.Key.{Key}
use Rattle.ide_wire.specs.declared.key.Key.TheVariants.{Jump, Summary}
use Rattle.ide_theory.specs.Frame.{Frame, Roots, AreRoots, IsLawfulFrame}
use Rattle.ide_theory.specs.Path.{SameLevel, Valid, within, enters}
use Rattle.ide_theory.specs.Effect.{arrow, edge_effect, path_effect}
use Rattle.ide_theory.specs.Best.{IsBelowPaths, IsBest}
use Rattle.ide_theory.specs.Image.{IsTarget, function_of, Instance, IsMet, HasRoots}
use Rattle.ide_theory.specs.Entry.{Exploded, done, more, MeetOf, one, both, OfJump, IsSound}
use Rattle.ide_theory.specs.Value.{jump_map, Found, nothing, given, passed, meet, IsStarted, value_at}
use Rattle.ide_theory.proofs.Laws.Folds.{distributive-then}
use Rattle.ide_theory.proofs.Laws.Effects.{IsProper, distributive-arrow, proper-edge, proper-term}
use Rattle.ide_theory.proofs.Laws.Targets.{target-is}
use Rattle.ide_theory.proofs.Laws.Lower.{IsDecreasing, IsClosed, valid-lower}
use Rattle.ide_theory.proofs.Laws.Bridge.{present-or, present-is, HasProper, proper-at, proper-arrow, distributive-of, below-when-top, absent-top, unlisted-top, listed-or, met-below, satisfied-of}
use Rattle.ide_theory.proofs.Laws.Sound.{proper-meets, proper-listed, target-in-range, proper-exploded, exploded-append, exploded-edge, proper-jump, has-proper}

-- a path from the root that ends where it enters a procedure
pub data Entered (K : Frame) (r : ℕ) : List K.graph.Edge → ℕ → Type 0 where
  at_root : Entered K r [] r
  by_call : {es : List K.graph.Edge} → (e : K.graph.Edge) → Valid K.graph r es (K.graph.from e) → K.graph.IsCall e → Entered K r (es ++ (e ∷ [])) (K.graph.to e)

-- a value that one path which has just entered gives a fact at a start
pub record OfEntered (K : Frame) (R : Roots K) (s d : ℕ) (y : K.L) : Type 0 where
  pub root : ℕ
  pub is_root : R.IsRoot root
  pub path : List K.graph.Edge
  pub entered : Entered K root path s
  pub fact : ℕ
  pub in_range : fact < K.facts
  pub function : K.F
  pub exploded : Exploded K path fact d function
  pub same : y ≡ K.functions.apply function (R.entry fact)

module _ (K : Frame) (laws : IsLawfulFrame K) where
  open K use {L, F, lattice as A, functions as B, facts, targets, graph, graph.{Edge, from, to, IsFlat, IsCall, Matched, start_of}}

  -- the effect of a path is below what it does from fact to fact
  pub exploded-above : {es : List Edge} {k d : ℕ} {f : F} → Exploded K es k d f → (env : ℕ → L) → IsProper K laws env → k < facts
      → IsBelow A (path_effect K es env d) (B.apply f (env k))
  exploded-above (done {k = k}) env p h =
      subst (IsBelow A (env k)) (sym (laws.functions.apply_id (env k) (p k h))) (below-refl A laws.lattice (env k) (p k h))
  exploded-above (more {es = es} {d = d} {f = f} e k m g is path) env p h =
      let after_edge : ℕ → L = edge_effect K e env in
      let pf : IsTrue (B.proper f) = proper-exploded K laws path in
      let pg : IsTrue (B.proper g) = proper-listed K laws e k m g is in
      let arrow_is : function_to B m (targets e k) ≡ g = target-is B is 0 facts (laws.in_order e k) in
      subst (IsBelow A (path_effect K es after_edge d)) (sym (laws.functions.apply_compose g f (env k) pg pf (p k h)))
      (below-trans A laws.lattice (path_effect K es after_edge d) (B.apply f (after_edge m)) (B.apply f (B.apply g (env k)))
      (exploded-above path after_edge (λ j _. proper-edge K laws e env p j) (target-in-range K laws e k m g is).most)
      (distributive-mono A laws.lattice (B.apply f) (distributive-apply A laws.lattice B laws.functions f pf) (after_edge m) (B.apply g (env k))
      (subst (λ u. IsBelow A (after_edge m) (B.apply u (env k))) arrow_is
      (meet_of-below A laws.lattice (λ j. arrow K e j m (env j)) facts (proper-term K laws e env p m) k h))))

  -- what is below a distributive map of each function's value is below that of their meet's value
  pub meets-cover : {Q : F → Type 0} → ((f : F) → Q f → IsTrue (B.proper f)) → {f : F} → MeetOf B Q f
      → (h : L → L) → IsDistributive A h → (x w : L) → IsTrue (A.proper x)
      → ((g : F) → Q g → IsBelow A w (h (B.apply g x))) → IsBelow A w (h (B.apply f x))
  meets-cover proper (one {f = f} q) h dist x w p below = below f q
  meets-cover proper (both {f = f} {g = g} m n) h dist x w p below =
      let pf : IsTrue (B.proper f) = proper-meets A B laws.functions proper m in
      let pg : IsTrue (B.proper g) = proper-meets A B laws.functions proper n in
      subst (IsBelow A w)
      (sym (dist.carries (B.apply f x) (B.apply g x) (laws.functions.proper_apply f x pf p) (laws.functions.proper_apply g x pg p))
      ∙ ap h (sym (laws.functions.apply_meet f g x pf pg p)))
      (below-meet A laws.lattice w (h (B.apply f x)) (h (B.apply g x)) (meets-cover proper m h dist x w p below) (meets-cover proper n h dist x w p below))

  -- after entering a procedure, a path within it is a valid path
  pub entered-then : {r s n : ℕ} {es fs : List Edge} → Entered K r es s → SameLevel graph s fs n → Valid graph r (es ++ fs) n
  entered-then at_root path = within path
  entered-then {r} {n = n} {fs = fs} (by_call {es = es} e valid call) path =
      subst (λ gs. Valid graph r gs n) (sym (append_assoc es (e ∷ []) fs)) (enters e valid call path)

  module _ (R : Roots K) (given_roots : AreRoots K R) (get : Key → Option F) (sound : IsSound K get) where
    open R use {IsRoot, entry}

    pub proper : HasProper K get
    proper = has-proper K laws get sound

    -- what is below a distributive map of each path's function is below that of the entry's value
    pub jump-cover : (n a b : ℕ) (h : L → L) → IsDistributive A h → (x w : L) → IsTrue (A.proper x) → IsTrue (A.proper w)
        → ((g : F) → OfJump K n a b g → IsBelow A w (h (B.apply g x))) → IsBelow A w (h (jump_map K get n a b x))
    jump-cover n a b h dist x w p q below = elim (present-or K get (Jump n a b)) [
      | inr absent ↦ below-when-top K laws get proper w (h (jump_map K get n a b x)) q
          (ap h (absent-top K laws get proper (Jump n a b) x p absent) ∙ dist.top)
      | inl found ↦ subst (λ f. IsBelow A w (h (B.apply f x))) (sym (present-is K get (Jump n a b) found.0 found.1))
          (meets-cover (proper-jump K laws n a b) (sound (Jump n a b) found.0 found.1) h dist x w p below)
    ]

    pub proper-found : {s k : ℕ} {x : L} → Found K R get s k x → IsTrue (A.proper x)
    proper-found nothing = laws.lattice.proper_top
    proper-found (given {k = k} root h) = given_roots.proper k h
    proper-found (passed {a = a} {x = x} e b c call before) =
        proper-arrow K laws get proper e b c (jump_map K get (from e) a b x) (proper-at K laws get proper (Jump (from e) a b) x (proper-found before))
    proper-found (meet {x = x} {y = y} m n) = laws.lattice.proper_meet x y (proper-found m) (proper-found n)

    -- a path that has just entered goes on through its procedure and over a call
    pub passed-on : (e : Edge) → IsCall e → (a b c : ℕ) (q g : F) (y : L) → IsTarget K e b c q → OfJump K (from e) a b g → OfEntered K R (start_of (from e)) a y
        → OfEntered K R (to e) c (B.apply q (B.apply g y))
    passed-on e call a b c q g y is of before =
        let pf : IsTrue (B.proper before.function) = proper-exploded K laws before.exploded in
        let pg : IsTrue (B.proper g) = proper-exploded K laws of.exploded in
        let pq : IsTrue (B.proper q) = proper-listed K laws e b c q is in
        let fg : F = B.compose before.function g in
        let pe : IsTrue (A.proper (entry before.fact)) = given_roots.proper before.fact before.in_range in
        record {
          root = before.root;
          is_root = before.is_root;
          path = (before.path ++ of.path) ++ (e ∷ []);
          entered = by_call e (entered-then before.entered of.level) call;
          fact = before.fact;
          in_range = before.in_range;
          function = B.compose fg q;
          exploded = exploded-append K laws (exploded-append K laws before.exploded of.exploded) (exploded-edge K laws e b c q is);
          same =
              ap (λ z. B.apply q (B.apply g z)) before.same
              ∙ ap (B.apply q) (sym (laws.functions.apply_compose before.function g (entry before.fact) pf pg pe))
              ∙ sym (laws.functions.apply_compose fg q (entry before.fact) (laws.functions.proper_compose before.function g pf pg) pq pe);
        }

    -- what is below a distributive map of the value of each path that has just entered is below that
    -- of the start value
    pub found-cover : {s k : ℕ} {x : L} → Found K R get s k x → (h : L → L) → IsDistributive A h → (w : L) → IsTrue (A.proper w)
        → ((y : L) → OfEntered K R s k y → IsBelow A w (h y)) → IsBelow A w (h x)
    found-cover nothing h dist w q below = below-when-top K laws get proper w (h A.top) q dist.top
    found-cover (given {r = r} {k = k} root i) h dist w q below =
        below (entry k) (record {
          root = r;
          is_root = root;
          path = [];
          entered = at_root;
          fact = k;
          in_range = i;
          function = B.id;
          exploded = done;
          same = sym (laws.functions.apply_id (entry k) (given_roots.proper k i));
        })
    found-cover (passed {a = a} {x = x} e b c call before) h dist w q below =
        let px : IsTrue (A.proper x) = proper-found before in
        let key : Key = Jump (from e) a b in
        let z : L = jump_map K get (from e) a b x in
        let last : IsDistributive A (arrow K e b c) = distributive-arrow K laws e b c in
        let both_maps : IsDistributive A (λ y. h (arrow K e b c y)) = distributive-then A (arrow K e b c) h last dist in
        elim (listed-or K laws get proper e b c) [
          | inr unlisted ↦ below-when-top K laws get proper w (h (arrow K e b c z)) q
              (ap h (unlisted-top K laws get proper e b c z (proper-at K laws get proper key x px) unlisted) ∙ dist.top)
          | inl listed ↦ jump-cover (from e) a b (λ y. h (arrow K e b c y)) both_maps x w px q
              (λ g of. let pg : IsTrue (B.proper g) = proper-exploded K laws of.exploded in
              let inner : IsDistributive A (B.apply g) = distributive-apply A laws.lattice B laws.functions g pg in
              found-cover before (λ y. h (arrow K e b c (B.apply g y)))
              (distributive-then A (B.apply g) (λ y. h (arrow K e b c y)) inner both_maps) w q
              (λ y entered. below (arrow K e b c (B.apply g y))
              (passed-on e call a b c (function_to B c (targets e b)) g y listed of entered)))
        ]
    found-cover (meet {x = x} {y = y} m n) h dist w q below =
        subst (IsBelow A w) (sym (dist.carries x y (proper-found m) (proper-found n)))
        (below-meet A laws.lattice w (h x) (h y) (found-cover m h dist w q below) (found-cover n h dist w q below))

    -- what is below each valid path's effect is below the value of one that has entered and goes on within the procedure
    pub below-joined : (n d : ℕ) (w : L) → IsBelowPaths K R n d w → (k : ℕ) (g : F) → OfJump K n k d g → (y : L) → OfEntered K R (start_of n) k y
        → IsBelow A w (B.apply g y)
    below-joined n d w below k g of y before =
        let pf : IsTrue (B.proper before.function) = proper-exploded K laws before.exploded in
        let pg : IsTrue (B.proper g) = proper-exploded K laws of.exploded in
        let path : List Edge = before.path ++ of.path in
        let pe : IsTrue (A.proper (entry before.fact)) = given_roots.proper before.fact before.in_range in
        subst (IsBelow A w)
        (laws.functions.apply_compose before.function g (entry before.fact) pf pg pe ∙ ap (B.apply g) (sym before.same))
        (below-trans A laws.lattice w (path_effect K path entry d) (B.apply (B.compose before.function g) (entry before.fact))
        (below before.root path before.is_root (entered-then before.entered of.level))
        (exploded-above (exploded-append K laws before.exploded of.exploded) entry given_roots.proper before.in_range))

    module _ (start : ℕ → ℕ → L) (found : (s k : ℕ) → k < facts → Found K R get s k (start s k)) where
      pub value-greatest : (n d : ℕ) (w : L) → IsTrue (A.proper w) → IsBelowPaths K R n d w → IsBelow A w (value_at K get start n d)
      value-greatest n d w q below =
          below-meet_of A laws.lattice w (λ k. jump_map K get n k d (start (start_of n) k)) facts q
          (λ k h. let x : L = start (start_of n) k in
          let begun : Found K R get (start_of n) k x = found (start_of n) k h in
          jump-cover n k d (λ y. y) (record { proper = λ y p. p; carries = λ y z p r. refl; top = refl }) x w (proper-found begun) q
          (λ g of. let pg : IsTrue (B.proper g) = proper-exploded K laws of.exploded in
          found-cover begun (B.apply g) (distributive-apply A laws.lattice B laws.functions g pg) w q
          (λ y entered. below-joined n d w below k g of y entered)))

-- in a sound image in which the roots' identities stand and each instance is met, the values that
-- follow from found start values are best
pub best-value : (K : Frame) → IsLawfulFrame K → (R : Roots K) → AreRoots K R → (get : Key → Option K.F) → IsSound K get → HasRoots K R get
    → ((ks : List Key) (key : Key) (g : K.F) → Instance K get ks key g → IsMet K get key g)
    → (start : ℕ → ℕ → K.L) → IsStarted K R get start → (n d : ℕ) → d < K.facts → IsBest K R n d (value_at K get start n d)
best-value K laws R given_roots get sound roots met start started n d h =
    let ok : HasProper K get = has-proper K laws get sound in
    let proper_start : (s k : ℕ) → k < K.facts → IsTrue (K.lattice.proper (start s k)) = λ s k i. proper-found K laws R given_roots get sound (started.found s k i) in
    let closed : IsClosed K R (jump_map K get) start = record { proper = proper_start; root = started.root; call = started.call } in
    let seeded : (r : ℕ) → R.IsRoot r → (k : ℕ) → k < K.facts → (R.entry k ≡ K.lattice.top) ⊎ IsDecreasing K (jump_map K get r k k) = λ r root k i.
    elim (roots r k root i) [
      | inl top ↦ inl top
      | inr identity ↦ inr (λ x p. subst (IsBelow K.lattice (jump_map K get r k k x)) (laws.functions.apply_id x p)
          (met-below K laws get ok (Jump r k k) K.functions.id x laws.functions.proper_id p identity))
    ] in
    record {
      proper = proper-meet_of K.lattice laws.lattice (λ k. jump_map K get n k d (start (K.graph.start_of n) k)) K.facts
          (λ k i. proper-at K laws get ok (Jump n k d) (start (K.graph.start_of n) k) (proper_start (K.graph.start_of n) k i));
      lower = λ r es root path. valid-lower K laws (jump_map K get) (λ c a b. K.functions.apply (function_of K get (Summary c a b)))
          (λ m a b. distributive-of K laws get ok (Jump m a b)) (satisfied-of K laws get ok met) R given_roots start closed seeded path root d h;
      greatest = value-greatest K laws R given_roots get sound start started.found n d;
    }

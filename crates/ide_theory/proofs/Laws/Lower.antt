-- The lower half: tables that satisfy the rules give values that are below the effect of each
-- path. It goes by induction on same-level paths, for any environment at their start; the meets
-- over facts are carried through distributive maps one after the other.
use Rattle.std.proofs.Common.{◌≡◌, ℕ, ◌<◌, ◌⊎◌, List, [], ◌∷◌, ◌++◌, IsTrue, sym, subst, ◌∙◌, inl, inr}
use Rattle.ide_lattice.specs.Order.{IsBelow, IsDistributive, below-trans, below-top, distributive-mono}
use Rattle.ide_lattice.specs.Meets.{meet_of, proper-meet_of, meet_of-below, below-meet_of, distributive-meet_of, below-through}
use Rattle.ide_theory.specs.Frame.{Frame, Roots, AreRoots, IsLawfulFrame}
use Rattle.ide_theory.specs.Path.{SameLevel, here, step, through, Valid, within, enters}
use Rattle.ide_theory.specs.Effect.{arrow, edge_effect, path_effect}
use Rattle.ide_theory.proofs.Laws.Folds.{all-or, meet_of-top, distributive-then}
use Rattle.ide_theory.proofs.Laws.Effects.{IsProper, IsLower, distributive-arrow, proper-edge, edge-mono, path-mono, path-append}

-- a map gives each proper value one below it
abbrev pub IsDecreasing : (K : Frame) → (K.L → K.L) → Type 0
IsDecreasing K h = (x : K.L) → IsTrue (K.lattice.proper x) → IsBelow K.lattice (h x) x

-- the rules of the tabulation, on maps: `jump n a b` from fact `a` at the start of `n`'s procedure
-- to `b` at `n`, `summary c a d` from `a` at a call node to `d` at its return site
pub record IsSatisfied (K : Frame) (jump summary : ℕ → ℕ → ℕ → K.L → K.L) : Type 0 where
  pub flat : (e : K.graph.Edge) → K.graph.IsFlat e → (a b c : ℕ) (x : K.L) → IsTrue (K.lattice.proper x)
      → IsBelow K.lattice (jump (K.graph.to e) a c x) (arrow K e b c (jump (K.graph.from e) a b x))
  pub seeds : (e : K.graph.Edge) → K.graph.IsCall e → (a b c : ℕ)
      → ((x : K.L) → IsTrue (K.lattice.proper x) → arrow K e b c (jump (K.graph.from e) a b x) ≡ K.lattice.top)
      ⊎ IsDecreasing K (jump (K.graph.to e) c c)
  pub summarised : (call ret : K.graph.Edge) → K.graph.Matched call ret → (a b c d : ℕ) (x : K.L) → IsTrue (K.lattice.proper x)
      → IsBelow K.lattice (summary (K.graph.from call) a d x) (arrow K ret c d (jump (K.graph.from ret) b c (arrow K call a b x)))
  pub after : (call ret : K.graph.Edge) → K.graph.Matched call ret → (a b d : ℕ) (x : K.L) → IsTrue (K.lattice.proper x)
      → IsBelow K.lattice (jump (K.graph.to ret) a d x) (summary (K.graph.from call) b d (jump (K.graph.from call) a b x))

-- what the value phase leaves at the starts, on maps
pub record IsClosed (K : Frame) (R : Roots K) (jump : ℕ → ℕ → ℕ → K.L → K.L) (start : ℕ → ℕ → K.L) : Type 0 where
  pub proper : (s k : ℕ) → k < K.facts → IsTrue (K.lattice.proper (start s k))
  pub root : (r k : ℕ) → R.IsRoot r → k < K.facts → IsBelow K.lattice (start r k) (R.entry k)
  pub call : (e : K.graph.Edge) → K.graph.IsCall e → (a b c : ℕ) → a < K.facts → b < K.facts → c < K.facts
      → IsBelow K.lattice (start (K.graph.to e) c) (arrow K e b c (jump (K.graph.from e) a b (start (K.graph.start_of (K.graph.from e)) a)))

-- a same-level path stays in its procedure
pub same-start : (K : Frame) → IsLawfulFrame K → {s n : ℕ} {es : List K.graph.Edge} → SameLevel K.graph s es n → K.graph.start_of s ≡ s
    → K.graph.start_of n ≡ s
same-start K laws here own = own
same-start K laws (step e path flat) own = laws.flat e flat ∙ same-start K laws path own
same-start K laws (through call ret path matched inner) own = laws.back call ret matched ∙ same-start K laws path own

module _ (K : Frame) (laws : IsLawfulFrame K) (jump summary : ℕ → ℕ → ℕ → K.L → K.L)
    (good : (n a b : ℕ) → IsDistributive K.lattice (jump n a b)) (rules : IsSatisfied K jump summary) where
  open K use {L, lattice as A, facts, graph, graph.{Edge, from, to, IsFlat, IsCall, Matched, start_of}}

  -- the environment at a node, from one at the start of its procedure
  abbrev pub jumped : ℕ → (ℕ → L) → ℕ → L
  jumped n env d = meet_of A (λ k. jump n k d (env k)) facts

  pub proper-jumped : (n : ℕ) (env : ℕ → L) → IsProper K laws env → (d : ℕ) → IsTrue (A.proper (jumped n env d))
  proper-jumped n env p d = proper-meet_of A laws.lattice (λ k. jump n k d (env k)) facts (λ k h. (good n k d).proper (env k) (p k h))

  -- the environment at a node is below what each fact gives
  pub jumped-below : (n : ℕ) (env : ℕ → L) → IsProper K laws env → (d k : ℕ) → k < facts → IsBelow A (jumped n env d) (jump n k d (env k))
  jumped-below n env p d = meet_of-below A laws.lattice (λ k. jump n k d (env k)) facts (λ k h. (good n k d).proper (env k) (p k h))

  pub jumped-mono : (n : ℕ) (low high : ℕ → L) → IsLower K laws low high → (d : ℕ) → IsBelow A (jumped n low d) (jumped n high d)
  jumped-mono n low high under d =
      let p : IsProper K laws low = λ k h. (under k h).left in
      below-meet_of A laws.lattice (jumped n low d) (λ k. jump n k d (high k)) facts (proper-jumped n low p d)
      (λ k h. below-trans A laws.lattice (jumped n low d) (jump n k d (low k)) (jump n k d (high k))
      (jumped-below n low p d k h)
      (distributive-mono A laws.lattice (jump n k d) (good n k d) (low k) (high k) (under k h)))

  -- what is below a distributive map of each fact's value is below that of the environment at the node
  pub through-jumped : (h : L → L) → IsDistributive A h → (w : L) → IsTrue (A.proper w) → (n : ℕ) (env : ℕ → L) → IsProper K laws env → (d : ℕ)
      → ((k : ℕ) → k < facts → IsBelow A w (h (jump n k d (env k)))) → IsBelow A w (h (jumped n env d))
  through-jumped h dist w q n env p d below =
      below-through A laws.lattice h dist w (λ k. jump n k d (env k)) facts q (λ k b. (good n k d).proper (env k) (p k b)) below

  -- the same for the environment after an edge
  pub through-edge : (h : L → L) → IsDistributive A h → (w : L) → IsTrue (A.proper w) → (e : Edge) (env : ℕ → L) → IsProper K laws env → (d : ℕ)
      → ((k : ℕ) → k < facts → IsBelow A w (h (arrow K e k d (env k)))) → IsBelow A w (h (edge_effect K e env d))
  through-edge h dist w q e env p d below =
      below-through A laws.lattice h dist w (λ k. arrow K e k d (env k)) facts q
      (λ k b. (distributive-arrow K laws e k d).proper (env k) (p k b)) below

  pub flat-lower : (e : Edge) → IsFlat e → (env : ℕ → L) → IsProper K laws env → (d : ℕ)
      → IsBelow A (jumped (to e) env d) (edge_effect K e (jumped (from e) env) d)
  flat-lower e flat env p d =
      let w : L = jumped (to e) env d in
      let q : IsTrue (A.proper w) = proper-jumped (to e) env p d in
      below-meet_of A laws.lattice w (λ b. arrow K e b d (jumped (from e) env b)) facts q
      (λ b _. through-jumped (arrow K e b d) (distributive-arrow K laws e b d) w q (from e) env p b
      (λ a h. below-trans A laws.lattice w (jump (to e) a d (env a)) (arrow K e b d (jump (from e) a b (env a)))
      (jumped-below (to e) env p d a h)
      (rules.flat e flat a b d (env a) (p a h))))

  -- each fact is top in the environment, or the start's identity was generated for it
  abbrev pub IsSeeded : ℕ → (ℕ → L) → Type 0
  IsSeeded s env = (d : ℕ) → d < facts → (env d ≡ A.top) ⊎ IsDecreasing K (jump s d d)

  pub call-seeded : (e : Edge) → IsCall e → (env : ℕ → L) → IsProper K laws env → IsSeeded (to e) (edge_effect K e (jumped (from e) env))
  call-seeded e call env p c _ =
      let IsTop : ℕ → ℕ → Type 0 = λ b a. arrow K e b c (jump (from e) a b (env a)) ≡ A.top in
      let Identity : Type 0 = IsDecreasing K (jump (to e) c c) in
      let of_one : (b a : ℕ) → a < facts → IsTop b a ⊎ Identity = λ b a h. elim (rules.seeds e call a b c) [
        | inl tops ↦ inl (tops (env a) (p a h))
        | inr identity ↦ inr identity
      ] in
      elim (all-or (λ b. (a : ℕ) → a < facts → IsTop b a) Identity facts (λ b _. all-or (IsTop b) Identity facts (of_one b))) [
        | inr identity ↦ inr identity
        | inl tops ↦ inl (meet_of-top A laws.lattice (λ b. arrow K e b c (jumped (from e) env b)) facts
            (λ b h. distributive-meet_of A laws.lattice (arrow K e b c) (distributive-arrow K laws e b c) (λ a. jump (from e) a b (env a)) facts
            (λ a g. (good (from e) a b).proper (env a) (p a g))
            ∙ meet_of-top A laws.lattice (λ a. arrow K e b c (jump (from e) a b (env a))) facts (tops b h)))
      ]

  pub call-lower : (call ret : Edge) → Matched call ret → (env : ℕ → L) → IsProper K laws env → (d : ℕ)
      → IsBelow A (jumped (to ret) env d) (edge_effect K ret (jumped (from ret) (edge_effect K call (jumped (from call) env))) d)
  call-lower call ret matched env p d =
      let w : L = jumped (to ret) env d in
      let q : IsTrue (A.proper w) = proper-jumped (to ret) env p d in
      let at_call : ℕ → L = jumped (from call) env in
      let at_call_proper : IsProper K laws at_call = λ a _. proper-jumped (from call) env p a in
      let entered : ℕ → L = edge_effect K call at_call in
      let entered_proper : IsProper K laws entered = λ b _. proper-edge K laws call at_call at_call_proper b in
      below-meet_of A laws.lattice w (λ c. arrow K ret c d (jumped (from ret) entered c)) facts q
      (λ c _. let last : IsDistributive A (arrow K ret c d) = distributive-arrow K laws ret c d in
      through-jumped (arrow K ret c d) last w q (from ret) entered entered_proper c
      (λ b _. let inner : IsDistributive A (λ x. arrow K ret c d (jump (from ret) b c x)) =
      distributive-then A (jump (from ret) b c) (arrow K ret c d) (good (from ret) b c) last in
      through-edge (λ x. arrow K ret c d (jump (from ret) b c x)) inner w q call at_call at_call_proper b
      (λ a _. let outer : IsDistributive A (λ x. arrow K ret c d (jump (from ret) b c (arrow K call a b x))) =
      distributive-then A (arrow K call a b) (λ x. arrow K ret c d (jump (from ret) b c x)) (distributive-arrow K laws call a b) inner in
      through-jumped (λ x. arrow K ret c d (jump (from ret) b c (arrow K call a b x))) outer w q (from call) env p a
      (λ k h. let x : L = jump (from call) k a (env k) in
      below-trans A laws.lattice w (jump (to ret) k d (env k)) (arrow K ret c d (jump (from ret) b c (arrow K call a b x)))
      (jumped-below (to ret) env p d k h)
      (below-trans A laws.lattice (jump (to ret) k d (env k)) (summary (from call) a d x)
      (arrow K ret c d (jump (from ret) b c (arrow K call a b x)))
      (rules.after call ret matched k a d (env k) (p k h))
      (rules.summarised call ret matched a b c d x ((good (from call) k a).proper (env k) (p k h))))))))

  -- the effect of a path that goes through a call
  pub through-effect : (es fs : List Edge) (call ret : Edge) (env : ℕ → L)
      → path_effect K (es ++ (call ∷ (fs ++ (ret ∷ [])))) env
      ≡ edge_effect K ret (path_effect K fs (edge_effect K call (path_effect K es env)))
  through-effect es fs call ret env =
      path-append K laws es (call ∷ (fs ++ (ret ∷ []))) env
      ∙ path-append K laws fs (ret ∷ []) (edge_effect K call (path_effect K es env))

  -- jump functions from a start on are below the effect of each same-level path from there
  pub same-lower : {s n : ℕ} {es : List Edge} → SameLevel graph s es n → (env : ℕ → L) → IsProper K laws env → IsSeeded s env
      → IsLower K laws (jumped n env) (path_effect K es env)
  same-lower {s} here env p seeded d h =
      let w : L = jumped s env d in
      elim (seeded d h) [
        | inl top ↦ subst (IsBelow A w) (sym top) (below-top A laws.lattice w (proper-jumped s env p d))
        | inr identity ↦ below-trans A laws.lattice w (jump s d d (env d)) (env d) (jumped-below s env p d d h) (identity (env d) (p d h))
      ]
  same-lower {s} (step {es = es} e path flat) env p seeded d h =
      let before : IsLower K laws (jumped (from e) env) (path_effect K es env) = same-lower path env p seeded in
      subst (λ f. IsBelow A (jumped (to e) env d) (f d)) (sym (path-append K laws es (e ∷ []) env))
      (below-trans A laws.lattice (jumped (to e) env d) (edge_effect K e (jumped (from e) env) d) (edge_effect K e (path_effect K es env) d)
      (flat-lower e flat env p d)
      (edge-mono K laws e (jumped (from e) env) (path_effect K es env) before d))
  same-lower {s} (through {es = es} {fs = fs} call ret path matched inner) env p seeded d h =
      let at_call : ℕ → L = jumped (from call) env in
      let before : IsLower K laws at_call (path_effect K es env) = same-lower path env p seeded in
      let at_call_proper : IsProper K laws at_call = λ a _. proper-jumped (from call) env p a in
      let entered : ℕ → L = edge_effect K call at_call in
      let entered_proper : IsProper K laws entered = λ b _. proper-edge K laws call at_call at_call_proper b in
      let within_callee : IsLower K laws (jumped (from ret) entered) (path_effect K fs entered) =
      same-lower inner entered entered_proper (call-seeded call (laws.is_call call ret matched) env p) in
      let higher : IsLower K laws (path_effect K fs entered) (path_effect K fs (edge_effect K call (path_effect K es env))) =
      path-mono K laws fs entered (edge_effect K call (path_effect K es env))
      (λ b _. edge-mono K laws call at_call (path_effect K es env) before b) in
      subst (λ f. IsBelow A (jumped (to ret) env d) (f d)) (sym (through-effect es fs call ret env))
      (below-trans A laws.lattice (jumped (to ret) env d) (edge_effect K ret (jumped (from ret) entered) d)
      (edge_effect K ret (path_effect K fs (edge_effect K call (path_effect K es env))) d)
      (call-lower call ret matched env p d)
      (edge-mono K laws ret (jumped (from ret) entered) (path_effect K fs (edge_effect K call (path_effect K es env)))
      (λ c g. below-trans A laws.lattice (jumped (from ret) entered c) (path_effect K fs entered c)
      (path_effect K fs (edge_effect K call (path_effect K es env)) c) (within_callee c g) (higher c g)) d))

  module _ (R : Roots K) (given : AreRoots K R) (start : ℕ → ℕ → L) (closed : IsClosed K R jump start) (roots : (r : ℕ) → R.IsRoot r → IsSeeded r R.entry) where
    open R use {IsRoot, entry}

    -- the start values of a callee are below what a call hands on
    pub start-lower : (e : Edge) → IsCall e → IsLower K laws (start (to e)) (edge_effect K e (jumped (from e) (start (start_of (from e)))))
    start-lower e call c h =
        let env : ℕ → L = start (start_of (from e)) in
        let p : IsProper K laws env = closed.proper (start_of (from e)) in
        let w : L = start (to e) c in
        let q : IsTrue (A.proper w) = closed.proper (to e) c h in
        below-meet_of A laws.lattice w (λ b. arrow K e b c (jumped (from e) env b)) facts q
        (λ b g. through-jumped (arrow K e b c) (distributive-arrow K laws e b c) w q (from e) env p b
        (λ a i. closed.call e call a b c i g h))

    -- the values at a node are below the effect of each valid path there
    pub valid-lower : {r n : ℕ} {es : List Edge} → Valid graph r es n → IsRoot r
        → IsLower K laws (jumped n (start (start_of n))) (path_effect K es entry)
    valid-lower {r} {n} (within {es = es} path) root d h =
        let low : IsLower K laws (start r) entry = λ k g. closed.root r k root g in
        subst (λ s. IsBelow A (jumped n (start s) d) (path_effect K es entry d)) (sym (same-start K laws path (given.start r root)))
        (below-trans A laws.lattice (jumped n (start r) d) (jumped n entry d) (path_effect K es entry d)
        (jumped-mono n (start r) entry low d)
        (same-lower path entry given.proper (roots r root) d h))
    valid-lower {r} {n} (enters {es = es} {fs = fs} e path call inner) root d h =
        let env : ℕ → L = start (start_of (from e)) in
        let p : IsProper K laws env = closed.proper (start_of (from e)) in
        let before : IsLower K laws (jumped (from e) env) (path_effect K es entry) = valid-lower path root in
        let entered : ℕ → L = edge_effect K e (jumped (from e) env) in
        let entered_proper : IsProper K laws entered = λ b _. proper-edge K laws e (jumped (from e) env) (λ a _. proper-jumped (from e) env p a) b in
        let higher : IsLower K laws (path_effect K fs entered) (path_effect K fs (edge_effect K e (path_effect K es entry))) =
        path-mono K laws fs entered (edge_effect K e (path_effect K es entry))
        (λ b _. edge-mono K laws e (jumped (from e) env) (path_effect K es entry) before b) in
        subst (λ s. IsBelow A (jumped n (start s) d) (path_effect K (es ++ (e ∷ fs)) entry d)) (sym (same-start K laws inner (laws.callee e call)))
        (subst (λ f. IsBelow A (jumped n (start (to e)) d) (f d)) (sym (path-append K laws es (e ∷ fs) entry))
        (below-trans A laws.lattice (jumped n (start (to e)) d) (jumped n entered d) (path_effect K fs (edge_effect K e (path_effect K es entry)) d)
        (jumped-mono n (start (to e)) entered (start-lower e call) d)
        (below-trans A laws.lattice (jumped n entered d) (path_effect K fs entered d) (path_effect K fs (edge_effect K e (path_effect K es entry)) d)
        (same-lower inner entered entered_proper (call-seeded e call env p) d h)
        (higher d h))))

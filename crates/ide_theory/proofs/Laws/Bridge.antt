-- From function values to maps: an image in which every instance is met satisfies the rules on
-- maps. Where a target is not listed or a key is absent, the map gives top.
use Rattle.std.proofs.Common.{◌≡◌, ℕ, ◌⊎◌, List, [], ◌∷◌, Option, Some, None, IsTrue, ap, sym, subst, refl, ◌∙◌, inl, inr}
use Rattle.std.specs.Prelude.{unwrap_or}
use Rattle.ide_lattice.specs.Order.{IsBelow, IsDistributive, below-top}
use Rattle.ide_lattice.specs.Meets.{distributive-apply}
use Rattle.ide_problem.specs.Flow.{function_to}
use Rattle.ide_wire.specs.declared.key.Key.{Key}
use Rattle.ide_wire.specs.declared.key.Key.TheVariants.{Jump, Summary}
use Rattle.ide_theory.specs.Frame.{Frame, IsLawfulFrame}
use Rattle.ide_theory.specs.Effect.{arrow}
use Rattle.ide_theory.specs.Image.{IsTarget, function_of, Instance, flat, seed, after, summarised, IsMet}
use Rattle.ide_theory.specs.Value.{jump_map}
use Rattle.ide_theory.proofs.Laws.Effects.{proper-target}
use Rattle.ide_theory.proofs.Laws.Targets.{target-or}
use Rattle.ide_theory.proofs.Laws.Lower.{IsDecreasing, IsSatisfied}

-- each present key has a proper function
abbrev pub HasProper : (K : Frame) → (Key → Option K.F) → Type 0
HasProper K get = (key : Key) (f : K.F) → get key ≡ Some f → IsTrue (K.functions.proper f)

-- a key is present or absent
pub present-or : (K : Frame) (get : Key → Option K.F) (key : Key) → ((f : K.F) × (get key ≡ Some f)) ⊎ (get key ≡ None)
present-or K get key = go (get key) refl
  where
    go : (o : Option K.F) → get key ≡ o → ((f : K.F) × (get key ≡ Some f)) ⊎ (get key ≡ None)
    go (Some f) same = inl (f, same)
    go None same = inr same

pub present-is : (K : Frame) (get : Key → Option K.F) (key : Key) (f : K.F) → get key ≡ Some f → function_of K get key ≡ f
present-is K get key f same = ap (λ o. unwrap_or o K.functions.all_top) same

pub absent-is : (K : Frame) (get : Key → Option K.F) (key : Key) → get key ≡ None → function_of K get key ≡ K.functions.all_top
absent-is K get key same = ap (λ o. unwrap_or o K.functions.all_top) same

pub proper-function_of : (K : Frame) → IsLawfulFrame K → (get : Key → Option K.F) → HasProper K get → (key : Key) → IsTrue (K.functions.proper (function_of K get key))
proper-function_of K laws get proper key = elim (present-or K get key) [
  | inl found ↦ subst (λ f. IsTrue (K.functions.proper f)) (sym (present-is K get key found.0 found.1)) (proper key found.0 found.1)
  | inr absent ↦ subst (λ f. IsTrue (K.functions.proper f)) (sym (absent-is K get key absent)) laws.functions.proper_all_top
]

module _ (K : Frame) (laws : IsLawfulFrame K) (get : Key → Option K.F) (proper : HasProper K get) where
  open K use {L, F, lattice as A, functions as B, facts, targets, graph, graph.{Edge, from, to, IsFlat, IsCall, Matched}}

  pub proper-of : (key : Key) → IsTrue (B.proper (function_of K get key))
  proper-of = proper-function_of K laws get proper

  pub distributive-of : (key : Key) → IsDistributive A (B.apply (function_of K get key))
  distributive-of key = distributive-apply A laws.lattice B laws.functions (function_of K get key) (proper-of key)

  pub proper-at : (key : Key) (x : L) → IsTrue (A.proper x) → IsTrue (A.proper (B.apply (function_of K get key) x))
  proper-at key x p = laws.functions.proper_apply (function_of K get key) x (proper-of key) p

  pub proper-arrow : (e : Edge) (k d : ℕ) (x : L) → IsTrue (A.proper x) → IsTrue (A.proper (arrow K e k d x))
  proper-arrow e k d x p = laws.functions.proper_apply (function_to B d (targets e k)) x (proper-target K laws e k d) p

  -- an arrow maps top to top, and so does the function of a key
  pub arrow-top : (e : Edge) (k d : ℕ) (x : L) → x ≡ A.top → arrow K e k d x ≡ A.top
  arrow-top e k d x same = ap (arrow K e k d) same ∙ laws.functions.apply_top (function_to B d (targets e k)) (proper-target K laws e k d)

  pub of-top : (key : Key) (x : L) → x ≡ A.top → B.apply (function_of K get key) x ≡ A.top
  of-top key x same = ap (B.apply (function_of K get key)) same ∙ laws.functions.apply_top (function_of K get key) (proper-of key)

  -- an unlisted arrow gives top, and so does an absent key
  pub unlisted-top : (e : Edge) (k d : ℕ) (x : L) → IsTrue (A.proper x) → function_to B d (targets e k) ≡ B.all_top → arrow K e k d x ≡ A.top
  unlisted-top e k d x p same = ap (λ f. B.apply f x) same ∙ laws.functions.apply_all_top x p

  pub absent-top : (key : Key) (x : L) → IsTrue (A.proper x) → get key ≡ None → B.apply (function_of K get key) x ≡ A.top
  absent-top key x p same = ap (λ f. B.apply f x) (absent-is K get key same) ∙ laws.functions.apply_all_top x p

  pub below-when-top : (w y : L) → IsTrue (A.proper w) → y ≡ A.top → IsBelow A w y
  below-when-top w y p same = subst (IsBelow A w) (sym same) (below-top A laws.lattice w p)

  -- a listed target, or an arrow that gives top
  pub listed-or : (e : Edge) (k d : ℕ) → IsTarget K e k d (function_to B d (targets e k)) ⊎ (function_to B d (targets e k) ≡ B.all_top)
  listed-or e k d = target-or B d (targets e k)

  -- a key's function is below each that it has received
  pub met-below : (key : Key) (g : F) (x : L) → IsTrue (B.proper g) → IsTrue (A.proper x) → IsMet K get key g
      → IsBelow A (B.apply (function_of K get key) x) (B.apply g x)
  met-below key g x q p met = record {
    left = proper-at key x p;
    right = laws.functions.proper_apply g x q p;
    below = sym (laws.functions.apply_meet (function_of K get key) g x (proper-of key) q p) ∙ ap (λ f. B.apply f x) met;
  }

  module _ (met : (ks : List Key) (key : Key) (g : F) → Instance K get ks key g → IsMet K get key g) where
    abbrev pub summary_map : ℕ → ℕ → ℕ → L → L
    summary_map c a d = B.apply (function_of K get (Summary c a d))

    pub flat-met : (e : Edge) → IsFlat e → (a b c : ℕ) (x : L) → IsTrue (A.proper x)
        → IsBelow A (jump_map K get (to e) a c x) (arrow K e b c (jump_map K get (from e) a b x))
    flat-met e is_flat a b c x p =
        let w : L = jump_map K get (to e) a c x in
        let q : IsTrue (A.proper w) = proper-at (Jump (to e) a c) x p in
        let y : L = jump_map K get (from e) a b x in
        let g : F = function_to B c (targets e b) in
        let pg : IsTrue (B.proper g) = proper-target K laws e b c in
        elim (listed-or e b c) [
          | inr unlisted ↦ below-when-top w (arrow K e b c y) q (unlisted-top e b c y (proper-at (Jump (from e) a b) x p) unlisted)
          | inl listed ↦ elim (present-or K get (Jump (from e) a b)) [
            | inr absent ↦ below-when-top w (arrow K e b c y) q (arrow-top e b c y (absent-top (Jump (from e) a b) x p absent))
            | inl found ↦
                let pf : IsTrue (B.proper found.0) = proper (Jump (from e) a b) found.0 found.1 in
                subst (IsBelow A w)
                (laws.functions.apply_compose found.0 g x pf pg p
                ∙ ap (λ f. B.apply g (B.apply f x)) (sym (present-is K get (Jump (from e) a b) found.0 found.1)))
                (met-below (Jump (to e) a c) (B.compose found.0 g) x (laws.functions.proper_compose found.0 g pf pg) p
                (met (Jump (from e) a b ∷ []) (Jump (to e) a c) (B.compose found.0 g) (flat e a b c found.0 g is_flat found.1 listed)))
          ]
        ]

    pub seeds-met : (e : Edge) → IsCall e → (a b c : ℕ)
        → ((x : L) → IsTrue (A.proper x) → arrow K e b c (jump_map K get (from e) a b x) ≡ A.top) ⊎ IsDecreasing K (jump_map K get (to e) c c)
    seeds-met e is_call a b c =
        elim (listed-or e b c) [
          | inr unlisted ↦ inl (λ x p. unlisted-top e b c (jump_map K get (from e) a b x) (proper-at (Jump (from e) a b) x p) unlisted)
          | inl listed ↦ elim (present-or K get (Jump (from e) a b)) [
            | inr absent ↦ inl (λ x p. arrow-top e b c (jump_map K get (from e) a b x) (absent-top (Jump (from e) a b) x p absent))
            | inl found ↦ inr (λ x p. subst (IsBelow A (jump_map K get (to e) c c x)) (laws.functions.apply_id x p)
                (met-below (Jump (to e) c c) B.id x laws.functions.proper_id p
                (met (Jump (from e) a b ∷ []) (Jump (to e) c c) B.id
                (seed e a b c found.0 (function_to B c (targets e b)) is_call found.1 listed))))
          ]
        ]

    pub after-met : (call ret : Edge) → Matched call ret → (a b d : ℕ) (x : L) → IsTrue (A.proper x)
        → IsBelow A (jump_map K get (to ret) a d x) (summary_map (from call) b d (jump_map K get (from call) a b x))
    after-met call ret matched a b d x p =
        let w : L = jump_map K get (to ret) a d x in
        let q : IsTrue (A.proper w) = proper-at (Jump (to ret) a d) x p in
        let y : L = jump_map K get (from call) a b x in
        let r : IsTrue (A.proper y) = proper-at (Jump (from call) a b) x p in
        elim (present-or K get (Jump (from call) a b)) [
          | inr absent ↦ below-when-top w (summary_map (from call) b d y) q (of-top (Summary (from call) b d) y (absent-top (Jump (from call) a b) x p absent))
          | inl found ↦ elim (present-or K get (Summary (from call) b d)) [
            | inr absent ↦ below-when-top w (summary_map (from call) b d y) q (absent-top (Summary (from call) b d) y r absent)
            | inl passed ↦
                let pf : IsTrue (B.proper found.0) = proper (Jump (from call) a b) found.0 found.1 in
                let ps : IsTrue (B.proper passed.0) = proper (Summary (from call) b d) passed.0 passed.1 in
                subst (IsBelow A w)
                (laws.functions.apply_compose found.0 passed.0 x pf ps p
                ∙ ap (λ f. B.apply passed.0 (B.apply f x)) (sym (present-is K get (Jump (from call) a b) found.0 found.1))
                ∙ ap (λ s. B.apply s y) (sym (present-is K get (Summary (from call) b d) passed.0 passed.1)))
                (met-below (Jump (to ret) a d) (B.compose found.0 passed.0) x (laws.functions.proper_compose found.0 passed.0 pf ps) p
                (met (Jump (from call) a b ∷ Summary (from call) b d ∷ []) (Jump (to ret) a d) (B.compose found.0 passed.0)
                (after call ret a b d found.0 passed.0 matched found.1 passed.1)))
          ]
        ]

    pub summarised-met : (call ret : Edge) → Matched call ret → (a b c d : ℕ) (x : L) → IsTrue (A.proper x)
        → IsBelow A (summary_map (from call) a d x) (arrow K ret c d (jump_map K get (from ret) b c (arrow K call a b x)))
    summarised-met call ret matched a b c d x p =
        let w : L = summary_map (from call) a d x in
        let q : IsTrue (A.proper w) = proper-at (Summary (from call) a d) x p in
        let y : L = arrow K call a b x in
        let py : IsTrue (A.proper y) = proper-arrow call a b x p in
        let key : Key = Jump (from ret) b c in
        let z : L = jump_map K get (from ret) b c y in
        let pz : IsTrue (A.proper z) = proper-at key y py in
        let g : F = function_to B b (targets call a) in
        let pg : IsTrue (B.proper g) = proper-target K laws call a b in
        let h : F = function_to B d (targets ret c) in
        let ph : IsTrue (B.proper h) = proper-target K laws ret c d in
        elim (listed-or call a b) [
          | inr unlisted ↦ below-when-top w (arrow K ret c d z) q (arrow-top ret c d z (of-top key y (unlisted-top call a b x p unlisted)))
          | inl called ↦ elim (listed-or ret c d) [
            | inr unlisted ↦ below-when-top w (arrow K ret c d z) q (unlisted-top ret c d z pz unlisted)
            | inl returned ↦ elim (present-or K get key) [
              | inr absent ↦ below-when-top w (arrow K ret c d z) q (arrow-top ret c d z (absent-top key y py absent))
              | inl found ↦
                  let pf : IsTrue (B.proper found.0) = proper key found.0 found.1 in
                  let gf : F = B.compose g found.0 in
                  let pgf : IsTrue (B.proper gf) = laws.functions.proper_compose g found.0 pg pf in
                  subst (IsBelow A w)
                  (laws.functions.apply_compose gf h x pgf ph p
                  ∙ ap (B.apply h) (laws.functions.apply_compose g found.0 x pg pf p)
                  ∙ ap (λ f. B.apply h (B.apply f y)) (sym (present-is K get key found.0 found.1)))
                  (met-below (Summary (from call) a d) (B.compose gf h) x (laws.functions.proper_compose gf h pgf ph) p
                  (met (key ∷ []) (Summary (from call) a d) (B.compose gf h)
                  (summarised call ret a b c d g found.0 h matched called found.1 returned)))
            ]
          ]
        ]

    pub satisfied-of : IsSatisfied K (jump_map K get) summary_map
    satisfied-of = record {
      flat = flat-met;
      seeds = seeds-met;
      summarised = summarised-met;
      after = after-met;
    }

-- The parts of a key are what each instance with the key gives, and nothing else.
use Rattle.std.proofs.Common.{◌≡◌, ℕ, ◌<◌, ◌≤◌, ◌⊎◌, Bool, true, false, cond, nat_eq, List, [], ◌∷◌, ◌++◌, Option, Some, None, map, sym, subst, refl, inl, inr, arith}
use Rattle.std.specs.List.{flat_map, range_with_len}
use Rattle.ide_wire.specs.declared.key.Key.{Key}
use Rattle.ide_wire.specs.declared.key.Key.TheVariants.{Jump, Summary}
use Rattle.ide_theory.specs.Frame.{Frame, IsLawfulFrame}
use Rattle.ide_theory.specs.Member.{IsIn, first}
use Rattle.ide_theory.specs.Image.{IsTarget, Instance, flat, seed, after, summarised}
use Rattle.ide_theory.specs.Run.{ArePartsOf}
use Rattle.ide_theory.specs.Parts.{NodeEdges, CallBetween, AreEdgesOf, if_some, parts_of_seed, parts_over_flat, parts_after_call, parts_at_exit, parts_resumed, jump_parts, parts_of, IsKeyInRange, AreKeysInRange}
use Rattle.ide_theory.specs.Members.{first-or, not-in-empty, in-one, in-left, in-right, in-either, in-map, of-map, in-flat_map, of-flat_map, in-range_below}
use Rattle.ide_theory.proofs.Laws.Targets.{nat_eq-refl, nat_eq-exact}
use Rattle.ide_theory.proofs.Laws.Sound.{target-in-range}

-- what stands in the list that follows from a value, if there is one
pub of-if_some : {X Y : Type 0} (o : Option X) (f : X → List Y) {y : Y} → IsIn y (if_some o f) → (x : X) × (o ≡ Some x) × IsIn y (f x)
of-if_some None f is = elim (not-in-empty is) [ ]
of-if_some (Some x) f is = (x, refl, is)

pub in-if_some : {X Y : Type 0} (o : Option X) (f : X → List Y) {y : Y} (x : X) → o ≡ Some x → IsIn y (f x) → IsIn y (if_some o f)
in-if_some o f {y} x same is = subst (λ u. IsIn y (if_some u f)) (sym same) is

-- what stands in a list that is empty unless the test holds
pub of-cond : {Y : Type 0} (b : Bool) (ys : List Y) {y : Y} → IsIn y (cond b ys []) → (b ≡ true) × IsIn y ys
of-cond true ys is = (refl, is)
of-cond false ys is = elim (not-in-empty is) [ ]

module _ (K : Frame) (laws : IsLawfulFrame K) (get : Key → Option K.F) where
  open K use {F, functions.{compose, id}, facts, targets, graph.{Edge, from, to, IsFlat, IsCall, Matched}}

  -- a fact that has a target is in range
  pub source-in-range : (e : Edge) (k d : ℕ) (f : F) → IsTarget K e k d f → k < facts
  source-in-range e k d f is = elim (below-or k facts) [
    | inl below ↦ below
    | inr past ↦ elim (not-in-empty (subst (IsIn {T = ℕ × F} (d, f)) (laws.none_outside e k past) is)) [ ]
  ]
    where
      below-or : (k n : ℕ) → (k < n) ⊎ (n ≤ k)
      below-or k n = grind (arith)

  -- an instance over present keys in range gives to a key in range
  pub instance-in-range : AreKeysInRange K get → {ks : List Key} {k : Key} {g : F} → Instance K get ks k g → IsKeyInRange facts k
  instance-in-range ranged (flat e a b c f g is_flat same is) =
      ((ranged (Jump (from e) a b) f same).0, (target-in-range K laws e b c g is).most)
  instance-in-range ranged (seed e a b c f g is_call same is) =
      let most : c < facts = (target-in-range K laws e b c g is).most in (most, most)
  instance-in-range ranged (after call ret a b d f s matched same passed) =
      ((ranged (Jump (from call) a b) f same).0, (ranged (Summary (from call) b d) s passed).1)
  instance-in-range ranged (summarised call ret a b c d g f h matched is same out) =
      (source-in-range call a b g is, (target-in-range K laws ret c d h out).most)

  module _ (at : ℕ → NodeEdges Edge) (edges : AreEdgesOf K at) where
    -- the four lists that are joined
    pub in-seeds : (n a b : ℕ) (f : F) {p : Key × F} → IsIn p (flat_map (λ e. parts_of_seed K get e b) (at n).calls) → IsIn p (jump_parts K get (at n) n a b f)
    in-seeds n a b f is = in-left (flat_map (λ e. parts_over_flat K get e a b f) (at n).flat
        ++ (flat_map (parts_after_call K get n a b f) (at n).return_sites ++ flat_map (parts_at_exit K get a b f) (at n).callers)) is

    pub in-flats : (n a b : ℕ) (f : F) {p : Key × F} → IsIn p (flat_map (λ e. parts_over_flat K get e a b f) (at n).flat) → IsIn p (jump_parts K get (at n) n a b f)
    in-flats n a b f is = in-right (flat_map (λ e. parts_of_seed K get e b) (at n).calls)
        (in-left (flat_map (parts_after_call K get n a b f) (at n).return_sites ++ flat_map (parts_at_exit K get a b f) (at n).callers) is)

    pub in-afters : (n a b : ℕ) (f : F) {p : Key × F} → IsIn p (flat_map (parts_after_call K get n a b f) (at n).return_sites) → IsIn p (jump_parts K get (at n) n a b f)
    in-afters n a b f is = in-right (flat_map (λ e. parts_of_seed K get e b) (at n).calls)
        (in-right (flat_map (λ e. parts_over_flat K get e a b f) (at n).flat) (in-left (flat_map (parts_at_exit K get a b f) (at n).callers) is))

    pub in-exits : (n a b : ℕ) (f : F) {p : Key × F} → IsIn p (flat_map (parts_at_exit K get a b f) (at n).callers) → IsIn p (jump_parts K get (at n) n a b f)
    in-exits n a b f is = in-right (flat_map (λ e. parts_of_seed K get e b) (at n).calls)
        (in-right (flat_map (λ e. parts_over_flat K get e a b f) (at n).flat) (in-right (flat_map (parts_after_call K get n a b f) (at n).return_sites) is))

    pub in-jump : (n a b : ℕ) (f : F) {p : Key × F} → get (Jump n a b) ≡ Some f → IsIn p (jump_parts K get (at n) n a b f) → IsIn p (parts_of K get at (Jump n a b))
    in-jump n a b f same is = in-if_some (get (Jump n a b)) (jump_parts K get (at n) n a b) f same is

    pub in-summary : (c b d : ℕ) (s : F) {p : Key × F} → get (Summary c b d) ≡ Some s → IsIn p (flat_map (parts_resumed K get c b d s) (at c).return_sites)
        → IsIn p (parts_of K get at (Summary c b d))
    in-summary c b d s same is = in-if_some (get (Summary c b d)) (λ s. flat_map (parts_resumed K get c b d s) (at c).return_sites) s same is

    -- what each instance gives is among the parts of each of its premises
    pub parts-complete : AreKeysInRange K get → {ks : List Key} {k : Key} {g : F} → Instance K get ks k g → {q : Key} → IsIn q ks
        → IsIn {T = Key × F} (k, g) (parts_of K get at q)
    parts-complete ranged {k = k} {g = g} (flat e a b c f h is_flat same is) among =
        subst (λ u. IsIn {T = Key × F} (k, g) (parts_of K get at u)) (sym (in-one among))
        (in-jump (from e) a b f same (in-flats (from e) a b f
        (in-flat_map (λ e. parts_over_flat K get e a b f) (edges.has_flat e is_flat)
        (in-map (λ (t : ℕ × F). (Jump (to e) a t.0, compose f t.1)) is))))
    parts-complete ranged {k = k} {g = g} (seed e a b c f h is_call same is) among =
        subst (λ u. IsIn {T = Key × F} (k, g) (parts_of K get at u)) (sym (in-one among))
        (in-jump (from e) a b f same (in-seeds (from e) a b f
        (in-flat_map (λ e. parts_of_seed K get e b) (edges.has_call e is_call)
        (in-map (λ (t : ℕ × F). (Jump (to e) t.0 t.0, id)) is))))
    parts-complete ranged {k = k} {g = g} (after call ret a b d f s matched same passed) {q} among =
        let site : IsIn (to ret) (at (from call)).return_sites = edges.has_site call ret matched in
        elim (first-or among) [
          | inl jump ↦ subst (λ u. IsIn {T = Key × F} (k, g) (parts_of K get at u)) (sym jump)
              (in-jump (from call) a b f same (in-afters (from call) a b f
              (in-flat_map (parts_after_call K get (from call) a b f) site
              (in-flat_map (λ d. if_some (get (Summary (from call) b d)) (λ s. (Jump (to ret) a d, compose f s) ∷ []))
              (in-range_below facts d (ranged (Summary (from call) b d) s passed).1)
              (in-if_some (get (Summary (from call) b d)) (λ s. (Jump (to ret) a d, compose f s) ∷ []) s passed first)))))
          | inr rest ↦ subst (λ u. IsIn {T = Key × F} (k, g) (parts_of K get at u)) (sym (in-one rest))
              (in-summary (from call) b d s passed
              (in-flat_map (parts_resumed K get (from call) b d s) site
              (in-flat_map (λ a. if_some (get (Jump (from call) a b)) (λ f. (Jump (to ret) a d, compose f s) ∷ []))
              (in-range_below facts a (ranged (Jump (from call) a b) f same).0)
              (in-if_some (get (Jump (from call) a b)) (λ f. (Jump (to ret) a d, compose f s) ∷ []) f same first))))
        ]
    parts-complete ranged {k = k} {g = g} (summarised call ret a b c d h f l matched is same out) among =
        let returns : List (Key × F) = map (λ u. (Summary (from call) a u.0, compose (compose h f) u.1)) (targets ret c) in
        let listed : IsIn {T = Key × F} (k, g) returns = in-map (λ (u : ℕ × F). (Summary (from call) a u.0, compose (compose h f) u.1)) out in
        subst (λ u. IsIn {T = Key × F} (k, g) (parts_of K get at u)) (sym (in-one among))
        (in-jump (from ret) b c f same (in-exits (from ret) b c f
        (in-flat_map (parts_at_exit K get b c f) (edges.has_caller call ret matched)
        (in-flat_map (λ x. flat_map (λ t. cond (nat_eq t.0 b) (map (λ u. (Summary (from call) x u.0, compose (compose t.1 f) u.1)) (targets ret c)) []) (targets call x))
        (in-range_below facts a (source-in-range call a b h is))
        (in-flat_map (λ t. cond (nat_eq t.0 b) (map (λ u. (Summary (from call) a u.0, compose (compose t.1 f) u.1)) (targets ret c)) []) is
        (subst (λ v. IsIn {T = Key × F} (k, g) (cond v returns [])) (sym (nat_eq-refl b)) listed))))))

    -- what a part is of
    abbrev pub FromRule : Key × F → Type 0
    FromRule p = (ks : List Key) × Instance K get ks p.0 p.1

    pub seeds-right : (n a b : ℕ) (f : F) → get (Jump n a b) ≡ Some f → {p : Key × F} → IsIn p (flat_map (λ e. parts_of_seed K get e b) (at n).calls) → FromRule p
    seeds-right n a b f same {p} is =
        let edge : (e : Edge) × IsIn e (at n).calls × IsIn p (parts_of_seed K get e b) = of-flat_map (λ e. parts_of_seed K get e b) (at n).calls is in
        let call : IsCall edge.0 × (from edge.0 ≡ n) = edges.is_call n edge.0 edge.1 in
        let target : (t : ℕ × F) × IsIn t (targets edge.0 b) × ((Jump (to edge.0) t.0 t.0, id) ≡ p) =
        of-map (λ t. (Jump (to edge.0) t.0 t.0, id)) (targets edge.0 b) edge.2 in
        subst FromRule target.2 (
          Jump (from edge.0) a b ∷ [],
          seed edge.0 a b target.0.0 f target.0.1 call.0 (subst (λ m. get (Jump m a b) ≡ Some f) (sym call.1) same) target.1,
        )

    pub flats-right : (n a b : ℕ) (f : F) → get (Jump n a b) ≡ Some f → {p : Key × F} → IsIn p (flat_map (λ e. parts_over_flat K get e a b f) (at n).flat) → FromRule p
    flats-right n a b f same {p} is =
        let edge : (e : Edge) × IsIn e (at n).flat × IsIn p (parts_over_flat K get e a b f) = of-flat_map (λ e. parts_over_flat K get e a b f) (at n).flat is in
        let stays : IsFlat edge.0 × (from edge.0 ≡ n) = edges.is_flat n edge.0 edge.1 in
        let target : (t : ℕ × F) × IsIn t (targets edge.0 b) × ((Jump (to edge.0) a t.0, compose f t.1) ≡ p) =
        of-map (λ t. (Jump (to edge.0) a t.0, compose f t.1)) (targets edge.0 b) edge.2 in
        subst FromRule target.2 (
          Jump (from edge.0) a b ∷ [],
          flat edge.0 a b target.0.0 f target.0.1 stays.0 (subst (λ m. get (Jump m a b) ≡ Some f) (sym stays.1) same) target.1,
        )

    -- a jump function at a call node and a summary there give one part
    pub over-call : (n m a b d : ℕ) (f s : F) → CallBetween K n m → get (Jump n a b) ≡ Some f → get (Summary n b d) ≡ Some s → FromRule (Jump m a d, compose f s)
    over-call n m a b d f s between same passed =
        subst (λ u. FromRule (Jump u a d, compose f s)) between.returns (
          Jump (from between.call) a b ∷ Summary (from between.call) b d ∷ [],
          after between.call between.ret a b d f s between.matched
              (subst (λ u. get (Jump u a b) ≡ Some f) (sym between.leaves) same)
              (subst (λ u. get (Summary u b d) ≡ Some s) (sym between.leaves) passed),
        )

    pub afters-right : (n a b : ℕ) (f : F) → get (Jump n a b) ≡ Some f → {p : Key × F} → IsIn p (flat_map (parts_after_call K get n a b f) (at n).return_sites) → FromRule p
    afters-right n a b f same {p} is =
        let site : (m : ℕ) × IsIn m (at n).return_sites × IsIn p (parts_after_call K get n a b f m) = of-flat_map (parts_after_call K get n a b f) (at n).return_sites is in
        let fact : (d : ℕ) × IsIn d (range_with_len 0 facts) × IsIn p (if_some (get (Summary n b d)) (λ s. (Jump site.0 a d, compose f s) ∷ [])) =
        of-flat_map (λ d. if_some (get (Summary n b d)) (λ s. (Jump site.0 a d, compose f s) ∷ [])) (range_with_len 0 facts) site.2 in
        let summary : (s : F) × (get (Summary n b fact.0) ≡ Some s) × IsIn p ((Jump site.0 a fact.0, compose f s) ∷ []) =
        of-if_some (get (Summary n b fact.0)) (λ s. (Jump site.0 a fact.0, compose f s) ∷ []) fact.2 in
        subst FromRule (sym (in-one summary.2)) (over-call n site.0 a b fact.0 f summary.0 (edges.is_site n site.0 site.1) same summary.1)

    pub resumed-right : (c b d : ℕ) (s : F) → get (Summary c b d) ≡ Some s → {p : Key × F} → IsIn p (flat_map (parts_resumed K get c b d s) (at c).return_sites) → FromRule p
    resumed-right c b d s same {p} is =
        let site : (m : ℕ) × IsIn m (at c).return_sites × IsIn p (parts_resumed K get c b d s m) = of-flat_map (parts_resumed K get c b d s) (at c).return_sites is in
        let fact : (a : ℕ) × IsIn a (range_with_len 0 facts) × IsIn p (if_some (get (Jump c a b)) (λ f. (Jump site.0 a d, compose f s) ∷ [])) =
        of-flat_map (λ a. if_some (get (Jump c a b)) (λ f. (Jump site.0 a d, compose f s) ∷ [])) (range_with_len 0 facts) site.2 in
        let jump : (f : F) × (get (Jump c fact.0 b) ≡ Some f) × IsIn p ((Jump site.0 fact.0 d, compose f s) ∷ []) =
        of-if_some (get (Jump c fact.0 b)) (λ f. (Jump site.0 fact.0 d, compose f s) ∷ []) fact.2 in
        subst FromRule (sym (in-one jump.2)) (over-call c site.0 fact.0 b d jump.0 s (edges.is_site c site.0 site.1) jump.1 same)

    pub exits-right : (n a b : ℕ) (f : F) → get (Jump n a b) ≡ Some f → {p : Key × F} → IsIn p (flat_map (parts_at_exit K get a b f) (at n).callers) → FromRule p
    exits-right n a b f same {p} is =
        let caller : (pair : Edge × Edge) × IsIn pair (at n).callers × IsIn p (parts_at_exit K get a b f pair) = of-flat_map (parts_at_exit K get a b f) (at n).callers is in
        let call : Edge = caller.0.0 in
        let ret : Edge = caller.0.1 in
        let leaves : Matched call ret × (from ret ≡ n) = edges.is_caller n call ret caller.1 in
        let source : (x : ℕ) × IsIn x (range_with_len 0 facts)
        × IsIn p (flat_map (λ t. cond (nat_eq t.0 a) (map (λ u. (Summary (from call) x u.0, compose (compose t.1 f) u.1)) (targets ret b)) []) (targets call x)) =
        of-flat_map (λ x. flat_map (λ t. cond (nat_eq t.0 a) (map (λ u. (Summary (from call) x u.0, compose (compose t.1 f) u.1)) (targets ret b)) []) (targets call x))
        (range_with_len 0 facts) caller.2 in
        let x : ℕ = source.0 in
        let over : (t : ℕ × F) × IsIn t (targets call x) × IsIn p (cond (nat_eq t.0 a) (map (λ u. (Summary (from call) x u.0, compose (compose t.1 f) u.1)) (targets ret b)) []) =
        of-flat_map (λ t. cond (nat_eq t.0 a) (map (λ u. (Summary (from call) x u.0, compose (compose t.1 f) u.1)) (targets ret b)) []) (targets call x) source.2 in
        let g : F = over.0.1 in
        let chosen : (nat_eq over.0.0 a ≡ true) × IsIn p (map (λ u. (Summary (from call) x u.0, compose (compose g f) u.1)) (targets ret b)) =
        of-cond (nat_eq over.0.0 a) (map (λ u. (Summary (from call) x u.0, compose (compose g f) u.1)) (targets ret b)) over.2 in
        let listed : IsTarget K call x a g = subst (λ k. IsTarget K call x k g) (nat_eq-exact over.0.0 a chosen.0) over.1 in
        let target : (u : ℕ × F) × IsIn u (targets ret b) × ((Summary (from call) x u.0, compose (compose g f) u.1) ≡ p) =
        of-map (λ u. (Summary (from call) x u.0, compose (compose g f) u.1)) (targets ret b) chosen.1 in
        subst FromRule {x = (Summary (from call) x target.0.0, compose (compose g f) target.0.1)} target.2 (
          Jump (from ret) a b ∷ [],
          summarised call ret x a b target.0.0 g f target.0.1 leaves.0 listed (subst (λ m. get (Jump m a b) ≡ Some f) (sym leaves.1) same) target.1,
        )

    pub parts-right : (q : Key) {p : Key × F} → IsIn p (parts_of K get at q) → FromRule p
    parts-right (Jump n a b) {p} is =
        let present : (f : F) × (get (Jump n a b) ≡ Some f) × IsIn p (jump_parts K get (at n) n a b f) = of-if_some (get (Jump n a b)) (jump_parts K get (at n) n a b) is in
        let f : F = present.0 in
        let seeds : List (Key × F) = flat_map (λ e. parts_of_seed K get e b) (at n).calls in
        let flats : List (Key × F) = flat_map (λ e. parts_over_flat K get e a b f) (at n).flat in
        let afters : List (Key × F) = flat_map (parts_after_call K get n a b f) (at n).return_sites in
        let exits : List (Key × F) = flat_map (parts_at_exit K get a b f) (at n).callers in
        elim (in-either seeds (flats ++ (afters ++ exits)) present.2) [
          | inl there ↦ seeds-right n a b f present.1 there
          | inr rest ↦ elim (in-either flats (afters ++ exits) rest) [
            | inl there ↦ flats-right n a b f present.1 there
            | inr more ↦ elim (in-either afters exits more) [
              | inl there ↦ afters-right n a b f present.1 there
              | inr there ↦ exits-right n a b f present.1 there
            ]
          ]
        ]
    parts-right (Summary c b d) {p} is =
        let present : (s : F) × (get (Summary c b d) ≡ Some s) × IsIn p (flat_map (parts_resumed K get c b d s) (at c).return_sites) =
        of-if_some (get (Summary c b d)) (λ s. flat_map (parts_resumed K get c b d s) (at c).return_sites) is in
        resumed-right c b d present.0 present.1 present.2

    -- so the list is what a claim of the key owes
    pub parts-are : AreKeysInRange K get → (q : Key) → ArePartsOf K get q (parts_of K get at q)
    parts-are ranged q = record {
      complete = λ ks k g instance among. parts-complete ranged instance among;
      right = λ k g is. parts-right q is;
    }

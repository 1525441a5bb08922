-- All claims may go at once, as at a stop; and at the start of a procedure each entry is the identity.
use Rattle.std.proofs.Common.{◌≡◌, ◌≢◌, ℕ, ◌⊎◌, true, List, [], ◌∷◌, None, ap₂, sym, refl, ◌∙◌, inl, inr}
use Rattle.ide_wire.specs.declared.key.Key.{Key}
use Rattle.ide_wire.specs.declared.key.Key.TheVariants.{Jump}
use Rattle.ide_theory.specs.Frame.{Frame, Roots, IsLawfulFrame}
use Rattle.ide_theory.specs.Path.{SameLevel, here, step, through}
use Rattle.ide_theory.specs.Member.{IsIn}
use Rattle.ide_theory.specs.Image.{IsMet, HasRoots}
use Rattle.ide_theory.specs.Entry.{Exploded, done, more, MeetOf, one, both, OfJump}
use Rattle.ide_theory.specs.State.{State}
use Rattle.ide_theory.specs.Run.{Step}
use Rattle.ide_theory.specs.Invariant.{IsSettled, met, awaits, owed, IsHeld, IsInvariant, IsSettledPlainly, unclaimed}
use Rattle.ide_theory.proofs.Laws.Changes.{none-some}
use Rattle.ide_theory.proofs.Laws.Ready.{meet-idempotent}
use Rattle.ide_theory.proofs.Laws.Runs.{met-step}

-- a settled instance is met, or one of its premises is pending
pub each-of : (K : Frame) (s : State K.F) → IsHeld s → {ks : List Key} {k : Key} {g : K.F} → IsSettled K s ks k g
    → IsMet K s.get k g ⊎ ((q : Key) × IsIn q ks × (s.pending q ≡ true))
each-of K s held (met has) = inl has
each-of K s held (awaits q among expects) = inr (q, among, expects.pending)
each-of K s held (owed h c has among fresh part) = inr (c.key, among, held.pending h c has)

-- a state with no claims keeps the invariant where the entries are sound and each instance is met or
-- has a pending premise
pub inv-of : (K : Frame) (s : State K.F) → ((h : ℕ) → s.claims h ≡ None) → IsSettledPlainly K s → IsInvariant K s
inv-of K s free all = record {
  ready = λ ks k g instance. elim (all.ready ks k g instance) [
    | inl has ↦ met has
    | inr waits ↦ awaits waits.0 waits.1 (record {
      pending = waits.2;
      stale = λ h c has is. elim (none-some (sym (free h) ∙ has)) [ ];
    })
  ];
  held = record {
    pending = λ h c has. elim (none-some (sym (free h) ∙ has)) [ ];
    one = λ h j c d has other same. elim (none-some (sym (free h) ∙ has)) [ ];
  };
  sound = all.sound;
  owed = λ h c has k g part. elim (none-some (sym (free h) ∙ has)) [ ];
}

pub inv-unclaimed : (K : Frame) (s : State K.F) → IsInvariant K s → IsInvariant K (unclaimed s)
inv-unclaimed K s inv = inv-of K (unclaimed s) (λ _. refl) (record {
  ready = λ ks k g instance. each-of K s inv.held (inv.ready ks k g instance);
  sound = inv.sound;
})

-- the roots' identities stay in each step
pub has-roots-step : (K : Frame) → IsLawfulFrame K → (R : Roots K) → {s t : State K.F} → Step K s t → IsInvariant K s → HasRoots K R s.get → HasRoots K R t.get
has-roots-step K laws R happens inv roots r d is_root within = elim (roots r d is_root within) [
  | inl top ↦ inl top
  | inr has ↦ inr (met-step K laws happens inv (Jump r d d) K.functions.id laws.functions.proper_id has)
]

-- no same-level path but the empty one ends at a node that neither flat edges nor returns enter
pub empty-at : (K : Frame) {s n : ℕ} {es : List K.graph.Edge} → SameLevel K.graph s es n
    → ((e : K.graph.Edge) → K.graph.IsFlat e → K.graph.to e ≢ n) → ((call ret : K.graph.Edge) → K.graph.Matched call ret → K.graph.to ret ≢ n) → es ≡ []
empty-at K here no_flat no_return = refl
empty-at K (step e path is_flat) no_flat no_return = elim (no_flat e is_flat refl) [ ]
empty-at K (through call ret path matched inner) no_flat no_return = elim (no_return call ret matched refl) [ ]

pub exploded-empty : (K : Frame) {es : List K.graph.Edge} {a b : ℕ} {f : K.F} → Exploded K es a b f → es ≡ [] → f ≡ K.functions.id
exploded-empty K done none = refl
exploded-empty K (more e k m g is path) none = elim (cons-nil none) [ ]
  where
    cons-nil : {T : Type 0} {x : T} {xs : List T} → x ∷ xs ≡ [] → ⊥
    cons-nil same = cc

-- where only calls enter a node, its entries are the identity
pub start-is-id : (K : Frame) → IsLawfulFrame K → (n : ℕ) → ((e : K.graph.Edge) → K.graph.IsFlat e → K.graph.to e ≢ n)
    → ((call ret : K.graph.Edge) → K.graph.Matched call ret → K.graph.to ret ≢ n) → (a b : ℕ) {f : K.F} → MeetOf K.functions (OfJump K n a b) f → f ≡ K.functions.id
start-is-id K laws n no_flat no_return a b (one of) = exploded-empty K of.exploded (empty-at K of.level no_flat no_return)
start-is-id K laws n no_flat no_return a b (both l m) =
    ap₂ K.functions.meet (start-is-id K laws n no_flat no_return a b l) (start-is-id K laws n no_flat no_return a b m)
    ∙ meet-idempotent K.lattice K.functions laws.lattice laws.functions K.functions.id laws.functions.proper_id

-- Where a jump is present, the start of its procedure has received the identity of its first fact.
use Rattle.std.proofs.Common.{◌≡◌, ℕ, ◌⊎◌, List, Option, Some, IsTrue, ap, sym, subst, refl, ◌∙◌, inl, inr}
use Rattle.ide_wire.specs.declared.key.Key.{Key}
use Rattle.ide_wire.specs.declared.key.Key.TheVariants.{Jump, Summary}
use Rattle.ide_theory.specs.Frame.{Frame, IsLawfulFrame}
use Rattle.ide_theory.specs.Member.{IsIn, first}
use Rattle.ide_theory.specs.Image.{function_of, Instance, flat, seed, after, summarised, IsMet}
use Rattle.ide_theory.specs.Invariant.{IsInvariant}
use Rattle.ide_theory.specs.State.{Claim, State, without_first, claim_marked, new_claim, part_done, lowered_in_frame}
use Rattle.ide_theory.specs.Run.{Step, claim, skip, lower, release, finish, root, Run, begins, goes_on}
use Rattle.ide_theory.proofs.Laws.Bridge.{HasProper}
use Rattle.ide_theory.proofs.Laws.Changes.{key-tells, none-some, map-tells, left-with, left-without, left-done}
use Rattle.ide_theory.proofs.Laws.Kept.{in-rest, proper-owed, inv-run}
use Rattle.ide_theory.proofs.Laws.Ready.{lowered-is-seeded, met-lowered, met-now}
use Rattle.ide_theory.proofs.Laws.Sound.{has-proper}

-- the key is the entry of a start, and the function is the identity
record IsSeed (K : Frame) (k : Key) (g : K.F) : Type 0 where
  pub start : ℕ
  pub fact : ℕ
  pub key_is : k ≡ Jump start fact fact
  pub function_is : g ≡ K.functions.id
  pub begins : K.graph.start_of start ≡ start

module _ (K : Frame) (laws : IsLawfulFrame K) where
  open K use {F, functions as B, graph.{start_of}}

  -- the start of the jump's procedure has received the identity of its first fact
  abbrev HasSeed : (Key → Option F) → Key → Type 0
  HasSeed get (Jump n a b) = IsMet K get (Jump (start_of n) a a) B.id
  HasSeed get (Summary c a d) = Unit {0}

  -- the part is of such a jump, or is such an identity
  abbrev IsSeeding : (Key → Option F) → Key → F → Type 0
  IsSeeding get k g = HasSeed get k ⊎ IsSeed K k g

  record AreSeeded (s : State F) : Type 0 where
    pub keys : (k : Key) (f : F) → s.get k ≡ Some f → HasSeed s.get k
    pub parts : (h : ℕ) (c : Claim F) → s.claims h ≡ Some c → (k : Key) (g : F) → IsIn {T = Key × F} (k, g) c.parts → IsSeeding s.get k g

  seeding-instance : (get : Key → Option F) → ((k : Key) (f : F) → get k ≡ Some f → HasSeed get k)
      → {ks : List Key} {k : Key} {g : F} → Instance K get ks k g → IsSeeding get k g
  seeding-instance get keys (flat e a b c f g is_flat same is) =
      inl (subst (λ n. IsMet K get (Jump n a a) B.id) (sym (laws.flat e is_flat)) (keys (Jump (K.graph.from e) a b) f same))
  seeding-instance get keys (seed e a b c f g is_call same is) =
      inr (record { start = K.graph.to e; fact = c; key_is = refl; function_is = refl; begins = laws.callee e is_call })
  seeding-instance get keys (after call ret a b d f s matched same passed) =
      inl (subst (λ n. IsMet K get (Jump n a a) B.id) (sym (laws.back call ret matched)) (keys (Jump (K.graph.from call) a b) f same))
  seeding-instance get keys (summarised call ret a b c d g f h matched is same out) = inl tt

  -- what has been received stays so in the new image
  abbrev Keeps : (Key → Option F) → (Key → Option F) → Type 0
  Keeps get now = (k : Key) → IsMet K get k B.id → IsMet K now k B.id

  kept-seed : (get now : Key → Option F) → Keeps get now → (k : Key) → HasSeed get k → HasSeed now k
  kept-seed get now keeps (Jump n a b) has = keeps (Jump (start_of n) a a) has
  kept-seed get now keeps (Summary c a d) has = tt

  kept-seeding : (get now : Key → Option F) → Keeps get now → (k : Key) (g : F) → IsSeeding get k g → IsSeeding now k g
  kept-seeding get now keeps k g (inl has) = inl (kept-seed get now keeps k has)
  kept-seeding get now keeps k g (inr is) = inr is

  seeded-done : (s : State F) → AreSeeded s → (h : ℕ) → AreSeeded (part_done s h)
  seeded-done s all h = record {
    keys = all.keys;
    parts = λ j d left k g part.
        let was : (e : Claim F) × (s.claims j ≡ Some e) × ((e ≡ d) ⊎ (without_first e ≡ d)) = left-done s h j d left in
        all.parts j was.0 was.1 k g (elim (was.2) [
          | inl same ↦ subst (IsIn {T = Key × F} (k, g)) (sym (ap (λ e. e.parts) same)) part
          | inr same ↦ in-rest (was.0.parts) (subst (IsIn {T = Key × F} (k, g)) (sym (ap (λ e. e.parts) same)) part)
        ]);
  }

  -- a key that receives such a function has its seed
  seed-lowered : (s : State F) → HasProper K s.get → (t : Key) (g : F) → IsTrue (B.proper g) → IsSeeding s.get t g → HasSeed (lowered_in_frame K s t g).get t
  seed-lowered s proper t g p (inl has) =
      kept-seed s.get (lowered_in_frame K s t g).get (λ k. met-lowered K laws s proper t g p k B.id laws.functions.proper_id) t has
  seed-lowered s proper t g p (inr is) =
      let now : Key → Option F = (lowered_in_frame K s t g).get in
      let received : IsMet K now (Jump is.start is.fact is.fact) B.id =
      subst (λ k. IsMet K now k B.id) is.key_is (subst (IsMet K now t) is.function_is (met-now K laws s proper t g p)) in
      subst (HasSeed now) (sym is.key_is) (subst (λ n. IsMet K now (Jump n is.fact is.fact) B.id) (sym is.begins) received)

  seeded-lowered : (s : State F) → HasProper K s.get → AreSeeded s → (t : Key) (g : F) → IsTrue (B.proper g) → IsSeeding s.get t g → AreSeeded (lowered_in_frame K s t g)
  seeded-lowered s proper all t g p seeds =
      let now : Key → Option F = (lowered_in_frame K s t g).get in
      let keeps : Keeps s.get now = λ k. met-lowered K laws s proper t g p k B.id laws.functions.proper_id in
      record {
        keys = λ k f same. elim (key-tells s.get t (Some (B.meet (function_of K s.get t) g)) k) [
          | inl here ↦ subst (HasSeed now) here.0 (seed-lowered s proper t g p seeds)
          | inr other ↦ kept-seed s.get now keeps k (all.keys k f (sym other.1 ∙ same))
        ];
        parts = λ j c left k f part.
            let was : (e : Claim F) × (s.claims j ≡ Some e) × (claim_marked t e ≡ c) = map-tells (claim_marked t) (s.claims j) left in
            kept-seeding s.get now keeps k f (all.parts j was.0 was.1 k f (subst (IsIn {T = Key × F} (k, f)) (sym (ap (λ e. e.parts) was.2)) part));
      }

  seeded-step : {s t : State F} → Step K s t → IsInvariant K s → AreSeeded s → AreSeeded t
  seeded-step (claim {s = s} h q parts free waits alone owes) inv all = record {
    keys = all.keys;
    parts = λ j c left k g part. elim (left-with s h (new_claim q parts) j c left) [
      | inl own ↦
          let from_rule : (ks : List Key) × Instance K s.get ks k g =
          owes.right k g (subst (IsIn {T = Key × F} (k, g)) (sym (ap (λ e. e.parts) own.1)) part) in
          seeding-instance s.get all.keys from_rule.1
      | inr other ↦ all.parts j c other.1 k g part
    ];
  }
  seeded-step (skip {s = s} h c t g rest mine parts met) inv all = seeded-done s all h
  seeded-step (lower {s = s} h c t g rest mine parts changes) inv all =
      let part : IsIn {T = Key × F} (t, g) c.parts = subst (IsIn {T = Key × F} (t, g)) (sym parts) first in
      seeded-done (lowered_in_frame K s t g)
      (seeded-lowered s (has-proper K laws s.get inv.sound) all t g (proper-owed K laws t g (inv.owed h c mine t g part)) (all.parts h c mine t g part)) h
  seeded-step (release {s = s} h c mine) inv all = record { keys = all.keys; parts = λ j d left. all.parts j d (left-without s h j d left).1 }
  seeded-step (finish {s = s} h c mine over) inv all = record { keys = all.keys; parts = λ j d left. all.parts j d (left-without s h j d left).1 }
  seeded-step (root {s = s} r d is_start in_range absent) inv all =
      subst AreSeeded (lowered-is-seeded K laws s (Jump r d d) absent)
      (seeded-lowered s (has-proper K laws s.get inv.sound) all (Jump r d d) B.id laws.functions.proper_id
      (inr (record { start = r; fact = d; key_is = refl; function_is = refl; begins = is_start })))

  seeded-run : {s : State F} → Run K s → AreSeeded s
  seeded-run begins = record { keys = λ k f same. elim (none-some same) [ ]; parts = λ h c has k g part. elim (none-some has) [ ] }
  seeded-run (goes_on run step) = seeded-step step (inv-run K laws run) (seeded-run run)

  -- the identity of each present jump's first fact stands at the start of its procedure
  pub start-seeded : {s : State F} → Run K s → (n a b : ℕ) (f : F) → s.get (Jump n a b) ≡ Some f → IsMet K s.get (Jump (start_of n) a a) B.id
  start-seeded run n a b f same = (seeded-run run).keys (Jump n a b) f same

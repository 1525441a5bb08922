-- Facts stay in range in each step of a run, so the list of a key's parts is what a claim owes.
use Rattle.std.proofs.Common.{◌≡◌, ℕ, ◌⊎◌, List, Some, ap, sym, subst, ◌∙◌, inl, inr}
use Rattle.ide_wire.specs.declared.key.Key.{Key}
use Rattle.ide_wire.specs.declared.key.Key.TheVariants.{Jump}
use Rattle.ide_theory.specs.Frame.{Frame, IsLawfulFrame}
use Rattle.ide_theory.specs.Member.{IsIn, first}
use Rattle.ide_theory.specs.Image.{function_of, Instance}
use Rattle.ide_theory.specs.State.{Claim, State, nothing_done, without_first, claim_marked, new_claim, part_done, with_function, lowered_in_frame}
use Rattle.ide_theory.specs.Run.{ArePartsOf, Step, claim, skip, lower, release, finish, root, Run, begins, goes_on}
use Rattle.ide_theory.specs.Parts.{NodeEdges, AreEdgesOf, parts_of, IsKeyInRange, AreAllInRange}
use Rattle.ide_theory.proofs.Laws.Changes.{key-tells, none-some, map-tells, left-with, left-without, left-done}
use Rattle.ide_theory.proofs.Laws.Kept.{in-rest}
use Rattle.ide_theory.proofs.Laws.Parts.{instance-in-range, parts-are}

module _ (K : Frame) (laws : IsLawfulFrame K) where
  open K use {F, functions as B, facts}

  pub ranged-done : (s : State F) → AreAllInRange K s → (h : ℕ) → AreAllInRange K (part_done s h)
  ranged-done s all h = record {
    keys = all.keys;
    parts = λ j d left k g part.
        let was : (e : Claim F) × (s.claims j ≡ Some e) × ((e ≡ d) ⊎ (without_first e ≡ d)) = left-done s h j d left in
        all.parts j was.0 was.1 k g (elim (was.2) [
          | inl same ↦ subst (IsIn {T = Key × F} (k, g)) (sym (ap (λ e. e.parts) same)) part
          | inr same ↦ in-rest (was.0.parts) (subst (IsIn {T = Key × F} (k, g)) (sym (ap (λ e. e.parts) same)) part)
        ]);
  }

  pub ranged-with : (s : State F) → AreAllInRange K s → (t : Key) (f : F) → IsKeyInRange facts t → AreAllInRange K (with_function s t f)
  ranged-with s all t f within = record {
    keys = λ k g same. elim (key-tells s.get t (Some f) k) [
      | inl here ↦ subst (IsKeyInRange facts) here.0 within
      | inr other ↦ all.keys k g (sym other.1 ∙ same)
    ];
    parts = λ j c left k g part.
        let was : (e : Claim F) × (s.claims j ≡ Some e) × (claim_marked t e ≡ c) = map-tells (claim_marked t) (s.claims j) left in
        all.parts j was.0 was.1 k g (subst (IsIn {T = Key × F} (k, g)) (sym (ap (λ e. e.parts) was.2)) part);
  }

  pub ranged-step : {s t : State F} → Step K s t → AreAllInRange K s → AreAllInRange K t
  ranged-step (claim {s = s} h q parts free waits alone owes) all = record {
    keys = all.keys;
    parts = λ j c left k g part. elim (left-with s h (new_claim q parts) j c left) [
      | inl own ↦
          let from_rule : (ks : List Key) × Instance K s.get ks k g =
          owes.right k g (subst (IsIn {T = Key × F} (k, g)) (sym (ap (λ e. e.parts) own.1)) part) in
          instance-in-range K laws s.get all.keys from_rule.1
      | inr other ↦ all.parts j c other.1 k g part
    ];
  }
  ranged-step (skip {s = s} h c t f rest mine parts has) all = ranged-done s all h
  ranged-step (lower {s = s} h c t f rest mine parts changes) all =
      ranged-done (lowered_in_frame K s t f)
      (ranged-with s all t (B.meet (function_of K s.get t) f) (all.parts h c mine t f (subst (IsIn {T = Key × F} (t, f)) (sym parts) first))) h
  ranged-step (release {s = s} h c mine) all = record { keys = all.keys; parts = λ j d left. all.parts j d (left-without s h j d left).1 }
  ranged-step (finish {s = s} h c mine none) all = record { keys = all.keys; parts = λ j d left. all.parts j d (left-without s h j d left).1 }
  ranged-step (root {s = s} r d is_start within absent) all = ranged-with s all (Jump r d d) B.id (within, within)

  pub ranged-empty : AreAllInRange K (nothing_done F)
  ranged-empty = record { keys = λ k f same. elim (none-some same) [ ]; parts = λ h c has k g part. elim (none-some has) [ ] }

  pub ranged-run : {s : State F} → Run K s → AreAllInRange K s
  ranged-run begins = ranged-empty
  ranged-run (goes_on run step) = ranged-step step (ranged-run run)

  pub run-parts : {s : State F} → Run K s → (at : ℕ → NodeEdges K.graph.Edge) → AreEdgesOf K at → (q : Key) → ArePartsOf K s.get q (parts_of K s.get at q)
  run-parts {s} run at edges q = parts-are K laws s.get at edges (ranged-run run).keys q

-- Lowerings are paid by ranks: each takes one at least from the function of its key.
use Rattle.std.proofs.Common.{◌≡◌, ◌≢◌, ℕ, ◌+◌, ◌-◌, ◌*◌, ◌<◌, ◌≤◌, ◌⊎◌, List, [], ◌∷◌, Option, Some, None, length, ap, sym, subst, refl, ◌∙◌, inl, inr, arith}
use Rattle.std.specs.Prelude.{unwrap_or}
use Rattle.ide_wire.specs.declared.key.Key.{Key}
use Rattle.ide_wire.specs.declared.key.Key.TheVariants.{Jump}
use Rattle.ide_theory.specs.Bounds.{spent_on, AreLoweringsFew}
use Rattle.ide_theory.specs.Frame.{Frame, IsLawfulFrame}
use Rattle.ide_theory.specs.Image.{function_of, IsMet}
use Rattle.ide_theory.specs.Invariant.{IsInvariant}
use Rattle.ide_theory.specs.Member.{IsIn, first, later}
use Rattle.ide_theory.specs.State.{Claim, State, with_function}
use Rattle.ide_theory.specs.Run.{Step, claim, skip, lower, release, finish, root, Run, Steps, none, more, lowerings_of, lowerings_in, seeds_of, seeds_in}
use Rattle.ide_theory.proofs.Laws.Bridge.{absent-is, proper-function_of}
use Rattle.ide_theory.proofs.Laws.Changes.{key-tells}
use Rattle.ide_theory.proofs.Laws.Kept.{proper-owed, inv-run}
use Rattle.ide_theory.proofs.Laws.Reached.{run-on}
use Rattle.ide_theory.proofs.Laws.Ready.{all_top-meet}
use Rattle.ide_theory.proofs.Laws.Sound.{has-proper}

at-most-itself : (n : ℕ) → 0 + n ≤ n
at-most-itself n = omega arith

module _ (K : Frame) where
  open K use {F, functions as B}

  abbrev rank_at : (Key → Option F) → Key → ℕ
  rank_at get key = B.rank (function_of K get key)

  pub spent-most : (get : Key → Option F) (keys : List Key) → spent_on K get keys ≤ length keys * B.height
  spent-most get [] = omega arith
  spent-most get (k ∷ ks) =
      let rest = spent-most get ks in
      let sum : B.height - rank_at get k + spent_on K get ks ≤ B.height + length ks * B.height = omega (arith, rest) in
      omega (arith, sum)

  -- where no rank rises nothing is won
  spent-falls : (get now : Key → Option F) → ((k : Key) → rank_at now k ≤ rank_at get k) → (keys : List Key) → spent_on K get keys ≤ spent_on K now keys
  spent-falls get now all [] = omega arith
  spent-falls get now all (k ∷ ks) =
      let rest = spent-falls get now all ks in
      let here = all k in
      let sum : B.height - rank_at get k + spent_on K get ks ≤ B.height - rank_at now k + spent_on K now ks = omega (arith, rest, here) in
      sum

  -- and a rank that falls is spent
  spent-less : (get now : Key → Option F) → ((k : Key) → rank_at now k ≤ rank_at get k) → (x : Key) → rank_at now x < rank_at get x → rank_at get x ≤ B.height
      → {keys : List Key} → IsIn x keys → 1 + spent_on K get keys ≤ spent_on K now keys
  spent-less get now all x less most (first {xs = ks}) =
      let rest = spent-falls get now all ks in
      let sum : 1 + (B.height - rank_at get x + spent_on K get ks) ≤ B.height - rank_at now x + spent_on K now ks = omega (arith, rest, less, most) in
      sum
  spent-less get now all x less most (later {y = k} {xs = ks} among) =
      let rest = spent-less get now all x less most among in
      let here = all k in
      let sum : 1 + (B.height - rank_at get k + spent_on K get ks) ≤ B.height - rank_at now k + spent_on K now ks = omega (arith, rest, here) in
      sum

  -- the function of each key after one has another
  function-with : (s : State F) (x : Key) (f : F) (k : Key)
      → ((x ≡ k) × (function_of K (with_function s x f).get k ≡ f)) ⊎ (function_of K (with_function s x f).get k ≡ function_of K s.get k)
  function-with s x f k = elim (key-tells s.get x (Some f) k) [
    | inl here ↦ inl (here.0, ap (λ o. unwrap_or o B.all_top) here.1)
    | inr other ↦ inr (ap (λ o. unwrap_or o B.all_top) other.1)
  ]

  ranks-with : (s : State F) (x : Key) (f : F) → B.rank f ≤ rank_at s.get x → (k : Key) → rank_at (with_function s x f).get k ≤ rank_at s.get k
  ranks-with s x f most k = elim (function-with s x f k) [
    | inl here ↦ subst (λ g. B.rank g ≤ rank_at s.get k) (sym here.1) (subst (λ j. B.rank f ≤ rank_at s.get j) here.0 most)
    | inr same ↦ let e : rank_at (with_function s x f).get k ≡ rank_at s.get k = ap B.rank same in omega (arith, e)
  ]

  rank-here : (s : State F) (x : Key) (f : F) → rank_at (with_function s x f).get x ≡ B.rank f
  rank-here s x f = elim (key-tells s.get x (Some f) x) [
    | inl here ↦ ap (λ o. B.rank (unwrap_or o B.all_top)) here.1
    | inr other ↦ absurd (other.0 refl)
  ]

  has-here : (s : State F) (x : Key) (f : F) → (with_function s x f).get x ≡ Some f
  has-here s x f = elim (key-tells s.get x (Some f) x) [
    | inl here ↦ here.1
    | inr other ↦ absurd (other.0 refl)
  ]

  -- a key that has a function of lower rank
  spent-with : (s : State F) (x : Key) (f : F) → B.rank f < rank_at s.get x → rank_at s.get x ≤ B.height → (keys : List Key) → IsIn x keys
      → 1 + spent_on K s.get keys ≤ spent_on K (with_function s x f).get keys
  spent-with s x f less most keys among =
      spent-less s.get (with_function s x f).get (ranks-with s x f (omega (arith, less))) x
      (let here = rank-here s x f in omega (arith, here, less)) most among

  -- the list has each present key
  abbrev HasPresent : State F → List Key → Type 0
  HasPresent s keys = (k : Key) (f : F) → s.get k ≡ Some f → IsIn k keys

  before-with : (s : State F) (x : Key) (f : F) (keys : List Key) → HasPresent (with_function s x f) keys → HasPresent s keys
  before-with s x f keys has k g same = elim (key-tells s.get x (Some f) k) [
    | inl here ↦ has k f here.1
    | inr other ↦ has k g (other.1 ∙ same)
  ]

  before-step : {s t : State F} → Step K s t → (keys : List Key) → HasPresent t keys → HasPresent s keys
  before-step (claim h q parts free waits alone owes) keys has = has
  before-step (skip h c t g rest mine parts met) keys has = has
  before-step (lower {s = s} h c t g rest mine parts changes) keys has = before-with s t (B.meet (function_of K s.get t) g) keys has
  before-step (release h c mine) keys has = has
  before-step (finish h c mine over) keys has = has
  before-step (root {s = s} r d is_start in_range absent) keys has = before-with s (Jump r d d) B.id keys has

  module _ (laws : IsLawfulFrame K) where
    -- no function is of higher rank than always-top
    rank-most : (s : State F) → IsInvariant K s → (k : Key) → rank_at s.get k ≤ B.height
    rank-most s inv k = laws.functions.rank_most (function_of K s.get k) (proper-function_of K laws s.get (has-proper K laws s.get inv.sound) k)

    spent-root : (s : State F) (x : Key) → s.get x ≡ None → (keys : List Key) → spent_on K s.get keys ≤ spent_on K (with_function s x B.id).get keys
    spent-root s x absent keys =
        let top : rank_at s.get x ≡ B.height = ap B.rank (absent-is K s.get x absent) ∙ laws.functions.rank_all_top in
        let most = laws.functions.rank_most B.id laws.functions.proper_id in
        spent-falls s.get (with_function s x B.id).get (ranks-with s x B.id (omega (arith, top, most))) keys

    id-below : B.all_top ≢ B.id → B.rank B.id < B.rank B.all_top
    id-below apart =
        let is : B.meet B.all_top B.id ≡ B.id = all_top-meet K.lattice B laws.lattice laws.functions B.id laws.functions.proper_id in
        subst (λ f. B.rank f < B.rank B.all_top) is
        (laws.functions.rank_falls B.all_top B.id laws.functions.proper_all_top laws.functions.proper_id (λ same. apart (sym same ∙ is)))

    spent-seed : B.all_top ≢ B.id → (s : State F) → IsInvariant K s → (x : Key) → s.get x ≡ None → (keys : List Key) → HasPresent (with_function s x B.id) keys
        → 1 + spent_on K s.get keys ≤ spent_on K (with_function s x B.id).get keys
    spent-seed apart s inv x absent keys has =
        spent-with s x B.id (subst (λ f. B.rank B.id < B.rank f) (sym (absent-is K s.get x absent)) (id-below apart)) (rank-most s inv x)
        keys (has x B.id (has-here s x B.id))

    spent-lower : (s : State F) → IsInvariant K s → (x : Key) (g : F) → B.rank (B.meet (function_of K s.get x) g) < rank_at s.get x
        → (keys : List Key) → HasPresent (with_function s x (B.meet (function_of K s.get x) g)) keys
        → 1 + spent_on K s.get keys ≤ spent_on K (with_function s x (B.meet (function_of K s.get x) g)).get keys
    spent-lower s inv x g less keys has =
        let f : F = B.meet (function_of K s.get x) g in
        spent-with s x f less (rank-most s inv x) keys (has x f (has-here s x f))

    lowers-rank : {s : State F} → IsInvariant K s → (h : ℕ) (c : Claim F) (x : Key) (g : F) (rest : List (Key × F)) → s.claims h ≡ Some c → c.parts ≡ (x, g) ∷ rest
        → (IsMet K s.get x g → ⊥) → B.rank (B.meet (function_of K s.get x) g) < rank_at s.get x
    lowers-rank {s} inv h c x g rest mine parts changes =
        laws.functions.rank_falls (function_of K s.get x) g (proper-function_of K laws s.get (has-proper K laws s.get inv.sound) x)
        (proper-owed K laws x g (inv.owed h c mine x g (subst (IsIn {T = Key × F} (x, g)) (sym parts) first))) changes

    step-spent : {s t : State F} (step : Step K s t) → IsInvariant K s → (keys : List Key) → HasPresent t keys
        → lowerings_of step + spent_on K s.get keys ≤ spent_on K t.get keys
    step-spent (claim {s = s} h q parts free waits alone owes) inv keys has = at-most-itself (spent_on K s.get keys)
    step-spent (skip {s = s} h c t g rest mine parts met) inv keys has = at-most-itself (spent_on K s.get keys)
    step-spent (lower {s = s} h c t g rest mine parts changes) inv keys has =
        spent-lower s inv t g (lowers-rank inv h c t g rest mine parts changes) keys has
    step-spent (release {s = s} h c mine) inv keys has = at-most-itself (spent_on K s.get keys)
    step-spent (finish {s = s} h c mine over) inv keys has = at-most-itself (spent_on K s.get keys)
    step-spent (root {s = s} r d is_start in_range absent) inv keys has =
        let least = spent-root s (Jump r d d) absent keys in
        let sum : 0 + spent_on K s.get keys ≤ spent_on K (with_function s (Jump r d d) B.id).get keys = omega (arith, least) in
        sum

    step-seeds : B.all_top ≢ B.id → {s t : State F} (step : Step K s t) → IsInvariant K s → (keys : List Key) → HasPresent t keys
        → lowerings_of step + seeds_of step + spent_on K s.get keys ≤ spent_on K t.get keys
    step-seeds apart (claim {s = s} h q parts free waits alone owes) inv keys has = at-most-itself (spent_on K s.get keys)
    step-seeds apart (skip {s = s} h c t g rest mine parts met) inv keys has = at-most-itself (spent_on K s.get keys)
    step-seeds apart (lower {s = s} h c t g rest mine parts changes) inv keys has =
        spent-lower s inv t g (lowers-rank inv h c t g rest mine parts changes) keys has
    step-seeds apart (release {s = s} h c mine) inv keys has = at-most-itself (spent_on K s.get keys)
    step-seeds apart (finish {s = s} h c mine over) inv keys has = at-most-itself (spent_on K s.get keys)
    step-seeds apart (root {s = s} r d is_start in_range absent) inv keys has = spent-seed apart s inv (Jump r d d) absent keys has

    way-spent : {s t : State F} → Run K s → (way : Steps K s t) → (keys : List Key) → HasPresent t keys
        → lowerings_in way + spent_on K s.get keys ≤ spent_on K t.get keys
    way-spent {s} run none keys has = at-most-itself (spent_on K s.get keys)
    way-spent {s} run (more {u = u} steps step) keys has =
        let before = way-spent run steps keys (before-step step keys has) in
        let here = step-spent step (inv-run K laws (run-on K laws run steps)) keys has in
        let sum : lowerings_in steps + lowerings_of step + spent_on K s.get keys ≤ spent_on K u.get keys = omega (arith, before, here) in
        sum

    way-seeds : B.all_top ≢ B.id → {s t : State F} → Run K s → (way : Steps K s t) → (keys : List Key) → HasPresent t keys
        → lowerings_in way + seeds_in way + spent_on K s.get keys ≤ spent_on K t.get keys
    way-seeds apart {s} run none keys has = at-most-itself (spent_on K s.get keys)
    way-seeds apart {s} run (more {u = u} steps step) keys has =
        let before = way-seeds apart run steps keys (before-step step keys has) in
        let here = step-seeds apart step (inv-run K laws (run-on K laws run steps)) keys has in
        let sum : lowerings_in steps + lowerings_of step + (seeds_in steps + seeds_of step) + spent_on K s.get keys ≤ spent_on K u.get keys = omega (arith, before, here) in
        sum

    pub lowerings-few : AreLoweringsFew K
    lowerings-few = record { lowerings = λ s t. way-spent; seeds = λ apart s t. way-seeds apart; spent = spent-most }

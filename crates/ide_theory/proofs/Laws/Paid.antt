-- Claims are paid by keys that wait no more, by lowerings, releases and entries of roots.
use Rattle.std.proofs.Common.{◌≡◌, ◌≢◌, ℕ, ◌+◌, ◌≤◌, Bool, true, false, ◌&&◌, ◌||◌, not, List, ◌∷◌, Some, None, option_map, ap, sym, subst, refl, ◌∙◌, inl, inr, true≢false, arith}
use Rattle.std.specs.List.{IsDistinct}
use Rattle.ide_wire.specs.Key.{same_key, same_key_refl}
use Rattle.ide_wire.specs.declared.key.Key.{Key}
use Rattle.ide_wire.specs.declared.key.Key.TheVariants.{Jump}
use Rattle.ide_theory.specs.Bounds.{HasPending, pending_of, FindsClaimed, waiting_of, AreClaimsPaid}
use Rattle.ide_theory.specs.Frame.{Frame, IsLawfulFrame}
use Rattle.ide_theory.specs.Image.{function_of}
use Rattle.ide_theory.specs.Invariant.{IsHeld}
use Rattle.ide_theory.specs.Member.{IsIn, first, later}
use Rattle.ide_theory.specs.State.{Claim, State, without_first, claim_marked, new_claim, with_claim, part_done, with_function, lowered_in_frame, seeded_at, finished}
use Rattle.ide_theory.specs.Run.{Step, claim, skip, lower, release, finish, root, Run, Steps, none, more, claims_of, claims_in, lowerings_of, lowerings_in, releases_of, releases_in, seeds_of, seeds_in}
use Rattle.ide_theory.proofs.Laws.Changes.{key-tells, hand-tells, same-or, some-inj, none-some, has-claim, kept-with, kept-done}
use Rattle.ide_theory.proofs.Laws.Counts.{count-not, count-least, count-below, count-less, count-but, test-or, distinct-more, among-or}
use Rattle.ide_theory.proofs.Laws.Kept.{inv-run}
use Rattle.ide_theory.proofs.Laws.Reached.{run-on}

or-right : (b c : Bool) → c ≡ true → (b || c) ≡ true
or-right true c h = refl
or-right false c h = h

or-left : (b c : Bool) → b ≡ true → (b || c) ≡ true
or-left true c h = refl
or-left false c h = absurd (true≢false (sym h))

or-neither : (b c : Bool) → b ≡ false → c ≡ false → (b || c) ≡ false
or-neither true c h g = absurd (true≢false h)
or-neither false c h g = g

and-left : (b c : Bool) → (b && c) ≡ true → b ≡ true
and-left true c h = refl
and-left false c h = absurd (true≢false (sym h))

and-right : (b c : Bool) → (b && c) ≡ true → c ≡ true
and-right true c h = h
and-right false c h = absurd (true≢false (sym h))

and-both : (b c : Bool) → b ≡ true → c ≡ true → (b && c) ≡ true
and-both true c h g = g
and-both false c h g = absurd (true≢false (sym h))

not-true : (b : Bool) → not b ≡ true → b ≡ false
not-true true h = absurd (true≢false (sym h))
not-true false h = refl

not-false : (b : Bool) → b ≡ false → not b ≡ true
not-false true h = absurd (true≢false h)
not-false false h = refl

key-same : {k j : Key} → k ≡ j → same_key k j ≡ true
key-same {k} same = ap (same_key k) (sym same) ∙ same_key_refl k

key-apart : {k j : Key} → k ≢ j → same_key k j ≡ false
key-apart {k} {j} apart = elim (same-or k j) [
  | inl same ↦ absurd (apart same)
  | inr other ↦ other.1
]

-- the test that finds this key too, and the one that does not
abbrev and_this : (Key → Bool) → Key → Key → Bool
and_this found x key = found key || same_key x key

abbrev but_this : (Key → Bool) → Key → Key → Bool
but_this found x key = found key && not (same_key x key)

module _ {F : Type 0} where
  -- the key waits, and the test does not find it
  abbrev is_waiting : State F → (Key → Bool) → Key → Bool
  is_waiting s found key = s.pending key && not (found key)

  waits-where : (s : State F) (found : Key → Bool) (k : Key) → s.pending k ≡ true → found k ≡ false → is_waiting s found k ≡ true
  waits-where s found k waits free = and-both (s.pending k) (not (found k)) waits (not-false (found k) free)

  waits-is : (s : State F) (found : Key → Bool) (k : Key) → is_waiting s found k ≡ true → s.pending k ≡ true
  waits-is s found k waits = and-left (s.pending k) (not (found k)) waits

  waits-free : (s : State F) (found : Key → Bool) (k : Key) → is_waiting s found k ≡ true → found k ≡ false
  waits-free s found k waits = not-true (found k) (and-right (s.pending k) (not (found k)) waits)

  -- a key more in the test, and any in the pending keys
  waits-but : (s t : State F) (found : Key → Bool) (x : Key) → ((k : Key) → x ≢ k → t.pending k ≡ true → s.pending k ≡ true)
      → (keys : List Key) → IsDistinct same_key keys → waiting_of t found keys ≤ waiting_of s (and_this found x) keys + 1
  waits-but s t found x same keys once = count-but (is_waiting s (and_this found x)) (is_waiting t found) x keys once
      (λ k apart waits. waits-where s (and_this found x) k (same k apart (waits-is t found k waits))
      (or-neither (found k) (same_key x k) (waits-free t found k waits) (key-apart apart)))

  -- lists that have a key, and count no more pending ones
  record HasAlso (s t : State F) (found : Key → Bool) (keys : List Key) (x : Key) : Type 0 where
    pub keys_with : List Key
    pub has : IsIn x keys_with
    pub pending : HasPending s keys_with
    pub no_more : pending_of s keys_with ≤ pending_of s keys
    pub no_less : waiting_of t found keys ≤ waiting_of t found keys_with

  also : (s t : State F) (found : Key → Bool) (keys : List Key) (x : Key) → HasPending s keys → HasAlso s t found keys x
  also s t found keys x covers = elim (among-or x keys) [
    | inl among ↦ record { keys_with = keys; has = among; pending = covers; no_more = omega arith; no_less = omega arith }
    | inr fails ↦
        let quiet : s.pending x ≡ false = elim (test-or (s.pending x)) [
          | inl waits ↦ absurd (fails (covers.all x waits))
          | inr not_so ↦ not_so
        ] in
        let here = count-not s.pending x keys quiet in
        record {
          keys_with = x ∷ keys;
          has = first;
          pending = record { once = distinct-more x keys fails covers.once; all = λ k waits. later (covers.all k waits) };
          no_more = omega (arith, here);
          no_less = count-least (is_waiting t found) x keys;
        }
  ]

  -- which claims the test of before finds
  finds-claim : (s : State F) (h : ℕ) (q : Key) (parts : List (Key × F)) (found : Key → Bool) → s.claims h ≡ None
      → ((j : ℕ) (c : Claim F) → s.claims j ≡ Some c → c.key ≢ q) → FindsClaimed (with_claim s h (Some (new_claim q parts))) found → FindsClaimed s (but_this found q)
  finds-claim s h q parts found free alone finds j c has fresh =
      and-both (found c.key) (not (same_key q c.key))
      (finds j c (kept-with s h (Some (new_claim q parts)) j c (λ e. none-some (sym free ∙ ap s.claims e ∙ has)) has) fresh)
      (not-false (same_key q c.key) (key-apart (λ e. alone j c has (sym e))))

  finds-done : (s : State F) (h : ℕ) (found : Key → Bool) → FindsClaimed (part_done s h) found → FindsClaimed s found
  finds-done s h found finds j c has fresh = elim (kept-done s h j c has) [
    | inl own ↦ finds j (without_first c) own.1 fresh
    | inr other ↦ finds j c other fresh
  ]

  finds-with : (s : State F) (x : Key) (f : F) (found : Key → Bool) → FindsClaimed (with_function s x f) found → FindsClaimed s (and_this found x)
  finds-with s x f found finds j c has fresh = elim (same-or c.key x) [
    | inl same ↦ or-right (found c.key) (same_key x c.key) (key-same (sym same))
    | inr other ↦ or-left (found c.key) (same_key x c.key)
        (finds j (claim_marked x c) (ap (option_map (claim_marked x)) has) (or-neither (same_key c.key x) c.lowered other.1 fresh))
  ]

  -- a claim that is gone is of the key, or the test finds it
  finds-without : (s : State F) (h : ℕ) (c : Claim F) (found : Key → Bool) → s.claims h ≡ Some c → FindsClaimed (with_claim s h None) found
      → FindsClaimed s (and_this found c.key)
  finds-without s h c found mine finds j d has fresh = elim (hand-tells s.claims h None j) [
    | inl here ↦
        let same : c ≡ d = some-inj (sym mine ∙ ap s.claims here.0 ∙ has) in
        or-right (found d.key) (same_key c.key d.key) (key-same (ap (λ e. e.key) same))
    | inr other ↦ or-left (found d.key) (same_key c.key d.key) (finds j d (other.1 ∙ has) fresh)
  ]

  finds-stale : (s : State F) (h : ℕ) (c : Claim F) (found : Key → Bool) → s.claims h ≡ Some c → c.lowered ≡ true → FindsClaimed (with_claim s h None) found
      → FindsClaimed s found
  finds-stale s h c found mine stale finds j d has fresh = elim (hand-tells s.claims h None j) [
    | inl here ↦
        let same : c ≡ d = some-inj (sym mine ∙ ap s.claims here.0 ∙ has) in
        absurd (true≢false (sym stale ∙ ap (λ e. e.lowered) same ∙ fresh))
    | inr other ↦ finds j d (other.1 ∙ has) fresh
  ]

and-false : (b : Bool) → (b && false) ≡ false
and-false true = refl
and-false false = refl

module _ {F : Type 0} where
  -- so many claims, and so many steps that pay, lead from the one state to the other
  abbrev IsPaid : State F → State F → ℕ → ℕ → Type 0
  IsPaid s t claims paying = (keys : List Key) → HasPending s keys → (found : Key → Bool) → FindsClaimed t found → claims + waiting_of t found keys ≤ pending_of s keys + paying

  paid-claim : (s t : State F) (h : ℕ) (q : Key) (parts : List (Key × F)) → t.claims h ≡ None → t.pending q ≡ true
      → ((j : ℕ) (c : Claim F) → t.claims j ≡ Some c → c.key ≢ q) → (n m : ℕ) → IsPaid s t n m → IsPaid s (with_claim t h (Some (new_claim q parts))) (n + 1) m
  paid-claim s t h q parts free waits alone n m before keys covers found finds =
      let u : State F = with_claim t h (Some (new_claim q parts)) in
      let was : Key → Bool = but_this found q in
      let list : HasAlso s u found keys q = also s u found keys q covers in
      let found_here : found q ≡ true = finds h (new_claim q parts) (has-claim t h (new_claim q parts)) refl in
      let here : is_waiting u found q ≡ false = ap (λ b. t.pending q && not b) found_here ∙ and-false (t.pending q) in
      let not_found : was q ≡ false = ap (λ b. found q && not b) (same_key_refl q) ∙ and-false (found q) in
      let less = count-less (is_waiting u found) (is_waiting t was) q list.has here (waits-where t was q waits not_found)
      (λ k w. waits-where t was k (waits-is u found k w) (ap (λ b. b && not (same_key q k)) (waits-free u found k w))) in
      let paid : n + waiting_of t was list.keys_with ≤ pending_of s list.keys_with + m =
      before list.keys_with list.pending was (finds-claim t h q parts found free alone finds) in
      let no_more : pending_of s list.keys_with ≤ pending_of s keys = list.no_more in
      let no_less : waiting_of u found keys ≤ waiting_of u found list.keys_with = list.no_less in
      let sum : n + 1 + waiting_of u found keys ≤ pending_of s keys + m = omega (arith, paid, less, no_more, no_less) in
      sum

  paid-with : (s t : State F) (x : Key) (f : F) (n m : ℕ) → IsPaid s t n m → IsPaid s (with_function t x f) n (m + 1)
  paid-with s t x f n m before keys covers found finds =
      let paid : n + waiting_of t (and_this found x) keys ≤ pending_of s keys + m = before keys covers (and_this found x) (finds-with t x f found finds) in
      let most : waiting_of (with_function t x f) found keys ≤ waiting_of t (and_this found x) keys + 1 =
      waits-but t (with_function t x f) found x (λ k apart waits. elim (key-tells t.pending x true k) [
        | inl here ↦ absurd (apart here.0)
        | inr other ↦ sym other.1 ∙ waits
      ]) keys covers.once in
      let sum : n + waiting_of (with_function t x f) found keys ≤ pending_of s keys + (m + 1) = omega (arith, paid, most) in
      sum

  paid-done : (s t : State F) (h n m : ℕ) → IsPaid s t n m → IsPaid s (part_done t h) n m
  paid-done s t h n m before keys covers found finds = before keys covers found (finds-done t h found finds)

  paid-release : (s t : State F) (h : ℕ) (c : Claim F) → t.claims h ≡ Some c → (n m : ℕ) → IsPaid s t n m → IsPaid s (with_claim t h None) n (m + 1)
  paid-release s t h c mine n m before keys covers found finds =
      let paid : n + waiting_of t (and_this found c.key) keys ≤ pending_of s keys + m = before keys covers (and_this found c.key) (finds-without t h c found mine finds) in
      let most : waiting_of (with_claim t h None) found keys ≤ waiting_of t (and_this found c.key) keys + 1 =
      waits-but t (with_claim t h None) found c.key (λ k apart waits. waits) keys covers.once in
      let sum : n + waiting_of (with_claim t h None) found keys ≤ pending_of s keys + (m + 1) = omega (arith, paid, most) in
      sum

  paid-finish : (s t : State F) (h : ℕ) (c : Claim F) → t.claims h ≡ Some c → IsHeld t → (n m : ℕ) → IsPaid s t n m → IsPaid s (finished t h c) n m
  paid-finish s t h c mine held n m before keys covers found finds = elim (test-or c.lowered) [
    | inl stale ↦
        let paid : n + waiting_of t found keys ≤ pending_of s keys + m = before keys covers found (finds-stale t h c found mine stale finds) in
        let most : waiting_of (finished t h c) found keys ≤ waiting_of t found keys =
        count-below (is_waiting (finished t h c) found) (is_waiting t found) keys
        (λ k among waits. waits-where t found k (still k (waits-is (finished t h c) found k waits)) (waits-free (finished t h c) found k waits)) in
        let sum : n + waiting_of (finished t h c) found keys ≤ pending_of s keys + m = omega (arith, paid, most) in
        sum
    | inr fresh ↦
        let was : Key → Bool = and_this found c.key in
        let paid : n + waiting_of t was keys ≤ pending_of s keys + m = before keys covers was (finds-without t h c found mine finds) in
        let most : waiting_of (finished t h c) found keys ≤ waiting_of t was keys =
        count-below (is_waiting (finished t h c) found) (is_waiting t was) keys
        (λ k among waits. waits-where t was k (still k (waits-is (finished t h c) found k waits))
        (or-neither (found k) (same_key c.key k) (waits-free (finished t h c) found k waits)
        (key-apart (apart fresh k (waits-is (finished t h c) found k waits))))) in
        let sum : n + waiting_of (finished t h c) found keys ≤ pending_of s keys + m = omega (arith, paid, most) in
        sum
  ]
    where
      still : (k : Key) → (finished t h c).pending k ≡ true → t.pending k ≡ true
      still k waits = elim (key-tells t.pending c.key c.lowered k) [
        | inl here ↦ subst (λ q. t.pending q ≡ true) here.0 (held.pending h c mine)
        | inr other ↦ sym other.1 ∙ waits
      ]

      apart : c.lowered ≡ false → (k : Key) → (finished t h c).pending k ≡ true → c.key ≢ k
      apart fresh k waits same = elim (key-tells t.pending c.key c.lowered k) [
        | inl here ↦ true≢false (sym waits ∙ here.1 ∙ fresh)
        | inr other ↦ other.0 same
      ]

module _ (K : Frame) (laws : IsLawfulFrame K) where
  open K use {F, functions as B}

  paid-step : (s : State F) {t u : State F} (step : Step K t u) → IsHeld t → (n m : ℕ) → IsPaid s t n m
      → IsPaid s u (n + claims_of step) (m + lowerings_of step + releases_of step + seeds_of step)
  paid-step s (claim {s = t} h q parts free waits alone owes) held n m before keys covers found finds =
      let paid : n + 1 + waiting_of (with_claim t h (Some (new_claim q parts))) found keys ≤ pending_of s keys + m =
      paid-claim s t h q parts free waits alone n m before keys covers found finds in
      let sum : n + 1 + waiting_of (with_claim t h (Some (new_claim q parts))) found keys ≤ pending_of s keys + (m + 0 + 0 + 0) = omega (arith, paid) in
      sum
  paid-step s (skip {s = t} h c x g rest mine parts met) held n m before keys covers found finds =
      let paid : n + waiting_of (part_done t h) found keys ≤ pending_of s keys + m = paid-done s t h n m before keys covers found finds in
      let sum : n + 0 + waiting_of (part_done t h) found keys ≤ pending_of s keys + (m + 0 + 0 + 0) = omega (arith, paid) in
      sum
  paid-step s (lower {s = t} h c x g rest mine parts changes) held n m before keys covers found finds =
      let now : State F = lowered_in_frame K t x g in
      let paid : n + waiting_of (part_done now h) found keys ≤ pending_of s keys + (m + 1) =
      paid-done s now h n (m + 1) (paid-with s t x (B.meet (function_of K t.get x) g) n m before) keys covers found finds in
      let sum : n + 0 + waiting_of (part_done now h) found keys ≤ pending_of s keys + (m + 1 + 0 + 0) = omega (arith, paid) in
      sum
  paid-step s (release {s = t} h c mine) held n m before keys covers found finds =
      let paid : n + waiting_of (with_claim t h None) found keys ≤ pending_of s keys + (m + 1) = paid-release s t h c mine n m before keys covers found finds in
      let sum : n + 0 + waiting_of (with_claim t h None) found keys ≤ pending_of s keys + (m + 0 + 1 + 0) = omega (arith, paid) in
      sum
  paid-step s (finish {s = t} h c mine over) held n m before keys covers found finds =
      let paid : n + waiting_of (finished t h c) found keys ≤ pending_of s keys + m = paid-finish s t h c mine held n m before keys covers found finds in
      let sum : n + 0 + waiting_of (finished t h c) found keys ≤ pending_of s keys + (m + 0 + 0 + 0) = omega (arith, paid) in
      sum
  paid-step s (root {s = t} r d is_start in_range absent) held n m before keys covers found finds =
      let now : State F = seeded_at K t (Jump r d d) in
      let paid : n + waiting_of now found keys ≤ pending_of s keys + (m + 1) = paid-with s t (Jump r d d) B.id n m before keys covers found finds in
      let sum : n + 0 + waiting_of now found keys ≤ pending_of s keys + (m + 0 + 0 + 1) = omega (arith, paid) in
      sum

  paid-way : {s t : State F} → Run K s → (way : Steps K s t) → IsPaid s t (claims_in way) (lowerings_in way + releases_in way + seeds_in way)
  paid-way {s} run none keys covers found finds =
      let most : waiting_of s found keys ≤ pending_of s keys = count-below (is_waiting s found) s.pending keys (λ k among waits. waits-is s found k waits) in
      let sum : 0 + waiting_of s found keys ≤ pending_of s keys + (0 + 0 + 0) = omega (arith, most) in
      sum
  paid-way {s} run (more {u = u} steps step) keys covers found finds =
      let paid = paid-step s step (inv-run K laws (run-on K laws run steps)).held (claims_in steps) (lowerings_in steps + releases_in steps + seeds_in steps)
      (paid-way run steps) keys covers found finds in
      let sum : claims_in steps + claims_of step + waiting_of u found keys
      ≤ pending_of s keys + ((lowerings_in steps + lowerings_of step) + (releases_in steps + releases_of step) + (seeds_in steps + seeds_of step)) = omega (arith, paid) in
      sum

  pub claims-paid : AreClaimsPaid K
  claims-paid s t run way keys covers found finds =
      let paid = paid-way run way keys covers found finds in
      let sum : claims_in way + waiting_of t found keys ≤ pending_of s keys + lowerings_in way + releases_in way + seeds_in way = omega (arith, paid) in
      sum

-- That to walk a function over nodes behind each other is, to a run, a claim of each key, its one part and its end.
use Rattle.std.proofs.Common.{◌≡◌, ◌≢◌, ℕ, zero, suc, ◌+◌, ◌-◌, ◌*◌, ◌^◌, ◌<◌, ◌≤◌, inl, inr, Bool, true, false, cond, ◌||◌, get_or, List, [], ◌∷◌, ◌++◌, Some, None, length, slice_get, map, option_map, ap, sym, subst, ◌∙◌, refl, add-one, arith, Option}
use Rattle.std.specs.Prelude.{◌&&◌, not, filter, IsTrue}
use Rattle.std.specs.List.{IsDistinct, flat_map, list_any}
use Rattle.std.specs.List.Sorted.{IsPermutation}
use Rattle.std.specs.Map.{keys_of, lookup}
use Rattle.std.specs.Option.{is_some}
use Rattle.std.proofs.lemmas.List.{append-nil, length-append}
use Rattle.std.proofs.lemmas.Option.{same_Some}
use Rattle.ide_graph.specs.Supergraph.{Supergraph}
use Rattle.ide_graph.specs.declared.site.Site.{Site}
use Rattle.ide_graph.specs.declared.site.Site.TheVariants.{Normal, Call, Exit}
use Rattle.ide_lattice.specs.Algebra.{LatticeAlgebra, EdgeAlgebra}
use Rattle.ide_lattice.specs.Laws.{IsEdgeAlgebra, IsLattice}
use Rattle.ide_lattice.specs.Meets.{last-or}
use Rattle.ide_problem.specs.Flow.{Targets}
use Rattle.ide_tasks.specs.Parts.{PassesBehind, flat_parts, parts_at}
use Rattle.ide_tasks.specs.declared.partners.Partners.TheVariants.{Entries}
use Rattle.ide_image.specs.Notes.{noted, noted_count, or_entry, with_note}
use Rattle.ide_image.specs.Spent.{fallen, spent}
use Rattle.ide_image.specs.Tables.{Table, found, or_top}
use Rattle.ide_image.specs.Changes.{absent_entry}
use Rattle.ide_image.specs.Walk.{AreAbsent, AreSettled, EntersWalked, GoesTo, walked_entries, jump_behind, with_entered}
use Rattle.ide_image.specs.Worklist.{IsFree, claim_at, is_pending, marked}
use Rattle.ide_image.specs.declared.entry.Entry.{Entry}
use Rattle.ide_wire.specs.Key.{same_key, same_key_exact, same_key_refl, same_key_symm}
use Rattle.ide_wire.specs.declared.key.Key.{Key}
use Rattle.ide_wire.specs.declared.key.Key.TheVariants.{Jump}
use Rattle.ide_steps.specs.Calls.{CallsAreSteps}
use Rattle.ide_steps.specs.Changed.{Remembers, standing_entry}
use Rattle.ide_steps.specs.Core.{CoreData, IsSameProblem}
use Rattle.ide_steps.specs.Drain.{GoesOnPaid, HasLess, potential}
use Rattle.ide_steps.specs.Going.{GoesOnByHand}
use Rattle.ide_steps.specs.Running.{OwesParts, claimed_as, with_held}
use Rattle.ide_steps.specs.State.{ArePartnersOf, claim_of, state_of}
use Rattle.ide_steps.specs.Steps.{IsChangedBy, IsLoweredBy}
use Rattle.ide_steps.specs.Walk.{GoesOnUnchanged, HasWalked, PassesAt, PassesFor, WalksOwed}
use Rattle.ide_steps.proofs.Entered.{absent-behind, distinct-behind, found-behind, nodes-apart, last-has, more-entered}
use Rattle.ide_steps.proofs.Going.{goes-nowhere, goes-then, paid-same}
use Rattle.ide_steps.proofs.Noted.{after-keeps, noted-with, noting-with, remembers-change, remembers-same, remembers-then}
use Rattle.ide_steps.proofs.Permuted.{found-permuted, long-permuted, spent-permuted}
use Rattle.ide_steps.proofs.Potential.{falls}
use Rattle.ide_steps.proofs.Running.{key-begins, key-ended, part-lowers}
use Rattle.ide_steps.proofs.States.{changes-of, state-lowered}

module _ {F : Type 0} where
  -- how many are entered
  length-entered : (at : ℕ → Key) (f : F) (n : ℕ) → length (walked_entries at f n) ≡ n
  length-entered at f zero = refl
  length-entered at f (suc n) =
      let before = length-entered at f n in
      let more = length-append (walked_entries at f n) ((at (suc n), f) ∷ []) in
      omega (arith, before, more)

module _ {F : Type 0} where
  -- a key that was noted stays so, and is noted once
  noted-own : (notes : Option (List (Key × Entry F))) (key : Key) (entry : Entry F) → is_some (noted (with_note notes key entry) key) ≡ is_some (with_note notes key entry)
  noted-own None key entry = refl
  noted-own (Some list) key entry =
      ap is_some (noted-with (Some list) key (λ _. entry) key)
      ∙ ap (λ b. is_some (or_entry (lookup (same_key key) list) (cond b (Some entry) None))) (same_key_refl key)
      ∙ elim (lookup (same_key key) list) as (λ o. is_some (or_entry o (Some entry)) ≡ true) [ None ↦ refl | Some x ↦ refl ]

  noted-stays : (notes : Option (List (Key × Entry F))) (key q : Key) (entry : Entry F) → is_some (noted notes q) ≡ is_some notes
      → is_some (noted (with_note notes key entry) q) ≡ is_some (with_note notes key entry)
  noted-stays None key q entry is = refl
  noted-stays (Some list) key q entry is =
      ap is_some (noted-with (Some list) key (λ _. entry) q) ∙ after-keeps (Some list) (same_key key q) entry q is

  note-known : (notes : Option (List (Key × Entry F))) (key : Key) (entry : Entry F) → is_some (noted notes key) ≡ is_some notes → with_note notes key entry ≡ notes
  note-known None key entry is = refl
  note-known (Some list) key entry is = ap (λ b. Some (cond b list (list ++ (key, entry) ∷ []))) is

  -- how many are noted at most
  note-count : (notes : Option (List (Key × Entry F))) (key : Key) (entry : Entry F) → noted_count (with_note notes key entry) ≤ noted_count notes + 1
  note-count None key entry = omega arith
  note-count (Some list) key entry =
      elim (is_some (lookup (same_key key) list)) as (λ b. length (cond b list (list ++ (key, entry) ∷ [])) ≤ length list + 1) [
        | true ↦ omega arith
        | false ↦ let more = length-append list ((key, entry) ∷ []) in omega (arith, more)
      ]

  pub entered-count : (notes : Option (List (Key × Entry F))) (at : ℕ → Key) (n : ℕ) → noted_count (with_entered notes at n) ≤ noted_count notes + n
  entered-count notes at zero = omega arith
  entered-count notes at (suc n) =
      let before = entered-count notes at n in
      let one = note-count (with_entered notes at n) (at (suc n)) absent_entry in
      omega (arith, before, one)

-- the keys but for one
other-keys : Key → List Key → List Key
other-keys key keys = filter (λ q. not (same_key key q)) keys

other-keys-first : (key q p : Key) (own here there rest : Bool) → same_key key q ≡ own → same_key key p ≡ here → same_key q p ≡ there
    → cond (not here) (there || (not own && rest)) (not own && rest) ≡ (not own && (there || rest))
other-keys-first key q p true true there rest a b c = refl
other-keys-first key q p true false true rest a b c =
    let one = same_key_exact q p c in
    let no : ⊥ = cc (a, b, ap (same_key key) one) in
    absurd no
other-keys-first key q p true false false rest a b c = refl
other-keys-first key q p false true true rest a b c =
    let one = same_key_exact q p c in
    let no : ⊥ = cc (a, b, ap (same_key key) one) in
    absurd no
other-keys-first key q p false true false rest a b c = refl
other-keys-first key q p false false there rest a b c = refl

among-other-keys : (key q : Key) (keys : List Key) → list_any (same_key q) (other-keys key keys) ≡ (not (same_key key q) && list_any (same_key q) keys)
unfolding other-keys
among-other-keys key q [] = elim (same_key key q) as (λ b. false ≡ (not b && false)) [ true ↦ refl | false ↦ refl ]
among-other-keys key q (p ∷ keys) =
    elim (same_key key p) as (λ here. same_key key p ≡ here → list_any (same_key q) (cond (not here) (p ∷ other-keys key keys) (other-keys key keys)) ≡ (not (same_key key q) && (same_key q p || list_any (same_key q) keys))) [
      | true ↦ λ is. among-other-keys key q keys ∙ other-keys-first key q p (same_key key q) true (same_key q p) (list_any (same_key q) keys) refl is refl
      | false ↦ λ is. ap (λ b. same_key q p || b) (among-other-keys key q keys) ∙ other-keys-first key q p (same_key key q) false (same_key q p) (list_any (same_key q) keys) refl is refl
    ] refl

-- a proper function goes on as it is, and is below the one that always gives top where it is another
pub goes-unchanged : {F L : Type 0} (A : LatticeAlgebra L) (B : EdgeAlgebra F L) → IsLattice A → IsEdgeAlgebra A B → (f : F) → IsTrue (B.proper f) → f ≢ B.all_top
    → GoesOnUnchanged B f
goes-unchanged A B lattice laws f proper other =
    let met : B.meet B.all_top f ≡ f = laws.exact (B.meet B.all_top f) f (laws.proper_meet B.all_top f laws.proper_all_top proper) proper
    (λ x known. laws.apply_meet B.all_top f x laws.proper_all_top proper known ∙ ap (λ y. A.meet y (B.apply f x)) (laws.apply_all_top x known)
    ∙ lattice.top_meet (B.apply f x) (laws.proper_apply f x proper known)) in
    let falls : B.rank (B.meet B.all_top f) < B.rank B.all_top = laws.rank_falls B.all_top f laws.proper_all_top proper (λ same. other (sym met ∙ same)) in
    let is = ap B.rank met in
    let most = laws.rank_all_top in
    record {
      composed = laws.exact (B.compose f B.id) f (laws.proper_compose f B.id proper laws.proper_id) proper
          (λ x known. laws.apply_compose f B.id x proper laws.proper_id known ∙ laws.apply_id (B.apply f x) (laws.proper_apply f x proper known));
      met = met;
      less = omega (arith, falls, is, most);
    }

module _ {F L : Type 0} (B : EdgeAlgebra F L) (targets : Targets F) where
  -- what a jump owes at a site that passes its fact on unchanged, and that it has no partners there
  pub passed-alone : (m from fact : ℕ) (f : F) (site : Site) → PassesBehind B targets m fact site → B.compose f B.id ≡ f
      → parts_at B targets (Jump m from fact) f site (Entries []) ≡ (Jump (m + 1) from fact, f) ∷ []
  passed-alone m from fact f (Normal edges) (edge, is, end, passed) composed =
      ap (flat_map (flat_parts B targets from fact f)) is
      ∙ ap (λ ts. map (λ t. (Jump edge.end from t.0, B.compose f t.1)) ts ++ []) passed
      ∙ (λ i. (Jump (end i) from fact, composed i) ∷ [])
  passed-alone m from fact f (Call calls along) h composed = elim h [ ]
  passed-alone m from fact f (Exit start callers) h composed = elim h [ ]

  passed-partners : (graph : Supergraph) (table : Table F) (m from fact : ℕ) (site : Site) → PassesBehind B targets m fact site
      → ArePartnersOf B targets graph table (Jump m from fact) site (Entries [])
  passed-partners graph table m from fact (Normal edges) h = tt
  passed-partners graph table m from fact (Call calls along) h = elim h [ ]
  passed-partners graph table m from fact (Exit start callers) h = elim h [ ]

  -- one node more passes the fact on
  pub passes-more : (graph : Supergraph) (node fact count : ℕ) → PassesFor B targets graph node fact count → PassesAt B targets graph (node + count) fact
      → PassesFor B targets graph node fact (count + 1)
  passes-more graph node fact count before last n below =
      elim (last-or n count (omega (arith, below))) [
        | inl earlier ↦ before n earlier
        | inr same ↦ subst (λ k. PassesAt B targets graph (node + k) fact) (sym same) last
      ]

  -- what entries spend
  spent-last : (es : List (Key × F)) (x : Key × F) → spent B (es ++ x ∷ []) ≡ spent B es + fallen B x.1
  spent-last [] x = omega arith
  spent-last (e ∷ es) x = let rest = spent-last es x in omega (arith, rest)

  pub spent-entered : (es : List (Key × F)) (at : ℕ → Key) (f : F) → B.rank f < B.height → (n : ℕ) → n + spent B es ≤ spent B (es ++ walked_entries at f n)
  spent-entered es at f less zero = let same = ap (spent B) (append-nil es) in omega (arith, same)
  spent-entered es at f less (suc n) =
      let before = spent-entered es at f less n in
      let last = ap (spent B) (more-entered es at f n) ∙ spent-last (es ++ walked_entries at f n) (at (suc n), f) in
      omega (arith, before, last, less)

  -- where some are entered and as many keys are pending as before, there is less to do
  pub entered-falls : (es fs : List (Key × F)) (at : ℕ → Key) (f : F) (count pending now : ℕ) → B.rank f < B.height → IsPermutation (es ++ walked_entries at f count) fs → length fs < 2 ^ 64
      → now ≡ pending → 0 < count → 2 * (2 ^ 64 * B.height - spent B fs) + now < 2 * (2 ^ 64 * B.height - spent B es) + pending
  entered-falls es fs at f count pending now less entries few same some =
      let more = spent-entered es at f less count in
      let all = spent-permuted (es ++ walked_entries at f count) fs entries B in
      falls B es fs pending now few (omega (arith, more, all, some)) (omega (arith, same))

-- from one core by way of another to a third a key gives its turn to the next one: it owes one part, which lowers that, and it is
-- pending no longer
pub record PassesOn {F L : Type 0} (B : EdgeAlgebra F L) (targets : Targets F) (old mid new : CoreData F) : Type 0 where
  pub key : Key
  pub next : Key
  pub function : F
  pub owes : OwesParts B targets old key ((next, function) ∷ [])
  pub distinct : IsDistinct same_key (keys_of old.table.entries)
  pub free : IsFree old.pile
  pub waits : is_pending old.pile key ≡ true
  pub other : same_key key next ≡ false
  pub same : IsSameProblem old mid
  pub onward : IsSameProblem mid new
  pub lowers : IsLoweredBy B targets old mid next function
  pub changes : IsChangedBy B targets old next function
  pub falls : HasLess B old mid
  pub before : Remembers old mid
  pub free_amid : IsFree mid.pile
  pub waits_amid : is_pending mid.pile key ≡ true
  pub table : new.table ≡ mid.table
  pub ends : (q : Key) → is_pending new.pile q ≡ (not (not false && same_key key q) && is_pending mid.pile q)
  pub claims : (h : ℕ) → claim_at new.pile h ≡ claim_at mid.pile h
  pub behind : Remembers mid new

module _ {F L : Type 0} (A : LatticeAlgebra L) (B : EdgeAlgebra F L) (targets : Targets F) (steps : CallsAreSteps A B targets) (top : B.rank B.all_top ≡ B.height)
    (start : CoreData F) (free : IsFree start.pile) (graph : Supergraph) (loaded : start.graph ≡ Some graph) (node from to : ℕ) (f : F) (unchanged : GoesOnUnchanged B f)
    (waits : is_pending start.pile (Jump node from to) ≡ true) (has : found start.table (Jump node from to) ≡ Some f)
    (count : ℕ) (passes : PassesFor B targets graph node to count) (absent : AreAbsent start.table (jump_behind node from to) count)
    (settled : AreSettled start.pile (jump_behind node from to) count) where
  first-of-walk : jump_behind node from to 0 ≡ Jump node from to
  first-of-walk = ap (λ n. Jump n from to) (omega arith)

  keys-apart : (n m : ℕ) → ((n ≡ m) → ⊥) → same_key (jump_behind node from to n) (jump_behind node from to m) ≡ false
  keys-apart n m differ = nodes-apart node from to n m differ

  -- the core after so many keys, as it would be, and in the midst of one
  entries_then : ℕ → List (Key × F)
  entries_then n = start.table.entries ++ walked_entries (jump_behind node from to) f n

  -- what is noted then: the entry of the first key, and those behind it as absent
  abbrev pub changes_then : ℕ → Option (List (Key × Entry F))
  changes_then n = with_entered (with_note start.changes (Jump node from to) (standing_entry start (Jump node from to))) (jump_behind node from to) n

  pub core-after : ℕ → CoreData F
  core-after n = record start {
    table = record { entries = entries_then n };
    pile = record { pending = jump_behind node from to n ∷ other-keys (jump_behind node from to 0) start.pile.pending; claims = start.pile.claims };
    changes = changes_then n;
  }

  pub core-amid : ℕ → CoreData F
  core-amid n = record start {
    table = record { entries = entries_then (suc n) };
    pile = record { pending = jump_behind node from to (suc n) ∷ jump_behind node from to n ∷ other-keys (jump_behind node from to 0) start.pile.pending; claims = start.pile.claims };
    changes = changes_then (suc n);
  }

  -- what is found then
  absent-then : (n m : ℕ) → n ≤ m → m < count → lookup (same_key (jump_behind node from to (suc m))) (entries_then n) ≡ None
  unfolding entries_then
  absent-then n m above few = absent-behind start.table.entries node from to f count absent n m above few

  found-then : (n : ℕ) → n < count → (q : Key)
      → lookup (same_key q) (entries_then (suc n)) ≡ cond (same_key (jump_behind node from to (suc n)) q) (Some f) (lookup (same_key q) (entries_then n))
  unfolding entries_then
  found-then n few q = found-behind start.table.entries node from to f count absent n few q

  has-then : (n : ℕ) → n ≤ count → lookup (same_key (jump_behind node from to n)) (entries_then n) ≡ Some f
  unfolding entries_then
  has-then zero few =
      ap (lookup (same_key (jump_behind node from to 0))) (append-nil start.table.entries) ∙ ap (λ k. lookup (same_key k) start.table.entries) first-of-walk ∙ has
  has-then (suc n) few = last-has start.table.entries node from to f count absent n (omega (arith, few))

  -- none of the keys is among the others
  not-other-key : (n : ℕ) → n ≤ count → list_any (same_key (jump_behind node from to n)) (other-keys (jump_behind node from to 0) start.pile.pending) ≡ false
  not-other-key zero few =
      among-other-keys (jump_behind node from to 0) (jump_behind node from to 0) start.pile.pending
      ∙ ap (λ b. not b && is_pending start.pile (jump_behind node from to 0)) (same_key_refl (jump_behind node from to 0))
  not-other-key (suc n) few =
      among-other-keys (jump_behind node from to 0) (jump_behind node from to (suc n)) start.pile.pending
      ∙ (λ i. not (keys-apart 0 (suc n) (λ e. omega (arith, e)) i) && settled n (omega (arith, few)) i)

  pub lowers-then : (n : ℕ) → n < count → IsLoweredBy B targets (core-after n) (core-amid n) (jump_behind node from to (suc n)) f
  unfolding core-after core-amid
  lowers-then n few =
      let none = absent-then n n (omega arith) few in
      let met : B.meet (or_top B (lookup (same_key (jump_behind node from to (suc n))) (entries_then n))) f ≡ f = ap (λ o. B.meet (or_top B o) f) none ∙ unchanged.met in
      state-lowered B targets (core-after n).table (core-amid n).table (core-after n).pile (core-amid n).pile (jump_behind node from to (suc n)) f
      (record {
        entries = λ q. found-then n few q ∙ ap (λ g. cond (same_key (jump_behind node from to (suc n)) q) (Some g) (lookup (same_key q) (entries_then n))) (sym met);
      })
      (λ q. ap (λ b. b || is_pending (core-after n).pile q) (same_key_symm q (jump_behind node from to (suc n))))
      (λ h. free h ∙ sym (ap (marked (jump_behind node from to (suc n))) (free h)))

  pub changes-then : (n : ℕ) → n < count → IsChangedBy B targets (core-after n) (jump_behind node from to (suc n)) f
  unfolding core-after
  changes-then n few =
      let none = absent-then n n (omega arith) few in
      let was = ap (λ o. B.rank (or_top B o)) none in
      let is = ap (λ o. B.rank (B.meet (or_top B o) f)) none ∙ ap B.rank unchanged.met in
      changes-of B targets top (core-after n).table (core-after n).pile (jump_behind node from to (suc n)) f
      (record { less = let less = unchanged.less in omega (arith, was, is, less, top); most = omega (arith, was, top) })

  pub owes-then : (n : ℕ) → n < count → OwesParts B targets (core-after n) (jump_behind node from to n) ((jump_behind node from to (suc n), f) ∷ [])
  unfolding core-after
  owes-then n few =
      let there = passes n few in
      record {
        task = record { key = jump_behind node from to n; function = f; site = there.site; partners = Entries [] };
        of_key = refl;
        owes = ap (λ m. (Jump m from to, f) ∷ []) (let one = add-one n in omega (arith, one))
            ∙ sym (passed-alone B targets (node + n) from to f there.site there.passes unchanged.composed);
        is_task = λ g is exits present. record {
          function = has-then n (omega (arith, few));
          site = subst (λ (h : Supergraph). slice_get h.sites (node + n) ≡ Some there.site) (same_Some _ _ (sym loaded ∙ is)) there.stands;
          partners = passed-partners B targets g (core-after n).table (node + n) from to there.site there.passes;
        };
      }

  -- the key is pending no longer once its part is done
  pub ends-then : (n : ℕ) → n < count → (q : Key)
      → is_pending (core-after (suc n)).pile q ≡ (not (not false && same_key (jump_behind node from to n) q) && is_pending (core-amid n).pile q)
  unfolding core-after core-amid
  ends-then n few q =
      elim (same_key (jump_behind node from to n) q) as (λ own. same_key (jump_behind node from to n) q ≡ own
      → is_pending (core-after (suc n)).pile q ≡ (not own && is_pending (core-amid n).pile q)) [
        | true ↦ λ is.
            let here : jump_behind node from to n ≡ q = same_key_exact (jump_behind node from to n) q is in
            subst (λ k. is_pending (core-after (suc n)).pile k ≡ false) here
            (λ i. keys-apart n (suc n) (λ e. omega (arith, e)) i || not-other-key n (omega (arith, few)) i)
        | false ↦ λ other.
            ap (λ b. same_key q (jump_behind node from to (suc n)) || (b || list_any (same_key q) (other-keys (jump_behind node from to 0) start.pile.pending)))
            (sym (same_key_symm q (jump_behind node from to n) ∙ other))
      ] refl

  waits-then : (n : ℕ) → is_pending (core-after n).pile (jump_behind node from to n) ≡ true
  unfolding core-after
  waits-then n =
      ap (λ b. b || list_any (same_key (jump_behind node from to n)) (other-keys (jump_behind node from to 0) start.pile.pending)) (same_key_refl (jump_behind node from to n))

  waits-amid : (n : ℕ) → is_pending (core-amid n).pile (jump_behind node from to n) ≡ true
  unfolding core-amid
  waits-amid n =
      let own = jump_behind node from to n in
      (λ i. same_key own (jump_behind node from to (suc n)) || (same_key_refl own i || list_any (same_key own) (other-keys (jump_behind node from to 0) start.pile.pending)))
      ∙ elim (same_key own (jump_behind node from to (suc n))) as (λ b. (b || true) ≡ true) [ true ↦ refl | false ↦ refl ]

  walk-link : (n : ℕ) → n < count → GoesOnByHand A B targets 0 1 1 0 (core-after n) (core-after (suc n))
  unfolding core-after core-amid
  walk-link n few =
      let own = jump_behind node from to n in
      let owed_then = owes-then n few in
      let long = ap length owed_then.owes in
      let alike : IsSameProblem (core-after n) (core-amid n) = record { program = refl; graph = refl; roots = refl } in
      let onward : IsSameProblem (core-amid n) (core-after (suc n)) = record { program = refl; graph = refl; roots = refl } in
      let unlowered : (same_key own (jump_behind node from to (suc n)) || false) ≡ false = ap (λ b. b || false) (keys-apart n (suc n) (λ e. omega (arith, e))) in
      let begun = key-begins A B targets steps (core-after n) own ((jump_behind node from to (suc n), f) ∷ []) free (waits-then n) owed_then in
      let parted = part-lowers A B targets 0 own owed_then.task 0 false (core-after n) (core-amid n) (jump_behind node from to (suc n), f) alike
      (ap (λ ps. slice_get ps 0) (sym owed_then.owes)) (lowers-then n few) (changes-then n few) in
      let done = subst (λ b. GoesOnByHand A B targets 0 0 1 0 (with_held (core-after n) 0 (claimed_as own owed_then.task 0 false)) (with_held (core-amid n) 0 (claimed_as own owed_then.task 1 b))) unlowered parted in
      let ended = key-ended A B targets 0 (core-amid n) (core-after (suc n)) own owed_then.task 1 false onward (free 0) (λ h. refl) (omega (arith, long)) (waits-amid n) refl (ends-then n few) in
      goes-then A B targets (core-after n) (with_held (core-amid n) 0 (claimed_as own owed_then.task 1 false)) (core-after (suc n))
      (goes-then A B targets (core-after n) (with_held (core-after n) 0 (claimed_as own owed_then.task 0 false)) (with_held (core-amid n) 0 (claimed_as own owed_then.task 1 false)) begun done) ended

  walk-chain : (n : ℕ) → n ≤ count → GoesOnByHand A B targets 0 n n 0 (core-after 0) (core-after n)
  walk-chain zero few = goes-nowhere A B targets 0 (core-after 0) (core-after 0) (record { program = refl; graph = refl; roots = refl }) refl
  walk-chain (suc n) few =
      subst (λ m. GoesOnByHand A B targets 0 m m 0 (core-after 0) (core-after (suc n))) (add-one n)
      (goes-then A B targets (core-after 0) (core-after n) (core-after (suc n)) (walk-chain n (omega (arith, few))) (walk-link n (omega (arith, few))))

  -- the first of these cores has the state of the core before
  first-pending : (q : Key) → is_pending (core-after 0).pile q ≡ is_pending start.pile q
  unfolding core-after
  first-pending q =
      (λ i. same_key_symm q (jump_behind node from to 0) i || among-other-keys (jump_behind node from to 0) q start.pile.pending i)
      ∙ elim (same_key (jump_behind node from to 0) q) as (λ own. same_key (jump_behind node from to 0) q ≡ own → (own || (not own && is_pending start.pile q)) ≡ is_pending start.pile q) [
        | true ↦ λ is. sym (ap (is_pending start.pile) (sym (same_key_exact (jump_behind node from to 0) q is) ∙ first-of-walk) ∙ waits)
        | false ↦ λ other. refl
      ] refl

  pub problem-then : (n : ℕ) → IsSameProblem start (core-after n)
  unfolding core-after
  problem-then n = record { program = refl; graph = refl; roots = refl }

  pub first-state : state_of B targets (core-after 0) ≡ state_of B targets start
  unfolding core-after entries_then
  first-state =
      λ i. record { get = λ q. lookup (same_key q) (append-nil start.table.entries i); pending = λ q. first-pending q i; claims = (state_of B targets start).claims }

  walk-begins : GoesOnByHand A B targets 0 0 0 0 start (core-after 0)
  unfolding core-after
  walk-begins = goes-nowhere A B targets 0 start (core-after 0) (record { program = refl; graph = refl; roots = refl }) first-state

  -- ---- what is noted on the way
  noting-then : (n : ℕ) → is_some (changes_then n) ≡ is_some start.changes
  noting-then zero = noting-with start.changes (Jump node from to) (standing_entry start (Jump node from to))
  noting-then (suc n) = noting-with (changes_then n) (jump_behind node from to (suc n)) absent_entry ∙ noting-then n

  -- each key that was left is noted
  noted-then : (n : ℕ) → is_some (noted (changes_then n) (jump_behind node from to n)) ≡ is_some (changes_then n)
  noted-then zero =
      ap (λ k. is_some (noted (changes_then 0) k)) first-of-walk ∙ noted-own start.changes (Jump node from to) (standing_entry start (Jump node from to))
  noted-then (suc n) = noted-own (changes_then n) (jump_behind node from to (suc n)) absent_entry

  left-noted : (n : ℕ) → with_note (changes_then (suc n)) (jump_behind node from to n) (standing_entry (core-amid n) (jump_behind node from to n)) ≡ changes_then (suc n)
  left-noted n =
      note-known (changes_then (suc n)) (jump_behind node from to n) (standing_entry (core-amid n) (jump_behind node from to n))
      (noted-stays (changes_then n) (jump_behind node from to (suc n)) (jump_behind node from to n) absent_entry (noted-then n))

  not-waiting : (n : ℕ) → n < count → is_pending (core-after n).pile (jump_behind node from to (suc n)) ≡ false
  unfolding core-after
  not-waiting n few = λ i. keys-apart (suc n) n (λ e. omega (arith, e)) i || not-other-key (suc n) (omega (arith, few)) i

  stands-absent : (n : ℕ) → n < count → standing_entry (core-after n) (jump_behind node from to (suc n)) ≡ absent_entry
  unfolding core-after
  stands-absent n few = λ i. record { function = absent-then n n (omega arith) few i; pending = not-waiting n few i }

  pub remembers-first : Remembers start (core-after 0)
  unfolding core-after entries_then
  remembers-first =
      remembers-change start (core-after 0) (Some (Jump node from to)) refl
      (λ q other. λ i. record { function = lookup (same_key q) (append-nil start.table.entries i); pending = first-pending q i })

  pub remembers-amid : (n : ℕ) → n < count → Remembers (core-after n) (core-amid n)
  unfolding core-after core-amid
  remembers-amid n few =
      remembers-change (core-after n) (core-amid n) (Some (jump_behind node from to (suc n)))
      (sym (ap (with_note (changes_then n) (jump_behind node from to (suc n))) (stands-absent n few)))
      (λ q other. λ i. record {
        function = (found-then n few q ∙ ap (λ b. cond b (Some f) (lookup (same_key q) (entries_then n))) other) i;
        pending = ap (λ b. b || is_pending (core-after n).pile q) (same_key_symm q (jump_behind node from to (suc n)) ∙ other) i;
      })

  pub remembers-after : (n : ℕ) → n < count → Remembers (core-amid n) (core-after (suc n))
  unfolding core-after core-amid
  remembers-after n few =
      remembers-change (core-amid n) (core-after (suc n)) (Some (jump_behind node from to n)) (sym (left-noted n))
      (λ q other. λ i. record {
        function = lookup (same_key q) (entries_then (suc n));
        pending = (ends-then n few q ∙ ap (λ b. not b && is_pending (core-amid n).pile q) other) i;
      })

  remembers-then-all : (n : ℕ) → n ≤ count → Remembers start (core-after n)
  remembers-then-all zero few = remembers-first
  remembers-then-all (suc n) few =
      remembers-then start (core-after n) (core-after (suc n)) (remembers-then-all n (omega (arith, few)))
      (remembers-then (core-after n) (core-amid n) (core-after (suc n)) (remembers-amid n (omega (arith, few))) (remembers-after n (omega (arith, few))))

  -- ---- each step of the way
  distinct-then : IsDistinct same_key (keys_of start.table.entries) → (n : ℕ) → n ≤ count → IsDistinct same_key (keys_of (entries_then n))
  unfolding entries_then
  distinct-then distinct n few = distinct-behind start.table.entries node from to f count absent distinct n few

  falls-then : length start.table.entries + count < 2 ^ 64 → (n : ℕ) → n < count → HasLess B (core-after n) (core-amid n)
  unfolding core-after core-amid entries_then
  falls-then room n few =
      let grown = ap length (more-entered start.table.entries (jump_behind node from to) f n) ∙ length-append (entries_then n) ((jump_behind node from to (suc n), f) ∷ []) in
      let before = length-append start.table.entries (walked_entries (jump_behind node from to) f n) in
      let so_many = length-entered (jump_behind node from to) f n in
      let last = ap (spent B) (more-entered start.table.entries (jump_behind node from to) f n) ∙ spent-last B targets (entries_then n) (jump_behind node from to (suc n), f) in
      let less = unchanged.less in
      falls B (entries_then n) (entries_then (suc n)) (length (core-after n).pile.pending) (length (core-amid n).pile.pending)
      (omega (arith, grown, before, so_many, room, few)) (omega (arith, last, less)) (omega arith)

  pub passes-then : length start.table.entries + count < 2 ^ 64 → IsDistinct same_key (keys_of start.table.entries)
      → (n : ℕ) → n < count → PassesOn B targets (core-after n) (core-amid n) (core-after (suc n))
  unfolding core-after core-amid
  passes-then room distinct n few = record {
    key = jump_behind node from to n;
    next = jump_behind node from to (suc n);
    function = f;
    owes = owes-then n few;
    distinct = distinct-then distinct n (omega (arith, few));
    free = free;
    waits = waits-then n;
    other = keys-apart n (suc n) (λ e. omega (arith, e));
    same = record { program = refl; graph = refl; roots = refl };
    onward = record { program = refl; graph = refl; roots = refl };
    lowers = lowers-then n few;
    changes = changes-then n few;
    falls = falls-then room n few;
    before = remembers-amid n few;
    free_amid = free;
    waits_amid = waits-amid n;
    table = refl;
    ends = ends-then n few;
    claims = λ h. refl;
    behind = remembers-after n few;
  }

  module _ (new : CoreData F) (same : IsSameProblem start new) (distinct : IsDistinct same_key (keys_of start.table.entries))
      (entries : EntersWalked (jump_behind node from to) f count start.table new.table)
      (goes : GoesTo (Jump node from to) (jump_behind node from to count) start.pile new.pile) (claims : new.pile.claims ≡ start.pile.claims) where
    -- the last of them has that of the core then
    last-pending : (q : Key) → is_pending new.pile q ≡ is_pending (core-after count).pile q
    unfolding core-after
    last-pending q =
        goes q
        ∙ (λ i. same_key_symm (jump_behind node from to count) q i || (not (same_key (sym first-of-walk i) q) && is_pending start.pile q))
        ∙ ap (λ b. same_key q (jump_behind node from to count) || b) (sym (among-other-keys (jump_behind node from to 0) q start.pile.pending))

    last-found : (q : Key) → lookup (same_key q) new.table.entries ≡ lookup (same_key q) (entries_then count)
    unfolding entries_then
    last-found q =
        found-permuted (start.table.entries ++ walked_entries (jump_behind node from to) f count) new.table.entries entries (distinct-then distinct count (omega arith)) q

    pub last-state : state_of B targets new ≡ state_of B targets (core-after count)
    unfolding core-after
    last-state =
        λ i. record {
          get = λ q. last-found q i;
          pending = λ q. last-pending q i;
          claims = λ h. option_map (claim_of B targets) (get_or (claims i) h None);
        }

    walk-ends : GoesOnByHand A B targets 0 0 0 0 (core-after count) new
    unfolding core-after
    walk-ends = goes-nowhere A B targets 0 (core-after count) new (record { program = same.program; graph = same.graph; roots = same.roots }) last-state

    pub remembers-last : new.changes ≡ changes_then count → Remembers (core-after count) new
    unfolding core-after
    remembers-last changes =
        remembers-change (core-after count) new None changes (λ q _. λ i. record { function = last-found q i; pending = last-pending q i })

    pub walk-remembers : new.changes ≡ changes_then count → Remembers start new
    walk-remembers changes = remembers-then start (core-after count) new (remembers-then-all count (omega arith)) (remembers-last changes)

    -- so many claims of hand 0, each with a lowering, lead to it, and are paid for
    pub walk-goes : GoesOnByHand A B targets 0 count count 0 start new
    walk-goes =
        subst (λ m. GoesOnByHand A B targets 0 m m 0 start new) (omega arith)
        (goes-then A B targets start (core-after count) new (goes-then A B targets start (core-after 0) (core-after count) walk-begins (walk-chain count (omega arith))) walk-ends)

    pub walk-pays : length new.pile.pending ≡ length start.pile.pending → GoesOnPaid A B targets count start new
    walk-pays long = record {
      lowerings = count;
      goes = walk-goes;
      paid = record {
        keys = omega (arith, long);
        ranks = let more = spent-entered B targets start.table.entries (jump_behind node from to) f unchanged.less count in let all = spent-permuted (start.table.entries ++ walked_entries (jump_behind node from to) f count) new.table.entries entries B in omega (arith, more, all);
      };
    }

-- what follows from a walk
module _ {F L : Type 0} (A : LatticeAlgebra L) (B : EdgeAlgebra F L) (targets : Targets F) (steps : CallsAreSteps A B targets) (top : B.rank B.all_top ≡ B.height)
    (old new : CoreData F) (count : ℕ) (free : IsFree old.pile) (walk : WalksOwed B targets old new count) where
  pub walked-pays : GoesOnPaid A B targets count old new
  walked-pays =
      walk-pays A B targets steps top old free walk.may.graph walk.may.loaded walk.node walk.from walk.to walk.function walk.may.may.unchanged walk.waits walk.has
      count walk.may.may.passes walk.may.may.absent walk.may.may.settled new walk.same walk.distinct walk.entries walk.goes walk.claims walk.long

  pub walked-remembers : Remembers old new
  walked-remembers =
      walk-remembers A B targets steps top old free walk.may.graph walk.may.loaded walk.node walk.from walk.to walk.function walk.may.may.unchanged walk.waits walk.has
      count walk.may.may.passes walk.may.may.absent walk.may.may.settled new walk.same walk.distinct walk.entries walk.goes walk.claims walk.changes

  pub walked-falls : 0 < count → HasLess B old new
  walked-falls some =
      entered-falls B targets old.table.entries new.table.entries (jump_behind walk.node walk.from walk.to) walk.function count
      (length old.pile.pending) (length new.pile.pending) walk.may.may.unchanged.less walk.entries walk.few walk.long some

  pub walked-count : noted_count new.changes ≤ noted_count old.changes + 1 + count
  walked-count =
      let all = ap noted_count walk.changes in
      let first = note-count old.changes (Jump walk.node walk.from walk.to) (standing_entry old (Jump walk.node walk.from walk.to)) in
      let more = entered-count (with_note old.changes (Jump walk.node walk.from walk.to) (standing_entry old (Jump walk.node walk.from walk.to)))
      (jump_behind walk.node walk.from walk.to) count in
      omega (arith, all, first, more)

-- what follows where so many nodes were walked over, or none
module _ {F L : Type 0} (A : LatticeAlgebra L) (B : EdgeAlgebra F L) (targets : Targets F) (steps : CallsAreSteps A B targets) (top : B.rank B.all_top ≡ B.height)
    (old new : CoreData F) (count : ℕ) (free : IsFree old.pile) where
  pub has-paid : HasWalked B targets old new count → GoesOnPaid A B targets count old new
  has-paid (inl none) = subst (λ n. GoesOnPaid A B targets n old new) (sym none.0) (paid-same A B targets old new none.1)
  has-paid (inr some) = walked-pays A B targets steps top old new count free some.1

  pub has-remembered : HasWalked B targets old new count → Remembers old new
  has-remembered (inl none) =
      remembers-same old new (ap (λ (core : CoreData F). core.changes) none.1) (ap (λ (core : CoreData F). core.table) none.1) (ap (λ (core : CoreData F). core.pile.pending) none.1)
  has-remembered (inr some) = walked-remembers A B targets steps top old new count free some.1

  -- no hand has a claim still
  pub has-free : HasWalked B targets old new count → IsFree new.pile
  has-free (inl none) = subst (λ (core : CoreData F). IsFree core.pile) (sym none.1) free
  has-free (inr some) = λ h. ap (λ claims. get_or claims h None) some.1.claims ∙ free h

  -- there is no more to do than before
  pub has-no-more : HasWalked B targets old new count → potential B new ≤ potential B old
  has-no-more (inl none) = let same = ap (potential B) none.1 in omega (arith, same)
  has-no-more (inr some) = let less = walked-falls A B targets steps top old new count free some.1 some.0 in omega (arith, less)

-- a walk is such steps, one after the other
module _ {F L : Type 0} (A : LatticeAlgebra L) (B : EdgeAlgebra F L) (targets : Targets F) (steps : CallsAreSteps A B targets) (top : B.rank B.all_top ≡ B.height)
    (old new : CoreData F) (count : ℕ) (free : IsFree old.pile) (walk : WalksOwed B targets old new count) where
  abbrev pub core_then : ℕ → CoreData F
  core_then =
      core-after A B targets steps top old free walk.may.graph walk.may.loaded walk.node walk.from walk.to walk.function walk.may.may.unchanged walk.waits walk.has
      count walk.may.may.passes walk.may.may.absent walk.may.may.settled

  abbrev pub core_amid : ℕ → CoreData F
  core_amid =
      core-amid A B targets steps top old free walk.may.graph walk.may.loaded walk.node walk.from walk.to walk.function walk.may.may.unchanged walk.waits walk.has
      count walk.may.may.passes walk.may.may.absent walk.may.may.settled

  pub core-links : IsDistinct same_key (keys_of old.table.entries) → (n : ℕ) → n < count → PassesOn B targets (core_then n) (core_amid n) (core_then (suc n))
  core-links =
      passes-then A B targets steps top old free walk.may.graph walk.may.loaded walk.node walk.from walk.to walk.function walk.may.may.unchanged walk.waits walk.has
      count walk.may.may.passes walk.may.may.absent walk.may.may.settled
      (let all = long-permuted (old.table.entries ++ walked_entries (jump_behind walk.node walk.from walk.to) walk.function count) new.table.entries walk.entries in let more = length-append old.table.entries (walked_entries (jump_behind walk.node walk.from walk.to) walk.function count) in let few = walk.few in
      let so_many = length-entered (jump_behind walk.node walk.from walk.to) walk.function count in
      omega (arith, all, more, few, so_many))

  pub core-first : Remembers old (core_then 0)
  core-first =
      remembers-first A B targets steps top old free walk.may.graph walk.may.loaded walk.node walk.from walk.to walk.function walk.may.may.unchanged walk.waits walk.has
      count walk.may.may.passes walk.may.may.absent walk.may.may.settled

  pub state-first : state_of B targets (core_then 0) ≡ state_of B targets old
  state-first =
      first-state A B targets steps top old free walk.may.graph walk.may.loaded walk.node walk.from walk.to walk.function walk.may.may.unchanged walk.waits walk.has
      count walk.may.may.passes walk.may.may.absent walk.may.may.settled

  pub core-last : Remembers (core_then count) new
  core-last =
      remembers-last A B targets steps top old free walk.may.graph walk.may.loaded walk.node walk.from walk.to walk.function walk.may.may.unchanged walk.waits walk.has
      count walk.may.may.passes walk.may.may.absent walk.may.may.settled new walk.same walk.distinct walk.entries walk.goes walk.claims walk.changes

  pub core-same : (n : ℕ) → IsSameProblem old (core_then n)
  core-same =
      problem-then A B targets steps top old free walk.may.graph walk.may.loaded walk.node walk.from walk.to walk.function walk.may.may.unchanged walk.waits walk.has
      count walk.may.may.passes walk.may.may.absent walk.may.may.settled

  pub state-last : state_of B targets new ≡ state_of B targets (core_then count)
  state-last =
      last-state A B targets steps top old free walk.may.graph walk.may.loaded walk.node walk.from walk.to walk.function walk.may.may.unchanged walk.waits walk.has
      count walk.may.may.passes walk.may.may.absent walk.may.may.settled new walk.same walk.distinct walk.entries walk.goes walk.claims

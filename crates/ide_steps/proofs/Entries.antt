-- Entries put into a state one after the other.
use Rattle.std.proofs.Common.{◌≡◌, ℕ, ◌+◌, suc, ◌≤◌, add-one, refl, sym, ap, ◌∙◌, arith, List, [], ◌∷◌, ◌++◌, Option, Some, None, Bool, true, false, cond, ◌||◌}
use Rattle.std.proofs.lemmas.Bool.Decides.{nat_tests}
use Rattle.std.proofs.lemmas.List.Elements.{All-nil, All-push}
use Rattle.std.specs.Prelude.{option_map}
use Rattle.std.specs.List.{list_any}
use Rattle.std.specs.Map.{keys_of}
use Rattle.std.specs.Option.{is_some}
use Rattle.ide_lattice.specs.Algebra.{EdgeAlgebra}
use Rattle.ide_problem.specs.Flow.{Targets}
use Rattle.ide_image.specs.Tables.{Table, SetsAll, found, last_of}
use Rattle.ide_tasks.specs.Task.{TaskData}
use Rattle.ide_theory.specs.State.{Claim, State, claim_marked, seeded, with_function}
use Rattle.ide_wire.specs.Key.{node_of, same_key, same_key_symm}
use Rattle.ide_wire.specs.declared.key.Key.{Key}
use Rattle.ide_wire.specs.declared.key.Key.TheVariants.{Jump}
use Rattle.ide_image.specs.Worklist.{Pile, claim_at, is_pending}
use Rattle.ide_image.specs.declared.claim.Claim.{Claim as Held}
use Rattle.ide_theory.specs.Images.{seeded_below, seeded_once}
use Rattle.ide_steps.specs.Core.{CoreData}
use Rattle.ide_image.specs.KeyedImage.{marked_all}
use Rattle.ide_steps.specs.Rooted.{AllAbsent, AllAt, marked_by, with_entries}
use Rattle.ide_steps.specs.State.{claim_of}
use Rattle.ide_steps.proofs.States.{or-cond, state-at}

module _ {F : Type 0} where
  pub last_of-more : (es : List (Key × F)) (e : Key × F) (q : Key) (f : Option F) → last_of (es ++ e ∷ []) q f ≡ cond (same_key e.0 q) (Some e.1) (last_of es q f)
  last_of-more [] e q f = refl
  last_of-more (x ∷ es) e q f = last_of-more es e q (cond (same_key x.0 q) (Some x.1) f)

  pub last_of-other : (es : List (Key × F)) (q : Key) (f : Option F) → list_any (same_key q) (keys_of es) ≡ false → last_of es q f ≡ f
  last_of-other [] q f apart = refl
  last_of-other (x ∷ es) q f apart =
      let off : same_key q x.0 ≡ false = grind (arith, apart) in
      let rest : list_any (same_key q) (keys_of es) ≡ false = grind (arith, apart) in
      ap (λ b. last_of es q (cond b (Some x.1) f)) (same_key_symm x.0 q ∙ off) ∙ last_of-other es q f rest

  pub any-more : (p : Key → Bool) (es : List (Key × F)) (e : Key × F) → list_any p (keys_of (es ++ e ∷ [])) ≡ (p e.0 || list_any p (keys_of es))
  any-more p [] e = refl
  any-more p (x ∷ es) e = ap (λ b. p x.0 || b) (any-more p es e) ∙ grind (arith)

  -- marks stay no progress
  pub progress-marked : (keys : List Key) (o : Option (Held (TaskData F)))
      → option_map {U = TaskData F × ℕ} (λ held. (held.task, held.done)) (marked_all keys o) ≡ option_map {U = TaskData F × ℕ} (λ held. (held.task, held.done)) o
  progress-marked keys None = refl
  progress-marked keys (Some held) = refl

  -- no entry changes nothing
  pub with-none : (s : State F) → with_entries s [] ≡ s
  with-none s = λ i. record { get = s.get; pending = s.pending; claims = λ h. same (s.claims h) i }
    where
      same : (o : Option (Claim F)) → option_map (marked_by []) o ≡ o
      same None = refl
      same (Some claim) = refl

module _ {F L : Type 0} (B : EdgeAlgebra F L) (targets : Targets F) where
  -- one entry more gives its key the function
  pub with-more : (s : State F) (es : List (Key × F)) (key : Key) (f : F)
      → with_entries s (es ++ (key, f) ∷ []) ≡ with_function (with_entries s es) key f
  with-more s es key f =
      let gets : (q : Key) → last_of (es ++ (key, f) ∷ []) q (s.get q) ≡ cond (same_key key q) (Some f) (last_of es q (s.get q)) =
      λ q. last_of-more es (key, f) q (s.get q) in
      let waits : (q : Key) → (list_any (same_key q) (keys_of (es ++ (key, f) ∷ [])) || s.pending q) ≡ cond (same_key key q) true (list_any (same_key q) (keys_of es) || s.pending q) =
      λ q. ap (λ b. b || s.pending q) (any-more (same_key q) es (key, f) ∙ ap (λ b. b || list_any (same_key q) (keys_of es)) (same_key_symm q key))
      ∙ (grind (arith) ∙ or-cond (same_key key q) (list_any (same_key q) (keys_of es) || s.pending q)) in
      λ i. record { get = λ q. gets q i; pending = λ q. waits q i; claims = λ h. marks (s.claims h) i }
    where
      marks : (o : Option (Claim F)) → option_map (marked_by (keys_of (es ++ (key, f) ∷ []))) o
          ≡ option_map (claim_marked key) (option_map (marked_by (keys_of es)) o)
      marks None = refl
      marks (Some claim) = ap (λ b. Some (record claim { lowered = b })) (ap (λ b. b || claim.lowered) (any-more (same_key claim.key) es (key, f)) ∙ grind (arith))

  -- the state of tables with these entries set, and their keys pushed
  pub state-with : (table new_table : Table F) (pile new_pile : Pile (TaskData F)) (es : List (Key × F)) → SetsAll table new_table es
      → ((q : Key) → is_pending new_pile q ≡ (list_any (same_key q) (keys_of es) || is_pending pile q))
      → ((h : ℕ) → claim_at new_pile h ≡ marked_all (keys_of es) (claim_at pile h))
      → state-at B targets new_table new_pile ≡ with_entries (state-at B targets table pile) es
  state-with table new_table pile new_pile es sets pending claims =
      let hands : (h : ℕ) → option_map (claim_of B targets) (claim_at new_pile h)
      ≡ option_map (marked_by (keys_of es)) (option_map (claim_of B targets) (claim_at pile h)) =
      λ h. ap (option_map (claim_of B targets)) (claims h) ∙ marks (claim_at pile h) in
      λ i. record { get = λ q. sets.entries q i; pending = λ q. pending q i; claims = λ h. hands h i }
    where
      marks : (o : Option (Held (TaskData F))) → option_map (claim_of B targets) (marked_all (keys_of es) o)
          ≡ option_map (marked_by (keys_of es)) (option_map (claim_of B targets) o)
      marks None = refl
      marks (Some held) = refl

-- no key of the entries is the jump of the fact n or of one after it
abbrev pub AreBefore : {F : Type 0} → ℕ → ℕ → List (Key × F) → Type 0
AreBefore r n es = (d : ℕ) → n ≤ d → list_any (same_key (Jump r d d)) (keys_of es) ≡ false

-- a fact's jump is no other fact's
jump-apart : (r d n : ℕ) → suc n ≤ d → same_key (Jump r d d) (Jump r n n) ≡ false
jump-apart r d n less = grind (arith, nat_tests, less)

pub before-more : {F : Type 0} (r n : ℕ) (es : List (Key × F)) (f : F) → AreBefore r n es → AreBefore r (n + 1) (es ++ (Jump r n n, f) ∷ [])
before-more r n es f before d less =
    any-more (same_key (Jump r d d)) es (Jump r n n, f)
    ∙ ((λ i. jump-apart r d n (omega (arith, less)) i || before d (omega (arith, less)) i))

pub before-later : {F : Type 0} (r n : ℕ) (es : List (Key × F)) → AreBefore r n es → AreBefore r (n + 1) es
before-later r n es before d less = before d (omega (arith, less))

-- one entry more at the node
pub at-none : {F : Type 0} (node : ℕ) → AllAt {F = F} node []
at-none {F} node = All-nil (λ (e : Key × F). node_of e.0 ≡ node)

pub at-more : {F : Type 0} (node : ℕ) (es : List (Key × F)) (key : Key) (f : F) → node_of key ≡ node → AllAt node es → AllAt node (es ++ (key, f) ∷ [])
at-more {F} node es key f at all = All-push (λ (e : Key × F). node_of e.0 ≡ node) es (key, f) all at

-- one entry more of an absent key
pub absent-none : {F : Type 0} (core : CoreData F) → AllAbsent core []
absent-none {F} core = All-nil (λ (e : Key × F). found core.table e.0 ≡ None)

pub absent-more : {F : Type 0} (core : CoreData F) (es : List (Key × F)) (key : Key) (f : F) → found core.table key ≡ None → AllAbsent core es
    → AllAbsent core (es ++ (key, f) ∷ [])
absent-more {F} core es key f at all = All-push (λ (e : Key × F). found core.table e.0 ≡ None) es (key, f) all at

module _ {F L : Type 0} (B : EdgeAlgebra F L) (targets : Targets F) (r n : ℕ) (s : State F) (es : List (Key × F)) (before : AreBefore r n es) where
  -- the entries before leave the fact's own
  own : (with_entries s es).get (Jump r n n) ≡ s.get (Jump r n n)
  own = last_of-other es (Jump r n n) (s.get (Jump r n n)) (before n (omega arith))

  -- one fact more is entered, after those of the entries
  one-more : seeded_below B s r n ≡ with_entries s es → seeded_below B s r (n + 1) ≡ seeded_once B (with_entries s es) (Jump r n n)
  one-more are = ap (seeded_below B s r) (add-one n) ∙ ap (λ t. seeded_once B t (Jump r n n)) are

  -- it was absent, and is the identity now
  pub entered-absent : (f : F) → f ≡ B.id → s.get (Jump r n n) ≡ None → seeded_below B s r n ≡ with_entries s es
      → seeded_below B s r (n + 1) ≡ with_entries s (es ++ (Jump r n n, f) ∷ [])
  entered-absent f is none are =
      one-more are
      ∙ ap (λ o. cond (is_some o) (with_entries s es) (seeded B (with_entries s es) (Jump r n n))) (own ∙ none)
      ∙ (ap (with_function (with_entries s es) (Jump r n n)) (sym is) ∙ sym (with-more B targets s es (Jump r n n) f))

  -- it was present, and stays
  pub entered-present : (s.get (Jump r n n) ≡ None → ⊥) → seeded_below B s r n ≡ with_entries s es → seeded_below B s r (n + 1) ≡ with_entries s es
  entered-present present are =
      one-more are
      ∙ ap (λ b. cond b (with_entries s es) (seeded B (with_entries s es) (Jump r n n))) (ap is_some own ∙ some-of (s.get (Jump r n n)) present)
    where
      some-of : (o : Option F) → (o ≡ None → ⊥) → is_some o ≡ true
      some-of None none = absurd (none refl)
      some-of (Some f) none = refl

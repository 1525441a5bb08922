-- What stands at the nodes of a procedure.
use Rattle.std.proofs.Common.{◌≡◌, ◌≢◌, ◌<◌, ℕ, zero, suc, ◌+◌, List, [], ◌∷◌, ◌++◌, Option, Some, ◌⊎◌, inl, inr, take, length, refl, ap, subst, ◌∙◌, arith}
use Rattle.std.specs.Prelude.{slice_get}
use Rattle.std.specs.Global.{Vec}
use Rattle.std.specs.List.{flat_map, position}
use Rattle.std.proofs.lemmas.List.{length-append}
use Rattle.std.proofs.lemmas.Option.{slice_get_within}
use Rattle.ide_text.specs.declared.program.Procedure.{Procedure}
use Rattle.ide_text.specs.declared.program.Statement.{Statement}
use Rattle.ide_text.specs.declared.program.Statement.TheVariants.{Assign, Skip, At, Goto, Branch, Call, Return}
use Rattle.ide_text.specs.Names.{declares}
use Rattle.ide_graph.specs.Numbers.{label_from, Spot, start, statement, return_site, exit, spots_on, spots_of}
use Rattle.ide_graph.proofs.FoundLemmas.{mapped, there}
use Rattle.ide_graph.proofs.SliceLemmas.{at_left, at_right, at_either, at_end}

-- the nodes of statements
abbrev pub body : List Statement → List Spot
body ss = flat_map spots_on ss

-- what stands there among the nodes of statements: a statement, or the return site of a call
pub data InBody (ss : List Statement) (m : ℕ) (spot : Spot) : Type 0 where
  statement_at : (place : ℕ) (s : Statement) → slice_get ss place ≡ Some s → m ≡ length (body (take place ss)) → spot ≡ statement s → InBody ss m spot
  return_at : (place : ℕ) (target : Option (List ℕ)) (callees arguments : Vec (List ℕ)) → slice_get ss place ≡ Some (Call target callees arguments) → m ≡ suc (length (body (take place ss))) → spot ≡ return_site → InBody ss m spot

-- the first node of a statement is its own
first_on : (s : Statement) → slice_get (spots_on s) 0 ≡ Some (statement s)
first_on (Assign x e) = refl
first_on Skip = refl
first_on (At l) = refl
first_on (Goto l) = refl
first_on (Branch l) = refl
first_on (Call target callees arguments) = refl
first_on (Return y) = refl

one_on : (s : Statement) (m : ℕ) (spot : Spot) → slice_get (statement s ∷ []) m ≡ Some spot → (m ≡ 0) × (spot ≡ statement s)
one_on s zero spot e = (refl, cc)
one_on s (suc m) spot e = let none : ⊥ = cc in elim none [ ]

-- its other node, if it has one, is a return site
abbrev OnCall : Statement → ℕ → Spot → Type 0
OnCall s m spot = (target : Option (List ℕ)) × (callees : Vec (List ℕ)) × (arguments : Vec (List ℕ)) × (s ≡ Call target callees arguments) × (m ≡ 1) × (spot ≡ return_site)

in_spots : (s : Statement) (m : ℕ) (spot : Spot) → slice_get (spots_on s) m ≡ Some spot → ((m ≡ 0) × (spot ≡ statement s)) ⊎ OnCall s m spot
in_spots (Assign x e) m spot at = inl (one_on (Assign x e) m spot at)
in_spots Skip m spot at = inl (one_on Skip m spot at)
in_spots (At l) m spot at = inl (one_on (At l) m spot at)
in_spots (Goto l) m spot at = inl (one_on (Goto l) m spot at)
in_spots (Branch l) m spot at = inl (one_on (Branch l) m spot at)
in_spots (Call target callees arguments) zero spot at = inl (refl, cc)
in_spots (Call target callees arguments) (suc zero) spot at = inr (target, callees, arguments, refl, refl, cc)
in_spots (Call target callees arguments) (suc (suc m)) spot at = let none : ⊥ = cc in elim none [ ]
in_spots (Return y) m spot at = inl (one_on (Return y) m spot at)

later : (s : Statement) (ss : List Statement) (k m : ℕ) (spot : Spot) → m ≡ length (spots_on s) + k → InBody ss k spot → InBody (s ∷ ss) m spot
later s ss k m spot e (statement_at place t at there is) = statement_at (suc place) t at (rw length-append (omega arith)) is
later s ss k m spot e (return_at place target callees arguments at there is) = return_at (suc place) target callees arguments at (rw length-append (omega arith)) is

pub in_body : (ss : List Statement) (m : ℕ) (spot : Spot) → slice_get (body ss) m ≡ Some spot → InBody ss m spot
in_body [] m spot e = let none : ⊥ = cc in elim none [ ]
in_body (s ∷ ss) m spot e =
    elim (at_either (spots_on s) (body ss) m spot e) [
      | inl a ↦
          elim (in_spots s m spot a) [
            | inl h ↦ statement_at 0 s refl h.0 h.1
            | inr h ↦ return_at 0 h.0 h.1 h.2 (ap (λ t. Some t) h.3) h.4 h.5
          ]
      | inr r ↦ later s ss r.0 m spot r.1 (in_body ss r.0 spot r.2)
    ]

-- a statement stands past the nodes of those before it
pub body_at : (ss : List Statement) (place : ℕ) (s : Statement) → slice_get ss place ≡ Some s → slice_get (body ss) (length (body (take place ss))) ≡ Some (statement s)
body_at [] place s e = let none : ⊥ = cc in elim none [ ]
body_at (t ∷ ss) zero s e = let same : t ≡ s = cc in at_left (spots_on t) (body ss) 0 (statement s) (first_on t ∙ ap (λ r. Some (statement r)) same)
body_at (t ∷ ss) (suc place) s e = rw length-append (at_right (spots_on t) (body ss) (length (body (take place ss))) ∙ body_at ss place s e)

-- past a call stands its return site
after_place : (ss : List Statement) (place : ℕ) (target : Option (List ℕ)) (callees arguments : Vec (List ℕ)) → slice_get ss place ≡ Some (Call target callees arguments) → slice_get (body ss) (suc (length (body (take place ss)))) ≡ Some return_site
after_place [] place target callees arguments e = let none : ⊥ = cc in elim none [ ]
after_place (t ∷ ss) zero target callees arguments e =
    let same : Call target callees arguments ≡ t = cc in
    subst (λ r. slice_get (spots_on r ++ body ss) 1 ≡ Some return_site) same refl
after_place (t ∷ ss) (suc place) target callees arguments e =
    let next : suc (length (spots_on t) + length (body (take place ss))) ≡ length (spots_on t) + suc (length (body (take place ss))) = omega arith in
    rw (length-append, next) (at_right (spots_on t) (body ss) (suc (length (body (take place ss)))) ∙ after_place ss place target callees arguments e)

pub after_call : (ss : List Statement) (m : ℕ) (target : Option (List ℕ)) (callees arguments : Vec (List ℕ)) → slice_get (body ss) m ≡ Some (statement (Call target callees arguments)) → slice_get (body ss) (suc m) ≡ Some return_site
after_call ss m target callees arguments e =
    elim (in_body ss m (statement (Call target callees arguments)) e) [
      | statement_at place s at there is ↦
          let same : s ≡ Call target callees arguments = cc in
          rw there (after_place ss place target callees arguments (at ∙ ap (λ t. Some t) same))
      | return_at place t c a at there is ↦ let none : ⊥ = cc in elim none [ ]
    ]

module _ (q : Procedure) where
  pub spots_length : length (spots_of q) ≡ length (body q.statements.items) + 2
  spots_length = rw length-append (omega arith)

  -- the start, a node of the statements, or the exit
  pub data InSpots (k : ℕ) (spot : Spot) : Type 0 where
    at_start : k ≡ 0 → spot ≡ start → InSpots k spot
    at_body : (m : ℕ) → k ≡ suc m → slice_get (body q.statements.items) m ≡ Some spot → InSpots k spot
    at_exit : suc k ≡ length (spots_of q) → spot ≡ exit → InSpots k spot

  last_of : (xs : List Spot) (n k : ℕ) (spot : Spot) → n ≡ length xs + k → slice_get (exit ∷ []) k ≡ Some spot → (n ≡ length xs) × (spot ≡ exit)
  last_of xs n zero spot e at = (omega arith, cc)
  last_of xs n (suc k) spot e at = let none : ⊥ = cc in elim none [ ]

  pub in_procedure : (k : ℕ) (spot : Spot) → slice_get (spots_of q) k ≡ Some spot → InSpots k spot
  in_procedure zero spot e = at_start refl cc
  in_procedure (suc m) spot e =
      elim (at_either (body q.statements.items) (exit ∷ []) m spot e) [
        | inl a ↦ at_body m refl a
        | inr r ↦ let last = last_of (body q.statements.items) m r.0 spot r.1 r.2 in at_exit (omega (arith, spots_length, last.0)) last.1
      ]

  pub body_within : (m : ℕ) (spot : Spot) → slice_get (body q.statements.items) m ≡ Some spot → slice_get (spots_of q) (suc m) ≡ Some spot
  body_within m spot e = at_left (body q.statements.items) (exit ∷ []) m spot e

  pub exit_stands : (k : ℕ) → suc k ≡ length (spots_of q) → slice_get (spots_of q) k ≡ Some exit
  exit_stands k e = let at : k ≡ suc (length (body q.statements.items)) = omega (arith, spots_length) in rw at (at_end (body q.statements.items) exit)

  -- a statement that stands at a node is one of the procedure's
  pub statement_in : (k : ℕ) (s : Statement) → slice_get (spots_of q) k ≡ Some (statement s) → (place : ℕ) × (slice_get q.statements.items place ≡ Some s)
  statement_in k s e =
      elim (in_procedure k (statement s) e) [
        | at_start z is ↦ let none : ⊥ = cc in elim none [ ]
        | at_body m at b ↦
            elim (in_body q.statements.items m (statement s) b) [
              | statement_at place t there x is ↦ let same : t ≡ s = cc in (place, there ∙ ap (λ r. Some r) same)
              | return_at place target callees arguments there x is ↦ let none : ⊥ = cc in elim none [ ]
            ]
        | at_exit at is ↦ let none : ⊥ = cc in elim none [ ]
      ]

  -- all but the exit have a next node in the procedure
  pub next_in : (k : ℕ) (spot : Spot) → slice_get (spots_of q) k ≡ Some spot → spot ≢ exit → suc k < length (spots_of q)
  next_in k spot e no_exit =
      elim (in_procedure k spot e) [
        | at_start z is ↦ omega (arith, spots_length)
        | at_body m at b ↦ let short : m < length (body q.statements.items) = slice_get_within (body q.statements.items) m spot b in omega (arith, spots_length)
        | at_exit at is ↦ absurd (no_exit is)
      ]

  -- a label stands at the node of a statement
  pub label_in : (begin : ℕ) (l : List ℕ) (node : ℕ) → label_from begin q l ≡ Some node → (k : ℕ) × (s : Statement) × (node ≡ begin + k) × (slice_get (spots_of q) k ≡ Some (statement s))
  label_in begin l node e =
      let placed = mapped (λ (place : ℕ). begin + 1 + length (body (take place q.statements.items))) (position (declares l) q.statements.items) node e in
      let stands = there (declares l) q.statements.items placed.0 placed.1 in
      (suc (length (body (take placed.0 q.statements.items))), stands.0, omega (arith, placed.2), body_within (length (body (take placed.0 q.statements.items))) (statement stands.0) (body_at q.statements.items placed.0 stands.0 stands.1))

  -- the exit is the last node
  pub exit_in : (k : ℕ) → slice_get (spots_of q) k ≡ Some exit → suc k ≡ length (spots_of q)
  exit_in k e =
      elim (in_procedure k exit e) [
        | at_start z is ↦ let none : ⊥ = cc in elim none [ ]
        | at_body m at b ↦
            elim (in_body q.statements.items m exit b) [
              | statement_at place t there x is ↦ let none : ⊥ = cc in elim none [ ]
              | return_at place target callees arguments there x is ↦ let none : ⊥ = cc in elim none [ ]
            ]
        | at_exit at is ↦ at
      ]

  -- the start is the first
  pub start_in : (k : ℕ) → slice_get (spots_of q) k ≡ Some start → k ≡ 0
  start_in k e =
      elim (in_procedure k start e) [
        | at_start z is ↦ z
        | at_body m at b ↦
            elim (in_body q.statements.items m start b) [
              | statement_at place t there x is ↦ let none : ⊥ = cc in elim none [ ]
              | return_at place target callees arguments there x is ↦ let none : ⊥ = cc in elim none [ ]
            ]
        | at_exit at is ↦ let none : ⊥ = cc in elim none [ ]
      ]

  -- past a call stands its return site
  pub call_followed : (k : ℕ) (target : Option (List ℕ)) (callees arguments : Vec (List ℕ)) → slice_get (spots_of q) k ≡ Some (statement (Call target callees arguments)) → slice_get (spots_of q) (suc k) ≡ Some return_site
  call_followed k target callees arguments e =
      elim (in_procedure k (statement (Call target callees arguments)) e) [
        | at_start z is ↦ let none : ⊥ = cc in elim none [ ]
        | at_body m at b ↦ rw at (body_within (suc m) return_site (after_call q.statements.items m target callees arguments b))
        | at_exit at is ↦ let none : ⊥ = cc in elim none [ ]
      ]

  -- before a return site stands its call
  pub site_follows : (k : ℕ) → slice_get (spots_of q) k ≡ Some return_site → (j : ℕ) × (target : Option (List ℕ)) × (callees : Vec (List ℕ)) × (arguments : Vec (List ℕ)) × (k ≡ suc j) × (slice_get (spots_of q) j ≡ Some (statement (Call target callees arguments)))
  site_follows k e =
      elim (in_procedure k return_site e) [
        | at_start z is ↦ let none : ⊥ = cc in elim none [ ]
        | at_body m at b ↦
            elim (in_body q.statements.items m return_site b) [
              | statement_at place t there x is ↦ let none : ⊥ = cc in elim none [ ]
              | return_at place target callees arguments there x is ↦
                  let j : ℕ = length (body (take place q.statements.items)) in
                  (suc j, target, callees, arguments, omega (arith, at, x), body_within j (statement (Call target callees arguments)) (body_at q.statements.items place (Call target callees arguments) there))
            ]
        | at_exit at is ↦ let none : ⊥ = cc in elim none [ ]
      ]

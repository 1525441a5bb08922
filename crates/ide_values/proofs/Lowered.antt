-- Lowering one place of the rows from a node on by what a jump function gives it.
use Rattle.std.proofs.Common.{refl, ◌≡◌, ◌≢◌, ℕ, ◌+◌, ◌*◌, ◌^◌, ◌<◌, ◌≤◌, List, length, get_or, ap, sym, subst, ◌∙◌, inl, inr, arith}
use Rattle.std.proofs.Math.Nat.{add-mul, mul-le-mul_right}
use Rattle.std.proofs.lemmas.Bool.{cases_eq, cases_lt}
use Rattle.ide_graph.specs.Supergraph.{Supergraph}
use Rattle.ide_lattice.specs.Algebra.{LatticeAlgebra, EdgeAlgebra}
use Rattle.ide_wire.specs.declared.key.Key.{Key}
use Rattle.ide_wire.specs.declared.key.Key.TheVariants.{Jump, Summary}
use Rattle.ide_wire.specs.Key.{node_of}
use Rattle.ide_values.specs.Fill.{Meets}
use Rattle.ide_values.specs.Near.{IsSummary}
use Rattle.ide_values.specs.Start.{value_before}
use Rattle.ide_values.proofs.Places.{chosen_apart, chosen_same, row_before, same_place}

module _ {F L : Type 0} (A : LatticeAlgebra L) (B : EdgeAlgebra F L) (graph : Supergraph) (starts : List L) (first node from to : ℕ) (f : F) where
  -- where the key ends at none of the places, nothing changes
  pub meets_none : (rows : List L)
      → ((k n d : ℕ) → k < length rows → d < graph.facts → n * graph.facts + d ≡ first * graph.facts + k → (node ≡ n) × (to ≡ d) → ⊥)
      → Meets A B graph starts first (Jump node from to) f rows rows
  meets_none rows apart has k n d within h r at = sym (chosen_apart node n to d _ _ (apart k n d within r at))

  -- so where it ends at a node before them
  pub meets_before : (rows : List L) → node < first → Meets A B graph starts first (Jump node from to) f rows rows
  meets_before rows less =
      meets_none rows (λ k n d within r at both.
      let before : n < first = omega (arith, less, both.0) in
      omega (arith, row_before n first d k graph.facts r before, at))

  -- and where it ends at a node past their last row
  pub meets_past : (rows : List L) (more : ℕ) → (0 < graph.facts → length rows < (more + 1) * graph.facts) → first + more < node
      → Meets A B graph starts first (Jump node from to) f rows rows
  meets_past rows more few less =
      meets_none rows (λ k n d within r at both.
      let past : first + (more + 1) ≤ n = omega (arith, less, both.0) in
      let count : length rows < (more + 1) * graph.facts = few (omega (arith, r)) in
      omega (arith, mul-le-mul_right graph.facts past, add-mul first (more + 1) graph.facts, count, within, at))

  module _ (row place : ℕ) (sum : node ≡ first + row) (is : place ≡ row * graph.facts + to) where
    -- the place is that of the key's end
    ends_at : node * graph.facts + to ≡ first * graph.facts + place
    ends_at = omega (arith, ap (λ n. n * graph.facts) sum, add-mul first row graph.facts, is)

    ends_elsewhere : (k n d : ℕ) → n * graph.facts + d ≡ first * graph.facts + k → (k ≡ place → ⊥) → (node ≡ n) × (to ≡ d) → ⊥
    ends_elsewhere k n d at other both =
        let same : node * graph.facts + to ≡ n * graph.facts + d = ap (λ m. m * graph.facts + to) both.0 ∙ ap (λ b. n * graph.facts + b) both.1 in
        other (omega (arith, ends_at, at, same))

    -- so the value there is met, if it is one of them
    pub meets_there : (old new : List L) (value : L)
        → ((q : ℕ) → q ≢ place → get_or new q A.top ≡ get_or old q A.top)
        → (place < length old → get_or new place A.top ≡ A.meet (get_or old place A.top) value)
        → (node < graph.nodes → value ≡ B.apply f (value_before A graph starts node from))
        → Meets A B graph starts first (Jump node from to) f old new
    meets_there old new value other met gives has k n d within h r at = elim (cases_eq k place) [
      | inl same ↦
          let both : (node ≡ n) × (to ≡ d) =
          same_place node n to d graph.facts has.1 r (ends_at ∙ ap (λ p. first * graph.facts + p) (sym same) ∙ sym at) in
          subst (λ p. get_or new p A.top ≡ A.meet (get_or old p A.top) value) (sym same) (met (omega (arith, within, same)))
          ∙ ap (A.meet (get_or old k A.top)) (gives (omega (arith, h, both.0)))
          ∙ sym (chosen_same node n to d _ _ both.0 both.1)
      | inr apart ↦ other k apart ∙ sym (chosen_apart node n to d _ _ (ends_elsewhere k n d at apart))
    ]

-- the place of a fact in the row behind a row
pub place_behind : (row next facts to place : ℕ) → next ≡ row + 1 → place ≡ row * facts + to → place + facts ≡ next * facts + to
place_behind row next facts to place step is = omega (arith, ap (λ r. r * facts) step, is)

-- places of few rows are small
pub place_few : (row facts to place : ℕ) → row < 2 ^ 33 → facts ≤ 2 ^ 16 → to < 2 ^ 32 → place ≡ row * facts + to → place + facts < 2 ^ 64
place_few row facts to place few least less is =
    let most : row * facts ≤ 2 ^ 33 * facts = mul-le-mul_right facts (omega (arith, few)) in
    omega (arith, most, least, less, is)

-- a key at a node that has none of the rows changes nothing
pub meets_elsewhere : {F L : Type 0} (A : LatticeAlgebra L) (B : EdgeAlgebra F L) (graph : Supergraph) (starts : List L) (first more : ℕ) (key : Key) (f : F)
    (rows : List L) → (0 < graph.facts → length rows < (more + 1) * graph.facts) → ((first ≤ node_of key) × (node_of key ≤ first + more) → ⊥)
    → Meets A B graph starts first key f rows rows
meets_elsewhere A B graph starts first more (Jump node from to) f rows few apart = elim (cases_lt node first) [
  | inl before ↦ meets_before A B graph starts first node from to f rows before
  | inr from_first ↦ elim (cases_lt (first + more) node) [
    | inl past ↦ meets_past A B graph starts first node from to f rows more few past
    | inr near ↦ absurd (apart (from_first, near))
  ]
]
meets_elsewhere A B graph starts first more (Summary call from to) f rows few apart = λ _ k n d within h r at. refl

-- and so does a summary
pub meets_summary : {F L : Type 0} (A : LatticeAlgebra L) (B : EdgeAlgebra F L) (graph : Supergraph) (starts : List L) (first : ℕ) (key : Key) (f : F) (rows : List L)
    → IsSummary key → Meets A B graph starts first key f rows rows
meets_summary A B graph starts first (Jump node from to) f rows is = absurd is
meets_summary A B graph starts first (Summary call from to) f rows is = λ _ k n d within h r at. refl

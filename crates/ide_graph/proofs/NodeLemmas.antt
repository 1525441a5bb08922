-- Where the nodes of procedures stand among those of a program.
use Rattle.std.proofs.Common.{◌≡◌, ℕ, zero, suc, ◌+◌, ◌<◌, ◌≤◌, List, [], ◌∷◌, ◌++◌, Some, inl, inr, map, take, length, refl, sym, ap, ◌∙◌, subst, add_assoc, zero-add, add-zero, add-one, arith}
use Rattle.std.specs.Prelude.{slice_get}
use Rattle.std.proofs.lemmas.List.{length-append, length-map}
use Rattle.ide_text.specs.declared.program.Procedure.{Procedure}
use Rattle.ide_graph.specs.Numbers.{Spot, spots_of, nodes_from, nodes_of, start_of, exit_of}
use Rattle.ide_graph.proofs.SliceLemmas.{at_left, at_right, at_either, at_paired, paired_at}

-- the spot is the k-th of the procedure q, which is the j-th
pub record Located (base : ℕ) (procedures : List Procedure) (n index : ℕ) (spot : Spot) : Type 0 where
  pub j : ℕ
  pub q : Procedure
  pub k : ℕ
  pub index_is : index ≡ base + j
  pub owner : slice_get procedures j ≡ Some q
  pub at : n ≡ length (nodes_from base (take j procedures)) + k
  pub stands : slice_get (spots_of q) k ≡ Some spot

pub located : (base : ℕ) (procedures : List Procedure) (n index : ℕ) (spot : Spot) → slice_get (nodes_from base procedures) n ≡ Some (index, spot) → Located base procedures n index spot
located base [] n index spot e = let none : ⊥ = cc in elim none [ ]
located base (p ∷ procedures) n index spot e =
    elim (at_either (map (λ x. (base, x)) (spots_of p)) (nodes_from (base + 1) procedures) n (index, spot) e) [
      | inl a ↦
          let here = at_paired base index (spots_of p) n spot a in
          record { j = 0; q = p; k = n; index_is = omega (arith, here.0); owner = refl; at = omega arith; stands = here.1 }
      | inr r ↦
          let there = located (base + 1) procedures r.0 index spot r.2 in
          record {
            j = suc there.j;
            q = there.q;
            k = there.k;
            index_is = omega (arith, there.index_is);
            owner = there.owner;
            at = simp length-append (omega (arith, r.1, there.at));
            stands = there.stands;
          }
    ]

pub standing : (base : ℕ) (procedures : List Procedure) (j k : ℕ) (q : Procedure) (spot : Spot) → slice_get procedures j ≡ Some q → slice_get (spots_of q) k ≡ Some spot → slice_get (nodes_from base procedures) (length (nodes_from base (take j procedures)) + k) ≡ Some (base + j, spot)
standing base [] j k q spot e at = let none : ⊥ = cc in elim none [ ]
standing base (p ∷ procedures) zero k q spot e at =
    let same : p ≡ q = cc in
    let there : slice_get (spots_of p) k ≡ Some spot = subst (λ r. slice_get (spots_of r) k ≡ Some spot) (sym same) at in
    rw (zero-add, add-zero) (at_left (map (λ x. (base, x)) (spots_of p)) (nodes_from (base + 1) procedures) k (base, spot) (paired_at base (spots_of p) k spot there))
standing base (p ∷ procedures) (suc j) k q spot e at =
    let front : List (ℕ × Spot) = map (λ x. (base, x)) (spots_of p) in
    let place : length (front ++ nodes_from (base + 1) (take j procedures)) + k ≡ length front + (length (nodes_from (base + 1) (take j procedures)) + k) = simp length-append (omega arith) in
    let index : base + suc j ≡ base + 1 + j = omega arith in
    rw (place, index) (at_right front (nodes_from (base + 1) procedures) (length (nodes_from (base + 1) (take j procedures)) + k) ∙ standing (base + 1) procedures j k q spot e at)

length_from : (base : ℕ) (p : Procedure) (procedures : List Procedure) → length (nodes_from base (p ∷ procedures)) ≡ length (spots_of p) + length (nodes_from (base + 1) procedures)
length_from base p procedures =
    length-append (map (λ x. (base, x)) (spots_of p)) (nodes_from (base + 1) procedures) ∙ ap (λ n. n + length (nodes_from (base + 1) procedures)) (length-map (spots_of p) (λ x. (base, x)))

length_same : (p q : Procedure) → p ≡ q → length (spots_of p) ≡ length (spots_of q)
length_same p q same = ap (λ r. length (spots_of r)) same

starts_from : (base : ℕ) (procedures : List Procedure) (j : ℕ) (q : Procedure) → slice_get procedures j ≡ Some q → length (nodes_from base (take (suc j) procedures)) ≡ length (nodes_from base (take j procedures)) + length (spots_of q)
starts_from base [] j q e = let none : ⊥ = cc in elim none [ ]
starts_from base (p ∷ procedures) zero q e = let same : p ≡ q = cc in length_from base p [] ∙ (add-zero (length (spots_of p)) ∙ (length_same p q same ∙ sym (zero-add (length (spots_of q)))))
starts_from base (p ∷ procedures) (suc j) q e =
    length_from base p (take (suc j) procedures)
    ∙ (ap (λ n. length (spots_of p) + n) (starts_from (base + 1) procedures j q e)
    ∙ (sym (add_assoc (length (spots_of p)) (length (nodes_from (base + 1) (take j procedures))) (length (spots_of q)))
    ∙ ap (λ n. n + length (spots_of q)) (sym (length_from base p (take j procedures)))))

starts_apart_from : (base : ℕ) (procedures : List Procedure) (i j : ℕ) (q : Procedure) → slice_get procedures i ≡ Some q → i < j → length (nodes_from base (take i procedures)) + length (spots_of q) ≤ length (nodes_from base (take j procedures))
starts_apart_from base [] i j q e less = let none : ⊥ = cc in elim none [ ]
starts_apart_from base (p ∷ procedures) i zero q e less = absurd (omega arith)
starts_apart_from base (p ∷ procedures) zero (suc j) q e less = let same : p ≡ q = cc in rw length_from (omega (arith, length_same p q same))
starts_apart_from base (p ∷ procedures) (suc i) (suc j) q e less =
    let apart : length (nodes_from (base + 1) (take i procedures)) + length (spots_of q) ≤ length (nodes_from (base + 1) (take j procedures)) = starts_apart_from (base + 1) procedures i j q e (omega arith) in
    omega (arith, length_from base p (take i procedures), length_from base p (take j procedures), apart)

ends_from : (base : ℕ) (procedures : List Procedure) (i : ℕ) (q : Procedure) → slice_get procedures i ≡ Some q → length (nodes_from base (take i procedures)) + length (spots_of q) ≤ length (nodes_from base procedures)
ends_from base [] i q e = let none : ⊥ = cc in elim none [ ]
ends_from base (p ∷ procedures) zero q e = let same : p ≡ q = cc in rw length_from (omega (arith, length_same p q same))
ends_from base (p ∷ procedures) (suc i) q e =
    let within : length (nodes_from (base + 1) (take i procedures)) + length (spots_of q) ≤ length (nodes_from (base + 1) procedures) = ends_from (base + 1) procedures i q e in
    omega (arith, length_from base p (take i procedures), length_from base p procedures, within)

module _ (procedures : List Procedure) where
  -- the next procedure starts past the nodes of this one
  pub starts : (i : ℕ) (q : Procedure) → slice_get procedures i ≡ Some q → start_of procedures (i + 1) ≡ start_of procedures i + length (spots_of q)
  starts i q e = rw add-one (starts_from 0 procedures i q e)

  pub starts_apart : (i j : ℕ) (q : Procedure) → slice_get procedures i ≡ Some q → i < j → start_of procedures i + length (spots_of q) ≤ start_of procedures j
  starts_apart i j q e less = starts_apart_from 0 procedures i j q e less

  pub stands_at : (i k : ℕ) (q : Procedure) (spot : Spot) → slice_get procedures i ≡ Some q → slice_get (spots_of q) k ≡ Some spot → slice_get (nodes_of procedures) (start_of procedures i + k) ≡ Some (i, spot)
  stands_at i k q spot e at = let z : 0 + i ≡ i = omega arith in rw z at (standing 0 procedures i k q spot e at)

  -- a procedure has at least its start and its exit
  pub spots_two : (q : Procedure) → 2 ≤ length (spots_of q)
  spots_two q = simp length-append (omega arith)

  pub exits : (i : ℕ) (q : Procedure) → slice_get procedures i ≡ Some q → exit_of procedures i + 1 ≡ start_of procedures i + length (spots_of q)
  exits i q e = omega (arith, starts i q e, spots_two q)

  -- the nodes of a procedure are among those of the program
  pub ends_within : (i : ℕ) (q : Procedure) → slice_get procedures i ≡ Some q → start_of procedures i + length (spots_of q) ≤ length (nodes_of procedures)
  ends_within i q e = ends_from 0 procedures i q e

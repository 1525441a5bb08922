-- There are numbers for the nodes that are still to come.
use Rattle.std.proofs.Common.{◌≡◌, ℕ, zero, suc, ◌+◌, ◌≤◌, List, [], ◌∷◌, ◌++◌, Some, length, take, ap, arith, length-append}
use Rattle.std.specs.Prelude.{slice_get}
use Rattle.std.specs.List.{flat_map}
use Rattle.std.proofs.lemmas.List.{length-map}
use Rattle.std.proofs.lemmas.Option.{same_Some}
use Rattle.ide_text.specs.declared.program.Procedure.{Procedure}
use Rattle.ide_text.specs.declared.program.Statement.{Statement}
use Rattle.ide_text.specs.declared.program.Statement.TheVariants.{Assign, Skip, At, Goto, Branch, Call, Return}
use Rattle.ide_graph.specs.declared.numbering.Spot.{Spot as Placed}
use Rattle.ide_graph.specs.Numbering.{nodes_at, nodes_in, node_value}
use Rattle.ide_graph.specs.Numbers.{Spot, exit, spots_of, spots_on}

-- a statement has a node
pub some_spot : (s : Statement) → 1 ≤ length (spots_on s)
some_spot (Assign x e) = omega arith
some_spot Skip = omega arith
some_spot (At l) = omega arith
some_spot (Goto l) = omega arith
some_spot (Branch l) = omega arith
some_spot (Call target callees arguments) = omega arith
some_spot (Return y) = omega arith

-- the nodes of a statement are among those of all statements
spots_fit : (ss : List Statement) (i : ℕ) (s : Statement) → slice_get ss i ≡ Some s → length (flat_map spots_on (take i ss)) + length (spots_on s) ≤ length (flat_map spots_on ss)
spots_fit [] i s at = absurd (let none : ⊥ = cc in none)
spots_fit (r ∷ ss) zero s at =
    let same : length (spots_on r) ≡ length (spots_on s) = ap (λ t. length (spots_on t)) (same_Some r s at) in
    omega (arith, same, length-append (spots_on r) (flat_map spots_on ss))
spots_fit (r ∷ ss) (suc i) s at =
    omega (arith, spots_fit ss i s at, length-append (spots_on r) (flat_map spots_on (take i ss)), length-append (spots_on r) (flat_map spots_on ss))

-- so many nodes were added
pub spots_after : (now old : List Placed) (k : ℕ) (spots : List Spot) → nodes_in now ≡ nodes_in old ++ nodes_at k spots → length now ≡ length old + length spots
spots_after now old k spots is =
    omega (
      arith,
      ap length is,
      length-map now node_value,
      length-map old node_value,
      length-append (nodes_in old) (nodes_at k spots),
      length-map {B = ℕ × Spot} spots (λ spot. (k, spot)),
    )

-- the nodes of a procedure
pub spots_count : (q : Procedure) → length (spots_of q) ≡ 2 + length (flat_map spots_on q.statements.items)
spots_count q = omega (arith, length-append (flat_map spots_on q.statements.items) (exit ∷ []))

-- so many nodes are taken before a statement, of those that there are
pub room_before : (now old : List Placed) (k : ℕ) (ss : List Statement) (i : ℕ) (s : Statement) → nodes_in now ≡ nodes_in old ++ nodes_at k (flat_map spots_on (take i ss)) → slice_get ss i ≡ Some s
    → length now + length (spots_on s) ≤ length old + length (flat_map spots_on ss)
room_before now old k ss i s is at =
    let after : length now ≡ length old + length (flat_map spots_on (take i ss)) = spots_after now old k (flat_map spots_on (take i ss)) is in
    omega (arith, spots_fit ss i s at, after)

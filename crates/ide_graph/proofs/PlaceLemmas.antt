-- The node that a label is given.
use Rattle.std.proofs.Common.{◌≡◌, ℕ, ◌+◌, Bool, true, false, cond, List, [], ◌∷◌, ◌++◌, length, take, Option, None, Some, ◌∙◌, ap, refl, arith}
use Rattle.std.specs.List.{flat_map, position}
use Rattle.std.specs.Option.{option_map}
use Rattle.std.proofs.Math.Seq.{take-append_seam}
use Rattle.std.proofs.lemmas.List.{take-append-le}
use Rattle.ide_text.specs.declared.program.Statement.{Statement}
use Rattle.ide_text.specs.Names.{declares}
use Rattle.ide_text.proofs.Positions.{or_else, position-push, position_within}
use Rattle.ide_graph.specs.Numbers.{label_among, spots_on}

-- one more statement
pub label_among-push : (begin : ℕ) (statements : List Statement) (s : Statement) (label : List ℕ)
    → label_among begin (statements ++ s ∷ []) label ≡ or_else (label_among begin statements label) (cond (declares label s) (Some (begin + length (flat_map spots_on statements))) None)
label_among-push begin statements s label =
    ap (option_map (at (statements ++ s ∷ []))) (position-push (declares label) statements s) ∙ by (position (declares label) statements) (declares label s) refl
  where
    at : List Statement → ℕ → ℕ
    at xs place = begin + length (flat_map spots_on (take place xs))

    by : (o : Option ℕ) (b : Bool) → position (declares label) statements ≡ o
        → option_map (at (statements ++ s ∷ [])) (or_else o (cond b (Some (length statements)) None)) ≡ or_else (option_map (at statements) o) (cond b (Some (begin + length (flat_map spots_on statements))) None)
    by (Some i) b e = let inside = position_within (declares label) statements i e in ap Some (ap (λ (front : List Statement). begin + length (flat_map spots_on front)) (take-append-le i statements (s ∷ []) (omega (arith, inside))))
    by None true e = ap Some (ap (λ (front : List Statement). begin + length (flat_map spots_on front)) (take-append_seam statements (s ∷ [])))
    by None false e = refl

-- What one more procedure adds to the numbers of those before it.
use Rattle.std.proofs.Common.{◌≡◌, ℕ, suc, zero, ◌+◌, ◌-◌, ◌<◌, ◌≤◌, ◌⊎◌, inl, inr, List, [], ◌∷◌, ◌++◌, length, take, slice_get, Some, None, ◌∙◌, sym, ap, subst, refl, arith, append_assoc, length-append}
use Rattle.std.specs.List.{flat_map}
use Rattle.std.proofs.Math.Seq.{take-append_seam, take-length}
use Rattle.std.proofs.lemmas.List.{append-nil, length-map, map-append, take-append-le}
use Rattle.ide_text.specs.declared.program.Procedure.{Procedure}
use Rattle.ide_text.specs.declared.program.Statement.{Statement}
use Rattle.ide_graph.specs.declared.layout.Layout.{Layout}
use Rattle.ide_graph.specs.declared.numbering.Numbering.{Numbering}
use Rattle.ide_graph.specs.Numbering.{nodes_in, nodes_at, node_value, IsLayout, IsLayoutOf, AreLabels, IsNumberingOf}
use Rattle.ide_graph.specs.Numbers.{Spot, start, exit, spots_on, spots_of, nodes_from, nodes_of, start_of, exit_of}

-- an element of a list with one more
pub push_cases : {X : Type 0} (xs : List X) (x y : X) (i : ℕ) → slice_get (xs ++ x ∷ []) i ≡ Some y → ((i < length xs) × (slice_get xs i ≡ Some y)) ⊎ ((i ≡ length xs) × (y ≡ x))
push_cases [] x y zero e = let h : Some x ≡ Some y = e in inr (refl, cc)
push_cases [] x y (suc i) e = let h : None ≡ Some y = e in cc
push_cases (z ∷ xs) x y zero e = inl (omega arith, e)
push_cases (z ∷ xs) x y (suc i) e =
    elim (push_cases xs x y i e) [
      | inl h ↦ let more = h.0 in inl (omega (arith, more), h.1)
      | inr h ↦ let same = h.0 in inr (omega (arith, same), h.1)
    ]

pub nodes_from-push : (k : ℕ) (ps : List Procedure) (q : Procedure) → nodes_from k (ps ++ q ∷ []) ≡ nodes_from k ps ++ nodes_at (k + length ps) (spots_of q)
nodes_from-push k [] q = append-nil (nodes_at k (spots_of q)) ∙ ap (λ i. nodes_at i (spots_of q)) (let same : k ≡ k + 0 = omega arith in same)
nodes_from-push k (p ∷ ps) q =
    ap (λ nodes. nodes_at k (spots_of p) ++ nodes) (nodes_from-push (k + 1) ps q ∙ ap (λ i. nodes_from (k + 1) ps ++ nodes_at i (spots_of q)) (let same : k + 1 + length ps ≡ k + suc (length ps) = omega arith in same))
    ∙ sym (append_assoc (nodes_at k (spots_of p)) (nodes_from (k + 1) ps) (nodes_at (k + suc (length ps)) (spots_of q)))

start_of-push : (ps : List Procedure) (q : Procedure) (i : ℕ) → i ≤ length ps → start_of (ps ++ q ∷ []) i ≡ start_of ps i
start_of-push ps q i within = ap (λ front. length (nodes_of front)) (take-append-le i ps (q ∷ []) within)

exit_of-push : (ps : List Procedure) (q : Procedure) (i : ℕ) → i < length ps → exit_of (ps ++ q ∷ []) i ≡ exit_of ps i
exit_of-push ps q i within = ap (λ n. n - 1) (start_of-push ps q (i + 1) (omega arith))

start_of-last : (ps : List Procedure) (q : Procedure) (i : ℕ) → i ≡ length ps → start_of (ps ++ q ∷ []) i ≡ length (nodes_of ps)
start_of-last ps q i is = ap (λ (j : ℕ). start_of (ps ++ q ∷ []) j) is ∙ ap (λ front. length (nodes_of front)) (take-append_seam ps (q ∷ []))

exit_of-last : (ps : List Procedure) (q : Procedure) (i : ℕ) → i ≡ length ps → exit_of (ps ++ q ∷ []) i ≡ length (nodes_of (ps ++ q ∷ [])) - 1
exit_of-last ps q i is =
    let all : i + 1 ≡ length (ps ++ q ∷ []) = omega (arith, is, length-append ps (q ∷ [])) in
    ap (λ (j : ℕ). length (nodes_of (take j (ps ++ q ∷ []))) - 1) all ∙ ap (λ front. length (nodes_of front) - 1) (take-length (ps ++ q ∷ []))

pub layout_by : (a b c d : ℕ) (q r : Procedure) (layout other : Layout) → a ≡ c → b ≡ d → r ≡ q → other ≡ layout → IsLayout a b q layout → IsLayout c d r other
layout_by a b c d q r layout other e f g h is =
    subst (λ (x : ℕ). IsLayout x d r other) e
    (subst (λ (y : ℕ). IsLayout a y r other) f
    (subst (λ (p : Procedure). IsLayout a b p other) (sym g)
    (subst (λ (l : Layout). IsLayout a b q l) (sym h) is)))

module _ (before : List Procedure) (q : Procedure) (old new : Numbering) (is : IsNumberingOf before old) (layout : Layout) (labels : List (List ℕ × ℕ))
    (spots : nodes_in new.spots.items ≡ nodes_in old.spots.items ++ nodes_at (length old.layouts.items) (spots_of q))
    (layouts : new.layouts.items ≡ old.layouts.items ++ layout ∷ [])
    (placed : IsLayout (length old.spots.items) (length new.spots.items - 1) q layout)
    (tables : new.labels.items ≡ old.labels.items ++ labels ∷ [])
    (named : AreLabels (length old.spots.items) q labels) where
  all_spots : nodes_in new.spots.items ≡ nodes_of (before ++ q ∷ [])
  all_spots =
      spots ∙ ap (λ nodes. nodes ++ nodes_at (length old.layouts.items) (spots_of q)) is.spots
      ∙ ap (λ i. nodes_of before ++ nodes_at i (spots_of q)) (let same : length old.layouts.items ≡ 0 + length before = omega (arith, is.layouts) in same)
      ∙ sym (nodes_from-push 0 before q)

  begin : length old.spots.items ≡ length (nodes_of before)
  begin = sym (length-map old.spots.items node_value) ∙ ap length is.spots

  end : length new.spots.items ≡ length (nodes_of (before ++ q ∷ []))
  end = sym (length-map new.spots.items node_value) ∙ ap length all_spots

  each_layout : (i : ℕ) (r : Procedure) (l : Layout) → slice_get (before ++ q ∷ []) i ≡ Some r → slice_get new.layouts.items i ≡ Some l → IsLayoutOf (before ++ q ∷ []) i r l
  each_layout i r l has have =
      let have' = ap (λ ls. slice_get ls i) (sym layouts) ∙ have in
      let counted = is.layouts in
      elim (push_cases before q r i has) [
        | inl h ↦ elim (push_cases old.layouts.items layout l i have') [
          | inl g ↦ let within = h.0 in layout_by _ _ _ _ r r l l (sym (start_of-push before q i (omega (arith, within)))) (sym (exit_of-push before q i within)) refl refl (is.layout i r l h.1 g.1)
          | inr g ↦ let less = h.0 in let same = g.0 in absurd (omega (arith, less, same, counted))
        ]
        | inr h ↦ elim (push_cases old.layouts.items layout l i have') [
          | inl g ↦ let less = g.0 in let same = h.0 in absurd (omega (arith, less, same, counted))
          | inr g ↦ layout_by _ _ _ _ q r layout l (begin ∙ sym (start_of-last before q i h.0)) (ap (λ n. n - 1) end ∙ sym (exit_of-last before q i h.0)) h.1 g.1 placed
        ]
      ]

  each_labels : (i : ℕ) (r : Procedure) (ls : List (List ℕ × ℕ)) → slice_get (before ++ q ∷ []) i ≡ Some r → slice_get new.labels.items i ≡ Some ls → AreLabels (start_of (before ++ q ∷ []) i) r ls
  each_labels i r ls has have =
      let have' = ap (λ ts. slice_get ts i) (sym tables) ∙ have in
      let counted = is.labelled in
      elim (push_cases before q r i has) [
        | inl h ↦ elim (push_cases old.labels.items labels ls i have') [
          | inl g ↦ let within = h.0 in subst (λ (n : ℕ). AreLabels n r ls) (sym (start_of-push before q i (omega (arith, within)))) (is.labels i r ls h.1 g.1)
          | inr g ↦ let less = h.0 in let same = g.0 in absurd (omega (arith, less, same, counted))
        ]
        | inr h ↦ elim (push_cases old.labels.items labels ls i have') [
          | inl g ↦ let less = g.0 in let same = h.0 in absurd (omega (arith, less, same, counted))
          | inr g ↦
              subst (λ (n : ℕ). AreLabels n r ls) (begin ∙ sym (start_of-last before q i h.0))
              (subst (λ (p : Procedure). AreLabels (length old.spots.items) p ls) (sym h.1) (subst (λ (t : List (List ℕ × ℕ)). AreLabels (length old.spots.items) q t) (sym g.1) named))
        ]
      ]

  pub numbering_more : IsNumberingOf (before ++ q ∷ []) new
  numbering_more = record {
    spots = all_spots;
    layouts = omega (arith, ap length layouts, length-append old.layouts.items (layout ∷ []), length-append before (q ∷ []), is.layouts);
    layout = each_layout;
    labelled = omega (arith, ap length tables, length-append old.labels.items (labels ∷ []), length-append before (q ∷ []), is.labelled);
    labels = each_labels;
  }

-- the nodes of a procedure, added in turn
pub whole_procedure : (k index : ℕ) (q : Procedure) (statements : List Statement) (old one two three : List (ℕ × Spot)) → k ≡ index → statements ≡ q.statements.items
    → one ≡ old ++ (k, start) ∷ [] → two ≡ one ++ nodes_at k (flat_map spots_on statements) → three ≡ two ++ (k, exit) ∷ []
    → three ≡ old ++ nodes_at index (spots_of q)
whole_procedure k index q statements old one two three at is first second third =
    third ∙ ap (λ nodes. nodes ++ (k, exit) ∷ []) (second ∙ ap (λ nodes. nodes ++ nodes_at k (flat_map spots_on statements)) first)
    ∙ append_assoc (old ++ (k, start) ∷ []) (nodes_at k (flat_map spots_on statements)) ((k, exit) ∷ [])
    ∙ append_assoc old ((k, start) ∷ []) (nodes_at k (flat_map spots_on statements) ++ (k, exit) ∷ [])
    ∙ ap (λ nodes. old ++ (k, start) ∷ nodes) (sym (map-append (λ spot. (k, spot)) (flat_map spots_on statements) (exit ∷ [])))
    ∙ ap (λ (ss : List Statement). old ++ nodes_at k (start ∷ flat_map spots_on ss ++ exit ∷ [])) is
    ∙ ap (λ (i : ℕ). old ++ nodes_at i (spots_of q)) at

-- Rows that are filled and written in parts, one behind the other.
use Rattle.std.proofs.Common.{◌≡◌, ℕ, zero, suc, ◌+◌, ◌*◌, ◌/◌, ◌%◌, ◌<◌, ◌⊎◌, inl, inr, ◌++◌, List, Option, Result, length, get_or, map, ap, ap₂, sym, subst, refl, ◌∙◌, append_assoc, arith}
use Rattle.std.specs.Global.{Vec}
use Rattle.std.specs.Io.KnownBytes.{Appends as WritesOut}
use Rattle.std.specs.List.{flat_map, range_with_len}
use Rattle.std.specs.Prelude.{OnOk}
use Rattle.std.proofs.lemmas.List.{get_or_append_left, get_or-append-add, length-append}
use Rattle.std.proofs.lemmas.List.FromFn.{get_or-map-range_with_len}
use Rattle.std.proofs.Math.Nat.{add-mul}
use Rattle.std.proofs.lemmas.Nat.{div-mul-add, mod-mul-add}
use Rattle.ide_graph.specs.Supergraph.{Supergraph, name_at}
use Rattle.ide_lattice.specs.Algebra.{LatticeAlgebra, EdgeAlgebra}
use Rattle.ide_image.specs.Tables.{Table, found}
use Rattle.ide_problem.specs.Flow.{Targets}
use Rattle.ide_steps.specs.Frozen.{graph_in, program_in}
use Rattle.ide_steps.specs.declared.closed.Closed.{Closed}
use Rattle.ide_values.specs.Best.{FollowingValuesAreBest}
use Rattle.ide_values.specs.Chunks.{WritesFilled, WritesValues}
use Rattle.ide_values.specs.Closed.{FollowFrom, LeadOn}
use Rattle.ide_values.specs.Dump.{line_if}
use Rattle.ide_values.specs.Fill.{Fills, FillsFrom, value_from}
use Rattle.ide_values.specs.Rows.{lines_in_row, lines_of_rows}
use Rattle.ide_values.specs.Settled.{AreStarts}
use Rattle.ide_values.specs.Start.{at_place, value_before}
use Rattle.ide_values.specs.Values.{ValuesData}
use Rattle.ide_values.proofs.Filled.{all_rows}
use Rattle.ide_values.proofs.Places.{place_within}
use Rattle.ide_values.proofs.Pieces.{flat_shift, values_lines}

-- a list of texts from a first one on, and that of those behind it
pub flat_split : {X : Type 0} (f : ℕ → List X) (from first count : ℕ)
    → flat_map f (range_with_len from (first + count)) ≡ flat_map f (range_with_len from first) ++ flat_map f (range_with_len (from + first) count)
flat_split f from zero count = let here : zero + count ≡ count = omega arith in let at : from ≡ from + zero = omega arith in
    ap (λ n. flat_map f (range_with_len from n)) here ∙ ap (λ a. flat_map f (range_with_len a count)) at
flat_split f from (suc first) count =
    let more : suc first + count ≡ suc (first + count) = omega arith in
    let at : from + 1 + first ≡ from + suc first = omega arith in
    ap (λ n. flat_map f (range_with_len from n)) more
    ∙ ap (λ l. f from ++ l) (flat_split f (from + 1) first count ∙ ap (λ a. flat_map f (range_with_len (from + 1) first) ++ flat_map f (range_with_len a count)) at)
    ∙ sym (append_assoc (f from) (flat_map f (range_with_len (from + 1) first)) (flat_map f (range_with_len (from + suc first) count)))

module _ {L : Type 0} (A : LatticeAlgebra L) (shown : L → List ℕ) (graph : Supergraph) where
  -- the same values have the same lines
  pub lines_same : (old new : List L) (row other node : ℕ)
      → ((d : ℕ) → d < graph.facts → at_place A old (row * graph.facts + d) ≡ at_place A new (other * graph.facts + d))
      → lines_in_row A shown graph old row node ≡ lines_in_row A shown graph new other node
  lines_same old new row other node same =
      flat_shift (λ d. line_if node d (name_at graph node d) (shown (at_place A old (row * graph.facts + d))))
      (λ d. line_if node d (name_at graph node d) (shown (at_place A new (other * graph.facts + d)))) 0 0 graph.facts
      (λ j h. let at : 0 + j ≡ j = omega arith in
      ap (λ k. line_if node k (name_at graph node k) (shown (at_place A old (row * graph.facts + k)))) at
      ∙ ap (λ v. line_if node j (name_at graph node j) (shown v)) (same j h)
      ∙ ap (λ k. line_if node k (name_at graph node k) (shown (at_place A new (other * graph.facts + k)))) (sym at))

  -- the lines of more nodes, behind those of the first
  pub lines_on : (done part : List L) (first count : ℕ) → length done ≡ first * graph.facts
      → lines_of_rows A shown graph 0 (first + count) (done ++ part) ≡ lines_of_rows A shown graph 0 first done ++ lines_of_rows A shown graph first count part
  lines_on done part first count long =
      let line : ℕ → List ℕ = λ k. lines_in_row A shown graph (done ++ part) k (0 + k) in
      flat_split line 0 first count
      ∙ ap₂ ◌++◌
      (flat_shift line (λ k. lines_in_row A shown graph done k (0 + k)) 0 0 first (λ j h.
      lines_same (done ++ part) done (0 + j) (0 + j) (0 + (0 + j)) (λ d r.
      get_or_append_left done part A.top ((0 + j) * graph.facts + d) (omega (arith, long, place_within (0 + j) d first graph.facts (omega (arith, h)) r)))))
      (flat_shift line (λ k. lines_in_row A shown graph part k (first + k)) (0 + first) 0 count (λ j h.
      let node : 0 + (0 + first + j) ≡ first + (0 + j) = omega arith in
      lines_same (done ++ part) part (0 + first + j) (0 + j) (0 + (0 + first + j)) (λ d r.
      let at : (0 + first + j) * graph.facts + d ≡ length done + ((0 + j) * graph.facts + d) =
      let row : (0 + first + j) * graph.facts ≡ (first + j) * graph.facts = ap (λ n. n * graph.facts) (omega arith) in
      let own : (0 + j) * graph.facts ≡ j * graph.facts = ap (λ n. n * graph.facts) (omega arith) in
      omega (arith, row, own, add-mul first j graph.facts, long) in
      ap (at_place A (done ++ part)) at ∙ get_or-append-add done part ((0 + j) * graph.facts + d) A.top)
      ∙ ap (lines_in_row A shown graph part (0 + j)) node))

module _ {F L : Type 0} (A : LatticeAlgebra L) (B : EdgeAlgebra F L) (graph : Supergraph) (table : Table F) (starts : List L) where
  -- rows from the first node on that are those of all nodes
  pub all_from : (rows : List L) → length rows ≡ graph.nodes * graph.facts → FillsFrom A B graph table starts 0 rows → Fills A B graph table starts rows
  all_from rows count fills =
      all_rows A B graph table starts rows count (λ k h image proper n d i r at.
      let none : 0 * graph.facts ≡ 0 = omega arith in fills k h image proper n d i r (omega (arith, at, none)))

  -- rows of more nodes, behind those of the first
  pub fills_on : (done part : List L) (first : ℕ) → length done ≡ first * graph.facts
      → FillsFrom A B graph table starts 0 done → FillsFrom A B graph table starts first part → FillsFrom A B graph table starts 0 (done ++ part)
  fills_on done part first long before behind k h image proper n d i r at =
      let none : 0 * graph.facts ≡ 0 = omega arith in
      elim (which k (length done)) [
        | inl within ↦ get_or_append_left done part A.top k within ∙ before k within image proper n d i r at
        | inr (j, past) ↦
            ap (λ q. get_or (done ++ part) q A.top) past
            ∙ get_or-append-add done part j A.top
            ∙ behind j (omega (arith, h, past, length-append done part)) image proper n d i r (omega (arith, at, past, long, none))
      ]
    where
      which : (k n : ℕ) → (k < n) ⊎ ((j : ℕ) × (k ≡ n + j))
      which k zero = inr (k, omega arith)
      which zero (suc n) = inl (omega arith)
      which (suc k) (suc n) = elim (which k n) [
        | inl within ↦ inl (omega (arith, within))
        | inr (j, past) ↦ inr (j, omega (arith, past))
      ]

  -- there are rows that are filled
  pub some_filled : (rows : List L) × Fills A B graph table starts rows
  some_filled = (
    map value (range_with_len 0 (graph.nodes * graph.facts)),
    λ image proper n d i r.
        get_or-map-range_with_len value 0 (graph.nodes * graph.facts) (n * graph.facts + d) (n * graph.facts + d) A.top (place_within n d graph.nodes graph.facts i r) (omega arith)
        ∙ ap₂ at (div-mul-add n graph.facts d r) (mod-mul-add n graph.facts d r),
  )
    where
      at : ℕ → ℕ → L
      at n d = value_from A B (found table) (value_before A graph starts n) graph.facts n d

      value : ℕ → L
      value place = at (place / graph.facts) (place % graph.facts)

module _ {F L : Type 0} (A : LatticeAlgebra L) (B : EdgeAlgebra F L) (targets : Targets F) (shown : L → List ℕ) where
  -- the rows that are filled from the start values of an image are its values, which are best
  pub values_written : {P T E : Type 0} (closed : Closed P L F) (graph : Supergraph) (roots : List ℕ) (starts : Vec L) (given : List L) (end : Result T E) (before after : Option (List ℕ))
      → graph ≡ graph_in closed → roots ≡ closed.roots.items → given ≡ starts.items
      → AreStarts A B targets graph closed.tables.table roots starts.items → LeadOn A B targets graph closed.tables.table roots starts → FollowingValuesAreBest A B targets
      → WritesFilled A B shown graph closed.tables.table given end before after → WritesValues A B targets shown closed end before after
  values_written closed graph roots starts given end before after same those is are lead best rows =
      let filled : Fills A B graph closed.tables.table starts.items rows.rows = subst (λ s. Fills A B graph closed.tables.table s rows.rows) is rows.filled in
      let follow : FollowFrom A B targets (graph_in closed) closed.tables.table closed.roots.items rows.rows =
      subst (λ r. FollowFrom A B targets (graph_in closed) closed.tables.table r rows.rows) those
      (subst (λ (k : Supergraph). FollowFrom A B targets k closed.tables.table roots rows.rows) same (lead rows.rows filled)) in
      let values : ValuesData L = record { program = program_in closed; graph = graph_in closed; roots = closed.roots.items; values = rows.rows } in
      record {
        values = values;
        program = refl;
        graph = refl;
        roots = refl;
        follow = follow;
        come = record {
          starts = starts.items;
          started =
              subst (λ r. AreStarts A B targets (graph_in closed) closed.tables.table r starts.items) those
              (subst (λ (k : Supergraph). AreStarts A B targets k closed.tables.table roots starts.items) same are);
          filled = subst (λ (k : Supergraph). Fills A B k closed.tables.table starts.items rows.rows) same filled;
        };
        best = best (graph_in closed) closed.roots.items closed.tables.table rows.rows follow;
        written = subst (λ text. OnOk end (WritesOut before after text)) (values_lines A shown values graph graph.nodes rows.rows same refl refl) rows.written;
      }

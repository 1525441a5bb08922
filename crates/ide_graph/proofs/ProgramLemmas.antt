-- The nodes of a program: which procedure a node is of, and which node comes next.
use Rattle.std.proofs.Common.{◌≡◌, ◌≢◌, ℕ, suc, ◌+◌, ◌<◌, Some, List, length, subst, sym, ap, ◌∙◌, arith}
use Rattle.std.specs.Prelude.{slice_get}
use Rattle.std.specs.Option.{option_map}
use Rattle.std.proofs.lemmas.List.{length-map}
use Rattle.std.proofs.lemmas.Option.{get_or_from_slice_get, same_Some, slice_get-map, some_pair_parts, slice_get_within}
use Rattle.ide_text.specs.declared.program.Procedure.{Procedure}
use Rattle.ide_text.specs.declared.program.Program.{Program}
use Rattle.ide_text.specs.declared.program.Statement.{Statement}
use Rattle.ide_text.specs.Program.{procedures_of}
use Rattle.ide_graph.specs.Building.{IsBuilderOf, node_count, procedure_count}
use Rattle.ide_graph.specs.Numbering.{spot_value}
use Rattle.ide_graph.specs.declared.builder.Builder.{Builder}
use Rattle.ide_graph.specs.declared.numbering.Spot.{Spot as Placed}
use Rattle.ide_graph.specs.Numbers.{Spot, statement, exit, nodes_of, spots_of, start_of, exit_of, label_from}
use Rattle.ide_graph.specs.ProgramEdges.{Stands}
use Rattle.ide_graph.proofs.NodeLemmas.{located, ends_within, exits, spots_two}
use Rattle.ide_graph.proofs.SliceLemmas.{element_of}
use Rattle.ide_graph.proofs.SpotLemmas.{exit_in, statement_in, next_in, label_in}

module _ (p : Program) where
  -- one spot stands at a node
  pub same_spot : (n i j : ℕ) (a b : Spot) → slice_get (nodes_of (procedures_of p)) n ≡ Some (i, a) → slice_get (nodes_of (procedures_of p)) n ≡ Some (j, b) → (i ≡ j) × (a ≡ b)
  same_spot n i j a b e f = some_pair_parts i j a b (sym e ∙ f)

  pub same_owner : (i j : ℕ) (q r : Procedure) → i ≡ j → slice_get (procedures_of p) i ≡ Some q → slice_get (procedures_of p) j ≡ Some r → q ≡ r
  same_owner i j q r same e f = same_Some q r (sym e ∙ (ap (λ k. slice_get (procedures_of p) k) same ∙ f))

  -- the place of the spot in its procedure
  pub place_in : (n i : ℕ) (q : Procedure) (spot : Spot) → Stands p n i q spot → (k : ℕ) × (n ≡ start_of (procedures_of p) i + k) × (slice_get (spots_of q) k ≡ Some spot)
  place_in n i q spot stands =
      let l = located 0 (procedures_of p) n i spot stands.node in
      let index : i ≡ l.j = omega (arith, l.index_is) in
      let owner : l.q ≡ q = same_owner l.j i l.q q (sym index) l.owner stands.owner in
      (l.k, l.at ∙ ap (λ j. start_of (procedures_of p) j + l.k) (sym index), subst (λ r. slice_get (spots_of r) l.k ≡ Some spot) owner l.stands)

  pub statement_of : (n i : ℕ) (q : Procedure) (s : Statement) → Stands p n i q (statement s) → (place : ℕ) × (slice_get q.statements.items place ≡ Some s)
  statement_of n i q s stands = let at = place_in n i q (statement s) stands in statement_in q at.0 s at.2

  pub next_within : (n i : ℕ) (q : Procedure) (spot : Spot) → Stands p n i q spot → spot ≢ exit → n + 1 < length (nodes_of (procedures_of p))
  next_within n i q spot stands no_exit =
      let at = place_in n i q spot stands in
      let within : suc at.0 < length (spots_of q) = next_in q at.0 spot at.2 no_exit in
      omega (arith, at.1, ends_within (procedures_of p) i q stands.owner)

  pub label_within : (i : ℕ) (q : Procedure) (l : List ℕ) (node : ℕ) → slice_get (procedures_of p) i ≡ Some q → label_from (start_of (procedures_of p) i) q l ≡ Some node → node < length (nodes_of (procedures_of p))
  label_within i q l node owner e =
      let at = label_in q (start_of (procedures_of p) i) l node e in
      let short : at.0 < length (spots_of q) = slice_get_within (spots_of q) at.0 (statement at.1) at.3 in
      omega (arith, at.2, ends_within (procedures_of p) i q owner)

  pub exit_within : (i : ℕ) (q : Procedure) → slice_get (procedures_of p) i ≡ Some q → exit_of (procedures_of p) i < length (nodes_of (procedures_of p))
  exit_within i q owner = omega (arith, exits (procedures_of p) i q owner, ends_within (procedures_of p) i q owner)

  pub counted : (b : Builder) → IsBuilderOf p b → node_count b ≡ length (nodes_of (procedures_of p))
  counted b is = sym (length-map b.numbering.now.spots.items (λ spot. (spot.procedure, spot_value spot.place))) ∙ ap length is.spots

  pub start_within : (i : ℕ) (q : Procedure) → slice_get (procedures_of p) i ≡ Some q → start_of (procedures_of p) i < length (nodes_of (procedures_of p))
  start_within i q owner = omega (arith, ends_within (procedures_of p) i q owner, spots_two (procedures_of p) q)

  -- what the first pass put at a node stands there
  pub spot_stands : (b : Builder) → IsBuilderOf p b → (n : ℕ) (spot : Placed) → slice_get b.numbering.now.spots.items n ≡ Some spot → (q : Procedure) × Stands p n spot.procedure q (spot_value spot.place)
  spot_stands b is n spot at =
      let owned : spot.procedure < procedure_count b =
      rw (get_or_from_slice_get b.numbering.now.spots.items n spot spot at) at (is.ready.numbered.owned n spot (slice_get_within b.numbering.now.spots.items n spot at)) in
      let q = element_of (procedures_of p) spot.procedure (omega (arith, is.counted, owned)) in
      let node = sym (ap (λ xs. slice_get xs n) is.spots) ∙ (slice_get-map (λ (s : Placed). (s.procedure, spot_value s.place)) b.numbering.now.spots.items n ∙ ap (option_map (λ (s : Placed). (s.procedure, spot_value s.place))) at) in
      (q.0, record { node = node; owner = q.1 })

  pub exit_is : (n i : ℕ) (q : Procedure) → Stands p n i q exit → n ≡ exit_of (procedures_of p) i
  exit_is n i q stands =
      let at = place_in n i q exit stands in
      let last : suc at.0 ≡ length (spots_of q) = exit_in q at.0 at.2 in
      omega (arith, at.1, last, exits (procedures_of p) i q stands.owner)

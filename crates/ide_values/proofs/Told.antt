-- Lines that are told by their columns.
use Rattle.std.proofs.Common.{◌≡◌, ◌+◌, ◌*◌, ◌<◌, ◌≤◌, inl, inr, ◌++◌, ℕ, List, [], ◌∷◌, map, Option, Some, None, length, ap, ap₂, arith, refl, subst, sym, ◌∙◌}
use Rattle.std.specs.Prelude.{slice_get, slice_index, slice_index_or}
use Rattle.std.specs.List.{flat_map, range_with_len}
use Rattle.std.specs.Option.{option_and_then, option_map}
use Rattle.std.proofs.lemmas.Bool.{cases_lt}
use Rattle.std.proofs.lemmas.List.{length-append, length-map, map-append}
use Rattle.std.proofs.lemmas.Option.{get_or_from_slice_get, slice_get-get_or, slice_get-map, slice_get_past}
use Rattle.std.proofs.Math.ListN.{get_or-append}
use Rattle.std.proofs.Math.Seq.{get_or-append_seam}
use Rattle.ide_graph.specs.Supergraph.{Supergraph, fact_names, name_at}
use Rattle.ide_lattice.specs.Algebra.{LatticeAlgebra}
use Rattle.ide_values.specs.Columns.{AreFactColumns}
use Rattle.ide_values.specs.Dump.{fact_columns, line_if, node_column}
use Rattle.ide_values.specs.Lines.{lines_with, line_tail, told_line}
use Rattle.ide_values.specs.Rows.{lines_in_row}
use Rattle.ide_values.specs.Start.{at_place}
use Rattle.ide_values.proofs.Begun.{tail_is}
use Rattle.ide_values.proofs.Lines.{flat_past, no_line_after}
use Rattle.ide_values.proofs.Pieces.{flat_shift}
use Rattle.ide_values.proofs.Filled.{none_past}

-- a line by its columns is that of a fact with a name
line_told : (node fact : ℕ) (stem : List ℕ) (facts : List (List ℕ)) (shown : List ℕ) (name : Option (List ℕ)) → stem ≡ node_column node → fact < length facts
    → slice_get facts fact ≡ option_map (fact_columns fact) name → told_line stem (slice_index_or facts fact []) shown ≡ line_if node fact name shown
line_told node fact stem facts shown None s within is = let past : length facts ≤ fact = none_past facts fact is in absurd (omega (arith, past, within))
line_told node fact stem facts shown (Some name) s within is =
    ap₂ (λ a b. told_line a b shown) s (get_or_from_slice_get facts fact (fact_columns fact name) [] is)

no_name : (fact : ℕ) (name : Option (List ℕ)) → None ≡ option_map (fact_columns fact) name → name ≡ None
no_name fact None h = refl
no_name fact (Some name) h = let no : ⊥ = cc h in elim no [ ]

module _ {L : Type 0} (A : LatticeAlgebra L) (shown : L → List ℕ) (graph : Supergraph) (stem : List ℕ) (facts : List (List ℕ)) (rows : List L) (row node : ℕ)
    (made : AreFactColumns graph node facts) (column : stem ≡ node_column node) where
  abbrev value : ℕ → L
  value fact = at_place A rows (row * graph.facts + fact)

  abbrev line : ℕ → List ℕ
  line fact = line_if node fact (name_at graph node fact) (shown (value fact))

  each_told : (fact : ℕ) → fact < length facts → stem ++ line_tail shown facts value (0 + fact) ≡ line (0 + fact)
  each_told fact within =
      let on : fact ≡ 0 + fact = omega arith in
      subst (λ n. stem ++ line_tail shown facts value n ≡ line n) on
      (sym (tail_is stem (slice_index_or facts fact []) (shown (value fact)))
      ∙ line_told node fact stem facts (shown (value fact)) (name_at graph node fact) column within (made.each fact (omega (arith, within, made.few))))

  none_left : flat_map line (range_with_len 0 (length facts)) ≡ flat_map line (range_with_len 0 graph.facts)
  none_left =
      let count = length facts in
      elim (cases_lt count graph.facts) [
        | inl before ↦ let none : name_at graph node count ≡ None =
            no_name count (name_at graph node count) (sym (slice_get_past facts count (omega arith)) ∙ made.each count before) in
            flat_past line count graph.facts made.few
            (λ k le. no_line_after graph (λ n d. shown (at_place A rows (row * graph.facts + d))) node count k none le)
        | inr behind ↦ let all : count ≡ graph.facts = omega (arith, behind, made.few) in ap (λ n. flat_map line (range_with_len 0 n)) all
      ]

  -- lines by columns are those of a node
  pub all_told : lines_with stem (line_tail shown facts value) 0 (length facts) ≡ lines_in_row A shown graph rows row node
  all_told = flat_shift (λ k. stem ++ line_tail shown facts value k) line 0 0 (length facts) each_told ∙ none_left

-- the columns at an index
pub columns_read : {X : Type 0} (f : X → List ℕ) (facts : List X) (index : ℕ) (x : X) → index < length facts → x ≡ slice_index_or facts index x → slice_index_or (map f facts) index [] ≡ f x
columns_read f facts index x within is =
    get_or_from_slice_get (map f facts) index (f x) []
    (slice_get-map f facts index ∙ ap (option_map f) (slice_get-get_or facts index x within) ∙ ap (λ y. Some (f y)) (sym is))

-- the elements of a list with one more behind them
get_left : {X : Type 0} (xs : List X) (x : X) (i : ℕ) → i < length xs → slice_get (xs ++ x ∷ []) i ≡ slice_get xs i
get_left xs x i within =
    let longer : length (xs ++ x ∷ []) ≡ length xs + 1 = length-append xs (x ∷ []) in
    slice_get-get_or (xs ++ x ∷ []) i x (omega (arith, within, longer)) ∙ ap Some (get_or-append xs (x ∷ []) x i within) ∙ sym (slice_get-get_or xs i x within)

get_last : {X : Type 0} (xs : List X) (x : X) (i : ℕ) → i ≡ length xs → slice_get (xs ++ x ∷ []) i ≡ Some x
get_last xs x i is =
    let longer : length (xs ++ x ∷ []) ≡ length xs + 1 = length-append xs (x ∷ []) in
    ap (slice_get (xs ++ x ∷ [])) is ∙ slice_get-get_or (xs ++ x ∷ []) (length xs) x (omega (arith, longer)) ∙ ap Some (get_or-append_seam xs x [] x)

module _ {X : Type 0} (f : X → List ℕ) (names : ℕ → Option (List ℕ)) where
  -- the first facts have their columns
  abbrev pub HaveColumns : List X → ℕ → Type 0
  HaveColumns facts count = (fact : ℕ) → fact < count → slice_get (map f facts) fact ≡ option_map (fact_columns fact) (names fact)

  -- and one more has its own
  pub one_more : (old new : List X) (x : X) (count : ℕ) → new ≡ old ++ x ∷ [] → length old ≡ count → HaveColumns old count
      → Some (f x) ≡ option_map (fact_columns count) (names count) → HaveColumns new (count + 1)
  one_more old new x count is long each last fact within =
      let whole : map f new ≡ map f old ++ f x ∷ [] = ap (map f) is ∙ map-append f old (x ∷ []) in
      let many : length (map f old) ≡ count = length-map old f ∙ long in
      ap (λ facts. slice_get facts fact) whole ∙ elim (cases_lt fact count) [
        | inl before ↦ get_left (map f old) (f x) fact (omega (arith, before, many)) ∙ each fact before
        | inr behind ↦ let at : fact ≡ count = omega (arith, behind, within) in
            get_last (map f old) (f x) fact (at ∙ sym many) ∙ subst (λ n. Some (f x) ≡ option_map (fact_columns n) (names n)) (sym at) last
      ]

  -- where no later one has a name, these are all
  pub no_more : (facts : List X) (count all : ℕ) → length facts ≡ count → HaveColumns facts count → ((fact : ℕ) → count ≤ fact → fact < all → names fact ≡ None)
      → (fact : ℕ) → fact < all → slice_get (map f facts) fact ≡ option_map (fact_columns fact) (names fact)
  no_more facts count all long each none fact within =
      let many : length (map f facts) ≡ count = length-map facts f ∙ long in
      elim (cases_lt fact count) [
        | inl before ↦ each fact before
        | inr behind ↦ slice_get_past (map f facts) fact (omega (arith, behind, many)) ∙ sym (ap (option_map (fact_columns fact)) (none fact behind within))
      ]

-- a node at which a fact has a name has a procedure
owner_there : (graph : Supergraph) (node fact : ℕ) (name : List ℕ) → name_at graph node fact ≡ Some name → slice_get graph.owners node ≡ Some (slice_index graph.owners node)
owner_there graph node fact name is = by (slice_get graph.owners node) refl is
  where
    by : (o : Option ℕ) → slice_get graph.owners node ≡ o → option_and_then (λ owner. slice_get (fact_names graph owner) fact) o ≡ Some name
        → slice_get graph.owners node ≡ Some (slice_index graph.owners node)
    by None found none = let no : ⊥ = cc none in elim no [ ]
    by (Some owner) found some = found ∙ ap Some (sym (get_or_from_slice_get graph.owners node owner 0 found))

some_name : (fact : ℕ) (o : Option (List ℕ)) (x : List ℕ) → Some x ≡ option_map (fact_columns fact) o → (name : List ℕ) × (o ≡ Some name)
some_name fact None x is = let no : ⊥ = cc is in elim no [ ]
some_name fact (Some name) x is = (name, refl)

-- the columns of facts at a node serve another one of its procedure
pub served : (graph : Supergraph) (made node : ℕ) (facts : List (List ℕ)) (name : List ℕ) → AreFactColumns graph made facts → node < graph.nodes → 0 < length facts
    → name_at graph node 0 ≡ Some name → slice_index graph.owners made ≡ slice_index graph.owners node → AreFactColumns graph node facts
served graph made node facts name are within some named same =
    let first : slice_get facts 0 ≡ Some (slice_index_or facts 0 []) = slice_get-get_or facts 0 [] some in
    let (other, is) = some_name 0 (name_at graph made 0) (slice_index_or facts 0 []) (sym first ∙ are.each 0 (omega (arith, some, are.few))) in
    let owners : slice_get graph.owners made ≡ slice_get graph.owners node =
    owner_there graph made 0 other is ∙ ap Some same ∙ sym (owner_there graph node 0 name named) in
    record {
      within = within;
      each = λ fact few. are.each fact few ∙ ap (λ o. option_map (fact_columns fact) (option_and_then (λ owner. slice_get (fact_names graph owner) fact) o)) owners;
      few = are.few;
    }

-- The fact that a name finds is its place among the names of a procedure's facts.
use Rattle.std.proofs.Common.{◌≡◌, ◌≢◌, ℕ, suc, ◌+◌, ◌<◌, ◌≤◌, min, Bool, ◌||◌, true, false, cond, codes, List, [], ◌∷◌, ◌++◌, length, get_or, take, Option, None, Some, is_some, ◌∙◌, sym, ap, refl, arith}
use Rattle.std.specs.List.{list_any, position}
use Rattle.std.specs.Option.{option_map}
use Rattle.std.proofs.lemmas.List.Folds.{list_any-append}
use Rattle.std.proofs.lemmas.Slice.Eq.{bytes_eq-Decides}
use Rattle.ide_text.specs.Names.{is_among}
use Rattle.std.specs.Str.{bytes_eq}
use Rattle.ide_graph.specs.Named.{fact_of_name, own_or_shared}
use Rattle.ide_graph.specs.Naming.{AreNew}
use Rattle.ide_text.proofs.Positions.{or_else, later, position-cons, position-append, position_within, position_found, is_some-position}

-- none of the names is that of the zero fact or of the result
abbrev pub AreFree : List (List ℕ) → Type 0
AreFree names = (k : ℕ) → k < length names → (get_or names k [] ≢ codes "@zero") × (get_or names k [] ≢ codes "@result")

-- names of globals, and of a procedure's own facts
pub record AreFactNames (globals own : List (List ℕ)) : Type 0 where
  pub new : AreNew globals own
  pub free_globals : AreFree globals
  pub free_own : AreFree own
  pub few : length globals + 2 + length own ≤ 65535

-- the place by the parts of the list
abbrev whole : ℕ → Bool → Bool → Option ℕ → Option ℕ → Option ℕ
whole n z r g o = or_else (later z g) (option_map (λ i. suc n + i) (later r o))

-- what is looked up
abbrev looked_up : ℕ → Bool → Bool → Option ℕ → Option ℕ → Option ℕ
looked_up n z r g None = cond z (Some 0) (cond r (Some (min (n + 1) 65535)) (option_map (λ i. min (i + 1) 65535) g))
looked_up n z r g (Some i) = Some (min (n + 2 + i) 65535)

joined : (n m : ℕ) (z r : Bool) (g o : Option ℕ) → n + 2 + m ≤ 65535 → (z ≡ true → o ≡ None) → (r ≡ true → (g ≡ None) × (o ≡ None))
    → ((i : ℕ) → o ≡ Some i → (i < m) × (g ≡ None)) → ((i : ℕ) → g ≡ Some i → i < n) → looked_up n z r g o ≡ whole n z r g o
joined n m true r g None few zero_free result_free own shared = refl
joined n m true r g (Some i) few zero_free result_free own shared = let no : Some i ≡ None = zero_free refl in cc
joined n m false true g None few zero_free result_free own shared =
    let none : g ≡ None = (result_free refl).0 in
    ap Some (let same : min (n + 1) 65535 ≡ suc n + 0 = omega arith in same) ∙ sym (ap (λ o. or_else (option_map suc o) (Some (suc n + 0))) none)
joined n m false true g (Some i) few zero_free result_free own shared = let no : Some i ≡ None = (result_free refl).1 in cc
joined n m false false None None few zero_free result_free own shared = refl
joined n m false false (Some i) None few zero_free result_free own shared = let within = shared i refl in ap Some (omega (arith, within))
joined n m false false g (Some i) few zero_free result_free own shared =
    let within = (own i refl).0 in
    ap Some (let same : min (n + 2 + i) 65535 ≡ suc n + suc i = omega (arith, within) in same)
    ∙ sym (ap (λ o. or_else (option_map suc o) (Some (suc n + suc i))) (own i refl).1)

by_parts : (globals own : List (List ℕ)) (name : List ℕ) (o : Option ℕ) → own_or_shared globals name o
    ≡ looked_up (length globals) (bytes_eq name (codes "@zero")) (bytes_eq name (codes "@result")) (position (bytes_eq name) globals) o
by_parts globals own name None = refl
by_parts globals own name (Some i) = refl

-- a name that none of them is has no place
none_of : (name : List ℕ) (xs : List (List ℕ)) → ((k : ℕ) → k < length xs → get_or xs k [] ≢ name) → position (bytes_eq name) xs ≡ None
none_of name xs none = by (position (bytes_eq name) xs) refl
  where
    by : (o : Option ℕ) → position (bytes_eq name) xs ≡ o → o ≡ None
    by None e = refl
    by (Some i) e = absurd (none i (position_within (bytes_eq name) xs i e) (sym ((bytes_eq-Decides name (get_or xs i [])).0 (position_found (bytes_eq name) xs [] i e))))

module _ (globals own : List (List ℕ)) (names : AreFactNames globals own) (name : List ℕ) where
  is_zero : bytes_eq name (codes "@zero") ≡ true → position (bytes_eq name) own ≡ None
  is_zero same = none_of name own (λ k within is. (names.free_own k within).0 (is ∙ (bytes_eq-Decides name (codes "@zero")).0 same))

  is_result : bytes_eq name (codes "@result") ≡ true → (position (bytes_eq name) globals ≡ None) × (position (bytes_eq name) own ≡ None)
  is_result same =
      let r : name ≡ codes "@result" = (bytes_eq-Decides name (codes "@result")).0 same in
      (none_of name globals (λ k within is. (names.free_globals k within).1 (is ∙ r)), none_of name own (λ k within is. (names.free_own k within).1 (is ∙ r)))

  is_own : (i : ℕ) → position (bytes_eq name) own ≡ Some i → (i < length own) × (position (bytes_eq name) globals ≡ None)
  is_own i at =
      let within = position_within (bytes_eq name) own i at in
      let is : name ≡ get_or own i [] = (bytes_eq-Decides name (get_or own i [])).0 (position_found (bytes_eq name) own [] i at) in
      (within, by (position (bytes_eq name) globals) refl within is)
    where
      by : (o : Option ℕ) → position (bytes_eq name) globals ≡ o → i < length own → name ≡ get_or own i [] → o ≡ None
      by None e within is = refl
      by (Some j) e within is =
          let there : is_among globals name ≡ true = sym (is_some-position (bytes_eq name) globals) ∙ ap is_some e in
          absurd (names.new i (record {
            within = within;
            again = ap (is_among (globals ++ take i own)) (sym is) ∙ list_any-append (bytes_eq name) globals (take i own) ∙ ap (λ b. b || list_any (bytes_eq name) (take i own)) there;
          }))

  -- the fact of a name is its place
  pub fact_place : fact_of_name globals own name ≡ position (bytes_eq name) ((codes "@zero" ∷ globals) ++ (codes "@result" ∷ own))
  fact_place =
      by_parts globals own name (position (bytes_eq name) own)
      ∙ joined (length globals) (length own) (bytes_eq name (codes "@zero")) (bytes_eq name (codes "@result")) (position (bytes_eq name) globals) (position (bytes_eq name) own)
      names.few is_zero is_result is_own (position_within (bytes_eq name) globals)
      ∙ sym (position-append (bytes_eq name) (codes "@zero" ∷ globals) (codes "@result" ∷ own)
      ∙ ap (λ o. or_else o (option_map (λ i. length (codes "@zero" ∷ globals) + i) (position (bytes_eq name) (codes "@result" ∷ own)))) (position-cons (bytes_eq name) (codes "@zero") globals (bytes_eq name (codes "@zero")) refl)
      ∙ ap (λ o. or_else (later (bytes_eq name (codes "@zero")) (position (bytes_eq name) globals)) (option_map (λ i. suc (length globals) + i) o)) (position-cons (bytes_eq name) (codes "@result") own (bytes_eq name (codes "@result")) refl))

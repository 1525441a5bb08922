-- Lists of names, as sets and maps keep them, whose keys hold the names.
use Rattle.std.proofs.Common.{◌≡◌, ℕ, Bool, true, false, List, [], ◌∷◌, ◌++◌, map, cond, ◌||◌, ◌∙◌, sym, ap, subst, refl, if◌then◌else◌}
use Rattle.std.specs.List.{list_any}
use Rattle.std.proofs.lemmas.List.{map-append}
use Rattle.indexmap.specs.IndexSet.{insert_key}
use Rattle.ide_text.specs.declared.program.Procedure.{Procedure}
use Rattle.std.specs.Str.{bytes_eq}
use Rattle.ide_graph.specs.Naming.{AreNew, HasOwnNames, with_name}

module _ {K : Type 0} (h : K → List ℕ) where
  list_any-map : (p : List ℕ → Bool) (xs : List K) → list_any p (map h xs) ≡ list_any (λ x. p (h x)) xs
  list_any-map p [] = refl
  list_any-map p (x ∷ xs) = ap (λ r. p (h x) || r) (list_any-map p xs)

  -- a key is inserted as its name is
  pub map-insert_key : (keys : List K) (key : K) (name : List ℕ) → h key ≡ name → map h (insert_key (λ a b. bytes_eq (h a) (h b)) keys key) ≡ with_name (map h keys) name
  map-insert_key keys key name same =
      by (list_any (λ k. bytes_eq (h key) (h k)) keys) refl
      ∙ ap (λ b. cond b (map h keys) (map h keys ++ name ∷ [])) (ap (λ (n : List ℕ). list_any (λ (k : K). bytes_eq n (h k)) keys) same ∙ sym (list_any-map (bytes_eq name) keys))
    where
      by : (b : Bool) → list_any (λ k. bytes_eq (h key) (h k)) keys ≡ b → map h (if b then keys else keys ++ key ∷ []) ≡ cond b (map h keys) (map h keys ++ name ∷ [])
      by true e = refl
      by false e = map-append h keys (key ∷ []) ∙ ap (λ n. map h keys ++ n ∷ []) same

-- names that are added in turn, all of them new
pub added_twice : (q : Procedure) (empty first second parameters locals : List (List ℕ)) → empty ≡ [] → parameters ≡ q.parameters.items → locals ≡ q.locals.items
    → (AreNew empty parameters → first ≡ empty ++ parameters) → (AreNew first locals → second ≡ first ++ locals)
    → HasOwnNames q → (first ≡ q.parameters.items) × (second ≡ q.parameters.items ++ q.locals.items)
added_twice q empty first second parameters locals none ps ls once twice own =
    let begin : first ≡ q.parameters.items =
    once (subst (λ (names : List (List ℕ)). AreNew names parameters) (sym none) (subst (λ (names : List (List ℕ)). AreNew [] names) (sym ps) own.parameters))
    ∙ (ap (λ (names : List (List ℕ)). names ++ parameters) none ∙ ps) in (
      begin,
      twice (subst (λ (names : List (List ℕ)). AreNew names locals) (sym begin) (subst (λ (names : List (List ℕ)). AreNew q.parameters.items names) (sym ls) own.locals))
          ∙ (ap (λ (names : List (List ℕ)). names ++ locals) begin ∙ ap (λ (names : List (List ℕ)). q.parameters.items ++ names) ls),
    )

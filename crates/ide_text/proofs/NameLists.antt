-- Lists of names, as sets and maps of borrowed bytes keep them.
use Rattle.std.proofs.Common.{◌≡◌, ℕ, Bool, true, false, true≢false, not, Bor, List, [], ◌∷◌, ◌++◌, map, cond, is_some, Option, Some, None, ◌||◌, ◌∙◌, sym, ap, refl, if◌then◌else◌}
use Rattle.std.specs.List.{list_any}
use Rattle.std.specs.Str.{bytes_eq}
use Rattle.std.proofs.lemmas.List.{map-append}
use Rattle.std.specs.Map.{lookup}
use Rattle.indexmap.specs.IndexSet.{insert_key}
use Rattle.indexmap.specs.IndexMap.{insert_entry}
use Rattle.ide_text.specs.Names.{is_among}
use Rattle.ide_text.specs.Places.{place_of, with_place}

pub list_any-map : {K B : Type 0} (h : K → B) (p : B → Bool) (xs : List K) → list_any p (map h xs) ≡ list_any (λ x. p (h x)) xs
list_any-map h p [] = refl
list_any-map h p (x ∷ xs) = ap (λ r. p (h x) || r) (list_any-map h p xs)

-- a borrowed key is looked up as its bytes are
pub is_among-keys : (keys : List (Bor (List ℕ))) (key : Bor (List ℕ)) (name : List ℕ) → key.now ≡ name → list_any (λ k. bytes_eq key.now k.now) keys ≡ is_among (map (λ k. k.now) keys) name
is_among-keys keys key name same =
    ap (λ (b : List ℕ). list_any (λ (k : Bor (List ℕ)). bytes_eq b k.now) keys) same ∙ sym (list_any-map (λ (k : Bor (List ℕ)). k.now) (bytes_eq name) keys)

-- a new key goes last
pub map-insert_key : (keys : List (Bor (List ℕ))) (key : Bor (List ℕ)) (name : List ℕ) → key.now ≡ name → list_any (λ k. bytes_eq key.now k.now) keys ≡ false → map (λ k. k.now) (insert_key (λ a b. bytes_eq a.now b.now) keys key) ≡ map (λ k. k.now) keys ++ name ∷ []
map-insert_key keys key name same none =
    ap (λ b. map (λ (k : Bor (List ℕ)). k.now) (if b then keys else keys ++ key ∷ [])) none
    ∙ map-append (λ (k : Bor (List ℕ)). k.now) keys (key ∷ []) ∙ ap (λ b. map (λ (k : Bor (List ℕ)). k.now) keys ++ b ∷ []) same

some_is_not_none : {X : Type 0} {x : X} → Some x ≡ None → ⊥
some_is_not_none h = cc

pub false_from_not : (b : Bool) → not b ≡ true → b ≡ false
false_from_not true h = sym h
false_from_not false h = refl

pub none_from_is_some : {X : Type 0} (o : Option X) → is_some o ≡ false → o ≡ None
none_from_is_some None h = refl
none_from_is_some (Some x) h = absurd (true≢false h)

module _ {K P : Type 0} (h : K → List ℕ) where
  -- the places that a map keeps, whose keys hold the names
  abbrev pub places_of : List (K × P) → List (List ℕ × P)
  places_of entries = map (λ e. (h e.0, e.1)) entries

  -- a key is looked up as its name is
  pub place_of-entries : (entries : List (K × P)) (name : List ℕ) → lookup (λ k. bytes_eq name (h k)) entries ≡ place_of (places_of entries) name
  place_of-entries [] name = refl
  place_of-entries (e ∷ es) name = ap (λ r. cond (bytes_eq name (h e.0)) (Some e.1) r) (place_of-entries es name)

  places-cons : (e : K × P) (es new : List (K × P)) (key : K) (place : P) (b : Bool) → bytes_eq (h key) (h e.0) ≡ b
      → cond b (Some e.1) (place_of (places_of es) (h key)) ≡ None
      → (place_of (places_of es) (h key) ≡ None → places_of new ≡ places_of es ++ (h key, place) ∷ [])
      → places_of (if b then (e.0, place) ∷ es else e ∷ new) ≡ places_of (e ∷ es) ++ (h key, place) ∷ []
  places-cons e es new key place true is none rest = let no : Some e.1 ≡ None = none in cc
  places-cons e es new key place false is none rest = ap (λ r. (h e.0, e.1) ∷ r) (rest none)

  places_of-insert_entry : (entries : List (K × P)) (key : K) (place : P) → place_of (places_of entries) (h key) ≡ None
      → places_of (insert_entry (λ a b. bytes_eq (h a) (h b)) entries key place) ≡ places_of entries ++ (h key, place) ∷ []
  places_of-insert_entry [] key place none = refl
  places_of-insert_entry (e ∷ es) key place none =
      places-cons e es (insert_entry (λ a b. bytes_eq (h a) (h b)) es key place) key place (bytes_eq (h key) (h e.0)) refl none
      (places_of-insert_entry es key place)

  module _ (entries : List (K × P)) (key : K) (name : List ℕ) (same : h key ≡ name) (place : P) where
    -- a name that has no place gets one: a new key goes last
    pub inserted : is_some (lookup (λ k. bytes_eq name (h k)) entries) ≡ false
        → places_of (insert_entry (λ a b. bytes_eq (h a) (h b)) entries key place) ≡ with_place (places_of entries) name place
    inserted new =
        let none : place_of (places_of entries) name ≡ None = sym (place_of-entries entries name) ∙ none_from_is_some _ new in
        places_of-insert_entry entries key place (ap (λ n. place_of (places_of entries) n) same ∙ none)
        ∙ ap (λ (n : List ℕ). places_of entries ++ (n, place) ∷ []) same
        ∙ sym (ap (λ o. cond (is_some o) (places_of entries) (places_of entries ++ (name, place) ∷ [])) none)

  -- a name that has a place keeps it
  pub kept : (entries : List (K × P)) (name : List ℕ) (place : P) → is_some (lookup (λ k. bytes_eq name (h k)) entries) ≡ true
      → places_of entries ≡ with_place (places_of entries) name place
  kept entries name place there =
      sym (ap (λ b. cond b (places_of entries) (places_of entries ++ (name, place) ∷ [])) (ap is_some (sym (place_of-entries entries name)) ∙ there))

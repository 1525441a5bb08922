-- What one more statement adds to the nodes and the labels.
use Rattle.std.proofs.Common.{◌≡◌, ℕ, ◌+◌, ◌<◌, false, cond, List, [], ◌∷◌, ◌++◌, length, take, get_or, Option, Some, None, ◌∙◌, sym, ap, subst, refl, append_assoc, length-append}
use Rattle.std.specs.Global.{Vec}
use Rattle.std.specs.List.{flat_map}
use Rattle.std.proofs.lemmas.List.{append-nil, length-map, map-append, take_more}
use Rattle.std.proofs.lemmas.Grind.{flat_map-append}
use Rattle.ide_text.specs.declared.program.Statement.{Statement}
use Rattle.ide_text.specs.declared.program.Statement.TheVariants.{Assign, Skip, At, Goto, Branch, Call, Return}
use Rattle.ide_text.specs.Names.{declares}
use Rattle.std.specs.Str.{bytes_eq}
use Rattle.ide_text.specs.Places.{place_of, with_place}
use Rattle.ide_graph.specs.Numbering.{nodes_at}
use Rattle.ide_graph.specs.Numbers.{Spot, statement, return_site, label_among, spots_on}
use Rattle.ide_text.proofs.PlaceLemmas.{place_of-with_place}
use Rattle.ide_text.proofs.Positions.{or_else}
use Rattle.ide_graph.proofs.PlaceLemmas.{label_among-push}

-- one more element than the front has
pub front_more : {X : Type 0} (P : List X → Type 0) (xs : List X) (i : ℕ) (x : X) → i < length xs → x ≡ get_or xs i x → P (take i xs ++ x ∷ []) → P (take (i + 1) xs)
front_more P xs i x inside at h = subst P (sym (take_more xs i x inside ∙ ap (λ y. take i xs ++ y ∷ []) (sym at))) h

pub nodes_more : (k : ℕ) (old now new : List (ℕ × Spot)) (xs : List Statement) (s : Statement) (added : List Spot)
    → now ≡ old ++ nodes_at k (flat_map spots_on xs) → new ≡ now ++ nodes_at k added → added ≡ spots_on s
    → new ≡ old ++ nodes_at k (flat_map spots_on (xs ++ s ∷ []))
nodes_more k old now new xs s added before more is =
    more ∙ ap (λ nodes. nodes ++ nodes_at k added) before
    ∙ append_assoc old (nodes_at k (flat_map spots_on xs)) (nodes_at k added)
    ∙ ap (λ nodes. old ++ nodes)
    (ap (λ (spots : List Spot). nodes_at k (flat_map spots_on xs) ++ nodes_at k spots) (is ∙ sym (append-nil (spots_on s)))
    ∙ sym (ap (nodes_at k) (flat_map-append spots_on xs (s ∷ [])) ∙ map-append (λ spot. (k, spot)) (flat_map spots_on xs) (spots_on s ++ [])))

-- the number of the next node
pub next_node : (k : ℕ) (old now : List (ℕ × Spot)) (xs : List Statement) → now ≡ old ++ nodes_at k (flat_map spots_on xs) → length now ≡ length old + length (flat_map spots_on xs)
next_node k old now xs before =
    ap length before ∙ length-append old (nodes_at k (flat_map spots_on xs)) ∙ ap (λ n. length old + n) (length-map (flat_map spots_on xs) (λ spot. (k, spot)))

module _ (begin : ℕ) (xs : List Statement) (s : Statement) (labels : List (List ℕ × ℕ)) (before : (name : List ℕ) → place_of labels name ≡ label_among begin xs name) where
  pub labels_more : (label : List ℕ) (n : ℕ) → n ≡ begin + length (flat_map spots_on xs) → s ≡ At label → (name : List ℕ) → place_of (with_place labels label n) name ≡ label_among begin (xs ++ s ∷ []) name
  labels_more label n is at name =
      place_of-with_place labels label name n
      ∙ ap (λ o. or_else o (cond (bytes_eq name label) (Some n) None)) (before name)
      ∙ ap (λ m. or_else (label_among begin xs name) (cond (bytes_eq name label) (Some m) None)) is
      ∙ ap (λ b. or_else (label_among begin xs name) (cond b (Some (begin + length (flat_map spots_on xs))) None)) (sym (ap (declares name) at))
      ∙ sym (label_among-push begin xs s name)

  pub labels_same : ((name : List ℕ) → declares name s ≡ false) → (name : List ℕ) → place_of labels name ≡ label_among begin (xs ++ s ∷ []) name
  labels_same none name =
      before name ∙ sym (same (label_among begin xs name))
      ∙ ap (λ b. or_else (label_among begin xs name) (cond b (Some (begin + length (flat_map spots_on xs))) None)) (sym (none name))
      ∙ sym (label_among-push begin xs s name)
    where
      same : (o : Option ℕ) → or_else o None ≡ o
      same None = refl
      same (Some i) = refl

-- a statement that is neither a label nor a call
pub plain_spots : (s : Statement) → ((l : List ℕ) → s ≡ At l → ⊥) → ((x : Option (List ℕ)) (callees arguments : Vec (List ℕ)) → s ≡ Call x callees arguments → ⊥) → statement s ∷ [] ≡ spots_on s
plain_spots (Assign x e) label call = refl
plain_spots Skip label call = refl
plain_spots (At l) label call = refl
plain_spots (Goto l) label call = refl
plain_spots (Branch l) label call = refl
plain_spots (Call x callees arguments) label call = absurd (call x callees arguments refl)
plain_spots (Return y) label call = refl

pub plain_declares : (s : Statement) → ((l : List ℕ) → s ≡ At l → ⊥) → (name : List ℕ) → declares name s ≡ false
plain_declares (At l) label name = absurd (label l refl)
plain_declares (Assign x e) label name = refl
plain_declares Skip label name = refl
plain_declares (Goto l) label name = refl
plain_declares (Branch l) label name = refl
plain_declares (Call x callees arguments) label name = refl
plain_declares (Return y) label name = refl

pub label_spots : (s : Statement) (l : List ℕ) → s ≡ At l → statement s ∷ [] ≡ spots_on s
label_spots s l is = ap (λ (t : Statement). statement t ∷ []) is ∙ sym (ap spots_on is)

pub call_spots : (s : Statement) (x : Option (List ℕ)) (callees arguments : Vec (List ℕ)) → s ≡ Call x callees arguments → statement s ∷ return_site ∷ [] ≡ spots_on s
call_spots s x callees arguments is = ap (λ (t : Statement). statement t ∷ return_site ∷ []) is ∙ sym (ap spots_on is)

pub call_declares : (s : Statement) (x : Option (List ℕ)) (callees arguments : Vec (List ℕ)) → s ≡ Call x callees arguments → (name : List ℕ) → declares name s ≡ false
call_declares s x callees arguments is name = ap (declares name) is

-- two nodes that are added in turn
pub two_nodes : (k : ℕ) (now next new : List (ℕ × Spot)) (a b : Spot) → next ≡ now ++ (k, a) ∷ [] → new ≡ next ++ (k, b) ∷ [] → new ≡ now ++ nodes_at k (a ∷ b ∷ [])
two_nodes k now next new a b one two = two ∙ ap (λ nodes. nodes ++ (k, b) ∷ []) one ∙ append_assoc now ((k, a) ∷ []) ((k, b) ∷ [])

-- What one more procedure adds to a directory. What is true of each value of a map, and of a value
-- that is inserted, is true of each afterwards.
use Rattle.std.proofs.Common.{◌≡◌, ℕ, Bool, true, false, List, [], ◌∷◌, ◌++◌, length, cond, Some, None, ◌∙◌, sym, ap}
use Rattle.std.specs.List.{All}
use Rattle.std.specs.Map.{values_of}
use Rattle.std.proofs.lemmas.List.Elements.{All-cons, All-head, All-tail}
use Rattle.indexmap.specs.IndexMap.{insert_entry}
use Rattle.ide_text.specs.declared.program.Procedure.{Procedure}
use Rattle.ide_text.specs.Names.{is_named}
use Rattle.std.specs.Str.{bytes_eq}
use Rattle.ide_text.specs.Places.{place_of, with_place}
use Rattle.ide_graph.specs.Numbers.{procedure_of}
use Rattle.ide_text.proofs.PlaceLemmas.{place_of-with_place}
use Rattle.ide_text.proofs.Positions.{or_else, position-push}

pub All-insert_entry : {K V : Type 0} (eq : K → K → Bool) (P : V → Type 0) (es : List (K × V)) (k : K) (v : V) → All P (values_of es) → P v → All P (values_of (insert_entry eq es k v))
All-insert_entry eq P [] k v all one = All-cons P v [] one all
All-insert_entry eq P (e ∷ es) k v all one =
    elim (eq k e.0) as (λ b. All P (values_of (cond b ((e.0, v) ∷ es) (e ∷ insert_entry eq es k v)))) [
      | true ↦ All-cons P v (values_of es) one (All-tail P e.1 (values_of es) all)
      | false ↦ All-cons P e.1 (values_of (insert_entry eq es k v)) (All-head P e.1 (values_of es) all) (All-insert_entry eq P es k v (All-tail P e.1 (values_of es) all) one)
    ]

-- one more procedure
pub procedure_of-more : (places : List (List ℕ × ℕ)) (ps : List Procedure) (q : Procedure) (n : ℕ) → n ≡ length ps
    → ((name : List ℕ) → place_of places name ≡ procedure_of ps name)
    → (name : List ℕ) → place_of (with_place places q.name n) name ≡ procedure_of (ps ++ q ∷ []) name
procedure_of-more places ps q n is before name =
    place_of-with_place places q.name name n
    ∙ ap (λ o. or_else o (cond (bytes_eq name q.name) (Some n) None)) (before name)
    ∙ ap (λ m. or_else (procedure_of ps name) (cond (bytes_eq name q.name) (Some m) None)) is
    ∙ sym (position-push (is_named name) ps q)

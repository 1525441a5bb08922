-- What a name finds: a procedure of the program, or a fact of one of its procedures.
use Rattle.std.specs.Prelude.{ℕ, ◌+◌, List, ◌∷◌, ◌++◌, Option, None, Some, cond, codes, length, min}
use Rattle.std.specs.List.{position}
use Rattle.std.specs.Map.{lookup}
use Rattle.std.specs.Option.{option_map}
use Rattle.std.specs.Str.{bytes_eq}

-- how many procedures there are, and the names of those that are found by name, with their indices
pub record Named : Type 0 where
  pub count : ℕ
  pub procedures : List (List ℕ × ℕ)

-- the index of the procedure of the name
abbrev pub procedure_of_name : List (List ℕ × ℕ) → List ℕ → Option ℕ
procedure_of_name procedures name = lookup (bytes_eq name) procedures

-- a fact that every procedure has: the zero fact, a global or the result
abbrev pub shared_fact_of_name : List (List ℕ) → List ℕ → Option ℕ
shared_fact_of_name globals name =
    cond (bytes_eq name (codes "@zero")) (Some 0)
    (cond (bytes_eq name (codes "@result")) (Some (min (length globals + 1) 65535))
    (option_map (λ index. min (index + 1) 65535) (position (bytes_eq name) globals)))

-- the fact of a name, where these are the globals and a procedure's own facts
abbrev pub own_or_shared : List (List ℕ) → List ℕ → Option ℕ → Option ℕ
own_or_shared globals name None = shared_fact_of_name globals name
own_or_shared globals name (Some index) = Some (min (length globals + 2 + index) 65535)

abbrev pub fact_of_name : List (List ℕ) → List (List ℕ) → List ℕ → Option ℕ
fact_of_name globals own name = own_or_shared globals name (position (bytes_eq name) own)

-- the names of facts, in the order of their numbers, where these are the globals and a procedure's own
abbrev pub names_of_facts : List (List ℕ) → List (List ℕ) → List (List ℕ)
names_of_facts globals own = (codes "@zero" ∷ globals) ++ codes "@result" ∷ own

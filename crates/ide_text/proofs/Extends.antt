-- What a failed append leaves.
use Rattle.std.proofs.Common.{◌≡◌, ◌++◌, ℕ, List, Result, Ok, Err, OnErr, ◌∙◌, ap, append_assoc}
use Rattle.ide_text.specs.Text.{Extends}

-- what extends a list with some text after it extends the list
pub Extends-more : (old text mid new : List ℕ) → mid ≡ old ++ text → Extends mid new → Extends old new
Extends-more old text mid new e (rest, h) = (text ++ rest, h ∙ ap (λ xs. xs ++ rest) e ∙ append_assoc old text rest)

-- what holds anyway holds at an error
pub OnErr-always : {T E : Type 0} (r : Result T E) (P : Type 0) → P → OnErr r P
OnErr-always (Ok x) P p = tt
OnErr-always (Err e) P p = p

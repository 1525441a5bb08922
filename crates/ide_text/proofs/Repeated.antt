-- The first of some names that is repeated, where one is.
use Rattle.std.proofs.Common.{◌≡◌, ℕ, List, Option, Some, None, IfNone, is_some, true, false, true≢false, refl, sym, subst}
use Rattle.ide_text.specs.Names.{IsRepeated, IsFirstRepeated}

-- the first that is repeated, by other names for the same
pub renamed : (known known' names names' : List (List ℕ)) (o : Option ℕ) → known ≡ known' → names ≡ names' → IsFirstRepeated known names o → IsFirstRepeated known' names' o
renamed known known' names names' o e f h = subst (λ (ks : List (List ℕ)). IsFirstRepeated ks names' o) e (subst (λ (ns : List (List ℕ)). IsFirstRepeated known ns o) f h)

-- one is repeated
pub some_repeated : (known names : List (List ℕ)) (o : Option ℕ) → is_some o ≡ true → IsFirstRepeated known names o → (k : ℕ) × IsRepeated known names k
some_repeated known names None some h = absurd (true≢false (sym some))
some_repeated known names (Some k) some h = (k, h.0)

-- none is repeated
pub none_repeated : (known names : List (List ℕ)) (o : Option ℕ) → is_some o ≡ false → IsFirstRepeated known names o → (k : ℕ) → ¬ IsRepeated known names k
none_repeated known names None none h = h
none_repeated known names (Some k) none h = absurd (true≢false none)

pub at_none : {P : Type 0} (o : Option ℕ) → is_some o ≡ false → IfNone o P → P
at_none None none h = h
at_none (Some k) none h = absurd (true≢false none)

pub is_none : (o : Option ℕ) → ((k : ℕ) → o ≡ Some k → ⊥) → is_some o ≡ false
is_none None other = refl
is_none (Some k) other = absurd (other k refl)

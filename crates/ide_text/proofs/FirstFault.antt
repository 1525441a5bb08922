-- A program has at most one first fault of its names, and none where its names have no fault.
use Rattle.std.proofs.Common.{◌≡◌, ℕ, ◌≤◌, ◌==◌, cond, subst, sym, ap, refl, ◌∙◌, arith}
use Rattle.ide_wire.specs.declared.refused.Fault.{Fault}
use Rattle.ide_wire.specs.declared.refused.Fault.TheVariants.{TextTooLong, NoSuchLine, OutOfPlace, TooMany, DeclaredTwice, NoSuchVariable, NoSuchLabel, NoSuchProcedure, WrongArguments, WrongCallees}
use Rattle.ide_text.specs.declared.program.Draft.{Draft}
use Rattle.ide_text.specs.First.{IsFirst, number_of}
use Rattle.ide_text.specs.NameFault.{NameFault, IsFirstNameFault, IsWellNamed}

-- the fault with a number
numbered : ℕ → Fault
numbered n = cond (n == 1) TextTooLong (cond (n == 2) NoSuchLine (cond (n == 3) OutOfPlace (cond (n == 4) TooMany (cond (n == 5) DeclaredTwice (cond (n == 6) NoSuchVariable (cond (n == 7) NoSuchLabel (cond (n == 8) NoSuchProcedure (cond (n == 9) WrongArguments WrongCallees))))))))

numbered-number_of : (f : Fault) → numbered (number_of f) ≡ f
unfolding numbered
numbered-number_of TextTooLong = refl
numbered-number_of NoSuchLine = refl
numbered-number_of OutOfPlace = refl
numbered-number_of TooMany = refl
numbered-number_of DeclaredTwice = refl
numbered-number_of NoSuchVariable = refl
numbered-number_of NoSuchLabel = refl
numbered-number_of NoSuchProcedure = refl
numbered-number_of WrongArguments = refl
numbered-number_of WrongCallees = refl

-- faults of one number are one
pub number_of-injective : (f g : Fault) → number_of f ≡ number_of g → f ≡ g
number_of-injective f g same = sym (numbered-number_of f) ∙ ap numbered same ∙ numbered-number_of g

-- of faults on lines there is at most one first
pub IsFirst-unique : (faults : ℕ → Fault → Type 0) (l k : ℕ) (f g : Fault) → IsFirst faults l f → IsFirst faults k g → (l ≡ k) × (f ≡ g)
IsFirst-unique faults l k f g a b =
    let below : l ≤ k = a.least_line k g b.found in
    let above : k ≤ l = b.least_line l f a.found in
    let same : l ≡ k = omega arith in
    let least : number_of f ≤ number_of g = a.least_number g (subst (λ (m : ℕ). faults m g) (sym same) b.found) in
    let most : number_of g ≤ number_of f = b.least_number f (subst (λ (m : ℕ). faults m f) same a.found) in
    (same, number_of-injective f g (omega arith))

pub IsFirstNameFault-unique : (p : Draft) (l k : ℕ) (f g : Fault) → IsFirstNameFault p l f → IsFirstNameFault p k g → (l ≡ k) × (f ≡ g)
IsFirstNameFault-unique p l k f g a b = IsFirst-unique (NameFault p) l k f g a b

pub IsFirstNameFault-not_well_named : (p : Draft) (l : ℕ) (f : Fault) → IsFirstNameFault p l f → ¬ IsWellNamed p
IsFirstNameFault-not_well_named p l f first well = well l f first.found

-- When two tests of parts of a task hold, the parts are equal.
use Rattle.std.proofs.Common.{◌≡◌, ◌↔◌, true, false, Bool, ◌&&◌, refl, sym, ap, ◌∙◌, ℕ, List, [], ◌∷◌, nat_eq, arith}
use Rattle.std.proofs.lemmas.Bool.Decides.{nat_tests}
use Rattle.std.specs.Cmp.{IsEquivalence}
use Rattle.std.specs.Cmp.Lexicographic.{pointwise}
use denote.RattleType.{RattleType}
use mir.Syntax.{Dict}
use Rattle.std.specs.declared.cmp.Eq.{Ghosts as EqGhosts}
use Rattle.std.specs.declared.cmp.PartialEq.{Ghosts as PartialEqGhosts}
use Rattle.ide_wire.specs.Listing.{IsExact, lists_exact}
use Rattle.ide_tasks.specs.contracts.partners.PartnersPartialEq.TheImpl.{ghosts as partners_eq}
use Rattle.ide_tasks.specs.declared.partners.Reaching.{Reaching}
use Rattle.ide_tasks.specs.declared.partners.Partners.{Partners}
use Rattle.ide_tasks.specs.declared.partners.Partners.TheVariants.{Entries, Callers}

-- a test that holds of equal things, and of no others, tells whether two are equal
pub told : {T : Type 0} (same : T → T → Bool) → IsExact same → ((x : T) → same x x ≡ true) → (answer : Bool) (x y : T) → answer ≡ same x y → (answer ≡ true) ↔ (x ≡ y)
told same exact itself answer x y is = (λ yes. exact x y (sym is ∙ yes), λ equal. is ∙ (ap (same x) (sym equal) ∙ itself x))

-- numbers that the test calls the same are equal
pub number_exact : (x y : ℕ) → nat_eq x y ≡ true → x ≡ y
number_exact x y h = grind (arith, nat_tests)

-- each of two tests that both hold
pub both_right : (a b : Bool) → (a && b) ≡ true → b ≡ true
both_right true b h = h
both_right false b h = cc (h)

pub both_left : (a b : Bool) → (a && b) ≡ true → a ≡ true
both_left true b h = refl
both_left false b h = h

both : {a b : Bool} → a ≡ true → b ≡ true → (a && b) ≡ true
both {a = a} {b = b} first second = ap (λ c. c && b) first ∙ second

pub number_itself : (n : ℕ) → nat_eq n n ≡ true
number_itself n = grind (arith, nat_tests)

-- a list is the same as itself where each element is
list_itself : {T : Type 0} (same : T → T → Bool) → ((x : T) → same x x ≡ true) → (xs : List T) → pointwise same xs xs ≡ true
list_itself same itself [] = refl
list_itself same itself (x ∷ xs) = both (itself x) (list_itself same itself xs)

-- a pair of a fact and a function, by the tests of both
pub entry_exact : {F : Type 0} (same : F → F → Bool) → IsExact same → IsExact {T = ℕ × F} (λ x y. nat_eq x.0 y.0 && same x.1 y.1)
entry_exact same exact x y h =
    let fact : x.0 ≡ y.0 = number_exact x.0 y.0 (both_left (nat_eq x.0 y.0) (same x.1 y.1) h) in
    let function : x.1 ≡ y.1 = exact x.1 y.1 (both_right (nat_eq x.0 y.0) (same x.1 y.1) h) in
    ap (λ (n : ℕ). (n, x.1)) fact ∙ ap (λ g. (y.0, g)) function

-- a source, by the tests of its caller, its fact and its function
pub source_exact : {F : Type 0} (same : F → F → Bool) → IsExact same
    → IsExact {T = Reaching F} (λ x y. nat_eq x.caller y.caller && (nat_eq x.fact y.fact && same x.function y.function))
source_exact same exact x y h =
    let rest = both_right (nat_eq x.caller y.caller) (nat_eq x.fact y.fact && same x.function y.function) h in
    let caller : x.caller ≡ y.caller = number_exact x.caller y.caller (both_left (nat_eq x.caller y.caller) (nat_eq x.fact y.fact && same x.function y.function) h) in
    let fact : x.fact ≡ y.fact = number_exact x.fact y.fact (both_left (nat_eq x.fact y.fact) (same x.function y.function) rest) in
    let function : x.function ≡ y.function = exact x.function y.function (both_right (nat_eq x.fact y.fact) (same x.function y.function) rest) in
    ap (λ (n : ℕ). record x { caller = n }) caller
    ∙ ap (λ (n : ℕ). record x { caller = y.caller; fact = n }) fact
    ∙ ap (λ g. record y { function = g }) function

-- partners, by the code's `==` on functions that is equality
pub partners_exact : (F : RattleType) (e : EqGhosts F.Denot) (d : Dict) (p : PartialEqGhosts F.Denot) (f : Dict) → IsExact p.eq → IsExact (partners_eq F e d p f).eq
partners_exact F e d p f exact (Entries xs) (Entries ys) h = ap Entries (lists_exact (λ x y. nat_eq x.0 y.0 && p.eq x.1 y.1) (entry_exact p.eq exact) xs ys h)
partners_exact F e d p f exact (Entries xs) (Callers ys) h = cc (h)
partners_exact F e d p f exact (Callers xs) (Entries ys) h = cc (h)
partners_exact F e d p f exact (Callers xs) (Callers ys) h = ap Callers (lists_exact (λ x y. nat_eq x.caller y.caller && (nat_eq x.fact y.fact && p.eq x.function y.function)) (source_exact p.eq exact) xs ys h)

-- partners are the same as themselves
partners_itself : (F : RattleType) (e : EqGhosts F.Denot) (d : Dict) (p : PartialEqGhosts F.Denot) (f : Dict) → IsEquivalence p.eq → (x : Partners F.Denot) → (partners_eq F e d p f).eq x x ≡ true
partners_itself F e d p f equivalence (Entries xs) = list_itself (λ x y. nat_eq x.0 y.0 && p.eq x.1 y.1) (λ x. both (number_itself x.0) (equivalence.refl x.1)) xs
partners_itself F e d p f equivalence (Callers xs) =
    list_itself (λ x y. nat_eq x.caller y.caller && (nat_eq x.fact y.fact && p.eq x.function y.function)) (λ x. both (number_itself x.caller) (both (number_itself x.fact) (equivalence.refl x.function))) xs

-- the code's `==` on partners tells whether they are equal
pub partners_told : (F : RattleType) (e : EqGhosts F.Denot) (d : Dict) (p : PartialEqGhosts F.Denot) (f : Dict) → IsExact p.eq → IsEquivalence p.eq
    → (answer : Bool) (x y : Partners F.Denot) → answer ≡ (partners_eq F e d p f).eq x y → (answer ≡ true) ↔ (x ≡ y)
partners_told F e d p f exact equivalence answer x y = told (partners_eq F e d p f).eq (partners_exact F e d p f exact) (partners_itself F e d p f equivalence) answer x y

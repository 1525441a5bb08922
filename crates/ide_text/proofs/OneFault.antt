-- A text has one fault at most, and none where it is parsed.
use Rattle.std.proofs.Common.{◌≡◌, ℕ, List, refl, arith}
use Rattle.ide_wire.specs.declared.refused.Fault.{Fault}
use Rattle.ide_text.specs.declared.program.Draft.{Draft}
use Rattle.ide_text.specs.declared.program.Program.{Program}
use Rattle.ide_text.specs.Grammar.{Spells}
use Rattle.ide_text.specs.NameFault.{IsFirstNameFault}
use Rattle.ide_text.specs.Parsed.{IsParsed, TextFault, Too_long, In_lines, In_names}
use Rattle.ide_text.proofs.FirstFault.{IsFirstNameFault-unique}
use Rattle.ide_text.proofs.OneProgram.{one_program}
use Rattle.ide_text.proofs.Unique.{FirstFault-one, spelled_has_none}
use Rattle.ide_text.proofs.Value.{IsFirstNameFault-same}

-- two drafts that one text spells have one first fault of their names
names_one : (text : List ℕ) (p q : Draft) → Spells text p → Spells text q → (m n : ℕ) (f g : Fault)
    → IsFirstNameFault p m f → IsFirstNameFault q n g → (m ≡ n) × (f ≡ g)
names_one text p q sp sq m n f g first other =
    IsFirstNameFault-unique q m n f g (IsFirstNameFault-same p q (one_program text p q sp sq) m f first) other

absurd : {A : Type 0} → ⊥ → A
absurd none = elim none [ ]

pub one_fault : (text : List ℕ) (m n : ℕ) (f g : Fault) → TextFault text m f → TextFault text n g → (m ≡ n) × (f ≡ g)
one_fault text m n f g (Too_long long) (Too_long more) = (refl, refl)
one_fault text m n f g (Too_long long) (In_lines short l h a) = absurd (omega (arith, long, short))
one_fault text m n f g (Too_long long) (In_names short p sp wl l h a) = absurd (omega (arith, long, short))
one_fault text m n f g (In_lines short l h a) (Too_long long) = absurd (omega (arith, long, short))
one_fault text m n f g (In_lines short l h a) (In_lines short2 k i b) = FirstFault-one text l k h i a b
one_fault text m n f g (In_lines short l h a) (In_names short2 p sp wl k i b) = absurd (spelled_has_none text l h (p, sp, wl) a)
one_fault text m n f g (In_names short p sp wl l h a) (Too_long long) = absurd (omega (arith, long, short))
one_fault text m n f g (In_names short p sp wl l h a) (In_lines short2 k i b) = absurd (spelled_has_none text k i (p, sp, wl) b)
one_fault text m n f g (In_names short p sp wl l h a) (In_names short2 q sq wm k i b) = names_one text p q sp sq l k h i a b

pub parsed_has_none : (text : List ℕ) (p : Program) (n : ℕ) (f : Fault) → IsParsed text p → ¬ (TextFault text n f)
parsed_has_none text p n f parsed (Too_long long) = omega (arith, long, parsed.short)
parsed_has_none text p n f parsed (In_lines short l h a) = spelled_has_none text l h (p.draft, parsed.spelled, p.limits) a
parsed_has_none text p n f parsed (In_names short q sq wl l h a) =
    p.named l h (IsFirstNameFault-same q p.draft (one_program text q p.draft sq parsed.spelled) l h a).found

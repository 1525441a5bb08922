-- A text has one first fault at most, and none where it spells a program.
use Rattle.std.proofs.Common.{ℕ, suc, ◌<◌, ◌≡◌, ◌≢◌, List, [], ◌∷◌, ◌++◌, codes, length, map, inl, inr, ap, sym, refl, ◌∙◌, arith, append_assoc}
use Rattle.std.specs.List.{AllByRecursion}
use Rattle.std.proofs.lemmas.List.{append-nil}
use Rattle.std.proofs.lemmas.Bool.{cases_lt}
use Rattle.ide_wire.specs.declared.refused.Fault.{Fault}
use Rattle.ide_wire.specs.declared.refused.Fault.TheVariants as fault
use Rattle.ide_text.specs.declared.line.Line.{Line}
use Rattle.ide_text.specs.FirstFault.{AreTaken, BeginsNoLine, FaultAfter, FirstFault, Fits, MayEnd, MayFollow, lines_text}
use Rattle.ide_text.specs.Grammar.{IsLine}
use Rattle.ide_text.specs.Lines.{draft_lines}
use Rattle.ide_text.specs.Refusal.{IsSpelled}
use Rattle.ide_text.specs.Text.{line_text}
use Rattle.ide_text.proofs.Shapes.{Fits-same, MayEnd-same, MayFollow-same, same_shape, shape, shapes}
use Rattle.ide_text.proofs.Texts.{AreTaken-lines, line_lacks, program_text_is, same_before}

line_apart : (ls : List Line) (l : Line) (rest : List ℕ) → lines_text (l ∷ ls) ++ rest ≡ lines_text ls ++ (line_text l ++ 10 ∷ rest)
line_apart ls l rest = simp append_assoc

-- as many lines at the head of one text have the same of all that the text of a line tells
pub same_lines : {X : Type 0} (f : Line → X) → ((l m : Line) → IsLine l → IsLine m → line_text l ≡ line_text m → f l ≡ f m) →
    (ls ms : List Line) (r s : List ℕ) → length ls ≡ length ms → AllByRecursion IsLine ls → AllByRecursion IsLine ms → lines_text ls ++ r ≡ lines_text ms ++ s → (map f ls ≡ map f ms) × (r ≡ s)
same_lines f told [] [] r s n h k e = (refl, e)
same_lines f told [] (m ∷ ms) r s n h k e = absurd (omega arith)
same_lines f told (l ∷ ls) [] r s n h k e = absurd (omega arith)
same_lines f told (l ∷ ls) (m ∷ ms) r s n h k e =
    let before = same_lines f told ls ms (line_text l ++ 10 ∷ r) (line_text m ++ 10 ∷ s) (omega arith) h.1 k.1 (sym (line_apart ls l r) ∙ e ∙ line_apart ms m s) in
    let last = same_before (line_text l) (line_text m) r s (line_lacks l h.0) (line_lacks m k.0) before.1 in
    (ap (λ x. x ∷ map f ls) (told l m h.0 k.0 last.0) ∙ ap (λ xs. f m ∷ xs) before.0, last.1)

-- after so many lines a text goes on by a line that is taken
abbrev GoesOn : List ℕ → ℕ → Type 0
GoesOn text n = (ms : List Line) × (m : Line) × (more : List ℕ) × AreTaken (m ∷ ms) × (n ≡ length ms) × (text ≡ lines_text (m ∷ ms) ++ more)

goes_on : (text : List ℕ) (n : ℕ) (ms : List Line) (more : List ℕ) → AreTaken ms → text ≡ lines_text ms ++ more → n < length ms → GoesOn text n
goes_on text n [] more taken e short = absurd (omega arith)
goes_on text n (m ∷ ms) more taken e short = elim (cases_lt n (length ms)) [
  | inl below ↦ goes_on text n ms (line_text m ++ codes "\n" ++ more) taken.0 (e ∙ line_apart ms m more ∙ ap (λ t. lines_text ms ++ t) (sym (append_assoc (line_text m) (codes "\n") more))) below
  | inr above ↦ (ms, m, more, taken, omega arith, e)
]

no_text_empty : (a rest : List ℕ) → a ++ 10 ∷ rest ≢ []
no_text_empty [] rest e = cc
no_text_empty (b ∷ a) rest e = cc

some_line : (l : Line) (rest : List ℕ) → line_text l ++ 10 ∷ rest ≢ []
some_line l rest e = no_text_empty (line_text l) rest e

-- the next line of a text, against the lines before it
next_line : (text : List ℕ) (ls : List Line) (r : List ℕ) (ms : List Line) (m : Line) (more : List ℕ) → AreTaken ls → AreTaken ms → length ls ≡ length ms →
    text ≡ lines_text ls ++ r → text ≡ lines_text (m ∷ ms) ++ more → (shapes ls ≡ shapes ms) × (r ≡ line_text m ++ 10 ∷ more)
next_line text ls r ms m more taken_l taken_m n at to =
    same_lines shape same_shape ls ms r (line_text m ++ 10 ∷ more) n (AreTaken-lines ls taken_l) (AreTaken-lines ms taken_m) (sym at ∙ to ∙ line_apart ms m more)

-- what a fault is, by its cause
data Cause (text : List ℕ) (ls : List Line) (f : Fault) : Type 0 where
  no_line : (rest : List ℕ) → f ≡ fault.NoSuchLine → text ≡ lines_text ls ++ rest → rest ≢ [] → BeginsNoLine rest → Cause text ls f
  no_place : (l : Line) (rest : List ℕ) → f ≡ fault.OutOfPlace → text ≡ lines_text (l ∷ ls) ++ rest → IsLine l → ¬ (MayFollow ls l) → Cause text ls f
  no_room : (l : Line) (rest : List ℕ) → f ≡ fault.TooMany → text ≡ lines_text (l ∷ ls) ++ rest → IsLine l → MayFollow ls l → ¬ (Fits (l ∷ ls)) → Cause text ls f
  no_end : f ≡ fault.OutOfPlace → text ≡ lines_text ls → ¬ (MayEnd ls) → Cause text ls f

cause : (text : List ℕ) (ls : List Line) (f : Fault) → FaultAfter text ls f → Cause text ls f
cause text ls fault.NoSuchLine h = no_line h.0 refl h.1 h.2 h.3
cause text ls fault.OutOfPlace (inl h) = no_place h.0 h.1 refl h.2 h.3 h.4
cause text ls fault.OutOfPlace (inr h) = no_end refl h.0 h.1
cause text ls fault.TooMany h = no_room h.0 h.1 refl h.2 h.3 h.4.0 h.4.1
cause text ls fault.TextTooLong h = absurd h
cause text ls fault.DeclaredTwice h = absurd h
cause text ls fault.NoSuchVariable h = absurd h
cause text ls fault.NoSuchLabel h = absurd h
cause text ls fault.NoSuchProcedure h = absurd h
cause text ls fault.WrongArguments h = absurd h
cause text ls fault.WrongCallees h = absurd h

-- a text after its next line, and at its end
after_line : (text : List ℕ) (ls : List Line) (l : Line) (rest : List ℕ) → text ≡ lines_text (l ∷ ls) ++ rest → text ≡ lines_text ls ++ (line_text l ++ 10 ∷ rest)
after_line text ls l rest e = e ∙ line_apart ls l rest

at_end : (text : List ℕ) (ls : List Line) → text ≡ lines_text ls → text ≡ lines_text ls ++ []
at_end text ls e = e ∙ sym (append-nil (lines_text ls))

begun_by : (text : List ℕ) (ls : List Line) (f : Fault) → Cause text ls f → (rest : List ℕ) × (text ≡ lines_text ls ++ rest)
begun_by text ls f (no_line rest is at some none) = (rest, at)
begun_by text ls f (no_place l rest is at line place) = (line_text l ++ 10 ∷ rest, after_line text ls l rest at)
begun_by text ls f (no_room l rest is at line place room) = (line_text l ++ 10 ∷ rest, after_line text ls l rest at)
begun_by text ls f (no_end is at end) = ([], at_end text ls at)

-- two next lines of a text have one shape
one_shape : (text : List ℕ) (ls ms : List Line) (l m : Line) (r s : List ℕ) → AreTaken ls → AreTaken ms → length ls ≡ length ms → IsLine l → IsLine m → text ≡ lines_text (l ∷ ls) ++ r → text ≡ lines_text (m ∷ ms) ++ s → shapes (l ∷ ls) ≡ shapes (m ∷ ms)
one_shape text ls ms l m r s taken_l taken_m n is_l is_m at to =
    (same_lines shape same_shape (l ∷ ls) (m ∷ ms) r s (ap suc n) (is_l, AreTaken-lines ls taken_l) (is_m, AreTaken-lines ms taken_m) (sym at ∙ to)).0

place_kept : (ls ms : List Line) (l m : Line) → shapes (l ∷ ls) ≡ shapes (m ∷ ms) → MayFollow ls l → MayFollow ms m
place_kept ls ms l m e h = let head : shape l ≡ shape m = cc in let tail : shapes ls ≡ shapes ms = cc in MayFollow-same ls ms l m tail head h

-- where a text goes on so, there is no fault
no_fault : (text : List ℕ) (ls : List Line) (f : Fault) → AreTaken ls → GoesOn text (length ls) → ¬ (Cause text ls f)
no_fault text ls f taken w (no_line rest is at some none) =
    let next = next_line text ls rest w.0 w.1 w.2 taken w.3.0 w.4 at w.5 in
    none w.1 w.2 w.3.1 (next.1 ∙ sym (append_assoc (line_text _) (codes "\n") _))
no_fault text ls f taken w (no_place l rest is at line place) =
    let one = one_shape text w.0 ls w.1 l w.2 rest w.3.0 taken (sym w.4) w.3.1 line w.5 at in
    place (place_kept w.0 ls w.1 l one w.3.2)
no_fault text ls f taken w (no_room l rest is at line place room) =
    let one = one_shape text w.0 ls w.1 l w.2 rest w.3.0 taken (sym w.4) w.3.1 line w.5 at in
    room (Fits-same (w.1 ∷ w.0) (l ∷ ls) one w.3.3)
no_fault text ls f taken w (no_end is at end) =
    let next = next_line text ls [] w.0 w.1 w.2 taken w.3.0 w.4 (at_end text ls at) w.5 in
    some_line w.1 w.2 (sym next.1)

-- a line, and no line, and no more text
line_or_none : (text : List ℕ) (ls ms : List Line) (l : Line) (r s : List ℕ) → AreTaken ls → AreTaken ms → length ls ≡ length ms → IsLine l → text ≡ lines_text (l ∷ ls) ++ r → text ≡ lines_text ms ++ s → ¬ (BeginsNoLine s)
line_or_none text ls ms l r s taken_l taken_m n is at to none =
    let next = next_line text ms s ls l r taken_m taken_l (sym n) to at in
    none l r is (next.1 ∙ sym (append_assoc (line_text _) (codes "\n") _))

line_or_end : (text : List ℕ) (ls ms : List Line) (l : Line) (r : List ℕ) → AreTaken ls → AreTaken ms → length ls ≡ length ms → text ≡ lines_text (l ∷ ls) ++ r → text ≢ lines_text ms
line_or_end text ls ms l r taken_l taken_m n at to =
    let next = next_line text ms [] ls l r taken_m taken_l (sym n) (at_end text ms to) at in
    some_line l r (sym next.1)

none_or_end : (text : List ℕ) (ls ms : List Line) (r : List ℕ) → AreTaken ls → AreTaken ms → length ls ≡ length ms → text ≡ lines_text ls ++ r → r ≢ [] → text ≢ lines_text ms
none_or_end text ls ms r taken_l taken_m n at some to =
    some (same_lines shape same_shape ls ms r [] n (AreTaken-lines ls taken_l) (AreTaken-lines ms taken_m) (sym at ∙ at_end text ms to)).1

same_fault : (text : List ℕ) (ls ms : List Line) (f g : Fault) → AreTaken ls → AreTaken ms → length ls ≡ length ms → Cause text ls f → Cause text ms g → f ≡ g
same_fault text ls ms f g tl tm n (no_line r is at some none) (no_line s is' at' some' none') = is ∙ sym is'
same_fault text ls ms f g tl tm n (no_line r is at some none) (no_place m s is' at' line' place') = absurd (line_or_none text ms ls m s r tm tl (sym n) line' at' at none)
same_fault text ls ms f g tl tm n (no_line r is at some none) (no_room m s is' at' line' place' room') = absurd (line_or_none text ms ls m s r tm tl (sym n) line' at' at none)
same_fault text ls ms f g tl tm n (no_line r is at some none) (no_end is' at' end') = absurd (none_or_end text ls ms r tl tm n at some at')
same_fault text ls ms f g tl tm n (no_place l r is at line place) (no_line s is' at' some' none') = absurd (line_or_none text ls ms l r s tl tm n line at at' none')
same_fault text ls ms f g tl tm n (no_place l r is at line place) (no_place m s is' at' line' place') = is ∙ sym is'
same_fault text ls ms f g tl tm n (no_place l r is at line place) (no_room m s is' at' line' place' room') = absurd (place (place_kept ms ls m l (one_shape text ms ls m l s r tm tl (sym n) line' line at' at) place'))
same_fault text ls ms f g tl tm n (no_place l r is at line place) (no_end is' at' end') = is ∙ sym is'
same_fault text ls ms f g tl tm n (no_room l r is at line place room) (no_line s is' at' some' none') = absurd (line_or_none text ls ms l r s tl tm n line at at' none')
same_fault text ls ms f g tl tm n (no_room l r is at line place room) (no_place m s is' at' line' place') = absurd (place' (place_kept ls ms l m (one_shape text ls ms l m r s tl tm n line line' at at') place))
same_fault text ls ms f g tl tm n (no_room l r is at line place room) (no_room m s is' at' line' place' room') = is ∙ sym is'
same_fault text ls ms f g tl tm n (no_room l r is at line place room) (no_end is' at' end') = absurd (line_or_end text ls ms l r tl tm n at at')
same_fault text ls ms f g tl tm n (no_end is at end) (no_line s is' at' some' none') = absurd (none_or_end text ms ls s tm tl (sym n) at' some' at)
same_fault text ls ms f g tl tm n (no_end is at end) (no_place m s is' at' line' place') = is ∙ sym is'
same_fault text ls ms f g tl tm n (no_end is at end) (no_room m s is' at' line' place' room') = absurd (line_or_end text ms ls m s tm tl (sym n) at' at)
same_fault text ls ms f g tl tm n (no_end is at end) (no_end is' at' end') = is ∙ sym is'

-- ---- the laws
shorter_has_none : (text : List ℕ) (ls ms : List Line) (f : Fault) (rest : List ℕ) → AreTaken ls → AreTaken ms → text ≡ lines_text ms ++ rest → length ls < length ms → ¬ (Cause text ls f)
shorter_has_none text ls ms f rest tl tm at short = no_fault text ls f tl (goes_on text (length ls) ms rest tm at short)

pub FirstFault-one : (text : List ℕ) (m n : ℕ) (f g : Fault) → FirstFault text m f → FirstFault text n g → (m ≡ n) × (f ≡ g)
FirstFault-one text m n f g a b =
    let first = cause text a.before f a.has in
    let second = cause text b.before g b.has in
    let from_first = begun_by text a.before f first in
    let from_second = begun_by text b.before g second in
    elim (cases_lt (length a.before) (length b.before)) [
      | inl short ↦ absurd (shorter_has_none text a.before b.before f from_second.0 a.taken b.taken from_second.1 short first)
      | inr long ↦ elim (cases_lt (length b.before) (length a.before)) [
        | inl short ↦ absurd (shorter_has_none text b.before a.before g from_first.0 b.taken a.taken from_first.1 short second)
        | inr equal ↦ (omega (arith, a.at, b.at), same_fault text a.before b.before f g a.taken b.taken (omega arith) first second)
      ]
    ]

ended_has_none : (text : List ℕ) (ls ms : List Line) (f : Fault) → AreTaken ls → AreTaken ms → length ls ≡ length ms → text ≡ lines_text ms → MayEnd ms → ¬ (Cause text ls f)
ended_has_none text ls ms f tl tm n to end (no_line rest is at some none) = none_or_end text ls ms rest tl tm n at some to
ended_has_none text ls ms f tl tm n to end (no_place l rest is at line place) = line_or_end text ls ms l rest tl tm n at to
ended_has_none text ls ms f tl tm n to end (no_room l rest is at line place room) = line_or_end text ls ms l rest tl tm n at to
ended_has_none text ls ms f tl tm n to end (no_end is at never) =
    let same = same_lines shape same_shape ms ls [] [] (sym n) (AreTaken-lines ms tm) (AreTaken-lines ls tl) (sym (at_end text ms to) ∙ at_end text ls at) in
    never (MayEnd-same ms ls same.0 end)

longer_is_none : (text : List ℕ) (ls ms : List Line) (rest : List ℕ) → AreTaken ls → AreTaken ms → text ≡ lines_text ls ++ rest → text ≡ lines_text ms → length ms < length ls → ⊥
longer_is_none text ls ms rest tl tm at to long =
    let w = goes_on text (length ms) ls rest tl at long in
    line_or_end text w.0 ms w.1 w.2 w.3.0 tm (sym w.4) w.5 to

pub spelled_has_none : (text : List ℕ) (n : ℕ) (f : Fault) → IsSpelled text → ¬ (FirstFault text n f)
spelled_has_none text n f (p, spells, limits) a =
    let to : text ≡ lines_text (draft_lines p) = sym (program_text_is p ∙ spells.same) in
    let why = cause text a.before f a.has in
    let from = begun_by text a.before f why in
    elim (cases_lt (length a.before) (length (draft_lines p))) [
      | inl short ↦ shorter_has_none text a.before (draft_lines p) f [] a.taken limits.taken (at_end text (draft_lines p) to) short why
      | inr long ↦ elim (cases_lt (length (draft_lines p)) (length a.before)) [
        | inl short ↦ longer_is_none text a.before (draft_lines p) from.0 a.taken limits.taken from.1 to short
        | inr equal ↦ ended_has_none text a.before (draft_lines p) f a.taken limits.taken (omega arith) to limits.ended why
      ]
    ]

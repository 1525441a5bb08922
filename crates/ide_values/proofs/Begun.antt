-- Lines whose stems change, one after the other: those up to one have the other stem.
use Rattle.std.proofs.Common.{◌≡◌, ℕ, zero, suc, ◌+◌, ◌-◌, ◌<◌, ◌≤◌, ◌++◌, List, ap, ap₂, sym, refl, ◌∙◌, append_assoc, append-nil, arith, length, set, take, drop, length-append, take_at, drop_at, get_or, take-append-drop, ◌∷◌}
use Rattle.std.specs.Prelude.{codes}
use Rattle.std.specs.List.{flat_map, range_with_len}
use Rattle.std.proofs.lemmas.List.{drop_more, set-append_left, set-append_right, set_split}
use Rattle.ide_values.specs.Lines.{AreLines, lines_with, told_line}
use Rattle.ide_values.specs.declared.line_text.Told.{Told}
use Rattle.ide_values.proofs.Lines.{flat_more}

-- another part of a list, of the same length, and another element of a part
pub put_there : (front old new rest text : List ℕ) (place long : ℕ) → text ≡ front ++ (old ++ rest) → place ≡ length front → long ≡ length old
    → take place text ++ (new ++ drop long (drop place text)) ≡ front ++ (new ++ rest)
put_there front old new rest text place long is at many =
    let before : take place text ≡ front = ap (take place) is ∙ take_at front (old ++ rest) place (sym at) in
    let from : drop place text ≡ old ++ rest = ap (drop place) is ∙ drop_at front (old ++ rest) place (sym at) in
    let behind : drop long (drop place text) ≡ rest = ap (drop long) from ∙ drop_at old rest long (sym many) in
    ap₂ (λ a b. a ++ (new ++ b)) before behind

pub set_there : (front old rest text : List ℕ) (place at byte : ℕ) → text ≡ front ++ (old ++ rest) → place ≡ length front → at < length old
    → set text (place + at) byte ≡ front ++ (set old at byte ++ rest)
set_there front old rest text place at byte is there within =
    let on : place + at - place ≡ at = omega arith in
    ap (λ t. set t (place + at) byte) is
    ∙ set-append_right front (old ++ rest) place (place + at) byte (sym there) (omega arith)
    ∙ ap (λ k. front ++ set (old ++ rest) k byte) on
    ∙ ap (λ l. front ++ l) (set-append_left old rest at byte within)

-- what a line has behind its stem
pub tail_is : (stem columns shown : List ℕ) → told_line stem columns shown ≡ stem ++ (columns ++ shown ++ codes "\n")
tail_is stem columns shown = ap (λ l. l ++ codes "\n") (append_assoc stem columns shown) ∙ append_assoc stem (columns ++ shown) (codes "\n")

-- the first of some lines
pub opened : (f : ℕ → List ℕ) (first left : ℕ) → 0 < left → flat_map f (range_with_len first left) ≡ f first ++ flat_map f (range_with_len (first + 1) (left - 1))
opened f first zero some = absurd (omega (arith, some))
opened f first (suc more) some =
    let on : more ≡ suc more - 1 = omega arith in
    ap (λ n. f first ++ flat_map f (range_with_len (first + 1) n)) on

module _ {L : Type 0} (told : List (Told L)) (stem next : List ℕ) (tail : ℕ → List ℕ) where
  -- the lines before an index have the next stem, and those from there on the one before
  pub record IsHalfway (text : List ℕ) (index place : ℕ) : Type 0 where
    pub left : ℕ
    pub all : index + left ≡ length told
    pub place_is : place ≡ length (lines_with next tail 0 index)
    pub text_is : text ≡ lines_with next tail 0 index ++ lines_with stem tail index left

  -- what stands behind the line at an index
  abbrev pub behind : {text : List ℕ} {index place : ℕ} → IsHalfway text index place → List ℕ
  behind {index = index} half = tail index ++ lines_with stem tail (index + 1) (half.left - 1)

  pub halfway_none : (text : List ℕ) → AreLines told stem tail text → IsHalfway text 0 0
  halfway_none text lines = record {
    left = length told;
    all = omega arith;
    place_is = refl;
    text_is = lines.is;
  }

  pub halfway_text : (text : List ℕ) (index place : ℕ) (half : IsHalfway text index place) → index < length told
      → text ≡ lines_with next tail 0 index ++ (stem ++ behind half)
  halfway_text text index place half within =
      let some : 0 < half.left = omega (arith, half.all, within) in
      half.text_is
      ∙ ap (λ l. lines_with next tail 0 index ++ l)
      (opened (λ k. stem ++ tail k) index half.left some ∙ append_assoc stem (tail index) (lines_with stem tail (index + 1) (half.left - 1)))

  pub halfway_room : (text : List ℕ) (index place long : ℕ) (half : IsHalfway text index place) → index < length told → long ≡ length (stem ++ tail index)
      → (place + long ≤ length text) × (length stem ≤ long)
  halfway_room text index place long half within is =
      let whole : length text ≡ length (lines_with next tail 0 index) + length (stem ++ behind half) =
      ap length (halfway_text text index place half within) ∙ length-append (lines_with next tail 0 index) (stem ++ behind half) in
      let line : length (stem ++ tail index) ≡ length stem + length (tail index) = length-append stem (tail index) in
      let rest : length (stem ++ behind half) ≡ length stem + length (behind half) = length-append stem (behind half) in
      let parts : length (behind half) ≡ length (tail index) + length (lines_with stem tail (index + 1) (half.left - 1)) =
      length-append (tail index) (lines_with stem tail (index + 1) (half.left - 1)) in
      (omega (arith, whole, line, rest, parts, is, half.place_is), omega (arith, line, is))

  pub halfway_more : (text new : List ℕ) (index place long : ℕ) (half : IsHalfway text index place) → index < length told → length next ≡ length stem
      → long ≡ length (stem ++ tail index) → new ≡ lines_with next tail 0 index ++ (next ++ behind half) → IsHalfway new (index + 1) (place + long)
  halfway_more text new index place long half within same is changed =
      let one : lines_with next tail 0 (index + 1) ≡ lines_with next tail 0 index ++ (next ++ tail index) = flat_more (λ k. next ++ tail k) index in
      let rest = lines_with stem tail (index + 1) (half.left - 1) in
      record {
        left = half.left - 1;
        all = omega (arith, half.all, within);
        place_is =
            omega (
              arith,
              half.place_is,
              is,
              same,
              length-append stem (tail index),
              length-append next (tail index),
              ap length one,
              length-append (lines_with next tail 0 index) (next ++ tail index),
            );
        text_is =
            changed
            ∙ ap (λ l. lines_with next tail 0 index ++ l) (sym (append_assoc next (tail index) rest))
            ∙ sym (append_assoc (lines_with next tail 0 index) (next ++ tail index) rest)
            ∙ ap (λ l. l ++ rest) (sym one);
      }

  pub halfway_done : (old text : List ℕ) (index place : ℕ) → AreLines told stem tail old → length next ≡ length stem → IsHalfway text index place
      → length told ≤ index → AreLines told next tail text
  halfway_done old text index place lines same half past =
      let none : half.left ≡ 0 = omega (arith, half.all, past) in
      let all : index ≡ length told = omega (arith, half.all, past) in
      record {
        long = λ k d within. lines.long k d within ∙ omega (arith, same, length-append stem (tail k), length-append next (tail k));
        is =
            half.text_is
            ∙ ap (λ n. lines_with next tail 0 index ++ lines_with stem tail index n) none
            ∙ append-nil (lines_with next tail 0 index)
            ∙ ap (λ n. lines_with next tail 0 n) all;
      }

-- lists that differ in one element
pub one_byte : (old new : List ℕ) (at : ℕ) → at < length old → length new ≡ length old → take at old ≡ take at new → drop (at + 1) old ≡ drop (at + 1) new
    → new ≡ set old at (get_or new at 0)
one_byte old new at within same before behind =
    let one : at + 1 ≡ suc at = omega arith in
    sym (take-append-drop at new)
    ∙ ap₂ (λ a b. a ++ b) (sym before) (drop_more new at 0 (omega (arith, within, same)) ∙ ap (λ l. get_or new at 0 ∷ l) (sym behind ∙ ap (λ n. drop n old) one))
    ∙ sym (set_split old at (get_or new at 0) within)

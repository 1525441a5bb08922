-- The lines of a node, by what they tell.
use Rattle.std.specs.Global.{Vec}
use Rattle.std.specs.Prelude.{◌≡◌, ℕ, ◌+◌, ◌<◌, ◌≤◌, ◌++◌, List, [], codes, drop, length, map, slice_index_or}
use Rattle.std.specs.List.{flat_map, range_with_len, sum_by}
use Rattle.ide_lattice.specs.Algebra.{LatticeAlgebra}
use Rattle.ide_values.specs.Dump.{node_column}
use Rattle.ide_values.specs.Start.{at_place}
use Rattle.ide_values.specs.declared.line_text.Lines.{Lines}
use Rattle.ide_values.specs.declared.line_text.Told.{Told}

-- a line by its columns
abbrev pub told_line : (stem columns shown : List ℕ) → List ℕ
told_line stem columns shown = stem ++ columns ++ shown ++ codes "\n"

-- so many lines from one on, which begin with a stem
abbrev pub lines_with : (stem : List ℕ) (tail : ℕ → List ℕ) (first count : ℕ) → List ℕ
lines_with stem tail first count = flat_map (λ k. stem ++ tail k) (range_with_len first count)

-- what a line has behind its stem: the columns of its fact, a value as it is shown, and an end
abbrev pub line_tail : {L : Type 0} → (L → List ℕ) → List (List ℕ) → (ℕ → L) → ℕ → List ℕ
line_tail shown facts value k = slice_index_or facts k [] ++ shown (value k) ++ codes "\n"

-- the columns of facts, as they are kept
abbrev pub columns_in : List (Vec ℕ) → List (List ℕ)
columns_in facts = map (λ (columns : Vec ℕ). columns.items) facts

-- how long the lines from one on are, all together
abbrev pub lengths_from : {L : Type 0} → List (Told L) → ℕ → ℕ
lengths_from {L} told from = sum_by (λ (t : Told L). t.length) (drop from told)

-- the text is that of as many lines as are told, each as long as is told
pub record AreLines {L : Type 0} (told : List (Told L)) (stem : List ℕ) (tail : ℕ → List ℕ) (text : List ℕ) : Type 0 where
  pub long : (k : ℕ) (d : Told L) → k < length told → (slice_index_or told k d).length ≡ length (stem ++ tail k)
  pub is : text ≡ lines_with stem tail 0 (length told)

-- so it is, whatever the lines have behind their stem
pub record AreSomeLines {L : Type 0} (told : List (Told L)) (stem text : List ℕ) : Type 0 where
  pub tail : ℕ → List ℕ
  pub lines : AreLines told stem tail text

-- each line has another stem then, and what it had behind it
abbrev pub ChangesStems : {L : Type 0} → List (Told L) → (stem next old new : List ℕ) → Type 0
ChangesStems told stem next old new = (tail : ℕ → List ℕ) → AreLines told stem tail old → AreLines told next tail new

-- the lines tell these values of the facts
pub record TellValues {L : Type 0} (shown : L → List ℕ) (facts : List (List ℕ)) (value : ℕ → L) (told : List (Told L)) (stem text : List ℕ) : Type 0 where
  pub count : length told ≡ length facts
  pub values : (k : ℕ) (d : Told L) → k < length told → (slice_index_or told k d).value ≡ value k
  pub lines : AreLines told stem (line_tail shown facts value) text

-- they tell values of the facts
pub record TellSome {L : Type 0} (shown : L → List ℕ) (facts : List (List ℕ)) (told : List (Told L)) (stem text : List ℕ) : Type 0 where
  pub value : ℕ → L
  pub tell : TellValues shown facts value told stem text

-- the lines from one on up to another tell these values already
abbrev pub StayTill : {L : Type 0} → List (Told L) → List L → (from end : ℕ) → Type 0
StayTill {L} told values from end = (k : ℕ) (d : Told L) (e : L) → from ≤ k → k < end → (slice_index_or told k d).value ≡ slice_index_or values k e

-- lines that are kept tell values of their facts
abbrev pub AreLinesTold : {L : Type 0} → (L → List ℕ) → Lines L → Type 0
AreLinesTold shown lines = TellSome shown (columns_in lines.facts.items) lines.told.items lines.stem.items lines.text.items

-- they are those of a node, and tell the values from a place of rows on
pub record AreLinesToldOf {L : Type 0} (A : LatticeAlgebra L) (shown : L → List ℕ) (node : ℕ) (rows : List L) (first : ℕ) (lines : Lines L) : Type 0 where
  pub stem : lines.stem.items ≡ node_column node
  pub tell : TellValues shown (columns_in lines.facts.items) (λ k. at_place A rows (first + k)) lines.told.items lines.stem.items lines.text.items

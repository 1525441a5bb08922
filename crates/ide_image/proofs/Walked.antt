-- A walk: a function is put at the jumps between two facts at nodes behind each other, which have cells and were absent.
use Rattle.std.proofs.Common.{◌≡◌, ℕ, zero, suc, ◌+◌, ◌<◌, ◌≤◌, ◌++◌, refl, sym, ap, subst, ◌∙◌, arith, List, [], ◌∷◌, length, Option, None, Some, Bool, true, false, cond, ⊎_elim}
use Rattle.std.specs.Prelude.{◌||◌, ◌&&◌, nat_eq, not, slice_set}
use Rattle.std.specs.List.{cons_option, list_any}
use Rattle.std.specs.List.Sorted.{IsPermutation}
use Rattle.std.specs.Map.{lookup}
use Rattle.std.specs.Option.{is_some, option_flatten, option_map}
use Rattle.std.proofs.lemmas.Bool.{cases_Bool}
use Rattle.std.proofs.lemmas.Bool.Decides.{nat_tests}
use Rattle.std.proofs.lemmas.List.{append-nil, append_assoc}
use Rattle.std.proofs.lemmas.List.Sorted.{IsPermutation-append_comm, IsPermutation-append_left, IsPermutation-cons, IsPermutation-refl, IsPermutation-trans}
use Rattle.ide_wire.specs.declared.key.Key.{Key}
use Rattle.ide_wire.specs.declared.key.Key.TheVariants.{Jump}
use Rattle.ide_wire.specs.Key.{same_key, same_key_exact, same_key_refl}
use Rattle.ide_image.specs.Tables.{place_in, with_entry}
use Rattle.ide_image.specs.declared.claim.Claim.{Claim}
use Rattle.ide_image.specs.declared.mark.Mark.TheVariants.{Settled}
use Rattle.ide_image.specs.ChangeLog.{ChangeLog}
use Rattle.ide_image.specs.Indexed.{Indexed, entries_in, function_of, place_of_key, table_of}
use Rattle.ide_image.specs.KeyedImage.{AreParts, SameParts, entry_by, held_by_slot, keys_where, marked_at, pending_by_slot}
use Rattle.ide_image.specs.Queue.{MovesOn, SameMarks, SetsMark, SlotMarks, held_at, pending_at}
use Rattle.ide_image.specs.Walk.{AreAbsent, EntersWalked, StandBehind, jump_behind, walked_entries, with_walked}
use Rattle.ide_image.proofs.Agree.{at-index, cell-same, is-pending, whole-pushed, whole-put, whole-settled}
use Rattle.ide_image.proofs.Before.{function-before}
use Rattle.ide_image.proofs.Marked.{at-set, same-set}
use Rattle.ide_image.proofs.Places.{long-stays, place-stays}
use Rattle.ide_image.proofs.Shown.{found-shown, function-with}
use Rattle.ide_image.proofs.Stack.{held-settled, pending-settled, pending-there}

module _ {F : Type 0} (key : Key) (f : F) where
  -- an entry that comes into a cell stands somewhere among the others
  put-step : (c : Key × Option F) (cells : List (Key × Option F)) (here : Bool) → same_key key c.0 ≡ here
      → option_flatten (cond here (Some c.1) (lookup (same_key key) cells)) ≡ None
      → (function_of cells key ≡ None → IsPermutation (entries_in cells ++ (key, f) ∷ []) (entries_in (with_entry cells key (Some f))))
      → IsPermutation (entries_in (c ∷ cells) ++ (key, f) ∷ []) (entries_in (cond here ((c.0, Some f) ∷ cells) (c ∷ with_entry cells key (Some f))))
  put-step c cells true same none rest =
      let shown : entries_in (c ∷ cells) ≡ entries_in cells = ap (λ o. cons_option (option_map (λ g. (c.0, g)) o) (entries_in cells)) none in
      let own : (c.0, f) ∷ entries_in cells ≡ (key, f) ∷ entries_in cells = ap (λ k. (k, f) ∷ entries_in cells) (sym (same_key_exact key c.0 same)) in
      subst (λ es. IsPermutation (es ++ (key, f) ∷ []) ((c.0, f) ∷ entries_in cells)) (sym shown)
      (subst (IsPermutation (entries_in cells ++ (key, f) ∷ [])) (sym own) (IsPermutation-append_comm (entries_in cells) ((key, f) ∷ [])))
  put-step c cells false other none rest =
      elim c.1 as (λ o. IsPermutation (cons_option (option_map (λ g. (c.0, g)) o) (entries_in cells) ++ (key, f) ∷ []) (cons_option (option_map (λ g. (c.0, g)) o) (entries_in (with_entry cells key (Some f))))) [
        | None ↦ rest none
        | Some g ↦ IsPermutation-cons (c.0, g) (entries_in cells ++ (key, f) ∷ []) (entries_in (with_entry cells key (Some f))) (rest none)
      ]

  pub put-shown : (cells : List (Key × Option F)) → function_of cells key ≡ None → IsPermutation (entries_in cells ++ (key, f) ∷ []) (entries_in (with_entry cells key (Some f)))
  put-shown [] none = IsPermutation-refl ((key, f) ∷ [])
  put-shown (c ∷ cells) none = put-step c cells (same_key key c.0) refl none (put-shown cells)

module _ {F : Type 0} (node from to : ℕ) (f : F) (cells : List (Key × Option F)) where
  -- the cells after so many jumps
  abbrev walked : ℕ → List (Key × Option F)
  walked n = with_walked cells (jump_behind node from to) f n

  -- a later one is not among them
  not-walked : (n m : ℕ) → n < m → function_of (walked n) (jump_behind node from to m) ≡ function_of cells (jump_behind node from to m)
  not-walked zero m less = refl
  not-walked (suc n) m less =
      function-with (walked n) (jump_behind node from to (suc n)) (jump_behind node from to m) f
      ∙ ap (λ b. cond b (Some f) (function_of (walked n) (jump_behind node from to m))) (earlier-apart (suc n) m less)
      ∙ not-walked n m (omega (arith, less))
    where
      earlier-apart : (n m : ℕ) → n < m → same_key (jump_behind node from to n) (jump_behind node from to m) ≡ false
      earlier-apart n m less = grind (arith, nat_tests)

  -- nor is the one at the node
  pub first-walked : (n : ℕ) → function_of (walked n) (Jump node from to) ≡ function_of cells (Jump node from to)
  first-walked zero = refl
  first-walked (suc n) =
      function-with (walked n) (jump_behind node from to (suc n)) (Jump node from to) f
      ∙ ap (λ b. cond b (Some f) (function_of (walked n) (Jump node from to))) (first-apart (suc n) (omega arith))
      ∙ first-walked n
    where
      first-apart : (n : ℕ) → 0 < n → same_key (jump_behind node from to n) (Jump node from to) ≡ false
      first-apart n some = grind (arith, nat_tests)

  module _ (count : ℕ) (absent : (n : ℕ) → n < count → function_of cells (jump_behind node from to (suc n)) ≡ None) where
    -- the entries are those of before and the walked ones
    pub entries-walked : (n : ℕ) → n ≤ count → IsPermutation (entries_in cells ++ walked_entries (jump_behind node from to) f n) (entries_in (walked n))
    entries-walked zero most = subst (λ es. IsPermutation es (entries_in cells)) (sym (append-nil (entries_in cells))) (IsPermutation-refl (entries_in cells))
    entries-walked (suc n) most =
        let key = jump_behind node from to (suc n) in
        let run = walked_entries (jump_behind node from to) f n in
        let before = entries-walked n (omega (arith, most)) in
        let none = not-walked n (suc n) (omega arith) ∙ absent n (omega (arith, most)) in
        subst (λ es. IsPermutation es (entries_in (walked (suc n)))) (append_assoc (entries_in cells) run ((key, f) ∷ []))
        (IsPermutation-trans ((entries_in cells ++ run) ++ (key, f) ∷ []) (entries_in (walked n) ++ (key, f) ∷ []) (entries_in (walked (suc n)))
        (IsPermutation-append_left ((key, f) ∷ []) (entries_in cells ++ run) (entries_in (walked n)) before)
        (put-shown key f (walked n) none))

    -- the last one has the function
    pub last-walked : (n : ℕ) → 0 < n → function_of (walked n) (jump_behind node from to n) ≡ Some f
    last-walked zero some = absurd (omega (arith, some))
    last-walked (suc n) some =
        function-with (walked n) (jump_behind node from to (suc n)) (jump_behind node from to (suc n)) f
        ∙ ap (λ b. cond b (Some f) (function_of (walked n) (jump_behind node from to (suc n)))) (same_key_refl (jump_behind node from to (suc n)))

  module _ (cell count : ℕ) (stands : (n : ℕ) → n ≤ count → (cell + n) + 1 ≡ place_in (jump_behind node from to n) cells) where
    -- each key stands where it stood
    pub place-walked : (n : ℕ) → n ≤ count → (q : Key) → place_in q (walked n) ≡ place_in q cells
    place-walked zero most q = refl
    place-walked (suc n) most q =
        let less : n ≤ count = omega (arith, most) in
        let key = jump_behind node from to (suc n) in
        place-stays key (walked n) q (Some f) (cell + suc n) (stands (suc n) most ∙ sym (place-walked n less key)) ∙ place-walked n less q

    long-walked : (n : ℕ) → n ≤ count → length (walked n) ≡ length cells
    long-walked zero most = refl
    long-walked (suc n) most =
        let less : n ≤ count = omega (arith, most) in
        let key = jump_behind node from to (suc n) in
        long-stays key (walked n) (Some f) (cell + suc n) (stands (suc n) most ∙ sym (place-walked n less key)) ∙ long-walked n less

-- the parts agree once the function is put
pub whole-walked : {F T : Type 0} (node from to : ℕ) (f : F) (indexed after : Indexed F) (marks : SlotMarks) (claims : List (Option (Claim T)))
    (changes : ChangeLog F) (n : ℕ) → after.cells ≡ with_walked indexed.cells (jump_behind node from to) f n
    → AreParts indexed marks claims changes → 0 < n → AreParts after marks claims changes
whole-walked node from to f indexed after marks claims changes zero is w some = absurd (omega (arith, some))
whole-walked node from to f indexed after marks claims changes (suc zero) is w some = whole-put indexed after marks claims changes (jump_behind node from to 1) f is w
whole-walked {F} node from to f indexed after marks claims changes (suc (suc n)) is w some =
    let mid : Indexed F = record after { cells = with_walked indexed.cells (jump_behind node from to) f (suc n) } in
    whole-put mid after marks claims changes (jump_behind node from to (suc (suc n))) f is
    (whole-walked node from to f indexed mid marks claims changes (suc n) refl w (omega arith))

-- what a walk puts: the function at so many jumps behind the one at the node, which has the cell, where there was none
pub record Walks {F : Type 0} (node from to : ℕ) (f : F) (count cell : ℕ) (indexed after : Indexed F) : Type 0 where
  pub some : 0 < count
  pub absent : (n : ℕ) → n < count → function_of indexed.cells (jump_behind node from to (suc n)) ≡ None
  pub stands : StandBehind cell (jump_behind node from to) count indexed
  pub starts : cell + 1 ≡ place_of_key indexed (Jump node from to)
  pub cells : after.cells ≡ with_walked indexed.cells (jump_behind node from to) f count

-- a walk puts that where parts grew that it was asked of
pub walks : {F T : Type 0} {indexed grown : Indexed F} {marks more : SlotMarks} {claims : List (Option (Claim T))} {changes ready : ChangeLog F}
    (w : AreParts indexed marks claims changes) (same : SameParts indexed grown marks more changes ready)
    (node from to : ℕ) (f : F) (count cell : ℕ) (after : Indexed F) → 0 < count → AreAbsent (table_of indexed.cells) (jump_behind node from to) count
    → cell + 1 ≡ place_of_key indexed (Jump node from to) → StandBehind cell (jump_behind node from to) count grown
    → after.cells ≡ with_walked grown.cells (jump_behind node from to) f count → Walks node from to f count cell grown after
walks {F} {T} {indexed} {grown} {marks} {more} {claims} {changes} {ready} w same node from to f count cell after some absent starts stands cells = record {
  some = some;
  absent = λ n less. function-before indexed grown marks more claims changes ready w same (jump_behind node from to (suc n)) ∙ absent n less;
  stands = stands;
  starts = cell-same indexed grown (Jump node from to) cell same.cells starts;
  cells = cells;
}

goes-cond : (first last was : Bool) → cond last true (cond first false was) ≡ (last || (not first && was))
goes-cond first true was = refl
goes-cond true false was = refl
goes-cond false false was = refl

-- an absent key is not pending, by its slot
absent-quiet : {F T : Type 0} (indexed : Indexed F) (marks : SlotMarks) (claims : List (Option (Claim T))) (changes : ChangeLog F) → AreParts indexed marks claims changes
    → (q : Key) → function_of indexed.cells q ≡ None → pending_by_slot indexed marks q ≡ false
absent-quiet {F} indexed marks claims changes w q absent =
    ⊎_elim
    (λ is. absurd (no-function (function_of indexed.cells q) absent (w.present q is)))
    (λ no. no)
    (cases_Bool (pending_by_slot indexed marks q))
  where
    no-function : (o : Option F) → o ≡ None → is_some o ≡ true → ⊥
    no-function None none has = absurd (cc (has))
    no-function (Some g) none has = absurd (cc (none))

module _ {F : Type 0} {node from to : ℕ} {f : F} {count cell : ℕ} {indexed after : Indexed F} (walk : Walks node from to f count cell indexed after) where
  -- each key stands where it stood
  stays-walked : (q : Key) → place_of_key after q ≡ place_of_key indexed q
  stays-walked q = ap (place_in q) walk.cells ∙ place-walked node from to f indexed.cells cell count walk.stands count (omega arith) q

  pub starts-after : cell + 1 ≡ place_of_key after (Jump node from to)
  starts-after = walk.starts ∙ sym (stays-walked (Jump node from to))

  pub stands-after : StandBehind cell (jump_behind node from to) count after
  stands-after n most = walk.stands n most ∙ sym (stays-walked (jump_behind node from to n))

  there-after : is_some (function_of after.cells (jump_behind node from to count)) ≡ true
  there-after =
      ap (λ cells. is_some (function_of cells (jump_behind node from to count))) walk.cells
      ∙ ap is_some (last-walked node from to f indexed.cells count walk.absent count walk.some)

  -- there are as many cells
  pub cells-walked : length after.cells ≡ length indexed.cells
  cells-walked = ap length walk.cells ∙ long-walked node from to f indexed.cells cell count walk.stands count (omega arith)

  -- the jump at the node has the entry that it had
  pub entry-walked : (marks : SlotMarks) → entry_by after marks (Jump node from to) ≡ entry_by indexed marks (Jump node from to)
  entry-walked marks =
      let function = ap (λ cells. function_of cells (Jump node from to)) walk.cells ∙ first-walked node from to f indexed.cells count in
      let pending = ap (marked_at (pending_at marks.list)) (stays-walked (Jump node from to)) in
      cc (function, pending)

  -- the entries are those of before and the walked ones
  pub enters-walk : EntersWalked (jump_behind node from to) f count (table_of indexed.cells) (table_of after.cells)
  enters-walk =
      subst (λ cells. IsPermutation (entries_in indexed.cells ++ walked_entries (jump_behind node from to) f count) (entries_in cells)) (sym walk.cells)
      (entries-walked node from to f indexed.cells count walk.absent count (omega arith))

  module _ {T : Type 0} {marks : SlotMarks} {claims : List (Option (Claim T))} {changes : ChangeLog F} (w : AreParts indexed marks claims changes) where
    -- the parts agree once the function is put
    pub whole-entered : AreParts after marks claims changes
    whole-entered = whole-walked node from to f indexed after marks claims changes count walk.cells w walk.some

    last-quiet : (n : ℕ) → n ≡ count → 0 < n → pending_at marks.list (cell + n) ≡ false
    last-quiet zero is some = absurd (omega (arith, some))
    last-quiet (suc n) is some =
        sym (at-index (pending_at marks.list) (place_of_key indexed (jump_behind node from to (suc n))) (cell + suc n) (walk.stands (suc n) (omega (arith, is))))
        ∙ absent-quiet indexed marks claims changes w (jump_behind node from to (suc n)) (walk.absent n (omega (arith, is)))

    -- the last key was not pending
    pub quiet-last : pending_at marks.list (cell + count) ≡ false
    quiet-last = last-quiet count refl walk.some

    module _ (moved : SlotMarks) (pends : pending_by_slot indexed marks (Jump node from to) ≡ true) (free : held_by_slot indexed marks (Jump node from to) ≡ false)
        (moves : MovesOn cell (cell + count) marks.list moved.list) (keeps : SameMarks (held_at marks.list) (held_at moved.list)) where
      -- between the two steps neither the first slot nor the last is pending
      abbrev between : SlotMarks
      between = record { list = slice_set marks.list cell Settled; spare = 0 }

      within : cell < length marks.list
      within = pending-there marks.list cell (sym (at-index (pending_at marks.list) (place_of_key indexed (Jump node from to)) cell walk.starts) ∙ pends)

      settles : SetsMark cell false (pending_at marks.list) (pending_at between.list)
      settles = pending-settled marks.list cell within

      moves-then : SetsMark (cell + count) true (pending_at between.list) (pending_at moved.list)
      moves-then n = moves n ∙ ap (cond (nat_eq (cell + count) n) true) (sym (settles n))

      same-held : SameMarks (held_at marks.list) (held_at between.list)
      same-held =
          same-set cell false (held_at marks.list) (held_at between.list)
          (sym (at-index (held_at marks.list) (place_of_key indexed (Jump node from to)) cell walk.starts) ∙ free) (held-settled marks.list cell within)

      whole-between : AreParts after between claims changes
      whole-between =
          whole-settled after marks between claims changes (Jump node from to) cell false starts-after
          (ap (marked_at (held_at marks.list)) (stays-walked (Jump node from to)) ∙ free) (λ no. absurd (cc (no))) settles same-held whole-entered

      -- the parts agree after it
      pub whole-walk : AreParts after moved claims changes
      whole-walk =
          whole-pushed after between moved claims changes (jump_behind node from to count) (cell + count) (stands-after count (omega arith)) there-after
          moves-then (λ n. keeps n ∙ sym (same-held n)) whole-between

      -- the last key is pending in the place of the first
      pub pending-walk : (q : Key) → list_any (same_key q) (keys_where (pending_at moved.list) after.cells)
          ≡ (same_key (jump_behind node from to count) q || (not (same_key (Jump node from to) q) && pending_by_slot indexed marks q))
      pending-walk q =
          let here = Jump node from to in
          let there = jump_behind node from to count in
          is-pending after moved claims changes whole-walk q
          ∙ at-set there after.cells (cell + count) true (pending_at between.list) (pending_at moved.list) (stands-after count (omega arith)) moves-then q
          ∙ ap (cond (same_key there q) true) (at-set here after.cells cell false (pending_at marks.list) (pending_at between.list) starts-after settles q)
          ∙ ap (λ b. cond (same_key there q) true (cond (same_key here q) false b)) (ap (marked_at (pending_at marks.list)) (stays-walked q))
          ∙ goes-cond (same_key here q) (same_key there q) (pending_by_slot indexed marks q)

-- an absent key is not pending
pub absent-settled : {F T : Type 0} (indexed : Indexed F) (marks : SlotMarks) (claims : List (Option (Claim T))) (changes : ChangeLog F) (at : ℕ → Key) (count : ℕ)
    → AreParts indexed marks claims changes → AreAbsent (table_of indexed.cells) at count
    → (n : ℕ) → n < count → list_any (same_key (at (suc n))) (keys_where (pending_at marks.list) indexed.cells) ≡ false
absent-settled indexed marks claims changes at count w absent n less =
    is-pending indexed marks claims changes w (at (suc n))
    ∙ absent-quiet indexed marks claims changes w (at (suc n)) (sym (found-shown indexed.cells (at (suc n)) w.distinct) ∙ absent n less)

-- What the cells of tables show, one cell after the other and all together.
use Rattle.std.proofs.Common.{◌≡◌, ℕ, zero, suc, ◌+◌, ◌*◌, ◌/◌, ◌%◌, ◌<◌, ◌++◌, List, [], ◌∷◌, Option, Some, None, get_or, length, take, ap, sym, refl, ◌∙◌, arith}
use Rattle.std.specs.Option.{option_map, option_to_list}
use Rattle.std.specs.Prelude.{slice_get}
use Rattle.std.proofs.lemmas.Option.{same_Some}
use Rattle.std.proofs.lemmas.Map.Entries.{lookup_from_place, place_from_lookup}
use Rattle.ide_image.specs.Cells.{BeginsWith, ShowTable, TablesData, function_shown_in, shown_entries, shown_in}
use Rattle.ide_image.specs.Tables.{found}
use Rattle.ide_wire.specs.declared.key.Key.{Key}
use Rattle.ide_wire.specs.declared.key.Key.TheVariants.{Jump}
use Rattle.ide_wire.specs.Key.{same_key, same_key_exact, same_key_laws}

module _ {F : Type 0} where
  -- what one cell more shows
  next : (cells : List (Option (Key × F))) (i : ℕ) → shown_entries (take (suc i) cells) ≡ shown_entries (take i cells) ++ option_to_list (get_or cells i None)
  next [] zero = refl
  next [] (suc i) = refl
  next (None ∷ cells) zero = refl
  next (Some e ∷ cells) zero = refl
  next (None ∷ cells) (suc i) = next cells i
  next (Some e ∷ cells) (suc i) = ap (λ es. e ∷ es) (next cells i)

  pub shown_more : (cells : List (Option (Key × F))) (i : ℕ) (o : Option (Key × F)) → o ≡ get_or cells i None
      → shown_entries (take (i + 1) cells) ≡ shown_entries (take i cells) ++ option_to_list o
  shown_more cells i o is =
      let one : i + 1 ≡ suc i = omega arith in
      ap (λ n. shown_entries (take n cells)) one ∙ next cells i ∙ ap (λ x. shown_entries (take i cells) ++ option_to_list x) (sym is)

  -- an entry that a cell shows is among those that all show, and each of these is shown by a cell
  pub entry_of_cell : (cells : List (Option (Key × F))) (i : ℕ) (e : Key × F) → get_or cells i None ≡ Some e → (j : ℕ) × (slice_get (shown_entries cells) j ≡ Some e)
  entry_of_cell [] zero e is = absurd (cc (is))
  entry_of_cell [] (suc i) e is = absurd (cc (is))
  entry_of_cell (None ∷ cells) zero e is = absurd (cc (is))
  entry_of_cell (Some x ∷ cells) zero e is = (0, is)
  entry_of_cell (None ∷ cells) (suc i) e is = entry_of_cell cells i e is
  entry_of_cell (Some x ∷ cells) (suc i) e is = let rest = entry_of_cell cells i e is in (suc rest.0, rest.1)

  pub cell_of_entry : (cells : List (Option (Key × F))) (j : ℕ) (e : Key × F) → slice_get (shown_entries cells) j ≡ Some e
      → (i : ℕ) × (i < length cells) × (get_or cells i None ≡ Some e)
  cell_of_entry [] j e is = absurd (cc (is))
  cell_of_entry (None ∷ cells) j e is = let rest = cell_of_entry cells j e is in (suc rest.0, omega (arith, rest.1), rest.2)
  cell_of_entry (Some x ∷ cells) zero e is = (0, omega arith, is)
  cell_of_entry (Some x ∷ cells) (suc j) e is = let rest = cell_of_entry cells j e is in (suc rest.0, omega (arith, rest.1), rest.2)

  -- what is shown where only its function is known, and which key it would have
  shown_by : (o : Option (Key × F)) (key : Key) (f : F) → ((e : Key × F) → o ≡ Some e → e.0 ≡ key) → option_map (λ (e : Key × F). e.1) o ≡ Some f → o ≡ Some (key, f)
  shown_by None key f named is = absurd (cc (is))
  shown_by (Some (k, g)) key f named is = ap (λ (q : Key). Some (q, g)) (named (k, g) refl) ∙ ap (λ (h : F). Some (key, h)) (same_Some g f is)

  shown_none : (o : Option (Key × F)) → option_map (λ (e : Key × F). e.1) o ≡ None → o ≡ None
  shown_none None is = refl
  shown_none (Some e) is = absurd (cc (is))

  pub nothing_shown : (tables : TablesData F) (cell : ℕ) → function_shown_in tables cell ≡ None → shown_in tables cell ≡ None
  nothing_shown tables cell is = shown_none (shown_in tables cell) is

  some_shown : (o : Option (Key × F)) (f : F) → option_map (λ (e : Key × F). e.1) o ≡ Some f → (e : Key × F) × (o ≡ Some e)
  some_shown None f is = absurd (cc (is))
  some_shown (Some e) f is = (e, refl)

  pub something_shown : (tables : TablesData F) (cell : ℕ) (f : F) → function_shown_in tables cell ≡ Some f → (e : Key × F) × (shown_in tables cell ≡ Some e)
  something_shown tables cell f is = some_shown (shown_in tables cell) f is

  -- the entry in a cell of a page, by its function
  pub shown_behind : (tables : TablesData F) (page offset node from to : ℕ) (f : F) → BeginsWith tables page (Jump node from to) → offset < 64
      → function_shown_in tables (64 * page + offset) ≡ Some f → shown_in tables (64 * page + offset) ≡ Some (Jump (node + offset) from to, f)
  shown_behind tables page offset node from to f begins less is =
      let cell = 64 * page + offset in
      let on : cell / 64 ≡ page = omega (arith, less) in
      let here : node + cell % 64 ≡ node + offset = omega (arith, less) in
      shown_by (shown_in tables cell) (Jump (node + offset) from to) f (λ e shows. begins cell e on shows ∙ ap (λ n. Jump n from to) here) is

  module _ (tables : TablesData F) (show : ShowTable tables) where
    -- an entry that a cell shows is what is found at its key
    pub shown_is_found : (i : ℕ) (e : Key × F) → get_or tables.cells i None ≡ Some e → found tables.table e.0 ≡ Some e.1
    shown_is_found i e is =
        let there = entry_of_cell tables.cells i e is in
        show.found e.0 ∙ lookup_from_place same_key_laws (shown_entries tables.cells) there.0 e.0 e.1 show.distinct there.1

    -- what is found at a key is shown by a cell
    pub found_is_shown : (key : Key) (f : F) → found tables.table key ≡ Some f → (i : ℕ) × (i < length tables.cells) × (get_or tables.cells i None ≡ Some (key, f))
    found_is_shown key f is =
        let (j, own, stands, same) = place_from_lookup (same_key key) (shown_entries tables.cells) f (sym (show.found key) ∙ is) in
        cell_of_entry tables.cells j (key, f) (stands ∙ ap (λ (k : Key). Some (k, f)) (sym (same_key_exact key own same)))

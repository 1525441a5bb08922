-- Where the pages of tables have jump functions at call nodes.
use Rattle.std.specs.Prelude.{◌≡◌, ℕ, zero, suc, ◌+◌, ◌*◌, ◌<◌, ◌≤◌, ◌^◌, ◌++◌, ◌∷◌, List, [], Option, None, length}
use Rattle.std.specs.Prelude.{slice_get, slice_index_or, slice_set}
use Rattle.std.specs.Option.{option_map}
use Rattle.ide_graph.specs.Supergraph.{Supergraph}
use Rattle.ide_values.specs.declared.call_pages.CallCells.{CallCells}
use Rattle.ide_values.specs.declared.call_pages.CallPages.{CallPages}
use Rattle.ide_values.specs.declared.call_pages.PageCells.{PageCells}
use Rattle.ide_values.specs.NextCalls.{AreNextCalls}

-- the next call node of each node of the graph is known
abbrev pub KnowsCalls : Supergraph → CallPages → Type 0
KnowsCalls graph calls = AreNextCalls graph calls.nexts.items

-- the page has 64 cells, whose indices have 64 bits, and these are some of them
pub record AreOnPage (cells : PageCells) : Type 0 where
  pub few : 64 * cells.page + 64 < 2 ^ 64
  pub begin : cells.begin ≤ 64
  pub end : cells.end ≤ 64

-- the cells at one less than the index, if there are any
abbrev pub cells_below : List CallCells → ℕ → Option CallCells
cells_below list zero = None
cells_below list (suc index) = slice_get list index

-- where there are, these begin with the first of them
abbrev pub BeginAt : List CallCells → (index : ℕ) → Option PageCells → Type 0
BeginAt list index found =
    option_map (λ (c : PageCells). 64 * c.page + c.begin) found ≡ option_map (λ (c : CallCells). c.first) (cells_below list index)

-- their link: 0 where there are none
abbrev pub before_in : List CallCells → (index : ℕ) → ℕ
before_in list zero = 0
before_in list (suc index) = (slice_index_or list index (record { first = 0; before = 0 })).before

-- one more than the index of the last cells from a place: 0 for none
abbrev pub last_at : CallPages → ℕ → ℕ
last_at calls place = slice_index_or calls.lasts.items place 0

-- behind the cells stand some more, with a link to the last ones from their place
pub record AddsFrom (place cell : ℕ) (old new : CallPages) : Type 0 where
  pub added : CallCells
  pub is : added.first ≡ cell
  pub link : added.before ≡ last_at old place
  pub listed : new.list.items ≡ old.list.items ++ added ∷ []

-- the last cells of all are the last ones from the place now, where their index has 32 bits
abbrev pub LinksLast : (place : ℕ) → (lasts : List ℕ) → CallPages → Type 0
LinksLast place lasts calls =
    length calls.list.items < 2 ^ 32 → calls.lasts.items ≡ slice_set lasts place (length calls.list.items)

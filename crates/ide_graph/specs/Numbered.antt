-- The numbers that the first pass over a program gives its nodes and procedures.
use Rattle.std.specs.Prelude.{ℕ, ◌<◌, ◌≤◌, ◌^◌, ◌≡◌, List, length}
use Rattle.std.specs.List.{All}
use Rattle.ide_graph.specs.declared.layout.Layout.{Layout}
use Rattle.ide_graph.specs.declared.numbering.Spot.{Spot}
use Rattle.ide_graph.specs.declared.numbering.Numbering.{Numbering}

-- each node belongs to one of the first n procedures
abbrev pub BelongTo : ℕ → List Spot → Type 0
BelongTo n spots = All (λ spot. spot.procedure < n) spots

-- each procedure's start and exit are among the first n nodes
abbrev pub StandWithin : ℕ → List Layout → Type 0
StandWithin n layouts = All (λ layout. (layout.start < n) × (layout.exit < n)) layouts

-- nodes and procedures name one another, and each node has a number
pub record IsNumbered (numbering : Numbering) : Type 0 where
  pub few : length numbering.spots.items < 2 ^ 32
  pub fewer : length numbering.layouts.items ≤ length numbering.spots.items
  pub owned : BelongTo (length numbering.layouts.items) numbering.spots.items
  pub placed : StandWithin (length numbering.spots.items) numbering.layouts.items
  pub labelled : length numbering.labels.items ≡ length numbering.layouts.items

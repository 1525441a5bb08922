-- The procedures of the nodes, taken from the first pass.
use Rattle.std.proofs.Common.{◌≡◌, ℕ, ◌<◌, List, map}
use Rattle.std.specs.List.{All}
use Rattle.std.proofs.lemmas.List.Elements.{All-map, All-same}
use Rattle.ide_graph.specs.Numbered.{BelongTo}
use Rattle.ide_graph.specs.declared.numbering.Spot.{Spot}

pub All-owners : (n : ℕ) (spots : List Spot) (owners : List ℕ) → owners ≡ map (λ spot. spot.procedure) spots → BelongTo n spots → All (λ procedure. procedure < n) owners
All-owners n spots owners same owned =
    All-same (λ procedure. procedure < n) owners (map (λ spot. spot.procedure) spots) same (All-map (λ procedure. procedure < n) (λ spot. spot.procedure) spots owned)

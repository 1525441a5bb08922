-- What one more procedure keeps of the numbers of the first pass.
use Rattle.std.proofs.Common.{ℕ, ◌<◌, ◌≤◌, List, [], ◌∷◌, ◌++◌, arith}
use Rattle.std.proofs.lemmas.List.Elements.{All-weaker, All-push}
use Rattle.ide_graph.specs.Numbered.{BelongTo, StandWithin}
use Rattle.ide_graph.specs.declared.layout.Layout.{Layout}
use Rattle.ide_graph.specs.declared.numbering.Spot.{Spot}

pub StandWithin-push : (m n : ℕ) (layouts : List Layout) (layout : Layout) → m ≤ n → StandWithin m layouts → layout.start < n → layout.exit < n → StandWithin n (layouts ++ layout ∷ [])
StandWithin-push m n layouts layout more placed start exit =
    All-push (λ x. (x.start < n) × (x.exit < n)) layouts layout
    (All-weaker (λ x. (x.start < m) × (x.exit < m)) (λ x. (x.start < n) × (x.exit < n)) (λ x h. (omega arith, omega arith)) layouts placed)
    (start, exit)

pub BelongTo-more : (m n : ℕ) (spots : List Spot) → m ≤ n → BelongTo m spots → BelongTo n spots
BelongTo-more m n spots more owned = All-weaker (λ x. x.procedure < m) (λ x. x.procedure < n) (λ x h. omega arith) spots owned

-- What the first pass over a program says of its nodes, its procedures and their labels.
use Rattle.std.specs.Prelude.{ℕ, ◌+◌, ◌≤◌, ◌≡◌, List, [], ◌∷◌, ◌++◌, Some, length, map, slice_get}
use Rattle.ide_text.specs.declared.program.Procedure.{Procedure}
use Rattle.ide_graph.specs.declared.layout.Layout.{Layout}
use Rattle.ide_graph.specs.declared.numbering.Numbering.{Numbering}
use Rattle.ide_graph.specs.declared.numbering.Place.{Place}
use Rattle.ide_graph.specs.declared.numbering.Place.TheVariants.{Start, Statement, ReturnSite, Exit}
use Rattle.ide_graph.specs.declared.numbering.Spot.{Spot as Node}
use Rattle.ide_text.specs.Places.{place_of}
use Rattle.ide_graph.specs.Naming.{HasOwnNames}
use Rattle.ide_graph.specs.Numbers.{Spot, start, statement, return_site, exit, nodes_of, start_of, exit_of, label_from}

-- what stands at a node
abbrev pub spot_value : Place → Spot
spot_value Start = start
spot_value (Statement s) = statement s.now
spot_value ReturnSite = return_site
spot_value Exit = exit

-- a node: the index of its procedure, and what stands there
abbrev pub node_value : Node → ℕ × Spot
node_value node = (node.procedure, spot_value node.place)

-- the nodes of a list
abbrev pub nodes_in : List Node → List (ℕ × Spot)
nodes_in nodes = map node_value nodes

-- the nodes of the procedure of that index, where these stand there
abbrev pub nodes_at : ℕ → List Spot → List (ℕ × Spot)
nodes_at index spots = map (λ spot. (index, spot)) spots

-- the procedure stands from the first node to the last. Its own facts are its parameters and then
-- its locals, where each is declared once
pub record IsLayout (first last : ℕ) (q : Procedure) (layout : Layout) : Type 0 where
  pub start : layout.start ≡ first
  pub exit : layout.exit ≡ last
  pub few : length layout.own ≤ length q.parameters.items + length q.locals.items
  pub own : HasOwnNames q → layout.own ≡ q.parameters.items ++ q.locals.items
  pub parameters : HasOwnNames q → layout.parameter_count ≡ length q.parameters.items

-- the layout of the procedure of that index
abbrev pub IsLayoutOf : List Procedure → ℕ → Procedure → Layout → Type 0
IsLayoutOf procedures index q layout = IsLayout (start_of procedures index) (exit_of procedures index) q layout

-- each label has the node of its first `at`, in a procedure that begins at that node
abbrev pub AreLabels : ℕ → Procedure → List (List ℕ × ℕ) → Type 0
AreLabels begin q labels = (name : List ℕ) → place_of labels name ≡ label_from begin q name

-- the first pass numbered these procedures
pub record IsNumberingOf (procedures : List Procedure) (numbering : Numbering) : Type 0 where
  pub spots : nodes_in numbering.spots.items ≡ nodes_of procedures
  pub layouts : length numbering.layouts.items ≡ length procedures
  pub layout : (i : ℕ) (q : Procedure) (layout : Layout) → slice_get procedures i ≡ Some q
      → slice_get numbering.layouts.items i ≡ Some layout → IsLayoutOf procedures i q layout
  pub labelled : length numbering.labels.items ≡ length procedures
  pub labels : (i : ℕ) (q : Procedure) (labels : List (List ℕ × ℕ)) → slice_get procedures i ≡ Some q
      → slice_get numbering.labels.items i ≡ Some labels → AreLabels (start_of procedures i) q labels

-- after the procedures before, the numbering goes on with that one
abbrev pub CountsNext : Procedure → Numbering → Numbering → Type 0
CountsNext q old new = (before : List Procedure) → IsNumberingOf before old → IsNumberingOf (before ++ q ∷ []) new

-- Nodes behind each other, of which each passes a fact on unchanged to the next.
use Rattle.std.specs.Prelude.{◌≡◌, ℕ, ◌+◌, ◌%◌, ◌<◌, ◌^◌, ◌⊎◌, true, false, Some, length, slice_get}
use Rattle.std.specs.List.{IsDistinct}
use Rattle.std.specs.Map.{keys_of}
use Rattle.ide_graph.specs.Supergraph.{Supergraph}
use Rattle.ide_graph.specs.declared.site.Site.{Site}
use Rattle.ide_image.specs.KeyedImage.{KeyedImageData}
use Rattle.ide_image.specs.Notes.{with_note}
use Rattle.ide_image.specs.Tables.{found}
use Rattle.ide_image.specs.Walk.{AreAbsent, AreSettled, EntersWalked, GoesTo, jump_behind, with_entered}
use Rattle.ide_image.specs.Worklist.{is_claimed, is_pending}
use Rattle.ide_lattice.specs.Algebra.{EdgeAlgebra}
use Rattle.ide_problem.specs.Flow.{Targets}
use Rattle.ide_tasks.specs.Parts.{PassesBehind}
use Rattle.ide_tasks.specs.Task.{TaskData}
use Rattle.ide_wire.specs.Key.{same_key}
use Rattle.ide_wire.specs.declared.key.Key.{Key}
use Rattle.ide_wire.specs.declared.key.Key.TheVariants.{Jump}
use Rattle.ide_steps.specs.Changed.{standing_entry}
use Rattle.ide_steps.specs.Core.{CoreData, IsSameProblem}

module _ {F L : Type 0} (B : EdgeAlgebra F L) where
  -- the function goes on by the identity and to where nothing was as it is, and has lost a rank
  pub record GoesOnUnchanged (f : F) : Type 0 where
    pub composed : B.compose f B.id ≡ f
    pub met : B.meet B.all_top f ≡ f
    pub less : B.rank f < B.height

  module _ (targets : Targets F) (graph : Supergraph) where
    -- what stands at the node passes the fact on unchanged to the node behind it
    pub record PassesAt (node fact : ℕ) : Type 0 where
      pub site : Site
      pub stands : slice_get graph.sites node ≡ Some site
      pub passes : PassesBehind B targets node fact site

    -- so do as many nodes from this one on
    abbrev pub PassesFor : (node fact count : ℕ) → Type 0
    PassesFor node fact count = (n : ℕ) → n < count → PassesAt (node + n) fact

    -- from the jump at the node the function may be walked over so many nodes behind it
    pub record MayWalk (image : KeyedImageData F (TaskData F)) (node from to count : ℕ) (f : F) : Type 0 where
      pub passes : PassesFor node to count
      pub within : node + count < graph.nodes
      pub absent : AreAbsent image.table (jump_behind node from to) count
      pub settled : AreSettled image.pile (jump_behind node from to) count
      pub page : node % 64 + count < 64
      pub unchanged : GoesOnUnchanged f

  -- so it may over the graph of the program that is loaded
  pub record MayWalkIn (targets : Targets F) (core : CoreData F) (node from to count : ℕ) (f : F) : Type 0 where
    pub graph : Supergraph
    pub loaded : core.graph ≡ Some graph
    pub may : MayWalk targets graph (record { table = core.table; pile = core.pile; changes = core.changes }) node from to count f

  -- from a pending jump, which no hand had claimed, its function was walked over so many nodes: to a run the key and each behind it but for the last was claimed
  -- in turn, its one part was done, which lowered the next, and the claim ended
  pub record WalksOwed (targets : Targets F) (old new : CoreData F) (count : ℕ) : Type 0 where
    pub node : ℕ
    pub from : ℕ
    pub to : ℕ
    pub function : F
    pub waits : is_pending old.pile (Jump node from to) ≡ true
    pub unclaimed : is_claimed old.pile (Jump node from to) ≡ false
    pub has : found old.table (Jump node from to) ≡ Some function
    pub may : MayWalkIn targets old node from to count function
    pub same : IsSameProblem old new
    pub distinct : IsDistinct same_key (keys_of old.table.entries)
    pub entries : EntersWalked (jump_behind node from to) function count old.table new.table
    pub few : length new.table.entries < 2 ^ 64
    pub goes : GoesTo (Jump node from to) (jump_behind node from to count) old.pile new.pile
    pub long : length new.pile.pending ≡ length old.pile.pending
    pub claims : new.pile.claims ≡ old.pile.claims
    pub changes : new.changes ≡ with_entered (with_note old.changes (Jump node from to) (standing_entry old (Jump node from to))) (jump_behind node from to) count

  -- so many nodes were walked over; or none, and nothing changed
  abbrev pub HasWalked : (targets : Targets F) → (old new : CoreData F) → ℕ → Type 0
  HasWalked targets old new count = ((count ≡ 0) × (new ≡ old)) ⊎ ((0 < count) × WalksOwed targets old new count)

-- the key waits for nobody's claim, and has that function
pub record WaitsWith {F : Type 0} (function : F) (core : CoreData F) (key : Key) : Type 0 where
  pub waits : is_pending core.pile key ≡ true
  pub unclaimed : is_claimed core.pile key ≡ false
  pub has : found core.table key ≡ Some function

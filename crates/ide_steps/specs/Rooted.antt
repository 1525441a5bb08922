-- What a call of `root` does: one procedure more is a root, and the absent entries of its start become the identity.
use Rattle.std.specs.Prelude.{◌≡◌, ℕ, ◌<◌, ◌≤◌, ◌++◌, ◌||◌, List, [], ◌∷◌, Some, None, option_map, slice_index}
use Rattle.std.specs.List.{All, list_any}
use Rattle.std.specs.Map.{keys_of}
use Rattle.ide_graph.specs.Joined.{AreJoined, start_at}
use Rattle.ide_graph.specs.Supergraph.{Supergraph}
use Rattle.ide_lattice.specs.Algebra.{LatticeAlgebra, EdgeAlgebra}
use Rattle.ide_problem.specs.Flow.{Targets}
use Rattle.ide_image.specs.Tables.{found, last_of}
use Rattle.ide_theory.specs.Graphs.{frame_at}
use Rattle.ide_theory.specs.Run.{Run, Steps}
use Rattle.ide_theory.specs.Sites.{HaveEdgesOf}
use Rattle.ide_theory.specs.Images.{seeded_below}
use Rattle.ide_theory.specs.State.{Claim, State}
use Rattle.ide_wire.specs.Key.{node_of, same_key}
use Rattle.ide_wire.specs.declared.key.Key.{Key}
use Rattle.ide_wire.specs.declared.key.Key.TheVariants.{Jump}
use Rattle.ide_image.specs.Worklist.{IsFree}
use Rattle.ide_steps.specs.Core.{CoreData}
use Rattle.ide_steps.specs.Refusal.{IsRootName}
use Rattle.ide_steps.specs.State.{state_of}
use Rattle.ide_steps.specs.Steps.{IsKeyBelow, SameTasks}

-- the claim, marked as lowered if its key is one of these
abbrev pub marked_by : {F : Type 0} → List Key → Claim F → Claim F
marked_by keys claim = record claim { lowered = list_any (same_key claim.key) keys || claim.lowered }

-- the entries' keys have these functions now, and are pending, and each claim of one of them is marked
abbrev pub with_entries : {F : Type 0} → State F → List (Key × F) → State F
with_entries s entries = record {
  get = λ q. last_of entries q (s.get q);
  pending = λ q. list_any (same_key q) (keys_of entries) || s.pending q;
  claims = λ h. option_map (marked_by (keys_of entries)) (s.claims h);
}

-- the entries' keys have these functions in the new core, and are pending there
abbrev pub Enters : {F L : Type 0} → EdgeAlgebra F L → Targets F → (old new : CoreData F) → List (Key × F) → Type 0
Enters B targets old new entries = state_of B targets new ≡ with_entries (state_of B targets old) entries

-- each of the entries is of a key at the node
abbrev pub AllAt : {F : Type 0} → ℕ → List (Key × F) → Type 0
AllAt node entries = All (λ entry. node_of entry.0 ≡ node) entries

-- each of the entries is of an absent key
abbrev pub AllAbsent : {F : Type 0} → CoreData F → List (Key × F) → Type 0
AllAbsent core entries = All (λ entry. found core.table entry.0 ≡ None) entries

-- these entries are what a root's start gets in the core's state
abbrev pub AreSeedEntries : {F L : Type 0} → EdgeAlgebra F L → Targets F → CoreData F → ℕ → ℕ → List (Key × F) → Type 0
AreSeedEntries B targets core start count entries =
    seeded_below B (state_of B targets core) start count ≡ with_entries (state_of B targets core) entries

-- the procedure of the name is a root now, and each absent entry of its start is the identity; in a run
-- those were steps, and each entry of the start is below the identity then
pub record IsBegun {F L : Type 0} (A : LatticeAlgebra L) (B : EdgeAlgebra F L) (targets : Targets F) (old new : CoreData F) (name : List ℕ) : Type 0 where
  pub graph : Supergraph
  pub is : old.graph ≡ Some graph
  pub root : ℕ
  pub named : IsRootName graph old.roots name root
  pub within : root < graph.procedures
  pub program : new.program ≡ old.program
  pub same : new.graph ≡ old.graph
  pub roots : new.roots ≡ old.roots ++ root ∷ []
  pub state : state_of B targets new ≡ seeded_below B (state_of B targets old) (slice_index graph.starts root) graph.entries
  pub tasks : SameTasks old.pile new.pile
  pub unclaimed : IsFree old.pile → IsFree new.pile
  pub steps : (all : HaveEdgesOf graph.facts graph.sites) → AreJoined graph.sites (start_at graph)
      → start_at graph (slice_index graph.starts root) ≡ slice_index graph.starts root → graph.entries ≤ graph.facts
      → Run (frame_at A B targets graph all) (state_of B targets old)
      → Steps (frame_at A B targets graph all) (state_of B targets old) (state_of B targets new)
  pub met : (all : HaveEdgesOf graph.facts graph.sites) → AreJoined graph.sites (start_at graph)
      → start_at graph (slice_index graph.starts root) ≡ slice_index graph.starts root → graph.entries ≤ graph.facts
      → Run (frame_at A B targets graph all) (state_of B targets old)
      → (d : ℕ) → d < graph.entries → IsKeyBelow B (state_of B targets new) (Jump (slice_index graph.starts root) d d) B.id

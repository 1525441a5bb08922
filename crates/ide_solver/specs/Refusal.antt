-- Why a text and the names of roots are refused.
use Rattle.std.specs.Borrow.{Bor}
use Rattle.std.specs.Prelude.{◌≡◌, ℕ, List, [], ◌∷◌, ◌++◌, Option, Some, None}
use Rattle.ide_graph.specs.GraphOfText.{IsGraphOfText}
use Rattle.ide_graph.specs.Supergraph.{Supergraph}
use Rattle.ide_text.specs.Parsed.{TextFault}
use Rattle.ide_wire.specs.declared.refused.Fault.{Fault}
use Rattle.ide_wire.specs.declared.refused.Refused.{Refused}
use Rattle.ide_wire.specs.declared.refused.Refused.TheVariants.{NoMemory, Text, NoProgram}
use Rattle.ide_steps.specs.Core.{CoreData}
use Rattle.ide_steps.specs.Refusal.{IsRootName, RootFault}
use Rattle.ide_values.specs.Refusal.{AreWorkers, IsValuesRefusal}
use Rattle.ide_solver.specs.Solve.{names_of}

-- of names that are made roots one after the other, beside these, the first that cannot be one has that fault
pub data FirstRootFault (graph : Supergraph) : List ℕ → List (List ℕ) → Refused → Type 0 where
  here : {roots : List ℕ} {names : List (List ℕ)} {fault : Refused} → (name : List ℕ) → RootFault graph roots name fault
      → FirstRootFault graph roots (name ∷ names) fault
  later : {roots : List ℕ} {names : List (List ℕ)} {fault : Refused} → (name : List ℕ) (root : ℕ) → IsRootName graph roots name root
      → FirstRootFault graph (roots ++ root ∷ []) names fault → FirstRootFault graph roots (name ∷ names) fault

-- a refusal of names that are to be roots beside these: for want of memory, where no program is loaded,
-- or for the first name that cannot be one
pub data IsRootsRefusal (graph : Option Supergraph) (roots : List ℕ) (names : List (List ℕ)) : Refused → Type 0 where
  no_memory : IsRootsRefusal graph roots names NoMemory
  no_program : graph ≡ None → IsRootsRefusal graph roots names NoProgram
  no_root : (loaded : Supergraph) (refused : Refused) → graph ≡ Some loaded → FirstRootFault loaded roots names refused
      → IsRootsRefusal graph roots names refused

-- the names that are lent do not all become roots of the core
abbrev pub BarsRoots : {F : Type 0} → CoreData F → List (Bor (List ℕ)) → Refused → Type 0
BarsRoots core lent = IsRootsRefusal core.graph core.roots (names_of lent)

-- a refusal of a text and the names of roots: for want of memory, for the text's fault, or for the first
-- name that cannot be a root of its program
pub data IsSolveRefusal (text : List ℕ) (names : List (List ℕ)) : Refused → Type 0 where
  memory : IsSolveRefusal text names NoMemory
  fault : (line : ℕ) (fault : Fault) → TextFault text line fault → IsSolveRefusal text names (Text line fault)
  root : (graph : Supergraph) (refused : Refused) → IsGraphOfText text graph → FirstRootFault graph [] names refused
      → IsSolveRefusal text names refused

-- why so many workers do not solve them: values by so many are refused; or they can be, and the text or the names are refused
pub data IsSharedRefusal (workers : ℕ) (text : List ℕ) (names : List (List ℕ)) : Refused → Type 0 where
  not_shared : {refused : Refused} → IsValuesRefusal workers refused → IsSharedRefusal workers text names refused
  not_solved : {refused : Refused} → AreWorkers workers → IsSolveRefusal text names refused → IsSharedRefusal workers text names refused

-- Why a name is refused as a root.
use Rattle.std.specs.Prelude.{◌≡◌, ◌≢◌, ℕ, List, Option, Some, None, slice_index}
use Rattle.std.specs.List.{Contains}
use Rattle.ide_graph.specs.Supergraph.{Supergraph, procedure_named}
use Rattle.ide_wire.specs.declared.refused.Refused.{Refused}
use Rattle.ide_wire.specs.declared.refused.Refused.TheVariants.{NoMemory, NoProgram, NoProcedure, HasParameters, Already}

-- a name may be a root beside these: its procedure has no parameters and is none of them
pub record IsRootName (graph : Supergraph) (roots : List ℕ) (name : List ℕ) (root : ℕ) : Type 0 where
  pub named : procedure_named graph name ≡ Some root
  pub closed : slice_index graph.parameters root ≡ 0
  pub new : ¬ (Contains roots root)

-- why a name cannot be a root beside these
pub data RootFault (graph : Supergraph) (roots : List ℕ) (name : List ℕ) : Refused → Type 0 where
  unnamed : procedure_named graph name ≡ None → RootFault graph roots name NoProcedure
  parameters : (root : ℕ) → procedure_named graph name ≡ Some root → slice_index graph.parameters root ≢ 0 → RootFault graph roots name HasParameters
  already : (root : ℕ) → procedure_named graph name ≡ Some root → slice_index graph.parameters root ≡ 0 → Contains roots root → RootFault graph roots name Already

-- a procedure may be a root now: a program is loaded, and its name may be one
pub record IsRootNow (graph : Option Supergraph) (roots : List ℕ) (name : List ℕ) (root : ℕ) : Type 0 where
  pub loaded : Supergraph
  pub is : graph ≡ Some loaded
  pub may : IsRootName loaded roots name root

-- why a name is no root yet: no program is loaded, it cannot be one, or it could be but for want of memory
pub data IsRootRefusal (graph : Option Supergraph) (roots : List ℕ) (name : List ℕ) : Refused → Type 0 where
  no_program : graph ≡ None → IsRootRefusal graph roots name NoProgram
  fault : {refused : Refused} → (loaded : Supergraph) → graph ≡ Some loaded → RootFault loaded roots name refused → IsRootRefusal graph roots name refused
  memory : (loaded : Supergraph) (root : ℕ) → graph ≡ Some loaded → IsRootName loaded roots name root → IsRootRefusal graph roots name NoMemory

-- why it may be none, whatever memory there is
pub record IsNoRoot (graph : Option Supergraph) (roots : List ℕ) (name : List ℕ) (refused : Refused) : Type 0 where
  pub why : IsRootRefusal graph roots name refused
  pub not_memory : refused ≢ NoMemory

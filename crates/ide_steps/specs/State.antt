-- A core as the state of a tabulation, and what its tasks have to be.
use Rattle.std.specs.Prelude.{◌≡◌, Some, option_map, drop, slice_get}
use Rattle.ide_graph.specs.Supergraph.{Supergraph}
use Rattle.ide_graph.specs.declared.site.Site.{Site}
use Rattle.ide_graph.specs.declared.site.Site.TheVariants.{Normal, Call, Exit}
use Rattle.ide_lattice.specs.Algebra.{EdgeAlgebra}
use Rattle.ide_problem.specs.Flow.{Targets}
use Rattle.ide_image.specs.Tables.{Table, ArePartners, found}
use Rattle.ide_tasks.specs.Parts.{owed}
use Rattle.ide_tasks.specs.Sources.{sources_at, reaching_of}
use Rattle.ide_tasks.specs.Task.{TaskData}
use Rattle.ide_tasks.specs.declared.partners.Partners.{Partners}
use Rattle.ide_tasks.specs.declared.partners.Partners.TheVariants.{Entries, Callers}
use Rattle.ide_theory.specs.State.{State, Claim}
use Rattle.ide_wire.specs.Key.{node_of}
use Rattle.ide_wire.specs.declared.key.Key.{Key}
use Rattle.ide_wire.specs.declared.key.Key.TheVariants.{Jump, Summary}
use Rattle.ide_image.specs.Worklist.{is_pending, claim_at}
use Rattle.ide_image.specs.declared.claim.Claim.{Claim as Held}
use Rattle.ide_steps.specs.Core.{CoreData}

module _ {F L : Type 0} (B : EdgeAlgebra F L) (targets : Targets F) where
  -- what a claim still owes: the parts of its task that are not done
  abbrev pub claim_of : Held (TaskData F) → Claim F
  claim_of held = record { key = held.key; parts = drop held.done (owed B targets held.task); lowered = held.lowered }

  -- the image, the pending keys and the claims of the hands
  abbrev pub state_of : CoreData F → State F
  state_of core = record { get = found core.table; pending = is_pending core.pile; claims = λ h. option_map claim_of (claim_at core.pile h) }

  -- what a key's function is joined with: at a call node the summaries from its fact that are present,
  -- at an exit what reaches its first fact, for a summary of a call the jumps to its fact that are present
  abbrev pub ArePartnersOf : Supergraph → Table F → Key → Site → Partners F → Type 0
  ArePartnersOf graph table (Jump n a b) (Normal edges) partners = Unit {0}
  ArePartnersOf graph table (Jump n a b) (Call calls along) (Entries summaries) = ArePartners (λ d. Summary n b d) table summaries
  ArePartnersOf graph table (Jump n a b) (Exit start callers) (Callers reaching) = reaching ≡ reaching_of a (sources_at targets graph.facts (Exit start callers))
  ArePartnersOf graph table (Summary c a b) (Call calls along) (Entries jumps) = ArePartners (λ d. Jump c d a) table jumps
  ArePartnersOf graph table (Summary c a b) (Normal edges) partners = Unit {0}
  ArePartnersOf graph table (Summary c a b) (Exit start callers) partners = Unit {0}
  ArePartnersOf graph table key site partners = ⊥

  -- the task of a present key, as it is claimed
  pub record IsTaskOf (graph : Supergraph) (table : Table F) (task : TaskData F) : Type 0 where
    pub function : found table task.key ≡ Some task.function
    pub site : slice_get graph.sites (node_of task.key) ≡ Some task.site
    pub partners : ArePartnersOf graph table task.key task.site task.partners

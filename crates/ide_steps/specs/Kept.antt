-- What is known of tasks by what is kept of a loaded program.
use Rattle.std.specs.Prelude.{◌≡◌, ℕ, ◌<◌, Option, Result, Some, IfOk, OnOk, IsSome, slice_get, slice_index}
use Rattle.ide_graph.specs.Exits.{AreExitsOwned}
use Rattle.ide_graph.specs.declared.site.Site.{Site}
use Rattle.ide_graph.specs.Supergraph.{Supergraph}
use Rattle.ide_lattice.specs.Algebra.{EdgeAlgebra}
use Rattle.ide_problem.specs.Flow.{Targets}
use Rattle.ide_image.specs.Tables.{Table, found}
use Rattle.ide_tasks.specs.Task.{TaskData}
use Rattle.ide_tasks.specs.Partners.{partners_in}
use Rattle.ide_tasks.specs.declared.partners.PartnerLists.{PartnerLists}
use Rattle.ide_tasks.specs.declared.partners.Partners.{Partners}
use Rattle.ide_wire.specs.Key.{node_of}
use Rattle.ide_wire.specs.declared.key.Key.{Key}
use Rattle.ide_image.specs.Worklist.{Pile}
use Rattle.ide_steps.specs.declared.loaded.Loaded.{Loaded}
use Rattle.ide_steps.specs.Core.{AreKeysKept, CoreData, IsProgramKept}
use Rattle.ide_steps.specs.State.{ArePartnersOf, IsTaskOf}

module _ {P L F : Type 0} (targets : Targets F) (loaded : Loaded P L F) where
  -- the fact holds where the program is kept, and each exit is its procedure's own
  abbrev pub WhereKept : Type 0 → Type 0
  WhereKept fact = IsProgramKept targets loaded.program loaded.graph loaded.sources → AreExitsOwned loaded.graph → fact

  -- and where that is the site of the key's node, and that its procedure
  abbrev pub WhereKeptAt : Key → Site → ℕ → Type 0 → Type 0
  WhereKeptAt key site procedure fact =
      WhereKept (slice_get loaded.graph.sites (node_of key) ≡ Some site → procedure ≡ slice_index loaded.graph.owners (node_of key)
      → procedure < loaded.graph.procedures → fact)

-- over a graph whose exits are their procedures' own, if it is the loaded one, the task is that of its key, if that is present
abbrev pub IsTaskWhere : {F L : Type 0} → EdgeAlgebra F L → Targets F → Supergraph → CoreData F → TaskData F → Type 0
IsTaskWhere B targets graph core task =
    core.graph ≡ Some graph → AreExitsOwned graph → IsSome (found core.table task.key) → IsTaskOf B targets graph core.table task

-- they are the partners of the key at that site of the loaded graph
abbrev pub ArePartnersIn : {P L F : Type 0} → EdgeAlgebra F L → Targets F → Loaded P L F → Table F → Key → Site → Partners F → Type 0
ArePartnersIn B targets loaded table key site partners = ArePartnersOf B targets loaded.graph table key site partners

module _ {P L F : Type 0} (B : EdgeAlgebra F L) (targets : Targets F) (loaded : Loaded P L F) (table : Table F) (key : Key) where
  -- where the program is kept, what is answered is the key's task, if the key is present
  abbrev pub GivesTask : {E : Type 0} → Result (TaskData F) E → Type 0
  GivesTask result = WhereKept targets loaded (IsSome (found table key) → IfOk result (IsTaskOf B targets loaded.graph table))

  -- where it is, and that is the site of the key's node, and that its procedure, they are the key's partners there
  abbrev pub GivesPartners : {E : Type 0} → Site → ℕ → Result (Partners F) E → Type 0
  GivesPartners site procedure result =
      WhereKeptAt targets loaded key site procedure (IfOk result (ArePartnersIn B targets loaded table key site))

  -- where it is so, the lists have them at Ok
  abbrev pub FillsPartners : {E : Type 0} → Site → ℕ → PartnerLists F → Result (Unit {0}) E → Type 0
  FillsPartners site procedure lists result =
      WhereKeptAt targets loaded key site procedure (OnOk result (ArePartnersIn B targets loaded table key site (partners_in lists)))

-- the program that is loaded, if one is, is kept, and no key of the pile stands outside of its graph
abbrev pub KeepsLoaded : {P L F : Type 0} → EdgeAlgebra F L → Targets F → Option (Loaded P L F) → Pile (TaskData F) → Type 0
KeepsLoaded {P} {L} {F} B targets held pile =
    (loaded : Loaded P L F) → held ≡ Some loaded
    → IsProgramKept targets loaded.program loaded.graph loaded.sources × AreKeysKept B targets loaded.graph pile

-- A jump at a node that is neither call nor exit has no partners.
use Rattle.std.proofs.Common.{◌≡◌, List, []}
use Rattle.ide_graph.specs.Supergraph.{Supergraph}
use Rattle.ide_graph.specs.declared.site.Site.{Site}
use Rattle.ide_graph.specs.declared.site.Site.TheVariants.{Normal, Call, Exit}
use Rattle.ide_image.specs.Tables.{Table}
use Rattle.ide_lattice.specs.Algebra.{EdgeAlgebra}
use Rattle.ide_problem.specs.Flow.{Targets}
use Rattle.ide_steps.specs.State.{ArePartnersOf}
use Rattle.ide_tasks.specs.Parts.{FillsAlone, parts_at}
use Rattle.ide_tasks.specs.declared.partners.Partners.TheVariants.{Entries}
use Rattle.ide_wire.specs.declared.key.Key.{Key}
use Rattle.ide_wire.specs.declared.key.Key.TheVariants.{Jump, Summary}

module _ {F L : Type 0} (B : EdgeAlgebra F L) (targets : Targets F) where
  pub owed_alone : (key : Key) (function : F) (site : Site) (parts : List (Key × F)) → FillsAlone B targets key function site parts
      → parts ≡ parts_at B targets key function site (Entries [])
  owed_alone (Jump n from to) function (Normal edges) parts h = h
  owed_alone (Jump n from to) function (Call calls along) parts h = elim h [ ]
  owed_alone (Jump n from to) function (Exit start callers) parts h = elim h [ ]
  owed_alone (Summary c from to) function (Normal edges) parts h = elim h [ ]
  owed_alone (Summary c from to) function (Call calls along) parts h = elim h [ ]
  owed_alone (Summary c from to) function (Exit start callers) parts h = elim h [ ]

  pub has_no_partners : (graph : Supergraph) (table : Table F) (key : Key) (function : F) (site : Site) (parts : List (Key × F)) → FillsAlone B targets key function site parts
      → ArePartnersOf B targets graph table key site (Entries [])
  has_no_partners graph table (Jump n from to) function (Normal edges) parts h = tt
  has_no_partners graph table (Jump n from to) function (Call calls along) parts h = elim h [ ]
  has_no_partners graph table (Jump n from to) function (Exit start callers) parts h = elim h [ ]
  has_no_partners graph table (Summary c from to) function (Normal edges) parts h = elim h [ ]
  has_no_partners graph table (Summary c from to) function (Call calls along) parts h = elim h [ ]
  has_no_partners graph table (Summary c from to) function (Exit start callers) parts h = elim h [ ]

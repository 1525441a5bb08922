-- That the partners at an exit are what the sources have there.
use Rattle.std.proofs.Common.{◌≡◌, ℕ, ◌<◌, Some, List, [], sym, subst, ap, ◌∙◌}
use Rattle.std.specs.Prelude.{slice_get, slice_index, slice_index_or}
use Rattle.ide_graph.specs.Exits.{AreExitsOwned}
use Rattle.ide_graph.specs.declared.site.Caller.{Caller}
use Rattle.ide_graph.specs.declared.site.Site.{Site}
use Rattle.ide_graph.specs.declared.site.Site.TheVariants.{Exit}
use Rattle.ide_image.specs.Tables.{Table}
use Rattle.ide_lattice.specs.Algebra.{EdgeAlgebra}
use Rattle.ide_problem.specs.Flow.{Targets}
use Rattle.ide_tasks.specs.Sources.{reaching_of, sources_at}
use Rattle.ide_tasks.specs.declared.partners.Partners.TheVariants.{Callers}
use Rattle.ide_tasks.specs.declared.partners.Reaching.{Reaching}
use Rattle.ide_wire.specs.Key.{node_of}
use Rattle.ide_wire.specs.declared.key.Key.{Key}
use Rattle.ide_wire.specs.declared.key.Key.TheVariants.{Jump}
use Rattle.ide_steps.specs.Core.{IsProgramKept}
use Rattle.ide_steps.specs.Kept.{ArePartnersIn}
use Rattle.ide_steps.specs.declared.loaded.Loaded.{Loaded}

module _ {P L F : Type 0} (B : EdgeAlgebra F L) (targets : Targets F) (loaded : Loaded P L F) (table : Table F) where
  pub called-at : (key : Key) (site : Site) (procedure : ℕ) (reaching : List (Reaching F))
      → IsProgramKept targets loaded.program loaded.graph loaded.sources → AreExitsOwned loaded.graph
      → slice_get loaded.graph.sites (node_of key) ≡ Some site → procedure ≡ slice_index loaded.graph.owners (node_of key) → procedure < loaded.graph.procedures
      → (n from to start : ℕ) (callers : List Caller) → key ≡ Jump n from to → site ≡ Exit start callers
      → reaching ≡ reaching_of from (slice_index_or loaded.sources procedure [])
      → ArePartnersIn B targets loaded table key site (Callers reaching)
  called-at key site procedure reaching kept owned at own within n from to start callers jumps exits is =
      let stands : slice_get loaded.graph.sites n ≡ Some (Exit start callers) =
      ap (λ k. slice_get loaded.graph.sites (node_of k)) (sym jumps) ∙ at ∙ ap (λ s. Some s) exits in
      let there : slice_index loaded.graph.exits procedure ≡ n =
      ap (slice_index loaded.graph.exits) (own ∙ ap (λ k. slice_index loaded.graph.owners (node_of k)) jumps) ∙ owned.owned n start callers stands in
      let reach : reaching ≡ reaching_of from (sources_at targets loaded.graph.facts (Exit start callers)) =
      is ∙ kept.inverse.exact procedure (Exit start callers) within (ap (slice_get loaded.graph.sites) there ∙ stands) (owned.few n (Exit start callers) stands) from in
      subst (λ k. ArePartnersIn B targets loaded table k site (Callers reaching)) (sym jumps)
      (subst (λ s. ArePartnersIn B targets loaded table (Jump n from to) s (Callers reaching)) (sym exits) reach)

-- The graph of a program as `parse` answers it is a supergraph, with its sites' edges at its nodes.
use Rattle.std.specs.Prelude.{◌≡◌, ℕ, suc, List, [], ◌∷◌}
use Rattle.std.proofs.Common.{arith, sym, ◌∙◌}
use Rattle.std.specs.List.{All}
use Rattle.ide_text.specs.declared.program.Program.{Program}
use Rattle.ide_graph.specs.declared.edge.EdgeData.{EdgeData}
use Rattle.ide_graph.specs.declared.site.Site.{Site}
use Rattle.ide_graph.specs.declared.site.Site.TheVariants.{Normal, Call, Exit}
use Rattle.ide_graph.specs.EdgeLaws.{AreLawful, IsLawful}
use Rattle.ide_graph.specs.ProgramEdges.{IsNormal, IsCallFrom, IsCallerOf, IsSiteOf}
use Rattle.ide_graph.specs.Numbers.{facts_of}
use Rattle.ide_theory.specs.Member.{Each}
use Rattle.ide_theory.specs.Sites.{IsEdgeOf, HasLawfulEdges}

-- what holds of each element, and what follows from it
each-all : {T : Type 0} (P Q : T → Type 0) → ((x : T) → P x → Q x) → (xs : List T) → All P xs → Each Q xs
each-all P Q follows [] all = tt
each-all P Q follows (x ∷ xs) all = (follows x (all 0 x (omega arith)), each-all P Q follows xs (λ k d within. all (suc k) d (omega (arith, within))))

module _ (p : Program) (lawful : AreLawful p) (facts : ℕ) (counted : facts ≡ facts_of p) where
  edge-is : (edge : EdgeData) → IsLawful p edge → IsEdgeOf facts edge
  edge-is edge is = record { lawful = is.lawful; counted = is.facts ∙ sym counted }

  pub site-lawful : (n : ℕ) (s : Site) → IsSiteOf p n s → HasLawfulEdges facts s
  site-lawful n (Normal edges) is =
      each-all (IsNormal p n) (IsEdgeOf facts) (λ e normal. edge-is e (lawful.normal n e normal)) edges is.1.each
  site-lawful n (Call calls along) is = (
    each-all (IsCallFrom p n) (IsEdgeOf facts) (λ e call. edge-is e (lawful.call n call.0 e call.1)) calls is.0.each,
    edge-is along (lawful.along n along is.1),
  )
  site-lawful n (Exit begin callers) is =
      each-all (IsCallerOf p is.index) (λ caller. IsEdgeOf facts caller.call × IsEdgeOf facts caller.back)
      (λ c caller. (edge-is c.call (lawful.call c.call_node is.index c.call caller.0), edge-is c.back (lawful.back c.call_node is.index c.back caller.1)))
      callers is.listed.each

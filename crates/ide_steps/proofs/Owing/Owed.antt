-- A task owes the listed parts of its key, and so what a claim of the key does.
use Rattle.std.proofs.Common.{◌≡◌, ℕ, ◌+◌, ◌≤◌, ◌^◌, List, [], ◌∷◌, ◌++◌, Option, Some, None, sym, subst, ap, ◌∙◌, refl, arith, append_assoc, append-nil}
use Rattle.std.specs.Prelude.{slice_get}
use Rattle.std.specs.List.{flat_map}
use Rattle.std.proofs.lemmas.Option.{none-some}
use Rattle.ide_graph.specs.Joined.{start_at}
use Rattle.ide_graph.specs.Supergraph.{Supergraph}
use Rattle.ide_graph.specs.declared.edge.EdgeData.{EdgeData}
use Rattle.ide_graph.specs.declared.site.Site.{Site}
use Rattle.ide_graph.specs.declared.site.Site.TheVariants.{Normal, Call, Exit}
use Rattle.ide_lattice.specs.Algebra.{LatticeAlgebra, EdgeAlgebra}
use Rattle.ide_problem.specs.Flow.{Targets}
use Rattle.ide_image.specs.Tables.{Table, ArePartners, found}
use Rattle.ide_tasks.specs.Parts.{owed, parts_at, flat_parts, seed_parts, after_parts, resumed_parts, exit_parts}
use Rattle.ide_tasks.specs.Task.{TaskData}
use Rattle.ide_tasks.specs.declared.partners.Partners.{Partners}
use Rattle.ide_tasks.specs.declared.partners.Partners.TheVariants.{Entries, Callers}
use Rattle.ide_theory.specs.Frame.{Frame}
use Rattle.ide_theory.specs.Graphs.{frame_at}
use Rattle.ide_theory.specs.Member.{Each}
use Rattle.ide_theory.specs.Parts.{NodeEdges, if_some, parts_over_flat as flat_listed, parts_of_seed as seed_listed, parts_after_call as after_listed, parts_at_exit as exit_listed, parts_resumed as resumed_listed, jump_parts, parts_of, AreKeysInRange}
use Rattle.ide_theory.specs.Run.{ArePartsOf}
use Rattle.ide_theory.specs.Sites.{IsEdgeOf, HasLawfulEdges, HaveEdgesOf, edges_from, callers_at, edges_at, edges_found, edges_of, node_edges}
use Rattle.ide_wire.specs.Key.{node_of}
use Rattle.ide_wire.specs.declared.key.Key.{Key}
use Rattle.ide_wire.specs.declared.key.Key.TheVariants.{Jump, Summary}
use Rattle.ide_steps.specs.State.{ArePartnersOf, IsTaskOf}
use Rattle.ide_steps.proofs.Owing.Exits.{callers-same}
use Rattle.ide_steps.proofs.Owing.Partners.{HaveSame, same-of, same-append, same-nil, partners-same, some-inj}

-- what stands at a node with a site is what the site has
at-site : (facts n : ℕ) (o : Option Site) (all : (s : Site) → o ≡ Some s → HasLawfulEdges facts s) (site : Site) → o ≡ Some site
    → (own : HasLawfulEdges facts site) × (edges_found facts n o all ≡ edges_at facts n site own)
at-site facts n None all site is = elim (none-some site is) [ ]
at-site facts n (Some s) all site is =
    subst (λ u. (own : HasLawfulEdges facts u) × (edges_at facts n s (all s refl) ≡ edges_at facts n u own)) (some-inj is) (all s refl, refl)

module _ {F L : Type 0} (A : LatticeAlgebra L) (B : EdgeAlgebra F L) (targets : Targets F) (graph : Supergraph) (all : HaveEdgesOf graph.facts graph.sites)
    (table : Table F) (few : graph.facts ≤ 2 ^ 16) (ranged : AreKeysInRange (frame_at A B targets graph all) (found table)) where
  abbrev K : Frame
  K = frame_at A B targets graph all

  flats-same : (n a b : ℕ) (f : F) (xs : List EdgeData) (own : Each (IsEdgeOf graph.facts) xs)
      → flat_map (flat_parts B targets a b f) xs ≡ flat_map (λ e. flat_listed K (found table) e a b f) (edges_from graph.facts n xs own)
  flats-same n a b f [] own = refl
  flats-same n a b f (x ∷ xs) own = ap (λ rest. flat_parts B targets a b f x ++ rest) (flats-same n a b f xs own.1)

  seeds-same : (n b : ℕ) (xs : List EdgeData) (own : Each (IsEdgeOf graph.facts) xs)
      → flat_map (seed_parts B targets b) xs ≡ flat_map (λ e. seed_listed K (found table) e b) (edges_from graph.facts n xs own)
  seeds-same n b [] own = refl
  seeds-same n b (x ∷ xs) own = ap (λ rest. seed_parts B targets b x ++ rest) (seeds-same n b xs own.1)

  -- past a call: by each summary that is present, or by each jump
  over-same : (n a b : ℕ) (f : F) (m : ℕ) (summaries : List (ℕ × F)) → ArePartners (λ d. Summary n b d) table summaries
      → HaveSame (after_parts B targets m a f summaries) (after_listed K (found table) n a b f m)
  over-same n a b f m summaries are =
      partners-same (λ d. Summary n b d) table summaries are graph.facts few (λ d s present. (ranged (Summary n b d) s present).1)
      (λ d s. (Jump m a d, B.compose f s))

  resumed-same : (c b d : ℕ) (s : F) (m : ℕ) (jumps : List (ℕ × F)) → ArePartners (λ a. Jump c a b) table jumps
      → HaveSame (resumed_parts B targets m d s jumps) (resumed_listed K (found table) c b d s m)
  resumed-same c b d s m jumps are =
      partners-same (λ a. Jump c a b) table jumps are graph.facts few (λ a f present. (ranged (Jump c a b) f present).0)
      (λ a f. (Jump m a d, B.compose f s))

  call-same : (n a b : ℕ) (f : F) (calls : List EdgeData) (along : EdgeData) (own : HasLawfulEdges graph.facts (Call calls along)) (summaries : List (ℕ × F))
      → ArePartners (λ d. Summary n b d) table summaries
      → HaveSame (parts_at B targets (Jump n a b) f (Call calls along) (Entries summaries)) (jump_parts K (found table) (edges_at graph.facts n (Call calls along) own) n a b f)
  call-same n a b f calls along own summaries are =
      let seeds : List (Key × F) = flat_map (seed_parts B targets b) calls in
      let seeds_listed : List (Key × F) = flat_map (λ e. seed_listed K (found table) e b) (edges_from graph.facts n calls own.0) in
      let flats : List (Key × F) = flat_parts B targets a b f along in
      let afters : List (Key × F) = after_parts B targets along.end a f summaries in
      let afters_listed : List (Key × F) = after_listed K (found table) n a b f along.end in
      let listed : List (Key × F) = seeds_listed ++ ((flats ++ []) ++ ((afters_listed ++ []) ++ [])) in
      subst (λ ps. HaveSame ps listed) (sym (append_assoc seeds flats afters))
      (same-append seeds seeds_listed (flats ++ afters) ((flats ++ []) ++ ((afters_listed ++ []) ++ []))
      (same-of seeds seeds_listed (seeds-same n b calls own.0))
      (same-append flats (flats ++ []) afters ((afters_listed ++ []) ++ [])
      (same-of flats (flats ++ []) (sym (append-nil flats)))
      (same-nil afters (afters_listed ++ []) (same-nil afters afters_listed (over-same n a b f along.end summaries are)))))

  jump-same : (n a b : ℕ) (f : F) (site : Site) (own : HasLawfulEdges graph.facts site) (partners : Partners F)
      → ArePartnersOf B targets graph table (Jump n a b) site partners
      → HaveSame (parts_at B targets (Jump n a b) f site partners) (jump_parts K (found table) (edges_at graph.facts n site own) n a b f)
  jump-same n a b f (Normal edges) own partners are =
      let flats : List (Key × F) = flat_map (flat_parts B targets a b f) edges in
      let listed : List (Key × F) = flat_map (λ e. flat_listed K (found table) e a b f) (edges_from graph.facts n edges own) in
      same-nil flats listed (same-of flats listed (flats-same n a b f edges own))
  jump-same n a b f (Call calls along) own (Entries summaries) are = call-same n a b f calls along own summaries are
  jump-same n a b f (Call calls along) own (Callers reaching) are = elim are [ ]
  jump-same n a b f (Exit start callers) own (Entries entries) are = elim are [ ]
  jump-same n a b f (Exit start callers) own (Callers reaching) are =
      let exits : List (Key × F) = flat_map (λ source. exit_parts B targets b f source (slice_get callers source.caller)) reaching in
      let listed : List (Key × F) = flat_map (exit_listed K (found table) a b f) (callers_at graph.facts n callers own) in
      same-of exits listed
      (ap (flat_map (λ source. exit_parts B targets b f source (slice_get callers source.caller))) are
      ∙ callers-same A B targets (edges_of graph.facts graph.sites all (start_at graph)) (found table) n a b f (slice_get callers) 0 callers own
      (λ k. let same : 0 + k ≡ k = omega arith in ap (slice_get callers) same))

  summary-same : (c b d : ℕ) (s : F) (site : Site) (own : HasLawfulEdges graph.facts site) (partners : Partners F)
      → ArePartnersOf B targets graph table (Summary c b d) site partners
      → HaveSame (parts_at B targets (Summary c b d) s site partners) (flat_map (resumed_listed K (found table) c b d s) (edges_at graph.facts c site own).return_sites)
  summary-same c b d s (Normal edges) own (Entries jumps) are = same-of {T = Key × F} [] [] refl
  summary-same c b d s (Normal edges) own (Callers reaching) are = same-of {T = Key × F} [] [] refl
  summary-same c b d s (Call calls along) own (Entries jumps) are =
      same-nil (resumed_parts B targets along.end d s jumps) (resumed_listed K (found table) c b d s along.end) (resumed-same c b d s along.end jumps are)
  summary-same c b d s (Call calls along) own (Callers reaching) are = elim are [ ]
  summary-same c b d s (Exit start callers) own (Entries jumps) are = same-of {T = Key × F} [] [] refl
  summary-same c b d s (Exit start callers) own (Callers reaching) are = same-of {T = Key × F} [] [] refl

  -- a task's parts are those that are listed of its key
  parts-same : (key : Key) (f : F) (site : Site) (partners : Partners F) → found table key ≡ Some f → slice_get graph.sites (node_of key) ≡ Some site
      → ArePartnersOf B targets graph table key site partners
      → HaveSame (parts_at B targets key f site partners) (parts_of K (found table) (node_edges graph.facts graph.sites all) key)
  parts-same (Jump n a b) f site partners present stands are =
      let here : NodeEdges K.graph.Edge = node_edges graph.facts graph.sites all n in
      let at = at-site graph.facts n (slice_get graph.sites n) (all n) site stands in
      subst (HaveSame (parts_at B targets (Jump n a b) f site partners))
      (sym (ap (λ o. if_some o (jump_parts K (found table) here n a b)) present ∙ ap (λ h. jump_parts K (found table) h n a b f) at.1))
      (jump-same n a b f site at.0 partners are)
  parts-same (Summary c b d) f site partners present stands are =
      let here : NodeEdges K.graph.Edge = node_edges graph.facts graph.sites all c in
      let at = at-site graph.facts c (slice_get graph.sites c) (all c) site stands in
      subst (HaveSame (parts_at B targets (Summary c b d) f site partners))
      (sym (ap (λ o. if_some o (λ s. flat_map (resumed_listed K (found table) c b d s) here.return_sites)) present
      ∙ ap (λ h. flat_map (resumed_listed K (found table) c b d f) h.return_sites) at.1))
      (summary-same c b d f site at.0 partners are)

  -- so it owes what a claim of the key does
  pub task-owes : (task : TaskData F) → IsTaskOf B targets graph table task
      → ArePartsOf K (found table) task.key (parts_of K (found table) (node_edges graph.facts graph.sites all) task.key)
      → ArePartsOf K (found table) task.key (owed B targets task)
  task-owes task is listed =
      let same = parts-same task.key task.function task.site task.partners is.function is.site is.partners in
      record {
        complete = λ ks k g instance among. same.back (k, g) (listed.complete ks k g instance among);
        right = λ k g part. listed.right k g (same.there (k, g) part);
      }

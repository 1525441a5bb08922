-- The sites of a program's graph fit together.
use Rattle.std.proofs.Common.{◌≡◌, ℕ, zero, suc, ◌+◌, ◌<◌, ◌≤◌, List, [], ◌∷◌, Option, None, Some, ◌++◌, get_or, take, map, length, refl, sym, ap, subst, ◌∙◌, arith}
use Rattle.std.specs.Prelude.{slice_get, slice_index}
use Rattle.std.specs.List.{Contains, All}
use Rattle.std.specs.Option.{option_map, option_to_list}
use Rattle.std.proofs.lemmas.List.{take_all}
use Rattle.std.proofs.lemmas.Option.{get_or_from_slice_get, slice_get_within, slice_get-map}
use Rattle.ide_text.specs.declared.program.Procedure.{Procedure}
use Rattle.ide_text.specs.declared.program.Program.{Program}
use Rattle.ide_text.specs.declared.program.Statement.TheVariants.{Call as calls}
use Rattle.ide_text.specs.Grammar.{IsProcedure, IsStatement}
use Rattle.ide_text.specs.Limits.{limits_program}
use Rattle.ide_text.specs.Program.{procedures_of}
use Rattle.ide_graph.specs.declared.edge.EdgeData.{EdgeData}
use Rattle.ide_graph.specs.declared.edge.EdgeKind.TheVariants as kind
use Rattle.ide_graph.specs.declared.site.Caller.{Caller}
use Rattle.ide_graph.specs.declared.site.Site.{Site}
use Rattle.ide_graph.specs.declared.site.Site.TheVariants.{Normal, Call, Exit}
use Rattle.ide_graph.specs.Building.{AllHaveFacts}
use Rattle.ide_graph.specs.EdgeLaws.{StayWithin}
use Rattle.ide_graph.specs.GraphOf.{IsGraphOf}
use Rattle.ide_graph.specs.Joined.{HasFlat, HasCall, ReturnsTo, HasCaller, IsEntered, IsLeft, start_at, SitesOfProgramsAreJoined}
use Rattle.ide_graph.specs.Lists.{Lists}
use Rattle.ide_graph.specs.Numbers.{Spot, statement, exit, nodes_of, start_of, exit_of, result_of}
use Rattle.ide_graph.specs.ProgramEdges.{edge_of, ArePassed, CallAt, IsNormal, HasEdgesOf, IsAlong, IsTargetFact, IsCall, IsCallFrom, IsCallerOf, IsExitSite, IsPlain, IsSiteOf}
use Rattle.ide_graph.specs.Supergraph.{Supergraph}
use Rattle.ide_graph.proofs.CallSiteLemmas.{callee_found}
use Rattle.ide_graph.proofs.CallLemmas.{arguments_known, passed_more, passed_none, targets_known}
use Rattle.ide_graph.proofs.DeclaredLemmas.{procedure_known}
use Rattle.ide_graph.proofs.NodeLemmas.{located}
use Rattle.ide_graph.proofs.ProgramLemmas.{same_spot, statement_of}
use Rattle.ide_graph.proofs.SliceLemmas.{each_of, contains_at, element_of}
use Rattle.ide_graph.proofs.WithinLemmas.{exit_at, normal_within, along_reaches, call_enters, back_returns}

-- what holds of each element holds of one that is there
of_each : {X : Type 0} (P : X → Type 0) (xs : List X) (x : X) → All P xs → Contains xs x → P x
of_each P xs x all there = subst P there.2 (all there.0 x there.1)

-- a call with a target assigns a fact
assigned_exists : (p : Program) (q : Procedure) (target : Option (List ℕ)) → AllHaveFacts p q (option_to_list target) → (fact : Option ℕ) × IsTargetFact p q target fact
assigned_exists p q None known = (None, refl)
assigned_exists p q (Some x) known = let found = known x (0, omega arith, refl) in (Some found.0, (found.0, found.1, refl))

-- arguments that all have facts are passed to parameters
passed_up_to : (p : Program) (q : Procedure) (arguments : List (List ℕ)) → AllHaveFacts p q arguments → (i : ℕ) → i ≤ length arguments
    → (pairs : List (ℕ × ℕ)) × ArePassed p q (take i arguments) pairs
passed_up_to p q arguments known zero within = ([], passed_none p q)
passed_up_to p q arguments known (suc i) within =
    let rest = passed_up_to p q arguments known i (omega (arith, within)) in
    let argument = element_of arguments i (omega (arith, within)) in
    let fact = known argument.0 (contains_at arguments i argument.0 argument.1) in
    let at : argument.0 ≡ get_or arguments i argument.0 = sym (get_or_from_slice_get arguments i argument.0 argument.0 argument.1) in
    let next : i + 1 ≡ suc i = omega arith in
    let pairs : List (ℕ × ℕ) = rest.0 ++ (fact.0, result_of p + 1 + i) ∷ [] in
    (pairs, subst (λ k. ArePassed p q (take k arguments) pairs) next (passed_more p q arguments rest.0 argument.0 fact.0 i (omega (arith, within)) at rest.1 fact.1))

-- a call has an edge to a callee
called : (p : Program) → (n : ℕ) (at : CallAt p n) → (callee : ℕ) × (e : EdgeData) × IsCall p n callee e
called p n at =
    let place = statement_of p n at.index at.procedure (calls at.target at.callees at.arguments) at.stands in
    let lines = each_of IsProcedure (procedures_of p) at.index at.procedure (limits_program p.draft p.limits).procedures at.stands.owner in
    let line = each_of IsStatement at.procedure.statements.items place.0 (calls at.target at.callees at.arguments) lines.statements place.1 in
    let name = element_of at.callees.items 0 (omega (arith, line.1)) in
    let there : Contains at.callees.items name.0 = contains_at at.callees.items 0 name.0 name.1 in
    let callee = procedure_known p at.index at.procedure at.stands.owner place.0 (calls at.target at.callees at.arguments) place.1 name.0 there in
    let passed = passed_up_to p at.procedure at.arguments.items (arguments_known p n at) (length at.arguments.items) (omega arith) in (
      callee.0,
      edge_of p (start_of (procedures_of p) callee.0) (kind.Call passed.0),
      record {
        call = at;
        called = (name.0, there, callee.1);
        pairs = passed.0;
        passed = subst (λ xs. ArePassed p at.procedure xs passed.0) (take_all (length at.arguments.items) at.arguments.items (omega arith)) passed.1;
        is = refl;
      },
    )

module _ (p : Program) where
  -- at an exit stands the site of its procedure
  exit_site : (n i : ℕ) (s : Site) → slice_get (nodes_of (procedures_of p)) n ≡ Some (i, exit) → IsSiteOf p n s
      → (begin : ℕ) × (callers : List Caller) × (s ≡ Exit begin callers) × IsExitSite p n begin callers
  exit_site n i (Normal edges) at is = absurd (subst IsPlain (same_spot p n is.0.index i is.0.spot exit is.0.node at).1 is.0.plain)
  exit_site n i (Call edges along) at is =
      let call = is.1.call in
      let same : statement (calls call.target call.callees call.arguments) ≡ exit =
      (same_spot p n call.index i (statement (calls call.target call.callees call.arguments)) exit call.stands.node at).1 in
      absurd (let none : ⊥ = cc in none)
  exit_site n i (Exit begin callers) at is = (begin, callers, refl, is)

  -- at a call node stands the site of a call
  call_site : (n : ℕ) (s : Site) → CallAt p n → IsSiteOf p n s
      → (edges : List EdgeData) × (along : EdgeData) × (s ≡ Call edges along) × Lists (IsCallFrom p n) (λ edge. edge.end) edges × IsAlong p n along
  call_site n (Normal edges) at is =
      absurd (subst IsPlain (same_spot p n is.0.index at.index is.0.spot (statement (calls at.target at.callees at.arguments)) is.0.node at.stands.node).1 is.0.plain)
  call_site n (Call edges along) at is = (edges, along, refl, is.0, is.1)
  call_site n (Exit begin callers) at is =
      let same : exit ≡ statement (calls at.target at.callees at.arguments) =
      (same_spot p n is.index at.index exit (statement (calls at.target at.callees at.arguments)) is.node at.stands.node).1 in
      absurd (let none : ⊥ = cc in none)

module _ (p : Program) (graph : Supergraph) (is : IsGraphOf p graph) (has : HasEdgesOf p graph) where
  -- the procedure of a node is the one whose spot stands there
  pub node_owner : (n i : ℕ) (spot : Spot) → slice_get (nodes_of (procedures_of p)) n ≡ Some (i, spot) → slice_index graph.owners n ≡ i
  node_owner n i spot at =
      ap (λ xs. slice_index xs n) is.owners
      ∙ get_or_from_slice_get (map (λ (node : ℕ × Spot). node.0) (nodes_of (procedures_of p))) n i 0
      (slice_get-map (λ (node : ℕ × Spot). node.0) (nodes_of (procedures_of p)) n ∙ ap (option_map (λ (node : ℕ × Spot). node.0)) at)

  -- and it is one of the program
  pub owner_within : (n i : ℕ) (spot : Spot) → slice_get (nodes_of (procedures_of p)) n ≡ Some (i, spot) → i < length (procedures_of p)
  owner_within n i spot at =
      let found = located 0 (procedures_of p) n i spot at in
      omega (arith, found.index_is, slice_get_within (procedures_of p) found.j found.q found.owner)

  -- the procedure of a node begins where the graph says
  node_start : (n i : ℕ) (spot : Spot) → slice_get (nodes_of (procedures_of p)) n ≡ Some (i, spot) → start_at graph n ≡ start_of (procedures_of p) i
  node_start n i spot at = ap (slice_index graph.starts) (node_owner n i spot at) ∙ is.starts i (owner_within n i spot at)

  stays : (n m : ℕ) → StayWithin p n m → start_at graph m ≡ start_at graph n
  stays n m within = node_start m within.index within.second within.comes ∙ sym (node_start n within.index within.first within.leaves)

  -- each node has a site, with its edges
  site_at : (n i : ℕ) (spot : Spot) → slice_get (nodes_of (procedures_of p)) n ≡ Some (i, spot) → (s : Site) × (slice_get graph.sites n ≡ Some s) × IsSiteOf p n s
  site_at n i spot at =
      let within : n < length graph.sites = omega (arith, is.sited, slice_get_within (nodes_of (procedures_of p)) n (i, spot) at) in
      let found = element_of graph.sites n within in
      (found.0, found.1, has n found.0 found.1)

  pub flat_stays : (n : ℕ) (s : Site) (e : EdgeData) → IsSiteOf p n s → HasFlat s e → StayWithin p n e.end
  flat_stays n (Normal edges) e site there = normal_within p n e (of_each (IsNormal p n) edges e site.1.each there)
  flat_stays n (Call edges along) e site there = subst (λ (d : EdgeData). StayWithin p n d.end) (sym there) (along_reaches p n along site.1).0
  flat_stays n (Exit begin callers) e site there = absurd there

  pub call_from : (n : ℕ) (s : Site) (e : EdgeData) → IsSiteOf p n s → HasCall s e → IsCallFrom p n e
  call_from n (Normal edges) e site there = absurd there
  call_from n (Call edges along) e site there = of_each (IsCallFrom p n) edges e site.0.each there
  call_from n (Exit begin callers) e site there = absurd there

  callee_start : (n : ℕ) (e : EdgeData) → IsCallFrom p n e → start_at graph e.end ≡ e.end
  callee_start n e call =
      node_start e.end call.0 _ (call_enters p n call.0 e call.1) ∙ sym (ap (λ (d : EdgeData). d.end) call.1.is)

  -- the callee's exit knows the call
  entered : (n : ℕ) (e : EdgeData) → IsCallFrom p n e → IsEntered graph.sites n e
  entered n e call =
      let it : IsCall p n call.0 e = call.1 in
      let callee = callee_found p it.call.callees.items call.0 it.called in
      let last : slice_get (nodes_of (procedures_of p)) (exit_of (procedures_of p) call.0) ≡ Some (call.0, exit) = exit_at p call.0 callee.0 callee.1 in
      let found = site_at (exit_of (procedures_of p) call.0) call.0 exit last in
      let here = exit_site p (exit_of (procedures_of p) call.0) call.0 found.0 last found.2 in
      let index : here.3.index ≡ call.0 = (same_spot p (exit_of (procedures_of p) call.0) here.3.index call.0 exit exit here.3.node last).0 in
      let assigned = assigned_exists p it.call.procedure it.call.target (targets_known p n it.call) in
      let back : EdgeData = edge_of p (n + 1) (kind.Return assigned.0) in
      let caller : Caller = record { call_node = n; call = e; back = back } in
      let known : IsCallerOf p here.3.index caller =
      subst (λ i. IsCallerOf p i caller) (sym index) (it, record { call = it.call; called = it.called; target = assigned.0; assigned = assigned.1; is = refl }) in
      record {
        exit = exit_of (procedures_of p) call.0;
        site = Exit here.0 here.1;
        caller = caller;
        stands = found.1 ∙ ap (λ s. Some s) here.2;
        has = here.3.listed.whole caller known;
        node = refl;
        call = refl;
      }

  callers_left : (m : ℕ) (s : Site) (c : Caller) → IsSiteOf p m s → HasCaller s c → IsLeft graph.sites (start_at graph) m c
  callers_left m (Normal edges) c site there = absurd there
  callers_left m (Call edges along) c site there = absurd there
  callers_left m (Exit begin callers) c site there =
      let it : IsCallerOf p site.index c = of_each (IsCallerOf p site.index) callers c site.listed.each there in
      let at : CallAt p c.call_node = it.0.call in
      let found = site_at c.call_node at.index (statement (calls at.target at.callees at.arguments)) at.stands.node in
      let here = call_site p c.call_node found.0 at found.2 in
      record {
        site = Call here.0 here.1;
        stands = found.1 ∙ ap (λ s. Some s) here.2;
        has = here.3.whole c.call (site.index, it.0);
        returns = ap (λ (d : EdgeData). d.end) it.1.is ∙ sym (ap (λ (d : EdgeData). d.end) here.4.is);
        exit = node_start m site.index exit site.node ∙ sym (ap (λ (d : EdgeData). d.end) it.0.is);
        back = stays c.call_node c.back.end (back_returns p c.call_node site.index c.back it.1).within;
      }

  some_call : (n : ℕ) (s : Site) (m : ℕ) → IsSiteOf p n s → ReturnsTo s m → (e : EdgeData) × HasCall s e
  some_call n (Normal edges) m site there = absurd there
  some_call n (Call edges along) m site there =
      let call = called p n site.1.call in
      (call.1, site.0.whole call.1 (call.0, call.2))
  some_call n (Exit begin callers) m site there = absurd there

pub sites_joined : SitesOfProgramsAreJoined
sites_joined p graph is has = record {
  flat = λ n s e at there. stays p graph is has n e.end (flat_stays p graph is has n s e (has n s at) there);
  callee = λ n s e at there. callee_start p graph is has n e (call_from p graph is has n s e (has n s at) there);
  entered = λ n s e at there. entered p graph is has n e (call_from p graph is has n s e (has n s at) there);
  left = λ m s c at there. callers_left p graph is has m s c (has m s at) there;
  some = λ n s m at there. some_call p graph is has n s m (has n s at) there;
}

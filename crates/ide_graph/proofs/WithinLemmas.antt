-- Which edges stay in a procedure, and which enter and leave one.
use Rattle.std.proofs.Common.{◌≡◌, ◌≢◌, ℕ, suc, ◌+◌, ◌-◌, ◌<◌, List, Some, None, inl, inr, length, refl, sym, ap, subst, ◌∙◌, arith}
use Rattle.std.specs.Prelude.{slice_get}
use Rattle.ide_text.specs.declared.program.Procedure.{Procedure}
use Rattle.ide_text.specs.declared.program.Program.{Program}
use Rattle.ide_text.specs.declared.program.Statement.TheVariants.{Assign, Skip, At, Goto, Branch, Call, Return}
use Rattle.ide_text.specs.Program.{procedures_of}
use Rattle.ide_graph.specs.declared.edge.EdgeData.{EdgeData}
use Rattle.ide_graph.specs.declared.edge.Effect.{Effect}
use Rattle.ide_graph.specs.EdgeLaws.{StayWithin, NormalEdgesStayWithin, AlongEdgesReachTheReturnSite, CallEdgesEnter, BackEdgesReturn, ReturnSitesFollowCalls}
use Rattle.ide_graph.specs.Numbers.{Spot, start, statement, return_site, exit, nodes_of, spots_of, start_of, exit_of, label_from}
use Rattle.ide_graph.specs.ProgramEdges.{CallAt, Goes, Stands}
use Rattle.ide_graph.proofs.CallSiteLemmas.{callee_found}
use Rattle.ide_graph.proofs.NodeLemmas.{exits, located, spots_two, stands_at}
use Rattle.ide_graph.proofs.ProgramLemmas.{place_in}
use Rattle.ide_graph.proofs.SliceLemmas.{element_of}
use Rattle.ide_graph.proofs.SpotLemmas.{call_followed, exit_stands, label_in, next_in, site_follows, start_in}

module _ (p : Program) where
  -- a node of the i-th procedure, and not its start
  abbrev Inner : ℕ → ℕ → Type 0
  Inner i n = (spot : Spot) × (slice_get (nodes_of (procedures_of p)) n ≡ Some (i, spot)) × (spot ≢ start)

  next_inner : (n i : ℕ) (q : Procedure) (spot : Spot) → Stands p n i q spot → spot ≢ exit → (end : ℕ) → end ≡ n + 1 → Inner i end
  next_inner n i q spot stands more end is =
      let at = place_in p n i q spot stands in
      let within : suc at.0 < length (spots_of q) = next_in q at.0 spot at.2 more in
      let next = element_of (spots_of q) (suc at.0) within in
      let place : start_of (procedures_of p) i + suc at.0 ≡ end = omega (arith, at.1, is) in (
        next.0,
        subst (λ m. slice_get (nodes_of (procedures_of p)) m ≡ Some (i, next.0)) place (stands_at (procedures_of p) i (suc at.0) q next.0 stands.owner next.1),
        λ e. let first : suc at.0 ≡ 0 = start_in q (suc at.0) (next.1 ∙ ap (λ s. Some s) e) in absurd (omega (arith, first)),
      )

  label_inner : (i : ℕ) (q : Procedure) → slice_get (procedures_of p) i ≡ Some q → (l : List ℕ) (end : ℕ) → label_from (start_of (procedures_of p) i) q l ≡ Some end → Inner i end
  label_inner i q owner l end e =
      let at = label_in q (start_of (procedures_of p) i) l end e in
      (statement at.1, subst (λ m. slice_get (nodes_of (procedures_of p)) m ≡ Some (i, statement at.1)) (sym at.2) (stands_at (procedures_of p) i at.0 q (statement at.1) owner at.3), λ e. cc)

  pub exit_at : (i : ℕ) (q : Procedure) → slice_get (procedures_of p) i ≡ Some q → slice_get (nodes_of (procedures_of p)) (exit_of (procedures_of p) i) ≡ Some (i, exit)
  exit_at i q owner =
      let k : ℕ = length (spots_of q) - 1 in
      let last : suc k ≡ length (spots_of q) = omega (arith, spots_two (procedures_of p) q) in
      let place : start_of (procedures_of p) i + k ≡ exit_of (procedures_of p) i = omega (arith, last, exits (procedures_of p) i q owner) in
      subst (λ m. slice_get (nodes_of (procedures_of p)) m ≡ Some (i, exit)) place (stands_at (procedures_of p) i k q exit owner (exit_stands q k last))

  exit_inner : (i : ℕ) (q : Procedure) → slice_get (procedures_of p) i ≡ Some q → (end : ℕ) → end ≡ exit_of (procedures_of p) i → Inner i end
  exit_inner i q owner end is = (exit, ap (λ m. slice_get (nodes_of (procedures_of p)) m) is ∙ exit_at i q owner, λ e. cc)

  goes_inner : (n i : ℕ) (q : Procedure) (spot : Spot) → Stands p n i q spot → (end : ℕ) (effect : Effect) → Goes p n i q spot end effect → Inner i end
  goes_inner n i q start stands end effect g = next_inner n i q start stands (λ e. cc) end g.0
  goes_inner n i q (statement (Assign x r)) stands end effect g = next_inner n i q (statement (Assign x r)) stands (λ e. cc) end g.0
  goes_inner n i q (statement Skip) stands end effect g = next_inner n i q (statement Skip) stands (λ e. cc) end g.0
  goes_inner n i q (statement (At l)) stands end effect g = next_inner n i q (statement (At l)) stands (λ e. cc) end g.0
  goes_inner n i q (statement (Goto l)) stands end effect g = label_inner i q stands.owner l end g.0
  goes_inner n i q (statement (Branch l)) stands end effect g =
      elim g.0 as (λ w. Inner i end) [ inl next ↦ next_inner n i q (statement (Branch l)) stands (λ e. cc) end next | inr there ↦ label_inner i q stands.owner l end there ]
  goes_inner n i q (statement (Call target callees arguments)) stands end effect g = absurd g
  goes_inner n i q (statement (Return None)) stands end effect g = exit_inner i q stands.owner end g.0
  goes_inner n i q (statement (Return (Some y))) stands end effect g = exit_inner i q stands.owner end g.0
  goes_inner n i q return_site stands end effect g = next_inner n i q return_site stands (λ e. cc) end g.0
  goes_inner n i q exit stands end effect g = absurd g

  -- past a call node stands its return site
  site_at : (n : ℕ) (at : CallAt p n) (end : ℕ) → end ≡ n + 1 → slice_get (nodes_of (procedures_of p)) end ≡ Some (at.index, return_site)
  site_at n at end is =
      let place = place_in p n at.index at.procedure (statement (Call at.target at.callees at.arguments)) at.stands in
      let there : start_of (procedures_of p) at.index + suc place.0 ≡ end = omega (arith, place.1, is) in
      subst (λ m. slice_get (nodes_of (procedures_of p)) m ≡ Some (at.index, return_site)) there
      (stands_at (procedures_of p) at.index (suc place.0) at.procedure return_site at.stands.owner (call_followed at.procedure place.0 at.target at.callees at.arguments place.2))

  call_within : (n : ℕ) (at : CallAt p n) (end : ℕ) → end ≡ n + 1 → StayWithin p n end
  call_within n at end is = record {
    index = at.index;
    first = statement (Call at.target at.callees at.arguments);
    second = return_site;
    leaves = at.stands.node;
    comes = site_at n at end is;
    inner = λ e. cc;
  }

pub normal_within : NormalEdgesStayWithin
normal_within p n edge normal =
    let inner = goes_inner p n normal.index normal.procedure normal.spot normal.stands edge.end normal.effect normal.goes in
    record { index = normal.index; first = normal.spot; second = inner.0; leaves = normal.stands.node; comes = inner.1; inner = inner.2 }

pub along_reaches : AlongEdgesReachTheReturnSite
along_reaches p n edge along =
    let end : edge.end ≡ n + 1 = ap (λ (e : EdgeData). e.end) along.is in
    (call_within p n along.call edge.end end, along.call.index, site_at p n along.call edge.end end)

pub call_enters : CallEdgesEnter
call_enters p n callee edge call =
    let end : edge.end ≡ start_of (procedures_of p) callee = ap (λ (e : EdgeData). e.end) call.is in
    let q = callee_found p call.call.callees.items callee call.called in
    let place : start_of (procedures_of p) callee + 0 ≡ edge.end = omega (arith, end) in
    subst (λ m. slice_get (nodes_of (procedures_of p)) m ≡ Some (callee, start)) place (stands_at (procedures_of p) callee 0 q.0 start q.1 refl)

pub back_returns : BackEdgesReturn
back_returns p n callee edge back =
    let end : edge.end ≡ n + 1 = ap (λ (e : EdgeData). e.end) back.is in
    let q = callee_found p back.call.callees.items callee back.called in
    record {
      leaves = exit_at p callee q.0 q.1;
      after = end;
      index = back.call.index;
      comes = site_at p n back.call edge.end end;
      within = call_within p n back.call edge.end end;
    }

pub sites_follow : ReturnSitesFollowCalls
sites_follow p m index e =
    let l = located 0 (procedures_of p) m index return_site e in
    let site = site_follows l.q l.k l.stands in
    let n : ℕ = start_of (procedures_of p) l.j + site.0 in (
      n,
      omega (arith, l.at, site.4),
      record {
        index = l.j;
        procedure = l.q;
        target = site.1;
        callees = site.2;
        arguments = site.3;
        stands = record { node = stands_at (procedures_of p) l.j site.0 l.q (statement (Call site.1 site.2 site.3)) l.owner site.5; owner = l.owner };
      },
    )

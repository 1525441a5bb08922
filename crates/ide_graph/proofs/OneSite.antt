-- A node has one site.
use Rattle.std.proofs.Common.{◌≡◌, ℕ, List, sym, ap, subst, ◌∙◌}
use Rattle.ide_text.specs.declared.program.Program.{Program}
use Rattle.ide_text.specs.declared.program.Statement.TheVariants.{Call}
use Rattle.ide_text.specs.Program.{procedures_of}
use Rattle.ide_graph.specs.declared.edge.EdgeData.{EdgeData}
use Rattle.ide_graph.specs.declared.site.Caller.{Caller}
use Rattle.ide_graph.specs.declared.site.Site.TheVariants as site
use Rattle.ide_graph.specs.EdgeLaws.{NodesHaveOneSite}
use Rattle.ide_graph.specs.Lists.{Lists}
use Rattle.ide_graph.specs.Numbers.{statement, exit, start_of}
use Rattle.ide_graph.specs.ProgramEdges.{CallAt, IsCallFrom, IsCallerOf, IsExitSite, IsNormal, IsPlain, IsPlainNode}
use Rattle.ide_graph.proofs.CallSiteLemmas.{along_once}
use Rattle.ide_graph.proofs.ListsLemmas.{lists_once}
use Rattle.ide_graph.proofs.ProgramLemmas.{same_spot}

module _ (p : Program) (n : ℕ) where
  plain_no_call : IsPlainNode p n → CallAt p n → ⊥
  plain_no_call a c =
      let same = same_spot p n a.index c.index a.spot (statement (Call c.target c.callees c.arguments)) a.node c.stands.node in
      subst IsPlain same.1 a.plain

  plain_no_exit : (begin : ℕ) (callers : List Caller) → IsPlainNode p n → IsExitSite p n begin callers → ⊥
  plain_no_exit begin callers a e = let same = same_spot p n a.index e.index a.spot exit a.node e.node in subst IsPlain same.1 a.plain

  call_no_exit : (begin : ℕ) (callers : List Caller) → CallAt p n → IsExitSite p n begin callers → ⊥
  call_no_exit begin callers c e =
      let same = (same_spot p n c.index e.index (statement (Call c.target c.callees c.arguments)) exit c.stands.node e.node).1 in
      let none : ⊥ = cc same in none

pub one_site : NodesHaveOneSite
one_site p n (site.Normal a) (site.Normal b) x y = ap (λ edges. site.Normal edges) (lists_once (λ (e : EdgeData). e.end) (IsNormal p n) a b x.1 y.1)
one_site p n (site.Normal a) (site.Call b other) x y = absurd (plain_no_call p n x.0 y.1.call)
one_site p n (site.Normal a) (site.Exit other b) x y = absurd (plain_no_exit p n other b x.0 y)
one_site p n (site.Call a along) (site.Normal b) x y = absurd (plain_no_call p n y.0 x.1.call)
one_site p n (site.Call a along) (site.Call b other) x y =
    let calls : a ≡ b = lists_once (λ (e : EdgeData). e.end) (IsCallFrom p n) a b x.0 y.0 in
    let over : along ≡ other = along_once p n along other x.1 y.1 in
    cc
one_site p n (site.Call a along) (site.Exit other b) x y = absurd (call_no_exit p n other b x.1.call y)
one_site p n (site.Exit begin a) (site.Normal b) x y = absurd (plain_no_exit p n begin a y.0 x)
one_site p n (site.Exit begin a) (site.Call b other) x y = absurd (call_no_exit p n begin a y.1.call x)
one_site p n (site.Exit begin a) (site.Exit other b) x y =
    let index = (same_spot p n x.index y.index exit exit x.node y.node).0 in
    let start : begin ≡ other = x.begins ∙ (ap (start_of (procedures_of p)) index ∙ sym y.begins) in
    let callers : a ≡ b =
    lists_once (λ (c : Caller). c.call_node) (IsCallerOf p y.index) a b (subst (λ i. Lists (IsCallerOf p i) (λ caller. caller.call_node) a) index x.listed) y.listed in
    cc

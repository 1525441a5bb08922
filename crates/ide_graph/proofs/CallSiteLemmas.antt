-- The edges out of a call node.
use Rattle.std.proofs.Common.{◌≡◌, ℕ, ◌+◌, ◌<◌, List, Option, Some, None, get_or, length, sym, ap, subst, ◌∙◌, arith}
use Rattle.std.specs.Prelude.{slice_get}
use Rattle.std.specs.Global.{Vec}
use Rattle.std.specs.List.{AllZip}
use Rattle.std.proofs.lemmas.List.{same_lists}
use Rattle.std.proofs.lemmas.Option.{get_or_from_slice_get, same_Some}
use Rattle.ide_text.specs.declared.program.Procedure.{Procedure}
use Rattle.ide_text.specs.declared.program.Program.{Program}
use Rattle.ide_text.specs.declared.program.Statement.TheVariants.{Call}
use Rattle.ide_text.specs.Names.{is_named}
use Rattle.ide_text.specs.Program.{procedures_of}
use Rattle.ide_graph.specs.declared.edge.EdgeData.{EdgeData}
use Rattle.ide_graph.specs.declared.edge.EdgeKind.TheVariants as kind
use Rattle.ide_graph.specs.Lists.{Lists}
use Rattle.ide_graph.specs.Numbers.{statement, start_of, result_of}
use Rattle.ide_graph.specs.ProgramEdges.{ArePassed, CallAt, IsAlong, IsTargetFact, IsBack, IsCall, IsCallFrom, IsCallee, edge_of}
use Rattle.ide_graph.proofs.FoundLemmas.{there}
use Rattle.ide_graph.proofs.NodeLemmas.{spots_two, starts_apart}
use Rattle.ide_graph.proofs.ProgramLemmas.{same_spot, same_owner}
use Rattle.ide_graph.proofs.SliceLemmas.{element_of}
use Rattle.ide_graph.proofs.ZipLemmas.{zip_at, zip_length}

-- two calls that stand at one node are one
pub record SameCall (p : Program) (n : ℕ) (a b : CallAt p n) : Type 0 where
  pub index : a.index ≡ b.index
  pub procedure : a.procedure ≡ b.procedure
  pub target : a.target ≡ b.target
  pub callees : a.callees ≡ b.callees
  pub arguments : a.arguments ≡ b.arguments

module _ (p : Program) where
  pub same_call : (n : ℕ) (a b : CallAt p n) → SameCall p n a b
  same_call n a b =
      let same = same_spot p n a.index b.index (statement (Call a.target a.callees a.arguments)) (statement (Call b.target b.callees b.arguments)) a.stands.node b.stands.node in
      let spot = same.1 in
      record {
        index = same.0;
        procedure = same_owner p a.index b.index a.procedure b.procedure same.0 a.stands.owner b.stands.owner;
        target = cc spot;
        callees = cc spot;
        arguments = cc spot;
      }

  passed_once : (q : Procedure) (arguments : List (List ℕ)) (xs ys : List (ℕ × ℕ)) → ArePassed p q arguments xs → ArePassed p q arguments ys → xs ≡ ys
  passed_once q arguments xs ys a b =
      same_lists xs ys (a.each_once ∙ sym b.each_once)
      (λ k d within.
      let found = element_of arguments k (omega (arith, a.each_once, within)) in
      let x = a.in_place k found.0 found.1 in
      let y = b.in_place k found.0 found.1 in
      let fact : x.0 ≡ y.0 = same_Some x.0 y.0 (sym x.1 ∙ y.1) in
      get_or_from_slice_get xs k (x.0, result_of p + 1 + k) d x.2 ∙ (ap (λ f. (f, result_of p + 1 + k)) fact ∙ sym (get_or_from_slice_get ys k (y.0, result_of p + 1 + k) d y.2)))

  assigned_once : (q : Procedure) (target : Option (List ℕ)) (a b : Option ℕ) → IsTargetFact p q target a → IsTargetFact p q target b → a ≡ b
  assigned_once q None a b x y = x ∙ sym y
  assigned_once q (Some name) a b x y = x.2 ∙ (ap (λ f. Some f) (same_Some x.0 y.0 (sym x.1 ∙ y.1)) ∙ sym y.2)

  -- one call edge goes from a node to a callee
  pub call_once : (n callee : ℕ) (a b : EdgeData) → IsCall p n callee a → IsCall p n callee b → a ≡ b
  call_once n callee a b x y =
      let same = same_call n x.call y.call in
      let passed : ArePassed p y.call.procedure y.call.arguments.items x.pairs =
      subst (λ (v : Vec (List ℕ)). ArePassed p y.call.procedure v.items x.pairs) same.arguments (subst (λ q. ArePassed p q x.call.arguments.items x.pairs) same.procedure x.passed) in
      let pairs : x.pairs ≡ y.pairs = passed_once y.call.procedure y.call.arguments.items x.pairs y.pairs passed y.passed in
      x.is ∙ (ap (λ ps. edge_of p (start_of (procedures_of p) callee) (kind.Call ps)) pairs ∙ sym y.is)

  pub back_once : (n callee : ℕ) (a b : EdgeData) → IsBack p n callee a → IsBack p n callee b → a ≡ b
  back_once n callee a b x y =
      let same = same_call n x.call y.call in
      let assigned : IsTargetFact p y.call.procedure y.call.target x.target =
      subst (λ t. IsTargetFact p y.call.procedure t x.target) same.target (subst (λ q. IsTargetFact p q x.call.target x.target) same.procedure x.assigned) in
      let target : x.target ≡ y.target = assigned_once y.call.procedure y.call.target x.target y.target assigned y.assigned in
      x.is ∙ (ap (λ t. edge_of p (n + 1) (kind.Return t)) target ∙ sym y.is)

  pub along_once : (n : ℕ) (a b : EdgeData) → IsAlong p n a → IsAlong p n b → a ≡ b
  along_once n a b x y =
      let same = same_call n x.call y.call in
      let assigned : IsTargetFact p y.call.procedure y.call.target x.target =
      subst (λ t. IsTargetFact p y.call.procedure t x.target) same.target (subst (λ q. IsTargetFact p q x.call.target x.target) same.procedure x.assigned) in
      let target : x.target ≡ y.target = assigned_once y.call.procedure y.call.target x.target y.target assigned y.assigned in
      x.is ∙ (ap (λ t. edge_of p (n + 1) (kind.CallToReturn t)) target ∙ sym y.is)

  pub callee_found : (names : List (List ℕ)) (callee : ℕ) → IsCallee p names callee → (q : Procedure) × (slice_get (procedures_of p) callee ≡ Some q)
  callee_found names callee called = let r = there (is_named called.0) (procedures_of p) callee called.2 in (r.0, r.1)

  pub same_callee : (n callee : ℕ) (a b : CallAt p n) → IsCallee p a.callees.items callee → IsCallee p b.callees.items callee
  same_callee n callee a b called = subst (λ (v : Vec (List ℕ)). IsCallee p v.items callee) (same_call n a b).callees called

  -- the call edges to callees in ascending order are those of the call
  pub calls_listed : (n : ℕ) (at : CallAt p n) (callees : List ℕ) (edges : List EdgeData) → Lists (IsCallee p at.callees.items) (λ callee. callee) callees → AllZip (IsCall p n) callees edges → Lists (IsCallFrom p n) (λ edge. edge.end) edges
  calls_listed n at callees edges listed zipped =
      let long : length callees ≡ length edges = zip_length (IsCall p n) callees edges zipped in
      record {
        each = λ k d within. (get_or callees k 0, zip_at (IsCall p n) callees edges k 0 d zipped (omega (arith, long, within)));
        whole = λ edge from.
            let contained = listed.whole from.0 (same_callee n from.0 from.1.call at from.1.called) in
            let here : IsCall p n from.0 (get_or edges contained.0 edge) =
            subst (λ c. IsCall p n c (get_or edges contained.0 edge)) contained.2 (zip_at (IsCall p n) callees edges contained.0 from.0 edge zipped contained.1) in
            (contained.0, omega (arith, long, contained.1), call_once n from.0 (get_or edges contained.0 edge) edge here from.1);
        ascending = λ i j d less within.
            let first = zip_at (IsCall p n) callees edges i 0 d zipped (omega (arith, long)) in
            let second = zip_at (IsCall p n) callees edges j 0 d zipped (omega (arith, long)) in
            let below : get_or callees i 0 < get_or callees j 0 = listed.ascending i j 0 less (omega (arith, long)) in
            let q = callee_found first.call.callees.items (get_or callees i 0) first.called in
            let a : (get_or edges i d).end ≡ start_of (procedures_of p) (get_or callees i 0) = ap (λ (e : EdgeData). e.end) first.is in
            let b : (get_or edges j d).end ≡ start_of (procedures_of p) (get_or callees j 0) = ap (λ (e : EdgeData). e.end) second.is in
            omega (arith, a, b, starts_apart (procedures_of p) (get_or callees i 0) (get_or callees j 0) q.0 q.1 below, spots_two (procedures_of p) q.0);
      }

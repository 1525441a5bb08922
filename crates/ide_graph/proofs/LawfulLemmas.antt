-- The edges of a program are as a flow function may rely on.
use Rattle.std.proofs.Common.{◌≡◌, ◌≢◌, ℕ, zero, suc, ◌+◌, ◌<◌, ◌≤◌, List, [], ◌∷◌, Option, Some, None, codes, length, refl, sym, ap, subst, ◌∙◌, arith}
use Rattle.std.specs.Prelude.{slice_get, IfSome}
use Rattle.std.proofs.lemmas.List.{length-append}
use Rattle.std.proofs.lemmas.Option.{same_Some, slice_get_within}
use Rattle.std.proofs.lemmas.Slice.Eq.{bytes_eq-Decides}
use Rattle.ide_text.specs.declared.program.Expression.{Expression}
use Rattle.ide_text.specs.declared.program.Expression.TheVariants as expression
use Rattle.ide_text.specs.declared.program.Procedure.{Procedure}
use Rattle.ide_text.specs.declared.program.Program.{Program}
use Rattle.ide_text.specs.declared.program.Statement.{Statement}
use Rattle.ide_text.specs.declared.program.Statement.TheVariants.{Assign, Skip, At, Goto, Branch, Call, Return}
use Rattle.ide_text.specs.Grammar.{IsExpression, IsName, IsProcedure, IsStatement, HasNameBytes}
use Rattle.ide_text.specs.Limits.{limits_program}
use Rattle.ide_text.specs.Program.{globals_of, procedures_of}
use Rattle.ide_graph.specs.declared.edge.EdgeData.{EdgeData}
use Rattle.ide_graph.specs.declared.edge.EdgeKind.{EdgeKind}
use Rattle.ide_graph.specs.declared.edge.EdgeKind.TheVariants as kind
use Rattle.ide_graph.specs.declared.edge.Effect.{Effect}
use Rattle.ide_graph.specs.EdgeLaws.{EdgesAreLawful, IsLawful}
use Rattle.ide_graph.specs.Lawful.{AreParameters, IsAssigned as AssignsVariable, IsEffect, IsKind, IsVariable}
use Rattle.std.specs.Str.{bytes_eq}
use Rattle.ide_graph.specs.Numbers.{Spot, start, statement, return_site, exit, names_at, start_of, result_of, facts_of}
use Rattle.ide_graph.specs.ProgramEdges.{CallAt, Gives, Goes, HasFact, IsAlong, IsTargetFact, IsBack, IsCall, IsNormal, Stands, edge_of}
use Rattle.ide_graph.proofs.CallLemmas.{arguments_counted}
use Rattle.ide_graph.proofs.CallSiteLemmas.{callee_found}
use Rattle.ide_graph.proofs.FactLemmas.{own_within}
use Rattle.ide_graph.proofs.FoundLemmas.{there}
use Rattle.ide_graph.proofs.ProgramLemmas.{statement_of}
use Rattle.ide_graph.proofs.SliceLemmas.{each_of, element_of}

-- `@zero` is no name
no_zero : (x : List ℕ) → IsName x → x ≢ codes "@zero"
no_zero x name e = zero_bytes (subst HasNameBytes e name.0)
  where
    zero_bytes : HasNameBytes (codes "@zero") → ⊥
    zero_bytes h = let none : ⊥ = cc (h.0) in none

module _ (p : Program) (index : ℕ) (q : Procedure) (owner : slice_get (procedures_of p) index ≡ Some q) where
  pub fact_below : (x : List ℕ) (fact : ℕ) → HasFact p q x fact → fact < facts_of p
  fact_below x fact has =
      let at = there (bytes_eq x) (names_at (globals_of p) q) fact has in
      let short : fact < length (names_at (globals_of p) q) = slice_get_within (names_at (globals_of p) q) fact at.0 at.1 in
      let long : length (names_at (globals_of p) q) ≡ length (globals_of p) + 2 + length q.parameters.items + length q.locals.items =
      simp length-append (omega arith) in
      omega (arith, short, long, own_within p index q owner)

  -- a name that has fact 0 is `@zero`
  pub is_variable : (x : List ℕ) (fact : ℕ) → IsName x → HasFact p q x fact → IsVariable (facts_of p) fact
  is_variable x zero name has =
      let at = there (bytes_eq x) (names_at (globals_of p) q) 0 has in
      let same : codes "@zero" ≡ at.0 = same_Some (codes "@zero") at.0 at.1 in
      absurd (no_zero x name ((bytes_eq-Decides x at.0).0 at.2 ∙ sym same))
  is_variable x (suc fact) name has = (omega arith, fact_below x (suc fact) has)

  gives_effect : (target : ℕ) (e : Expression) (effect : Effect) → IsVariable (facts_of p) target → IsExpression e → Gives p q target e effect → IsEffect (result_of p) (facts_of p) effect
  gives_effect target (expression.Number k) effect v proper g = rw g (v, proper)
  gives_effect target (expression.Copy y) effect v proper g = rw g.2 (v, fact_below y g.0 g.1)
  gives_effect target (expression.Sum y k) effect v proper g = rw g.2 (v, fact_below y g.0 g.1, proper.1)
  gives_effect target (expression.Difference y k) effect v proper g = rw g.2 (v, fact_below y g.0 g.1, proper.1)
  gives_effect target expression.Unknown effect v proper g = rw g v
  gives_effect target (expression.Mix y z) effect v proper g = rw g.4 (v, fact_below y g.0 g.2, fact_below z g.1 g.3)

  result_variable : IsVariable (facts_of p) (result_of p)
  result_variable = (omega arith, omega (arith, own_within p index q owner))

  -- each statement is of the grammar
  abbrev AreProper : Type 0
  AreProper = (s : Statement) (n : ℕ) → Stands p n index q (statement s) → IsStatement s

  goes_effect : AreProper → (n : ℕ) (spot : Spot) → Stands p n index q spot → (end : ℕ) (effect : Effect) → Goes p n index q spot end effect → IsEffect (result_of p) (facts_of p) effect
  goes_effect proper n start stands end effect g = rw g.1 (omega arith, omega (arith, own_within p index q owner))
  goes_effect proper n (statement (Assign x r)) stands end effect g =
      let s = proper (Assign x r) n stands in
      gives_effect g.1 r effect (is_variable x g.1 s.0 g.2) s.1 g.3
  goes_effect proper n (statement Skip) stands end effect g = rw g.1 tt
  goes_effect proper n (statement (At l)) stands end effect g = rw g.1 tt
  goes_effect proper n (statement (Goto l)) stands end effect g = rw g.1 tt
  goes_effect proper n (statement (Branch l)) stands end effect g = rw g.1 tt
  goes_effect proper n (statement (Call target callees arguments)) stands end effect g = absurd g
  goes_effect proper n (statement (Return None)) stands end effect g = rw g.1 tt
  goes_effect proper n (statement (Return (Some y))) stands end effect g = rw g.3 (result_variable, fact_below y g.1 g.2)
  goes_effect proper n return_site stands end effect g = rw g.1 tt
  goes_effect proper n exit stands end effect g = absurd g

  assigned_variable : (target : Option (List ℕ)) (assigned : Option ℕ) → IfSome target IsName → IsTargetFact p q target assigned → AssignsVariable (facts_of p) assigned
  assigned_variable None assigned proper is = rw is tt
  assigned_variable (Some x) assigned proper is = rw is.2 (is_variable x is.0 proper is.1)

-- parameters, each in its place
parameters_from : (facts low : ℕ) (pairs : List (ℕ × ℕ)) → ((k : ℕ) (pair : ℕ × ℕ) → slice_get pairs k ≡ Some pair → pair.1 ≡ low + k) → low + length pairs ≤ facts → AreParameters facts low pairs
parameters_from facts low [] placed within = tt
parameters_from facts low (pair ∷ pairs) placed within =
    let first : pair.1 ≡ low + 0 = placed 0 pair refl in (
      omega (arith, first),
      omega (arith, first, within),
      parameters_from facts (pair.1 + 1) pairs (λ k other at. let here : other.1 ≡ low + suc k = placed (suc k) other at in omega (arith, here, first)) (omega (arith, first, within)),
    )

module _ (p : Program) where
  statements_proper : (index : ℕ) (q : Procedure) (owner : slice_get (procedures_of p) index ≡ Some q) → AreProper p index q owner
  statements_proper index q owner s n stands =
      let place = statement_of p n index q s stands in
      each_of IsStatement q.statements.items place.0 s (each_of IsProcedure (procedures_of p) index q (limits_program p.draft p.limits).procedures owner).statements place.1

  lawful : (index : ℕ) (q : Procedure) → slice_get (procedures_of p) index ≡ Some q → (edge : EdgeData) (end : ℕ) (k : EdgeKind) → edge ≡ edge_of p end k → IsKind (result_of p) (facts_of p) k → IsLawful p edge
  lawful index q owner edge end k is of =
      rw is (record {
        lawful = record { result = omega arith; facts = (result_variable p index q owner).1; kind = of };
        facts = refl;
      })

  normal_lawful : (n : ℕ) (edge : EdgeData) → IsNormal p n edge → IsLawful p edge
  normal_lawful n edge e =
      let owner = e.stands.owner in
      lawful e.index e.procedure owner edge edge.end (kind.Normal e.effect) e.is
      (goes_effect p e.index e.procedure owner (statements_proper e.index e.procedure owner) n e.spot e.stands edge.end e.effect e.goes)

  call_proper : (n : ℕ) (at : CallAt p n) → IfSome at.target IsName
  call_proper n at = (statements_proper at.index at.procedure at.stands.owner (Call at.target at.callees at.arguments) n at.stands).0

  along_lawful : (n : ℕ) (edge : EdgeData) → IsAlong p n edge → IsLawful p edge
  along_lawful n edge e =
      let owner = e.call.stands.owner in
      lawful e.call.index e.call.procedure owner edge (n + 1) (kind.CallToReturn e.target) e.is
      (assigned_variable p e.call.index e.call.procedure owner e.call.target e.target (call_proper n e.call) e.assigned)

  back_lawful : (n callee : ℕ) (edge : EdgeData) → IsBack p n callee edge → IsLawful p edge
  back_lawful n callee edge e =
      let owner = e.call.stands.owner in
      lawful e.call.index e.call.procedure owner edge (n + 1) (kind.Return e.target) e.is
      (assigned_variable p e.call.index e.call.procedure owner e.call.target e.target (call_proper n e.call) e.assigned)

  call_lawful : (n callee : ℕ) (edge : EdgeData) → IsCall p n callee edge → IsLawful p edge
  call_lawful n callee edge e =
      let owner = e.call.stands.owner in
      let r = callee_found p e.call.callees.items callee e.called in
      let count : length r.0.parameters.items ≡ length e.call.arguments.items = arguments_counted p n e.call callee r.0 e.called r.1 in
      let fits : result_of p + 1 + length e.pairs ≤ facts_of p = omega (arith, count, e.passed.each_once, own_within p callee r.0 r.1) in
      lawful e.call.index e.call.procedure owner edge (start_of (procedures_of p) callee) (kind.Call e.pairs) e.is
      (parameters_from (facts_of p) (result_of p + 1) e.pairs
      (λ k pair at.
      let short : k < length e.call.arguments.items = omega (arith, slice_get_within e.pairs k pair at, e.passed.each_once) in
      let argument = element_of e.call.arguments.items k short in
      let here = e.passed.in_place k argument.0 argument.1 in
      let same : (here.0, result_of p + 1 + k) ≡ pair = same_Some (here.0, result_of p + 1 + k) pair (sym here.2 ∙ at) in
      ap (λ (x : ℕ × ℕ). x.1) (sym same))
      fits)

pub edges_lawful : EdgesAreLawful
edges_lawful p = record {
  normal = normal_lawful p;
  call = call_lawful p;
  along = along_lawful p;
  back = back_lawful p;
}

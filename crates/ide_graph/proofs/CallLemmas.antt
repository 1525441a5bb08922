-- What stands at a call: what it passes and assigns, and whom it calls.
use Rattle.std.proofs.Common.{◌≡◌, ℕ, zero, suc, ◌+◌, ◌<◌, List, [], ◌∷◌, ◌++◌, Some, inl, inr, take, get_or, length, refl, sym, ap, subst, ◌∙◌, arith}
use Rattle.std.specs.Prelude.{slice_get}
use Rattle.std.specs.Option.{option_to_list}
use Rattle.std.proofs.lemmas.List.{length_push, length-take, take_more}
use Rattle.std.proofs.lemmas.List.Elements.{Contains-append_left, Contains-append_right}
use Rattle.std.proofs.lemmas.Option.{slice_get_within, same_Some}
use Rattle.ide_text.specs.declared.program.Procedure.{Procedure}
use Rattle.ide_text.specs.declared.program.Program.{Program}
use Rattle.ide_text.specs.declared.program.Statement.TheVariants.{Call}
use Rattle.ide_text.specs.NameFault.{variables_used}
use Rattle.ide_text.specs.Program.{procedures_of}
use Rattle.ide_graph.specs.declared.builder.Builder.{Builder}
use Rattle.ide_graph.specs.declared.layout.Layout.{Layout}
use Rattle.ide_graph.specs.Building.{AllHaveFacts, IsBuilderOf, DescribeProcedure, procedure_count}
use Rattle.ide_graph.specs.Numbers.{result_of}
use Rattle.ide_graph.specs.ProgramEdges.{ArePassed, CallAt, HasFact, IsCallee}
use Rattle.ide_graph.proofs.DeclaredLemmas.{variables_known, counts_agree}
use Rattle.ide_graph.proofs.ProgramLemmas.{statement_of}
use Rattle.ide_graph.proofs.SliceLemmas.{element_of, at_left, at_either, at_end}

module _ (p : Program) (q : Procedure) where
  pub passed_none : ArePassed p q [] []
  passed_none = record { each_once = refl; in_place = λ k x e. let none : ⊥ = cc in elim none [ ] }

  pub passed_push : (xs : List (List ℕ)) (pairs : List (ℕ × ℕ)) (x : List ℕ) (fact m : ℕ) → ArePassed p q xs pairs → HasFact p q x fact → m ≡ length xs → ArePassed p q (xs ++ x ∷ []) (pairs ++ (fact, result_of p + 1 + m) ∷ [])
  passed_push xs pairs x fact m passed has at =
      let pair : ℕ × ℕ = (fact, result_of p + 1 + m) in
      record {
        each_once = length_push pairs pair ∙ (ap (λ n. n + 1) passed.each_once ∙ sym (length_push xs x));
        in_place = λ k y e.
            elim (at_either xs (x ∷ []) k y e) [
              | inl a ↦ let r = passed.in_place k y a in (r.0, r.1, at_left pairs (pair ∷ []) k (r.0, result_of p + 1 + k) r.2)
              | inr b ↦ last k y b.0 b.1 b.2
            ];
      }
    where
      last : (k : ℕ) (y : List ℕ) (j : ℕ) → k ≡ length xs + j → slice_get (x ∷ []) j ≡ Some y → (f : ℕ) × HasFact p q y f × (slice_get (pairs ++ (fact, result_of p + 1 + m) ∷ []) k ≡ Some (f, result_of p + 1 + k))
      last k y zero is e =
          let same : x ≡ y = same_Some x y e in
          let here : k ≡ m = omega arith in
          let there : k ≡ length pairs = omega (arith, passed.each_once) in
          let pushed : slice_get (pairs ++ (fact, result_of p + 1 + m) ∷ []) k ≡ Some (fact, result_of p + 1 + m) = rw there (at_end pairs (fact, result_of p + 1 + m)) in
          (fact, subst (λ z. HasFact p q z fact) same has, pushed ∙ ap (λ n. Some (fact, result_of p + 1 + n)) (sym here))
      last k y (suc j) is e = let none : ⊥ = cc in elim none [ ]

  pub passed_more : (arguments : List (List ℕ)) (pairs : List (ℕ × ℕ)) (x : List ℕ) (fact i : ℕ) → i < length arguments → x ≡ get_or arguments i x → ArePassed p q (take i arguments) pairs → HasFact p q x fact → ArePassed p q (take (i + 1) arguments) (pairs ++ (fact, result_of p + 1 + i) ∷ [])
  passed_more arguments pairs x fact i within at passed has =
      let more : take (i + 1) arguments ≡ take i arguments ++ x ∷ [] = take_more arguments i x within ∙ ap (λ z. take i arguments ++ z ∷ []) (sym at) in
      let long : i ≡ length (take i arguments) = simp length-take (omega arith) in
      subst (λ xs. ArePassed p q xs (pairs ++ (fact, result_of p + 1 + i) ∷ [])) (sym more) (passed_push (take i arguments) pairs x fact i passed has long)

module _ (p : Program) (n : ℕ) (at : CallAt p n) where
  call_known : AllHaveFacts p at.procedure (variables_used (Call at.target at.callees at.arguments))
  call_known =
      let place = statement_of p n at.index at.procedure (Call at.target at.callees at.arguments) at.stands in
      variables_known p at.index at.procedure at.stands.owner place.0 (Call at.target at.callees at.arguments) place.1

  pub arguments_known : AllHaveFacts p at.procedure at.arguments.items
  arguments_known x used = call_known x (Contains-append_right (option_to_list at.target) at.arguments.items x used)

  pub targets_known : AllHaveFacts p at.procedure (option_to_list at.target)
  targets_known x used = call_known x (Contains-append_left (option_to_list at.target) at.arguments.items x used)

  -- a callee has as many parameters as the call has arguments
  pub arguments_counted : (callee : ℕ) (r : Procedure) → IsCallee p at.callees.items callee → slice_get (procedures_of p) callee ≡ Some r → length r.parameters.items ≡ length at.arguments.items
  arguments_counted callee r called there =
      let place = statement_of p n at.index at.procedure (Call at.target at.callees at.arguments) at.stands in
      let same = counts_agree p at.index at.procedure at.stands.owner place.0 (Call at.target at.callees at.arguments) place.1 called.0 callee r called.1 called.2 there in
      omega (arith, same, r.parameters.ok.0, at.arguments.ok.0)

module _ (p : Program) (b : Builder) (is : IsBuilderOf p b) where
  pub procedure_at : (i : ℕ) → i < procedure_count b → (q : Procedure) × (slice_get (procedures_of p) i ≡ Some q)
  procedure_at i within = element_of (procedures_of p) i (omega (arith, is.counted))

  pub layout_at : (i : ℕ) (q : Procedure) (layout : Layout) → slice_get (procedures_of p) i ≡ Some q → slice_get b.numbering.now.layouts.items i ≡ Some layout → (labels : List (List ℕ × ℕ)) × DescribeProcedure p i q layout labels
  layout_at i q layout owner at =
      let short : i < length b.numbering.now.layouts.items = slice_get_within b.numbering.now.layouts.items i layout at in
      let found = element_of b.numbering.now.labels.items i (omega (arith, is.ready.numbered.labelled, short)) in
      (found.0, is.layouts i q layout found.0 owner at found.1)

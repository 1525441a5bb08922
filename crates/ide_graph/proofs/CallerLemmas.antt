-- The calls of each procedure, gathered from one call after the other.
use Rattle.std.proofs.Common.{◌≡◌, ◌≢◌, ℕ, zero, suc, ◌+◌, ◌<◌, List, [], ◌∷◌, ◌++◌, Option, Some, ◌⊎◌, inl, inr, get_or, set, take, length, refl, sym, ap, subst, ◌∙◌, arith}
use Rattle.std.specs.Prelude.{slice_get}
use Rattle.std.specs.Borrow.{Bor}
use Rattle.std.specs.Global.{Vec}
use Rattle.std.specs.List.{All, Contains}
use Rattle.std.proofs.lemmas.Bool.{cases_eq, cases_lt}
use Rattle.std.proofs.lemmas.List.{length-take, get_or-take, take_more}
use Rattle.std.proofs.lemmas.List.Elements.{All-push, All-weaker, Contains-append_left, Contains-push, Contains-push_cases}
use Rattle.std.proofs.lemmas.List.Quantifiers.{all_pairs_push}
use Rattle.std.proofs.lemmas.Option.{get_or_from_slice_get, same_Some, slice_get_within}
use Rattle.ide_text.specs.declared.program.Program.{Program}
use Rattle.ide_text.specs.declared.program.Procedure.{Procedure}
use Rattle.ide_text.specs.declared.program.Statement.{Statement}
use Rattle.ide_text.specs.declared.program.Statement.TheVariants.{Call}
use Rattle.ide_text.specs.Program.{procedures_of}
use Rattle.ide_graph.specs.Building.{AllCallersBefore}
use Rattle.ide_graph.specs.Numbering.{spot_value}
use Rattle.ide_graph.specs.declared.numbering.Place.{Place}
use Rattle.ide_graph.specs.declared.numbering.Place.TheVariants as place
use Rattle.ide_graph.specs.Numbers.{Spot, statement, nodes_of}
use Rattle.ide_graph.proofs.ProgramLemmas.{same_spot}
use Rattle.ide_graph.specs.declared.edge.EdgeData.{EdgeData}
use Rattle.ide_graph.specs.declared.site.Caller.{Caller}
use Rattle.ide_graph.specs.Lists.{Lists}
use Rattle.ide_graph.specs.ProgramEdges.{CallAt, IsBack, IsCall, IsCallee, IsCallerOf, Stands}
use Rattle.ide_graph.proofs.CallSiteLemmas.{back_once, call_once, same_callee}
use Rattle.ide_graph.proofs.ListsLemmas.{lists_same}

-- the calls of a procedure from the nodes before n, and that from n where the procedure is among those
abbrev pub IsCallerAmid : Program → ℕ → List ℕ → ℕ → Caller → Type 0
IsCallerAmid p n called index caller = IsCallerOf p index caller × ((caller.call_node < n) ⊎ ((caller.call_node ≡ n) × Contains called index))

abbrev pub CallersAmid : Program → ℕ → List ℕ → List (Vec Caller) → Type 0
CallersAmid p n called lists = (index : ℕ) (callers : Vec Caller) → slice_get lists index ≡ Some callers → Lists (IsCallerAmid p n called index) (λ caller. caller.call_node) callers.items

module _ {X : Type 0} where
  pub at_set_same : (xs : List X) (i : ℕ) (y z : X) → slice_get (set xs i y) i ≡ Some z → z ≡ y
  at_set_same [] i y z e = let none : ⊥ = cc in elim none [ ]
  at_set_same (x ∷ xs) zero y z e = sym (same_Some y z e)
  at_set_same (x ∷ xs) (suc i) y z e = at_set_same xs i y z e

  pub at_set_other : (xs : List X) (i j : ℕ) (y : X) → j ≢ i → slice_get (set xs i y) j ≡ slice_get xs j
  at_set_other [] i j y apart = refl
  at_set_other (x ∷ xs) zero zero y apart = absurd (apart refl)
  at_set_other (x ∷ xs) zero (suc j) y apart = refl
  at_set_other (x ∷ xs) (suc i) zero y apart = refl
  at_set_other (x ∷ xs) (suc i) (suc j) y apart = at_set_other xs i j y (λ e. apart (ap suc e))

  pub lists_push : (key : X → ℕ) (P Q : X → Type 0) (xs : List X) (y : X) → Lists P key xs → ((x : X) → P x → Q x) → Q y → ((x : X) → P x → key x < key y) → ((x : X) → Q x → P x ⊎ (x ≡ y)) → Lists Q key (xs ++ y ∷ [])
  lists_push key P Q xs y l to last below from = record {
    each = All-push Q xs y (All-weaker P Q to xs l.each) last;
    whole = λ x h. elim (from x h) [ inl old ↦ Contains-append_left xs (y ∷ []) x (l.whole x old) | inr new ↦ subst (λ z. Contains (xs ++ y ∷ []) z) (sym new) (Contains-push xs y) ];
    ascending = all_pairs_push (λ a b. key a < key b) xs y l.ascending (λ k d within. below (get_or xs k d) (l.each k d within));
  }

-- a procedure has one call from a node
caller_once : (p : Program) (index : ℕ) (a b : Caller) → IsCallerOf p index a → IsCallerOf p index b → a.call_node ≡ b.call_node → a ≡ b
caller_once p index a b x y node =
    let make : ℕ → EdgeData → EdgeData → Caller = λ n call back. record { call_node = n; call = call; back = back } in
    let call : a.call ≡ b.call = call_once p b.call_node index a.call b.call (subst (λ n. IsCall p n index a.call) node x.0) y.0 in
    let back : a.back ≡ b.back = back_once p b.call_node index a.back b.back (subst (λ n. IsBack p n index a.back) node x.1) y.1 in
    ap (λ n. make n a.call a.back) node ∙ (ap (λ e. make b.call_node e a.back) call ∙ ap (λ e. make b.call_node b.call e) back)

module _ (p : Program) (n : ℕ) where
  pub amid_none : (lists : List (Vec Caller)) → AllCallersBefore p n lists → CallersAmid p n [] lists
  amid_none lists before index callers at =
      lists_same (λ (c : Caller). c.call_node) (λ c. IsCallerOf p index c × (c.call_node < n)) (IsCallerAmid p n [] index) callers.items
      (λ c h. (h.0, inl h.1))
      (λ c h. (h.0, elim h.1 [ inl less ↦ less | inr none ↦ absurd (omega (arith, none.1.1)) ]))
      (before index callers at)

  module _ (at : CallAt p n) (callees : List ℕ) (listed : Lists (IsCallee p at.callees.items) (λ callee. callee) callees) where
    pub amid_all : (lists : List (Vec Caller)) → CallersAmid p n callees lists → AllCallersBefore p (n + 1) lists
    amid_all lists amid index callers there =
        lists_same (λ (c : Caller). c.call_node) (IsCallerAmid p n callees index) (λ c. IsCallerOf p index c × (c.call_node < n + 1)) callers.items
        (λ c h. (h.0, elim h.1 [ inl less ↦ omega (arith, less) | inr here ↦ omega (arith, here.0) ]))
        (λ c h. (
          h.0,
          elim (cases_lt c.call_node n) [
            | inl less ↦ inl less
            | inr more ↦
                let here : c.call_node ≡ n = omega (arith, h.1) in
                let call = subst (λ m. IsCall p m index c.call) here h.0.0 in
                inr (here, listed.whole index (same_callee p n index call.call at call.called))
          ],
        ))
        (amid index callers there)

    pub amid_more : (lists : List (Vec Caller)) (k : ℕ) (callee : ℕ) (old new : Vec Caller) (caller : Caller) → k < length callees → callee ≡ get_or callees k callee → slice_get lists callee ≡ Some old
        → new.items ≡ old.items ++ caller ∷ [] → caller.call_node ≡ n → IsCallerOf p callee caller → CallersAmid p n (take k callees) lists → CallersAmid p n (take (k + 1) callees) (set lists callee new)
    amid_more lists k callee old new caller within at_k there pushed node is amid index callers at_index =
        elim (cases_eq index callee) [ inl same ↦ here same | inr apart ↦ other apart ]
      where
        more : take (k + 1) callees ≡ take k callees ++ callee ∷ []
        more = take_more callees k callee within ∙ ap (λ z. take k callees ++ z ∷ []) (sym at_k)

        -- the callee does not stand among those before it
        fresh : ¬ Contains (take k callees) callee
        fresh c =
            let short : c.0 < k = omega (arith, c.1, length-take k callees) in
            let same : get_or callees c.0 callee ≡ callee = sym (get_or-take k callees c.0 callee short) ∙ c.2 in
            let less : get_or callees c.0 callee < get_or callees k callee = listed.ascending c.0 k callee short within in
            omega (arith, same, less, at_k)

        here : index ≡ callee → Lists (IsCallerAmid p n (take (k + 1) callees) index) (λ caller. caller.call_node) callers.items
        here same =
            let Q : Caller → Type 0 = IsCallerAmid p n (take (k + 1) callees) callee in
            let P : Caller → Type 0 = IsCallerAmid p n (take k callees) callee in
            let vec : callers ≡ new = at_set_same lists callee new callers (subst (λ i. slice_get (set lists callee new) i ≡ Some callers) same at_index) in
            let contained : Contains (take (k + 1) callees) callee = subst (λ xs. Contains xs callee) (sym more) (Contains-push (take k callees) callee) in
            let grown = lists_push (λ (c : Caller). c.call_node) P Q old.items caller (amid callee old there)
            (λ c h. (h.0, elim h.1 [ inl less ↦ inl less | inr z ↦ absurd (fresh z.1) ]))
            (is, inr (node, contained))
            (λ c h. elim h.1 [ inl less ↦ omega (arith, less, node) | inr z ↦ absurd (fresh z.1) ])
            (λ c h. elim h.1 as (λ w. P c ⊎ (c ≡ caller)) [ inl less ↦ inl (h.0, inl less) | inr z ↦ inr (caller_once p callee c caller h.0 is (z.0 ∙ sym node)) ]) in
            subst (λ i. Lists (IsCallerAmid p n (take (k + 1) callees) i) (λ caller. caller.call_node) callers.items) (sym same)
            (subst (λ (v : Vec Caller). Lists Q (λ caller. caller.call_node) v.items) (sym vec) (subst (λ xs. Lists Q (λ caller. caller.call_node) xs) (sym pushed) grown))

        other : index ≢ callee → Lists (IsCallerAmid p n (take (k + 1) callees) index) (λ caller. caller.call_node) callers.items
        other apart =
            lists_same (λ (c : Caller). c.call_node) (IsCallerAmid p n (take k callees) index) (IsCallerAmid p n (take (k + 1) callees) index) callers.items
            (λ c h. (h.0, elim h.1 [ inl less ↦ inl less | inr z ↦ inr (z.0, subst (λ xs. Contains xs index) (sym more) (Contains-append_left (take k callees) (callee ∷ []) index z.1)) ]))
            (λ c h. (
              h.0,
              elim h.1 [
                | inl less ↦ inl less
                | inr z ↦
                    elim (Contains-push_cases (take k callees) callee index (subst (λ xs. Contains xs index) more z.1)) [
                      | inl old_one ↦ inr (z.0, old_one)
                      | inr same ↦ absurd (apart (sym same))
                    ]
              ],
            ))
            (amid index callers (sym (at_set_other lists callee index new apart) ∙ at_index))

lists_none : {X : Type 0} (key : X → ℕ) (P : X → Type 0) (xs : List X) → xs ≡ [] → ((x : X) → P x → ⊥) → Lists P key xs
lists_none key P xs none never = rw none (record { each = λ k d within. absurd (omega arith); whole = λ x h. absurd (never x h); ascending = λ i j d less within. absurd (omega arith) })

-- before the first node no procedure is called
pub before_none : (p : Program) (lists : List (Vec Caller)) → All (λ calls. calls.items ≡ []) lists → AllCallersBefore p 0 lists
before_none p lists empty index callers at =
    let within : index < length lists = slice_get_within lists index callers at in
    let is : get_or lists index callers ≡ callers = get_or_from_slice_get lists index callers callers at in
    let none : callers.items ≡ [] = sym (ap (λ (v : Vec Caller). v.items) is) ∙ empty index callers within in
    lists_none (λ (c : Caller). c.call_node) (λ c. IsCallerOf p index c × (c.call_node < 0)) callers.items none (λ c h. absurd (omega (arith, h.1)))

-- where no call stands nothing is added
pub before_more : (p : Program) (n : ℕ) (lists : List (Vec Caller)) → (CallAt p n → ⊥) → AllCallersBefore p n lists → AllCallersBefore p (n + 1) lists
before_more p n lists never before index callers at =
    lists_same (λ (c : Caller). c.call_node) (λ c. IsCallerOf p index c × (c.call_node < n)) (λ c. IsCallerOf p index c × (c.call_node < n + 1)) callers.items
    (λ c h. (h.0, omega (arith, h.1)))
    (λ c h. (
      h.0,
      elim (cases_lt c.call_node n) [
        | inl less ↦ less
        | inr more ↦
            let here : c.call_node ≡ n = omega (arith, h.1) in
            absurd (never (subst (λ m. IsCall p m index c.call) here h.0.0).call)
      ],
    ))
    (before index callers at)

-- before the end stand all calls
pub before_all : (p : Program) (lists : List (Vec Caller)) (n : ℕ) → n ≡ length (nodes_of (procedures_of p)) → AllCallersBefore p n lists → (index : ℕ) (callers : Vec Caller) → slice_get lists index ≡ Some callers → Lists (IsCallerOf p index) (λ caller. caller.call_node) callers.items
before_all p lists n long before index callers at =
    lists_same (λ (c : Caller). c.call_node) (λ c. IsCallerOf p index c × (c.call_node < n)) (IsCallerOf p index) callers.items
    (λ c h. h.0)
    (λ c h.
    let call : CallAt p c.call_node = h.0.call in
    let within : c.call_node < length (nodes_of (procedures_of p)) = slice_get_within (nodes_of (procedures_of p)) c.call_node (call.index, statement (Call call.target call.callees call.arguments)) call.stands.node in
    (h, omega (arith, long, within)))
    (before index callers at)

no_call_place : (here : Place) → ((s : Bor Statement) → here ≡ place.Statement s → ⊥) → (target : Option (List ℕ)) (callees arguments : Vec (List ℕ)) → spot_value here ≡ statement (Call target callees arguments) → ⊥
no_call_place place.Start never target callees arguments e = let none : ⊥ = cc in none
no_call_place (place.Statement s) never target callees arguments e = never s refl
no_call_place place.ReturnSite never target callees arguments e = let none : ⊥ = cc in none
no_call_place place.Exit never target callees arguments e = let none : ⊥ = cc in none

module _ (p : Program) (n i : ℕ) (q : Procedure) where
  call_stands : (spot : Spot) → Stands p n i q spot → (at : CallAt p n) → spot ≡ statement (Call at.target at.callees at.arguments)
  call_stands spot stands at = (same_spot p n i at.index spot (statement (Call at.target at.callees at.arguments)) stands.node at.stands.node).1

  pub no_call_here : (here : Place) → Stands p n i q (spot_value here) → ((s : Bor Statement) → here ≡ place.Statement s → ⊥) → CallAt p n → ⊥
  no_call_here here stands never at = no_call_place here never at.target at.callees at.arguments (call_stands (spot_value here) stands at)

  pub no_call_statement : (s : Statement) → Stands p n i q (statement s) → ((target : Option (List ℕ)) (callees arguments : Vec (List ℕ)) → s ≡ Call target callees arguments → ⊥) → CallAt p n → ⊥
  no_call_statement s stands never at = let e = call_stands (statement s) stands at in never at.target at.callees at.arguments (cc e)

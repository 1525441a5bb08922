-- What is known of a program that `parse` answers: few nodes, few facts, and names that are declared
-- once and are none of the reserved ones.
use Rattle.std.proofs.Common.{◌≡◌, ◌≢◌, ℕ, zero, suc, ◌+◌, ◌-◌, ◌<◌, ◌≤◌, Bool, true, false, true≢false, ◌||◌, codes, List, [], ◌∷◌, ◌++◌, length, map, take, get_or, slice_get, Some, sum_by, inl, inr, ◌∙◌, sym, ap, subst, refl, arith, append_assoc, length-append}
use Rattle.std.specs.List.{AllByRecursion, flat_map, list_any, position}
use Rattle.std.proofs.Math.Seq.{take-append-add}
use Rattle.std.proofs.lemmas.Bool.{cases_lt}
use Rattle.std.proofs.lemmas.List.{append-nil, length-map, take-append-le, get_or_append_left, get_or-append-add}
use Rattle.std.proofs.lemmas.List.Folds.{list_any-append}
use Rattle.std.proofs.lemmas.List.Sums.{sum_by-cons}
use Rattle.ide_wire.specs.declared.refused.Fault.TheVariants.{DeclaredTwice}
use Rattle.ide_text.specs.declared.program.Program.{Program}
use Rattle.ide_text.specs.declared.program.Procedure.{Procedure}
use Rattle.ide_text.specs.declared.program.Statement.{Statement}
use Rattle.ide_text.specs.declared.program.Statement.TheVariants.{Assign, Skip, At, Goto, Branch, Call, Return}
use Rattle.ide_text.specs.Grammar.{IsName, IsProcedure}
use Rattle.ide_text.specs.Limits.{statement_nodes, procedure_nodes, own_count, limits_nodes, limits_facts, limits_shared_facts, limits_program}
use Rattle.ide_text.specs.NameFault.{Global_again, In_procedure, Parameter_again, Local_again}
use Rattle.ide_text.specs.Names.{IsRepeated, is_among}
use Rattle.ide_text.specs.Program.{globals_of, procedures_of}
use Rattle.std.specs.Str.{bytes_eq}
use Rattle.ide_graph.specs.Named.{fact_of_name}
use Rattle.ide_graph.specs.Naming.{AreNew, HasOwnNames}
use Rattle.ide_graph.specs.Numbers.{exit, spots_on, spots_of, nodes_from, nodes_of, most_own, facts_of, fact_at}
use Rattle.ide_graph.proofs.SliceLemmas.{each_of}
use Rattle.ide_graph.proofs.FactPlaces.{AreFree, AreFactNames, fact_place}

-- ---- nodes and facts
spots_count : (s : Statement) → length (spots_on s) ≡ statement_nodes s
spots_count (Assign x e) = refl
spots_count Skip = refl
spots_count (At l) = refl
spots_count (Goto l) = refl
spots_count (Branch l) = refl
spots_count (Call x callees arguments) = refl
spots_count (Return y) = refl

all_spots_count : (ss : List Statement) → length (flat_map spots_on ss) ≡ sum_by statement_nodes ss
all_spots_count [] = refl
all_spots_count (s ∷ ss) =
    length-append (spots_on s) (flat_map spots_on ss) ∙ (let more = sum_by-cons statement_nodes s ss in let one = spots_count s in let rest = all_spots_count ss in omega arith)

spots_of_count : (q : Procedure) → length (spots_of q) ≡ procedure_nodes q
spots_of_count q = ap suc (length-append (flat_map spots_on q.statements.items) (exit ∷ [])) ∙ (let inner = all_spots_count q.statements.items in omega arith)

pub nodes_count : (k : ℕ) (ps : List Procedure) → length (nodes_from k ps) ≡ sum_by procedure_nodes ps
nodes_count k [] = refl
nodes_count k (q ∷ ps) =
    length-append (map (λ spot. (k, spot)) (spots_of q)) (nodes_from (k + 1) ps)
    ∙ ap (λ n. n + length (nodes_from (k + 1) ps)) (length-map (spots_of q) (λ spot. (k, spot)) ∙ spots_of_count q)
    ∙ ap (λ n. procedure_nodes q + n) (nodes_count (k + 1) ps)
    ∙ sym (sum_by-cons procedure_nodes q ps)

pub few_nodes : (p : Program) → length (nodes_of (procedures_of p)) ≤ 65536
few_nodes p = omega (arith, nodes_count 0 (procedures_of p), limits_nodes p.draft p.limits)

pub most_bound : (ps : List Procedure) (bound : ℕ) → ((i : ℕ) (q : Procedure) → slice_get ps i ≡ Some q → own_count q ≤ bound) → most_own ps ≤ bound
most_bound [] bound each = omega arith
most_bound (q ∷ ps) bound each = let here = each 0 q refl in let rest = most_bound ps bound (λ i r at. each (suc i) r at) in omega (arith, here, rest)

pub few_facts : (p : Program) → facts_of p ≤ 4096
few_facts p =
    let shared = limits_shared_facts p.draft p.limits in
    let most = most_bound (procedures_of p) (4096 - (length (globals_of p) + 2)) (λ i q at. let here = limits_facts p.draft p.limits i q at in omega (arith, here)) in
    omega (arith, shared, most)

-- ---- reserved names
not_zero : (name : List ℕ) → IsName name → name ≢ codes "@zero"
not_zero name is same = true≢false (sym (subst IsName same is).0.0)

not_result : (name : List ℕ) → IsName name → name ≢ codes "@result"
not_result name is same = true≢false (sym (subst IsName same is).0.0)

pub free_names : (names : List (List ℕ)) → AllByRecursion IsName names → AreFree names
free_names [] all k within = absurd (omega arith)
free_names (x ∷ xs) all zero within = (not_zero x all.0, not_result x all.0)
free_names (x ∷ xs) all (suc k) within = free_names xs all.1 k (omega arith)

all_names : (xs ys : List (List ℕ)) → AllByRecursion IsName xs → AllByRecursion IsName ys → AllByRecursion IsName (xs ++ ys)
all_names [] ys left right = right
all_names (x ∷ xs) ys left right = (left.0, all_names xs ys left.1 right)

-- ---- names that are declared once
or_true : (b : Bool) → (b || true) ≡ true
or_true true = refl
or_true false = refl

-- fewer names are known
fewer_known : (before known names : List (List ℕ)) → AreNew (before ++ known) names → AreNew known names
fewer_known before known names new k again = new k (record {
  within = again.within;
  again =
      let x = get_or names k [] in
      ap (λ ns. is_among ns x) (append_assoc before known (take k names)) ∙ list_any-append (bytes_eq x) before (known ++ take k names)
      ∙ (ap (λ b. list_any (bytes_eq x) before || b) again.again ∙ or_true (list_any (bytes_eq x) before));
})

-- two lists, each of them new
new_names : (known first second : List (List ℕ)) → AreNew known first → AreNew (known ++ first) second → AreNew known (first ++ second)
new_names known first second one two k again = elim (cases_lt k (length first)) [
  | inl less ↦ one k (record {
    within = less;
    again =
        ap (is_among (known ++ take k first)) (sym (get_or_append_left first second [] k less))
        ∙ ap (λ front. is_among (known ++ front) (get_or (first ++ second) k [])) (sym (take-append-le k first second (omega arith)))
        ∙ again.again;
  })
  | inr least ↦
      let j = k - length first in
      let moved = subst (IsRepeated known (first ++ second)) (let same : k ≡ length first + j = omega arith in same) again in
      two j (record {
        within = let whole : length first + j < length (first ++ second) = moved.within in omega (arith, whole, length-append first second);
        again =
            ap (is_among ((known ++ first) ++ take j second)) (sym (get_or-append-add first second j []))
            ∙ ap (λ names. is_among names (get_or (first ++ second) (length first + j) [])) (append_assoc known first (take j second) ∙ ap (λ front. known ++ front) (sym (take-append-add first second j)))
            ∙ moved.again;
      })
]

pub global_names : (p : Program) → AreNew [] (globals_of p)
global_names p k again = p.named (k + 1) DeclaredTwice (Global_again k again)

module _ (p : Program) (i : ℕ) (q : Procedure) (at : slice_get (procedures_of p) i ≡ Some q) where
  parameter_names : AreNew (globals_of p) q.parameters.items
  parameter_names k again = p.named _ DeclaredTwice (In_procedure i q at _ DeclaredTwice (Parameter_again k again))

  local_names : AreNew (globals_of p ++ q.parameters.items) q.locals.items
  local_names k again = p.named _ DeclaredTwice (In_procedure i q at _ DeclaredTwice (Local_again k again))

  pub own_names : HasOwnNames q
  own_names = record {
    parameters = fewer_known (globals_of p) [] q.parameters.items (subst (λ (known : List (List ℕ)). AreNew known q.parameters.items) (sym (append-nil (globals_of p))) parameter_names);
    locals = fewer_known (globals_of p) q.parameters.items q.locals.items local_names;
  }

  pub own_new : AreNew (globals_of p) (q.parameters.items ++ q.locals.items)
  own_new = new_names (globals_of p) q.parameters.items q.locals.items parameter_names local_names

-- ---- facts by name
module _ (p : Program) (i : ℕ) (q : Procedure) (at : slice_get (procedures_of p) i ≡ Some q) where
  pub fact_names : AreFactNames (globals_of p) (q.parameters.items ++ q.locals.items)
  fact_names =
      let program = limits_program p.draft p.limits in
      let own = each_of IsProcedure (procedures_of p) i q program.procedures at in
      record {
        new = own_new p i q at;
        free_globals = free_names (globals_of p) program.globals;
        free_own = free_names (q.parameters.items ++ q.locals.items) (all_names q.parameters.items q.locals.items own.parameters own.locals);
        few = omega (arith, limits_facts p.draft p.limits i q at, length-append q.parameters.items q.locals.items);
      }

  -- the fact that a name finds is its place
  pub fact_of_name_at : (name : List ℕ) → fact_of_name (globals_of p) (q.parameters.items ++ q.locals.items) name ≡ fact_at (globals_of p) q name
  fact_of_name_at name =
      fact_place (globals_of p) (q.parameters.items ++ q.locals.items) fact_names name
      ∙ ap (position (bytes_eq name)) (sym (append_assoc (codes "@zero" ∷ globals_of p) (codes "@result" ∷ q.parameters.items) q.locals.items))

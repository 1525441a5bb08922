-- The call edges at a node, as data and as edges of the supergraph.
use Rattle.std.proofs.Common.{◌≡◌, ℕ, suc, ◌+◌, ◌<◌, ◌≤◌, ◌⊎◌, Bool, true, false, cond, List, [], ◌∷◌, Option, Some, None, ap, sym, subst, refl, inl, inr, ◌∙◌, arith}
use Rattle.std.specs.Prelude.{IsTrue, nat_eq}
use Rattle.std.specs.List.{Contains}
use Rattle.std.proofs.lemmas.Bool.Decides.{nat_tests}
use Rattle.ide_graph.specs.declared.edge.EdgeData.{EdgeData}
use Rattle.ide_graph.specs.declared.site.Site.{Site}
use Rattle.ide_graph.specs.declared.site.Site.TheVariants.{Normal, Call, Exit}
use Rattle.ide_lattice.specs.Algebra.{EdgeAlgebra}
use Rattle.ide_problem.specs.Flow.{AreTargets, function_to}
use Rattle.ide_theory.specs.Given.{Edge}
use Rattle.ide_theory.specs.Member.{IsIn, first, later, Each}
use Rattle.ide_graph.specs.Joined.{HasCall}
use Rattle.ide_theory.specs.Sites.{IsEdgeOf, HasLawfulEdges, edges_from, edges_found}
use Rattle.ide_values.specs.Pass.{calls_in}

pub none_in : {T : Type 0} {x : T} → IsIn x [] → ⊥
none_in is = elim is [ ]

pub first_or : {T : Type 0} {x y : T} {xs : List T} → IsIn x (y ∷ xs) → (x ≡ y) ⊎ IsIn x xs
first_or first = inl refl
first_or (later is) = inr is

pub each_in : {T : Type 0} (P : T → Type 0) (xs : List T) → Each P xs → (x : T) → IsIn x xs → P x
each_in P [] all x is = elim (none_in is) [ ]
each_in P (y ∷ xs) all x is = elim (first_or is) [
  | inl same ↦ subst P (sym same) all.0
  | inr rest ↦ each_in P xs all.1 x rest
]

module _ (facts n : ℕ) where
  pub listed : (xs : List EdgeData) (all : Each (IsEdgeOf facts) xs) (d : EdgeData) → IsIn d xs
      → (e : Edge facts) × IsIn e (edges_from facts n xs all) × (e.edge ≡ d)
  listed [] all d none = elim (none_in none) [ ]
  listed (x ∷ xs) all d first = (record { from = n; edge = x; lawful = all.0.lawful; counted = all.0.counted }, first, refl)
  listed (x ∷ xs) all d (later rest) =
      let found : (e : Edge facts) × IsIn e (edges_from facts n xs all.1) × (e.edge ≡ d) = listed xs all.1 d rest in
      (found.0, later found.1, found.2)

  pub data_of : (xs : List EdgeData) (all : Each (IsEdgeOf facts) xs) (e : Edge facts) → IsIn e (edges_from facts n xs all) → IsIn e.edge xs
  data_of [] all e is = elim (none_in is) [ ]
  data_of (x ∷ xs) all e is = elim (first_or is) [
    | inl same ↦ subst (λ d. IsIn d (x ∷ xs)) (sym (ap (λ f. f.edge) same)) first
    | inr rest ↦ later (data_of xs all.1 e rest)
  ]

  -- the data of a call at a node are those of one of its edges
  pub call_edge : (site : Option Site) (all : (s : Site) → site ≡ Some s → HasLawfulEdges facts s) (d : EdgeData) → IsIn d (calls_in site)
      → (e : Edge facts) × IsIn e (edges_found facts n site all).calls × (e.edge ≡ d)
  call_edge None all d is = elim (none_in is) [ ]
  call_edge (Some (Normal edges)) all d is = elim (none_in is) [ ]
  call_edge (Some (Call calls along)) all d is = listed calls (all (Call calls along) refl).0 d is
  call_edge (Some (Exit start callers)) all d is = elim (none_in is) [ ]

  -- and each such edge has data of a call
  pub call_data : (site : Option Site) (all : (s : Site) → site ≡ Some s → HasLawfulEdges facts s) (e : Edge facts)
      → IsIn e (edges_found facts n site all).calls → IsIn e.edge (calls_in site)
  call_data None all e is = elim (none_in is) [ ]
  call_data (Some (Normal edges)) all e is = elim (none_in is) [ ]
  call_data (Some (Call calls along)) all e is = data_of calls (all (Call calls along) refl).0 e is
  call_data (Some (Exit start callers)) all e is = elim (none_in is) [ ]

-- what stands in a list is contained in it
contained : {T : Type 0} {x : T} {xs : List T} → IsIn x xs → Contains xs x
contained first = (0, omega arith, refl)
contained (later is) = let rest : Contains _ _ = contained is in (suc rest.0, omega (arith, rest.1), rest.2)

-- the site that has a call
pub call_site : (site : Option Site) (d : EdgeData) → IsIn d (calls_in site) → (s : Site) × (site ≡ Some s) × HasCall s d
call_site None d is = elim (none_in is) [ ]
call_site (Some (Normal edges)) d is = elim (none_in is) [ ]
call_site (Some (Call calls along)) d is = (Call calls along, refl, contained is)
call_site (Some (Exit start callers)) d is = elim (none_in is) [ ]

-- a listed target is in range and proper
pub record IsTargetIn {F : Type 0} (is_proper : F → Bool) (low count : ℕ) (t : ℕ × F) : Type 0 where
  pub least : low ≤ t.0
  pub most : t.0 < count
  pub proper : IsTrue (is_proper t.1)

pub target_in : {F : Type 0} (proper : F → Bool) {t : ℕ × F} {ts : List (ℕ × F)} → IsIn t ts → (low count : ℕ) → AreTargets proper low count ts
    → IsTargetIn proper low count t
target_in proper first low count all = record { least = all.0; most = all.1; proper = all.2 }
target_in proper (later {y = y} is) low count all =
    let rest : IsTargetIn proper (y.0 + 1) count _ = target_in proper is (y.0 + 1) count all.3 in
    record { least = omega (arith, all.0, rest.least); most = rest.most; proper = rest.proper }

pub equal_refl : (n : ℕ) → nat_eq n n ≡ true
equal_refl n = grind (arith, nat_tests)

pub equal_exact : (m n : ℕ) → nat_eq m n ≡ true → m ≡ n
equal_exact m n h = grind (arith, nat_tests)

pub equal_past : (m n : ℕ) → m + 1 ≤ n → nat_eq m n ≡ false
equal_past m n h = grind (arith, nat_tests)

module _ {F L : Type 0} (B : EdgeAlgebra F L) where
  -- the function to a listed target is the one listed
  pub target_is : {t : ℕ × F} {ts : List (ℕ × F)} → IsIn t ts → (low count : ℕ) → AreTargets B.proper low count ts → function_to B t.0 ts ≡ t.1
  target_is (first {x = x} {xs = xs}) low count all = ap (λ b. cond b x.1 (function_to B x.0 xs)) (equal_refl x.0)
  target_is {t} (later {y = y} {xs = xs} is) low count all =
      let rest : IsTargetIn B.proper (y.0 + 1) count t = target_in B.proper is (y.0 + 1) count all.3 in
      ap (λ b. cond b y.1 (function_to B t.0 xs)) (equal_past y.0 t.0 rest.least)
      ∙ target_is is (y.0 + 1) count all.3

  -- the function to a fact is listed, or it is always-top
  pub target_or : (d : ℕ) (ts : List (ℕ × F)) → IsIn {T = ℕ × F} (d, function_to B d ts) ts ⊎ (function_to B d ts ≡ B.all_top)
  target_or d [] = inr refl
  target_or d (t ∷ ts) = choose (target_or d ts) (nat_eq t.0 d) refl
    where
      choose : IsIn {T = ℕ × F} (d, function_to B d ts) ts ⊎ (function_to B d ts ≡ B.all_top) → (b : Bool) → nat_eq t.0 d ≡ b
          → IsIn {T = ℕ × F} (d, cond b t.1 (function_to B d ts)) (t ∷ ts) ⊎ (cond b t.1 (function_to B d ts) ≡ B.all_top)
      choose rest true same = inl (subst (λ k. IsIn {T = ℕ × F} (k, t.1) (t ∷ ts)) (equal_exact t.0 d same) first)
      choose (inl is) false other = inl (later is)
      choose (inr top) false other = inr top

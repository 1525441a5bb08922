-- What reaches a fact at a procedure's start over one call: the sources of its caller that reach the fact.
use Rattle.std.proofs.Common.{◌≡◌, ◌≢◌, ℕ, zero, suc, ◌+◌, ◌<◌, ◌≤◌, Bool, true, false, cond, List, [], ◌∷◌, ◌++◌, Some, length, get_or, map, sym, subst, ap, ◌∙◌, refl, arith}
use Rattle.std.specs.Prelude.{nat_eq, filter, slice_get}
use Rattle.std.specs.List.{All, AllPairs, Contains, flat_map, range_with_len}
use Rattle.std.specs.List.Sorted.{IsNonDecreasingBy}
use Rattle.std.proofs.lemmas.Bool.Decides.{nat_tests}
use Rattle.std.proofs.lemmas.List.{append-nil, get_or-map, length-map, map-append}
use Rattle.std.proofs.lemmas.List.Elements.{All-append, All-filter, All-map, filter-append}
use Rattle.std.proofs.lemmas.List.Kept.{IsNonDecreasingBy-filter}
use Rattle.std.proofs.lemmas.Option.{same_Some}
use Rattle.ide_graph.specs.declared.site.Caller.{Caller}
use Rattle.ide_problem.specs.Flow.{Targets}
use Rattle.ide_tasks.specs.declared.partners.Reaching.{Reaching}
use Rattle.ide_tasks.specs.declared.sources.Source.{Source}
use Rattle.ide_tasks.specs.Sources.{fact_and_function, from_caller, reaching_of, source_of, sources_from, sources_over, sources_over_edge}
use Rattle.ide_tasks.proofs.Same.{number_itself}

-- nothing passes a test that fails at each element
pub filter-none : {X : Type 0} (p : X → Bool) (xs : List X) → All (λ x. p x ≡ false) xs → filter p xs ≡ []
filter-none p [] none = refl
filter-none p (x ∷ xs) none = ap (λ b. cond b (x ∷ filter p xs) (filter p xs)) (none 0 x (omega arith)) ∙ filter-none p xs (λ k d within. none (suc k) d (omega (arith, within)))

-- all passes one that holds at each
pub filter-all : {X : Type 0} (p : X → Bool) (xs : List X) → All (λ x. p x ≡ true) xs → filter p xs ≡ xs
filter-all p [] all = refl
filter-all p (x ∷ xs) all =
    ap (λ b. cond b (x ∷ filter p xs) (filter p xs)) (all 0 x (omega arith)) ∙ ap (λ ys. x ∷ ys) (filter-all p xs (λ k d within. all (suc k) d (omega (arith, within))))

apart : (a b : ℕ) → a ≢ b → nat_eq a b ≡ false
apart a b h = grind (arith, nat_tests, h)

-- a list ascends with one element more in front, where that is no greater than each
up-cons : {X : Type 0} (key : X → ℕ) (x : X) (xs : List X) → All (λ y. key x ≤ key y) xs → IsNonDecreasingBy key xs → IsNonDecreasingBy key (x ∷ xs)
up-cons key x xs above up zero zero d le within = omega arith
up-cons key x xs above up zero (suc j) d le within = above j d (omega (arith, within))
up-cons key x xs above up (suc i) zero d le within = absurd (omega (arith, le))
up-cons key x xs above up (suc i) (suc j) d le within = up i j d (omega (arith, le)) (omega (arith, within))

-- a list of one key, before one that ascends from there on
up-append : {X : Type 0} (key : X → ℕ) (n : ℕ) (xs ys : List X) → All (λ x. key x ≡ n) xs → All (λ y. n ≤ key y) ys → IsNonDecreasingBy key ys → IsNonDecreasingBy key (xs ++ ys)
up-append key n [] ys one more up = up
up-append key n (x ∷ xs) ys one more up =
    let first : key x ≡ n = one 0 x (omega arith) in
    let rest : All (λ x. key x ≡ n) xs = λ k d within. one (suc k) d (omega (arith, within)) in
    up-cons key x (xs ++ ys)
    (All-append (λ y. key x ≤ key y) xs ys (λ k d within. let same = rest k d within in omega (arith, first, same)) (λ k d within. let less = more k d within in omega (arith, first, less)))
    (up-append key n xs ys rest more up)

-- strictly ascending lists ascend
pub up-strictly : {X : Type 0} (key : X → ℕ) (xs : List X) → AllPairs (λ x y. key x < key y) xs → IsNonDecreasingBy key xs
up-strictly key [] pairs = λ i j d le within. absurd (omega arith)
up-strictly key (x ∷ xs) pairs =
    up-cons key x xs (λ k d within. let less = pairs 0 (suc k) d (omega arith) (omega (arith, within)) in omega (arith, less))
    (up-strictly key xs (λ i j d less within. pairs (suc i) (suc j) d (omega (arith, less)) (omega (arith, within))))

-- of a strictly ascending list, one element has its key
only-at : {X : Type 0} (key : X → ℕ) (n : ℕ) (xs : List X) (x : X) (k : ℕ) → key x ≡ n → k < length xs → get_or xs k x ≡ x → AllPairs (λ x y. key x < key y) xs → filter (λ y. nat_eq (key y) n) xs ≡ x ∷ []
only-at key n [] x k is within here pairs = absurd (omega (arith, within))
only-at key n (y ∷ ys) x zero is within here pairs =
    let first : nat_eq (key y) n ≡ true = ap (λ z. nat_eq (key z) n) here ∙ (ap (λ m. nat_eq m n) is ∙ number_itself n) in
    let same : key y ≡ n = ap key here ∙ is in
    let none : filter (λ z. nat_eq (key z) n) ys ≡ [] =
    filter-none (λ z. nat_eq (key z) n) ys (λ k d inside.
    let less : key y < key (get_or ys k d) = pairs 0 (suc k) d (omega arith) (omega (arith, inside)) in
    apart (key (get_or ys k d)) n (λ e. omega (arith, e, less, same))) in
    ap (λ b. cond b (y ∷ filter (λ z. nat_eq (key z) n) ys) (filter (λ z. nat_eq (key z) n) ys)) first ∙ (ap (λ zs. y ∷ zs) none ∙ ap (λ z. z ∷ []) here)
only-at key n (y ∷ ys) x (suc k) is within here pairs =
    let less : key y < key (get_or ys k x) = pairs 0 (suc k) x (omega arith) within in
    let same : key (get_or ys k x) ≡ n = ap key here ∙ is in
    ap (λ b. cond b (y ∷ filter (λ z. nat_eq (key z) n) ys) (filter (λ z. nat_eq (key z) n) ys)) (apart (key y) n (λ e. omega (arith, e, less, same)))
    ∙ only-at key n ys x k is (omega (arith, within)) here (λ i j d first inside. pairs (suc i) (suc j) d (omega (arith, first)) (omega (arith, inside)))

pub only-one : {X : Type 0} (key : X → ℕ) (n : ℕ) (xs : List X) (x : X) → key x ≡ n → Contains xs x → AllPairs (λ x y. key x < key y) xs → filter (λ y. nat_eq (key y) n) xs ≡ x ∷ []
only-one key n xs x is there pairs = only-at key n xs x there.0 is there.1 there.2 pairs

module _ {F : Type 0} where
  picked-append : (i r : ℕ) (xs ys : List (Source F)) → from_caller i r (xs ++ ys) ≡ from_caller i r xs ++ from_caller i r ys
  picked-append i r xs ys =
      ap (filter (λ s. nat_eq s.from.caller i)) (filter-append (λ s. nat_eq s.reached r) xs ys)
      ∙ filter-append (λ s. nat_eq s.from.caller i) (filter (λ s. nat_eq s.reached r) xs) (filter (λ s. nat_eq s.reached r) ys)

  shown-append : (i r : ℕ) (xs ys : List (Source F)) → map fact_and_function (from_caller i r (xs ++ ys)) ≡ map fact_and_function (from_caller i r xs) ++ map fact_and_function (from_caller i r ys)
  shown-append i r xs ys = ap (map fact_and_function) (picked-append i r xs ys) ∙ map-append fact_and_function (from_caller i r xs) (from_caller i r ys)

  -- sources of other callers show nothing
  none-shown : (i r : ℕ) (xs : List (Source F)) → All (λ s. s.from.caller ≢ i) xs → map fact_and_function (from_caller i r xs) ≡ []
  none-shown i r xs other =
      ap (map fact_and_function) (filter-none (λ s. nat_eq s.from.caller i) (filter (λ s. nat_eq s.reached r) xs)
      (All-filter (λ s. nat_eq s.reached r) (λ s. nat_eq s.from.caller i ≡ false) xs (λ k d within. apart _ i (other k d within))))

  -- the sources of a fact's targets show those that reach the other
  targets-shown : (i r d : ℕ) (ts : List (ℕ × F)) → map fact_and_function (from_caller i r (map (source_of i d) ts)) ≡ map (λ t. (d, t.1)) (filter (λ t. nat_eq t.0 r) ts)
  targets-shown i r d [] = refl
  targets-shown i r d (t ∷ ts) =
      elim (nat_eq t.0 r) as (λ b. map fact_and_function (filter (λ s. nat_eq s.from.caller i) (cond b (source_of i d t ∷ filter (λ s. nat_eq s.reached r) (map (source_of i d) ts)) (filter (λ s. nat_eq s.reached r) (map (source_of i d) ts))))
      ≡ map (λ t. (d, t.1)) (cond b (t ∷ filter (λ t. nat_eq t.0 r) ts) (filter (λ t. nat_eq t.0 r) ts))) [
        | true ↦
            ap (λ b. map fact_and_function (cond b (source_of i d t ∷ from_caller i r (map (source_of i d) ts)) (from_caller i r (map (source_of i d) ts)))) (number_itself i)
            ∙ ap (λ rest. (d, t.1) ∷ rest) (targets-shown i r d ts)
        | false ↦ targets-shown i r d ts
      ]

  module _ (targets : Targets F) (facts : ℕ) where
    edge-shown : (i r : ℕ) (c : Caller) (ds : List ℕ) → map fact_and_function (from_caller i r (flat_map (λ fact. map (source_of i fact) (targets c.call fact)) ds))
        ≡ flat_map (λ fact. map (λ t. (fact, t.1)) (filter (λ t. nat_eq t.0 r) (targets c.call fact))) ds
    edge-shown i r c [] = refl
    edge-shown i r c (d ∷ ds) =
        shown-append i r (map (source_of i d) (targets c.call d)) (flat_map (λ fact. map (source_of i fact) (targets c.call fact)) ds)
        ∙ (ap (λ xs. xs ++ map fact_and_function (from_caller i r (flat_map (λ fact. map (source_of i fact) (targets c.call fact)) ds))) (targets-shown i r d (targets c.call d))
        ∙ ap (λ ys. map (λ t. (d, t.1)) (filter (λ t. nat_eq t.0 r) (targets c.call d)) ++ ys) (edge-shown i r c ds))

    -- the sources over a caller are its own
    own-among : (i : ℕ) (c : Caller) (ds : List ℕ) → All (λ s. s.from.caller ≡ i) (flat_map (λ fact. map (source_of i fact) (targets c.call fact)) ds)
    own-among i c [] = λ k d within. absurd (omega (arith, within))
    own-among i c (x ∷ ds) =
        All-append (λ s. s.from.caller ≡ i) (map (source_of i x) (targets c.call x)) (flat_map (λ fact. map (source_of i fact) (targets c.call fact)) ds)
        (All-map (λ s. s.from.caller ≡ i) (source_of i x) (targets c.call x) (λ k d within. refl)) (own-among i c ds)

    own : (i : ℕ) (c : Caller) → All (λ s. s.from.caller ≡ i) (sources_over targets facts i c)
    own i c = own-among i c (range_with_len 0 facts)

    later : (i : ℕ) (cs : List Caller) → All (λ s. i ≤ s.from.caller) (sources_from targets facts i cs)
    later i [] = λ k d within. absurd (omega (arith, within))
    later i (c ∷ cs) =
        All-append (λ s. i ≤ s.from.caller) (sources_over targets facts i c) (sources_from targets facts (i + 1) cs)
        (λ k d within. let same = own i c k d within in omega (arith, same)) (λ k d within. let less = later (i + 1) cs k d within in omega (arith, less))

    -- sources from callers ascend by the caller
    pub callers-ascend : (i : ℕ) (cs : List Caller) → IsNonDecreasingBy (λ s. s.from.caller) (sources_from targets facts i cs)
    callers-ascend i [] = λ a b d le within. absurd (omega (arith, within))
    callers-ascend i (c ∷ cs) =
        up-append (λ s. s.from.caller) i (sources_over targets facts i c) (sources_from targets facts (i + 1) cs) (own i c)
        (λ k d within. let less = later (i + 1) cs k d within in omega (arith, less)) (callers-ascend (i + 1) cs)

    -- of all callers, the one at a place shows what its call edge does
    pub caller-shown : (r i n k : ℕ) (cs : List Caller) (c : Caller) → n ≡ i + k → slice_get cs k ≡ Some c
        → map fact_and_function (from_caller n r (sources_from targets facts i cs)) ≡ sources_over_edge targets facts r c.call
    caller-shown r i n k [] c is at = absurd (cc (at))
    caller-shown r i n zero (x ∷ cs) c is at =
        let here : x ≡ c = same_Some x c at in
        let first : n ≡ i = omega (arith, is) in
        let none : map fact_and_function (from_caller n r (sources_from targets facts (i + 1) cs)) ≡ [] =
        none-shown n r (sources_from targets facts (i + 1) cs) (λ k d within. let less = later (i + 1) cs k d within in λ e. omega (arith, e, less, first)) in
        shown-append n r (sources_over targets facts i x) (sources_from targets facts (i + 1) cs)
        ∙ (ap (λ ys. map fact_and_function (from_caller n r (sources_over targets facts i x)) ++ ys) none
        ∙ (append-nil (map fact_and_function (from_caller n r (sources_over targets facts i x)))
        ∙ (ap (λ m. map fact_and_function (from_caller m r (sources_over targets facts i x))) first
        ∙ (edge-shown i r x (range_with_len 0 facts) ∙ ap (λ y. sources_over_edge targets facts r y.call) here))))
    caller-shown r i n (suc k) (x ∷ cs) c is at =
        let none : map fact_and_function (from_caller n r (sources_over targets facts i x)) ≡ [] =
        none-shown n r (sources_over targets facts i x) (λ j d within. let same = own i x j d within in λ e. omega (arith, e, same, is)) in
        shown-append n r (sources_over targets facts i x) (sources_from targets facts (i + 1) cs)
        ∙ (ap (λ xs. xs ++ map fact_and_function (from_caller n r (sources_from targets facts (i + 1) cs))) none ∙ caller-shown r (i + 1) n k cs c (omega (arith, is)) at)

  -- what is shown of sources of a caller, by where they are from
  by-from : (i : ℕ) (xs : List (Source F)) → map fact_and_function (filter (λ s. nat_eq s.from.caller i) xs) ≡ map (λ r. (r.fact, r.function)) (filter (λ r. nat_eq r.caller i) (map (λ s. s.from) xs))
  by-from i [] = refl
  by-from i (x ∷ xs) =
      elim (nat_eq x.from.caller i) as (λ b. map fact_and_function (cond b (x ∷ filter (λ s. nat_eq s.from.caller i) xs) (filter (λ s. nat_eq s.from.caller i) xs))
      ≡ map (λ r. (r.fact, r.function)) (cond b (x.from ∷ filter (λ r. nat_eq r.caller i) (map (λ s. s.from) xs)) (filter (λ r. nat_eq r.caller i) (map (λ s. s.from) xs)))) [
        | true ↦ ap (λ rest. (x.from.fact, x.from.function) ∷ rest) (by-from i xs)
        | false ↦ by-from i xs
      ]

  -- lists of which the same reach a fact show the same
  pub same-shown : (i r : ℕ) (xs ys : List (Source F)) → reaching_of r xs ≡ reaching_of r ys → map fact_and_function (from_caller i r xs) ≡ map fact_and_function (from_caller i r ys)
  same-shown i r xs ys same =
      by-from i (filter (λ s. nat_eq s.reached r) xs)
      ∙ (ap (λ rs. map (λ r. (r.fact, r.function)) (filter (λ r. nat_eq r.caller i) rs)) same ∙ sym (by-from i (filter (λ s. nat_eq s.reached r) ys)))

  up-from : (xs : List (Source F)) → IsNonDecreasingBy (λ r. r.caller) (map (λ s. s.from) xs) → IsNonDecreasingBy (λ s. s.from.caller) xs
  up-from xs up i j d le within =
      let long : length (map (λ s. s.from) xs) ≡ length xs = length-map xs (λ s. s.from) in
      let least = up i j d.from le (omega (arith, within, long)) in
      let one : (get_or (map (λ s. s.from) xs) i d.from).caller ≡ (get_or xs i d).from.caller = ap (λ r. r.caller) (get_or-map (λ s. s.from) xs i d d.from (omega (arith, le, within))) in
      let two : (get_or (map (λ s. s.from) xs) j d.from).caller ≡ (get_or xs j d).from.caller = ap (λ r. r.caller) (get_or-map (λ s. s.from) xs j d d.from within) in
      omega (arith, least, one, two)

  from-up : (xs : List (Source F)) → IsNonDecreasingBy (λ s. s.from.caller) xs → IsNonDecreasingBy (λ r. r.caller) (map (λ s. s.from) xs)
  from-up xs up i j d le within =
      let inside : j < length xs = omega (arith, within, length-map xs (λ s. s.from)) in
      let source : Source F = record { reached = 0; from = d } in
      let least = up i j source le inside in
      let one : (get_or (map (λ s. s.from) xs) i d).caller ≡ (get_or xs i source).from.caller = ap (λ r. r.caller) (get_or-map (λ s. s.from) xs i source d (omega (arith, le, inside))) in
      let two : (get_or (map (λ s. s.from) xs) j d).caller ≡ (get_or xs j source).from.caller = ap (λ r. r.caller) (get_or-map (λ s. s.from) xs j source d inside) in
      omega (arith, least, one, two)

  -- and ascend by the caller alike
  pub same-ascend : (r : ℕ) (xs ys : List (Source F)) → reaching_of r xs ≡ reaching_of r ys → IsNonDecreasingBy (λ s. s.from.caller) ys
      → IsNonDecreasingBy (λ s. s.from.caller) (filter (λ s. nat_eq s.reached r) xs)
  same-ascend r xs ys same up =
      up-from (filter (λ s. nat_eq s.reached r) xs)
      (subst (IsNonDecreasingBy (λ (r : Reaching F). r.caller)) (sym same) (from-up (filter (λ s. nat_eq s.reached r) ys) (IsNonDecreasingBy-filter (λ s. s.from.caller) (λ s. nat_eq s.reached r) ys up)))

-- The keys of a run are among those that its graph has room for.
use Rattle.std.proofs.Common.{◌≡◌, ℕ, ◌+◌, ◌*◌, ◌<◌, ◌≤◌, Bool, true, false, cond, List, [], ◌∷◌, ◌++◌, Option, None, Some, length, map, ◌||◌, ap, sym, ◌∙◌, refl, subst, arith}
use Rattle.std.specs.Prelude.{filter, slice_get}
use Rattle.std.specs.List.{IsDistinct, flat_map, list_any, range_with_len}
use Rattle.std.specs.Map.{keys_of, lookup}
use Rattle.std.specs.Option.{is_some}
use Rattle.std.specs.Set.{is_member}
use Rattle.std.proofs.lemmas.List.{length-append, length-map}
use Rattle.std.proofs.lemmas.List.FromFn.{length-range_with_len}
use Rattle.std.proofs.lemmas.Map.Made.{is_some-lookup, length-le_from_is_member}
use Rattle.std.proofs.lemmas.Option.{slice_get_within}
use Rattle.ide_graph.specs.Supergraph.{Supergraph}
use Rattle.ide_theory.specs.Member.{IsIn, first, later}
use Rattle.ide_theory.specs.Members.{in-flat_map, in-left, in-map, in-range_below, in-right}
use Rattle.ide_theory.specs.Parts.{IsKeyInRange}
use Rattle.ide_theory.specs.Within.{IsPlaced, is_some_call}
use Rattle.ide_wire.specs.Key.{same_key, same_key_laws, same_key_refl}
use Rattle.ide_wire.specs.declared.key.Key.{Key}
use Rattle.ide_wire.specs.declared.key.Key.TheVariants.{Jump, Summary}
use Rattle.ide_steps.specs.Core.{StandsIn}
use Rattle.ide_steps.specs.Items.{StandsAt}
use Rattle.ide_steps.specs.Room.{call_nodes_of, key_space}

-- a node with a site is a node of the graph
site-within : (graph : Supergraph) → length graph.sites ≡ graph.nodes → (n : ℕ) → is_some_call (slice_get graph.sites n) ≡ true → n < graph.nodes
site-within graph sited n call = by-site (slice_get graph.sites n) refl call
  where
    by-site : (o : Option _) → slice_get graph.sites n ≡ o → is_some_call o ≡ true → n < graph.nodes
    by-site None same never = absurd (cc (never))
    by-site (Some site) same is = subst (λ m. n < m) sited (slice_get_within graph.sites n site same)

pub key-stands : (graph : Supergraph) → length graph.sites ≡ graph.nodes → (key : Key) → StandsAt graph key → StandsIn graph key
key-stands graph sited (Jump n a b) within = within
key-stands graph sited (Summary n a b) call = site-within graph sited n call

pub in-filter : {T : Type 0} (test : T → Bool) {x : T} {xs : List T} → IsIn x xs → test x ≡ true → IsIn x (filter test xs)
in-filter test {x} (first {xs = xs}) is = subst (λ b. IsIn x (cond b (x ∷ filter test xs) (filter test xs))) (sym is) first
in-filter test {x} (later {y = y} {xs = xs} there) is =
    elim (test y) as (λ b. IsIn x (cond b (y ∷ filter test xs) (filter test xs))) [ true ↦ later (in-filter test there is) | false ↦ in-filter test there is ]

length-flat : {X Y : Type 0} (f : X → List Y) (each : ℕ) → ((x : X) → length (f x) ≡ each) → (xs : List X) → length (flat_map f xs) ≡ length xs * each
length-flat f each all [] = omega arith
length-flat f each all (x ∷ xs) =
    let rest = length-flat f each all xs in
    let here = all x in
    let both : length (f x ++ flat_map f xs) ≡ length (f x) + length (flat_map f xs) = length-append (f x) (flat_map f xs) in
    omega (arith, rest, here, both)

-- the keys of these nodes and of two facts each
module _ (make : ℕ → ℕ → ℕ → Key) (facts : ℕ) where
  row : ℕ → ℕ → List Key
  row n a = map (make n a) (range_with_len 0 facts)

  square : ℕ → List Key
  square n = flat_map (row n) (range_with_len 0 facts)

  grid : List ℕ → List Key
  grid ns = flat_map square ns

  length-row : (n a : ℕ) → length (row n a) ≡ facts
  unfolding row
  length-row n a = length-map (range_with_len 0 facts) (make n a) ∙ length-range_with_len 0 facts

  length-square : (n : ℕ) → length (square n) ≡ facts * facts
  unfolding square
  length-square n = length-flat (row n) facts (length-row n) (range_with_len 0 facts) ∙ ap (λ m. m * facts) (length-range_with_len 0 facts)

  length-grid : (ns : List ℕ) → length (grid ns) ≡ length ns * (facts * facts)
  unfolding grid
  length-grid ns = length-flat square (facts * facts) length-square ns

  in-grid : (ns : List ℕ) (n a b : ℕ) → IsIn n ns → a < facts → b < facts → IsIn (make n a b) (grid ns)
  unfolding grid square row
  in-grid ns n a b among first_in second_in =
      in-flat_map square among (in-flat_map (row n) (in-range_below facts a first_in) (in-map (make n a) (in-range_below facts b second_in)))

module _ (graph : Supergraph) where
  pub all_keys : List Key
  all_keys = grid Jump graph.facts (range_with_len 0 graph.nodes) ++ grid Summary graph.facts (call_nodes_of graph)

  pub length-all : length all_keys ≡ key_space graph
  unfolding all_keys
  length-all =
      let both = length-append (grid Jump graph.facts (range_with_len 0 graph.nodes)) (grid Summary graph.facts (call_nodes_of graph)) in
      let jumps = length-grid Jump graph.facts (range_with_len 0 graph.nodes) in
      let nodes = length-range_with_len 0 graph.nodes in
      let summaries = length-grid Summary graph.facts (call_nodes_of graph) in
      both ∙ (λ i. jumps i + summaries i) ∙ sum (length (range_with_len 0 graph.nodes)) (length (call_nodes_of graph)) (graph.facts * graph.facts)
      ∙ ap (λ n. (n + length (call_nodes_of graph)) * (graph.facts * graph.facts)) nodes
    where
      sum : (m n k : ℕ) → m * k + n * k ≡ (m + n) * k
      sum m n k = omega arith

  pub in-all : length graph.sites ≡ graph.nodes → (key : Key) → IsPlaced graph key → IsKeyInRange graph.facts key → IsIn key all_keys
  unfolding all_keys
  in-all sited (Jump n a b) within facts =
      in-left (grid Summary graph.facts (call_nodes_of graph)) (in-grid Jump graph.facts (range_with_len 0 graph.nodes) n a b (in-range_below graph.nodes n within) facts.0 facts.1)
  in-all sited (Summary n a b) call facts =
      in-right (grid Jump graph.facts (range_with_len 0 graph.nodes)) (in-grid Summary graph.facts (call_nodes_of graph) n a b
      (in-filter (λ m. is_some_call (slice_get graph.sites m)) (in-range_below graph.nodes n (site-within graph sited n call)) call) facts.0 facts.1)

  member-of : {key : Key} {keys : List Key} → IsIn key keys → list_any (same_key key) keys ≡ true
  member-of {key} (first {xs = xs}) = ap (λ b. b || list_any (same_key key) xs) (same_key_refl key)
  member-of {key} (later {y = y} {xs = xs} there) = elim (same_key key y) as (λ b. (b || list_any (same_key key) xs) ≡ true) [ true ↦ refl | false ↦ member-of there ]

  -- entries of distinct keys of the graph are no more than those
  pub entries-few : {F : Type 0} (entries : List (Key × F)) → length graph.sites ≡ graph.nodes → IsDistinct same_key (keys_of entries)
      → ((key : Key) (f : F) → lookup (same_key key) entries ≡ Some f → IsPlaced graph key × IsKeyInRange graph.facts key)
      → length entries ≤ key_space graph
  entries-few entries sited distinct present =
      let few = length-le_from_is_member same_key_laws (keys_of entries) all_keys distinct among in
      let keys : length (keys_of entries) ≡ length entries = length-map entries (λ e. e.0) in
      let all = length-all in
      omega (arith, few, keys, all)
    where
      found-in : (key : Key) (o : Option _) → lookup (same_key key) entries ≡ o → is_some o ≡ true → IsIn key all_keys
      found-in key None same never = absurd (cc (never))
      found-in key (Some f) same is = let here = present key f same in in-all sited key here.0 here.1

      among : (key : Key) → is_member same_key (keys_of entries) key ≡ true → is_member same_key all_keys key ≡ true
      among key is = member-of (found-in key (lookup (same_key key) entries) refl (is_some-lookup (same_key key) entries ∙ is))

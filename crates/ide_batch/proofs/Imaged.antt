-- What loading a program, making a procedure a root and setting items are to the image of a core.
use Rattle.std.specs.Prelude.{◌≡◌, ℕ, suc, ◌+◌, ◌<◌, Bool, cond, not, nat_lt, List, [], ◌∷◌, ◌++◌, Option, Some, None, length, map, take, slice_index, unwrap_or}
use Rattle.std.specs.List.{flat_map, list_any, position, prefix_len}
use Rattle.std.specs.Map.{lookup}
use Rattle.std.specs.Option.{IsSomeAnd, option_map}
use Rattle.std.specs.Str.{bytes_eq}
use Rattle.std.proofs.Common.{ap, sym, subst, refl, ◌∙◌, arith}
use Rattle.std.proofs.lemmas.List.{length-append, length-map, map-append, take-map}
use Rattle.ide_graph.specs.GraphOf.{IsGraphOf}
use Rattle.ide_graph.specs.Numbers.{Spot, exit, nodes_from, procedure_of, spots_of, spots_on, start_of}
use Rattle.ide_graph.specs.Supergraph.{Supergraph}
use Rattle.ide_lattice.specs.Algebra.{LatticeAlgebra, EdgeAlgebra}
use Rattle.ide_problem.specs.Flow.{Targets}
use Rattle.ide_steps.specs.Core.{CoreData}
use Rattle.ide_steps.specs.Rooted.{IsBegun}
use Rattle.ide_steps.specs.State.{claim_of, state_of as core_state}
use Rattle.ide_text.specs.Program.{procedures_of, value_of}
use Rattle.ide_text.specs.Value.{ProgramValue, value_of_procedure, value_of_statement}
use Rattle.ide_text.specs.declared.program.Procedure.{Procedure}
use Rattle.ide_text.specs.declared.program.Program.{Program}
use Rattle.ide_text.specs.declared.program.Statement.{Statement}
use Rattle.ide_text.specs.declared.program.Statement.TheVariants.{Assign, Skip, At, Goto, Branch, Call, Return}
use Rattle.ide_theory.specs.Images.{Root, root_begun, entered, loaded, seeded_below, image_state, step}
use Rattle.ide_theory.specs.State.{State}
use Rattle.ide_wire.specs.Key.{same_key}
use Rattle.ide_wire.specs.declared.key.Key.{Key}
use Rattle.ide_image.specs.Worklist.{IsFree}
use Rattle.ide_batch.specs.Applied.{HasImage, IsGraphed, IsLoadedWith, NewCoresAreEmpty, SetsItems, entry_in, named_in}
use Rattle.ide_batch.specs.Fold.{ProgramImage, image_entry, named, nodes_in_all, node_count_of, procedures, with_items}
use Rattle.ide_batch.specs.Items.{Item}

-- ---- where procedures begin, by what a program says
on_count : (s : Statement) (ss : List Statement) → length (flat_map spots_on ss) ≡ nodes_in_all (map value_of_statement ss)
    → length (flat_map spots_on (s ∷ ss)) ≡ nodes_in_all (map value_of_statement (s ∷ ss))
on_count (Assign x e) ss same = ap suc same ∙ omega arith
on_count Skip ss same = ap suc same ∙ omega arith
on_count (At l) ss same = ap suc same ∙ omega arith
on_count (Goto l) ss same = ap suc same ∙ omega arith
on_count (Branch l) ss same = ap suc same ∙ omega arith
on_count (Call x callees arguments) ss same = ap (λ n. suc (suc n)) same ∙ omega arith
on_count (Return y) ss same = ap suc same ∙ omega arith

in_count : (ss : List Statement) → length (flat_map spots_on ss) ≡ nodes_in_all (map value_of_statement ss)
in_count [] = refl
in_count (s ∷ ss) = on_count s ss (in_count ss)

of_count : (q : Procedure) → length (spots_of q) ≡ 2 + nodes_in_all (map value_of_statement q.statements.items)
of_count q =
    let body = in_count q.statements.items in
    let ends = length-append (flat_map spots_on q.statements.items) (exit ∷ []) in
    omega (arith, body, ends)

all_count : (i : ℕ) (qs : List Procedure) → node_count_of (map value_of_procedure qs) ≡ length (nodes_from i qs)
all_count i [] = refl
all_count i (q ∷ qs) =
    let here = of_count q in
    let more = all_count (i + 1) qs in
    let ends = length-append (map (λ spot. (i, spot)) (spots_of q)) (nodes_from (i + 1) qs) in
    let long = length-map {B = ℕ × Spot} (spots_of q) (λ spot. (i, spot)) in
    omega (arith, here, more, ends, long)

abbrev place_by : ℕ → ℕ → Option ℕ
place_by prefix count = cond (nat_lt prefix count) (Some prefix) None

prefix_map : {X Y : Type 0} (f : X → Y) (test : Y → Bool) (xs : List X) → prefix_len (λ y. not (test y)) (map f xs) ≡ prefix_len (λ x. not (test (f x))) xs
prefix_map f test [] = refl
prefix_map f test (x ∷ xs) = ap {B = ℕ} (λ (n : ℕ). cond (not (test (f x))) (1 + n) 0) (prefix_map f test xs)

position_map : {X Y : Type 0} (f : X → Y) (test : Y → Bool) (xs : List X) → position test (map f xs) ≡ position (λ x. test (f x)) xs
position_map f test xs = ap (λ n. place_by n (length (map f xs))) (prefix_map f test xs) ∙ ap (place_by (prefix_len (λ x. not (test (f x))) xs)) (length-map xs f)

-- the start of a procedure by what a program says is that of its nodes
pub starts_as : (p : Program) (name : List ℕ) → procedures.start (value_of p) name ≡ option_map (start_of (procedures_of p)) (procedure_of (procedures_of p) name)
starts_as p name =
    ap (option_map (λ j. node_count_of (take j (map value_of_procedure (procedures_of p))))) (position_map value_of_procedure (λ q. bytes_eq name q.name) (procedures_of p))
    ∙ at (procedure_of (procedures_of p) name)
  where
    at : (o : Option ℕ) → option_map (λ j. node_count_of (take j (map value_of_procedure (procedures_of p)))) o ≡ option_map (start_of (procedures_of p)) o
    at None = refl
    at (Some i) = ap (λ n. Some n) (ap node_count_of (take-map value_of_procedure i (procedures_of p)) ∙ all_count 0 (take i (procedures_of p)))

start_is : (p : Program) (name : List ℕ) (i : ℕ) → procedure_of (procedures_of p) name ≡ Some i → procedures.start (value_of p) name ≡ Some (start_of (procedures_of p) i)
start_is p name i is = starts_as p name ∙ ap (option_map (start_of (procedures_of p))) is

some_is : {X : Type 0} (x y : X) → Some x ≡ Some y → x ≡ y
some_is x y same = cc (same)

-- ---- a program is loaded
graphed_is : (o : Option ProgramValue) (graph : Option Supergraph) (g : Supergraph) → IsGraphed o graph → graph ≡ Some g
    → (p : Program) × (o ≡ Some (value_of p)) × IsGraphOf p g
graphed_is None graph g none is = absurd (cc (none, is))
graphed_is (Some v) graph g (p, kept, says, is_kept, of) is =
    (p, ap (λ w. Some w) (sym says), subst (IsGraphOf p) (some_is kept g (sym is_kept ∙ is)) of)

graphed_by : (p : Program) (graph : Option Supergraph) → IsSomeAnd graph (IsGraphOf p) → IsGraphed (Some (value_of p)) graph
graphed_by p None of = absurd of
graphed_by p (Some g) of = (p, g, refl, refl, of)

module _ {F : Type 0} where
  pub has_loaded : (p : Program) (core : CoreData F) → IsLoadedWith p core → HasImage (loaded (Some (value_of p))) core
  has_loaded p core is = record {
    program = sym is.program;
    graphed = subst (λ o. IsGraphed o core.graph) (sym is.program) (graphed_by p core.graph is.graph);
    roots = ap (map (λ root. Some root)) (sym is.roots);
    get = λ key. ap (lookup (same_key key)) (sym is.entries);
    pending = λ key. ap (list_any (same_key key)) (sym is.pending);
  }

  pub has_nothing : NewCoresAreEmpty F
  has_nothing core program graph roots entries pending = record {
    program = sym program;
    graphed = subst (λ o. IsGraphed o core.graph) (sym program) graph;
    roots = ap (map (λ root. Some root)) (sym roots);
    get = λ key. ap (lookup (same_key key)) (sym entries);
    pending = λ key. ap (list_any (same_key key)) (sym pending);
  }

  -- ---- items are set
  pub has_items : (image : ProgramImage F) (old new : CoreData F) (items : List (Item F)) → HasImage image old → SetsItems old new items → HasImage (with_items image items) new
  has_items image old new items has sets = record {
    program = has.program ∙ sym sets.same.program;
    graphed = subst (λ o. IsGraphed o new.graph) (sym sets.same.program) (subst (IsGraphed old.program) (sym sets.same.graph) has.graphed);
    roots = ap (λ graph. map (named_in graph) image.roots) sets.same.graph ∙ has.roots ∙ ap (map (λ root. Some root)) (sym sets.same.roots);
    get = λ key. ap (λ (e : Option F × Bool). e.0) (entry key);
    pending = λ key. ap (λ (e : Option F × Bool). e.1) (entry key);
  }
    where
      before : (key : Key) → image_entry image key ≡ entry_in old key
      before key = λ i. (has.get key i, has.pending key i)

      entry : (key : Key) → unwrap_or (named items key) (image_entry image key) ≡ entry_in new key
      entry key = ap (unwrap_or (named items key)) (before key) ∙ sym (sets.entries key)

-- ---- a procedure becomes a root
module _ {F L : Type 0} (A : LatticeAlgebra L) (B : EdgeAlgebra F L) (targets : Targets F) (same : F → F → Bool) where
  pub has_root : (image : ProgramImage F) (old new : CoreData F) (name : List ℕ) → IsFree old.pile → HasImage image old
      → IsBegun A B targets old new name → HasImage (step procedures B same image (Root name)) new
  has_root image old new name free has is = record {
    program = has.program ∙ sym is.program;
    graphed = subst (λ o. IsGraphed o new.graph) (sym is.program) (subst (IsGraphed old.program) (sym is.same) has.graphed);
    roots =
        ap (λ graph. map (named_in graph) (image.roots ++ name ∷ [])) is.same
        ∙ map-append (named_in old.graph) image.roots (name ∷ [])
        ∙ ap (λ rs. rs ++ named_in old.graph name ∷ []) has.roots
        ∙ ap (λ (o : Option ℕ). map (λ root. Some root) old.roots ++ o ∷ []) (ap (λ graph. named_in graph name) is.is ∙ is.named.named)
        ∙ sym (map-append (λ (root : ℕ). Some root) old.roots (is.root ∷ []))
        ∙ ap (map (λ root. Some root)) (sym is.roots);
    get = λ key. ap (λ (s : State F). s.get key) whole;
    pending = λ key. ap (λ (s : State F). s.pending key) whole;
  }
    where
      known : (p : Program) × (old.program ≡ Some (value_of p)) × IsGraphOf p is.graph
      known = graphed_is old.program old.graph is.graph has.graphed is.is

      begins : procedures.start (value_of known.0) name ≡ Some (slice_index is.graph.starts is.root)
      begins =
          start_is known.0 name is.root (sym (known.2.named name) ∙ is.named.named)
          ∙ ap (λ n. Some n) (sym (known.2.starts is.root (subst (λ n. is.root < n) known.2.procedures is.within)))

      states : image_state image ≡ core_state B targets old
      states = λ i. record { get = λ key. has.get key i; pending = λ key. has.pending key i; claims = λ h. option_map (claim_of B targets) (sym (free h) i) }

      whole : entered procedures B same image.program name (image_state image) ≡ core_state B targets new
      whole =
          ap (λ o. entered procedures B same o name (image_state image)) (has.program ∙ known.1)
          ∙ ap (λ o. root_begun procedures B same (value_of known.0) o (image_state image)) begins
          ∙ ap (seeded_below B (image_state image) (slice_index is.graph.starts is.root)) (sym known.2.counts.1)
          ∙ ap (λ s. seeded_below B s (slice_index is.graph.starts is.root) is.graph.entries) states
          ∙ sym is.state

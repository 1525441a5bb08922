-- An entry at whose node no call has edges hands nothing on, and cells are left by what hands nothing on.
use Rattle.std.proofs.Common.{◌≡◌, ℕ, ◌+◌, ◌*◌, ◌/◌, ◌%◌, ◌<◌, ◌≤◌, List, [], None, Some, inl, inr, arith, length, ap, refl, subst, sym, ◌∙◌}
use Rattle.std.proofs.lemmas.Bool.{cases_lt}
use Rattle.std.proofs.lemmas.Option.{same_Some}
use Rattle.ide_graph.specs.Supergraph.{Supergraph}
use Rattle.ide_lattice.specs.Algebra.{LatticeAlgebra, EdgeAlgebra}
use Rattle.ide_problem.specs.Flow.{Targets}
use Rattle.ide_theory.specs.Member.{Each}
use Rattle.ide_image.specs.Cells.{BeginsWith, ShowTable, TablesData, shown_in}
use Rattle.ide_wire.specs.Key.{node_of}
use Rattle.ide_wire.specs.declared.key.Key.{Key}
use Rattle.ide_wire.specs.declared.key.Key.TheVariants.{Jump, Summary}
use Rattle.ide_values.specs.declared.passes.Starts.{Starts}
use Rattle.ide_values.specs.Pass.{IsSteadyBy, IsSteadyOver, calls_of}
use Rattle.ide_values.specs.Passing.{IsSteadyAt, LeavesCells, LeavesEach, LeavesOffsets, PassesBy}
use Rattle.ide_values.specs.Near.{HasNoJump, IsSummary}
use Rattle.ide_values.specs.NextCalls.{HaveNoCalls}
use Rattle.ide_values.proofs.Shown.{found_is_shown}

-- the key is that of a summary, or of a jump where no call edge leaves
abbrev pub IsNoCall : Supergraph → Key → Type 0
IsNoCall graph (Jump n a b) = calls_of graph n ≡ []
IsNoCall graph (Summary c a b) = Unit {0}

module _ {L F : Type 0} (A : LatticeAlgebra L) (B : EdgeAlgebra F L) (targets : Targets F) (graph : Supergraph) where
  pub steady-none : (values : List L) (key : Key) (f : F) → IsNoCall graph key → IsSteadyBy A B graph targets values key f
  steady-none values (Jump n a b) f none = subst (λ calls. Each (IsSteadyOver A B graph targets n a b f values) calls) (sym none) tt
  steady-none values (Summary c a b) f none = tt

-- a summary
pub no-call-summary : (graph : Supergraph) (key : Key) → IsSummary key → IsNoCall graph key
no-call-summary graph (Jump n a b) is = absurd is
no-call-summary graph (Summary c a b) is = tt

-- a key at a node that no call edge leaves
pub no-call-at : (graph : Supergraph) (key : Key) (node : ℕ) → node_of key ≡ node → calls_of graph node ≡ [] → IsNoCall graph key
no-call-at graph (Jump n a b) node at none = ap (calls_of graph) at ∙ none
no-call-at graph (Summary c a b) node at none = tt

module _ {P F L : Type 0} (A : LatticeAlgebra L) (B : EdgeAlgebra F L) (targets : Targets F) (graph : Supergraph) (tables : TablesData F) where
  -- start values that stay leave cells that hand nothing on
  pub leaves_not : (begin end : ℕ) (starts : Starts P L F)
      → ((cell : ℕ) → begin ≤ cell → cell < end → IsSteadyAt A B targets graph tables starts.values.items cell) → LeavesCells A B targets graph tables begin end starts starts
  leaves_not begin end starts steady = record { same = λ calm. refl; before = λ calm. calm; steady = λ calm. steady }

  -- so they leave cells of a page that has no jump
  pub leaves_page : (page begin end : ℕ) (starts : Starts P L F) → end ≤ 64 → HasNoJump tables page → LeavesOffsets A B targets graph tables page begin end starts starts
  leaves_page page begin end starts within none =
      leaves_not (64 * page + begin) (64 * page + end) starts (λ cell low high e is.
      steady-none A B targets graph starts.values.items e.0 e.1 (no-call-summary graph e.0 (none cell e (omega (arith, low, high, within)) is)))

  -- and cells of a page at nodes that no call edges leave
  pub leaves_over : (page node from to begin end : ℕ) (starts : Starts P L F) → BeginsWith tables page (Jump node from to)
      → begin ≤ end → end ≤ 64 → HaveNoCalls graph (node + begin) (node + end) → LeavesOffsets A B targets graph tables page begin end starts starts
  leaves_over page node from to begin end starts at order within none =
      leaves_not (64 * page + begin) (64 * page + end) starts (λ cell low high e is.
      let here : cell / 64 ≡ page = omega (arith, low, high, order, within) in
      let least : node + begin ≤ node + cell % 64 = omega (arith, low, high, order, within) in
      let most : node + cell % 64 < node + end = omega (arith, low, high, order, within) in
      steady-none A B targets graph starts.values.items e.0 e.1
      (no-call-at graph e.0 (node + cell % 64) (ap node_of (at cell e here is)) (none (node + cell % 64) least most)))

  -- a cell is left where it shows nothing
  pub leaves_empty : (page offset : ℕ) (starts : Starts P L F) → shown_in tables (64 * page + offset) ≡ None
      → LeavesOffsets A B targets graph tables page offset (offset + 1) starts starts
  leaves_empty page offset starts empty =
      leaves_not (64 * page + offset) (64 * page + (offset + 1)) starts (λ cell low high e is.
      let here : cell ≡ 64 * page + offset = omega (arith, low, high) in
      let no : None ≡ Some e = sym empty ∙ ap (shown_in tables) (sym here) ∙ is in
      absurd (cc (no)))

  -- and where its entry is passed on
  pub leaves_shown : (page offset : ℕ) (key : Key) (f : F) (old new : Starts P L F) → shown_in tables (64 * page + offset) ≡ Some (key, f)
      → PassesBy A B targets graph key f old new → LeavesOffsets A B targets graph tables page offset (offset + 1) old new
  leaves_shown page offset key f old new shows passes = record {
    same = passes.same;
    before = passes.before;
    steady = λ calm cell low high e is.
        let here : cell ≡ 64 * page + offset = omega (arith, low, high) in
        let same : (key, f) ≡ e = same_Some (key, f) e (sym shows ∙ ap (shown_in tables) (sym here) ∙ is) in
        subst (λ (x : Key × F). IsSteadyBy A B graph targets old.values.items x.0 x.1) same (passes.steady calm);
  }

  -- cells that follow each other are left one after the other
  pub leaves_then : (begin middle end : ℕ) {u v w : Starts P L F} → LeavesCells A B targets graph tables begin middle u v
      → LeavesCells A B targets graph tables middle end v w → LeavesCells A B targets graph tables begin end u w
  leaves_then begin middle end first more = record {
    same = λ calm. more.same calm ∙ first.same (more.before calm);
    before = λ calm. first.before (more.before calm);
    steady = λ calm cell low high. elim (cases_lt cell middle) [
      | inl less ↦ first.steady (more.before calm) cell low less
      | inr least ↦
          let from : middle ≤ cell = omega (arith, least) in
          subst (λ values. IsSteadyAt A B targets graph tables values cell) (first.same (more.before calm)) (more.steady calm cell from high)
    ];
  }

  -- and so are those before another end
  pub leaves_fewer : (begin end more : ℕ) {u v : Starts P L F} → end ≤ more → LeavesCells A B targets graph tables begin more u v
      → LeavesCells A B targets graph tables begin end u v
  leaves_fewer begin end more less leaves = record {
    same = leaves.same;
    before = leaves.before;
    steady = λ calm cell low high. leaves.steady calm cell low (omega (arith, less, high));
  }

  -- with all cells each entry is left
  pub leaves_each : (old new : Starts P L F) → ShowTable tables → LeavesCells A B targets graph tables 0 (length tables.cells) old new
      → LeavesEach A B targets graph tables.table old new
  leaves_each old new show leaves = record {
    same = leaves.same;
    steady = λ calm key f is.
        let (cell, within, shows) = found_is_shown tables show key f is in
        leaves.steady calm cell (omega arith) within (key, f) shows;
  }

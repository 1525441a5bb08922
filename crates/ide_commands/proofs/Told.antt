-- What the calls of a store say of it, put together: what a seal came to, and the values of an image.
use Rattle.std.proofs.Common.{◌≡◌, ◌∙◌, ℕ, Bool, List, [], arith, refl, ap, sym, subst}
use Rattle.std.specs.Prelude.{Option, Some, None, Result, Ok, Err, IfErr, IfOk, IfSome, is_some, option_map}
use Rattle.std.specs.Option.{option_copied}
use Rattle.std.specs.Borrow.{Bor}
use Rattle.ide_graph.specs.Supergraph.{Supergraph}
use Rattle.ide_store.specs.Table.{Analysis, TableData}
use Rattle.ide_image.specs.Tables.{Table}
use Rattle.ide_steps.specs.Frozen.{graph_in}
use Rattle.ide_steps.specs.declared.closed.Closed.{Closed}
use Rattle.ide_values.specs.Chunks.{WritesDumpOf}
use Rattle.ide_values.specs.Closed.{FollowFrom}
use Rattle.ide_values.specs.Frozen.{AreBestOf}
use Rattle.ide_values.specs.Refusal.{IsValuesRefusal, memory, no_worker, too_many}
use Rattle.ide_values.specs.Values.{ValuesData, dump_of_values}
use Rattle.ide_wire.specs.declared.refused.Refused.{Refused}
use Rattle.ide_commands.specs.Asked.{AreNow, Dumps, IsDumpRefusal, WritesText, no_memory}

module _ {F L : Type 0} (a : Analysis F L) where
  pub are_now : (table : TableData F) (values : ValuesData L) (graph : Supergraph) (tables : Table F) (roots : List ℕ)
      → table.core.pile.pending ≡ [] → table.core.graph ≡ Some graph → tables ≡ table.core.table → roots ≡ table.core.roots
      → values.graph ≡ graph → values.roots ≡ roots → FollowFrom a.lattice a.functions a.targets graph tables roots values.values
      → AreBestOf a.lattice a.functions a.targets tables values → AreNow a table values
  are_now table values graph tables roots quiet has same_tables same_roots is_graph is_roots follow best =
      let A = a.lattice in
      let B = a.functions in
      let T = a.targets in
      record {
        quiet = quiet;
        graph = has ∙ ap (λ (g : Supergraph). Some g) (sym is_graph);
        roots = is_roots ∙ same_roots;
        follow = subst (λ (t : Table F). FollowFrom A B T values.graph t values.roots values.values) same_tables
            (subst (λ (g : Supergraph). FollowFrom A B T g tables values.roots values.values) (sym is_graph)
            (subst (λ (r : List ℕ). FollowFrom A B T graph tables r values.values) (sym is_roots) follow));
        best = subst (λ (t : Table F). AreBestOf A B T t values) same_tables best;
      }

  -- the dump of a frozen image's values is that of the store's
  pub writes_now : (shown : L → List ℕ) {P : Type 0} (table : TableData F) (closed : Closed P L F)
      → table.core.pile.pending ≡ [] → table.core.graph ≡ Some (graph_in closed) → closed.tables.table ≡ table.core.table → closed.roots.items ≡ table.core.roots
      → {T E R : Type 0} (result : Result (Result T E) R) (before after : Option (List ℕ))
      → WritesDumpOf a.lattice a.functions a.targets shown closed result before after
      → IfOk result (λ end. WritesText (Dumps a shown table) end before after)
  writes_now shown table closed quiet has same_tables same_roots (Ok end) before after writes = record {
    text = dump_of_values a.lattice shown writes.values;
    is = record {
      values = writes.values;
      now = are_now table writes.values (graph_in closed) closed.tables.table closed.roots.items quiet has same_tables same_roots
          writes.graph writes.roots writes.follow writes.best;
      is = refl;
    };
    written = writes.written;
  }
  writes_now shown table closed quiet has same_tables same_roots (Err e) before after writes = tt

-- one worker is refused for want of memory alone
one-refused : {F : Type 0} (table : TableData F) {refused : Refused} → IsValuesRefusal 1 refused → IsDumpRefusal table refused
one-refused table (no_worker none) = absurd (omega (arith, none))
one-refused table (too_many past) = absurd (omega (arith, past))
one-refused table (memory are) = no_memory

pub dump_refused : {F T : Type 0} (table : TableData F) (result : Result T Refused) → IfErr result (IsValuesRefusal 1) → IfErr result (IsDumpRefusal table)
dump_refused table (Ok x) why = tt
dump_refused table (Err e) why = one-refused table why

-- something is there where what it stands for is
pub is_there : {X Y : Type 0} (f : X → Y) (o : Option (Bor X)) (p : Option Y) (b : Bool) → b ≡ is_some o → option_map f (option_copied o) ≡ p
    → b ≡ is_some p
is_there {X} {Y} f None p b same is = same ∙ ap (λ (q : Option Y). is_some q) is
is_there {X} {Y} f (Some x) p b same is = same ∙ ap (λ (q : Option Y). is_some q) is

-- what holds of what was made holds of the same with another refusal
pub is_made : {T E X : Type 0} (Holds : T → Type 0) (made : Result T X) (result : Result T E) → IfOk result (λ x. made ≡ Ok x) → IfOk made Holds
    → IfOk result Holds
is_made Holds made (Ok x) is holds = subst (λ m. IfOk m Holds) is holds
is_made Holds made (Err e) is holds = tt

-- What is printed of the values of a store.
use Rattle.std.specs.Global.{Vec}
use Rattle.std.specs.Io.KnownBytes.{Appends as WritesOut}
use Rattle.std.specs.Prelude.{◌≡◌, ◌++◌, ℕ, List, [], Option, Some, Result, OnOk, codes}
use Rattle.ide_graph.specs.Supergraph.{IsFoundAt}
use Rattle.ide_steps.specs.CloseRefusal.{IsFreezeRefusal}
use Rattle.ide_store.specs.Table.{Analysis, TableData}
use Rattle.ide_store.specs.TableCalls.{IsRefusal}
use Rattle.ide_values.specs.Closed.{FollowFrom}
use Rattle.ide_values.specs.Frozen.{AreBestOf}
use Rattle.ide_values.specs.Values.{ValuesData, dump_of_values, value_there}
use Rattle.ide_wire.specs.declared.refused.Refused.{Refused}
use Rattle.ide_wire.specs.declared.refused.Refused.TheVariants.{NoMemory}

-- a text of which that holds is appended
abbrev pub Prints : (List ℕ → Type 0) → (old new : Vec ℕ) → Type 0
Prints Holds old new = (text : List ℕ) × (new.items ≡ old.items ++ text) × Holds text

-- there is a text of which that holds, and where the output did not fail it is written behind what that had
pub record WritesText (Holds : List ℕ → Type 0) {T E : Type 0} (end : Result T E) (before after : Option (List ℕ)) : Type 0 where
  pub text : List ℕ
  pub is : Holds text
  pub written : OnOk end (WritesOut before after text)

-- why no dump is written: the image is not frozen; or memory is wanting
pub data IsDumpRefusal {F : Type 0} (table : TableData F) : Refused → Type 0 where
  not_frozen : {refused : Refused} → IsRefusal table (IsFreezeRefusal table.core) refused → IsDumpRefusal table refused
  no_memory : IsDumpRefusal table NoMemory

module _ {F L : Type 0} (a : Analysis F L) where
  -- nothing is pending, and the values follow from the tables, for the program and its roots; each is best where a run over
  -- the program came to these tables
  pub record AreNow (table : TableData F) (values : ValuesData L) : Type 0 where
    pub quiet : table.core.pile.pending ≡ []
    pub graph : table.core.graph ≡ Some values.graph
    pub roots : values.roots ≡ table.core.roots
    pub follow : FollowFrom a.lattice a.functions a.targets values.graph table.core.table values.roots values.values
    pub best : AreBestOf a.lattice a.functions a.targets table.core.table values

  module _ (shown : L → List ℕ) (table : TableData F) where
    -- the text is the value of the fact of that name at the position of the procedure, as it is shown
    pub record Answers (procedure : List ℕ) (position : ℕ) (name : List ℕ) (text : List ℕ) : Type 0 where
      pub values : ValuesData L
      pub now : AreNow table values
      pub node : ℕ
      pub fact : ℕ
      pub found : IsFoundAt values.graph procedure position name node fact
      pub is : text ≡ shown (value_there a.lattice values node fact) ++ codes "\n"

    -- the text is the dump of the values
    pub record Dumps (text : List ℕ) : Type 0 where
      pub values : ValuesData L
      pub now : AreNow table values
      pub is : text ≡ dump_of_values a.lattice shown values

    -- the dump of the values is appended
    abbrev pub PrintsDump : (old new : Vec ℕ) → Type 0
    PrintsDump old new = Prints Dumps old new

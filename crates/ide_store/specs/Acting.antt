-- That the calls of a core are acts of a store whose half that works they are made for.
use Rattle.std.specs.Prelude.{◌≡◌, ◌<◌, ◌++◌, ℕ, ◌+◌, true, List, [], ◌∷◌, Option, Some, None, length}
use Rattle.std.specs.Option.{is_some, option_map}
use Rattle.ide_batch.specs.Applied.{IsLoadedWith}
use Rattle.ide_batch.specs.Bodies.{IsEntryOf}
use Rattle.ide_batch.specs.Items.{Item}
use Rattle.ide_batch.specs.Records as records
use Rattle.ide_batch.specs.Records.{RecordValue}
use Rattle.ide_journal.specs.Format.{Entry, IsEntry}
use Rattle.ide_steps.specs.Changed.{Remembers}
use Rattle.ide_steps.specs.Claiming.{FindsTask, KeepsAllBut}
use Rattle.ide_steps.specs.Core.{CoreData, IsSameProblem}
use Rattle.ide_steps.specs.Items.{AreChangedItems}
use Rattle.ide_steps.specs.Room.{IsWholeCore}
use Rattle.ide_steps.specs.Rooted.{IsBegun}
use Rattle.ide_steps.specs.Steps.{EndsDone, GivesBack, IsCurrent, LowersPart, SkipsPart}
use Rattle.ide_tasks.specs.Task.{TaskData}
use Rattle.ide_tasks.specs.Work.{WorkData}
use Rattle.ide_text.specs.Parsed.{IsParsed}
use Rattle.ide_text.specs.Program.{value_of}
use Rattle.ide_text.specs.declared.program.Program.{Program}
use Rattle.ide_image.specs.Worklist.{claim_at}
use Rattle.ide_store.specs.Hands.{Batches, Loads, Roots}
use Rattle.ide_store.specs.Table.{Analysis, IsAct, KeepsRest, TableData, forms_of}
use Rattle.ide_store.specs.TableCalls.{DoesPart, EndsClaim, FindsNothing, GivesClaimBack, TakesTask, behind_first}

-- the entries that keys have are those from which changes are noted on, and all else stays
abbrev pub BeginsAnew : {F : Type 0} → (old new : CoreData F) → Type 0
BeginsAnew old new = new ≡ record old { changes = Some [] }

-- so many records more wait
pub record WaitsFor {F : Type 0} (entries : List Entry) (old new : TableData F) : Type 0 where
  pub version : new.version ≡ old.version
  pub failed : new.failed ≡ old.failed
  pub waiting : new.waiting ≡ old.waiting ++ entries
  pub sealed : new.sealed ≡ old.sealed + length entries

module _ {F L : Type 0} (a : Analysis F L) where
  -- the journal's record spells that one, in the version of the half
  pub record SpellsRecord (table : TableData F) (value : RecordValue F) (entry : Entry) : Type 0 where
    pub spelled : IsEntryOf (forms_of a) table.version value entry
    pub proper : IsEntry entry

  -- it spells the items that changed
  pub record SpellsChanges (table : TableData F) (entry : Entry) : Type 0 where
    pub items : List (Item F)
    pub changed : AreChangedItems table.core items
    pub spells : SpellsRecord table (records.Batch items) entry

  -- nothing changed, and there is no record; or there is one that spells what did
  abbrev pub SpellsFirst : TableData F → Option Entry → Type 0
  SpellsFirst table None = AreChangedItems table.core []
  SpellsFirst table (Some entry) = SpellsChanges table entry

-- each call, by what it says of the core before and after it, is an act of the store
pub record CallsAreActs {F L : Type 0} (a : Analysis F L) : Type 0 where
  pub claim : (hand : ℕ) (old new : TableData F) (task : TaskData F) → IsWholeCore old.core → KeepsRest old new
      → KeepsAllBut hand old.core new.core → FindsTask a.functions a.targets hand old.core new.core task → TakesTask a hand old new task
  pub lower : (hand : ℕ) (old new : TableData F) (work after : WorkData F) → is_some old.core.changes ≡ true → KeepsRest old new
      → IsSameProblem old.core new.core → Remembers old.core new.core → IsCurrent a.functions a.targets old.core hand work
      → LowersPart a.functions a.targets hand old.core new.core work after → DoesPart a hand old new work after
  pub skip : (hand : ℕ) (old new : TableData F) (work after : WorkData F) → is_some old.core.changes ≡ true → KeepsRest old new
      → IsSameProblem old.core new.core → Remembers old.core new.core → IsCurrent a.functions a.targets old.core hand work
      → SkipsPart a.functions a.targets hand old.core new.core work after → DoesPart a hand old new work after
  pub finish : (hand : ℕ) (old new : TableData F) → is_some old.core.changes ≡ true → KeepsRest old new
      → IsSameProblem old.core new.core → Remembers old.core new.core
      → EndsDone a.functions a.targets hand old.core new.core → EndsClaim a hand old new
  pub release : (hand : ℕ) (old new : TableData F) → KeepsRest old new → IsSameProblem old.core new.core
      → new.core.table ≡ old.core.table → new.core.pile.pending ≡ old.core.pile.pending → new.core.changes ≡ old.core.changes
      → (claim_at old.core.pile hand ≡ None → ⊥) → GivesBack a.functions a.targets hand old.core new.core → GivesClaimBack a hand old new
  pub load : (program : Program) (text : List ℕ) (entry : Entry) (old new : TableData F) → IsWholeCore old.core
      → IsParsed text program → SpellsRecord a old (records.Load text) entry → old.sealed < 4294967295
      → WaitsFor (entry ∷ []) old new → IsLoadedWith program new.core → new.core.changes ≡ Some []
      → IsAct a old new (λ place. Loads (value_of program) (old.version, entry))
  pub root : (name : List ℕ) (first : Option Entry) (entry : Entry) (old new : TableData F) (mid : CoreData F) → IsWholeCore old.core
      → SpellsFirst a old first → SpellsRecord a old (records.Root name) entry → old.sealed < 4294967294
      → IsBegun a.lattice a.functions a.targets old.core mid name → BeginsAnew mid new.core
      → WaitsFor (behind_first first entry) old new → IsAct a old new (λ place. Roots name (option_map (λ batch. (old.version, batch)) first) (old.version, entry))
  pub batch : (entry : Entry) (old new : TableData F) → IsWholeCore old.core → SpellsChanges a old entry → old.sealed < 4294967295
      → WaitsFor (entry ∷ []) old new → BeginsAnew old.core new.core → IsAct a old new (λ place. Batches (old.version, entry))
  pub nothing : (old new : TableData F) → IsWholeCore old.core → AreChangedItems old.core [] → KeepsRest old new → BeginsAnew old.core new.core
      → FindsNothing a old new

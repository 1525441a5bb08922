-- What a core's image is, which records of a journal apply to a core, and what applying one does.
use Rattle.std.specs.Prelude.{◌≡◌, ℕ, ◌⊎◌, ◌++◌, Bool, List, [], Option, Some, None, map, unwrap_or}
use Rattle.std.specs.List.{All}
use Rattle.std.specs.Option.{IsSomeAnd}
use Rattle.ide_graph.specs.GraphOf.{IsGraphOf}
use Rattle.ide_graph.specs.Supergraph.{Supergraph, procedure_named}
use Rattle.ide_journal.specs.Format.{Entry}
use Rattle.ide_journal.specs.declared.version.Version.{Version}
use Rattle.ide_lattice.specs.Algebra.{EdgeAlgebra}
use Rattle.ide_steps.specs.Core.{CoreData, IsSameProblem, IsUnchanged}
use Rattle.ide_steps.specs.Items.{IsKeyOf}
use Rattle.ide_steps.specs.Refusal.{IsRootName}
use Rattle.ide_image.specs.Tables.{found}
use Rattle.ide_text.specs.Parsed.{IsParsed}
use Rattle.ide_text.specs.Program.{value_of}
use Rattle.ide_text.specs.Value.{ProgramValue}
use Rattle.ide_text.specs.declared.program.Program.{Program}
use Rattle.ide_theory.specs.Images.{loaded}
use Rattle.ide_wire.specs.declared.key.Key.{Key}
use Rattle.ide_wire.specs.declared.refused.Refused.{Refused}
use Rattle.ide_wire.specs.declared.refused.Refused.TheVariants.{NoMemory, Damaged}
use Rattle.ide_image.specs.Worklist.{is_pending}
use Rattle.ide_batch.specs.Bodies.{AreSpelled, IsEntryOf}
use Rattle.ide_batch.specs.Fold.{RecordLeads, ProgramImage, named, with_items}
use Rattle.ide_batch.specs.Items.{Functions, Item}
use Rattle.ide_batch.specs.Records.{RecordValue, Load, Root, Batch}

-- the graph is that of a program that says so, or there is none
abbrev pub IsGraphed : Option ProgramValue → Option Supergraph → Type 0
IsGraphed None graph = graph ≡ None
IsGraphed (Some v) graph = (p : Program) × (kept : Supergraph) × (value_of p ≡ v) × (graph ≡ Some kept) × IsGraphOf p kept

-- the index of the procedure of the name, where a program is loaded
abbrev pub named_in : Option Supergraph → List ℕ → Option ℕ
named_in None name = None
named_in (Some graph) name = procedure_named graph name

-- the core has the image: its program, with its graph; its roots, as indices of the procedures of their names; its
-- functions and pending keys
pub record HasImage {F : Type 0} (image : ProgramImage F) (core : CoreData F) : Type 0 where
  pub program : image.program ≡ core.program
  pub graphed : IsGraphed core.program core.graph
  pub roots : map (named_in core.graph) image.roots ≡ map (λ root. Some root) core.roots
  pub get : (key : Key) → image.get key ≡ found core.table key
  pub pending : (key : Key) → image.pending key ≡ is_pending core.pile key

-- what the core has of a key
abbrev pub entry_in : {F : Type 0} → CoreData F → Key → Option F × Bool
entry_in core key = (found core.table key, is_pending core.pile key)

-- each key of the items has the entry that they say, and all else stays
pub record SetsItems {F : Type 0} (old new : CoreData F) (items : List (Item F)) : Type 0 where
  pub same : IsSameProblem old new
  pub entries : (key : Key) → entry_in new key ≡ unwrap_or (named items key) (entry_in old key)

-- the items' keys are such as the core may have
abbrev pub MayHaveAll : {F : Type 0} → CoreData F → List (Item F) → Type 0
MayHaveAll core items = All (λ item. IsSomeAnd core.graph (λ graph. IsKeyOf graph item.0)) items

-- the name may be a root
abbrev pub MayBeRoot : {F : Type 0} → CoreData F → List ℕ → Type 0
MayBeRoot core name = IsSomeAnd core.graph (λ graph. (root : ℕ) × IsRootName graph core.roots name root)

-- the record fits the core: its text has no fault, its name may be a root, or its keys are such as the core may have
abbrev pub RecordFits : {F : Type 0} → CoreData F → RecordValue F → Type 0
RecordFits core (Load text) = (p : Program) × IsParsed text p
RecordFits core (Root name) = MayBeRoot core name
RecordFits core (Batch items) = MayHaveAll core items

module _ {F : Type 0} (functions : Functions F) (version : Version) where
  -- the journal's record is one that fits the core
  abbrev pub CanApply : CoreData F → Entry → Type 0
  CanApply core entry = (r : RecordValue F) × IsEntryOf functions version r entry × RecordFits core r

  -- none, or the first items of a batch that the journal's record is
  abbrev pub IsKeptBatch : List (Item F) → Entry → Type 0
  IsKeptBatch kept entry = (kept ≡ []) ⊎ ((rest : List (Item F)) × IsEntryOf functions version (Batch (kept ++ rest)) entry)

  -- it is spelled so, and leads from each image that the core had to one that it has
  pub record IsApplied {L : Type 0} (edge : EdgeAlgebra F L) (same : F → F → Bool) (old new : CoreData F) (entry : Entry) : Type 0 where
    pub value : RecordValue F
    pub spelled : IsEntryOf functions version value entry
    pub fits : RecordFits old value
    pub leads : (image : ProgramImage F) → HasImage image old
        → (now : ProgramImage F) × RecordLeads edge same value image now × HasImage now new

  -- why it is not applied: it does not fit, and nothing changed; or memory is wanting, and the image has the first of its
  -- items, if any
  pub data ApplyRefusal (n : ℕ) (old new : CoreData F) (entry : Entry) : Refused → Type 0 where
    damaged : ¬ (CanApply old entry) → new ≡ old → ApplyRefusal n old new entry (Damaged n)
    memory : (kept : List (Item F)) → IsKeptBatch kept entry → ((image : ProgramImage F) → HasImage image old → HasImage (with_items image kept) new)
        → ApplyRefusal n old new entry NoMemory

-- the first items are set
pub record SetsFront {F : Type 0} (old new : CoreData F) (items : List (Item F)) : Type 0 where
  pub kept : List (Item F)
  pub rest : List (Item F)
  pub parts : items ≡ kept ++ rest
  pub sets : SetsItems old new kept

-- the program is loaded, and nothing is done
pub record IsLoadedWith {F : Type 0} (p : Program) (core : CoreData F) : Type 0 where
  pub program : core.program ≡ Some (value_of p)
  pub graph : IsSomeAnd core.graph (IsGraphOf p)
  pub roots : core.roots ≡ []
  pub entries : core.table.entries ≡ []
  pub pending : core.pile.pending ≡ []
  pub claims : core.pile.claims ≡ []

-- the text is loaded
abbrev pub LoadsText : {F : Type 0} → List ℕ → CoreData F → Type 0
LoadsText text core = (p : Program) × IsParsed text p × IsLoadedWith p core

-- the refusal of a record of that number that a call refused so
abbrev pub refusal_of : ℕ → Refused → Refused
refusal_of n NoMemory = NoMemory
refusal_of n _ = Damaged n

-- a refusal for want of memory, or of that record, which nothing fits
abbrev pub RefusesRecord : ℕ → Type 0 → Refused → Type 0
RefusesRecord n Fitting refused = (refused ≡ NoMemory) ⊎ ((refused ≡ Damaged n) × ¬ Fitting)

module _ {F : Type 0} (functions : Functions F) (version : Version) where
  -- such a body spells items that the core may have
  abbrev pub SpellsFitting : CoreData F → List ℕ → Type 0
  SpellsFitting core body = (items : List (Item F)) × AreSpelled functions version items body × MayHaveAll core items

  -- the items of the body are set
  abbrev pub SetsBody : (old new : CoreData F) → List ℕ → Type 0
  SetsBody old new body = (items : List (Item F)) × AreSpelled functions version items body × MayHaveAll old items × SetsItems old new items

  -- nothing is set, or the first items of the body
  abbrev pub SetsSome : (old new : CoreData F) → List ℕ → Type 0
  SetsSome old new body = IsUnchanged old new ⊎ ((items : List (Item F)) × AreSpelled functions version items body × SetsFront old new items)

-- a core with no program, of which nothing is done, has the empty image
abbrev pub NewCoresAreEmpty : Type 0 → Type 0
NewCoresAreEmpty F = (core : CoreData F) → core.program ≡ None → core.graph ≡ None → core.roots ≡ [] → core.table.entries ≡ []
    → core.pile.pending ≡ [] → HasImage (loaded None) core

-- What records make of an image, one after the other from the empty one, and when a batch tells how an image changed.
use Rattle.std.specs.Prelude.{◌≡◌, ◌≢◌, ℕ, ◌+◌, Bool, List, [], ◌∷◌, Option, Some, None, cond, length, option_map, take, unwrap_or}
use Rattle.std.specs.List.{position}
use Rattle.std.specs.Str.{bytes_eq}
use Rattle.ide_lattice.specs.Algebra.{EdgeAlgebra}
use Rattle.ide_text.specs.Parsed.{IsParsed}
use Rattle.ide_text.specs.Program.{value_of}
use Rattle.ide_text.specs.Value.{StatementValue, calling, other, ProcedureValue, ProgramValue}
use Rattle.ide_text.specs.declared.program.Program.{Program}
use Rattle.ide_theory.specs.Images.{Image, Load, Root, Procedures, loaded, step}
use Rattle.ide_wire.specs.Key.{same_key}
use Rattle.ide_wire.specs.declared.key.Key.{Key}
use Rattle.ide_batch.specs.Items.{Item}
use Rattle.ide_batch.specs.Records.{RecordValue}
use Rattle.ide_batch.specs.Records as records

-- how many nodes statements and procedures have
abbrev pub node_count_on : StatementValue → ℕ
node_count_on (calling target callees arguments) = 2
node_count_on (other s) = 1

abbrev pub nodes_in_all : List StatementValue → ℕ
nodes_in_all [] = 0
nodes_in_all (s ∷ statements) = node_count_on s + nodes_in_all statements

abbrev pub node_count_of : List ProcedureValue → ℕ
node_count_of [] = 0
node_count_of (q ∷ procedures) = (2 + nodes_in_all q.statements) + node_count_of procedures

-- where the procedure of a name begins, and how many facts may hold there
abbrev pub procedures : Procedures ProgramValue (List ℕ)
procedures = record {
  start = λ v name. option_map (λ i. node_count_of (take i v.procedures)) (position (λ q. bytes_eq name q.name) v.procedures);
  entries = λ v. length v.globals + 1;
}

-- the first value, or else the second
abbrev pub or_else : {X : Type 0} → Option X → Option X → Option X
or_else None second = second
or_else (Some x) second = Some x

-- an image of a program, whose roots are names of procedures
abbrev pub ProgramImage : Type 0 → Type 0
ProgramImage F = Image ProgramValue (List ℕ) F

-- what the items say of a key, if it is among theirs: what the last one says that names it
abbrev pub said_by : {F : Type 0} → Item F → Key → Option (Option F × Bool)
said_by item key = cond (same_key item.0 key) (Some (Some item.1, item.2)) None

abbrev pub named : {F : Type 0} → List (Item F) → Key → Option (Option F × Bool)
named [] key = None
named (item ∷ items) key = or_else (named items key) (said_by item key)

-- what an image says of it
abbrev pub image_entry : {F : Type 0} → ProgramImage F → Key → Option F × Bool
image_entry image key = (image.get key, image.pending key)

-- the image with the entries that the items say, and every other one as it was
abbrev pub with_items : {F : Type 0} → ProgramImage F → List (Item F) → ProgramImage F
with_items image items = record image {
  get = λ key. (unwrap_or (named items key) (image_entry image key)).0;
  pending = λ key. (unwrap_or (named items key) (image_entry image key)).1;
}

module _ {F L : Type 0} (functions : EdgeAlgebra F L) (same : F → F → Bool) where
  -- the record leads from the one image to the other
  abbrev pub RecordLeads : RecordValue F → ProgramImage F → ProgramImage F → Type 0
  RecordLeads (records.Load text) before now = (p : Program) × IsParsed text p × (now ≡ step procedures functions same before (Load (value_of p)))
  RecordLeads (records.Root name) before now = now ≡ step procedures functions same before (Root name)
  RecordLeads (records.Batch items) before now = now ≡ with_items before items

  -- the records lead, one after the other, from the one image to the other
  abbrev pub RecordsLead : List (RecordValue F) → ProgramImage F → ProgramImage F → Type 0
  RecordsLead [] before now = before ≡ now
  RecordsLead (r ∷ rs) before now = (between : ProgramImage F) × RecordLeads r before between × RecordsLead rs between now

  -- the image that the records give back
  abbrev pub IsFoldOfRecords : List (RecordValue F) → ProgramImage F → Type 0
  IsFoldOfRecords rs image = RecordsLead rs (loaded None) image

-- of a key the items say what is so now, where that is new, and else nothing
abbrev pub SaysChange : {E : Type 0} → Option E → E → E → Type 0
SaysChange None before now = before ≡ now
SaysChange (Some entry) before now = (entry ≡ now) × (before ≢ now)

-- the items name exactly the keys whose entry changed, each with its entry now
abbrev pub IsBatch : {F : Type 0} → List (Item F) → ProgramImage F → ProgramImage F → Type 0
IsBatch items before now = (key : Key) → SaysChange (named items key) (image_entry before key) (image_entry now key)

-- such items lead from the one image to the other, where both are of one program with the same roots
abbrev pub BatchesLead : Type 0 → Type 0
BatchesLead F = (items : List (Item F)) (before now : ProgramImage F) → before.program ≡ now.program → before.roots ≡ now.roots
    → IsBatch items before now → with_items before items ≡ now

-- Seals of a half that works, from what its core and its waiting records become.
use Rattle.std.proofs.Common.{◌≡◌, ◌∙◌, ◌+◌, ◌<◌, ◌≤◌, ◌++◌, ℕ, true, List, [], ◌∷◌, Option, Some, None, length, ap, sym, subst, arith}
use Rattle.std.specs.Prelude.{IfSome}
use Rattle.std.specs.Option.{is_some, option_map}
use Rattle.std.specs.List.{All}
use Rattle.std.proofs.lemmas.List.{length-append, map-append}
use Rattle.std.proofs.lemmas.List.Elements.{All-append, All-cons, All-nil}
use Rattle.ide_batch.specs.Applied.{IsLoadedWith}
use Rattle.ide_batch.specs.Records as records
use Rattle.ide_journal.specs.Format.{Entry, IsEntry}
use Rattle.ide_journal.specs.Lists.{entries_of, entry_of}
use Rattle.ide_journal.specs.declared.record.RawRecord.{RawRecord}
use Rattle.ide_image.specs.Notes.{noted_count}
use Rattle.ide_steps.specs.Core.{CoreData}
use Rattle.ide_steps.specs.Room.{IsWholeCore}
use Rattle.ide_steps.specs.Rooted.{IsBegun}
use Rattle.ide_image.specs.declared.entry.Entry.{Entry as Noted}
use Rattle.ide_text.specs.Parsed.{IsParsed}
use Rattle.ide_text.specs.Program.{value_of}
use Rattle.ide_text.specs.declared.program.Program.{Program}
use Rattle.ide_wire.specs.declared.key.Key.{Key}
use Rattle.ide_store.specs.Acting.{BeginsAnew, CallsAreActs, SpellsChanges, SpellsFirst, SpellsRecord, WaitsFor}
use Rattle.ide_store.specs.Table.{Analysis, IsTable, KeepsRest, TableData}
use Rattle.ide_store.specs.TableCalls.{BeginsRoot, FindsNothing, LoadsProgram, SealsBatch, behind_first}

-- who noted changes notes them anew
pub noted_anew : {F : Type 0} (changes after : Option (List (Key × Noted F))) → is_some changes ≡ true → after ≡ option_map (λ _. []) changes → after ≡ Some []
noted_anew None after some is = absurd (cc (some))
noted_anew (Some list) after some is = is

-- one record more waits
pub waits_one : (old new : List RawRecord) (raw : RawRecord) → new ≡ old ++ raw ∷ [] → entries_of new ≡ entries_of old ++ entry_of raw ∷ []
waits_one old new raw is = ap entries_of is ∙ map-append entry_of old (raw ∷ [])

-- what a half keeps, where records more were sealed, and changes are noted anew
pub sealed_keeps : {F : Type 0} (old new : CoreData F) (sealed after : ℕ) (waiting more behind : List Entry) → IsTable old sealed waiting → new.changes ≡ Some []
    → All IsEntry more → behind ≡ waiting ++ more → after ≡ sealed + length more → after ≤ 4294967295 → IsTable new after behind
sealed_keeps {F} old new sealed after waiting more behind kept anew proper is count numbered =
    let long = ap length is ∙ length-append waiting more in
    let within = kept.within in
    record {
      noting = ap is_some anew;
      few = subst (λ (notes : Option (List (Key × Noted F))). noted_count notes ≤ 65536) (sym anew) (omega arith);
      proper = subst (All IsEntry) (sym is) (All-append IsEntry waiting more kept.proper proper);
      within = omega (arith, long, count, within);
      numbered = numbered;
    }

pub one_proper : (entry : Entry) → IsEntry entry → All IsEntry (entry ∷ [])
one_proper entry is = All-cons IsEntry entry [] is (All-nil IsEntry)

pub first_proper : {F L : Type 0} (a : Analysis F L) (table : TableData F) (first : Option Entry) (entry : Entry) → SpellsFirst a table first → IsEntry entry
    → All IsEntry (behind_first first entry)
first_proper a table None entry spells is = one_proper entry is
first_proper a table (Some batch) entry spells is = All-cons IsEntry batch (entry ∷ []) spells.spells.proper (one_proper entry is)

-- it is one or two records
pub behind_few : (first : Option Entry) (entry : Entry) → length (behind_first first entry) ≤ 2
behind_few None entry = omega arith
behind_few (Some batch) entry = omega arith

-- the record that is spelled, if one is
pub spelled_batch : {F L : Type 0} (a : Analysis F L) (table : TableData F) (raw : Option RawRecord) (batch : RawRecord) → raw ≡ Some batch
    → SpellsFirst a table (option_map entry_of raw) → SpellsChanges a table (entry_of batch)
spelled_batch a table raw batch found = subst (λ (o : Option RawRecord). SpellsFirst a table (option_map entry_of o) → SpellsChanges a table (entry_of batch)) (sym found) (λ spells. spells)

-- what holds of it
pub where_some : {X P : Type 0} (o : Option X) (x : X) → o ≡ Some x → IfSome o (λ _. P) → P
where_some None x is p = absurd (cc (is))
where_some (Some y) x is p = p

module _ {F L : Type 0} (a : Analysis F L) (acts : CallsAreActs a) (old new : TableData F) (whole : IsWholeCore old.core) (now : TableData F)
    (is_now : old ≡ now) where
  -- a program is loaded
  pub loads_program : (program : Program) (text : List ℕ) (entry : Entry) (number : ℕ) → IsParsed text program → SpellsRecord a now (records.Load text) entry
      → old.sealed < 4294967295 → WaitsFor (entry ∷ []) old new → IsLoadedWith program new.core → new.core.changes ≡ Some [] → number ≡ old.sealed
      → LoadsProgram a (value_of program) old new number
  loads_program program text entry number parsed spells room waits loaded anew is = record {
    entry = entry;
    seals = record { number_is = is; sealed = waits.sealed; waits = waits.waiting };
    act = acts.load program text entry old new whole parsed (subst (λ (t : TableData F). SpellsRecord a t (records.Load text) entry) (sym is_now) spells) room waits loaded anew;
  }

  -- what changed is sealed
  pub seals_changes : (raw : Option RawRecord) (batch : RawRecord) (number : ℕ) → raw ≡ Some batch → SpellsFirst a now (option_map entry_of raw)
      → old.sealed < 4294967295 → WaitsFor (entry_of batch ∷ []) old new → BeginsAnew old.core new.core → number ≡ old.sealed → SealsBatch a old new number
  seals_changes raw batch number found first room waits anew is = record {
    entry = entry_of batch;
    seals = record { number_is = is; sealed = waits.sealed; waits = waits.waiting };
    act = acts.batch (entry_of batch) old new whole (spelled_batch a old raw batch found (subst (λ (t : TableData F). SpellsFirst a t (option_map entry_of raw)) (sym is_now) first)) room waits anew;
  }

  -- nothing is sealed, since nothing changed
  pub seals_nothing : (raw : Option RawRecord) → raw ≡ None → SpellsFirst a now (option_map entry_of raw) → KeepsRest old new
      → BeginsAnew old.core new.core → FindsNothing a old new
  seals_nothing raw none first rest anew =
      acts.nothing old new whole (subst (λ (o : Option RawRecord). SpellsFirst a old (option_map entry_of o)) none
      (subst (λ (t : TableData F). SpellsFirst a t (option_map entry_of raw)) (sym is_now) first)) rest anew

  -- a root begins, behind what changed
  pub begins_root : (name : List ℕ) (first : Option Entry) (entry : Entry) (mid : CoreData F) (number : ℕ) → SpellsFirst a now first
      → SpellsRecord a now (records.Root name) entry → old.sealed < 4294967294 → IsBegun a.lattice a.functions a.targets old.core mid name → BeginsAnew mid new.core
      → WaitsFor (behind_first first entry) old new → number + 1 ≡ new.sealed → BeginsRoot a name old new number
  begins_root name first entry mid number spells_first spells room begun anew waits is = record {
    first = first;
    entry = entry;
    waits = waits.waiting;
    sealed = waits.sealed;
    number_is = is;
    act = acts.root name first entry old new mid whole (subst (λ (t : TableData F). SpellsFirst a t first) (sym is_now) spells_first)
        (subst (λ (t : TableData F). SpellsRecord a t (records.Root name) entry) (sym is_now) spells) room begun anew waits;
  }

-- Halves that begin, from what their core and their waiting records are.
use Rattle.std.proofs.Common.{◌≡◌, ◌≤◌, ℕ, false, List, [], Option, Some, None, length, get_or, ap, sym, subst, arith}
use Rattle.std.specs.Option.{is_some}
use Rattle.std.specs.List.{All}
use Rattle.std.proofs.lemmas.List.Elements.{All-nil}
use Rattle.ide_journal.specs.Format.{IsEntry}
use Rattle.ide_journal.specs.Lists.{entries_of}
use Rattle.ide_journal.specs.declared.record.RawRecord.{RawRecord}
use Rattle.ide_journal.specs.declared.version.Version.{Version}
use Rattle.ide_image.specs.Notes.{noted_count}
use Rattle.ide_steps.specs.Core.{CoreData}
use Rattle.ide_image.specs.declared.entry.Entry.{Entry as Noted}
use Rattle.ide_wire.specs.declared.key.Key.{Key}
use Rattle.ide_image.specs.Worklist.{IsFree, Pile}
use Rattle.ide_store.specs.Opening.{half_over}
use Rattle.ide_store.specs.Table.{IsTable}

-- where no claims are kept, no hand has one
pub free_of_none : {T : Type 0} (pile : Pile T) → pile.claims ≡ [] → IsFree pile
free_of_none pile none hand = ap (λ claims. get_or claims hand None) none

module _ {F : Type 0} (core new : CoreData F) (anew : new ≡ record core { changes = Some [] }) (items : List RawRecord) (none : items ≡ []) (sealed : ℕ) where
  -- what such a half keeps
  pub begun_table : sealed ≤ 4294967295 → IsTable new sealed (entries_of items)
  begun_table numbered =
      let notes : new.changes ≡ Some [] = ap (λ (c : CoreData F). c.changes) anew in
      record {
        noting = ap is_some notes;
        few = subst (λ (changes : Option (List (Key × Noted F))). noted_count changes ≤ 65536) (sym notes) (omega arith);
        proper = subst (λ (raws : List RawRecord). All IsEntry (entries_of raws)) (sym none) (All-nil IsEntry);
        within = subst (λ (raws : List RawRecord). length (entries_of raws) ≤ sealed) (sym none) (omega arith);
        numbered = numbered;
      }

  -- and what contracts see of it
  pub is_half_over : (version : Version) → half_over core version sealed
      ≡ record { core = new; version = version; sealed = sealed; waiting = entries_of items; failed = false }
  is_half_over version i = record { core = sym anew i; version = version; sealed = sealed; waiting = entries_of (sym none i); failed = false }

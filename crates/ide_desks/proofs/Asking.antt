-- What asking the desks for a checkpoint comes to, from what its calls say.
use Rattle.std.proofs.Common.{◌≡◌, ◌∙◌, Bool, true, false, Option, None, Some, Result, Ok, Err, ap, refl, subst, sym}
use Rattle.std.specs.Prelude.{IfErr, IfOk, IfSome, OnErr}
use Rattle.ide_board.specs.Records.{TableView, WriterView}
use Rattle.ide_disk.specs.declared.disk.Disk.{Ghosts}
use Rattle.ide_slot_store.specs.Parts.{IsPartsStop}
use Rattle.ide_slot_store.specs.declared.writer.SlotWriterHalf.{SlotWriterHalf}
use Rattle.ide_store.specs.Table.{Analysis, TableData}
use Rattle.ide_store.specs.TableCalls.{IsRefusal, IsSealStop, after_failure, by_itself}
use Rattle.ide_store.specs.Versioned.{VersionedEntry}
use Rattle.ide_store.specs.declared.outbox.Ticket.{Ticket}
use Rattle.ide_wire.specs.declared.refused.Refused.{Refused}
use Rattle.ide_desks.specs.Asking.{IsAskStop, IsPlanStop, SealsForNone, no_parts, no_plan, none_sealed, not_planned, not_sealed, one_sealed, table_told, writer_told}
use Rattle.ide_desks.specs.Desks.{HandsOver, last_sealed, with_last}

-- a seal is for no client, or seals nothing
pub sealed_for_none : {F : Type 0} (S T : Type 0) (result : Result (Option Ticket) Refused) (seat after : TableView VersionedEntry) (table : TableData F)
    → IfOk result (λ sealed. IfSome sealed (λ _. after ≡ with_last seat table None)) → (result ≡ Ok None → S × (after ≡ seat))
    → OnErr result (T × (after ≡ seat)) → SealsForNone seat.sealed after.sealed
sealed_for_none S T (Ok (Some ticket)) seat after table marked nothing unchanged =
    one_sealed (last_sealed table) (ap (λ (t : TableView VersionedEntry). t.sealed) marked)
sealed_for_none S T (Ok None) seat after table marked nothing unchanged = none_sealed (ap (λ (t : TableView VersionedEntry). t.sealed) (nothing refl).1)
sealed_for_none S T (Err refused) seat after table marked nothing unchanged = none_sealed (ap (λ (t : TableView VersionedEntry). t.sealed) unchanged.1)

-- a hand over seals nothing
pub hands_sealed : (over : Bool) (old new : TableView VersionedEntry) (before after : WriterView VersionedEntry) → (over ≡ true → HandsOver old new before after)
    → (over ≡ false → (new ≡ old) × (after ≡ before)) → new.sealed ≡ old.sealed
hands_sealed true old new before after hands none = ap (λ (t : TableView VersionedEntry). t.sealed) (hands refl).table
hands_sealed false old new before after hands none = ap (λ (t : TableView VersionedEntry). t.sealed) (none refl).0

module _ {F L : Type 0} (a : Analysis F L) {D : Type 0} {G : Ghosts D} (before after : TableData F) (old : SlotWriterHalf D G) (failed : Bool) where
  -- a seal is refused, though no call of a disk failed
  pub seal_stop : (why : Refused) → before.failed ≡ false → IsRefusal before (IsSealStop a before) why → IsAskStop a before after old failed why
  seal_stop why working (after_failure is) = (let no : true ≡ false = sym is ∙ working in cc (no))
  seal_stop why working (by_itself going stop) = not_sealed stop

  plan_as : (mid : TableData F) (half : SlotWriterHalf D G) (fault : Bool) (why : Refused) → after ≡ mid → half.journal ≡ old.journal → fault ≡ failed
      → IsPlanStop a mid half fault why → IsPlanStop a after old failed why
  plan_as mid half fault why same journal told (table_told is) = table_told (ap (λ (t : TableData F). t.failed) same ∙ is)
  plan_as mid half fault why same journal told (writer_told is) = writer_told (sym told ∙ is)
  plan_as mid half fault why same journal told (no_parts stop) = no_parts (subst (λ (t : TableData F). IsPartsStop a t why) (sym same) stop)
  plan_as mid half fault why same journal told (not_planned writer is stop) = not_planned writer (is ∙ journal) stop

  -- a plan is, behind what was sealed
  pub plan_stop : {T : Type 0} (mid : TableData F) (half : SlotWriterHalf D G) (fault : Bool) (result : Result T Refused)
      → IfErr result (IsPlanStop a mid half fault) → OnErr result (after ≡ mid) → half.journal ≡ old.journal → fault ≡ failed
      → IfErr result (IsAskStop a before after old failed)
  plan_stop mid half fault (Ok planned) stop same journal told = tt
  plan_stop mid half fault (Err why) stop same journal told = no_plan (plan_as mid half fault why same journal told stop)

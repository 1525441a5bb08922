-- What a client orders, through a lock.
use Rattle.std.proofs.Common.{Result, Ok, Err}
use Rattle.std.proofs.Math.Logic.{∥∥₁_map}
use Rattle.std.specs.Prelude.{IfOk}
use Rattle.ide_board.specs.Records.{ClientView}
use Rattle.ide_desks.specs.Orders.{NotesOrder}
use Rattle.ide_desks.specs.Stepping as steps
use Rattle.ide_store.specs.Versioned.{VersionedEntry}
use Rattle.ide_store.specs.Table.{Analysis, TableData}
use Rattle.ide_store.specs.TableCalls.{IsRefusal, IsSealStop, after_failure, by_itself, no_number_left, not_spelled, wants_memory}
use Rattle.ide_store.specs.declared.outbox.Ticket.{Ticket}
use Rattle.ide_wire.specs.declared.refused.Refused.{Refused}
use Rattle.ide_service.specs.Clients.{IsOrdered}
use Rattle.ide_service.specs.Storing.{IsCommitRefusal, no_number, not_stored}

-- the record that the client notes is that of its command
pub ordered_by : (Told : Type 0) (Spells Says : VersionedEntry → Type 0) (result : Result Ticket Refused) (old new : ClientView VersionedEntry) (entry : VersionedEntry)
    → ((e : VersionedEntry) → Spells e → Says e) → IfOk result (λ ticket. NotesOrder old new ticket.number entry)
    → (Told → IfOk result (λ _. ∥ Spells entry ∥₁)) → IfOk result (λ ticket. IsOrdered Told Says old new ticket.number)
ordered_by Told Spells Says (Ok ticket) old new entry more notes spells = record {
  entry = entry;
  notes = notes;
  spells = λ told. ∥∥₁_map (spells told) (more entry);
}
ordered_by Told Spells Says (Err refused) old new entry more notes spells = tt

-- a seal that is refused ends a committer
pub seal_ends : {F L : Type 0} (a : Analysis F L) (table : TableData F) (why : Refused) → IsRefusal table (IsSealStop a table) why → IsCommitRefusal why
seal_ends a table why (after_failure is) = not_stored steps.failed_before
seal_ends a table why (by_itself going (no_number_left all)) = no_number
seal_ends a table why (by_itself going (not_spelled item there is)) = no_number
seal_ends a table why (by_itself going wants_memory) = not_stored steps.wants_memory

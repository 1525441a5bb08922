-- What a seal came to, put together.
use Rattle.std.proofs.Common.{◌≡◌, refl}
use Rattle.std.specs.Prelude.{Option, Some, None, IfSome}
use Rattle.ide_store.specs.Table.{Analysis, TableData}
use Rattle.ide_store.specs.TableCalls.{FindsNothing, SealsBatch}
use Rattle.ide_store.specs.declared.outbox.Ticket.{Ticket}
use Rattle.ide_slot_store.specs.Working.{SealsRest, seals_batch, seals_nothing}

module _ {F L : Type 0} (a : Analysis F L) where
  pub seals_rest : (worked kept : TableData F) (sealed : Option Ticket) → (sealed ≡ None → FindsNothing a worked kept)
      → IfSome sealed (λ ticket. SealsBatch a worked kept ticket.number) → SealsRest a worked kept
  seals_rest worked kept None nothing batch = seals_nothing (nothing refl)
  seals_rest worked kept (Some ticket) nothing batch = seals_batch ticket.number batch

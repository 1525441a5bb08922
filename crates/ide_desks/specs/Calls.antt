-- What calls of the table's desk leave, and why they are refused.
use Rattle.std.specs.Prelude.{◌≡◌, ◌⊎◌, ℕ, List, Option, Some, Result, Ok, IfOk, IfSome, OnErr}
use Rattle.ide_board.specs.Records.{TableView}
use Rattle.ide_lattice.specs.Algebra.{EdgeAlgebra}
use Rattle.ide_problem.specs.Flow.{Targets}
use Rattle.ide_steps.specs.ClaimRefusal.{IsClaimRefusal}
use Rattle.ide_steps.specs.CloseRefusal.{IsFreezeRefusal}
use Rattle.ide_steps.specs.Frozen.{graph_in, program_in}
use Rattle.ide_steps.specs.Room.{IsGraphSaid}
use Rattle.ide_steps.specs.Steps.{FindsNone}
use Rattle.ide_steps.specs.declared.closed.Closed.{Closed}
use Rattle.ide_steps.specs.declared.part.Parted.{Parted}
use Rattle.ide_steps.specs.declared.part.Parted.TheVariants.{NoPart}
use Rattle.ide_store.specs.Table.{Analysis, IsSameTable, TableData}
use Rattle.ide_store.specs.TableCalls.{IsFinishStop, IsPartStop, IsRefusal, IsRootStop, IsSealStop, SealsBatch}
use Rattle.ide_store.specs.Versioned.{VersionedEntry}
use Rattle.ide_store.specs.declared.outbox.Ticket.{Ticket}
use Rattle.ide_tasks.specs.Work.{WorkData}
use Rattle.ide_wire.specs.declared.refused.Refused.{Refused}
use Rattle.ide_wire.specs.declared.refused.Refused.TheVariants.{Limit, NoMemory}

module _ {F T E : Type 0} (result : Result T E) (old new : TableData F) where
  -- a call that is refused leaves the half and its seat as they were
  abbrev pub Remains : (seat after : TableView VersionedEntry) → Type 0
  Remains seat after = OnErr result (IsSameTable old new × (after ≡ seat))

  -- or the half and the work
  abbrev pub LeavesWork : (work after : WorkData F) → Type 0
  LeavesWork work after = OnErr result (IsSameTable old new × (after ≡ work))

-- there was no part of the work to do
abbrev pub FindsNoPart : {F E : Type 0} → Result Parted E → (old new : TableData F) → (work after : WorkData F) → Type 0
FindsNoPart result old new work after = result ≡ Ok NoPart → FindsNone old.core new.core work after

-- what changed is sealed, where anything did
abbrev pub SealsChanges : {F L : Type 0} → Analysis F L → {E : Type 0} → Result (Option Ticket) E → (old new : TableData F) → Type 0
SealsChanges a result old new = IfOk result (λ sealed. IfSome sealed (λ ticket. SealsBatch a old new ticket.number))

-- the graph of a frozen image is that of its program
abbrev pub HasItsGraph : {P L F : Type 0} → Closed P L F → Type 0
HasItsGraph closed = IsGraphSaid (Some (program_in closed)) (graph_in closed)

-- ---- why a call is refused: one of a disk failed before, or for a reason of its own
-- no key is claimed by the hand
abbrev pub BarsClaim : {F : Type 0} → TableData F → (hand : ℕ) → Refused → Type 0
BarsClaim table hand = IsRefusal table (IsClaimRefusal table.core hand)

-- no image is copied
abbrev pub BarsFreeze : {F : Type 0} → TableData F → Refused → Type 0
BarsFreeze table = IsRefusal table (IsFreezeRefusal table.core)

module _ {F L : Type 0} (B : EdgeAlgebra F L) (targets : Targets F) (table : TableData F) (hand : ℕ) (work : WorkData F) where
  -- no part of the hand's work is done
  abbrev pub BarsPart : Refused → Type 0
  BarsPart = IsRefusal table (IsPartStop B targets table.core hand work)

  -- its claim does not end
  abbrev pub BarsFinish : Refused → Type 0
  BarsFinish = IsRefusal table (IsFinishStop B targets table.core hand work)

module _ {F L : Type 0} (a : Analysis F L) (table : TableData F) where
  -- what changed is not sealed
  abbrev pub BarsSeal : Refused → Type 0
  BarsSeal = IsRefusal table (IsSealStop a table)

  -- the name is no root yet
  abbrev pub BarsRoot : (name : List ℕ) → Refused → Type 0
  BarsRoot name = IsRefusal table (IsRootStop a table name)

-- why there is no board over an engine: there are more clients or records than it may have, or memory is wanting
abbrev pub IsBoardRefusal : Refused → Type 0
IsBoardRefusal refused = (refused ≡ Limit) ⊎ (refused ≡ NoMemory)

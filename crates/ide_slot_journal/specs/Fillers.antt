-- What a call of a checkpoint does to what fills the other slot.
use Rattle.std.specs.Prelude.{◌≡◌, ℕ}
use Rattle.ide_slots.specs.DiskCalls.{DiskCall}
use Rattle.ide_slot_journal.specs.Stages.{call_at, fill_stage_after, place_after, todo_after}
use Rattle.ide_slot_journal.specs.Stands.{todo_of}
use Rattle.ide_slot_journal.specs.declared.filler.Filler.{Filler}

-- its next call
abbrev pub call_of : Filler → DiskCall
call_of filler = call_at filler.stage filler.closed filler.at filler.page.items (todo_of filler)

-- where the record behind that one goes
abbrev pub next_place : Filler → ℕ
next_place filler = place_after filler.stage filler.at (todo_of filler)

-- after its call
pub record HasMovedOn (old new : Filler) : Type 0 where
  pub stage : new.stage ≡ fill_stage_after old.stage (todo_of old)
  pub todo : todo_of new ≡ todo_after old.stage (todo_of old)
  pub place : new.at ≡ next_place old
  pub closed : new.closed ≡ old.closed
  pub generation : new.generation ≡ old.generation
  pub base : new.base ≡ old.base
  pub page : new.page ≡ old.page

-- What fills the other slot moves on as the filling does.
use Rattle.std.specs.Prelude.{◌≡◌, ◌≢◌, ℕ, ◌+◌, Bool, true, false, List, [], ◌∷◌, length, refl}
use Rattle.std.proofs.Common.{sym, ap, ◌∙◌}
use Rattle.std.proofs.lemmas.List.{append-nil}
use Rattle.ide_disk.specs.Disk.{DiskState}
use Rattle.ide_slots.specs.DiskCalls.{Writes}
use Rattle.ide_slots.specs.Filling.{AtFilling, Fills, Lasts, fill_call, fill_next, filled_by}
use Rattle.ide_slots.specs.Slot.{Slot, slot_head, slot_header}
use Rattle.ide_slots.specs.Two.{UnderWay}
use Rattle.ide_slots.specs.declared.side.Side.{Side}
use Rattle.ide_slot_journal.specs.Stages.{call_at, checkpoint_at, fill_stage_after, filling_at, place_after, todo_after}
use Rattle.ide_slot_journal.specs.Stands.{HasTodo, KnowsClosed}
use Rattle.ide_slot_journal.specs.declared.stage.FillStage.{FillStage}
use Rattle.ide_slot_journal.specs.declared.stage.FillStage.TheVariants.{Fills as Filling_on, Heads, Lasts as Last, OpensGate, Rests, Settles, Trims, Waits}

-- the call that is made is that of the filling
pub call_fills : (stage : FillStage) (closed : Bool) (at : ℕ) (page : List ℕ) (todo : List (List ℕ)) (other : Slot) → stage ≢ Rests
    → page ≡ slot_header (slot_head other) → call_at stage closed at page todo ≡ fill_call other (filling_at stage closed at todo)
call_fills Rests closed at page todo other some page_is = absurd (some refl)
call_fills Waits true at page todo other some page_is = refl
call_fills Waits false at page todo other some page_is = refl
call_fills Settles closed at page todo other some page_is = refl
call_fills Trims closed at page todo other some page_is = refl
call_fills Heads closed at page todo other some page_is = ap (λ (bytes : List ℕ). Writes 0 bytes) page_is
call_fills Filling_on closed at page [] other some page_is = refl
call_fills Filling_on closed at page (chunk ∷ todo) other some page_is = refl
call_fills OpensGate closed at page todo other some page_is = refl
call_fills Last closed at page todo other some page_is = refl

-- behind a good call that is not the last, it is the next filling
pub next_filling : (stage : FillStage) (closed : Bool) (at : ℕ) (todo : List (List ℕ)) (other : Slot) → stage ≢ Rests → stage ≢ Last
    → HasTodo stage other at todo
    → checkpoint_at (fill_stage_after stage todo) other
    (filling_at (fill_stage_after stage todo) closed (place_after stage at todo) (todo_after stage todo))
    ≡ UnderWay other (fill_next other (filling_at stage closed at todo))
next_filling Rests closed at todo other some more has = absurd (some refl)
next_filling Waits closed at todo other some more has = refl
next_filling Settles closed at todo other some more has = refl
next_filling Trims closed at todo other some more has = refl
next_filling Heads closed at todo other some more has =
    ap (λ (n : ℕ). UnderWay other (Fills n todo)) has.1 ∙ ap (λ (all : List (List ℕ)). UnderWay other (Fills 4097 all)) has.0
next_filling Filling_on closed at [] other some more has = refl
next_filling Filling_on closed at (chunk ∷ todo) other some more has = refl
next_filling OpensGate closed at todo other some more has = refl
next_filling Last closed at todo other some more has = absurd (more refl)

pub not_last : (stage : FillStage) (closed : Bool) (at : ℕ) (todo : List (List ℕ)) → stage ≢ Last → filling_at stage closed at todo ≢ Lasts
not_last Rests closed at todo more = λ same. cc
not_last Waits closed at todo more = λ same. cc
not_last Settles closed at todo more = λ same. cc
not_last Trims closed at todo more = λ same. cc
not_last Heads closed at todo more = λ same. cc
not_last Filling_on closed at todo more = λ same. cc
not_last OpensGate closed at todo more = λ same. cc
not_last Last closed at todo more = absurd (more refl)

-- what is still to be written then
pub next_todo : (stage : FillStage) (closed : Bool) (at : ℕ) (todo : List (List ℕ)) (other : Slot) (side : Side) (generation : ℕ) (disk : DiskState)
    → stage ≢ Rests → HasTodo stage other at todo → AtFilling side generation other (filling_at stage closed at todo) disk
    → HasTodo (fill_stage_after stage todo) other (place_after stage at todo) (todo_after stage todo)
next_todo Rests closed at todo other side generation disk some has filling = absurd (some refl)
next_todo Waits closed at todo other side generation disk some has filling = has
next_todo Settles closed at todo other side generation disk some has filling = has
next_todo Trims closed at todo other side generation disk some has filling = has
next_todo Heads closed at todo other side generation disk some has filling = tt
next_todo Filling_on closed at [] other side generation disk some has filling =
    let all : filling.filled ≡ filled_by other = sym (append-nil filling.filled) ∙ filling.rest in
    filling.place ∙ ap (λ (bytes : List ℕ). 4097 + length bytes) all
next_todo Filling_on closed at (chunk ∷ todo) other side generation disk some has filling = tt
next_todo OpensGate closed at todo other side generation disk some has filling = has
next_todo Last closed at todo other side generation disk some has filling = has

-- a checkpoint makes its calls then
pub makes_calls : (stage : FillStage) (todo : List (List ℕ)) (closed : Bool) (bytes : List ℕ) → stage ≢ Rests
    → KnowsClosed (fill_stage_after stage todo) closed bytes
makes_calls Rests todo closed bytes some = absurd (some refl)
makes_calls Waits todo closed bytes some = tt
makes_calls Settles todo closed bytes some = tt
makes_calls Trims todo closed bytes some = tt
makes_calls Heads todo closed bytes some = tt
makes_calls Filling_on [] closed bytes some = tt
makes_calls Filling_on (chunk ∷ todo) closed bytes some = tt
makes_calls OpensGate todo closed bytes some = tt
makes_calls Last todo closed bytes some = tt

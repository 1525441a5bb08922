-- What is published only grows, from call to call.
use Rattle.std.proofs.Common.{◌≡◌, ◌∙◌, ◌+◌, ◌≤◌, length, arith, refl, subst, sym}
use Rattle.std.proofs.lemmas.List.{length-take}
use Rattle.ide_board.specs.Records.{WriterView}
use Rattle.ide_desks.specs.Desks.{seat_after}
use Rattle.ide_desks.specs.declared.writer.Stepped.{Stepped}
use Rattle.ide_desks.specs.declared.writer.Stepped.TheVariants.{Called, Rested, Stored}
use Rattle.ide_store.specs.Versioned.{VersionedEntry}
use Rattle.ide_service.specs.Storing.{StoresOn}

pub stores_none : (seat : WriterView VersionedEntry) → StoresOn seat seat
stores_none seat = record { board = refl; taken = refl; stored = omega arith }

pub stores_then : (seat mid after : WriterView VersionedEntry) → StoresOn seat mid → StoresOn mid after → StoresOn seat after
stores_then seat mid after first second = record {
  board = second.board ∙ first.board;
  taken = second.taken ∙ first.taken;
  stored = (let before = first.stored in let behind = second.stored in omega (arith, before, behind));
}

-- a step stores one more record, or none
pub stores_step : (stepped : Stepped) (seat after : WriterView VersionedEntry) → after ≡ seat_after stepped seat → length seat.stored ≤ length seat.taken
    → StoresOn seat after
stores_step stepped seat after is within = subst (StoresOn seat) (sym is) (by stepped)
  where
    by : (stepped : Stepped) → StoresOn seat (seat_after stepped seat)
    by Rested = stores_none seat
    by Called = stores_none seat
    by Stored = record {
      board = refl;
      taken = refl;
      stored = (let long = length-take (length seat.stored + 1) seat.taken in omega (arith, within, long));
    }

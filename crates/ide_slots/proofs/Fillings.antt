-- Each call of a checkpoint moves it on: the first gate stays closed until all behind it is synced.
use Rattle.std.specs.Prelude.{◌≡◌, ◌≢◌, ◌⊎◌, ℕ, zero, suc, ◌+◌, ◌<◌, ◌≤◌, Bool, true, false, List, [], ◌∷◌, ◌++◌, length, take, refl}
use Rattle.std.specs.List.{concat}
use Rattle.std.proofs.Common.{arith, sym, ap, subst, ◌∙◌, inl, inr}
use Rattle.std.proofs.lemmas.List.{append-nil, append_assoc, drop_at, length-append}
use Rattle.ide_disk.specs.Disk.{CrashLeaves, Cut, DiskState, Keeps, LeftOf, Wrote, cut_to, put_at, settled, written}
use Rattle.ide_disk.specs.Kept.{keeps_left}
use Rattle.ide_journal.proofs.Left.{cut_behind, gate_written, left_at_gate, left_by_cut}
use Rattle.ide_slots.specs.DiskCalls.{Cuts, Writes}
use Rattle.ide_slots.specs.Filling.{Closes, Fills, Heads, IsGateSure, Lasts, OpensGate, Settles, Trims, chunks, fill_after, filled_by}
use Rattle.ide_slots.specs.FillingLaws.{CheckpointsHaveCalls, FillingsGoOn, FillingsStayBehind}
use Rattle.ide_slots.specs.Sides.{IsClosedOrLesser, IsLesserSlot, Side}
use Rattle.ide_slots.specs.Slot.{IsClosedSlot, NumberedEntry, Slot, records_of, slot_head, slot_header}
use Rattle.ide_slots.proofs.Disks.{any_gate, called_possible, put_end, put_gate}
use Rattle.ide_slots.proofs.Gates.{closed_by_gate, gate_closed}
use Rattle.ide_slots.proofs.Heads.{length-slot_header}

-- a cut behind the closed gate
closed_by_cut : (bytes left : List ℕ) → IsClosedSlot bytes → Keeps bytes (Cut 4097 ∷ []) left → IsClosedSlot left
closed_by_cut bytes left slot keeps =
    let place : 4097 ≡ length slot.page + 1 = omega (arith, slot.long) in
    record {
      page = slot.page;
      long = slot.long;
      closed = left_by_cut slot.page slot.closed.rest left
          (subst (λ (n : ℕ). Keeps (slot.page ++ 0 ∷ slot.closed.rest) (Cut n ∷ []) left) place
          (subst (λ (xs : List ℕ). Keeps xs (Cut 4097 ∷ []) left) slot.closed.split keeps));
    }

cut_closed : (bytes : List ℕ) (slot : IsClosedSlot bytes) → take 4097 bytes ≡ slot.page ++ 0 ∷ []
cut_closed bytes slot =
    let place : 4097 ≡ length slot.page + 1 = omega (arith, slot.long) in
    ap (λ (n : ℕ). take n bytes) place ∙ ap (λ (xs : List ℕ). take (length slot.page + 1) xs) slot.closed.split ∙ cut_behind slot.page slot.closed.rest

-- a write of the first gate
behind_write : (side : Side) (generation : ℕ) (bytes left : List ℕ) → IsLesserSlot side generation bytes → Keeps bytes (Wrote 4096 1 ∷ []) left
    → IsClosedOrLesser side generation left
behind_write side generation bytes left slot keeps =
    let page = slot_header slot.opened.told in
    let long = length-slot_header slot.opened.told in
    let gate = slot.opened.opened.gate in
    let tail = slot.opened.opened.rest in
    let split : bytes ≡ page ++ gate ∷ tail = slot.opened.opened.split ∙ append_assoc page (gate ∷ []) tail in
    let some : 0 < length tail = omega (arith, slot.more, ap length split, length-append page (gate ∷ tail), long) in
    let here : Keeps (page ++ gate ∷ tail) (Wrote (length page) 1 ∷ []) left =
    subst (λ (n : ℕ). Keeps (page ++ gate ∷ tail) (Wrote n 1 ∷ []) left) (sym long) (subst (λ (xs : List ℕ). Keeps xs (Wrote 4096 1 ∷ []) left) split keeps) in
    elim (left_at_gate page tail left some (any_gate page tail left gate 0 here)) [
      | inl before ↦ inl (record { page = page; long = long; closed = before })
      | inr after ↦ inr (record {
        lesser = slot.lesser;
        less = slot.less;
        opened = record {
          told = slot.opened.told;
          valid = slot.opened.valid;
          is = slot.opened.is;
          opened = record {
            gate = after.gate;
            rest = tail ++ after.rest;
            opened = after.opened;
            split = after.split ∙ append_assoc page (after.gate ∷ tail) after.rest ∙ sym (append_assoc page (after.gate ∷ []) (tail ++ after.rest));
          };
        };
        more = omega (
          arith,
          ap length after.split,
          length-append (page ++ after.gate ∷ tail) after.rest,
          length-append page (after.gate ∷ tail),
          long,
          some,
        );
      })
    ]

write_closed : (side : Side) (generation : ℕ) (bytes : List ℕ) → IsLesserSlot side generation bytes → IsClosedSlot (put_at 4096 (0 ∷ []) bytes)
write_closed side generation bytes slot =
    let page = slot_header slot.opened.told in
    let long = length-slot_header slot.opened.told in
    let gate = slot.opened.opened.gate in
    let tail = slot.opened.opened.rest in
    let split : bytes ≡ page ++ gate ∷ tail = slot.opened.opened.split ∙ append_assoc page (gate ∷ []) tail in
    record {
      page = page;
      long = long;
      closed = record {
        rest = tail;
        split = ap (λ (xs : List ℕ). put_at 4096 (0 ∷ []) xs) split
            ∙ ap (λ (n : ℕ). put_at n (0 ∷ []) (page ++ gate ∷ tail)) (sym long) ∙ put_gate page tail gate 0;
      };
    }

-- where the first gate is sure, a crash leaves it closed
sure_closed : (disk : DiskState) (left : List ℕ) → IsGateSure disk → Keeps disk.synced disk.changes left → IsClosedSlot left
sure_closed disk left sure keeps =
    closed_by_gate left (keeps.within 4096 sure.long sure.kept) (keeps.same 4096 sure.long sure.kept ∙ sure.gate)

first_page_kept : (page : List ℕ) → length page ≡ 4096 → (4096 < 0) ⊎ (0 + length page ≤ 4096)
first_page_kept page long = inr (omega (arith, long))

pub fillings_go_on : FillingsGoOn
fillings_go_on side generation next (Closes true) disk more at = record {
  each = λ left leaves. inl (closed_by_cut at.bytes left at.holds (subst (λ (d : DiskState). LeftOf d.synced (Cut 4097 ∷ d.changes) left) at.settled_disk leaves));
  now = subst (λ (d : DiskState). IsClosedSlot (cut_to 4097 d).now) (sym at.settled_disk)
      (record { page = at.holds.page; long = at.holds.long; closed = record { rest = []; split = cut_closed at.bytes at.holds } });
  possible = called_possible (Cuts 4097) disk (subst (λ (d : DiskState). CrashLeaves d d.now) (sym at.settled_disk) refl);
}
fillings_go_on side generation next (Closes false) disk more at = record {
  each = λ left leaves. behind_write side generation at.bytes left at.holds
      (subst (λ (d : DiskState). LeftOf d.synced (Wrote 4096 1 ∷ d.changes) left) at.settled_disk leaves);
  now = subst (λ (d : DiskState). IsClosedSlot (written 4096 (0 ∷ []) d).now) (sym at.settled_disk) (write_closed side generation at.bytes at.holds);
  possible = called_possible (Writes 4096 (0 ∷ [])) disk (subst (λ (d : DiskState). CrashLeaves d d.now) (sym at.settled_disk) refl);
}
fillings_go_on side generation next Settles disk more at = record { bytes = disk.now; holds = at.now; settled_disk = refl }
fillings_go_on side generation next Trims disk more at = record {
  page = at.holds.page;
  long = at.holds.long;
  so = record {
    sure = subst (λ (d : DiskState). IsGateSure (cut_to 4097 d)) (sym at.settled_disk)
        (let gate = gate_closed at.bytes at.holds in record { long = gate.0; gate = gate.1; kept = (omega arith, tt) });
    now = ap (λ (d : DiskState). (cut_to 4097 d).now) at.settled_disk ∙ cut_closed at.bytes at.holds;
    possible = called_possible (Cuts 4097) disk (subst (λ (d : DiskState). CrashLeaves d d.now) (sym at.settled_disk) refl);
  };
}
fillings_go_on side generation next Heads disk more at =
    let page = slot_header (slot_head next) in
    let long = length-slot_header (slot_head next) in
    record {
      filled = [];
      place = omega arith;
      rest = refl;
      so = record {
        sure = record {
          long = at.so.sure.long;
          gate = at.so.sure.gate;
          kept = (first_page_kept page long, at.so.sure.kept);
        };
        now = ap (λ (xs : List ℕ). put_at 0 page xs) at.so.now
            ∙ ap (λ (xs : List ℕ). page ++ xs) (drop_at at.page (0 ∷ []) (0 + length page) (at.long ∙ omega (arith, long)));
        possible = called_possible (Writes 0 page) disk at.so.possible;
      };
    }
fillings_go_on side generation next (Fills at []) disk more filled =
    ap settled (filled.so.now
    ∙ ap (λ (xs : List ℕ). slot_header (slot_head next) ++ 0 ∷ xs) (sym (append-nil filled.filled) ∙ filled.rest))
fillings_go_on side generation next (Fills at (chunk ∷ todo)) disk more filled =
    let page = slot_header (slot_head next) in
    let long = length-slot_header (slot_head next) in
    let old : List ℕ = page ++ 0 ∷ filled.filled in
    let end : at ≡ length old = omega (arith, filled.place, length-append page (0 ∷ filled.filled), long) in
    record {
      filled = filled.filled ++ chunk;
      place = omega (arith, filled.place, length-append filled.filled chunk);
      rest = append_assoc filled.filled chunk (concat todo) ∙ filled.rest;
      so = record {
        sure = record {
          long = filled.so.sure.long;
          gate = filled.so.sure.gate;
          kept = (inl (omega (arith, filled.place)), filled.so.sure.kept);
        };
        now = ap (λ (xs : List ℕ). put_at at chunk xs) filled.so.now ∙ ap (λ (n : ℕ). put_at n chunk old) end ∙ put_end old chunk
            ∙ append_assoc page (0 ∷ filled.filled) chunk;
        possible = called_possible (Writes at chunk) disk filled.so.possible;
      };
    }
fillings_go_on side generation next OpensGate disk more knows =
    let page = slot_header (slot_head next) in
    gate_written page (filled_by next) disk (written 4096 (1 ∷ []) disk) knows
    (ap (λ (n : ℕ). written n (1 ∷ []) disk) (sym (length-slot_header (slot_head next))))
fillings_go_on side generation next Lasts disk more knows = absurd (more refl)

pub fillings_stay_behind : FillingsStayBehind
fillings_stay_behind side generation next (Closes true) disk left early at leaves =
    inl (closed_by_cut at.bytes left at.holds (subst (λ (d : DiskState). LeftOf d.synced (Cut 4097 ∷ d.changes) left) at.settled_disk leaves))
fillings_stay_behind side generation next (Closes false) disk left early at leaves =
    behind_write side generation at.bytes left at.holds (subst (λ (d : DiskState). LeftOf d.synced (Wrote 4096 1 ∷ d.changes) left) at.settled_disk leaves)
fillings_stay_behind side generation next Settles disk left early at leaves = at.each left leaves
fillings_stay_behind side generation next Trims disk left early at leaves =
    inl (closed_by_cut at.bytes left at.holds (subst (λ (d : DiskState). LeftOf d.synced (Cut 4097 ∷ d.changes) left) at.settled_disk leaves))
fillings_stay_behind side generation next Heads disk left early at leaves =
    let page = slot_header (slot_head next) in
    inl (sure_closed (written 0 page disk) left (record {
      long = at.so.sure.long;
      gate = at.so.sure.gate;
      kept = (first_page_kept page (length-slot_header (slot_head next)), at.so.sure.kept);
    }) leaves)
fillings_stay_behind side generation next (Fills at []) disk left early filled leaves =
    inl (sure_closed disk left filled.so.sure (keeps_left disk.synced disk.changes left leaves))
fillings_stay_behind side generation next (Fills at (chunk ∷ todo)) disk left early filled leaves =
    inl (sure_closed (written at chunk disk) left (record {
      long = filled.so.sure.long;
      gate = filled.so.sure.gate;
      kept = (inl (omega (arith, filled.place)), filled.so.sure.kept);
    }) leaves)
fillings_stay_behind side generation next OpensGate disk left early at leaves = absurd (early tt)
fillings_stay_behind side generation next Lasts disk left early at leaves = absurd (early tt)

length-chunks : (records : List NumberedEntry) → length (chunks records) ≡ length records
length-chunks [] = refl
length-chunks (r ∷ []) = refl
length-chunks (r ∷ (s ∷ records)) = ap suc (length-chunks (s ∷ records))

filled_after : (next : Slot) (at : ℕ) (todo : List (List ℕ)) → fill_after (length todo + 2) next (Fills at todo) ≡ Lasts
filled_after next at [] = refl
filled_after next at (chunk ∷ todo) =
    let step : suc (length todo) + 2 ≡ suc (length todo + 2) = omega arith in
    ap (λ (n : ℕ). fill_after n next (Fills at (chunk ∷ todo))) step ∙ filled_after next (at + length chunk) todo

not_filled_before : (next : Slot) (at : ℕ) (todo : List (List ℕ)) (calls : ℕ) → calls < length todo + 2 → fill_after calls next (Fills at todo) ≢ Lasts
not_filled_before next at todo zero less = λ same. cc
not_filled_before next at [] (suc zero) less = λ same. cc
not_filled_before next at [] (suc (suc calls)) less = absurd (omega (arith, less))
not_filled_before next at (chunk ∷ todo) (suc calls) less = not_filled_before next (at + length chunk) todo calls (omega (arith, less))

last_call : (next : Slot) (closed : Bool) → fill_after (length (records_of next) + 6) next (Closes closed) ≡ Lasts
last_call next closed =
    let step : length (records_of next) + 6 ≡ suc (suc (suc (suc (length (chunks (records_of next)) + 2)))) = omega (arith, length-chunks (records_of next)) in
    ap (λ (n : ℕ). fill_after n next (Closes closed)) step ∙ filled_after next 4097 (chunks (records_of next))

not_before : (next : Slot) (closed : Bool) (calls : ℕ) → calls < length (records_of next) + 6 → fill_after calls next (Closes closed) ≢ Lasts
not_before next closed zero less = λ same. cc
not_before next closed (suc zero) less = λ same. cc
not_before next closed (suc (suc zero)) less = λ same. cc
not_before next closed (suc (suc (suc zero))) less = λ same. cc
not_before next closed (suc (suc (suc (suc calls)))) less =
    not_filled_before next 4097 (chunks (records_of next)) calls (omega (arith, less, length-chunks (records_of next)))

pub checkpoints_have_calls : CheckpointsHaveCalls
checkpoints_have_calls = record { last = last_call; before = not_before }

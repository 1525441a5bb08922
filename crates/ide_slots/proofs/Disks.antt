-- Bytes put over others on a disk, and what a crash leaves within a call.
use Rattle.std.specs.Prelude.{◌≡◌, ◌≢◌, ℕ, zero, suc, ◌+◌, List, [], ◌∷◌, ◌++◌, length, take, drop, slice_index, refl}
use Rattle.std.proofs.Common.{arith, ap, ◌∙◌, inl, inr}
use Rattle.std.proofs.lemmas.List.{append-nil, drop_all, length-append, take_all}
use Rattle.ide_disk.specs.Disk.{CrashLeaves, Cut, DiskState, Keeps, Wrote, put_at}
use Rattle.ide_disk.specs.Kept.{keeps_cut, keeps_left, keeps_more, keeps_put}
use Rattle.ide_slots.specs.DiskCalls.{Cuts, DiskCall, FailsSo, LeavesWithin, Syncs, Writes, after_disk_call}

-- what a crash leaves before a call, one within it leaves too
pub before_call : (call : DiskCall) (disk : DiskState) (left : List ℕ) → CrashLeaves disk left → LeavesWithin call disk left
before_call (Writes at bytes) disk left leaves = keeps_more disk.synced (Wrote at (length bytes)) disk.changes left (keeps_left disk.synced disk.changes left leaves)
before_call (Cuts len) disk left leaves = keeps_more disk.synced (Cut len) disk.changes left (keeps_left disk.synced disk.changes left leaves)
before_call Syncs disk left leaves = leaves

-- and so does one after a failed call
pub after_failed : (call : DiskCall) (old new : DiskState) (left : List ℕ) → FailsSo call old new → CrashLeaves new left → LeavesWithin call old left
after_failed (Writes at bytes) old new left fails leaves = fails.leaves left leaves
after_failed (Cuts len) old new left fails leaves = fails.leaves left leaves
after_failed Syncs old new left fails leaves = fails.leaves left leaves

pub failed_possible : (call : DiskCall) (old new : DiskState) → FailsSo call old new → CrashLeaves new new.now
failed_possible (Writes at bytes) old new fails = fails.possible
failed_possible (Cuts len) old new fails = fails.possible
failed_possible Syncs old new fails = fails.possible

-- after a good call what is read is something that a crash may leave
pub called_possible : (call : DiskCall) (disk : DiskState) → CrashLeaves disk disk.now → CrashLeaves (after_disk_call call disk) (after_disk_call call disk).now
called_possible (Writes at bytes) disk possible =
    keeps_put disk.synced disk.changes disk.now at (length bytes) bytes (omega arith) (keeps_left disk.synced disk.changes disk.now possible)
called_possible (Cuts len) disk possible = keeps_cut disk.synced disk.changes disk.now len (keeps_left disk.synced disk.changes disk.now possible)
called_possible Syncs disk possible = refl

-- one byte put over another
pub put_gate : (base tail : List ℕ) (x y : ℕ) → put_at (length base) (y ∷ []) (base ++ x ∷ tail) ≡ base ++ y ∷ tail
put_gate [] tail x y = refl
put_gate (b ∷ base) tail x y =
    let one_more : suc (length base) + 1 ≡ suc (length base + 1) = omega arith in
    ap (λ (n : ℕ). b ∷ (take (length base) (base ++ x ∷ tail) ++ y ∷ [] ++ drop n (b ∷ (base ++ x ∷ tail)))) one_more
    ∙ ap (λ (xs : List ℕ). b ∷ xs) (put_gate base tail x y)

-- bytes put behind the end
pub put_end : (old bytes : List ℕ) → put_at (length old) bytes old ≡ old ++ bytes
put_end old bytes =
    ap (λ (xs : List ℕ). xs ++ bytes ++ drop (length old + length bytes) old) (take_all (length old) old (omega arith))
    ∙ ap (λ (xs : List ℕ). old ++ bytes ++ xs) (drop_all (length old + length bytes) old (omega arith)) ∙ append-nil (old ++ bytes)

-- the byte at the gate is the only one in which two such lists differ
other_gate : (base tail : List ℕ) (x y i : ℕ) → i ≢ length base → slice_index (base ++ x ∷ tail) i ≡ slice_index (base ++ y ∷ tail) i
other_gate [] tail x y zero other = absurd (other refl)
other_gate [] tail x y (suc i) other = refl
other_gate (b ∷ base) tail x y zero other = refl
other_gate (b ∷ base) tail x y (suc i) other = other_gate base tail x y i (λ same. other (omega (arith, same)))

-- with only the gate written, it does not matter what it was
pub any_gate : (base tail left : List ℕ) (x y : ℕ) → Keeps (base ++ x ∷ tail) (Wrote (length base) 1 ∷ []) left
    → Keeps (base ++ y ∷ tail) (Wrote (length base) 1 ∷ []) left
any_gate base tail left x y keeps = record {
  within = λ i inside kept. keeps.within i (omega (arith, inside, length-append base (x ∷ tail), length-append base (y ∷ tail))) kept;
  same = λ i inside kept. keeps.same i (omega (arith, inside, length-append base (x ∷ tail), length-append base (y ∷ tail))) kept
      ∙ other_gate base tail x y i (λ same. elim kept.0 [ inl below ↦ omega (arith, same, below) | inr above ↦ omega (arith, same, above) ]);
}

-- What a crash leaves at each stage of a record.
use Rattle.std.specs.Prelude.{◌≡◌, ◌≢◌, ℕ, zero, suc, ◌+◌, ◌<◌, ◌≤◌, List, [], ◌∷◌, ◌++◌, length, take, drop, slice_index, refl}
use Rattle.std.proofs.Common.{arith, sym, ap, subst, ◌∙◌, inl, inr}
use Rattle.std.proofs.lemmas.Bool.{cases_lt, cases_eq}
use Rattle.std.proofs.lemmas.List.{append-nil, append_assoc, ext_get_or, take-append-drop, length-append, length-take-le, get_or-take, get_or_at, get_or_append_left, take_at, drop_all}
use Rattle.ide_disk.specs.Disk.{DiskState, Wrote, Cut, Keeps, LeftOf, CrashLeaves, LeavesAfter, LeavesAfterSync, settled, written, put_at}
use Rattle.ide_journal.specs.Bytes.{IsBefore, IsBeforeOrAfter, Knows}
use Rattle.ide_journal.specs.declared.stage.Stage.{Stage}
use Rattle.ide_journal.specs.declared.stage.Stage.TheVariants.{Idle, Begun, Written, BodySynced, GateWritten, Failed}

-- bytes that agree with others begin with them
begins_with : (xs left : List ℕ) → length xs ≤ length left → ((i : ℕ) → i < length xs → slice_index left i ≡ slice_index xs i)
    → left ≡ xs ++ drop (length xs) left
begins_with xs left long agrees =
    let front : take (length xs) left ≡ xs =
    ext_get_or 0 (take (length xs) left) xs (length-take-le (length xs) left long)
    (λ i inside. let within : i < length xs = omega (arith, length-take-le (length xs) left long, inside) in
    get_or-take (length xs) left i 0 within ∙ agrees i within) in
    sym (take-append-drop (length xs) left) ∙ ap (λ (p : List ℕ). p ++ drop (length xs) left) front

-- with only what is behind the gate written, the gate stays closed
pub left_behind_gate : (base left : List ℕ) (count : ℕ) → Keeps (base ++ 0 ∷ []) (Wrote (length base + 1) count ∷ []) left → IsBefore base left
left_behind_gate base left count keeps =
    let size : length (base ++ 0 ∷ []) ≡ length base + 1 = omega (arith, length-append base (0 ∷ [])) in
    let long : length (base ++ 0 ∷ []) ≤ length left = omega (arith, size, keeps.within (length base) (omega (arith, size)) (inl (omega arith), tt)) in
    let begins = begins_with (base ++ 0 ∷ []) left long (λ i inside. keeps.same i inside (inl (omega (arith, size, inside)), tt)) in
    record { rest = drop (length (base ++ 0 ∷ [])) left; split = begins ∙ append_assoc base (0 ∷ []) (drop (length (base ++ 0 ∷ [])) left) }

-- the byte at the gate is the only one in which two such lists differ
gate_other : (base tail : List ℕ) (x y i : ℕ) → i ≢ length base → slice_index (base ++ x ∷ tail) i ≡ slice_index (base ++ y ∷ tail) i
gate_other [] tail x y zero other = absurd (other refl)
gate_other [] tail x y (suc i) other = refl
gate_other (b ∷ base) tail x y zero other = refl
gate_other (b ∷ base) tail x y (suc i) other = gate_other base tail x y i (λ same. other (omega (arith, same)))

-- with only the gate written, it is closed, or open before the whole record
pub left_at_gate : (base tail left : List ℕ) → 0 < length tail → Keeps (base ++ 0 ∷ tail) (Wrote (length base) 1 ∷ []) left → IsBeforeOrAfter base tail left
left_at_gate base tail left some keeps =
    let size : (x : ℕ) → length (base ++ x ∷ tail) ≡ length base + 1 + length tail = λ x. omega (arith, length-append base (x ∷ tail)) in
    let gate = slice_index left (length base) in
    let last : length base + length tail < length left =
    keeps.within (length base + length tail) (omega (arith, size 0)) (inr (omega arith), tt) in
    let begins = begins_with (base ++ gate ∷ tail) left (omega (arith, size gate, last))
    (λ i inside. elim (cases_eq i (length base)) [
      | inl at ↦ ap (λ (j : ℕ). slice_index left j) at ∙ sym (ap (λ (j : ℕ). slice_index (base ++ gate ∷ tail) j) at ∙ get_or_at base gate tail 0 (length base) refl)
      | inr other ↦ keeps.same i (omega (arith, size gate, size 0, inside))
          (elim (cases_lt i (length base)) [ inl below ↦ inl below | inr above ↦ inr (omega (arith, other, above)) ], tt)
          ∙ gate_other base tail 0 gate i other
    ]) in
    let flat = begins ∙ append_assoc base (gate ∷ tail) (drop (length (base ++ gate ∷ tail)) left) in
    elim (cases_eq gate 0) [
      | inl closed ↦ inl (record {
        rest = tail ++ drop (length (base ++ gate ∷ tail)) left;
        split = flat ∙ ap (λ (g : ℕ). base ++ g ∷ (tail ++ drop (length (base ++ gate ∷ tail)) left)) closed;
      })
      | inr opened ↦ inr (record { gate = gate; rest = drop (length (base ++ gate ∷ tail)) left; opened = opened; split = begins })
    ]

-- at each stage, a crash leaves the stored records, with the one under way or without it
pub left_in : (stage : Stage) (base tail : List ℕ) (disk : DiskState) → 0 < length tail → Knows stage base tail disk
    → (left : List ℕ) → CrashLeaves disk left → IsBeforeOrAfter base tail left
left_in Idle base tail disk some knows left leaves =
    inl (record { rest = []; split = subst (λ (d : DiskState). CrashLeaves d left) knows leaves })
left_in Begun base tail disk some knows left leaves =
    inl (record { rest = []; split = subst (λ (d : DiskState). CrashLeaves d left) knows leaves })
left_in Written base tail disk some knows left leaves =
    inl (left_behind_gate base left (length tail) (subst (λ (d : DiskState). CrashLeaves d left) knows leaves))
left_in BodySynced base tail disk some knows left leaves =
    inl (record { rest = tail; split = subst (λ (d : DiskState). CrashLeaves d left) knows leaves })
left_in GateWritten base tail disk some knows left leaves =
    left_at_gate base tail left some (subst (λ (d : DiskState). CrashLeaves d left) knows leaves)
left_in Failed base tail disk some knows left leaves = knows left leaves

-- after a write behind the gate that failed
pub body_failed : (base tail : List ℕ) (old new : DiskState) → Knows Begun base tail old
    → LeavesAfter (Wrote (length base + 1) (length tail)) old new → Knows Failed base tail new
body_failed base tail old new knows after left leaves =
    inl (left_behind_gate base left (length tail)
    (subst (λ (d : DiskState). LeftOf d.synced (Wrote (length base + 1) (length tail) ∷ d.changes) left) knows (after.leaves left leaves)))

-- after a write of the gate that failed
pub gate_failed : (base tail : List ℕ) (old new : DiskState) → 0 < length tail → Knows BodySynced base tail old
    → LeavesAfter (Wrote (length base) 1) old new → Knows Failed base tail new
gate_failed base tail old new some knows after left leaves =
    left_at_gate base tail left some
    (subst (λ (d : DiskState). LeftOf d.synced (Wrote (length base) 1 ∷ d.changes) left) knows (after.leaves left leaves))

-- after a sync that failed
pub sync_failed : (stage : Stage) (base tail : List ℕ) (old new : DiskState) → 0 < length tail → Knows stage base tail old
    → LeavesAfterSync old new → Knows Failed base tail new
sync_failed stage base tail old new some knows after left leaves = left_in stage base tail old some knows left (after.leaves left leaves)

-- the gate put over the closed one
gate_put : (base tail : List ℕ) → put_at (length base) (1 ∷ []) (base ++ 0 ∷ tail) ≡ base ++ 1 ∷ tail
gate_put [] tail = refl
gate_put (b ∷ base) tail =
    let one_more : suc (length base) + 1 ≡ suc (length base + 1) = omega arith in
    ap (λ (n : ℕ). b ∷ (take (length base) (base ++ 0 ∷ tail) ++ 1 ∷ [] ++ drop n (b ∷ (base ++ 0 ∷ tail)))) one_more
    ∙ ap (λ (xs : List ℕ). b ∷ xs) (gate_put base tail)

-- after a write of the gate
pub gate_written : (base tail : List ℕ) (old new : DiskState) → Knows BodySynced base tail old → new ≡ written (length base) (1 ∷ []) old
    → Knows GateWritten base tail new
gate_written base tail old new knows is =
    is ∙ ap (λ (d : DiskState). written (length base) (1 ∷ []) d) knows
    ∙ ap (λ (xs : List ℕ). record { synced = base ++ 0 ∷ tail; changes = Wrote (length base) 1 ∷ []; now = xs }) (gate_put base tail)

-- bytes over none
pub put_nothing : (bytes : List ℕ) → put_at 0 bytes [] ≡ bytes
put_nothing bytes = ap (λ (xs : List ℕ). bytes ++ xs) (drop_all (0 + length bytes) [] (omega arith)) ∙ append-nil bytes

-- a cut behind a closed gate leaves what stands before it
pub left_by_cut : (base rest left : List ℕ) → Keeps (base ++ 0 ∷ rest) (Cut (length base + 1) ∷ []) left → IsBefore base left
left_by_cut base rest left keeps =
    let size : length (base ++ 0 ∷ []) ≡ length base + 1 = omega (arith, length-append base (0 ∷ [])) in
    let whole_size : length (base ++ 0 ∷ rest) ≡ length base + 1 + length rest = omega (arith, length-append base (0 ∷ rest)) in
    let split : base ++ 0 ∷ rest ≡ (base ++ 0 ∷ []) ++ rest = sym (append_assoc base (0 ∷ []) rest) in
    let long : length (base ++ 0 ∷ []) ≤ length left = omega (arith, size, keeps.within (length base) (omega (arith, whole_size)) (omega arith, tt)) in
    let begins = begins_with (base ++ 0 ∷ []) left long (λ i inside.
    keeps.same i (omega (arith, size, whole_size, inside)) (omega (arith, size, inside), tt)
    ∙ ap (λ (xs : List ℕ). slice_index xs i) split ∙ get_or_append_left (base ++ 0 ∷ []) rest 0 i inside) in
    record { rest = drop (length (base ++ 0 ∷ [])) left; split = begins ∙ append_assoc base (0 ∷ []) (drop (length (base ++ 0 ∷ [])) left) }

-- what is cut off behind a closed gate
pub cut_behind : (base rest : List ℕ) → take (length base + 1) (base ++ 0 ∷ rest) ≡ base ++ 0 ∷ []
cut_behind base rest =
    ap (λ (xs : List ℕ). take (length base + 1) xs) (sym (append_assoc base (0 ∷ []) rest))
    ∙ take_at (base ++ 0 ∷ []) rest (length base + 1) (omega (arith, length-append base (0 ∷ [])))

-- before such a cut the gate is closed as well
pub left_before_cut : (base rest : List ℕ) (old : DiskState) → old ≡ settled (base ++ 0 ∷ rest) → (left : List ℕ) → CrashLeaves old left → IsBefore base left
left_before_cut base rest old is left leaves = record { rest = rest; split = subst (λ (d : DiskState). CrashLeaves d left) is leaves }

pub left_after_cut : (base rest : List ℕ) (gate : ℕ) (old new : DiskState) → gate ≡ length base → old ≡ settled (base ++ 0 ∷ rest)
    → LeavesAfter (Cut (gate + 1)) old new → (left : List ℕ) → CrashLeaves new left → IsBefore base left
left_after_cut base rest gate old new gate_is is after left leaves =
    left_by_cut base rest left
    (subst (λ (n : ℕ). Keeps (base ++ 0 ∷ rest) (Cut (n + 1) ∷ []) left) gate_is
    (subst (λ (d : DiskState). LeftOf d.synced (Cut (gate + 1) ∷ d.changes) left) is (after.leaves left leaves)))

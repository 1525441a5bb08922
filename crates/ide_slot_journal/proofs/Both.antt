-- A call of one of two disks, and what a crash within it leaves of both.
use Rattle.std.specs.Prelude.{◌≡◌, ◌⊎◌, ℕ, List, Result, refl}
use Rattle.std.proofs.Common.{arith, ap, sym, subst, inl, inr}
use Rattle.ide_disk.specs.Disk.{CrashLeaves, DiskState}
use Rattle.ide_disk.specs.Time.{Elapses}
use Rattle.ide_disk.specs.declared.disk.Disk.{Ghosts}
use Rattle.ide_slots.specs.DiskCalls.{DiskCall, FailsSo, LeavesWithin, after_disk_call}
use Rattle.ide_slots.specs.Sides.{Sides, across, off, on, two_sides}
use Rattle.ide_slots.specs.Two.{LeavesTwo}
use Rattle.ide_slots.specs.declared.side.Side.{Side}
use Rattle.ide_slots.specs.declared.side.Side.TheVariants.{First, Second}
use Rattle.ide_slot_journal.specs.OneDisk.{MakesDiskCall}
use Rattle.ide_slots.proofs.Disks.{after_failed}

-- the same call, by equal names
pub call_is : {D T E : Type 0} (G : Ghosts D) (call call' : DiskCall) (result : Result T E) (old mid new : D) → call ≡ call' → new ≡ mid
    → MakesDiskCall G call result old mid → MakesDiskCall G call' result old new
call_is G call call' result old mid new same is made =
    subst (λ d. MakesDiskCall G call' result old d) (sym is) (subst (λ (c : DiskCall). MakesDiskCall G c result old mid) same made)

-- the current disk after a good call
pub called_two : (side : Side) (call : DiskCall) (x x' y : DiskState) → x' ≡ after_disk_call call x
    → two_sides side x' y ≡ two_sides side (after_disk_call call (on side (two_sides side x y))) (off side (two_sides side x y))
called_two First call x x' y is = ap (λ (d : DiskState). two_sides First d y) is
called_two Second call x x' y is = ap (λ (d : DiskState). two_sides Second d y) is

-- and after a failed one
pub failed_two : (side : Side) (call : DiskCall) (x x' y : DiskState) → FailsSo call x x'
    → FailsSo call (on side (two_sides side x y)) (on side (two_sides side x' y))
failed_two First call x x' y fails = fails
failed_two Second call x x' y fails = fails

pub same_two : (side : Side) (x x' y : DiskState) → off side (two_sides side x' y) ≡ off side (two_sides side x y)
same_two First x x' y = refl
same_two Second x x' y = refl

-- what was left of both, by side
since_two : {D : Type 0} (G : Ghosts D) (side : Side) (old new other other' : D) (left : Sides (List ℕ))
    → G.left_since (two_sides side new other').a (G.moment (two_sides side old other).a) left.a
    → G.left_since (two_sides side new other').b (G.moment (two_sides side old other).b) left.b
    → G.left_since new (G.moment old) (on side left) × G.left_since other' (G.moment other) (off side left)
since_two G First old new other other' left a b = (a, b)
since_two G Second old new other other' left a b = (b, a)

-- a crash since a call began leaves what one before it may leave, or what one within it may
since_call : {D : Type 0} (G : Ghosts D) (call : DiskCall) (old new : D) (left : List ℕ)
    → ((bytes : List ℕ) → G.left_since old (G.moment old) bytes → CrashLeaves (G.state old) bytes)
    → Elapses G.moment G.left_since G.state old new → FailsSo call (G.state old) (G.state new)
    → G.left_since new (G.moment old) left → CrashLeaves (G.state old) left ⊎ LeavesWithin call (G.state old) left
since_call G call old new left only_now time leaves since =
    elim (time.nothing_else (G.moment old) left (omega arith) since) [
      | inl past ↦ inl (only_now left past)
      | inr now ↦ inr (after_failed call (G.state old) (G.state new) left leaves now)
    ]

-- what a crash leaves of both within a call of the current disk
pub record LeavesInCurrent (side : Side) (call : DiskCall) (disks : Sides DiskState) (left : Sides (List ℕ)) : Type 0 where
  pub within : LeavesWithin call (on side disks) (on side left)
  pub other : CrashLeaves (off side disks) (off side left)

left_two : (side : Side) (call : DiskCall) (x y : DiskState) (left : Sides (List ℕ))
    → CrashLeaves x (on side left) ⊎ LeavesWithin call x (on side left) → CrashLeaves y (off side left)
    → LeavesTwo (two_sides side x y) left ⊎ LeavesInCurrent side call (two_sides side x y) left
left_two First call x y left (inl before) other = inl (before, other)
left_two First call x y left (inr within) other = inr (record { within = within; other = other })
left_two Second call x y left (inl before) other = inl (other, before)
left_two Second call x y left (inr within) other = inr (record { within = within; other = other })

-- a crash since such a call began leaves that, or what one before the call may leave
pub since_current : {D : Type 0} (G : Ghosts D) (side : Side) (call : DiskCall) (old new other : D) (left : Sides (List ℕ))
    → ((bytes : List ℕ) → G.left_since old (G.moment old) bytes → CrashLeaves (G.state old) bytes)
    → ((bytes : List ℕ) → G.left_since other (G.moment other) bytes → CrashLeaves (G.state other) bytes)
    → Elapses G.moment G.left_since G.state old new → FailsSo call (G.state old) (G.state new)
    → G.left_since (two_sides side new other).a (G.moment (two_sides side old other).a) left.a
    → G.left_since (two_sides side new other).b (G.moment (two_sides side old other).b) left.b
    → LeavesTwo (two_sides side (G.state old) (G.state other)) left ⊎ LeavesInCurrent side call (two_sides side (G.state old) (G.state other)) left
since_current G side call old new other left only_now other_now time leaves a b =
    let both = since_two G side old new other other left a b in
    left_two side call (G.state old) (G.state other) left (since_call G call old new (on side left) only_now time leaves both.0) (other_now (off side left) both.1)

-- the other disk after a good call
pub called_other : (side : Side) (call : DiskCall) (x y y' : DiskState) → y' ≡ after_disk_call call y
    → two_sides side x y' ≡ two_sides side (on side (two_sides side x y)) (after_disk_call call (off side (two_sides side x y)))
called_other First call x y y' is = ap (λ (d : DiskState). two_sides First x d) is
called_other Second call x y y' is = ap (λ (d : DiskState). two_sides Second x d) is

-- and after a failed one
pub failed_other : (side : Side) (call : DiskCall) (x y y' : DiskState) → FailsSo call y y'
    → FailsSo call (off side (two_sides side x y)) (off side (two_sides side x y'))
failed_other First call x y y' fails = fails
failed_other Second call x y y' fails = fails

pub same_other : (side : Side) (x y y' : DiskState) → on side (two_sides side x y') ≡ on side (two_sides side x y)
same_other First x y y' = refl
same_other Second x y y' = refl

-- the sides are turned over
pub turned_two : {X : Type 0} (side : Side) (x y : X) → two_sides (across side) y x ≡ two_sides side x y
turned_two First x y = refl
turned_two Second x y = refl

-- what a crash leaves of both within a call of the other disk
pub record LeavesInOther (side : Side) (call : DiskCall) (disks : Sides DiskState) (left : Sides (List ℕ)) : Type 0 where
  pub within : LeavesWithin call (off side disks) (off side left)
  pub current : CrashLeaves (on side disks) (on side left)

left_other : (side : Side) (call : DiskCall) (x y : DiskState) (left : Sides (List ℕ))
    → CrashLeaves y (off side left) ⊎ LeavesWithin call y (off side left) → CrashLeaves x (on side left)
    → LeavesTwo (two_sides side x y) left ⊎ LeavesInOther side call (two_sides side x y) left
left_other First call x y left (inl before) current = inl (current, before)
left_other First call x y left (inr within) current = inr (record { within = within; current = current })
left_other Second call x y left (inl before) current = inl (before, current)
left_other Second call x y left (inr within) current = inr (record { within = within; current = current })

-- a crash since such a call began leaves that, or what one before the call may leave
pub since_other : {D : Type 0} (G : Ghosts D) (side : Side) (call : DiskCall) (current old new : D) (left : Sides (List ℕ))
    → ((bytes : List ℕ) → G.left_since current (G.moment current) bytes → CrashLeaves (G.state current) bytes)
    → ((bytes : List ℕ) → G.left_since old (G.moment old) bytes → CrashLeaves (G.state old) bytes)
    → Elapses G.moment G.left_since G.state old new → FailsSo call (G.state old) (G.state new)
    → G.left_since (two_sides side current new).a (G.moment (two_sides side current old).a) left.a
    → G.left_since (two_sides side current new).b (G.moment (two_sides side current old).b) left.b
    → LeavesTwo (two_sides side (G.state current) (G.state old)) left ⊎ LeavesInOther side call (two_sides side (G.state current) (G.state old)) left
since_other G side call current old new left current_now only_now time leaves a b =
    let both = since_two G side current current old new left a b in
    left_other side call (G.state current) (G.state old) left (since_call G call old new (off side left) only_now time leaves both.1) (current_now (on side left) both.0)

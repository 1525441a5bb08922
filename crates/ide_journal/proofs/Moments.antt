-- What a crash at some moment of one disk call leaves.
use Rattle.std.specs.Prelude.{ℕ, List}
use Rattle.std.proofs.Common.{arith, inl, inr}
use Rattle.ide_disk.specs.Disk.{CrashLeaves}
use Rattle.ide_disk.specs.Time.{Elapses}
use Rattle.ide_disk.specs.declared.disk.Disk.{Ghosts}
use Rattle.ide_journal.specs.Moments.{LeavesOnly}

-- over one call, it is what a crash before the call or after it may leave
pub one_call : {D : Type 0} (G : Ghosts D) (old new : D) (P : List ℕ → Type 0)
    → ((left : List ℕ) → G.left_since old (G.moment old) left → CrashLeaves (G.state old) left)
    → Elapses G.moment G.left_since G.state old new
    → ((left : List ℕ) → CrashLeaves (G.state old) left → P left)
    → ((left : List ℕ) → CrashLeaves (G.state new) left → P left)
    → LeavesOnly G old new P
one_call G old new P only_now time before after = record {
  later = time.later;
  each = λ left since. elim (time.nothing_else (G.moment old) left (omega arith) since) [
    | inl past ↦ before left (only_now left past)
    | inr now ↦ after left now
  ];
  before = λ t left early since. elim (time.nothing_else t left early since) [
    | inl past ↦ inl past
    | inr now ↦ inr (after left now)
  ];
}

-- over no call, it is what a crash now may leave
pub no_call : {D : Type 0} (G : Ghosts D) (old : D) (P : List ℕ → Type 0)
    → ((left : List ℕ) → G.left_since old (G.moment old) left → CrashLeaves (G.state old) left)
    → ((left : List ℕ) → CrashLeaves (G.state old) left → P left)
    → LeavesOnly G old old P
no_call G old P only_now before = record {
  later = omega arith;
  each = λ left since. before left (only_now left since);
  before = λ t left early since. inl since;
}

-- one run after another
pub goes_on : {D : Type 0} (G : Ghosts D) (first second third : D) (P : List ℕ → Type 0)
    → LeavesOnly G first second P → LeavesOnly G second third P → LeavesOnly G first third P
goes_on G first second third P one two = record {
  later = omega (arith, one.later, two.later);
  each = λ left since. elim (two.before (G.moment first) left one.later since) [
    | inl past ↦ one.each left past
    | inr holds ↦ holds
  ];
  before = λ t left early since. elim (two.before t left (omega (arith, early, one.later)) since) [
    | inl past ↦ one.before t left early past
    | inr holds ↦ inr holds
  ];
}

-- what holds of fewer outcomes holds of more
pub weaker : {D : Type 0} (G : Ghosts D) (old new : D) (P Q : List ℕ → Type 0)
    → ((left : List ℕ) → P left → Q left) → LeavesOnly G old new P → LeavesOnly G old new Q
weaker G old new P Q implies only = record {
  later = only.later;
  each = λ left since. implies left (only.each left since);
  before = λ t left early since. elim (only.before t left early since) [
    | inl past ↦ inl past
    | inr holds ↦ inr (implies left holds)
  ];
}

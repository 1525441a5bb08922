-- A journal on one disk keeps what a store has to.
use Rattle.std.proofs.Common.{◌≡◌, ◌≢◌, ◌∙◌, ◌⊎◌, ◌≤◌, ◌<◌, ℕ, ◌+◌, zero, suc, List, [], ◌∷◌, ◌++◌, Option, Some, None, length, take, drop, slice_index, refl, ap, sym, subst, arith, inl, inr}
use Rattle.std.specs.Prelude.{slice_get}
use Rattle.std.proofs.lemmas.List.{append-nil, append_assoc, drop_all, get_or_append_left, length-append, length-take-le, take-append-le, take_all}
use Rattle.ide_disk.specs.Disk.{DiskState, CrashLeaves, Keeps, Wrote, put_at, settled, synced_now, written}
use Rattle.ide_journal.specs.Bytes.{IsBeforeOrAfter, Knows}
use Rattle.ide_journal.specs.Calls.{after_stage_call}
use Rattle.ide_journal.specs.Format.{Entry, Head, Holds, IsEntry, IsPages, after_gate, header}
use Rattle.ide_journal.specs.Lists.{HoldsWithOrWithout}
use Rattle.ide_journal.specs.declared.stage.Stage.{Stage}
use Rattle.ide_journal.specs.declared.stage.Stage.TheVariants.{Idle, Begun, Written, BodySynced, GateWritten, Failed}
use Rattle.ide_journal.proofs.Left.{gate_written, left_in}
use Rattle.ide_journal.proofs.Lists.{holds_before, holds_either, pages_push}
use Rattle.ide_journal.proofs.OneList.{holds_one_list, holds_the_same}
use Rattle.ide_store.specs.OneDisk.{DoesGoodCall, Fails, IsLive, KnowsOf, Opens, Stops, Stores, Writer, next_stage, one_disk, tail_of}
use Rattle.ide_store.specs.Store.{IsFoundOf, IsSafe, StoreLaws}

-- the record of a number, behind those before it
pub next_taken : {X : Type 0} (xs : List X) (n : ℕ) (x : X) → slice_get xs n ≡ Some x → (n < length xs) × (take (n + 1) xs ≡ take n xs ++ x ∷ [])
next_taken [] n x is = cc
next_taken (y ∷ ys) zero x is = (omega arith, let same : y ≡ x = cc in rw same refl)
next_taken (y ∷ ys) (suc n) x is =
    let rest = next_taken ys n x is in
    let one_more : suc n + 1 ≡ suc (n + 1) = omega arith in
    (let less = rest.0 in omega arith, ap (λ (m : ℕ). take m (y ∷ ys)) one_more ∙ ap (λ (zs : List _). y ∷ zs) rest.1)

pub kept_get : {X : Type 0} (xs : List X) (y x : X) (n : ℕ) → slice_get xs n ≡ Some x → slice_get (xs ++ y ∷ []) n ≡ Some x
kept_get [] y x n is = cc
kept_get (z ∷ zs) y x zero is = is
kept_get (z ∷ zs) y x (suc n) is = kept_get zs y x n is

pub pushed_get : {X : Type 0} (xs : List X) (y x : X) (n : ℕ) → slice_get (xs ++ y ∷ []) n ≡ Some x → (slice_get xs n ≡ Some x) ⊎ (y ≡ x)
pushed_get [] y x zero is = inr cc
pushed_get [] y x (suc n) is = cc
pushed_get (z ∷ zs) y x zero is = inl is
pushed_get (z ∷ zs) y x (suc n) is = pushed_get zs y x n is

-- bytes written behind a closed gate
put_behind : (base tail : List ℕ) → put_at (length base + 1) tail (base ++ 0 ∷ []) ≡ base ++ 0 ∷ tail
put_behind [] tail = ap (λ (xs : List ℕ). 0 ∷ (tail ++ xs)) (drop_all (1 + length tail) (0 ∷ []) (omega arith)) ∙ ap (λ (xs : List ℕ). 0 ∷ xs) (append-nil tail)
put_behind (b ∷ base) tail =
    let old : List ℕ = b ∷ (base ++ 0 ∷ []) in
    let place : suc (length base) + 1 ≡ suc (length base + 1) = omega arith in
    let end : suc (length base) + 1 + length tail ≡ suc (length base + 1 + length tail) = omega arith in
    ap (λ (n : ℕ). take n old ++ tail ++ drop (suc (length base) + 1 + length tail) old) place
    ∙ ap (λ (n : ℕ). (b ∷ take (length base + 1) (base ++ 0 ∷ [])) ++ tail ++ drop n old) end
    ∙ ap (λ (xs : List ℕ). b ∷ xs) (put_behind base tail)

-- what is read is something that a crash may leave
body_possible : (base tail : List ℕ) → Keeps (base ++ 0 ∷ []) (Wrote (length base + 1) (length tail) ∷ []) (base ++ 0 ∷ tail)
body_possible base tail =
    let split : base ++ 0 ∷ tail ≡ (base ++ 0 ∷ []) ++ tail = sym (append_assoc base (0 ∷ []) tail) in
    record {
      within = λ i inside kept. omega (arith, inside, length-append base (0 ∷ []), length-append base (0 ∷ tail));
      same = λ i inside kept. ap (λ (xs : List ℕ). slice_index xs i) split ∙ get_or_append_left (base ++ 0 ∷ []) tail 0 i inside;
    }

gate_other : (base tail : List ℕ) (i : ℕ) → i ≢ length base → slice_index (base ++ 1 ∷ tail) i ≡ slice_index (base ++ 0 ∷ tail) i
gate_other [] tail zero other = absurd (other refl)
gate_other [] tail (suc i) other = refl
gate_other (b ∷ base) tail zero other = refl
gate_other (b ∷ base) tail (suc i) other = gate_other base tail i (λ same. other (omega (arith, same)))

gate_possible : (base tail : List ℕ) → Keeps (base ++ 0 ∷ tail) (Wrote (length base) 1 ∷ []) (base ++ 1 ∷ tail)
gate_possible base tail = record {
  within = λ i inside kept. omega (arith, inside, length-append base (0 ∷ tail), length-append base (1 ∷ tail));
  same = λ i inside kept. gate_other base tail i (λ same. elim kept.0 [ inl below ↦ absurd (omega (arith, same, below)) | inr above ↦ absurd (omega (arith, same, above)) ]);
}

live_possible : (stage : Stage) (base : List ℕ) (number : ℕ) (next : Option Entry) (disk : DiskState) → KnowsOf stage base number next disk → CrashLeaves disk disk.now
live_possible Idle base number next disk knows = rw knows refl
live_possible Begun base number None disk knows = absurd knows
live_possible Begun base number (Some entry) disk knows = rw knows refl
live_possible Written base number None disk knows = absurd knows
live_possible Written base number (Some entry) disk knows = rw knows (body_possible base (tail_of number entry))
live_possible BodySynced base number None disk knows = absurd knows
live_possible BodySynced base number (Some entry) disk knows = rw knows refl
live_possible GateWritten base number None disk knows = absurd knows
live_possible GateWritten base number (Some entry) disk knows = rw knows (gate_possible base (tail_of number entry))
live_possible Failed base number next disk knows = absurd knows

tail_some : (number : ℕ) (entry : Entry) → 0 < length (tail_of number entry)
tail_some number entry = omega (arith, length-append (after_gate number entry) (0 ∷ []))

-- the stored records are found, or these and the next
found_either : (head : Head) (records : List Entry) (stored : ℕ) (entry : Entry) (left : List ℕ) → stored ≤ length records
    → slice_get records stored ≡ Some entry → HoldsWithOrWithout head (take stored records) entry left
    → (found : List Entry) × Holds head found left × IsFoundOf records stored found
found_either head records stored entry left some is either =
    let next = next_taken records stored entry is in
    elim either [
      | inl holds ↦ (take stored records, holds, record { count = stored; least = omega arith; most = some; is = refl })
      | inr holds ↦ (
        take stored records ++ entry ∷ [],
        holds,
        record { count = stored + 1; least = omega arith; most = let less = next.0 in omega arith; is = sym next.1 },
      )
    ]

live_left : (head : Head) (records : List Entry) (stored : ℕ) (stage : Stage) (pages : List ℕ) (next : Option Entry) (disk : DiskState) (left : List ℕ)
    → IsPages 0 (take stored records) pages → stored ≤ length records → length records ≤ 4294967295
    → ((number : ℕ) (entry : Entry) → slice_get records number ≡ Some entry → IsEntry entry) → slice_get records stored ≡ next
    → KnowsOf stage (header head ++ pages) stored next disk → CrashLeaves disk left
    → (found : List Entry) × Holds head found left × IsFoundOf records stored found
live_left head records stored Failed pages next disk left whole some few proper is knows leaves = absurd knows
live_left head records stored Idle pages next disk left whole some few proper is knows leaves =
    let split : left ≡ (header head ++ pages) ++ 0 ∷ [] = subst (λ (d : DiskState). CrashLeaves d left) knows leaves in
    let short = length-take-le stored records some in (
      take stored records,
      holds_before head (take stored records) pages left whole (omega arith) (record { rest = []; split = split }),
      record { count = stored; least = omega arith; most = some; is = refl },
    )
live_left head records stored stage pages (Some entry) disk left whole some few proper is knows leaves =
    let counted = length-take-le stored records some in
    let next = next_taken records stored entry is in
    let less = next.0 in
    let either = left_in stage (header head ++ pages) (tail_of stored entry) disk (tail_some stored entry) (known stage entry knows) left leaves in
    found_either head records stored entry left some is
    (holds_either head (take stored records) entry pages left whole (proper stored entry is) (omega arith)
    (subst (λ (n : ℕ). IsBeforeOrAfter (header head ++ pages) (tail_of n entry) left) (sym counted) either))
  where
    known : (stage : Stage) (entry : Entry) → KnowsOf stage (header head ++ pages) stored (Some entry) disk
        → Knows stage (header head ++ pages) (tail_of stored entry) disk
    known Idle entry knows = knows
    known Begun entry knows = knows
    known Written entry knows = knows
    known BodySynced entry knows = knows
    known GateWritten entry knows = knows
    known Failed entry knows = absurd knows
live_left head records stored Begun pages None disk left whole some few proper is knows leaves = absurd knows
live_left head records stored Written pages None disk left whole some few proper is knows leaves = absurd knows
live_left head records stored BodySynced pages None disk left whole some few proper is knows leaves = absurd knows
live_left head records stored GateWritten pages None disk left whole some few proper is knows leaves = absurd knows

live_safe : (head : Head) (records : List Entry) (stored : ℕ) (work : Writer) (disk : DiskState) → IsLive head records stored work disk
    → IsSafe (one_disk head) records stored disk
live_safe head records stored work disk live = record {
  each = λ left leaves. live_left head records stored work.stage live.pages (slice_get records stored) disk left live.whole live.some live.few live.proper refl live.knows leaves;
  possible = live_possible work.stage (header head ++ live.pages) stored (slice_get records stored) disk live.knows;
}

-- a record behind the others is no news to the one under way
knows_pushed : (stage : Stage) (base : List ℕ) (number : ℕ) (records : List Entry) (r : Entry) (disk : DiskState)
    → (next : Option Entry) → slice_get records number ≡ next → KnowsOf stage base number next disk
    → KnowsOf stage base number (slice_get (records ++ r ∷ []) number) disk
knows_pushed Idle base number records r disk next is knows = knows
knows_pushed Failed base number records r disk next is knows = absurd knows
knows_pushed stage base number records r disk (Some entry) is knows =
    subst (λ (o : Option Entry). KnowsOf stage base number o disk) (sym (kept_get records r entry number is)) knows
knows_pushed Begun base number records r disk None is knows = absurd knows
knows_pushed Written base number records r disk None is knows = absurd knows
knows_pushed BodySynced base number records r disk None is knows = absurd knows
knows_pushed GateWritten base number records r disk None is knows = absurd knows

live_sealed : (head : Head) (records : List Entry) (stored : ℕ) (r : Entry) (work : Writer) (disk : DiskState) → IsLive head records stored work disk
    → IsEntry r × (length records ≤ 4294967294) → IsLive head (records ++ r ∷ []) stored work disk
live_sealed head records stored r work disk live fits =
    let some = live.some in
    record {
      pages = live.pages;
      whole = rw (take-append-le stored records (r ∷ []) live.some) live.whole;
      some = omega (arith, length-append records (r ∷ []));
      few = let less = fits.1 in omega (arith, length-append records (r ∷ []));
      proper = λ number entry is. elim (pushed_get records r entry number is) [
        | inl before ↦ live.proper number entry before
        | inr same ↦ subst IsEntry same fits.0
      ];
      gate = live.gate;
      knows = knows_pushed work.stage (header head ++ live.pages) stored records r disk (slice_get records stored) refl live.knows;
    }

-- a call brings the disk to what is known at the next stage
knows_called : (stage : Stage) (base : List ℕ) (number : ℕ) (entry : Entry) (gate : ℕ) (disk : DiskState) → gate ≡ length base → stage ≢ GateWritten
    → KnowsOf stage base number (Some entry) disk → KnowsOf (next_stage stage) base number (Some entry) (after_stage_call stage gate (tail_of number entry) disk)
knows_called Idle base number entry gate disk at more knows = rw (at, knows) (ap (λ (now : List ℕ). record {
  synced = base ++ 0 ∷ [];
  changes = Wrote (length base + 1) (length (tail_of number entry)) ∷ [];
  now = now;
}) (put_behind base (tail_of number entry)))
knows_called Begun base number entry gate disk at more knows = rw (at, knows) (ap (λ (now : List ℕ). record {
  synced = base ++ 0 ∷ [];
  changes = Wrote (length base + 1) (length (tail_of number entry)) ∷ [];
  now = now;
}) (put_behind base (tail_of number entry)))
knows_called Written base number entry gate disk at more knows = rw knows refl
knows_called BodySynced base number entry gate disk at more knows =
    gate_written base (tail_of number entry) disk (written gate (1 ∷ []) disk) knows (ap (λ (n : ℕ). written n (1 ∷ []) disk) at)
knows_called GateWritten base number entry gate disk at more knows = absurd (more refl)
knows_called Failed base number entry gate disk at more knows = absurd knows

live_called : (head : Head) (records : List Entry) (stored : ℕ) (work next : Writer) (disk after : DiskState) → IsLive head records stored work disk
    → DoesGoodCall records stored work disk next after → IsLive head records stored next after
live_called head records stored work next disk after live calls =
    let base : List ℕ = header head ++ live.pages in
    let known = subst (λ (o : Option Entry). KnowsOf work.stage base stored o disk) calls.under_way live.knows in
    let now = knows_called work.stage base stored calls.entry work.gate disk live.gate calls.more known in
    let now_at = subst (λ (o : Option Entry). KnowsOf (next_stage work.stage) base stored o (after_stage_call work.stage work.gate (tail_of stored calls.entry) disk)) (sym calls.under_way) now in
    rw (calls.work_is, calls.disk_is) (record {
      pages = live.pages;
      whole = live.whole;
      some = live.some;
      few = live.few;
      proper = live.proper;
      gate = live.gate;
      knows = now_at;
    })

one_page_more : (header pages behind : List ℕ) → (header ++ pages) ++ 1 ∷ (behind ++ 0 ∷ []) ≡ header ++ (pages ++ 1 ∷ behind) ++ 0 ∷ []
one_page_more header pages behind = simp append_assoc

live_stored : (head : Head) (records : List Entry) (stored : ℕ) (work next : Writer) (disk after : DiskState) → IsLive head records stored work disk
    → Stores records stored work disk next after → IsLive head records (stored + 1) next after
live_stored head records stored work next disk after live stores =
    let base : List ℕ = header head ++ live.pages in
    let behind : List ℕ = after_gate stored stores.entry in
    let pages : List ℕ = live.pages ++ 1 ∷ behind in
    let taken = next_taken records stored stores.entry stores.under_way in
    let short = length-take-le stored records live.some in
    let counted : 0 + length (take stored records) ≡ stored = omega arith in
    let known : KnowsOf GateWritten base stored (Some stores.entry) disk =
    subst (λ (o : Option Entry). KnowsOf GateWritten base stored o disk) stores.under_way (subst (λ (s : Stage). KnowsOf s base stored (slice_get records stored) disk) stores.last live.knows) in
    let pushed = pages_push 0 (take stored records) stores.entry live.pages 1 live.whole (λ same. absurd (omega (arith, same))) (live.proper stored stores.entry stores.under_way) in
    let whole : IsPages 0 (take (stored + 1) records) pages =
    subst (λ (rs : List Entry). IsPages 0 rs pages) (sym taken.1)
    (subst (λ (n : ℕ). IsPages 0 (take stored records ++ stores.entry ∷ []) (live.pages ++ 1 ∷ after_gate n stores.entry)) counted pushed) in
    rw (stores.work_is, stores.disk_is) (record {
      pages = pages;
      whole = whole;
      some = let less = taken.0 in omega arith;
      few = live.few;
      proper = live.proper;
      gate = omega (
        arith,
        live.gate,
        length-append (header head) live.pages,
        length-append behind (0 ∷ []),
        length-append (header head) pages,
        length-append live.pages (1 ∷ behind),
      );
      knows = ap synced_now known ∙ ap settled (one_page_more (header head) live.pages behind);
    })

pub all_proper : (from : ℕ) (records : List Entry) (pages : List ℕ) → IsPages from records pages
    → (number : ℕ) (entry : Entry) → slice_get records number ≡ Some entry → IsEntry entry
all_proper from [] pages whole number entry is = cc
all_proper from (r ∷ records) pages (gate, rest, opened, proper, split, whole) zero entry is = let same : r ≡ entry = cc in subst IsEntry same proper
all_proper from (r ∷ records) pages (gate, rest, opened, proper, split, whole) (suc number) entry is =
    all_proper (from + 1) records rest whole number entry is

live_opened : (head : Head) (found : List Entry) (disk after : DiskState) (work : Writer) → Holds head found disk.now → Opens head disk work after
    → IsLive head found (length found) work after
live_opened head found disk after work holds opens =
    let same : opens.found ≡ found = (holds_one_list head head opens.found found disk.now opens.held holds).1 in
    rw (opens.work_is, opens.disk_is) (record {
      pages = opens.pages;
      whole = rw (take_all (length found) found (omega arith), ← same) opens.whole;
      some = omega arith;
      few = holds.few;
      proper = all_proper 0 found holds.pages holds.whole;
      gate = refl;
      knows = refl;
    })

can_open : (head : Head) (found : List Entry) (disk : DiskState) → Holds head found disk.now
    → (work : Writer) × (after : DiskState) × Opens head disk work after
can_open head found disk holds = (
  record { gate = length (header head ++ holds.pages); stage = Idle },
  settled (header head ++ holds.pages ++ 0 ∷ []),
  record {
    found = found;
    held = holds;
    pages = holds.pages;
    whole = holds.whole;
    work_is = refl;
    disk_is = refl;
  },
)

failed_safe : (head : Head) (records : List Entry) (stored : ℕ) (work : Writer) (disk after : DiskState) → IsLive head records stored work disk
    → Fails head records stored after → IsSafe (one_disk head) records stored after
failed_safe head records stored work disk after live fails = record {
  each = λ left leaves. found_either head records stored fails.entry left live.some fails.under_way (fails.each left leaves);
  possible = fails.possible;
}

stopped_safe : (head : Head) (records : List Entry) (stored : ℕ) (disk after : DiskState) → IsSafe (one_disk head) records stored disk
    → Stops disk after → IsSafe (one_disk head) records stored after
stopped_safe head records stored disk after safe stops = record {
  each = λ left leaves. elim (stops.each left leaves) [
    | inl before ↦ safe.each left before
    | inr same ↦ let found = safe.each disk.now safe.possible in (found.0, holds_the_same head found.0 disk.now left same found.1, found.2)
  ];
  possible = stops.possible;
}

-- two lists that the same bytes hold are the same
pub one_disk_keeps : (head : Head) → StoreLaws (λ found other. found ≡ other) (one_disk head)
one_disk_keeps head = record {
  alike = λ found other left holds holds_other. (holds_one_list head head found other left holds holds_other).1;
  crashed_leaves = λ left other leaves. leaves;
  crashed_reads = λ left. refl;
  live_safe = live_safe head;
  sealed = live_sealed head;
  called = live_called head;
  stores = live_stored head;
  stores_some = λ records stored work next disk after stores. (next_taken records stored stores.entry stores.under_way).0;
  failed = failed_safe head;
  begun = λ records stored work next disk live begins. absurd begins;
  opened = λ found disk after work possible holds opens. live_opened head found disk after work holds opens;
  can_open = can_open head;
  stopped = stopped_safe head;
}

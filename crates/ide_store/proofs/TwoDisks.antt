-- Two slots on two disks keep what a store has to.
use Rattle.std.proofs.Common.{◌≡◌, ◌∙◌, ◌≤◌, ◌<◌, ℕ, ◌+◌, zero, suc, All, List, [], ◌∷◌, ◌++◌, Option, Some, None, length, take, drop, map, ◌⊎◌, refl, ap, sym, subst, arith, inl, inr}
use Rattle.std.specs.Option.{option_map}
use Rattle.std.specs.Prelude.{slice_get}
use Rattle.std.proofs.lemmas.Bool.{cases_lt}
use Rattle.std.proofs.lemmas.List.Elements.{All-append, All-drop, All-map, All-nil}
use Rattle.std.proofs.lemmas.List.{drop-append-le, drop-drop, drop_all, length-append, length-drop, length-map, length-take, length-take-le, map-append, take-append-drop, take-append-le, take_all}
use Rattle.std.proofs.lemmas.Option.{same_Some, slice_get_past}
use Rattle.ide_disk.specs.Disk.{DiskState}
use Rattle.ide_journal.specs.Format.{Entry, head_of}
use Rattle.ide_journal.specs.declared.stage.Phase.{Phase}
use Rattle.ide_journal.specs.declared.stage.Phase.TheVariants as phases
use Rattle.ide_journal.specs.declared.stage.Stage.{Stage}
use Rattle.ide_journal.specs.declared.stage.Stage.TheVariants.{Idle}
use Rattle.ide_journal.specs.declared.version.Version.{Version}
use Rattle.ide_journal.specs.declared.version.Version.TheVariants as version
use Rattle.ide_slots.specs.DiskCalls.{FailsSo}
use Rattle.ide_slots.specs.Filling.{Filling, Lasts, with_gate}
use Rattle.ide_slots.specs.Sides.{Shows, Sides, off, on}
use Rattle.ide_slots.specs.Slot.{Slot, slot_count, with_more}
use Rattle.ide_slots.specs.Two.{Beside, CanBeNext, Checkpoint, IsMade, IsOfCheckpoint, IsSafeTwo, IsUpTo, KnowsNext, NotBegun, Planned, ShowsOne, SlotWriter, StandsTwo, UnderWay, reads_two}
use Rattle.ide_slots.specs.TwoCalls.{BeginsCheckpoint, CallsRecord, FailsRecord, IsDue, IsRecordsTurn, OpensTwo, PlansCheckpoint, StopsTwo, StoresRecord, on_current, record_call}
use Rattle.ide_slots.proofs.Checkpoints.{checkpoints_keep_standing}
use Rattle.ide_slots.proofs.Chosen.{one_shown}
use Rattle.ide_slots.proofs.Openings.{openings_find, stopped_possible, stopped_shows}
use Rattle.ide_slots.proofs.Standing.{at_idle, standing_is_safe}
use Rattle.ide_slots.proofs.Writers.{records_keep_standing}
use Rattle.ide_store.proofs.OneDisk.{next_taken}
use Rattle.ide_store.specs.Store.{IsFoundOf, IsSafe, StoreLaws}
use Rattle.ide_store.specs.Versioned.{IsIn, IsPlainEntry, VersionedEntry, in_version, plain}
use Rattle.ide_store.specs.TwoDisks.{AreSpelledFor, AreSpelledUpTo, AtCheckpoint, AtRecord, BeginsTwo, CallsTwo, FailsTwo, ForRecord, GiveTheSame, HasPlan, HoldsTwo, InCheckpoint, IsListOf, IsLiveTwo, LastInCheckpoint, StoresTwo, BeginsCalls, commands_of, next_entry, sealing_version, unnumbered, version_with, two_disks}
use Rattle.ide_store.specs.World.{AreAlike, LeadTo, Rules}

get_before : {X : Type 0} (xs ys : List X) (n : ℕ) → n < length xs → slice_get (xs ++ ys) n ≡ slice_get xs n
get_before [] ys n inside = absurd (omega (arith, inside))
get_before (x ∷ xs) ys zero inside = refl
get_before (x ∷ xs) ys (suc n) inside = get_before xs ys n (omega (arith, inside))

pub one_next : {X : Type 0} (P : X → Type 0) (xs : List X) (n : ℕ) (x : X) → All P (drop n xs) → slice_get xs n ≡ Some x → P x
one_next P [] n x each is = cc
one_next P (y ∷ ys) zero x each is = let same : y ≡ x = cc in subst P same (each 0 y (omega arith))
one_next P (y ∷ ys) (suc n) x each is = one_next P ys n x each is

pub get_taken : {X : Type 0} (xs : List X) (m n : ℕ) → n < m → slice_get (take m xs) n ≡ slice_get xs n
get_taken xs zero n less = absurd (omega (arith, less))
get_taken [] (suc m) n less = refl
get_taken (x ∷ xs) (suc m) zero less = refl
get_taken (x ∷ xs) (suc m) (suc n) less = get_taken xs m n (omega (arith, less))

-- what the journal has of the next record is that of one
pub next_record : (o : Option VersionedEntry) (entry : Entry) → option_map plain o ≡ Some entry → (version : Version) × (o ≡ Some (version, entry))
next_record None entry is = cc
next_record (Some r) entry is = (r.0, ap (λ (e : Entry). Some (r.0, e)) (same_Some r.1 entry is))

-- entries that are still to be stored can be
pub can_be_next : (records : List VersionedEntry) (stored : ℕ) → length records ≤ 4294967295 → All IsPlainEntry (drop stored records)
    → CanBeNext stored (next_entry records stored)
can_be_next records stored few proper = go (slice_get records stored) refl
  where
    go : (next : Option VersionedEntry) → slice_get records stored ≡ next → CanBeNext stored (option_map plain next)
    go None is = tt
    go (Some r) is = (one_next IsPlainEntry records stored r proper is, let taken = next_taken records stored r is in let less = taken.0 in omega arith)

-- the calls for the next record are those behind another slot of as many records
due_too : (slot other : Slot) (work : SlotWriter) (phase : Phase) → slot_count slot ≡ slot_count other → IsDue slot work phase → IsDue other work phase
due_too slot other work phase same due = record {
  turn = subst (λ (n : ℕ). IsRecordsTurn n work.checkpoint) same due.turn;
  ready = due.ready;
}

calls_too : (slot other : Slot) (entry : Entry) (work new : SlotWriter) (disks after : Sides DiskState) → slot_count slot ≡ slot_count other
    → CallsRecord slot entry work disks new after → CallsRecord other entry work disks new after
calls_too slot other entry work new disks after same calls = record {
  phase = calls.phase;
  due = due_too slot other work calls.phase same calls.due;
  more = calls.more;
  work_is = calls.work_is;
  disks_are = subst (λ (n : ℕ). after ≡ on_current work (record_call calls.phase work.gate (with_gate 0 (n, entry))) disks) same calls.disks_are;
}

stores_too : (slot other : Slot) (entry : Entry) (work new : SlotWriter) (disks after : Sides DiskState) → slot_count slot ≡ slot_count other
    → StoresRecord slot entry work disks new after → StoresRecord other entry work disks new after
stores_too slot other entry work new disks after same stores = record {
  due = due_too slot other work _ same stores.due;
  work_is = subst (λ (n : ℕ). new ≡ record work { stage = Idle; gate = work.gate + length (with_gate 0 (n, entry)) }) same stores.work_is;
  disks_are = subst (λ (n : ℕ). after ≡ on_current work (record_call phases.Stored work.gate (with_gate 0 (n, entry))) disks) same stores.disks_are;
}

fails_too : (slot other : Slot) (entry : Entry) (work : SlotWriter) (disks after : Sides DiskState) → slot_count slot ≡ slot_count other
    → FailsRecord slot entry work disks after → FailsRecord other entry work disks after
fails_too slot other entry work disks after same fails = record {
  phase = fails.phase;
  due = due_too slot other work fails.phase same fails.due;
  fails = subst (λ (n : ℕ). FailsSo (record_call fails.phase work.gate (with_gate 0 (n, entry))) (on work.side disks) (on work.side after)) same fails.fails;
  same = fails.same;
}

same_sides : {X : Type 0} (one other : Sides X) → one.a ≡ other.a → one.b ≡ other.b → one ≡ other
same_sides one other first second =
    ap (λ x. record { a = x; b = one.b }) first ∙ ap (λ x. record { a = other.a; b = x }) second

all_less : (P : VersionedEntry → Type 0) (records : List VersionedEntry) (stored : ℕ) → All P (drop stored records) → All P (drop (stored + 1) records)
all_less P records stored each =
    subst (λ (rs : List VersionedEntry). All P rs) (drop-drop 1 stored records) (All-drop P 1 (drop stored records) each)

-- all of them are of the version in which they were put
pub all_in : (version : Version) (entries : List Entry) → All (IsIn version) (in_version version entries)
all_in version entries = All-map (IsIn version) (λ (entry : Entry). (version, entry)) entries (λ i d inside. refl)

pub all_one : (P : VersionedEntry → Type 0) (r : VersionedEntry) → P r → All P (r ∷ [])
all_one P r is zero d inside = is
all_one P r is (suc k) d inside = absurd (omega (arith, inside))

-- one of them is stored
pub spelled_less : (records : List VersionedEntry) (stored : ℕ) (version : Version) (checkpoint : Checkpoint)
    → AreSpelledFor version checkpoint records stored → AreSpelledFor version checkpoint records (stored + 1)
spelled_less records stored version NotBegun all = all_less (IsIn version) records stored all
spelled_less records stored version (Planned next) both =
    record { within = both.within; below = all_less (IsIn version) (take next.base records) stored both.below; others = both.others }
spelled_less records stored version (UnderWay next fill) both =
    record { within = both.within; below = all_less (IsIn version) (take next.base records) stored both.below; others = both.others }

-- others come behind a checkpoint's base
spelled_behind : (records more : List VersionedEntry) (stored : ℕ) (version : Version) (next : Slot)
    → AreSpelledUpTo next.base version next.head.version records stored → All (IsIn next.head.version) more
    → AreSpelledUpTo next.base version next.head.version (records ++ more) stored
spelled_behind records more stored version next both new =
    let within = both.within in
    record {
      within = omega (arith, within, length-append records more);
      below = subst (λ (rs : List VersionedEntry). All (IsIn version) (drop stored rs)) (sym (take-append-le next.base records more within)) both.below;
      others = subst (λ (rs : List VersionedEntry). All (IsIn next.head.version) rs) (sym (drop-append-le next.base records more within))
          (All-append (IsIn next.head.version) (drop next.base records) more both.others new);
    }

-- others are sealed behind them, of the version in which records are sealed
pub spelled_with : (records more : List VersionedEntry) (stored : ℕ) (version : Version) (checkpoint : Checkpoint) → stored ≤ length records
    → AreSpelledFor version checkpoint records stored → All (IsIn (version_with version checkpoint)) more
    → AreSpelledFor version checkpoint (records ++ more) stored
spelled_with records more stored version NotBegun some all new =
    subst (λ (rs : List VersionedEntry). All (IsIn version) rs) (sym (drop-append-le stored records more some))
    (All-append (IsIn version) (drop stored records) more all new)
spelled_with records more stored version (Planned next) some both new = spelled_behind records more stored version next both new
spelled_with records more stored version (UnderWay next fill) some both new = spelled_behind records more stored version next both new

module _ {Image Step : Type 0} (rules : Rules Image Step VersionedEntry) where
  pub lead_on : (records others : List VersionedEntry) (before between now : Image) → LeadTo rules records before between → LeadTo rules others between now
      → LeadTo rules (records ++ others) before now
  lead_on [] others before between now same rest = subst (λ (i : Image). LeadTo rules others i now) (sym same) rest
  lead_on (r ∷ records) others before between now (first, leads, more) rest =
      (first, leads, lead_on records others first between now more rest)

  lead_split : (records others : List VersionedEntry) (before now : Image) → LeadTo rules (records ++ others) before now
      → (between : Image) × LeadTo rules records before between × LeadTo rules others between now
  lead_split [] others before now leads = (before, refl, leads)
  lead_split (r ∷ records) others before now (first, leads, more) =
      let rest = lead_split records others first now more in
      (rest.0, (first, leads, rest.1), rest.2)

  -- lists that give back the same do so with the same records behind them
  same_behind : (records others behind : List VersionedEntry) → GiveTheSame rules records others → GiveTheSame rules (records ++ behind) (others ++ behind)
  same_behind records others behind same image = (
    λ folded. let split = lead_split records behind rules.empty image folded in lead_on others behind rules.empty split.0 image ((same split.0).0 split.1) split.2,
    λ folded. let split = lead_split others behind rules.empty image folded in lead_on records behind rules.empty split.0 image ((same split.0).1 split.1) split.2,
  )

  -- what stands in a slot gives back the images of the list that it has
  pub slot_gives : (records : List VersionedEntry) (slot : Slot) → IsListOf rules records slot
      → GiveTheSame rules (in_version slot.head.version (map unnumbered slot.commands ++ slot.parts ++ slot.rest)) records
  slot_gives records slot list =
      let version = slot.head.version in
      let first : List Entry = map unnumbered slot.commands ++ slot.parts in
      let all : in_version version first ++ in_version version slot.rest ≡ in_version version (map unnumbered slot.commands ++ slot.parts ++ slot.rest) =
      sym (map-append (λ (entry : Entry). (version, entry)) first slot.rest) in
      subst (λ (rs : List VersionedEntry). GiveTheSame rules rs records) all
      (subst (λ (rs : List VersionedEntry). GiveTheSame rules (in_version version first ++ in_version version slot.rest) rs)
      (ap (λ (rs : List VersionedEntry). take slot.base records ++ rs) list.rest ∙ take-append-drop slot.base records)
      (same_behind (in_version version first) (take slot.base records) (in_version version slot.rest) list.image))

  pub list_count : (records : List VersionedEntry) (slot : Slot) → IsListOf rules records slot → slot_count slot ≡ length records
  list_count records slot list =
      let within = list.within in
      omega (arith, sym (length-map slot.rest (λ (entry : Entry). (slot.head.version, entry))) ∙ ap length list.rest ∙ length-drop slot.base records)

  alike : (tag : ℕ) (found other : List VersionedEntry) (left : Sides (List ℕ)) → HoldsTwo rules tag found left → HoldsTwo rules tag other left
      → AreAlike rules found other
  alike tag found other left holds other_holds =
      let same : other_holds.slot ≡ holds.slot = one_shown other_holds.slot holds.slot left other_holds.shows holds.shows in
      let list = subst (λ (s : Slot). IsListOf rules other s) same other_holds.list in
      record {
        count = sym (list_count found holds.slot holds.list) ∙ list_count other holds.slot list;
        there = λ image folded. (slot_gives other holds.slot list image).0 ((slot_gives found holds.slot holds.list image).1 folded);
        back = λ image folded. (slot_gives found holds.slot holds.list image).0 ((slot_gives other holds.slot list image).1 folded);
      }

  -- the list with one record more
  list_more : (records : List VersionedEntry) (entry : Entry) (slot : Slot) → IsListOf rules records slot
      → IsListOf rules (records ++ (slot.head.version, entry) ∷ []) (with_more slot entry)
  list_more records entry slot list =
      let base = slot.base in
      let version = slot.head.version in
      let within = list.within in
      let first = sym (take-append-le base records ((version, entry) ∷ []) within) in
      record {
        within = omega (arith, length-append records ((version, entry) ∷ []));
        commands = list.commands ∙ ap commands_of first;
        image = subst (λ (rs : List VersionedEntry). GiveTheSame rules (in_version version (map unnumbered slot.commands ++ slot.parts)) rs) first list.image;
        rest = map-append (λ (e : Entry). (version, e)) slot.rest (entry ∷ [])
            ∙ ap (λ (rs : List VersionedEntry). rs ++ (version, entry) ∷ []) list.rest ∙ sym (drop-append-le base records ((version, entry) ∷ []) within);
      }

  pub stored_more : (records : List VersionedEntry) (stored : ℕ) (entry : Entry) (slot : Slot) → IsListOf rules (take stored records) slot
      → slice_get records stored ≡ Some (slot.head.version, entry) → IsListOf rules (take (stored + 1) records) (with_more slot entry)
  stored_more records stored entry slot list is =
      subst (λ (rs : List VersionedEntry). IsListOf rules rs (with_more slot entry)) (sym (next_taken records stored (slot.head.version, entry) is).1)
      (list_more (take stored records) entry slot list)

  pub plan_within : (records : List VersionedEntry) (next : Slot) → IsListOf rules (take next.base records) next → next.base ≤ length records
  plan_within records next list = let within = list.within in omega (arith, length-take next.base records)

  plan_more : (records others : List VersionedEntry) (checkpoint : Checkpoint) → HasPlan rules records checkpoint → HasPlan rules (records ++ others) checkpoint
  plan_more records others NotBegun plan = tt
  plan_more records others (Planned next) plan =
      subst (λ (rs : List VersionedEntry). IsListOf rules rs next) (sym (take-append-le next.base records others (plan_within records next plan))) plan
  plan_more records others (UnderWay next fill) plan =
      subst (λ (rs : List VersionedEntry). IsListOf rules rs next) (sym (take-append-le next.base records others (plan_within records next plan))) plan

  module _ (tag : ℕ) where
    pub stored_count : (records : List VersionedEntry) (stored : ℕ) (slot : Slot) → stored ≤ length records → IsListOf rules (take stored records) slot
        → slot_count slot ≡ stored
    stored_count records stored slot some list = list_count (take stored records) slot list ∙ length-take-le stored records some

    made : (slot next : Slot) (waits : Option Entry) (fill : Filling) (work : SlotWriter) (disks : Sides DiskState) → StandsTwo slot waits work disks
        → work.checkpoint ≡ UnderWay next fill → IsMade work.side slot next work.stage fill (off work.side disks)
    made slot next waits fill work disks stands is =
        subst (λ (c : Checkpoint). Beside work.side slot work.stage c (off work.side disks)) is stands.beside

    planned_at : (records : List VersionedEntry) (next : Slot) (fill : Filling) (checkpoint : Checkpoint) → checkpoint ≡ UnderWay next fill
        → HasPlan rules records checkpoint → IsListOf rules (take next.base records) next
    planned_at records next fill checkpoint is plan = subst (λ (c : Checkpoint). HasPlan rules records c) is plan

    -- the slot of a checkpoint that makes its calls has the stored records
    made_list : (records : List VersionedEntry) (stored : ℕ) (slot next : Slot) (side : _) (stage : Stage) (fill : Filling) (disk : DiskState)
        → slot_count slot ≡ stored → IsMade side slot next stage fill disk → IsListOf rules (take next.base records) next
        → IsListOf rules (take stored records) next
    made_list records stored slot next side stage fill disk count is list =
        subst (λ (n : ℕ). IsListOf rules (take n records) next) (sym is.stored ∙ count) list

    -- where no record is under way, the writer stands as with none that is next
    none_next : (slot : Slot) (next : Option Entry) (work : SlotWriter) (disks : Sides DiskState) → StandsTwo slot next work disks → work.stage ≡ Idle
        → StandsTwo slot None work disks
    none_next slot next work disks stands idle = record {
      front = stands.front;
      whole = stands.whole;
      version = stands.version;
      generation = stands.generation;
      gate = stands.gate;
      knows = (idle, at_idle work.stage stands.front (slot_count slot) next (on work.side disks) idle stands.knows);
      fits = tt;
      beside = stands.beside;
    }

    -- the next record is of the version of the current slot; or it is a checkpoint's turn, and none is under way
    abbrev pub IsOfSlot : List VersionedEntry → ℕ → Version → Type 0
    IsOfSlot records stored version = (r : VersionedEntry) → slice_get records stored ≡ Some r → r.0 ≡ version

    pub due_next : (records : List VersionedEntry) (stored : ℕ) (slot : Slot) (next : Option Entry) (work : SlotWriter) (disks : Sides DiskState)
        → slot_count slot ≡ stored → StandsTwo slot next work disks → AreSpelledFor work.version work.checkpoint records stored
        → IsOfSlot records stored slot.head.version ⊎ (work.stage ≡ Idle)
    due_next records stored slot next work disks count stands spelled = go work.checkpoint stands.beside spelled
      where
        of : (rs : List VersionedEntry) → All (IsIn work.version) (drop stored rs) → (r : VersionedEntry) → slice_get rs stored ≡ Some r
            → r.0 ≡ slot.head.version
        of rs all r is = one_next (IsIn work.version) rs stored r all is ∙ stands.version

        go : (checkpoint : Checkpoint) → Beside work.side slot work.stage checkpoint (off work.side disks)
            → AreSpelledFor work.version checkpoint records stored → IsOfSlot records stored slot.head.version ⊎ (work.stage ≡ Idle)
        go NotBegun beside all = inl (of records all)
        go (Planned other) beside both = elim beside.1.up_to [
          | inl less ↦ inl (λ r is. of (take other.base records) both.below r (get_taken records other.base stored (omega (arith, less, count)) ∙ is))
          | inr idle ↦ inr idle.1
        ]
        go (UnderWay other fill) beside both = inr beside.idle

    -- what may be found has the stored records, or these and the next, if that is of the slot's version
    abbrev IsNextOf : List VersionedEntry → ℕ → Version → Option Entry → Type 0
    IsNextOf records stored version next = (entry : Entry) → next ≡ Some entry → slice_get records stored ≡ Some (version, entry)

    found_list : (records : List VersionedEntry) (stored : ℕ) (work : SlotWriter) (disks : Sides DiskState) (left : Sides (List ℕ))
        → (live : IsLiveTwo rules tag records stored work disks) (next : Option Entry) → IsNextOf records stored live.slot.head.version next
        → ShowsOne live.slot next work.checkpoint left
        → (found : List VersionedEntry) × HoldsTwo rules tag found left × IsFoundOf records stored found
    found_list records stored work disks left live next next_of shows = elim shows.may [
      | inl same ↦ (
        take stored records,
        record {
          slot = live.slot;
          tag_is = live.tag_is;
          shows = subst (λ (s : Slot). Shows s left) same shows.shows;
          list = live.list;
        },
        record { count = stored; least = omega arith; most = live.some; is = refl },
      )
      | inr (inl more) ↦
          let is = next_of more.entry more.next_is in
          let taken = next_taken records stored (live.slot.head.version, more.entry) is in
          let less = taken.0 in (
            take (stored + 1) records,
            record {
              slot = with_more live.slot more.entry;
              tag_is = live.tag_is;
              shows = subst (λ (s : Slot). Shows s left) more.is shows.shows;
              list = stored_more records stored more.entry live.slot live.list is;
            },
            record { count = stored + 1; least = omega arith; most = omega arith; is = refl },
          )
      | inr (inr turned) ↦ of_checkpoint work.checkpoint refl turned
    ]
      where
        of_checkpoint : (checkpoint : Checkpoint) → work.checkpoint ≡ checkpoint → IsOfCheckpoint checkpoint shows.found
            → (found : List VersionedEntry) × HoldsTwo rules tag found left × IsFoundOf records stored found
        of_checkpoint NotBegun is turned = absurd turned
        of_checkpoint (Planned other) is turned = absurd turned
        of_checkpoint (UnderWay other fill) is turned =
            let some = live.some in
            let calls = made live.slot other (next_entry records stored) fill work disks live.stands is in (
              take stored records,
              record {
                slot = other;
                tag_is = ap (λ (h : _). h.tag) calls.follows.head ∙ live.tag_is;
                shows = subst (λ (s : Slot). Shows s left) turned.1 shows.shows;
                list = made_list records stored live.slot other work.side work.stage fill (off work.side disks)
                    (stored_count records stored live.slot live.some live.list) calls (planned_at records other fill work.checkpoint is live.plan);
              },
              record { count = stored; least = omega arith; most = live.some; is = refl },
            )

    safe_of : (records : List VersionedEntry) (stored : ℕ) (work : SlotWriter) (disks after : Sides DiskState)
        → (live : IsLiveTwo rules tag records stored work disks) (next : Option Entry) → IsNextOf records stored live.slot.head.version next
        → IsSafeTwo live.slot next work.checkpoint after → IsSafe (two_disks rules tag) records stored after
    safe_of records stored work disks after live next next_of safe = record {
      each = λ left leaves. found_list records stored work disks left live next next_of (safe.each left leaves);
      possible = safe.possible;
    }

    none_of : (records : List VersionedEntry) (stored : ℕ) (version : Version) → IsNextOf records stored version None
    none_of records stored version entry is = cc

    live_safe : (records : List VersionedEntry) (stored : ℕ) (work : SlotWriter) (disks : Sides DiskState) → IsLiveTwo rules tag records stored work disks
        → IsSafe (two_disks rules tag) records stored disks
    live_safe records stored work disks live =
        elim (due_next records stored live.slot (next_entry records stored) work disks (stored_count records stored live.slot live.some live.list)
        live.stands live.spelled) [
          | inl of ↦
              safe_of records stored work disks disks live (next_entry records stored)
              (λ entry is.
              let one = next_record (slice_get records stored) entry is in
              one.1 ∙ ap (λ (v : Version). Some (v, entry)) (of (one.0, entry) one.1))
              (standing_is_safe live.slot (next_entry records stored) work disks live.stands)
          | inr idle ↦
              safe_of records stored work disks disks live None (none_of records stored live.slot.head.version)
              (standing_is_safe live.slot None work disks (none_next live.slot (next_entry records stored) work disks live.stands idle))
        ]

    -- one record more is sealed: it waits where none did
    live_sealed : (records : List VersionedEntry) (stored : ℕ) (r : VersionedEntry) (work : SlotWriter) (disks : Sides DiskState)
        → IsLiveTwo rules tag records stored work disks → IsIn (sealing_version work) r × CanBeNext (length records) (Some r.1)
        → IsLiveTwo rules tag (records ++ r ∷ []) stored work disks
    live_sealed records stored r work disks live fits =
        let some = live.some in
        let less = fits.1.1 in
        let few : length (records ++ r ∷ []) ≤ 4294967295 = omega (arith, length-append records (r ∷ [])) in
        let proper : All IsPlainEntry (drop stored (records ++ r ∷ [])) =
        subst (λ (rs : List VersionedEntry). All IsPlainEntry rs) (sym (drop-append-le stored records (r ∷ []) live.some))
        (All-append IsPlainEntry (drop stored records) (r ∷ []) live.proper (all_one IsPlainEntry r fits.1.0)) in
        record {
          slot = live.slot;
          tag_is = live.tag_is;
          list = subst (λ (rs : List VersionedEntry). IsListOf rules rs live.slot) (sym (take-append-le stored records (r ∷ []) live.some)) live.list;
          stands = elim (cases_lt stored (length records)) [
            | inl before ↦ subst (λ (o : Option VersionedEntry). StandsTwo live.slot (option_map plain o) work disks)
                (sym (get_before records (r ∷ []) stored before)) live.stands
            | inr last ↦
                let none = subst (λ (o : Option VersionedEntry). StandsTwo live.slot (option_map plain o) work disks) (slice_get_past records stored last) live.stands in
                let count = stored_count records stored live.slot live.some live.list in
                records_keep_standing.waits live.slot (next_entry (records ++ r ∷ []) stored) work disks none
                (subst (λ (n : ℕ). CanBeNext n (next_entry (records ++ r ∷ []) stored)) (sym count) (can_be_next (records ++ r ∷ []) stored few proper))
          ];
          some = omega (arith, length-append records (r ∷ []));
          few = few;
          proper = proper;
          spelled = spelled_with records (r ∷ []) stored work.version work.checkpoint live.some live.spelled
              (all_one (IsIn (sealing_version work)) r fits.0);
          plan = plan_more records (r ∷ []) work.checkpoint live.plan;
        }

    live_called : (records : List VersionedEntry) (stored : ℕ) (work new : SlotWriter) (disks after : Sides DiskState)
        → IsLiveTwo rules tag records stored work disks → CallsTwo records stored work disks new after → IsLiveTwo rules tag records stored new after
    live_called records stored work new disks after live calls = go calls
      where
        next : Option Entry
        next = next_entry records stored

        count : slot_count live.slot ≡ stored
        count = stored_count records stored live.slot live.some live.list

        -- with the same slot
        so : StandsTwo live.slot next new after → AreSpelledFor new.version new.checkpoint records stored → HasPlan rules records new.checkpoint
            → IsLiveTwo rules tag records stored new after
        so stands spelled plan = record {
          slot = live.slot;
          tag_is = live.tag_is;
          list = live.list;
          stands = stands;
          some = live.some;
          few = live.few;
          proper = live.proper;
          spelled = spelled;
          plan = plan;
        }

        -- a checkpoint with the same slot goes on
        moved : (slot : Slot) (fill : Filling) → new ≡ record work { checkpoint = UnderWay slot fill } → StandsTwo live.slot next new after
            → AreSpelledUpTo slot.base work.version slot.head.version records stored → IsListOf rules (take slot.base records) slot
            → IsLiveTwo rules tag records stored new after
        moved slot fill is stands spelled plan =
            so stands (subst (λ (w : SlotWriter). AreSpelledFor w.version w.checkpoint records stored) (sym is) spelled)
            (subst (λ (w : SlotWriter). HasPlan rules records w.checkpoint) (sym is) plan)

        spelled_at : (slot : Slot) (fill : Filling) → work.checkpoint ≡ UnderWay slot fill
            → AreSpelledUpTo slot.base work.version slot.head.version records stored
        spelled_at slot fill is = subst (λ (c : Checkpoint). AreSpelledFor work.version c records stored) is live.spelled

        go : CallsTwo records stored work disks new after → IsLiveTwo rules tag records stored new after
        go (ForRecord slot entry behind calls) =
            let here = calls_too slot live.slot entry work new disks after (behind.count ∙ sym count) calls in
            let is : next ≡ Some entry = ap (option_map plain) behind.next_is in
            let stands = subst (λ (o : Option Entry). StandsTwo live.slot o work disks) is live.stands in
            so (subst (λ (o : Option Entry). StandsTwo live.slot o new after) (sym is)
            (records_keep_standing.called live.slot entry work new disks after stands here))
            (subst (λ (w : SlotWriter). AreSpelledFor w.version w.checkpoint records stored) (sym calls.work_is) live.spelled)
            (subst (λ (w : SlotWriter). HasPlan rules records w.checkpoint) (sym calls.work_is) live.plan)
        go (BeginsCalls slot same_count begins same) =
            let here : BeginsCheckpoint live.slot work disks new = record {
              next = begins.next;
              planned = begins.planned;
              stored = count ∙ sym same_count ∙ begins.stored;
              closed = begins.closed;
              tells = begins.tells;
              work_is = begins.work_is;
            } in
            moved begins.next _ begins.work_is
            (subst (λ (d : Sides DiskState). StandsTwo live.slot next new d) (sym same)
            (checkpoints_keep_standing.begun live.slot next work new disks live.stands here))
            (subst (λ (c : Checkpoint). AreSpelledFor work.version c records stored) begins.planned live.spelled)
            (subst (λ (c : Checkpoint). HasPlan rules records c) begins.planned live.plan)
        go (InCheckpoint calls) =
            moved calls.next _ calls.work_is
            (checkpoints_keep_standing.called live.slot next work new disks after live.stands calls)
            (spelled_at calls.next calls.fill calls.under_way)
            (planned_at records calls.next calls.fill work.checkpoint calls.under_way live.plan)
        go (LastInCheckpoint slot ends) =
            let is = made live.slot slot next Lasts work disks live.stands ends.under_way in
            let base : slot.base ≡ stored = sym is.stored ∙ count in
            record {
              slot = slot;
              tag_is = ap (λ (h : _). h.tag) is.follows.head ∙ live.tag_is;
              list = made_list records stored live.slot slot work.side work.stage Lasts (off work.side disks) count is
                  (planned_at records slot Lasts work.checkpoint ends.under_way live.plan);
              stands = checkpoints_keep_standing.ended live.slot slot next work new disks after live.stands ends;
              some = live.some;
              few = live.few;
              proper = live.proper;
              spelled = subst (λ (w : SlotWriter). AreSpelledFor w.version w.checkpoint records stored) (sym ends.work_is)
                  (subst (λ (n : ℕ). All (IsIn slot.head.version) (drop n records)) base (spelled_at slot Lasts ends.under_way).others);
              plan = subst (λ (w : SlotWriter). HasPlan rules records w.checkpoint) (sym ends.work_is) tt;
            }

    live_stored : (records : List VersionedEntry) (stored : ℕ) (work new : SlotWriter) (disks after : Sides DiskState)
        → IsLiveTwo rules tag records stored work disks → StoresTwo records stored work disks new after → IsLiveTwo rules tag records (stored + 1) new after
    live_stored records stored work new disks after live stores =
        let some = live.some in
        let count = stored_count records stored live.slot live.some live.list in
        let here = stores_too stores.slot live.slot stores.entry work new disks after (stores.next.count ∙ sym count) stores.stores in
        let stands = subst (λ (o : Option Entry). StandsTwo live.slot o work disks) (ap (option_map plain) stores.next.next_is) live.stands in
        let taken = next_taken records stored (work.version, stores.entry) stores.next.next_is in
        let less = taken.0 in
        let proper : All IsPlainEntry (drop (stored + 1) records) = all_less IsPlainEntry records stored live.proper in
        let more : slot_count (with_more live.slot stores.entry) ≡ stored + 1 = omega (arith, count, length-append live.slot.rest (stores.entry ∷ [])) in
        record {
          slot = with_more live.slot stores.entry;
          tag_is = live.tag_is;
          list = stored_more records stored stores.entry live.slot live.list
              (stores.next.next_is ∙ ap (λ (v : Version). Some (v, stores.entry)) live.stands.version);
          stands = records_keep_standing.stored live.slot stores.entry (next_entry records (stored + 1)) work new disks after stands here
              (subst (λ (n : ℕ). CanBeNext n (next_entry records (stored + 1))) (sym more) (can_be_next records (stored + 1) live.few proper));
          some = omega arith;
          few = live.few;
          proper = proper;
          spelled = subst (λ (w : SlotWriter). AreSpelledFor w.version w.checkpoint records (stored + 1)) (sym here.work_is)
              (spelled_less records stored work.version work.checkpoint live.spelled);
          plan = subst (λ (w : SlotWriter). HasPlan rules records w.checkpoint) (sym here.work_is) live.plan;
        }

    failed_safe : (records : List VersionedEntry) (stored : ℕ) (work : SlotWriter) (disks after : Sides DiskState)
        → IsLiveTwo rules tag records stored work disks → FailsTwo records stored work disks after → IsSafe (two_disks rules tag) records stored after
    failed_safe records stored work disks after live (AtRecord slot entry behind fails) =
        let count = stored_count records stored live.slot live.some live.list in
        let here = fails_too slot live.slot entry work disks after (behind.count ∙ sym count) fails in
        let stands = subst (λ (o : Option Entry). StandsTwo live.slot o work disks) (ap (option_map plain) behind.next_is) live.stands in
        let next_of : IsNextOf records stored live.slot.head.version (Some entry) = λ other is.
        behind.next_is ∙ (λ i. Some (live.stands.version i, same_Some entry other is i)) in
        safe_of records stored work disks after live (Some entry) next_of
        (records_keep_standing.failed live.slot entry work disks after stands here)
    failed_safe records stored work disks after live (AtCheckpoint fails) =
        let idle = (made live.slot fails.next (next_entry records stored) fails.fill work disks live.stands fails.under_way).idle in
        safe_of records stored work disks after live None (none_of records stored live.slot.head.version)
        (checkpoints_keep_standing.failed live.slot None work disks after
        (none_next live.slot (next_entry records stored) work disks live.stands idle) fails)

    -- the base of a checkpoint over all the records
    whole_base : (records : List VersionedEntry) (next : Slot) → next.rest ≡ [] → IsListOf rules records next → next.base ≡ length records
    whole_base records next bare list =
        let within = list.within in
        let none : length (drop next.base records) ≡ 0 = ap length (sym list.rest) ∙ ap (λ (es : List Entry). length (in_version next.head.version es)) bare in
        omega (arith, length-drop next.base records)

    -- records below the base are still to be stored, or none is under way
    pub up_to : (records : List VersionedEntry) (stored : ℕ) (work : SlotWriter) (disks : Sides DiskState) (base : ℕ)
        → (live : IsLiveTwo rules tag records stored work disks) → base ≡ length records → IsUpTo (slot_count live.slot) base work.stage
    up_to records stored work disks base live all =
        let some = live.some in
        let count = stored_count records stored live.slot live.some live.list in
        elim (cases_lt stored (length records)) [
          | inl before ↦ inl (omega (arith, count, all, before))
          | inr last ↦ inr (
            omega (arith, count, all, last),
            (subst (λ (o : Option VersionedEntry). KnowsNext work.stage live.stands.front (slot_count live.slot) (option_map plain o) (on work.side disks))
                (slice_get_past records stored last) live.stands.knows).0,
          )
        ]

    live_begun : (records : List VersionedEntry) (stored : ℕ) (work new : SlotWriter) (disks : Sides DiskState) → IsLiveTwo rules tag records stored work disks
        → BeginsTwo rules tag records work new → IsLiveTwo rules tag records stored new disks
    live_begun records stored work new disks live begins =
        let next = begins.plans.next in
        let follows = begins.plans.planned.follows in
        let base = whole_base records next follows.bare begins.list in
        let all : records ≡ take next.base records = sym (take_all next.base records (omega (arith, base))) in
        let planned : PlansCheckpoint live.slot work new = record {
          next = next;
          none = begins.plans.none;
          planned = record {
            follows = record {
              proper = follows.proper;
              head = follows.head ∙ ap (λ (n : ℕ). head_of version.Two n) (begins.tag_is ∙ sym live.tag_is);
              generation = follows.generation ∙ ap (λ (n : ℕ). n + 1) (sym begins.generation ∙ live.stands.generation);
              bare = follows.bare;
            };
            up_to = up_to records stored work disks next.base live base;
          };
          work_is = begins.plans.work_is;
        } in
        record {
          slot = live.slot;
          tag_is = live.tag_is;
          list = live.list;
          stands = checkpoints_keep_standing.planned live.slot (next_entry records stored) work new disks live.stands planned;
          some = live.some;
          few = live.few;
          proper = live.proper;
          spelled = subst (λ (w : SlotWriter). AreSpelledFor w.version w.checkpoint records stored) (sym begins.plans.work_is) (record {
            within = omega (arith, base);
            below = subst (λ (rs : List VersionedEntry). All (IsIn work.version) (drop stored rs)) all
                (subst (λ (c : Checkpoint). AreSpelledFor work.version c records stored) begins.plans.none live.spelled);
            others = subst (λ (rs : List VersionedEntry). All (IsIn next.head.version) rs)
                (sym (drop_all next.base records (omega (arith, base)))) (All-nil (IsIn next.head.version));
          });
          plan = subst (λ (w : SlotWriter). HasPlan rules records w.checkpoint) (sym begins.plans.work_is)
              (subst (λ (rs : List VersionedEntry). IsListOf rules rs next) all begins.list);
        }

    live_opened : (found : List VersionedEntry) (disks after : Sides DiskState) (work : SlotWriter) → HoldsTwo rules tag found (reads_two disks)
        → OpensTwo disks work after → IsLiveTwo rules tag found (length found) work after
    live_opened found disks after work holds opens =
        let finds = openings_find.opened holds.slot disks holds.shows work after opens in
        let count = list_count found holds.slot holds.list in
        let few : length found ≤ 4294967295 = let within = holds.shows.holds.whole.proper.few in omega (arith, count) in
        let none : drop (length found) found ≡ [] = drop_all (length found) found (omega arith) in
        let proper : All IsPlainEntry (drop (length found) found) = subst (λ (rs : List VersionedEntry). All IsPlainEntry rs) (sym none) (All-nil IsPlainEntry) in
        record {
          slot = holds.slot;
          tag_is = holds.tag_is;
          list = subst (λ (rs : List VersionedEntry). IsListOf rules rs holds.slot) (sym (take_all (length found) found (omega arith))) holds.list;
          stands = finds.stands (next_entry found (length found))
              (subst (λ (n : ℕ). CanBeNext n (next_entry found (length found))) (sym count) (can_be_next found (length found) few proper));
          some = omega arith;
          few = few;
          proper = proper;
          spelled = subst (λ (w : SlotWriter). AreSpelledFor w.version w.checkpoint found (length found)) (sym opens.work_is)
              (subst (λ (rs : List VersionedEntry). All (IsIn opens.slot.head.version) rs) (sym none) (All-nil (IsIn opens.slot.head.version)));
          plan = subst (λ (w : SlotWriter). HasPlan rules found w.checkpoint) (sym opens.work_is) tt;
        }

    stopped_safe : (records : List VersionedEntry) (stored : ℕ) (disks after : Sides DiskState) → IsSafe (two_disks rules tag) records stored disks
        → StopsTwo disks after → IsSafe (two_disks rules tag) records stored after
    stopped_safe records stored disks after safe stops = record {
      each = λ left leaves.
          let was = stopped_shows disks after left safe.possible stops leaves in
          let found = safe.each was.before was.could in
          let held = found.1 in (
            found.0,
            record { slot = held.slot; tag_is = held.tag_is; shows = was.shows held.slot held.shows; list = held.list },
            found.2,
          );
      possible = stopped_possible disks after stops;
    }

pub two_disks_keep : {Image Step : Type 0} (rules : Rules Image Step VersionedEntry) (tag : ℕ) → StoreLaws (AreAlike rules) (two_disks rules tag)
two_disks_keep rules tag = record {
  alike = alike rules tag;
  crashed_leaves = λ left other leaves. same_sides other left leaves.0 leaves.1;
  crashed_reads = λ left. (refl, refl);
  live_safe = live_safe rules tag;
  sealed = live_sealed rules tag;
  called = live_called rules tag;
  stores = live_stored rules tag;
  stores_some = λ records stored work next disks after stores. (next_taken records stored (work.version, stores.entry) stores.next.next_is).0;
  failed = failed_safe rules tag;
  begun = live_begun rules tag;
  opened = λ found disks after work possible holds opens. live_opened rules tag found disks after work holds opens;
  can_open = λ found disks holds. openings_find.can_open holds.slot disks holds.shows;
  stopped = stopped_safe rules tag;
}

-- What a slot gives back, and which checkpoints can be planned.
use Rattle.std.proofs.Common.{◌≡◌, ◌∙◌, ◌≤◌, ◌<◌, ℕ, ◌+◌, suc, All, ◌&&◌, Bool, true, false, cond, List, [], ◌∷◌, ◌++◌, length, take, drop, map, refl, ap, sym, subst, arith}
use Rattle.std.specs.Prelude.{nat_le}
use Rattle.std.specs.List.{filter}
use Rattle.std.proofs.lemmas.Bool.{leb-true}
use Rattle.std.proofs.lemmas.List.Elements.{All-drop, All-map, All-nil, filter-append}
use Rattle.std.proofs.lemmas.List.Sums.{count_by-le-length, length-filter}
use Rattle.std.proofs.lemmas.List.{drop_all, length-append, length-map, length-take-le, map-append, take-append-drop, take_all}
use Rattle.ide_disk.specs.Disk.{DiskState}
use Rattle.ide_journal.specs.Format.{Entry, IsEntry, head_of}
use Rattle.ide_journal.specs.declared.version.Version.{Version}
use Rattle.ide_journal.specs.declared.version.Version.TheVariants as version
use Rattle.ide_slots.specs.Sides.{Sides}
use Rattle.ide_slots.specs.Slot.{AreCommands, IsCommandEntry, IsSlot, NumberedEntry, Slot, numbered_from, records_of}
use Rattle.ide_slots.specs.Two.{Planned, SlotWriter}
use Rattle.ide_slots.specs.TwoCalls.{PlansCheckpoint}
use Rattle.ide_slots.proofs.Records.{length-numbered}
use Rattle.ide_store.proofs.TwoDisks.{lead_on, slot_gives, two_disks_keep, up_to}
use Rattle.ide_store.proofs.OneVersion.{plain_again}
use Rattle.ide_store.proofs.World.{one_image}
use Rattle.ide_store.specs.Versioned.{IsPlainEntry, VersionedEntry, in_version, plain}
use Rattle.ide_store.specs.TwoDisks.{GiveTheSame, IsListOf, IsLiveTwo, commands_from, commands_of, unnumbered, is_command}
use Rattle.ide_store.specs.TwoDisksLaws.{ArePartsOf, CheckpointsCanBePlanned, SlotsGiveBack}
use Rattle.ide_store.specs.World.{AreExact, IsFolded, Rules}

without_numbers : (number : ℕ) (entries : List Entry) → map unnumbered (numbered_from number entries) ≡ entries
without_numbers number [] = refl
without_numbers number (entry ∷ entries) = ap (λ (es : List Entry). entry ∷ es) (without_numbers (number + 1) entries)

all_of : (slot : Slot) → map unnumbered (records_of slot) ≡ map unnumbered slot.commands ++ slot.parts ++ slot.rest
all_of slot =
    map-append unnumbered (slot.commands ++ numbered_from 0 slot.parts) (numbered_from slot.base slot.rest)
    ∙ ap (λ (es : List Entry). es ++ map unnumbered (numbered_from slot.base slot.rest)) (map-append unnumbered slot.commands (numbered_from 0 slot.parts))
    ∙ ap (λ (es : List Entry). map unnumbered slot.commands ++ es ++ map unnumbered (numbered_from slot.base slot.rest)) (without_numbers 0 slot.parts)
    ∙ ap (λ (es : List Entry). map unnumbered slot.commands ++ slot.parts ++ es) (without_numbers slot.base slot.rest)

numbered_both : (number : ℕ) (xs ys : List Entry) → numbered_from number (xs ++ ys) ≡ numbered_from number xs ++ numbered_from (number + length xs) ys
numbered_both number [] ys = ap (λ (n : ℕ). numbered_from n ys) (omega arith)
numbered_both number (x ∷ xs) ys =
    let one_more : number + 1 + length xs ≡ number + suc (length xs) = omega arith in
    ap (λ (rs : List NumberedEntry). (number, x) ∷ rs)
    (numbered_both (number + 1) xs ys ∙ ap (λ (n : ℕ). numbered_from (number + 1) xs ++ numbered_from n ys) one_more)

pub commands_both : (number : ℕ) (xs ys : List Entry) → commands_from number (xs ++ ys) ≡ commands_from number xs ++ commands_from (number + length xs) ys
commands_both number xs ys =
    ap (λ (rs : List NumberedEntry). filter is_command rs) (numbered_both number xs ys)
    ∙ filter-append is_command (numbered_from number xs) (numbered_from (number + length xs) ys)

pub slots_give_back : {Image Step : Type 0} (rules : Rules Image Step VersionedEntry) → SlotsGiveBack rules
slots_give_back rules = record {
  images = λ records slot list.
      subst (λ (es : List Entry). GiveTheSame rules (in_version slot.head.version es) records) (sym (all_of slot)) (slot_gives rules records slot list);
  commands = λ records slot list.
      let base = slot.base in
      let first = map plain (take base records) in
      let rest = map plain (drop base records) in
      let from : 0 + length first ≡ base =
      let short = length-take-le base records list.within in omega (arith, length-map (take base records) plain) in
      let same : rest ≡ slot.rest = ap (map plain) (sym list.rest) ∙ plain_again slot.head.version slot.rest in
      ap (λ (rs : List VersionedEntry). commands_of rs) (sym (take-append-drop base records))
      ∙ ap (commands_from 0) (map-append plain (take base records) (drop base records))
      ∙ commands_both 0 first rest
      ∙ ap (λ (n : ℕ). commands_of (take base records) ++ commands_from n rest) from
      ∙ ap (λ (rs : List NumberedEntry). rs ++ commands_from base rest) (sym list.commands)
      ∙ ap (λ (es : List Entry). slot.commands ++ commands_from base es) same;
}

later : (from to base : ℕ) (records : List NumberedEntry) → from ≤ to → AreCommands to base records → AreCommands from base records
later from to base [] le are = tt
later from to base (r ∷ records) le (least, less, command, more) = (omega arith, less, command, more)

ascend_both : (from between base : ℕ) (xs ys : List NumberedEntry) → from ≤ between → between ≤ base → AreCommands from between xs → AreCommands between base ys
    → AreCommands from base (xs ++ ys)
ascend_both from between base [] ys le most are more = later from between base ys le more
ascend_both from between base (r ∷ xs) ys le most (least, less, command, are) more =
    (least, omega arith, command, ascend_both (r.0 + 1) between base xs ys (omega arith) most are more)

entry_first : (entry : Entry) (entries : List Entry) → All IsEntry (entry ∷ entries) → IsEntry entry × All IsEntry entries
entry_first entry entries each = (each 0 entry (omega arith), All-drop IsEntry 1 (entry ∷ entries) each)

second_true : (a b : Bool) → (a && b) ≡ true → b ≡ true
second_true true b is = is
second_true false b is = cc

-- the commands among entries are such that a slot can begin with
commands_among : (number : ℕ) (entries : List Entry) → All IsEntry entries → AreCommands number (number + length entries) (commands_from number entries)
commands_among number [] each = tt
commands_among number (entry ∷ entries) each =
    let first = entry_first entry entries each in
    let rest : AreCommands (number + 1) (number + suc (length entries)) (commands_from (number + 1) entries) =
    subst (λ (n : ℕ). AreCommands (number + 1) n (commands_from (number + 1) entries)) (omega arith) (commands_among (number + 1) entries first.1) in
    go (is_command (number, entry)) refl first.0 rest
  where
    among : (is : Bool) → is_command (number, entry) ≡ is
        → AreCommands number (number + suc (length entries)) (cond is ((number, entry) ∷ commands_from (number + 1) entries) (commands_from (number + 1) entries))
        → AreCommands number (number + suc (length entries)) (commands_from number (entry ∷ entries))
    among is same are =
        subst (λ (b : Bool). AreCommands number (number + suc (length entries)) (cond b ((number, entry) ∷ commands_from (number + 1) entries) (commands_from (number + 1) entries)))
        (sym same) are

    go : (is : Bool) → is_command (number, entry) ≡ is → IsEntry entry → AreCommands (number + 1) (number + suc (length entries)) (commands_from (number + 1) entries)
        → AreCommands number (number + suc (length entries)) (commands_from number (entry ∷ entries))
    go true is proper rest =
        let command : IsCommandEntry entry = record {
          some_kind = proper.some_kind;
          known_kind = leb-true entry.0 2 (second_true (nat_le 1 entry.0) (nat_le entry.0 2) is);
          short = proper.short;
        } in
        among true is (omega arith, omega arith, command, rest)
    go false is proper rest =
        among false is (later number (number + 1) (number + suc (length entries)) (commands_from (number + 1) entries) (omega arith) rest)

more_commands : (records more : List VersionedEntry) → AreCommands 0 (length records) (commands_of records) → All IsPlainEntry more
    → AreCommands 0 (length (records ++ more)) (commands_of (records ++ more))
more_commands records more are proper =
    let first = map plain records in
    let rest = map plain more in
    let count = length-map records plain in
    let long : length records + length rest ≡ length (records ++ more) = omega (arith, length-append records more, length-map more plain) in
    let among : AreCommands (length records) (length (records ++ more)) (commands_from (length records) rest) =
    subst (λ (n : ℕ). AreCommands (length records) n (commands_from (length records) rest)) long
    (commands_among (length records) rest (all_plain more proper)) in
    let from : length records ≡ 0 + length first = omega (arith, count) in
    let both : commands_of records ++ commands_from (length records) rest ≡ commands_of (records ++ more) =
    ap (λ (n : ℕ). commands_of records ++ commands_from n rest) from ∙ sym (commands_both 0 first rest)
    ∙ ap (commands_from 0) (sym (map-append plain records more)) in
    subst (λ (rs : List NumberedEntry). AreCommands 0 (length (records ++ more)) rs) both
    (ascend_both 0 (length records) (length (records ++ more)) (commands_of records) (commands_from (length records) rest) (omega arith)
    (omega (arith, length-append records more)) are among)
  where
    all_plain : (rs : List VersionedEntry) → All IsPlainEntry rs → All IsEntry (map plain rs)
    all_plain rs all = All-map IsEntry plain rs all

module _ {Image Step : Type 0} (rules : Rules Image Step VersionedEntry) (tag : ℕ) where
  -- those among all the records
  all_commands : (records : List VersionedEntry) (stored : ℕ) (work : SlotWriter) (disks : Sides DiskState) → IsLiveTwo rules tag records stored work disks
      → AreCommands 0 (length records) (commands_of records)
  all_commands records stored work disks live =
      let early : List VersionedEntry = take stored records in
      let base = live.slot.base in
      let within = live.list.within in
      let proper = live.stands.whole.proper in
      let first : AreCommands 0 (length (take base early)) (commands_of (take base early)) =
      subst (λ (n : ℕ). AreCommands 0 n (commands_of (take base early))) (sym (length-take-le base early within))
      (subst (λ (rs : List NumberedEntry). AreCommands 0 base rs) live.list.commands proper.commands) in
      let rest : All IsPlainEntry (drop base early) =
      subst (λ (rs : List VersionedEntry). All IsPlainEntry rs) live.list.rest (all_versioned live.slot.head.version live.slot.rest proper.rest) in
      let both : AreCommands 0 (length early) (commands_of early) =
      subst (λ (rs : List VersionedEntry). AreCommands 0 (length rs) (commands_of rs)) (take-append-drop base early)
      (more_commands (take base early) (drop base early) first rest) in
      subst (λ (rs : List VersionedEntry). AreCommands 0 (length rs) (commands_of rs)) (take-append-drop stored records)
      (more_commands early (drop stored records) both live.proper)
    where
      all_versioned : (version : Version) (es : List Entry) → All IsEntry es → All IsPlainEntry (in_version version es)
      all_versioned version es all = All-map IsPlainEntry (λ (e : Entry). (version, e)) es all

  -- the commands and such parts give back the image of all the records
  pub parts_give : AreExact rules → (records : List VersionedEntry) (parts : List Entry) → ArePartsOf rules records parts
      → GiveTheSame rules (in_version version.Two (map unnumbered (commands_of records) ++ parts)) records
  parts_give exact records parts are image =
      let all : List VersionedEntry = in_version version.Two (map unnumbered (commands_of records) ++ parts) in
      let both : IsFolded rules all are.now =
      subst (λ (rs : List VersionedEntry). IsFolded rules rs are.now)
      (sym (map-append (λ (e : Entry). (version.Two, e)) (map unnumbered (commands_of records)) parts))
      (lead_on rules (in_version version.Two (map unnumbered (commands_of records))) (in_version version.Two parts) rules.empty are.before are.now
      are.commands are.lead) in (
        λ folded. subst (λ (i : Image). IsFolded rules records i) (one_image rules exact (two_disks_keep rules tag) all rules.empty are.now image both folded) are.whole,
        λ folded. subst (λ (i : Image). IsFolded rules all i) (one_image rules exact (two_disks_keep rules tag) records rules.empty are.now image are.whole folded) both,
      )

  few_commands : (records : List VersionedEntry) → length (commands_of records) ≤ length records
  few_commands records =
      let count = length-filter is_command (numbered_from 0 (map plain records)) in
      let most = count_by-le-length is_command (numbered_from 0 (map plain records)) in
      let long = length-numbered 0 (map plain records) in
      let same = length-map records plain in
      omega arith

pub checkpoints_can_be_planned : {Image Step : Type 0} (rules : Rules Image Step VersionedEntry) → AreExact rules → CheckpointsCanBePlanned rules
checkpoints_can_be_planned rules exact tag records parts stored work disks live none least are =
    let next : Slot = record {
      head = head_of version.Two tag;
      generation = work.generation + 1;
      base = length records;
      commands = commands_of records;
      parts = parts;
      rest = [];
    } in
    let few = few_commands rules tag records in
    let most = live.few in
    let whole = sym (take_all (length records) records (omega arith)) in
    let proper : IsSlot next = record {
      valid = record {
        tag = subst (λ (n : ℕ). 0 < n) live.tag_is live.stands.whole.proper.valid.tag;
        generation = omega arith;
        base = live.few;
        commands = omega arith;
        parts = are.few;
        first = λ zero. absurd (omega (arith, zero));
        later = λ later. are.some;
      };
      commands = all_commands rules tag records stored work disks live;
      parts = are.proper;
      rest = All-nil IsEntry;
      few = omega arith;
    } in
    let list : IsListOf rules records next = record {
      within = omega arith;
      commands = ap commands_of whole;
      image = subst (λ (rs : List VersionedEntry). GiveTheSame rules (in_version version.Two (map unnumbered (commands_of records) ++ parts)) rs) whole
          (parts_give rules tag exact records parts are);
      rest = sym (drop_all (length records) records (omega arith));
    } in
    let plans : PlansCheckpoint live.slot work (record work { checkpoint = Planned next }) = record {
      next = next;
      none = none;
      planned = record {
        follows = record {
          proper = proper;
          head = ap (λ (n : ℕ). head_of version.Two n) (sym live.tag_is);
          generation = ap (λ (n : ℕ). n + 1) live.stands.generation;
          bare = refl;
        };
        up_to = up_to rules tag records stored work disks (length records) live refl;
      };
      work_is = refl;
    } in (
      record work { checkpoint = Planned next },
      record { slot = live.slot; tag_is = live.tag_is; generation = live.stands.generation; plans = plans; list = list },
    )

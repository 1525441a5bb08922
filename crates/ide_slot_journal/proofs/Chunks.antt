-- The bytes of a checkpoint, one record after another.
use Rattle.std.specs.Prelude.{◌≡◌, ℕ, ◌+◌, ◌<◌, map, List, [], ◌∷◌, ◌++◌, length, take, refl}
use Rattle.std.specs.List.{All}
use Rattle.std.proofs.Common.{add-zero, arith, sym, ap, subst, ◌∙◌, get_or}
use Rattle.std.proofs.lemmas.List.{append_assoc, append-nil, get_or-append-add, get_or_append_left, length-append, length-map, length-take, map-append, take_more}
use Rattle.std.proofs.lemmas.List.Elements.{All-cons, All-head, All-nil, All-tail}
use Rattle.ide_journal.specs.Format.{Entry}
use Rattle.ide_journal.specs.Lists.{entries_of, entry_of}
use Rattle.ide_journal.specs.declared.record.RawRecord.{RawRecord}
use Rattle.ide_slots.specs.Filling.{chunks, with_gate}
use Rattle.ide_slots.specs.Records.{all_numbered, numbered}
use Rattle.ide_slots.specs.Slot.{AreCommands, IsPartEntry, NumberedEntry, numbered_from}
use Rattle.ide_slots.specs.declared.record.NumberedRecord.{NumberedRecord}
use Rattle.ide_slot_journal.specs.Planning.{HasShortBody, HasShortRecord}

-- all gates are open but for the last one
pub chunks_push : (records : List NumberedEntry) (r : NumberedEntry) → chunks (records ++ r ∷ []) ≡ map (with_gate 1) records ++ with_gate 0 r ∷ []
chunks_push [] r = refl
chunks_push (s ∷ []) r = refl
chunks_push (s ∷ (t ∷ records)) r = ap (λ (rest : List (List ℕ)). with_gate 1 s ∷ rest) (chunks_push (t ∷ records) r)

pub numbered_push : (number : ℕ) (entries : List Entry) (entry : Entry)
    → numbered_from number (entries ++ entry ∷ []) ≡ numbered_from number entries ++ (number + length entries, entry) ∷ []
numbered_push number [] entry = ap (λ (n : ℕ). (n, entry) ∷ []) (sym (add-zero number))
numbered_push number (first ∷ entries) entry =
    ap (λ (rest : List NumberedEntry). (number, first) ∷ rest) (numbered_push (number + 1) entries entry
    ∙ ap (λ (n : ℕ). numbered_from (number + 1) entries ++ (n, entry) ∷ []) (omega arith))

-- one command more is spelled
pub command_more : (xs : List NumberedRecord) (k : ℕ) (x : NumberedRecord) (before now after : List (List ℕ)) → k < length xs → x ≡ get_or xs k x
    → now ≡ before ++ map (with_gate 1) (all_numbered (take k xs)) → after ≡ now ++ with_gate 1 (numbered x) ∷ []
    → after ≡ before ++ map (with_gate 1) (all_numbered (take (k + 1) xs))
command_more xs k x before now after within is so next =
    let more : take (k + 1) xs ≡ take k xs ++ x ∷ [] = take_more xs k x within ∙ ap (λ (y : NumberedRecord). take k xs ++ y ∷ []) (sym is) in
    let numbered_more : map (with_gate 1) (all_numbered (take (k + 1) xs)) ≡ map (with_gate 1) (all_numbered (take k xs)) ++ with_gate 1 (numbered x) ∷ [] =
    ap (λ (ys : List NumberedRecord). map (with_gate 1) (all_numbered ys)) more
    ∙ ap (map (with_gate 1)) (map-append numbered (take k xs) (x ∷ []))
    ∙ map-append (with_gate 1) (all_numbered (take k xs)) (numbered x ∷ []) in
    next ∙ ap (λ (ys : List (List ℕ)). ys ++ with_gate 1 (numbered x) ∷ []) so
    ∙ append_assoc before (map (with_gate 1) (all_numbered (take k xs))) (with_gate 1 (numbered x) ∷ [])
    ∙ ap (λ (ys : List (List ℕ)). before ++ ys) (sym numbered_more)

-- one part more
pub part_more : (xs : List RawRecord) (k : ℕ) (x : RawRecord) (before now after : List (List ℕ)) → k < length xs → x ≡ get_or xs k x
    → now ≡ before ++ map (with_gate 1) (numbered_from 0 (entries_of (take k xs))) → after ≡ now ++ with_gate 1 (k, entry_of x) ∷ []
    → after ≡ before ++ map (with_gate 1) (numbered_from 0 (entries_of (take (k + 1) xs)))
part_more xs k x before now after within is so next =
    let front : List NumberedEntry = numbered_from 0 (entries_of (take k xs)) in
    let more : take (k + 1) xs ≡ take k xs ++ x ∷ [] = take_more xs k x within ∙ ap (λ (y : RawRecord). take k xs ++ y ∷ []) (sym is) in
    let size : length (entries_of (take k xs)) ≡ k = length-map (take k xs) entry_of ∙ omega (arith, length-take k xs, within) in
    let numbered_more : numbered_from 0 (entries_of (take (k + 1) xs)) ≡ front ++ (k, entry_of x) ∷ [] =
    ap (λ (ys : List RawRecord). numbered_from 0 (entries_of ys)) more
    ∙ ap (numbered_from 0) (map-append entry_of (take k xs) (x ∷ []))
    ∙ numbered_push 0 (entries_of (take k xs)) (entry_of x)
    ∙ ap (λ (n : ℕ). front ++ (n, entry_of x) ∷ []) (omega (arith, size)) in
    next ∙ ap (λ (ys : List (List ℕ)). ys ++ with_gate 1 (k, entry_of x) ∷ []) so
    ∙ append_assoc before (map (with_gate 1) front) (with_gate 1 (k, entry_of x) ∷ [])
    ∙ ap (λ (ys : List (List ℕ)). before ++ ys) (sym (ap (map (with_gate 1)) numbered_more ∙ map-append (with_gate 1) front ((k, entry_of x) ∷ [])))

-- what holds of all holds of all before the last one, and of the last one
pub all_front : {X : Type 0} (P : X → Type 0) (xs : List X) (x : X) → All P (xs ++ x ∷ []) → All P xs
all_front P xs x all = λ k d inside.
    subst P (get_or_append_left xs (x ∷ []) d k inside) (all k d (omega (arith, inside, length-append xs (x ∷ []))))

pub all_last : {X : Type 0} (P : X → Type 0) (xs : List X) (x : X) → All P (xs ++ x ∷ []) → P x
all_last P xs x all =
    subst P (get_or-append-add xs (x ∷ []) 0 x) (subst (λ (n : ℕ). P (get_or (xs ++ x ∷ []) n x)) (sym (add-zero (length xs)))
    (all (length xs) x (omega (arith, length-append xs (x ∷ [])))))

-- where parts stand, the last of them is spelled last
pub parts_spelled : (commands : List NumberedRecord) (parts front : List RawRecord) (last : RawRecord) (empty first second third : List (List ℕ)) (n : ℕ)
    → parts ≡ front ++ last ∷ [] → n ≡ length front → empty ≡ [] → first ≡ empty ++ map (with_gate 1) (all_numbered commands)
    → second ≡ first ++ map (with_gate 1) (numbered_from 0 (entries_of front)) → third ≡ second ++ with_gate 0 (n, entry_of last) ∷ []
    → third ≡ chunks (all_numbered commands ++ numbered_from 0 (entries_of parts))
parts_spelled commands parts front last empty first second third n parts_are count is_empty one two three =
    let before : List NumberedEntry = all_numbered commands ++ numbered_from 0 (entries_of front) in
    let opened : second ≡ map (with_gate 1) before =
    two ∙ ap (λ (ys : List (List ℕ)). ys ++ map (with_gate 1) (numbered_from 0 (entries_of front)))
    (one ∙ ap (λ (ys : List (List ℕ)). ys ++ map (with_gate 1) (all_numbered commands)) is_empty)
    ∙ sym (map-append (with_gate 1) (all_numbered commands) (numbered_from 0 (entries_of front))) in
    let numbers : numbered_from 0 (entries_of parts) ≡ numbered_from 0 (entries_of front) ++ (n, entry_of last) ∷ [] =
    ap (λ (ys : List RawRecord). numbered_from 0 (entries_of ys)) parts_are
    ∙ ap (numbered_from 0) (map-append entry_of front (last ∷ []))
    ∙ numbered_push 0 (entries_of front) (entry_of last)
    ∙ ap (λ (k : ℕ). numbered_from 0 (entries_of front) ++ (k, entry_of last) ∷ []) (omega (arith, length-map front entry_of, count)) in
    three ∙ ap (λ (ys : List (List ℕ)). ys ++ with_gate 0 (n, entry_of last) ∷ []) opened
    ∙ sym (chunks_push before (n, entry_of last))
    ∙ ap chunks (append_assoc (all_numbered commands) (numbered_from 0 (entries_of front)) ((n, entry_of last) ∷ []))
    ∙ ap (λ (ys : List NumberedEntry). chunks (all_numbered commands ++ ys)) (sym numbers)

-- where there is none, the last command
pub commands_spelled : (commands front : List NumberedRecord) (parts : List RawRecord) (last : NumberedRecord) (empty first second : List (List ℕ)) (n : ℕ)
    → n ≡ last.number → commands ≡ front ++ last ∷ [] → length parts ≡ 0 → empty ≡ [] → first ≡ empty ++ map (with_gate 1) (all_numbered front)
    → second ≡ first ++ with_gate 0 (n, entry_of last.raw) ∷ []
    → second ≡ chunks (all_numbered commands ++ numbered_from 0 (entries_of parts))
commands_spelled commands front [] last empty first second n same commands_are none is_empty one two =
    two ∙ ap (λ (k : ℕ). first ++ with_gate 0 (k, entry_of last.raw) ∷ []) same ∙ ap (λ (ys : List (List ℕ)). ys ++ with_gate 0 (numbered last) ∷ [])
    (one ∙ ap (λ (ys : List (List ℕ)). ys ++ map (with_gate 1) (all_numbered front)) is_empty)
    ∙ sym (chunks_push (all_numbered front) (numbered last))
    ∙ ap chunks (sym (map-append numbered front (last ∷ [])) ∙ ap all_numbered (sym commands_are) ∙ sym (append-nil (all_numbered commands)))
commands_spelled commands front (part ∷ parts) last empty first second n same commands_are none is_empty one two = absurd (omega (arith, none))

-- the bodies of commands and of parts are short
pub commands_short : (from base : ℕ) (commands : List NumberedRecord) → AreCommands from base (all_numbered commands) → All HasShortRecord commands
commands_short from base [] are = All-nil HasShortRecord
commands_short from base (r ∷ commands) are = All-cons HasShortRecord r commands are.2.short (commands_short (r.number + 1) base commands are.3)

pub parts_short : (parts : List RawRecord) → All IsPartEntry (entries_of parts) → All HasShortBody parts
parts_short [] are = All-nil HasShortBody
parts_short (raw ∷ parts) are =
    All-cons HasShortBody raw parts (All-head IsPartEntry (entry_of raw) (entries_of parts) are).short (parts_short parts (All-tail IsPartEntry (entry_of raw) (entries_of parts) are))

-- From the bytes of one record to the list of records.
use Rattle.std.specs.Prelude.{◌≡◌, ◌≢◌, ◌⊎◌, ℕ, ◌+◌, ◌≤◌, List, [], ◌∷◌, ◌++◌, length, refl}
use Rattle.std.proofs.Common.{arith, sym, ap, subst, ◌∙◌, inl, inr}
use Rattle.std.proofs.lemmas.List.{append_assoc, append-nil, length-append}
use Rattle.ide_disk.specs.Disk.{DiskState, CrashLeaves, settled}
use Rattle.ide_disk.specs.declared.disk.Disk.{Ghosts}
use Rattle.ide_journal.specs.Bytes.{Knows}
use Rattle.ide_journal.specs.Format.{Entry, Head, header, after_gate, IsEntry, IsPages, Holds}
use Rattle.ide_journal.specs.Lists.{HoldsWithOrWithout, HoldsAt, IsAtRest, IsUnderWay}
use Rattle.ide_journal.specs.Stands.{IsIdle, Moves}
use Rattle.ide_journal.specs.declared.journal.Journal.{Journal}
use Rattle.ide_journal.specs.declared.stage.Stage.{Stage}
use Rattle.ide_journal.specs.declared.stage.Stage.TheVariants.{Idle, Begun, Written, BodySynced, GateWritten, Failed}
use Rattle.ide_journal.proofs.Left.{left_in}
use Rattle.ide_journal.proofs.Lists.{pages_push, holds_before, holds_either, holds_after}

-- what a crash leaves where a record is under way
pub under_way_left : {D : Type 0} {G : Ghosts D} (head : Head) (entries : List Entry) (entry : Entry) (journal : Journal D G)
    → IsUnderWay head entries entry journal → (left : List ℕ) → CrashLeaves (G.state journal.disk) left → HoldsWithOrWithout head entries entry left
under_way_left head entries entry journal under left leaves =
    holds_either head entries entry under.pages left under.whole under.proper (omega (arith, under.next, journal.numbered))
    (left_in journal.stage _ _ _ under.stands.some under.stands.knows left leaves)

-- what a crash leaves after one more call
pub moved_left : {D : Type 0} {G : Ghosts D} (head : Head) (entries : List Entry) (entry : Entry) (old new : Journal D G)
    → (under : IsUnderWay head entries entry old) → Moves (header head ++ under.pages) (after_gate (length entries) entry ++ 0 ∷ []) new
    → (left : List ℕ) → CrashLeaves (G.state new.disk) left → HoldsWithOrWithout head entries entry left
moved_left head entries entry old new under moves left leaves =
    elim moves [
      | inl stays ↦ holds_either head entries entry under.pages left under.whole under.proper (omega (arith, under.next, old.numbered))
          (left_in new.stage _ _ _ stays.0.some stays.0.knows left leaves)
      | inr stored ↦ inr (holds_after head entries entry under.pages left under.whole under.proper (omega (arith, under.next, old.numbered))
          (record {
            gate = 1;
            rest = [];
            opened = λ same. absurd (omega (arith, same));
            split = subst (λ (d : DiskState). CrashLeaves d left) stored.disk leaves ∙ sym (append-nil _);
          }))
    ]

one_page_rest : (header pages behind : List ℕ) → (header ++ pages) ++ 1 ∷ (behind ++ 0 ∷ []) ≡ header ++ (pages ++ 1 ∷ behind) ++ 0 ∷ []
one_page_rest header pages behind = simp append_assoc

-- the record is stored, or stays under way
pub moved : {D : Type 0} {G : Ghosts D} (head : Head) (entries : List Entry) (entry : Entry) (old new : Journal D G)
    → (under : IsUnderWay head entries entry old) → Moves (header head ++ under.pages) (after_gate (length entries) entry ++ 0 ∷ []) new
    → ((IsIdle new → ⊥) → new.count ≡ old.count) → new.next ≡ old.next → new.version ≡ old.version
    → IsAtRest head (entries ++ entry ∷ []) new ⊎ IsUnderWay head entries entry new
moved head entries entry old new under moves count next version =
    elim moves [
      | inl stays ↦ inr (record {
        pages = under.pages;
        whole = under.whole;
        proper = under.proper;
        count = count stays.1 ∙ under.count;
        next = next ∙ under.next;
        version = version ∙ under.version;
        busy = stays.1;
        stands = stays.0;
      })
      | inr stored ↦ inl (record {
        pages = under.pages ++ 1 ∷ after_gate (length entries) entry;
        whole = subst (λ (n : ℕ). IsPages 0 (entries ++ entry ∷ []) (under.pages ++ 1 ∷ after_gate n entry)) (omega arith)
            (pages_push 0 entries entry under.pages 1 under.whole (λ same. absurd (omega (arith, same))) under.proper);
        gate = omega (
          arith,
          stored.gate,
          length-append (header head) under.pages,
          length-append (after_gate (length entries) entry) (0 ∷ []),
          length-append (header head) (under.pages ++ 1 ∷ after_gate (length entries) entry),
          length-append under.pages (1 ∷ after_gate (length entries) entry),
        );
        count = omega (arith, stored.count, next, under.next, length-append entries (entry ∷ []));
        next = omega (arith, next, under.next, length-append entries (entry ∷ []));
        version = version ∙ under.version;
        stage = stored.stage;
        disk = stored.disk ∙ ap settled (one_page_rest (header head) under.pages (after_gate (length entries) entry));
      })
    ]

-- what a read gives where a record is under way
stage_holds : (stage : Stage) (head : Head) (entries : List Entry) (entry : Entry) (pages : List ℕ) (disk : DiskState) → IsPages 0 entries pages → IsEntry entry
    → length entries + 1 ≤ 4294967295 → stage ≢ Idle → Knows stage (header head ++ pages) (after_gate (length entries) entry ++ 0 ∷ []) disk
    → CrashLeaves disk disk.now → HoldsAt stage head entries entry disk.now
stage_holds Idle head entries entry pages disk whole proper few busy knows possible = absurd (busy refl)
stage_holds Begun head entries entry pages disk whole proper few busy knows possible =
    holds_before head entries pages disk.now whole (omega arith) (record { rest = []; split = ap (λ (d : DiskState). d.now) knows })
stage_holds Written head entries entry pages disk whole proper few busy knows possible =
    holds_before head entries pages disk.now whole (omega arith)
    (record { rest = after_gate (length entries) entry ++ 0 ∷ []; split = ap (λ (d : DiskState). d.now) knows })
stage_holds BodySynced head entries entry pages disk whole proper few busy knows possible =
    holds_before head entries pages disk.now whole (omega arith)
    (record { rest = after_gate (length entries) entry ++ 0 ∷ []; split = ap (λ (d : DiskState). d.now) knows })
stage_holds GateWritten head entries entry pages disk whole proper few busy knows possible =
    holds_after head entries entry pages disk.now whole proper few
    (record { gate = 1; rest = []; opened = λ same. absurd (omega (arith, same)); split = ap (λ (d : DiskState). d.now) knows ∙ sym (append-nil _) })
stage_holds Failed head entries entry pages disk whole proper few busy knows possible =
    holds_either head entries entry pages disk.now whole proper few (knows disk.now possible)

pub under_way_holds : {D : Type 0} {G : Ghosts D} (head : Head) (entries : List Entry) (entry : Entry) (journal : Journal D G)
    → IsUnderWay head entries entry journal → CrashLeaves (G.state journal.disk) (G.state journal.disk).now
    → HoldsAt journal.stage head entries entry (G.state journal.disk).now
under_way_holds {D} {G} head entries entry journal under possible =
    stage_holds journal.stage head entries entry under.pages _ under.whole under.proper (omega (arith, under.next, journal.numbered)) under.busy under.stands.knows possible

pub at_rest_holds : {D : Type 0} {G : Ghosts D} (head : Head) (entries : List Entry) (journal : Journal D G) → IsAtRest head entries journal
    → Holds head entries (G.state journal.disk).now
at_rest_holds head entries journal rest =
    holds_before head entries rest.pages _ rest.whole (omega (arith, rest.next, journal.numbered))
    (record { rest = []; split = ap (λ (d : DiskState). d.now) rest.disk })

-- what a read gives after one more call
pub moved_holds : {D : Type 0} {G : Ghosts D} (head : Head) (entries : List Entry) (entry : Entry) (new : Journal D G)
    → IsAtRest head (entries ++ entry ∷ []) new ⊎ IsUnderWay head entries entry new
    → CrashLeaves (G.state new.disk) (G.state new.disk).now → HoldsAt new.stage head entries entry (G.state new.disk).now
moved_holds {D} {G} head entries entry new moves possible =
    elim moves [
      | inl rest ↦ subst (λ (s : Stage). HoldsAt s head entries entry (G.state new.disk).now) (sym rest.stage) (at_rest_holds head (entries ++ entry ∷ []) new rest)
      | inr under ↦ under_way_holds head entries entry new under possible
    ]

-- What the table's desk keeps from call to call: acts of the half that works lead on from the world on which it works.
use Rattle.std.proofs.Common.{◌≡◌, ◌∙◌, ◌+◌, ◌≤◌, ◌++◌, ◌<◌, ℕ, true, false, List, [], ◌∷◌, Option, None, Some, Result, Ok, Err, length, map, refl, ap, sym, subst, arith, inl, inr}
use Rattle.std.proofs.Math.Logic.{∥∥₁_map}
use Rattle.std.specs.Prelude.{IfOk, OnErr, OnOk}
use Rattle.std.proofs.lemmas.List.{append_assoc, length-append, map-append}
use Rattle.ide_board.specs.Records.{Marked, TableView}
use Rattle.ide_journal.specs.Format.{Entry}
use Rattle.ide_journal.specs.declared.version.Version.{Version}
use Rattle.ide_steps.specs.Claiming.{FindsIdle, FindsQuiet, IfTask}
use Rattle.ide_steps.specs.Drain.{HasDonePart}
use Rattle.ide_steps.specs.Frozen.{graph_in, program_in}
use Rattle.ide_steps.specs.Room.{IsGraphSaid, IsWholeCore}
use Rattle.ide_steps.specs.State.{claim_of}
use Rattle.ide_steps.specs.Steps.{FindsNone}
use Rattle.ide_steps.specs.declared.claim.Claimed.{Claimed}
use Rattle.ide_steps.specs.declared.claim.Claimed.TheVariants.{Idle, Quiet, Task}
use Rattle.ide_steps.specs.declared.closed.Closed.{Closed}
use Rattle.ide_steps.specs.declared.part.Parted.{Parted}
use Rattle.ide_steps.specs.declared.part.Parted.TheVariants.{Lowered, NoPart, Same}
use Rattle.ide_tasks.specs.Parts.{owed}
use Rattle.ide_tasks.specs.Work.{WorkData}
use Rattle.ide_text.specs.Value.{ProgramValue}
use Rattle.ide_wire.specs.declared.refused.Refused.{Refused}
use Rattle.ide_store.proofs.Drained.{unchanged_equal, works_unchanged}
use Rattle.ide_store.proofs.Runs.{WorksFrom, act_goes, works_go}
use Rattle.ide_store.specs.Draining.{StopsBy, WorksBy}
use Rattle.ide_store.specs.Freezing.{IsImageOver}
use Rattle.ide_store.specs.Hands.{Claims, Ends, Parts, Releases}
use Rattle.ide_store.specs.Places.{OnTwoDisks, Place}
use Rattle.ide_store.specs.Runs.{IsImageOfRun, IsOfTable}
use Rattle.ide_store.specs.Table.{Analysis, IsAct, IsSameTable, KeepsRest, StoreAct, TableData}
use Rattle.ide_store.specs.TableCalls.{BeginsRoot, DoesPart, EndsClaim, FindsNothing, GivesClaimBack, LoadsProgram, SealsOne, TakesTask, behind_first}
use Rattle.ide_desks.specs.Desks.{CountsSealed, IsTableDesk, last_but_one, last_but_sealed, last_entry, last_sealed, with_last, with_last_two}
use Rattle.ide_store.specs.TwoDisks.{sealing_version}
use Rattle.ide_store.specs.Versioned.{VersionedEntry, in_version}
use Rattle.ide_desks.specs.Keeping.{WorksOnRun, handed_of}
use Rattle.ide_desks.specs.Orders.{SpellsLoad, SpellsRoot}
use Rattle.ide_desks.proofs.Lists.{handed_more, last_but_pushed, last_of_two, last_pushed, record_of, waiting_more}

module _ {F L : Type 0} (a : Analysis F L) (tag : ℕ) (version : Version) (handed : List VersionedEntry) (old new : TableData F) where
  -- acts of the half that works leave the writer, and so the version in which records are sealed
  still_version : (on : WorksOnRun a tag version old handed) → WorksFrom a (OnTwoDisks tag) on.world new handed → new.version ≡ version
  still_version on goes = goes.works.version ∙ ap sealing_version goes.below.work ∙ sym on.works.version ∙ on.version_is

  pub acted : (act : (place : Place) → StoreAct a place) → ((place : Place) → IsOfTable a place (act place)) → IsAct a old new act
      → WorksOnRun a tag version old handed → WorksOnRun a tag version new handed
  acted act of is on =
      let goes = act_goes a old new act of is (OnTwoDisks tag) on.world handed on.reached on.works in
      record { version_is = still_version on goes; world = goes.world; reached = goes.reached; works = goes.works }

  worked_by : (claims releases : ℕ) → WorksBy a old new claims releases → WorksOnRun a tag version old handed → WorksOnRun a tag version new handed
  worked_by claims releases by on =
      let goes = works_go a old new claims releases by (OnTwoDisks tag) on.world handed on.reached on.works in
      record { version_is = still_version on goes; world = goes.world; reached = goes.reached; works = goes.works }

  pub stayed : IsSameTable old new → WorksOnRun a tag version old handed → WorksOnRun a tag version new handed
  stayed same = worked_by 0 0 (works_unchanged a old new same.rest same.core)

  pub same_core : new.core ≡ old.core → KeepsRest old new → WorksOnRun a tag version old handed → WorksOnRun a tag version new handed
  same_core is rest = worked_by 0 0 (works_unchanged a old new rest (unchanged_equal old.core new.core is))

  pub found_nothing : FindsNothing a old new → WorksOnRun a tag version old handed → WorksOnRun a tag version new handed
  found_nothing finds on =
      let works = (finds.caught_up (OnTwoDisks tag) on.world handed on.reached on.works).1 in
      record { version_is = works.version ∙ sym on.works.version ∙ on.version_is; world = on.world; reached = on.reached; works = works }

  -- ---- what a call answers tells how it goes on
  pub claimed : {Q : Type 0} (result : Result (Claimed Q L F) Refused) (hand : ℕ) → IfTask result (TakesTask a hand old new)
      → (result ≡ Ok Idle → FindsIdle old.core new.core) → (result ≡ Ok Quiet → FindsQuiet old.core new.core) → KeepsRest old new
      → OnErr result (IsSameTable old new) → WorksOnRun a tag version old handed → WorksOnRun a tag version new handed
  claimed (Ok (Task task)) hand takes idle quiet rest unchanged =
      acted (λ place. Claims hand task.key (owed a.functions a.targets task)) (λ place. tt) (takes task refl)
  claimed (Ok Idle) hand takes idle quiet rest unchanged = same_core (idle refl).waits rest
  claimed (Ok Quiet) hand takes idle quiet rest unchanged = same_core (quiet refl).nothing rest
  claimed (Err refused) hand takes idle quiet rest unchanged = stayed unchanged

  pub parted : (result : Result Parted Refused) (hand : ℕ) (work after : WorkData F) → (HasDonePart result → DoesPart a hand old new work after)
      → (result ≡ Ok NoPart → FindsNone old.core new.core work after) → KeepsRest old new
      → OnErr result (IsSameTable old new × (after ≡ work)) → WorksOnRun a tag version old handed → WorksOnRun a tag version new handed
  parted (Ok Lowered) hand work after does none rest unchanged =
      let part = does (inl refl) in acted (λ place. Parts hand part.part.0 part.part.1) (λ place. tt) part.act
  parted (Ok Same) hand work after does none rest unchanged =
      let part = does (inr refl) in acted (λ place. Parts hand part.part.0 part.part.1) (λ place. tt) part.act
  parted (Ok NoPart) hand work after does none rest unchanged = same_core (none refl).1 rest
  parted (Err refused) hand work after does none rest unchanged = stayed unchanged.0

  pub finished : {T : Type 0} (result : Result T Refused) (hand : ℕ) → OnOk result (EndsClaim a hand old new) → OnErr result (IsSameTable old new)
      → WorksOnRun a tag version old handed → WorksOnRun a tag version new handed
  finished (Ok x) hand ends unchanged = acted (λ place. Ends hand (claim_of a.functions a.targets ends.held)) (λ place. tt) ends.act
  finished (Err refused) hand ends unchanged = stayed unchanged

  pub drained : StopsBy a old new → WorksOnRun a tag version old handed → WorksOnRun a tag version new handed
  drained (claims, releases, few, by) = worked_by claims releases by

  pub released : {T : Type 0} (result : Result T Refused) (hand : ℕ) → OnOk result (GivesClaimBack a hand old new) → OnErr result (IsSameTable old new)
      → WorksOnRun a tag version old handed → WorksOnRun a tag version new handed
  released (Ok x) hand gives unchanged = acted (λ place. Releases hand) (λ place. tt) gives
  released (Err refused) hand gives unchanged = stayed unchanged

-- ---- what the desk keeps, where the seat stays
module _ {F L : Type 0} (a : Analysis F L) (tag : ℕ) (version : Version) (first : List VersionedEntry) (old new : TableData F)
    (seat after : TableView VersionedEntry) where
  pub kept_on : IsTableDesk a tag version first old seat → KeepsRest old new → after ≡ seat
      → ((handed : List VersionedEntry) → WorksOnRun a tag version old handed → WorksOnRun a tag version new handed) → IsTableDesk a tag version first new after
  kept_on kept rest same goes = subst (IsTableDesk a tag version first new) (sym same) (record {
    begun = kept.begun;
    waits = ap (in_version version) rest.waiting ∙ kept.waits;
    run = λ working. goes (handed_of first seat) (kept.run (sym rest.failed ∙ working));
  })

  -- where it is told of a failure, nothing more is
  pub kept_stopped : IsTableDesk a tag version first old seat → new ≡ record old { failed = true } → after ≡ seat → IsTableDesk a tag version first new after
  kept_stopped kept is same = subst (IsTableDesk a tag version first new) (sym same) (record {
    begun = kept.begun;
    waits = ap (λ (t : TableData F). in_version version t.waiting) is ∙ kept.waits;
    run = λ working. (let no : true ≡ false = sym (ap (λ (t : TableData F). t.failed) is) ∙ working in cc (no));
  })

  -- more records were sealed, and stand in the seat behind the others, with their marks
  kept_more : (entries : List Entry) (marks : List (Marked VersionedEntry)) → CountsSealed old seat → IsTableDesk a tag version first old seat
      → old.failed ≡ false → new.waiting ≡ old.waiting ++ entries → map record_of marks ≡ in_version version entries
      → after ≡ record seat { sealed = seat.sealed ++ marks }
      → ((handed : List VersionedEntry) → WorksOnRun a tag version old handed → WorksOnRun a tag version new handed) → IsTableDesk a tag version first new after
  kept_more entries marks counts kept working waits marked same goes =
      let few = counts.handed in
      let some = kept.begun in
      subst (IsTableDesk a tag version first new) (sym same) (record {
        begun = kept.begun;
        waits = ap (in_version version) waits
            ∙ map-append (λ (entry : Entry). (version, entry)) old.waiting entries
            ∙ ap (λ (xs : List VersionedEntry). in_version version old.waiting ++ xs) (sym marked)
            ∙ ap (λ (xs : List VersionedEntry). xs ++ map record_of marks) kept.waits
            ∙ sym (waiting_more first seat.sealed marks seat.handed (omega (arith, some, few)) few);
        run = λ now.
            subst (WorksOnRun a tag version new) (sym (handed_more first seat.sealed marks seat.handed (omega (arith, some, few)) few))
            (goes (handed_of first seat) (kept.run working));
      })

  -- one
  pub kept_sealed : (entry : Entry) (number : ℕ) (by : Option ℕ) → CountsSealed old seat → IsTableDesk a tag version first old seat → old.failed ≡ false
      → SealsOne old new entry number → after ≡ with_last seat new by
      → ((handed : List VersionedEntry) → WorksOnRun a tag version old handed → WorksOnRun a tag version new handed) → IsTableDesk a tag version first new after
  kept_sealed entry number by counts kept working seals same goes =
      let last : last_entry new.waiting ≡ entry = ap last_entry seals.waits ∙ last_pushed old.waiting entry in
      let is : new.version ≡ version = (goes (handed_of first seat) (kept.run working)).version_is in
      kept_more (entry ∷ []) ((last_sealed new, by) ∷ []) counts kept working seals.waits (λ i. (is i, last i) ∷ []) same goes

  -- what changed, if anything did, and a root
  pub kept_rooted : (one : Option Entry) (entry : Entry) (by : Option ℕ) → CountsSealed old seat → IsTableDesk a tag version first old seat
      → old.failed ≡ false → new.waiting ≡ old.waiting ++ behind_first one entry
      → (one ≡ None → after ≡ with_last seat new by) → ((one ≡ None → ⊥) → after ≡ with_last_two seat new by)
      → ((handed : List VersionedEntry) → WorksOnRun a tag version old handed → WorksOnRun a tag version new handed) → IsTableDesk a tag version first new after
  kept_rooted None entry by counts kept working waits alone both goes =
      let last : last_entry new.waiting ≡ entry = ap last_entry waits ∙ last_pushed old.waiting entry in
      let is : new.version ≡ version = (goes (handed_of first seat) (kept.run working)).version_is in
      kept_more (entry ∷ []) ((last_sealed new, by) ∷ []) counts kept working waits (λ i. (is i, last i) ∷ []) (alone refl) goes
  kept_rooted (Some one) entry by counts kept working waits alone both goes =
      let last : last_entry new.waiting ≡ entry = ap last_entry waits ∙ last_of_two old.waiting one entry in
      let before : last_but_one new.waiting ≡ one = ap last_but_one waits ∙ last_but_pushed old.waiting one entry in
      let is : new.version ≡ version = (goes (handed_of first seat) (kept.run working)).version_is in
      let mark : Marked VersionedEntry = (last_but_sealed new, None) in
      let more : Marked VersionedEntry = (last_sealed new, by) in
      kept_more (one ∷ entry ∷ []) (mark ∷ more ∷ []) counts kept working waits (λ i. (is i, before i) ∷ (is i, last i) ∷ [])
      (both (λ no. cc (no)) ∙ ap (λ (ms : List (Marked VersionedEntry)). record seat { sealed = ms }) (append_assoc seat.sealed (mark ∷ []) (more ∷ [])))
      goes

-- ---- and so do both facts of the desk, where the seat stays
pub still_counted : {F : Type 0} (old new : TableData F) (seat : TableView VersionedEntry) → KeepsRest old new → CountsSealed old seat → CountsSealed new seat
still_counted old new seat rest counts = record { count = rest.sealed ∙ counts.count; handed = counts.handed }

module _ {F L : Type 0} (a : Analysis F L) (tag : ℕ) {Told : Type 0} {version : Told → Version} {first : Told → List VersionedEntry} (old new : TableData F)
    (seat : TableView VersionedEntry) (rest : KeepsRest old new) where
  pub still_kept : ((v : Version) (handed : List VersionedEntry) → WorksOnRun a tag v old handed → WorksOnRun a tag v new handed)
      → ((told : Told) → ∥ IsTableDesk a tag (version told) (first told) old seat ∥₁) → (told : Told) → ∥ IsTableDesk a tag (version told) (first told) new seat ∥₁
  still_kept goes kept told = ∥∥₁_map (kept told) (λ (one : IsTableDesk a tag (version told) (first told) old seat). kept_on a tag (version told) (first told) old new seat seat one rest refl (goes (version told)))

-- ---- the desk after records were sealed
module _ {F : Type 0} (old new : TableData F) (seat after : TableView VersionedEntry) (counts : CountsSealed old seat) where
  pub one_counted : (entry : Entry) (number : ℕ) (by : Option ℕ) → SealsOne old new entry number → after ≡ with_last seat new by → CountsSealed new after
  one_counted entry number by seals same =
      let few = counts.handed in
      let longer = length-append seat.sealed ((last_sealed new, by) ∷ []) in
      subst (CountsSealed new) (sym same) (record {
        count = seals.sealed ∙ ap (λ (n : ℕ). n + 1) counts.count ∙ sym longer;
        handed = omega (arith, few, longer);
      })

  pub root_counted : (one : Option Entry) (entry : Entry) (by : Option ℕ) → new.sealed ≡ old.sealed + length (behind_first one entry)
      → (one ≡ None → after ≡ with_last seat new by) → ((one ≡ None → ⊥) → after ≡ with_last_two seat new by) → CountsSealed new after
  root_counted None entry by sealed alone both =
      let few = counts.handed in
      let longer = length-append seat.sealed ((last_sealed new, by) ∷ []) in
      subst (CountsSealed new) (sym (alone refl)) (record {
        count = sealed ∙ ap (λ (n : ℕ). n + 1) counts.count ∙ sym longer;
        handed = omega (arith, few, longer);
      })
  root_counted (Some one) entry by sealed alone both =
      let few = counts.handed in
      let mark : Marked VersionedEntry = (last_but_sealed new, None) in
      let more : Marked VersionedEntry = (last_sealed new, by) in
      let longer = length-append seat.sealed (mark ∷ []) in
      let again = length-append (seat.sealed ++ mark ∷ []) (more ∷ []) in
      let count = counts.count in
      subst (CountsSealed new) (sym (both (λ no. cc (no)))) (record {
        count = sealed ∙ omega (arith, count, longer, again);
        handed = omega (arith, few, longer, again);
      })

module _ {F L : Type 0} (a : Analysis F L) (tag : ℕ) {Told : Type 0} {version : Told → Version} {first : Told → List VersionedEntry} (old new : TableData F)
    (seat after : TableView VersionedEntry)
    (counts : CountsSealed old seat) (working : old.failed ≡ false) where
  pub one_kept : (entry : Entry) (number : ℕ) (by : Option ℕ) → SealsOne old new entry number → after ≡ with_last seat new by
      → (act : (place : Place) → StoreAct a place) → ((place : Place) → IsOfTable a place (act place)) → IsAct a old new act
      → ((told : Told) → ∥ IsTableDesk a tag (version told) (first told) old seat ∥₁) → (told : Told) → ∥ IsTableDesk a tag (version told) (first told) new after ∥₁
  one_kept entry number by seals same act of is kept told =
      ∥∥₁_map (kept told) (λ (one : IsTableDesk a tag (version told) (first told) old seat).
      kept_sealed a tag (version told) (first told) old new seat after entry number by counts one working seals same
      (λ handed. acted a tag (version told) handed old new act of is))

  pub root_kept : (one : Option Entry) (entry : Entry) (by : Option ℕ) → new.waiting ≡ old.waiting ++ behind_first one entry
      → (one ≡ None → after ≡ with_last seat new by) → ((one ≡ None → ⊥) → after ≡ with_last_two seat new by)
      → (act : (place : Place) → StoreAct a place) → ((place : Place) → IsOfTable a place (act place)) → IsAct a old new act
      → ((told : Told) → ∥ IsTableDesk a tag (version told) (first told) old seat ∥₁) → (told : Told) → ∥ IsTableDesk a tag (version told) (first told) new after ∥₁
  root_kept one entry by waits alone both act of is kept told =
      ∥∥₁_map (kept told) (λ (desk : IsTableDesk a tag (version told) (first told) old seat).
      kept_rooted a tag (version told) (first told) old new seat after one entry by counts desk working waits alone both
      (λ handed. acted a tag (version told) handed old new act of is))

-- whether what changed was sealed first is told by the number of the root
pub sealed_first : {F : Type 0} (old new : TableData F) (one : Option Entry) (entry : Entry) (number : ℕ)
    → new.sealed ≡ old.sealed + length (behind_first one entry) → number + 1 ≡ new.sealed → old.sealed < number → one ≡ None → ⊥
sealed_first old new one entry number sealed is more none =
    let count = ap (λ (o : Option Entry). length (behind_first o entry)) none in omega (arith, sealed, is, more, count)

pub sealed_alone : {F : Type 0} (old new : TableData F) (one : Option Entry) (entry : Entry) (number : ℕ)
    → new.sealed ≡ old.sealed + length (behind_first one entry) → number + 1 ≡ new.sealed → number ≤ old.sealed → (one ≡ None → ⊥) → ⊥
sealed_alone old new None entry number sealed is few some = some refl
sealed_alone old new (Some one) entry number sealed is few some = omega (arith, sealed, is, few)

pub sealed_last : {F : Type 0} (old new : TableData F) (one : Option Entry) (entry : Entry) (number : ℕ)
    → new.sealed ≡ old.sealed + length (behind_first one entry) → number + 1 ≡ new.sealed → number ≤ old.sealed → number ≡ old.sealed
sealed_last old new None entry number sealed is few = omega (arith, sealed, is, few)
sealed_last old new (Some one) entry number sealed is few = absurd (omega (arith, sealed, is, few))

pub sealed_both : {F : Type 0} (old new : TableData F) (one : Option Entry) (entry : Entry) (number : ℕ)
    → new.sealed ≡ old.sealed + length (behind_first one entry) → number + 1 ≡ new.sealed → old.sealed < number → number ≡ old.sealed + 1
sealed_both old new None entry number sealed is more = absurd (omega (arith, sealed, is, more))
sealed_both old new (Some one) entry number sealed is more = omega (arith, sealed, is, more)

-- ---- what is told of records and of images, of the run on which the desk works
module _ {F L : Type 0} (a : Analysis F L) (tag : ℕ) (version : Version) (first : List VersionedEntry) (seat : TableView VersionedEntry) where
  pub load_spelled : (v : ProgramValue) (old new : TableData F) (number : ℕ) → IsTableDesk a tag version first old seat → old.failed ≡ false
      → LoadsProgram a v old new number → SpellsLoad a v (last_sealed new)
  load_spelled v old new number desk working loads =
      let on = desk.run working in
      let can = (loads.act (OnTwoDisks tag) on.world (handed_of first seat) on.reached on.works).0 in
      let last : last_entry new.waiting ≡ loads.entry = ap last_entry loads.seals.waits ∙ last_pushed old.waiting loads.entry in
      subst (λ (e : Entry). SpellsLoad a v (new.version, e)) (sym last) (record {
        text = can.text;
        program = can.program;
        parsed = can.parsed;
        says = can.says;
        spelled = record { kind = can.spelled.kind; body = can.spelled.body };
      })

  pub root_spelled : (name : List ℕ) (old new : TableData F) (number : ℕ) → IsTableDesk a tag version first old seat → old.failed ≡ false
      → BeginsRoot a name old new number → SpellsRoot a name (last_sealed new)
  root_spelled name old new number desk working begins =
      let on = desk.run working in
      let can = (begins.act (OnTwoDisks tag) on.world (handed_of first seat) on.reached on.works).0 in
      let last : last_entry new.waiting ≡ begins.entry = ap last_entry begins.waits ∙ last_behind begins.first in
      subst (λ (e : Entry). SpellsRoot a name (new.version, e)) (sym last) (record { kind = can.spelled.kind; body = can.spelled.body })
    where
      last_behind : (one : Option Entry) → last_entry (old.waiting ++ behind_first one begins.entry) ≡ begins.entry
      last_behind None = last_pushed old.waiting begins.entry
      last_behind (Some one) = last_of_two old.waiting one begins.entry

  -- a frozen image is that of the run
  pub frozen_run : {P : Type 0} (table : TableData F) (result : Result (Closed P L F) Refused) → ∥ IsTableDesk a tag version first table seat ∥₁
      → IfOk result (IsImageOver a table) → IfOk result (λ _. table.failed ≡ false) → IfOk result (λ closed. ∥ IsImageOfRun a closed ∥₁)
  frozen_run table (Ok closed) desk over working = ∥∥₁_map desk (λ (one : IsTableDesk a tag version first table seat).
      let on = one.run working in
      record {
        place = OnTwoDisks tag;
        world = on.world;
        reached = on.reached;
        image = over (OnTwoDisks tag) on.world (handed_of first seat) on.reached on.works;
      })
  frozen_run table (Err refused) desk over working = tt

  -- and its graph is that of its program
  pub frozen_graph : {P : Type 0} (table : TableData F) (result : Result (Closed P L F) Refused) → ∥ IsTableDesk a tag version first table seat ∥₁
      → IfOk result (IsImageOver a table) → IfOk result (λ _. table.failed ≡ false) → IfOk result (λ closed. table.core.graph ≡ Some (graph_in closed))
      → IsWholeCore table.core → IfOk result (λ closed. ∥ IsGraphSaid (Some (program_in closed)) (graph_in closed) ∥₁)
  frozen_graph table (Ok closed) desk over working graph whole = ∥∥₁_map desk (λ (one : IsTableDesk a tag version first table seat).
      let on = one.run working in
      let image = over (OnTwoDisks tag) on.world (handed_of first seat) on.reached on.works in
      subst (λ (p : Option ProgramValue). IsGraphSaid p (graph_in closed)) (sym on.works.image.program ∙ image.program)
      (whole.said (graph_in closed) graph))
  frozen_graph table (Err refused) desk over working graph whole = tt

-- A key that is drained with no claim is, to the store, one that hand 0 claimed.
use Rattle.std.proofs.Common.{◌≡◌, ◌∙◌, ◌+◌, ◌*◌, ◌-◌, ◌^◌, ◌<◌, ◌≤◌, ◌⊎◌, ◌||◌, ℕ, Bool, true, false, cond, List, [], ◌∷◌, Option, Some, None, refl, ap, sym, subst, arith, inl, inr, length, slice_get}
use Rattle.std.specs.Prelude.{◌&&◌, not}
use Rattle.std.specs.Option.{is_some, option_map}
use Rattle.std.proofs.lemmas.List.Elements.{All-cons, All-nil}
use Rattle.ide_image.specs.Spent.{spent}
use Rattle.ide_image.specs.Worklist.{IsFree, claim_at, is_pending}
use Rattle.ide_image.specs.declared.claim.Claim.{Claim as Held}
use Rattle.ide_journal.specs.Lists.{entry_of}
use Rattle.ide_journal.specs.declared.record.RawRecord.{RawRecord}
use Rattle.ide_steps.specs.Changed.{Remembers}
use Rattle.ide_steps.specs.Core.{CoreData, IsSameProblem, IsUnchanged}
use Rattle.ide_steps.specs.Drain.{HasLess, potential}
use Rattle.ide_steps.specs.Room.{IsWholeCore}
use Rattle.ide_steps.specs.Running.{OwesParts, claimed_as, with_held}
use Rattle.ide_steps.specs.State.{claim_of}
use Rattle.ide_steps.proofs.Running.{fallen, held-claims, held-there, key-found, key-keeps, key-over, part-back, part-current, part-lowered, part-skipped, settled}
use Rattle.ide_tasks.specs.Parts.{owed}
use Rattle.ide_tasks.specs.Task.{TaskData}
use Rattle.ide_wire.specs.Key.{same_key}
use Rattle.ide_wire.specs.declared.key.Key.{Key}
use Rattle.ide_store.specs.Acting.{BeginsAnew, CallsAreActs, SpellsChanges, SpellsFirst, WaitsFor}
use Rattle.ide_store.specs.Draining.{DrainsOff, IsByHand, IsSameCore, LowersOwed, SkipsOwed, StopsBy, WorksBy, WorksHeld, table_held}
use Rattle.ide_store.specs.Hands.{Batches, Claims, Ends, Parts, Releases}
use Rattle.ide_store.specs.Table.{Analysis, KeepsRest, TableData}
use Rattle.ide_store.proofs.Drained.{plain_act, same_pile, same_tables, unchanged_equal, works_once, works_still, works_then, works_unchanged}
use Rattle.ide_store.proofs.Sealed.{spelled_batch}

module _ {F L : Type 0} (a : Analysis F L) where
  -- ---- what holds of the half, holds of it as it would be with a claim
  whole_held : (core : CoreData F) (held : Held (TaskData F)) → IsWholeCore core → IsWholeCore (with_held core 0 held)
  whole_held core held is = record { distinct = is.distinct; sited = is.sited; said = is.said }

  rest_held : (old new : TableData F) (h k : Held (TaskData F)) → KeepsRest old new → KeepsRest (table_held old h) (table_held new k)
  rest_held old new h k is = record { version = is.version; sealed = is.sealed; waiting = is.waiting; failed = is.failed }

  problem_held : (old new : CoreData F) (h k : Held (TaskData F)) → IsSameProblem old new → IsSameProblem (with_held old 0 h) (with_held new 0 k)
  problem_held old new h k is = record { program = is.program; graph = is.graph; roots = is.roots }

  remembers_held : (old new : CoreData F) (h k : Held (TaskData F)) → Remembers old new → Remembers (with_held old 0 h) (with_held new 0 k)
  remembers_held old new h k is = record { noting = is.noting; keeps = is.keeps; entries = is.entries }

  unchanged_held : (old new : CoreData F) (held : Held (TaskData F)) → IsUnchanged old new → IsUnchanged (with_held old 0 held) (with_held new 0 held)
  unchanged_held old new held is = record {
    program = is.program;
    graph = is.graph;
    roots = is.roots;
    table = is.table;
    pending = is.pending;
    claims = held-claims a.lattice a.functions a.targets 0 old new held is.claims;
    changes = is.changes;
  }

  -- ---- seals
  pub sealed_held : CallsAreActs a → (old new : TableData F) → IsWholeCore old.core → (now : TableData F) → old ≡ now → (raw : Option RawRecord) (batch : RawRecord)
      → raw ≡ Some batch → SpellsFirst a now (option_map entry_of raw) → old.sealed < 4294967295 → WaitsFor (entry_of batch ∷ []) old new
      → BeginsAnew old.core new.core → WorksHeld a old new
  sealed_held acts old new whole now is_now raw batch found first room waits anew held =
      let spells = spelled_batch a old raw batch found (subst (λ (t : TableData F). SpellsFirst a t (option_map entry_of raw)) (sym is_now) first) in
      let now_spells : SpellsChanges a (table_held old held) (entry_of batch) = record {
        items = spells.items;
        changed = record { ascending = spells.changed.ascending; exact = spells.changed.exact };
        spells = record { spelled = spells.spells.spelled; proper = spells.spells.proper };
      } in
      plain_act a (table_held old held) (table_held new held) (λ place. Batches (old.version, entry_of batch))
      (acts.batch (entry_of batch) (table_held old held) (table_held new held) (whole_held old.core held whole) now_spells room
      (record { version = waits.version; failed = waits.failed; waiting = waits.waiting; sealed = waits.sealed })
      (ap (λ core. with_held core 0 held) anew))
      (λ place. tt) (λ place. refl) (λ place. refl)

  pub unsealed_held : CallsAreActs a → (old new : TableData F) → IsWholeCore old.core → (now : TableData F) → old ≡ now → (raw : Option RawRecord)
      → raw ≡ None → SpellsFirst a now (option_map entry_of raw) → KeepsRest old new → BeginsAnew old.core new.core → WorksHeld a old new
  unsealed_held acts old new whole now is_now raw none first rest anew held =
      let changed = subst (λ (o : Option RawRecord). SpellsFirst a old (option_map entry_of o)) none
      (subst (λ (t : TableData F). SpellsFirst a t (option_map entry_of raw)) (sym is_now) first) in
      let nothing = acts.nothing (table_held old held) (table_held new held) (whole_held old.core held whole)
      (record { ascending = changed.ascending; exact = changed.exact }) (rest_held old new held held rest) (ap (λ core. with_held core 0 held) anew) in
      works_still a (table_held old held) (table_held new held) (λ place w handed reached on. (nothing.caught_up place w handed reached on).1)

  pub equal_held : (old new : TableData F) → new.core ≡ old.core → KeepsRest old new → WorksHeld a old new
  equal_held old new same rest held =
      works_unchanged a (table_held old held) (table_held new held) (rest_held old new held held rest)
      (unchanged_held old.core new.core held (unchanged_equal old.core new.core same))

  pub still_held : (table : TableData F) → WorksHeld a table table
  still_held table held = works_still a (table_held table held) (table_held table held) (λ place w handed reached on. on)

  -- ---- parts, one after the other
  module _ (acts : CallsAreActs a) (key : Key) (parts : List (Key × F)) (start : TableData F) where
    pub off_none : DrainsOff a key parts 0 false start start
    off_none = record { works = λ task owes. still_held start (claimed_as key task 0 false); less = inr (refl, refl) }

    module _ (old new : TableData F) (done : ℕ) (lowered : Bool) (before : DrainsOff a key parts done lowered start old) where
      -- what is sealed is no part
      pub off_sealed : WorksHeld a old new → IsSameCore old.core new.core → DrainsOff a key parts done lowered start new
      off_sealed seals same = record {
        works = λ task owes.
            works_then a (table_held start (claimed_as key task 0 false)) (table_held old (claimed_as key task done lowered)) (table_held new (claimed_as key task done lowered)) 0 0 0 0
            (before.works task owes) (seals (claimed_as key task done lowered));
        less = elim before.less [
          | inl less ↦ inl (subst (λ n. n < potential a.functions start.core) (sym still) less)
          | inr earlier ↦ inr (still ∙ earlier.0, earlier.1)
        ];
      }
        where
          still : potential a.functions new.core ≡ potential a.functions old.core
          still = λ i. 2 * (2 ^ 64 * a.functions.height - spent a.functions (same_tables old.core new.core same i).entries) + length (same_pile old.core new.core same i).pending

      -- nor is what changes nothing
      pub off_unchanged : KeepsRest old new → IsUnchanged old.core new.core → DrainsOff a key parts done lowered start new
      off_unchanged rest same = record {
        works = λ task owes.
            works_then a (table_held start (claimed_as key task 0 false)) (table_held old (claimed_as key task done lowered)) (table_held new (claimed_as key task done lowered)) 0 0 0 0
            (before.works task owes)
            (works_unchanged a (table_held old (claimed_as key task done lowered)) (table_held new (claimed_as key task done lowered))
            (rest_held old new (claimed_as key task done lowered) (claimed_as key task done lowered) rest) (unchanged_held old.core new.core (claimed_as key task done lowered) same));
        less = elim before.less [
          | inl less ↦ inl (subst (λ n. n < potential a.functions start.core) (sym still) less)
          | inr earlier ↦ inr (still ∙ earlier.0, earlier.1)
        ];
      }
        where
          still : potential a.functions new.core ≡ potential a.functions old.core
          still = λ i. 2 * (2 ^ 64 * a.functions.height - spent a.functions (same.table i).entries) + length (same.pending i)

      module _ (rest : KeepsRest old new) (noting : is_some old.core.changes ≡ true) (same : IsSameProblem old.core new.core) (remembers : Remembers old.core new.core)
          (part : Key × F) (at : slice_get parts done ≡ Some part) (now : Bool) where
        -- a part that lowers its key
        pub off_lowered : now ≡ (same_key key part.0 || lowered) → LowersOwed a.functions a.targets part.0 part.1 old.core new.core
            → DrainsOff a key parts (done + 1) now start new
        off_lowered is lowers = record {
          works = λ task owes.
              let held = claimed_as key task done lowered in
              let after = claimed_as key task (done + 1) (same_key key part.0 || lowered) in
              let does = acts.lower 0 (table_held old held) (table_held new after) (record { task = task; parts = parts; done = done }) (record { task = task; parts = parts; done = done + 1 })
              noting (rest_held old new held after rest) (problem_held old.core new.core held after same) (remembers_held old.core new.core held after remembers)
              (part-current a.lattice a.functions a.targets 0 key task done lowered old.core parts owes)
              (part-lowered a.lattice a.functions a.targets 0 key task done lowered old.core new.core parts part at lowers.lowers lowers.changes) in
              works_then a (table_held start (claimed_as key task 0 false)) (table_held old held) (table_held new (claimed_as key task (done + 1) now)) 0 0 0 0
              (before.works task owes)
              (subst (λ b. WorksBy a (table_held old held) (table_held new (claimed_as key task (done + 1) b)) 0 0) (sym is)
              (plain_act a (table_held old held) (table_held new after) (λ place. Parts 0 does.part.0 does.part.1) does.act (λ place. refl) (λ place. refl) (λ place. refl)));
          less = elim before.less [
            | inl less ↦ let falls = lowers.falls in inl (omega (arith, less, falls))
            | inr earlier ↦ let falls = lowers.falls in let equal = earlier.0 in inl (omega (arith, equal, falls))
          ];
        }

        -- a part that its key has received already
        pub off_same : now ≡ lowered → SkipsOwed a.functions a.targets part.0 part.1 old.core new.core → DrainsOff a key parts (done + 1) now start new
        off_same is skips = record {
          works = λ task owes.
              let held = claimed_as key task done lowered in
              let after = claimed_as key task (done + 1) lowered in
              let does = acts.skip 0 (table_held old held) (table_held new after) (record { task = task; parts = parts; done = done }) (record { task = task; parts = parts; done = done + 1 })
              noting (rest_held old new held after rest) (problem_held old.core new.core held after same) (remembers_held old.core new.core held after remembers)
              (part-current a.lattice a.functions a.targets 0 key task done lowered old.core parts owes)
              (part-skipped a.lattice a.functions a.targets 0 key task done lowered old.core new.core parts part at skips.same skips.met) in
              works_then a (table_held start (claimed_as key task 0 false)) (table_held old held) (table_held new (claimed_as key task (done + 1) now)) 0 0 0 0
              (before.works task owes)
              (subst (λ b. WorksBy a (table_held old held) (table_held new (claimed_as key task (done + 1) b)) 0 0) (sym is)
              (plain_act a (table_held old held) (table_held new after) (λ place. Parts 0 does.part.0 does.part.1) does.act (λ place. refl) (λ place. refl) (λ place. refl)));
          less = elim before.less [
            | inl less ↦ inl (subst (λ n. n < potential a.functions start.core) (sym still) less)
            | inr earlier ↦ inr (still ∙ earlier.0, is ∙ earlier.1)
          ];
        }
          where
            still : potential a.functions new.core ≡ potential a.functions old.core
            still = λ i. 2 * (2 ^ 64 * a.functions.height - spent a.functions (skips.unchanged.table i).entries) + length (skips.unchanged.pending i)

  -- ---- a key that is run
  -- what a task owes
  abbrev parts_of : TaskData F → List (Key × F)
  parts_of = owed a.functions a.targets

  module _ (acts : CallsAreActs a) (key : Key) (parts : List (Key × F)) (start : TableData F) (whole : IsWholeCore start.core) (free : IsFree start.core.pile)
      (waits : is_pending start.core.pile key ≡ true) (next : OwesParts a.functions a.targets start.core key parts) where
    abbrev first : Held (TaskData F)
    first = claimed_as key next.task 0 false

    -- it is claimed
    begins : WorksBy a start (table_held start first) 1 0
    begins =
        works_once a start (table_held start first) 1 0 (λ place. Claims 0 next.task.key (parts_of next.task))
        (acts.claim 0 start (table_held start first) next.task whole (record { version = refl; sealed = refl; waiting = refl; failed = refl })
        (key-keeps a.lattice a.functions a.targets 0 start.core first)
        (key-found a.lattice a.functions a.targets 0 start.core key next.task (free 0) waits
        (λ h held has. let no : None ≡ Some held = sym (free h) ∙ has in absurd (cc (no))) next.of_key next.is_task))
        (λ place. record {
          own = All-cons (IsByHand a place 0) (Claims 0 next.task.key (parts_of next.task)) [] refl (All-nil (IsByHand a place 0));
          claimed = refl;
          released = refl;
        })

    module _ (mid : TableData F) (done : ℕ) (lowered : Bool) (works : DrainsOff a key parts done lowered start mid) (none : claim_at mid.core.pile 0 ≡ None) where
      abbrev last : Held (TaskData F)
      last = claimed_as key next.task done lowered

      -- some parts are done, and the claim is given back
      pub key_stops : StopsBy a start mid
      key_stops = (
        1,
        1,
        omega arith,
        works_then a start (table_held start first) mid 1 0 0 1 begins
            (works_then a (table_held start first) (table_held mid last) mid 0 0 0 1 (works.works next.task next.owes)
            (works_once a (table_held mid last) mid 0 1 (λ place. Releases 0)
            (acts.release 0 (table_held mid last) mid (record { version = refl; sealed = refl; waiting = refl; failed = refl }) (record { program = refl; graph = refl; roots = refl })
            refl refl refl (λ no_claim. let no : Some last ≡ None = sym (held-there a.lattice a.functions a.targets 0 mid.core last) ∙ no_claim in absurd (cc (no)))
            (part-back a.lattice a.functions a.targets 0 key next.task done lowered mid.core none))
            (λ place. record { own = All-cons (IsByHand a place 0) (Releases 0) [] refl (All-nil (IsByHand a place 0)); claimed = refl; released = refl }))),
      )

      -- all parts are done, and the claim is ended
      pub key_works : (new : TableData F) → length parts ≤ done → is_some mid.core.changes ≡ true → KeepsRest mid new → IsSameProblem mid.core new.core
          → Remembers mid.core new.core → ((h : ℕ) → claim_at new.core.pile h ≡ claim_at mid.core.pile h) → is_pending mid.core.pile key ≡ true
          → new.core.table ≡ mid.core.table → ((q : Key) → is_pending new.core.pile q ≡ (not (not lowered && same_key key q) && is_pending mid.core.pile q))
          → WorksBy a start new 1 0
      key_works new all noting rest same remembers claims still table pending =
          let does = acts.finish 0 (table_held mid last) new noting (record { version = rest.version; sealed = rest.sealed; waiting = rest.waiting; failed = rest.failed })
          (record { program = same.program; graph = same.graph; roots = same.roots })
          (record { noting = remembers.noting; keeps = remembers.keeps; entries = remembers.entries })
          (key-over a.lattice a.functions a.targets 0 mid.core new.core key next.task done lowered none claims (let long = ap length next.owes in omega (arith, long, all)) still table pending) in
          works_then a start (table_held start first) new 1 0 0 0 begins
          (works_then a (table_held start first) (table_held mid last) new 0 0 0 0 (works.works next.task next.owes)
          (plain_act a (table_held mid last) new (λ place. Ends 0 (claim_of a.functions a.targets does.held)) does.act (λ place. refl) (λ place. refl) (λ place. refl)))

  -- less is left then
  pub less_run : (start mid new : CoreData F) (lowered : Bool) → (HasLess a.functions start mid) ⊎ ((potential a.functions mid ≡ potential a.functions start) × (lowered ≡ false))
      → new.table ≡ mid.table → 1 + length new.pile.pending ≤ length mid.pile.pending + cond lowered 1 0 → HasLess a.functions start new
  less_run start mid new lowered less table count =
      let twice : 2 * (2 ^ 64 * a.functions.height - spent a.functions new.table.entries) ≡ 2 * (2 ^ 64 * a.functions.height - spent a.functions mid.table.entries) =
      ap (λ t. 2 * (2 ^ 64 * a.functions.height - spent a.functions t.entries)) table in
      elim less [
        | inl falls ↦ fallen (2 * (2 ^ 64 * a.functions.height - spent a.functions new.table.entries)) (2 * (2 ^ 64 * a.functions.height - spent a.functions mid.table.entries))
            (length new.pile.pending) (length mid.pile.pending) (potential a.functions start) (cond lowered 1 0) twice count falls (one lowered)
        | inr still ↦
            let none : ◌≡◌ {A = ℕ} (cond lowered 1 0) 0 = ap (λ b. cond b 1 0) still.1 in
            settled (2 * (2 ^ 64 * a.functions.height - spent a.functions new.table.entries)) (2 * (2 ^ 64 * a.functions.height - spent a.functions mid.table.entries))
            (length new.pile.pending) (length mid.pile.pending) (potential a.functions start) (cond lowered 1 0) twice count still.0 none
      ]
    where
      one : (b : Bool) → cond b 1 0 ≤ 1
      one true = omega arith
      one false = omega arith

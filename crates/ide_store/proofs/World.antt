-- Every run of a store recovers: what is kept from event to event, and what it gives.
use Rattle.std.proofs.Common.{◌≡◌, ◌∙◌, ◌≤◌, ◌<◌, ℕ, ◌+◌, List, [], ◌∷◌, ◌++◌, length, take, refl, ap, sym, subst, arith}
use Rattle.std.proofs.lemmas.List.Sums.{fold-append}
use Rattle.std.proofs.lemmas.List.{length-append, length-map, length-take-le, map-append, take-map}
use Rattle.ide_store.proofs.Marks.{AreMarks, mark_at, marks_cut, marks_sealed, marks_stepped, no_marks, pushed}
use Rattle.ide_store.specs.Store.{IsFoundOf, IsSafe, Store, StoreLaws}
use Rattle.ide_store.specs.World.{Acks, Begins, Calls, Can, CanAll, Closed, Crashes, Event, EveryRunRecovers, Failed, Fails, AreAlike, IsRecoverable, Mode, Opens, Recovers, Rules, Running, Seals, Sealed, Steps, Stops, Stores, World, after_event, after_all, contents, created, image_after, opened, AreExact, IsFolded, LeadTo}

-- what is kept
pub record IsKept {Image Step R : Type 0} {S : Store R} (rules : Rules Image Step R) (w : World Image Step S) : Type 0 where
  pub image : w.mode ≡ Running → w.image ≡ image_after rules w.history
  pub live : w.mode ≡ Running → S.Live (contents w.sealed) w.stored w.work w.disks
  pub safe : IsSafe S (contents w.sealed) w.stored w.disks
  pub marks : AreMarks rules w.history w.sealed
  pub some : w.stored ≤ length w.sealed
  pub acked : w.acked ≤ w.stored

-- what an opening finds: some of the sealed records, all that are stored among them
pub record IsRead {Image Step R : Type 0} {S : Store R} (rules : Rules Image Step R) (w : World Image Step S) (found : List R) : Type 0 where
  pub least : w.stored ≤ length found
  pub most : length found ≤ length w.sealed
  pub image : (image : Image) → IsFolded rules found image → IsFolded rules (contents (take (length found) w.sealed)) image
  pub holds : S.Holds (contents (take (length found) w.sealed)) (S.reads w.disks)
  pub count : length (contents (take (length found) w.sealed)) ≡ length found

module _ {Image Step R : Type 0} {S : Store R} (rules : Rules Image Step R) (exact : AreExact rules) (laws : StoreLaws (AreAlike rules) S) where
  counted : (sealed : List (Sealed R)) (n : ℕ) → n ≤ length sealed → length (contents (take n sealed)) ≡ n
  counted sealed n le = length-map (take n sealed) (λ (s : Sealed R). s.content) ∙ length-take-le n sealed le

  pub read : (w : World Image Step S) (found : List R) → IsKept rules w → S.Holds found (S.reads w.disks) → IsRead rules w found
  read w found kept holds =
      let safe = kept.safe.each (S.reads w.disks) kept.safe.possible in
      let is = safe.2 in
      let within : is.count ≤ length w.sealed = rw (← length-map w.sealed (λ (s : Sealed R). s.content)) is.most in
      let first : safe.0 ≡ contents (take is.count w.sealed) = is.is ∙ take-map (λ (s : Sealed R). s.content) is.count w.sealed in
      let alike = laws.alike found safe.0 (S.reads w.disks) holds safe.1 in
      let long : length found ≡ is.count = alike.count ∙ ap length first ∙ counted w.sealed is.count within in
      record {
        least = rw long is.least;
        most = rw long within;
        image = λ image folded. subst (λ (records : List R). IsFolded rules records image) (first ∙ ap (λ (n : ℕ). contents (take n w.sealed)) (sym long)) (alike.there image folded);
        holds = subst (λ (records : List R). S.Holds records (S.reads w.disks)) (first ∙ ap (λ (n : ℕ). contents (take n w.sealed)) (sym long)) safe.1;
        count = counted w.sealed (length found) (rw long within);
      }

  pub one_image : (records : List R) (before now other : Image) → LeadTo rules records before now → LeadTo rules records before other → now ≡ other
  one_image [] before now other is same = sym is ∙ same
  one_image (r ∷ records) before now other (a, leads, rest) (b, leads_other, rest_other) =
      one_image records a now other rest
      (subst (λ (i : Image). LeadTo rules records i other) (exact r before b a leads_other leads) rest_other)

  -- the image is that after the steps before the last record that was found
  image_found : (w : World Image Step S) (found : List R) (image : Image) → IsKept rules w → IsRead rules w found → IsFolded rules found image
      → image ≡ image_after rules (take (mark_at w.sealed (length found)) w.history)
  image_found w found image kept is folded =
      one_image (contents (take (length found) w.sealed)) rules.empty image _ (is.image image folded) (kept.marks.images (length found))

  kept_opened : (w : World Image Step S) (found : List R) (image : Image) (work : S.Work) (disks : S.Disks) → IsKept rules w
      → S.Holds found (S.reads w.disks) → IsFolded rules found image → S.Opens w.disks work disks → IsKept rules (opened w found image work disks)
  kept_opened w found image work disks kept holds folded opens =
      let is = read w found kept holds in
      let records : List R = contents (take (length found) w.sealed) in
      let live : S.Live records (length found) work disks =
      subst (λ (n : ℕ). S.Live records n work disks) is.count (laws.opened records w.disks disks work kept.safe.possible is.holds opens) in
      record {
        image = λ runs. image_found w found image kept is folded;
        live = λ runs. live;
        safe = laws.live_safe records (length found) work disks live;
        marks = marks_cut rules w.history w.sealed (length found) kept.marks;
        some = rw (length-take-le (length found) w.sealed is.most) (omega arith);
        acked = omega arith;
      }

  kept_stepped : (w : World Image Step S) (s : Step) → IsKept rules w → w.mode ≡ Running → IsKept rules (after_event rules w (Steps s))
  kept_stepped w s kept runs = record {
    image = λ _. ap (λ (image : Image). rules.step image s) (kept.image runs) ∙ sym (fold-append rules.step rules.empty w.history (s ∷ []));
    live = kept.live;
    safe = kept.safe;
    marks = marks_stepped rules w.history w.sealed s kept.marks;
    some = kept.some;
    acked = kept.acked;
  }

  kept_sealed : (w : World Image Step S) (r : R) → IsKept rules w → Can rules w (Seals r) → IsKept rules (after_event rules w (Seals r))
  kept_sealed w r kept can =
      let records : contents (pushed w.sealed r (length w.history)) ≡ contents w.sealed ++ r ∷ [] =
      map-append (λ (s : Sealed R). s.content) w.sealed (record { content = r; mark = length w.history } ∷ []) in
      let before = laws.sealed (contents w.sealed) w.stored r w.work w.disks (kept.live can.0) can.1 in
      let live = subst (λ (records : List R). S.Live records w.stored w.work w.disks) (sym records) before in
      let longer = length-append w.sealed (record { content = r; mark = length w.history } ∷ []) in
      record {
        image = kept.image;
        live = λ _. live;
        safe = laws.live_safe _ w.stored w.work w.disks live;
        marks = marks_sealed rules w.history w.sealed r can.2.base kept.marks can.2.folded
            (subst (λ (i : Image). rules.Leads r can.2.base i) (kept.image can.0) can.2.leads);
        some = let less = kept.some in omega arith;
        acked = kept.acked;
      }

  kept_called : (w : World Image Step S) (stored : ℕ) (work : S.Work) (disks : S.Disks) → IsKept rules w
      → S.Live (contents w.sealed) stored work disks → stored ≤ length w.sealed → w.acked ≤ stored
      → IsKept rules (record w { stored = stored; work = work; disks = disks })
  kept_called w stored work disks kept live some acked = record {
    image = kept.image;
    live = λ _. live;
    safe = laws.live_safe (contents w.sealed) stored work disks live;
    marks = kept.marks;
    some = some;
    acked = acked;
  }

  kept_still : (w : World Image Step S) (disks : S.Disks) (mode : Mode) → IsKept rules w → (mode ≡ Running → ⊥)
      → IsSafe S (contents w.sealed) w.stored disks → IsKept rules (record w { disks = disks; mode = mode })
  kept_still w disks mode kept still safe = record {
    image = λ runs. absurd (still runs);
    live = λ runs. absurd (still runs);
    safe = safe;
    marks = kept.marks;
    some = kept.some;
    acked = kept.acked;
  }

  crashed_safe : (w : World Image Step S) (left : S.Left) → IsKept rules w → S.Leaves w.disks left
      → IsSafe S (contents w.sealed) w.stored (S.crashed left)
  crashed_safe w left kept leaves = record {
    each = λ other may. subst (λ (it : S.Left). (found : List R) × S.Holds found it × IsFoundOf (contents w.sealed) w.stored found)
        (sym (laws.crashed_leaves left other may)) (kept.safe.each left leaves);
    possible = laws.crashed_reads left;
  }

  pub kept : (w : World Image Step S) (e : Event Image Step S) → IsKept rules w → Can rules w e → IsKept rules (after_event rules w e)
  kept w (Steps s) is can = kept_stepped w s is can
  kept w (Seals r) is can = kept_sealed w r is can
  kept w (Begins work) is can =
      kept_called w w.stored work w.disks is (laws.begun _ w.stored w.work work w.disks (is.live can.0) can.1) is.some is.acked
  kept w (Calls work disks) is can =
      kept_called w w.stored work disks is (laws.called _ w.stored w.work work w.disks disks (is.live can.0) can.1) is.some is.acked
  kept w (Stores work disks) is can =
      let less = laws.stores_some _ w.stored w.work work w.disks disks can.1 in
      let few : w.stored < length w.sealed = rw (← length-map w.sealed (λ (s : Sealed R). s.content)) less in
      let acked = is.acked in
      kept_called w (w.stored + 1) work disks is (laws.stores _ w.stored w.work work w.disks disks (is.live can.0) can.1) (omega arith) (omega arith)
  kept w (Fails disks) is can =
      kept_still w disks Failed is (λ e. cc) (laws.failed _ w.stored w.work w.disks disks (is.live can.0) can.1)
  kept w Acks is can = record {
    image = is.image;
    live = is.live;
    safe = is.safe;
    marks = is.marks;
    some = is.some;
    acked = omega arith;
  }
  kept w (Crashes left) is can = kept_still w (S.crashed left) Closed is (λ e. cc) (crashed_safe w left is can)
  kept w (Opens found image work disks) is can = kept_opened w found image work disks is can.0 can.1 can.2
  kept w (Stops disks mode) is can = kept_still w disks mode is can.0 (laws.stopped _ w.stored w.disks disks is.safe can.1)

  pub all_kept : (w : World Image Step S) (events : List (Event Image Step S)) → IsKept rules w → CanAll rules w events
      → IsKept rules (after_all rules w events)
  all_kept w [] is can = is
  all_kept w (e ∷ events) is can = all_kept (after_event rules w e) events (kept w e is can.0) can.1

  pub kept_created : (work : S.Work) (disks : S.Disks) → S.Live [] 0 work disks → IsKept rules (created {S = S} rules work disks)
  kept_created work disks live = record {
    image = λ _. refl;
    live = λ _. live;
    safe = laws.live_safe [] 0 work disks live;
    marks = no_marks rules;
    some = omega arith;
    acked = omega arith;
  }

  recovers : (w : World Image Step S) (found : List R) (image : Image) (work : S.Work) (disks : S.Disks) → IsKept rules w
      → S.Holds found (S.reads w.disks) → IsFolded rules found image → Recovers rules w (opened w found image work disks)
  recovers w found image work disks is holds folded =
      let found_is = read w found is holds in
      let few = found_is.least in
      let acked = is.acked in
      record {
        image = image_found w found image is found_is folded;
        beginning = record { count = mark_at w.sealed (length found); is = refl };
        acknowledged = rw (length-take-le (mark_at w.sealed (length found)) w.history (is.marks.inside (length found)))
            (is.marks.rising w.acked (length found) (omega arith));
      }

  -- what is read holds some of the sealed records, and these have an image
  some_opening : (w : World Image Step S) → IsKept rules w
      → (found : List R) × (image : Image) × (work : S.Work) × (disks : S.Disks) × Can rules w (Opens found image work disks)
  some_opening w is =
      let safe = is.safe.each (S.reads w.disks) is.safe.possible in
      let count = safe.2.count in
      let image : Image = image_after rules (take (mark_at w.sealed count) w.history) in
      let first : safe.0 ≡ contents (take count w.sealed) = safe.2.is ∙ take-map (λ (s : Sealed R). s.content) count w.sealed in
      let opens = laws.can_open safe.0 w.disks safe.1 in (
        safe.0,
        image,
        opens.0,
        opens.1,
        (safe.1, subst (λ (records : List R). IsFolded rules records image) (sym first) (is.marks.images count), opens.2),
      )

  pub recoverable : (w : World Image Step S) → IsKept rules w → IsRecoverable rules w
  recoverable w is = record {
    running = is.image;
    recovers = λ found image work disks can. recovers w found image work disks is can.0 can.1;
    opens = some_opening w is;
  }

  pub every_run_recovers : EveryRunRecovers S rules
  every_run_recovers work disks live events can =
      let begun = created {S = S} rules work disks in
      recoverable (after_all rules begun events) (all_kept begun events (kept_created work disks live) can)

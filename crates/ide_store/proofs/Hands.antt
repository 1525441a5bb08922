-- Whatever hands do and whatever happens to the store, its images are good, and the work is counted.
use Rattle.std.proofs.Common.{◌≡◌, ◌∙◌, ◌⊎◌, ◌+◌, ◌*◌, ◌≤◌, ◌++◌, ℕ, zero, suc, Bool, true, false, cond, List, [], ◌∷◌, Option, Some, None, length, take, refl, ap, sym, subst, arith, inl, inr}
use Rattle.std.specs.Option.{is_some}
use Rattle.std.proofs.lemmas.Bool.{cases_lt}
use Rattle.std.proofs.lemmas.List.{map-append, take-take, take_all}
use Rattle.ide_batch.proofs.Folding.{lead}
use Rattle.ide_batch.specs.Fold.{ProgramImage, procedures}
use Rattle.ide_batch.specs.Items.{Functions}
use Rattle.ide_batch.specs.Records as records
use Rattle.ide_lattice.specs.Algebra.{LatticeAlgebra, EdgeAlgebra}
use Rattle.ide_problem.specs.Flow.{Targets}
use Rattle.ide_steps.specs.Room.{key_space}
use Rattle.ide_steps.proofs.Rooted.{entered-present}
use Rattle.ide_text.specs.Value.{ProgramValue}
use Rattle.ide_wire.specs.Key.{same_key}
use Rattle.ide_wire.specs.declared.key.Key.{Key}
use Rattle.ide_theory.specs.Images.{Finish, IsSame, Load, Part, Root, absent_below, is_met, loaded, received, seeded_below, image_state, step}
use Rattle.ide_theory.specs.Members.{not-in-empty}
use Rattle.ide_theory.specs.Run.{ArePartsOf, Run, begins}
use Rattle.ide_theory.specs.State.{Claim, State, with_lowered, part_done}
use Rattle.ide_theory.proofs.Laws.Changes.{some-inj}
use Rattle.ide_theory.proofs.Laws.ImageWays.{seeds-below}
use Rattle.ide_theory.proofs.Laws.Paid.{claims-paid}
use Rattle.ide_theory.proofs.Laws.Ranks.{lowerings-few}
use Rattle.ide_theory.proofs.Laws.Reached.{run-on}
use Rattle.ide_store.specs.Answers.{GraphBy, IsWorkFew, frame_by}
use Rattle.ide_store.specs.Hands.{Act, Allowed, AreAllowed, Batches, Roots, CanBatch, CanBegin, CanEnd, CanLoad, CanPart, CanRelease, CanClaim, Claims, Ends, EveryRunAnswers, FitsNext, Hands, Happens, IsOfStore, IsSoundWorld, Loads, Parts, ProgramEvent, Releases, absent_from, absent_in, claims_after, idle, next, state_in, tally_after, worked}
use Rattle.ide_store.specs.Known.{Known}
use Rattle.ide_store.specs.Machine.{Does, IsRecordOf, ProgramStep}
use Rattle.ide_store.specs.Store.{Store, StoreLaws}
use Rattle.ide_store.specs.Tally.{state_with}
use Rattle.ide_store.specs.Versioned.{VersionedEntry}
use Rattle.ide_store.specs.World.{Acks, AreAlike, AreExact, Begins, Calls, Can, Crashes, Fails, IsFolded, LeadTo, Opens, Rules, Running, Seals, Sealed, Steps, Stops, Stores, after_event, contents, image_after}
use Rattle.ide_store.proofs.Good.{HaveStarts, IsGood, good_is_best, good_released, has_roots, start_has, starts_kept, starts_more}
use Rattle.ide_store.proofs.Marks.{all_pushed, folded_pushed, mark_at, mark_before, pushed, take_more}
use Rattle.ide_store.proofs.Working.{IsWorkTo, begun_now, claimed_on, finished_on, part_is, part_steps, parted_on, released_on, root_is, seeded_on}
use Rattle.ide_store.proofs.World.{IsKept, kept, kept_created, one_image, read, recoverable}

-- the last record is the last to lead
lead_split : {Image Step R : Type 0} (rules : Rules Image Step R) (records : List R) (r : R) (before now : Image) → LeadTo rules (records ++ r ∷ []) before now
    → (between : Image) × LeadTo rules records before between × rules.Leads r between now
lead_split rules [] r before now (after_event, leads, same) = (before, refl, subst (rules.Leads r before) same leads)
lead_split rules (x ∷ records) r before now (first, leads, rest) =
    let more = lead_split rules records r first now rest in
    (more.0, (first, leads, more.1), more.2)

module _ {Image Step R : Type 0} {S : Store R} (rules : Rules Image Step R) (exact : AreExact rules) (laws : StoreLaws (AreAlike rules) S) where
  -- a sealed record gives back the image that it leads to
  pub last_is : (sealed : List (Sealed R)) (r : R) (mark : ℕ) (base now image : Image) → IsFolded rules (contents sealed) base → rules.Leads r base now
      → IsFolded rules (contents (pushed sealed r mark)) image → now ≡ image
  last_is sealed r mark base now image folded leads all =
      let split = lead_split rules (contents sealed) r rules.empty image
      (subst (λ (xs : List R). IsFolded rules xs image) (map-append (λ (s : Sealed R). s.content) sealed (record { content = r; mark = mark } ∷ [])) all) in
      let same : split.0 ≡ base = one_image rules exact laws (contents sealed) rules.empty split.0 base split.1 folded in
      exact r base now image leads (subst (λ (i : Image). rules.Leads r i image) same split.2)

  -- and those before it what they gave back
  pub sealed_is : (sealed : List (Sealed R)) (r : R) (mark : ℕ) (base now : Image) → IsFolded rules (contents sealed) base → rules.Leads r base now
      → (n : ℕ) (image : Image) → IsFolded rules (contents (take n (pushed sealed r mark))) image
      → IsFolded rules (contents (take n sealed)) image ⊎ (now ≡ image)
  sealed_is sealed r mark base now folded leads n image all = elim (cases_lt (length sealed) n) [
    | inl over ↦ inr (last_is sealed r mark base now image folded leads
        (subst (λ (xs : List (Sealed R)). IsFolded rules (contents xs) image) (all_pushed sealed r mark n over) all))
    | inr under ↦ inl (subst (λ (xs : List (Sealed R)). IsFolded rules (contents xs) image) (mark_before sealed r mark n under) all)
  ]

-- the machine of an analysis whose records do that
abbrev pub machine_by : {F L : Type 0} → EdgeAlgebra F L → (F → F → Bool) → (VersionedEntry → ProgramImage F → ProgramImage F → Type 0)
    → Rules (ProgramImage F) (ProgramStep F) VersionedEntry
machine_by functions same Leads = record { empty = loaded None; step = step procedures functions same; Leads = Leads }

module _ {F L : Type 0} {Leads : VersionedEntry → ProgramImage F → ProgramImage F → Type 0}
    (A : LatticeAlgebra L) (B : EdgeAlgebra F L) (targets : Targets F) (same : F → F → Bool) (forms : Functions F)
    (S : Store VersionedEntry) (is_same : IsSame same) (exact : AreExact (machine_by B same Leads)) (laws : StoreLaws (AreAlike (machine_by B same Leads)) S)
    (known : Known A B targets) where
  abbrev acts_by : Rules (ProgramImage F) (ProgramStep F) VersionedEntry
  acts_by = machine_by B same Leads

  -- what a record of a journal does, it does by these rules
  abbrev pub DoAsRecords : Type 0
  DoAsRecords = (r : VersionedEntry) (before now : ProgramImage F) → Does B same forms r before now → Leads r before now

  -- over each graph of its program the image is good
  abbrev IsGoodImage : ProgramImage F → Type 0
  IsGoodImage image = (v : ProgramValue) → image.program ≡ Some v → (by : GraphBy v) → IsGood procedures (frame_by A B targets by) v image

  -- what is kept: images of records are good, and what the hands did is counted
  pub record IsHeld (w : Hands F S) : Type 0 where
    pub world : IsKept acts_by w.world
    pub stored : (n : ℕ) (image : ProgramImage F) → IsFolded acts_by (contents (take n w.world.sealed)) image → IsGoodImage image
    pub work : (v : ProgramValue) → w.world.image.program ≡ Some v → (by : GraphBy v)
        → IsWorkTo (frame_by A B targets by) w.tally (state_with w.world.image w.claims)
    pub begun : (v : ProgramValue) → w.world.image.program ≡ Some v → (by : GraphBy v)
        → HaveStarts procedures (frame_by A B targets by) v w.world.image.get w.world.image.roots

  -- the records know the program and the roots, and no key that they have was taken away
  pub record IsNoted (image base : ProgramImage F) : Type 0 where
    pub program : base.program ≡ image.program
    pub roots : base.roots ≡ image.roots
    pub present : (key : Key) → is_some (base.get key) ≡ true → is_some (image.get key) ≡ true

  -- an image that is the other's knows all of it
  noted_same : (image base : ProgramImage F) → image ≡ base → IsNoted image base
  noted_same image base is = record {
    program = ap (λ (i : ProgramImage F). i.program) (sym is);
    roots = ap (λ (i : ProgramImage F). i.roots) (sym is);
    present = λ key has. subst (λ (i : ProgramImage F). is_some (i.get key) ≡ true) (sym is) has;
  }

  -- a part takes no key away
  still_present : (s : State F) (key : Key) (g : F) (k : Key) → is_some (s.get k) ≡ true → is_some ((received procedures B same s key g).get k) ≡ true
  still_present s key g k has = by (is_met procedures B same s key g)
    where
      put_in : (b : Bool) (f : F) → is_some (cond b (Some f) (s.get k)) ≡ true
      put_in true f = refl
      put_in false f = has

      by : (b : Bool) → is_some ((cond b s (with_lowered B s key g)).get k) ≡ true
      by true = has
      by false = put_in (same_key key k) _

  pub record IsWhole (w : Hands F S) : Type 0 where
    pub held : IsHeld w
    pub noted : (base : ProgramImage F) → IsFolded acts_by (contents w.world.sealed) base → IsNoted w.world.image base

  pub good_now : (w : Hands F S) → IsHeld w → IsGoodImage w.world.image
  good_now w held v is by =
      good_released procedures (frame_by A B targets by) v (known.lawful by) w.world.image w.claims w.tally (held.work v is by) (held.begun v is by)

  pub run_now : (w : Hands F S) → IsHeld w → (v : ProgramValue) → w.world.image.program ≡ Some v → (by : GraphBy v)
      → Run (frame_by A B targets by) (state_with w.world.image w.claims)
  run_now w held v is by = let work = held.work v is by in run-on (frame_by A B targets by) (known.lawful by) work.run work.way

  -- a record of the image as it is
  sealed_held : (w : Hands F S) (r : VersionedEntry) → IsHeld w → Can acts_by w.world (Seals r) → IsWhole (record w { world = after_event acts_by w.world (Seals r) })
  sealed_held w r held can =
      let catches = can.2 in
      record {
        held = record {
          world = kept acts_by exact laws w.world (Seals r) held.world can;
          stored = λ n image folded.
              elim (sealed_is acts_by exact laws w.world.sealed r (length w.world.history) catches.base w.world.image catches.folded catches.leads n image folded) [
                | inl before ↦ held.stored n image before
                | inr now ↦ subst IsGoodImage now (good_now w held)
              ];
          work = held.work;
          begun = held.begun;
        };
        noted = λ base folded.
            noted_same w.world.image base
            (last_is acts_by exact laws w.world.sealed r (length w.world.history) catches.base w.world.image base catches.folded catches.leads folded);
      }

  -- the records have an image
  pub some_base : (w : Hands F S) → IsHeld w → (base : ProgramImage F) × IsFolded acts_by (contents w.world.sealed) base
  some_base w held =
      let n : ℕ = length w.world.sealed in
      let base : ProgramImage F = image_after acts_by (take (mark_at w.world.sealed n) w.world.history) in
      (base, subst (λ (xs : List (Sealed VersionedEntry)). IsFolded acts_by (contents xs) base) (take_all n w.world.sealed (omega arith)) (held.world.marks.images n))

  -- ---- hands
  claims_held : (w : Hands F S) (h : ℕ) (q : Key) (parts : List (Key × F)) → IsWhole w → CanClaim A B targets same forms acts_by S w h q parts
      → IsWhole (next A B targets same forms acts_by S w (Claims h q parts))
  claims_held w h q parts whole can = record {
    held = record {
      world = whole.held.world;
      stored = whole.held.stored;
      work = λ v is by.
          let program : can.program ≡ v = some-inj (sym can.loaded ∙ is) in
          claimed_on (frame_by A B targets by) w.tally (state_with w.world.image w.claims) h q parts can.free can.pending can.alone
          (subst (λ (u : ProgramValue). (on : GraphBy u) → ArePartsOf (frame_by A B targets on) w.world.image.get q parts) program can.owes by) (whole.held.work v is by);
      begun = whole.held.begun;
    };
    noted = whole.noted;
  }

  parts_held : (w : Hands F S) (h : ℕ) (key : Key) (g : F) → IsWhole w → CanPart A B targets same forms acts_by S w h key g
      → IsWhole (next A B targets same forms acts_by S w (Parts h key g))
  parts_held w h key g whole can = record {
    held = record {
      world = kept acts_by exact laws w.world (Steps (Part key g)) whole.held.world can.running;
      stored = whole.held.stored;
      work = λ v is by.
          subst (λ (s : State F). IsWorkTo (frame_by A B targets by) (tally_after A B targets same forms acts_by S w (Parts h key g)) s) (sym is_one)
          (parted_on (frame_by A B targets by) procedures same is_same w.tally (state_with w.world.image w.claims) h can.claim key g can.rest can.mine can.next
          (whole.held.work v is by));
      begun = λ v is by.
          subst (λ (get : Key → Option F). HaveStarts procedures (frame_by A B targets by) v get w.world.image.roots) (sym (ap (λ (s : State F). s.get) is_one))
          (starts_kept procedures (frame_by A B targets by) v (known.lawful by) (state_with w.world.image w.claims) _ w.world.image.roots (run_now w whole.held v is by)
          (part_steps (frame_by A B targets by) procedures same is_same (state_with w.world.image w.claims) h can.claim key g can.rest can.mine can.next)
          (whole.held.begun v is by));
    };
    noted = λ base folded.
        let noted = whole.noted base folded in
        record { program = noted.program; roots = noted.roots; present = λ k has. still_present (image_state w.world.image) key g k (noted.present k has) };
  }
    where
      is_one : state_in A B targets same forms acts_by S (next A B targets same forms acts_by S w (Parts h key g))
          ≡ part_done (received procedures B same (state_with w.world.image w.claims) key g) h
      is_one = part_is procedures B same w.world.image w.claims h key g

  ends_held : (w : Hands F S) (h : ℕ) (c : Claim F) → IsWhole w → CanEnd A B targets same forms acts_by S w h c
      → IsWhole (next A B targets same forms acts_by S w (Ends h c))
  ends_held w h c whole can = record {
    held = record {
      world = kept acts_by exact laws w.world (Steps (Finish c.key c.lowered)) whole.held.world can.running;
      stored = whole.held.stored;
      work = λ v is by. finished_on (frame_by A B targets by) w.tally (state_with w.world.image w.claims) h c can.mine can.over (whole.held.work v is by);
      begun = whole.held.begun;
    };
    noted = λ base folded.
        let noted = whole.noted base folded in
        record { program = noted.program; roots = noted.roots; present = noted.present };
  }

  releases_held : (w : Hands F S) (h : ℕ) → IsWhole w → CanRelease A B targets same forms acts_by S w h
      → IsWhole (next A B targets same forms acts_by S w (Releases h))
  releases_held w h whole can = record {
    held = record {
      world = whole.held.world;
      stored = whole.held.stored;
      work = λ v is by. released_on (frame_by A B targets by) w.tally (state_with w.world.image w.claims) h can.claim can.mine (whole.held.work v is by);
      begun = whole.held.begun;
    };
    noted = whole.noted;
  }

  -- ---- a program is loaded
  loads_held : DoAsRecords → (w : Hands F S) (v : ProgramValue) (r : VersionedEntry) → IsWhole w → CanLoad A B targets same forms acts_by S w v r
      → IsWhole (next A B targets same forms acts_by S w (Loads v r))
  loads_held as_records w v r whole can =
      let base = some_base w whole.held in
      let now : Hands F S = record {
        world = after_event acts_by w.world (Steps (Load v));
        claims = λ h. None;
        tally = tally_after A B targets same forms acts_by S w (Loads v r);
      } in
      let does : Does B same forms r base.0 now.world.image = record {
        value = records.Load can.text;
        spelled = can.spelled;
        leads = (can.program, can.parsed, ap (λ u. loaded (Some u)) (sym can.says));
      } in
      sealed_held now r
      (record {
        world = kept acts_by exact laws w.world (Steps (Load v)) whole.held.world can.running;
        stored = whole.held.stored;
        work = λ u is by. begun_now (frame_by A B targets by) (image_state now.world.image) begins;
        begun = λ u is by name among. elim (not-in-empty among) [ ];
      })
      (can.running, can.fits, record { base = base.0; folded = base.1; leads = as_records r base.0 now.world.image does })

  -- ---- a batch
  pub batches_held : DoAsRecords → (w : Hands F S) (r : VersionedEntry) → IsWhole w → CanBatch A B targets same forms acts_by S w r
      → IsWhole (record w { world = after_event acts_by w.world (Seals r) }) × IsFolded acts_by (contents (after_event acts_by w.world (Seals r)).sealed) w.world.image
  batches_held as_records w r whole can =
      let noted = whole.noted can.base can.folded in
      let does : Does B same forms r can.base w.world.image = record {
        value = records.Batch can.items;
        spelled = can.spelled;
        leads = sym (lead can.items can.base w.world.image noted.program noted.roots can.exact);
      } in (
        sealed_held w r whole.held
            (can.running, can.fits, record { base = can.base; folded = can.folded; leads = as_records r can.base w.world.image does }),
        folded_pushed acts_by w.world.sealed r (length w.world.history) can.base w.world.image can.folded (as_records r can.base w.world.image does),
      )

  -- ---- a procedure becomes a root, where the records give back the image
  root_held : DoAsRecords → (w : Hands F S) (name : List ℕ) (first : Option VersionedEntry) (r : VersionedEntry) (v : ProgramValue) (start : ℕ) → IsWhole w → w.world.mode ≡ Running
      → IsFolded acts_by (contents w.world.sealed) w.world.image → w.world.image.program ≡ Some v → procedures.start v name ≡ Some start
      → IsRecordOf forms (records.Root name) r → FitsNext A B targets same forms acts_by S w.world r
      → IsWhole (record {
        world = after_event acts_by (after_event acts_by w.world (Steps (Root name))) (Seals r);
        claims = claims_after A B targets same forms acts_by S w (Roots name first r);
        tally = tally_after A B targets same forms acts_by S w (Roots name first r);
      })
  root_held as_records w name first r v start whole running folded is_loaded starts spelled fits =
      let now : Hands F S = record {
        world = after_event acts_by w.world (Steps (Root name));
        claims = claims_after A B targets same forms acts_by S w (Roots name first r);
        tally = tally_after A B targets same forms acts_by S w (Roots name first r);
      } in
      let does : Does B same forms r w.world.image now.world.image = record { value = records.Root name; spelled = spelled; leads = refl } in
      sealed_held now r
      (record {
        world = kept acts_by exact laws w.world (Steps (Root name)) whole.held.world running;
        stored = whole.held.stored;
        work = λ u is by. work u is by;
        begun = λ u is by. begun u is by;
      })
      (running, fits, record { base = w.world.image; folded = folded; leads = as_records r w.world.image now.world.image does })
    where
      s : State F
      s = state_with w.world.image w.claims

      starts_by : (u : ProgramValue) → w.world.image.program ≡ Some u → procedures.start u name ≡ Some start
      starts_by u is = subst (λ (x : ProgramValue). procedures.start x name ≡ Some start) (some-inj (sym is_loaded ∙ is)) starts

      is_one : (u : ProgramValue) → w.world.image.program ≡ Some u → (by : GraphBy u)
          → state_with (step procedures B same w.world.image (Root name)) (claims_after A B targets same forms acts_by S w (Roots name first r))
          ≡ seeded_below B s start (procedures.entries u)
      is_one u is by = root_is procedures (frame_by A B targets by) same w.world.image w.claims u name start is (starts_by u is)

      absent : (u : ProgramValue) → w.world.image.program ≡ Some u
          → absent_in A B targets same forms acts_by S w.world.image.program name s ≡ absent_below B s start (procedures.entries u)
      absent u is =
          ap (λ o. absent_in A B targets same forms acts_by S o name s) is
          ∙ ap (λ o. absent_from A B targets same forms acts_by S u o s) (starts_by u is)

      work : (u : ProgramValue) → w.world.image.program ≡ Some u → (by : GraphBy u)
          → IsWorkTo (frame_by A B targets by) (tally_after A B targets same forms acts_by S w (Roots name first r))
          (state_with (step procedures B same w.world.image (Root name)) (claims_after A B targets same forms acts_by S w (Roots name first r)))
      work u is by =
          subst (λ (t : State F). IsWorkTo (frame_by A B targets by) (tally_after A B targets same forms acts_by S w (Roots name first r)) t) (sym (is_one u is by))
          (subst (λ (n : ℕ). IsWorkTo (frame_by A B targets by) (record w.tally { entries = w.tally.entries + n }) (seeded_below B s start (procedures.entries u))) (sym (absent u is))
          (seeded_on (frame_by A B targets by) w.tally s start (procedures.entries u) (known.starts by name start (starts_by u is)) (known.fits by) (whole.held.work u is by)))

      begun : (u : ProgramValue) → w.world.image.program ≡ Some u → (by : GraphBy u)
          → HaveStarts procedures (frame_by A B targets by) u (step procedures B same w.world.image (Root name)).get (w.world.image.roots ++ name ∷ [])
      begun u is by =
          let K = frame_by A B targets by in
          let t : State F = seeded_below B s start (procedures.entries u) in
          let begins_there = known.starts by name start (starts_by u is) in
          let way = seeds-below K s start begins_there (procedures.entries u) (known.fits by) in
          let run = run_now w whole.held u is by in
          subst (λ (get : Key → Option F). HaveStarts procedures K u get (w.world.image.roots ++ name ∷ [])) (sym (ap (λ (x : State F). x.get) (is_one u is by)))
          (starts_more procedures K u (known.lawful by) s t w.world.image.roots name run way.way (whole.held.begun u is by)
          (start_has procedures K u (known.lawful by) t name start (run-on K (known.lawful by) run way.way) (starts_by u is) begins_there
          (λ d less. entered-present K start s (procedures.entries u) d less)))

  begins_held : DoAsRecords → (w : Hands F S) (name : List ℕ) (first : Option VersionedEntry) (r : VersionedEntry) → IsWhole w
      → CanBegin A B targets same forms acts_by S w name first r → IsWhole (next A B targets same forms acts_by S w (Roots name first r))
  begins_held as_records w name None r whole can =
      let noted = whole.noted can.first.base can.first.folded in
      let is : can.first.base ≡ w.world.image = λ i. record {
        program = noted.program i;
        roots = noted.roots i;
        get = λ key. (can.first.entries key i).0;
        pending = λ key. (can.first.entries key i).1;
      } in
      root_held as_records w name None r can.program can.start whole can.running
      (subst (λ (i : ProgramImage F). IsFolded acts_by (contents w.world.sealed) i) is can.first.folded) can.loaded can.starts can.spelled can.fits
  begins_held as_records w name (Some batch) r whole can =
      let before = batches_held as_records w batch whole can.first in
      root_held as_records (record w { world = after_event acts_by w.world (Seals batch) }) name (Some batch) r can.program can.start before.0 can.running
      before.1 can.loaded can.starts can.spelled can.fits

  -- ---- an opening
  opened_held : (w : Hands F S) (found : List VersionedEntry) (image : ProgramImage F) (work : S.Work) (disks : S.Disks) → IsWhole w
      → Can acts_by w.world (Opens found image work disks)
      → IsWhole (next A B targets same forms acts_by S w (Happens (Opens found image work disks)))
  opened_held w found image work disks whole can =
      let is = read acts_by exact laws w.world found whole.held.world can.0 in
      let folded = is.image image can.1 in
      let good = whole.held.stored (length found) image folded in
      record {
        held = record {
          world = kept acts_by exact laws w.world (Opens found image work disks) whole.held.world can;
          stored = stored;
          work = λ v is by. begun_now (frame_by A B targets by) (image_state image) (good v is by).run;
          begun = λ v is by. (good v is by).begun;
        };
        noted = λ base other.
            noted_same image base (sym (one_image acts_by exact laws (contents (take (length found) w.world.sealed)) acts_by.empty base image other folded));
      }
    where
      m : ℕ
      m = length found

      stored : (n : ℕ) (other : ProgramImage F) → IsFolded acts_by (contents (take n (take m w.world.sealed))) other → IsGoodImage other
      stored n other folded = elim (cases_lt m n) [
        | inl over ↦ whole.held.stored m other
            (subst (λ (xs : List (Sealed VersionedEntry)). IsFolded acts_by (contents xs) other) (take_more n m w.world.sealed (omega arith)) folded)
        | inr under ↦ whole.held.stored n other
            (subst (λ (xs : List (Sealed VersionedEntry)). IsFolded acts_by (contents xs) other) (take-take n m w.world.sealed under) folded)
      ]

  -- what happens else leaves images, records and claims
  still_held : (w : Hands F S) (e : ProgramEvent F S) → IsWhole w → Can acts_by w.world e
      → (after_event acts_by w.world e).image ≡ w.world.image → (after_event acts_by w.world e).sealed ≡ w.world.sealed
      → IsWhole (record w { world = after_event acts_by w.world e })
  still_held w e whole can same_image same_sealed = record {
    held = record {
      world = kept acts_by exact laws w.world e whole.held.world can;
      stored = λ n image folded. whole.held.stored n image (subst (λ (xs : List (Sealed VersionedEntry)). IsFolded acts_by (contents (take n xs)) image) same_sealed folded);
      work = λ v is by.
          subst (λ (i : ProgramImage F). IsWorkTo (frame_by A B targets by) w.tally (state_with i w.claims)) (sym same_image)
          (whole.held.work v (sym (ap (λ (i : ProgramImage F). i.program) same_image) ∙ is) by);
      begun = λ v is by.
          subst (λ (i : ProgramImage F). HaveStarts procedures (frame_by A B targets by) v i.get i.roots) (sym same_image)
          (whole.held.begun v (sym (ap (λ (i : ProgramImage F). i.program) same_image) ∙ is) by);
    };
    noted = λ base folded.
        subst (λ (i : ProgramImage F). IsNoted i base) (sym same_image)
        (whole.noted base (subst (λ (xs : List (Sealed VersionedEntry)). IsFolded acts_by (contents xs) base) same_sealed folded));
  }

  happens_held : (w : Hands F S) (e : ProgramEvent F S) → IsWhole w → IsOfStore e × Can acts_by w.world e
      → IsWhole (next A B targets same forms acts_by S w (Happens e))
  happens_held w (Steps s) whole can = absurd can.0
  happens_held w (Seals r) whole can = absurd can.0
  happens_held w (Begins work) whole can = still_held w (Begins work) whole can.1 refl refl
  happens_held w (Calls work disks) whole can = still_held w (Calls work disks) whole can.1 refl refl
  happens_held w (Stores work disks) whole can = still_held w (Stores work disks) whole can.1 refl refl
  happens_held w (Fails disks) whole can = still_held w (Fails disks) whole can.1 refl refl
  happens_held w Acks whole can = still_held w Acks whole can.1 refl refl
  happens_held w (Crashes left) whole can = still_held w (Crashes left) whole can.1 refl refl
  happens_held w (Opens found image work disks) whole can = opened_held w found image work disks whole can.1
  happens_held w (Stops disks mode) whole can = still_held w (Stops disks mode) whole can.1 refl refl

  -- ---- all acts
  act_held : DoAsRecords → (w : Hands F S) (act : Act F S) → IsWhole w → Allowed A B targets same forms acts_by S w act
      → IsWhole (next A B targets same forms acts_by S w act)
  act_held as_records w (Claims h q parts) whole can = claims_held w h q parts whole can
  act_held as_records w (Parts h key g) whole can = parts_held w h key g whole can
  act_held as_records w (Ends h c) whole can = ends_held w h c whole can
  act_held as_records w (Releases h) whole can = releases_held w h whole can
  act_held as_records w (Loads v r) whole can = loads_held as_records w v r whole can
  act_held as_records w (Roots name first r) whole can = begins_held as_records w name first r whole can
  act_held as_records w (Batches r) whole can = (batches_held as_records w r whole can).0
  act_held as_records w (Happens e) whole can = happens_held w e whole can

  pub all_held : DoAsRecords → (w : Hands F S) (acts : List (Act F S)) → IsWhole w → AreAllowed A B targets same forms acts_by S w acts
      → IsWhole (worked A B targets same forms acts_by S w acts)
  all_held as_records w [] whole can = whole
  all_held as_records w (act ∷ acts) whole can =
      all_held as_records (next A B targets same forms acts_by S w act) acts (act_held as_records w act whole can.0) can.1

  pub idle_held : (work : S.Work) (disks : S.Disks) → S.Live [] 0 work disks → IsWhole (idle A B targets same forms acts_by S work disks)
  idle_held work disks live = record {
    held = record {
      world = kept_created acts_by exact laws work disks live;
      stored = λ n image folded. empty n image folded;
      work = λ v is by. cc (is);
      begun = λ v is by. cc (is);
    };
    noted = λ base folded. noted_same (loaded None) base folded;
  }
    where
      empty : (n : ℕ) (image : ProgramImage F) → IsFolded acts_by (contents (take n [])) image → IsGoodImage image
      empty zero image folded = subst IsGoodImage folded (λ v is by. cc (is))
      empty (suc n) image folded = subst IsGoodImage folded (λ v is by. cc (is))

  -- ---- what it gives
  few : (w : Hands F S) → IsHeld w → (v : ProgramValue) → w.world.image.program ≡ Some v → (by : GraphBy v) → IsWorkFew A B targets by w.tally
  few w held v is by =
      let K = frame_by A B targets by in
      let work = held.work v is by in
      let s = state_with w.world.image w.claims in
      let keys = known.keys by in
      let within = keys.2 s (run_now w held v is by) in
      let ranks = lowerings-few K (known.lawful by) in
      let spent = ranks.spent s.get keys.0 in
      let lowered = ranks.lowerings w.tally.begun s work.run work.way keys.0 within in
      let room : length keys.0 * B.height ≡ key_space by.graph * B.height = ap (λ n. n * B.height) keys.1 in
      record {
        claims = λ pending has.
            let paid = claims-paid K (known.lawful by) w.tally.begun s work.run work.way pending has (λ key. true) (λ h c mine fresh. refl) in
            omega (arith, paid, work.claims, work.lowerings, work.releases, work.entries);
        lowerings = omega (arith, lowered, spent, work.lowerings, room);
        entries = λ apart.
            let both = ranks.seeds apart w.tally.begun s work.run work.way keys.0 within in
            omega (arith, both, spent, work.lowerings, work.entries, room);
      }

  pub sound : (w : Hands F S) → IsWhole w → IsSoundWorld A B targets same forms acts_by S w
  sound w whole = record {
    recovers = recoverable acts_by exact laws w.world whole.held.world;
    answers = λ v is by.
        let good = good_now w whole.held v is by in
        record {
          roots = has_roots procedures (frame_by A B targets by) v (known.lawful by) w.world.image good;
          best = λ quiet start started n d less.
              good_is_best procedures (frame_by A B targets by) v (known.lawful by) w.world.image (known.starts by) good quiet start started n d less;
        };
    work = few w whole.held;
  }

  pub every_run_answers : DoAsRecords → EveryRunAnswers A B targets same forms acts_by S
  every_run_answers as_records work disks live acts can =
      let begun = idle A B targets same forms acts_by S work disks in
      sound (worked A B targets same forms acts_by S begun acts) (all_held as_records begun acts (idle_held work disks live) can)

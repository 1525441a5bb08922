-- The world of a store with the hands that work on its image: what each of them may do, and what that is to the store.
use Rattle.std.specs.Prelude.{◌≡◌, ◌≢◌, ℕ, ◌+◌, Bool, true, cond, List, [], ◌∷◌, Option, Some, None, length}
use Rattle.ide_batch.specs.Fold.{IsBatch, ProgramImage, image_entry, procedures}
use Rattle.ide_batch.specs.Items.{Functions, Item}
use Rattle.ide_batch.specs.Records as records
use Rattle.ide_lattice.specs.Algebra.{LatticeAlgebra, EdgeAlgebra}
use Rattle.ide_problem.specs.Flow.{Targets}
use Rattle.ide_text.specs.Parsed.{IsParsed}
use Rattle.ide_text.specs.Program.{value_of}
use Rattle.ide_text.specs.Value.{ProgramValue}
use Rattle.ide_text.specs.declared.program.Program.{Program}
use Rattle.ide_theory.specs.Images.{Part, Finish, Load, Root, absent_below, entered, is_met, loaded, received, image_state}
use Rattle.ide_theory.specs.Run.{ArePartsOf}
use Rattle.ide_theory.specs.State.{Claim, State, finished, new_claim, part_done, with_claim}
use Rattle.ide_wire.specs.declared.key.Key.{Key}
use Rattle.ide_store.specs.Answers.{AnswersBest, GraphBy, IsWorkFew, frame_by}
use Rattle.ide_store.specs.Machine.{IsRecordOf, ProgramStep}
use Rattle.ide_store.specs.Store.{Store}
use Rattle.ide_store.specs.Tally.{Tally, nothing_since, state_with}
use Rattle.ide_store.specs.Versioned.{VersionedEntry}
use Rattle.ide_store.specs.World.{Can, Event, IsFolded, IsRecoverable, Opens, Rules, Running, Seals, Steps, World, after_all, contents, created}

abbrev pub ProgramWorld : (F : Type 0) → Store VersionedEntry → Type 0
ProgramWorld F S = World (ProgramImage F) (ProgramStep F) S

abbrev pub ProgramEvent : (F : Type 0) → Store VersionedEntry → Type 0
ProgramEvent F S = Event (ProgramImage F) (ProgramStep F) S

-- the world of a store, the claim of each hand, and what they did since an opening or a load
pub record Hands (F : Type 0) (S : Store VersionedEntry) : Type 0 where
  pub world : ProgramWorld F S
  pub claims : ℕ → Option (Claim F)
  pub tally : Tally F

-- a hand claims a key and owes these parts, does its next part, ends its claim or gives it back; a program is loaded, with
-- its record; a procedure becomes a root, with its record, and before it one of what changed, if anything did; what
-- changed is sealed; or something happens to the store
pub data Act (F : Type 0) (S : Store VersionedEntry) : Type 0 where
  Claims : ℕ → Key → List (Key × F) → Act F S
  Parts : ℕ → Key → F → Act F S
  Ends : ℕ → Claim F → Act F S
  Releases : ℕ → Act F S
  Loads : ProgramValue → VersionedEntry → Act F S
  Roots : List ℕ → Option VersionedEntry → VersionedEntry → Act F S
  Batches : VersionedEntry → Act F S
  Happens : ProgramEvent F S → Act F S

-- what happens to a store by itself
abbrev pub IsOfStore : {F : Type 0} {S : Store VersionedEntry} → ProgramEvent F S → Type 0
IsOfStore (Steps s) = ⊥
IsOfStore (Seals r) = ⊥
IsOfStore e = Unit {0}

abbrev pub sealing_first : {F : Type 0} {S : Store VersionedEntry} → Option VersionedEntry → List (ProgramEvent F S) → List (ProgramEvent F S)
sealing_first None events = events
sealing_first (Some batch) events = Seals batch ∷ events

-- what an act is to the store
abbrev pub events_of : {F : Type 0} {S : Store VersionedEntry} → Act F S → List (ProgramEvent F S)
events_of (Claims h q parts) = []
events_of (Parts h key g) = Steps (Part key g) ∷ []
events_of (Ends h c) = Steps (Finish c.key c.lowered) ∷ []
events_of (Releases h) = []
events_of (Loads v r) = Steps (Load v) ∷ Seals r ∷ []
events_of (Roots name first r) = sealing_first first (Steps (Root name) ∷ Seals r ∷ [])
events_of (Batches r) = Seals r ∷ []
events_of (Happens e) = e ∷ []

-- over a store whose records do what the rules say
module _ {F L : Type 0} (A : LatticeAlgebra L) (B : EdgeAlgebra F L) (targets : Targets F) (same : F → F → Bool)
    (forms : Functions F) (rules : Rules (ProgramImage F) (ProgramStep F) VersionedEntry) (S : Store VersionedEntry) where
  -- the image and the claims as a state of the tabulation
  abbrev pub state_in : Hands F S → State F
  state_in w = state_with w.world.image w.claims

  -- an opening leaves no claims, nor does a crash matter before one
  abbrev pub claims_then : (ℕ → Option (Claim F)) → ProgramEvent F S → ℕ → Option (Claim F)
  claims_then claims (Opens found image work disks) = λ h. None
  claims_then claims e = claims

  abbrev pub claims_after : Hands F S → Act F S → ℕ → Option (Claim F)
  claims_after w (Claims h q parts) = (with_claim (state_in w) h (Some (new_claim q parts))).claims
  claims_after w (Parts h key g) = (part_done (received procedures B same (state_in w) key g) h).claims
  claims_after w (Ends h c) = (finished (state_in w) h c).claims
  claims_after w (Releases h) = (with_claim (state_in w) h None).claims
  claims_after w (Loads v r) = λ h. None
  claims_after w (Roots name first r) = (entered procedures B same w.world.image.program name (state_in w)).claims
  claims_after w (Batches r) = w.claims
  claims_after w (Happens e) = claims_then w.claims e

  -- how many entries at the start of a procedure are absent
  abbrev pub absent_from : ProgramValue → Option ℕ → State F → ℕ
  absent_from v None s = 0
  absent_from v (Some r) s = absent_below B s r (procedures.entries v)

  abbrev pub absent_in : Option ProgramValue → List ℕ → State F → ℕ
  absent_in None name s = 0
  absent_in (Some v) name s = absent_from v (procedures.start v name) s

  abbrev pub tally_then : Tally F → ProgramEvent F S → Tally F
  tally_then tally (Opens found image work disks) = nothing_since (image_state image)
  tally_then tally e = tally

  abbrev pub tally_after : Hands F S → Act F S → Tally F
  tally_after w (Claims h q parts) = record w.tally { claims = w.tally.claims + 1 }
  tally_after w (Parts h key g) = record w.tally { lowerings = w.tally.lowerings + cond (is_met procedures B same (state_in w) key g) 0 1 }
  tally_after w (Ends h c) = w.tally
  tally_after w (Releases h) = record w.tally { releases = w.tally.releases + 1 }
  tally_after w (Loads v r) = nothing_since (image_state {F = F} (loaded {Name = List ℕ} (Some v)))
  tally_after w (Roots name first r) = record w.tally { entries = w.tally.entries + absent_in w.world.image.program name (state_in w) }
  tally_after w (Batches r) = w.tally
  tally_after w (Happens e) = tally_then w.tally e

  abbrev pub next : Hands F S → Act F S → Hands F S
  next w act = record { world = after_all rules w.world (events_of act); claims = claims_after w act; tally = tally_after w act }

  -- the hand is free, the key is pending and no hand's, and the parts are those that it owes over each graph of the program
  pub record CanClaim (w : Hands F S) (h : ℕ) (q : Key) (parts : List (Key × F)) : Type 0 where
    pub running : w.world.mode ≡ Running
    pub free : w.claims h ≡ None
    pub pending : w.world.image.pending q ≡ true
    pub alone : (j : ℕ) (c : Claim F) → w.claims j ≡ Some c → c.key ≢ q
    pub program : ProgramValue
    pub loaded : w.world.image.program ≡ Some program
    pub owes : (by : GraphBy program) → ArePartsOf (frame_by A B targets by) w.world.image.get q parts

  -- the part is the next one of the hand's claim
  pub record CanPart (w : Hands F S) (h : ℕ) (key : Key) (g : F) : Type 0 where
    pub running : w.world.mode ≡ Running
    pub claim : Claim F
    pub rest : List (Key × F)
    pub mine : w.claims h ≡ Some claim
    pub next : claim.parts ≡ (key, g) ∷ rest

  -- the hand's claim has no part left
  pub record CanEnd (w : Hands F S) (h : ℕ) (c : Claim F) : Type 0 where
    pub running : w.world.mode ≡ Running
    pub mine : w.claims h ≡ Some c
    pub over : c.parts ≡ []

  -- the hand has a claim
  pub record CanRelease (w : Hands F S) (h : ℕ) : Type 0 where
    pub running : w.world.mode ≡ Running
    pub claim : Claim F
    pub mine : w.claims h ≡ Some claim

  -- the next record may be this one
  abbrev pub FitsNext : ProgramWorld F S → VersionedEntry → Type 0
  FitsNext w r = S.Fits w.work (length (contents w.sealed)) r

  -- the record has a text of the program
  pub record CanLoad (w : Hands F S) (v : ProgramValue) (r : VersionedEntry) : Type 0 where
    pub running : w.world.mode ≡ Running
    pub text : List ℕ
    pub program : Program
    pub parsed : IsParsed text program
    pub says : value_of program ≡ v
    pub spelled : IsRecordOf forms (records.Load text) r
    pub fits : FitsNext w.world r

  -- the record tells what changed since the last one
  pub record CanBatch (w : Hands F S) (r : VersionedEntry) : Type 0 where
    pub running : w.world.mode ≡ Running
    pub base : ProgramImage F
    pub folded : IsFolded rules (contents w.world.sealed) base
    pub items : List (Item F)
    pub exact : IsBatch items base w.world.image
    pub spelled : IsRecordOf forms (records.Batch items) r
    pub fits : FitsNext w.world r

  -- nothing changed since the last record
  pub record IsCaughtUp (w : Hands F S) : Type 0 where
    pub base : ProgramImage F
    pub folded : IsFolded rules (contents w.world.sealed) base
    pub entries : (key : Key) → image_entry base key ≡ image_entry w.world.image key

  abbrev pub CanGoFirst : Hands F S → Option VersionedEntry → Type 0
  CanGoFirst w None = IsCaughtUp w
  CanGoFirst w (Some batch) = CanBatch w batch

  -- the program has the procedure, and the record names it
  pub record CanBegin (w : Hands F S) (name : List ℕ) (batch : Option VersionedEntry) (r : VersionedEntry) : Type 0 where
    pub running : w.world.mode ≡ Running
    pub program : ProgramValue
    pub loaded : w.world.image.program ≡ Some program
    pub start : ℕ
    pub starts : procedures.start program name ≡ Some start
    pub first : CanGoFirst w batch
    pub spelled : IsRecordOf forms (records.Root name) r
    pub fits : FitsNext (after_all rules w.world (sealing_first batch [])) r

  abbrev pub Allowed : Hands F S → Act F S → Type 0
  Allowed w (Claims h q parts) = CanClaim w h q parts
  Allowed w (Parts h key g) = CanPart w h key g
  Allowed w (Ends h c) = CanEnd w h c
  Allowed w (Releases h) = CanRelease w h
  Allowed w (Loads v r) = CanLoad w v r
  Allowed w (Roots name batch r) = CanBegin w name batch r
  Allowed w (Batches r) = CanBatch w r
  Allowed w (Happens e) = IsOfStore e × Can rules w.world e

  -- each of the acts is allowed after those before it
  abbrev pub AreAllowed : Hands F S → List (Act F S) → Type 0
  AreAllowed w [] = Unit {0}
  AreAllowed w (act ∷ acts) = Allowed w act × AreAllowed (next w act) acts

  abbrev pub worked : Hands F S → List (Act F S) → Hands F S
  worked w [] = w
  worked w (act ∷ acts) = worked (next w act) acts

  -- a store that was just created
  abbrev pub idle : S.Work → S.Disks → Hands F S
  idle work disks = record { world = created rules work disks; claims = λ h. None; tally = nothing_since (image_state (rules.empty)) }

  -- what is so whatever was done and happened before: it recovers; and over each graph of the image's program its answers
  -- are best, and the work since the last opening or load was little
  pub record IsSoundWorld (w : Hands F S) : Type 0 where
    pub recovers : IsRecoverable rules w.world
    pub answers : (v : ProgramValue) → w.world.image.program ≡ Some v → (by : GraphBy v) → AnswersBest A B targets by w.world.image
    pub work : (v : ProgramValue) → w.world.image.program ≡ Some v → (by : GraphBy v) → IsWorkFew A B targets by w.tally

  -- over every list of acts from that world
  abbrev pub RunsAnswer : Hands F S → Type 0
  RunsAnswer start = (acts : List (Act F S)) → AreAllowed start acts → IsSoundWorld (worked start acts)

  -- over every list of acts from a new store
  abbrev pub EveryRunAnswers : Type 0
  EveryRunAnswers = (work : S.Work) (disks : S.Disks) → S.Live [] 0 work disks → RunsAnswer (idle work disks)

-- The world of a store: what a machine did, which records are sealed, stored and acknowledged, and
-- what may happen next.
use Rattle.std.specs.Prelude.{◌≡◌, ℕ, ◌+◌, ◌≤◌, List, [], ◌∷◌, ◌++◌, length, take, map, fold}
use Rattle.ide_store.specs.Store.{Store}

-- a machine: its image at the beginning, what a step does to it, and from which image to which a record leads
pub record Rules (Image Step R : Type 0) : Type 1 where
  pub empty : Image
  pub step : Image → Step → Image
  pub Leads : R → Image → Image → Type 0

-- a record leads from an image to one other at most
abbrev pub AreExact : {Image Step R : Type 0} → Rules Image Step R → Type 0
AreExact {Image} {Step} {R} rules = (r : R) (before now other : Image) → rules.Leads r before now → rules.Leads r before other → now ≡ other

abbrev pub image_after : {Image Step R : Type 0} → Rules Image Step R → List Step → Image
image_after rules history = fold rules.step rules.empty history

-- the records lead, one after the other, from the one image to the other
abbrev pub LeadTo : {Image Step R : Type 0} → Rules Image Step R → List R → Image → Image → Type 0
LeadTo rules [] before now = before ≡ now
LeadTo {Image} rules (r ∷ records) before now = (between : Image) × rules.Leads r before between × LeadTo rules records between now

-- the image that the records give back
abbrev pub IsFolded : {Image Step R : Type 0} → Rules Image Step R → List R → Image → Type 0
IsFolded rules records image = LeadTo rules records rules.empty image

-- two lists of as many records give back the same image
pub record AreAlike {Image Step R : Type 0} (rules : Rules Image Step R) (found other : List R) : Type 0 where
  pub count : length found ≡ length other
  pub there : (image : Image) → IsFolded rules found image → IsFolded rules other image
  pub back : (image : Image) → IsFolded rules other image → IsFolded rules found image

-- a sealed record, and how long the history was then
pub record Sealed (R : Type 0) : Type 0 where
  pub content : R
  pub mark : ℕ

abbrev pub contents : {R : Type 0} → List (Sealed R) → List R
contents sealed = map (λ s. s.content) sealed

-- how long the history was when the last of them was sealed: 0 where there is none
abbrev pub last_mark : {R : Type 0} → List (Sealed R) → ℕ
last_mark sealed = fold (λ mark s. s.mark) 0 sealed

pub data Mode : Type 0 where
  Running : Mode
  Failed : Mode
  Closed : Mode

pub record World (Image Step : Type 0) {R : Type 0} (S : Store R) : Type 0 where
  pub image : Image
  -- the steps since the store was created that are not lost
  pub history : List Step
  pub sealed : List (Sealed R)
  -- how many of the sealed records are stored, and how many of those are acknowledged
  pub stored : ℕ
  pub acked : ℕ
  pub work : S.Work
  pub disks : S.Disks
  pub mode : Mode

-- what happens; of the store, each event tells how it stands then
pub data Event (Image Step : Type 0) {R : Type 0} (S : Store R) : Type 0 where
  Steps : Step → Event Image Step S
  Seals : R → Event Image Step S
  Begins : S.Work → Event Image Step S
  Calls : S.Work → S.Disks → Event Image Step S
  Stores : S.Work → S.Disks → Event Image Step S
  Fails : S.Disks → Event Image Step S
  Acks : Event Image Step S
  Crashes : S.Left → Event Image Step S
  Opens : List R → Image → S.Work → S.Disks → Event Image Step S
  Stops : S.Disks → Mode → Event Image Step S

-- after an opening that found so many records: the history is cut where the last of them was sealed
abbrev pub opened : {Image Step R : Type 0} {S : Store R} → World Image Step S → List R → Image → S.Work → S.Disks → World Image Step S
opened w found image work disks = record {
  image = image;
  history = take (last_mark (take (length found) w.sealed)) w.history;
  sealed = take (length found) w.sealed;
  stored = length found;
  acked = length found;
  work = work;
  disks = disks;
  mode = Running;
}

abbrev pub after_event : {Image Step R : Type 0} {S : Store R} → Rules Image Step R → World Image Step S → Event Image Step S → World Image Step S
after_event rules w (Steps s) = record w { image = rules.step w.image s; history = w.history ++ s ∷ [] }
after_event rules w (Seals r) = record w { sealed = w.sealed ++ record { content = r; mark = length w.history } ∷ [] }
after_event rules w (Begins work) = record w { work = work }
after_event rules w (Calls work disks) = record w { work = work; disks = disks }
after_event rules w (Stores work disks) = record w { stored = w.stored + 1; work = work; disks = disks }
after_event rules w (Fails disks) = record w { disks = disks; mode = Failed }
after_event rules w Acks = record w { acked = w.stored }
after_event {S = S} rules w (Crashes left) = record w { disks = S.crashed left; mode = Closed }
after_event rules w (Opens found image work disks) = opened w found image work disks
after_event rules w (Stops disks mode) = record w { disks = disks; mode = mode }

-- the record leads from the image of those sealed to that of the machine
pub record Catches {Image Step R : Type 0} {S : Store R} (rules : Rules Image Step R) (w : World Image Step S) (r : R) : Type 0 where
  pub base : Image
  pub folded : IsFolded rules (contents w.sealed) base
  pub leads : rules.Leads r base w.image

-- when it may happen
abbrev pub Can : {Image Step R : Type 0} {S : Store R} → Rules Image Step R → World Image Step S → Event Image Step S → Type 0
Can rules w (Steps s) = w.mode ≡ Running
Can {S = S} rules w (Seals r) =
    (w.mode ≡ Running) × S.Fits w.work (length (contents w.sealed)) r × Catches rules w r
Can {S = S} rules w (Begins work) = (w.mode ≡ Running) × S.Begins (contents w.sealed) w.work work
Can {S = S} rules w (Calls work disks) = (w.mode ≡ Running) × S.Calls (contents w.sealed) w.stored w.work w.disks work disks
Can {S = S} rules w (Stores work disks) = (w.mode ≡ Running) × S.Stores (contents w.sealed) w.stored w.work w.disks work disks
Can {S = S} rules w (Fails disks) = (w.mode ≡ Running) × S.Fails (contents w.sealed) w.stored w.work w.disks disks
Can rules w Acks = Unit {0}
Can {S = S} rules w (Crashes left) = S.Leaves w.disks left
Can {S = S} rules w (Opens found image work disks) = S.Holds found (S.reads w.disks) × IsFolded rules found image × S.Opens w.disks work disks
Can {S = S} rules w (Stops disks mode) = (mode ≡ Running → ⊥) × S.Stops w.disks disks

-- each of the events can happen after those before it
abbrev pub CanAll : {Image Step R : Type 0} {S : Store R} → Rules Image Step R → World Image Step S → List (Event Image Step S) → Type 0
CanAll rules w [] = Unit {0}
CanAll rules w (e ∷ events) = Can rules w e × CanAll rules (after_event rules w e) events

abbrev pub after_all : {Image Step R : Type 0} {S : Store R} → Rules Image Step R → World Image Step S → List (Event Image Step S) → World Image Step S
after_all rules w [] = w
after_all rules w (e ∷ events) = after_all rules (after_event rules w e) events

-- a store that was just created
abbrev pub created : {Image Step R : Type 0} {S : Store R} → Rules Image Step R → S.Work → S.Disks → World Image Step S
created rules work disks = record {
  image = rules.empty;
  history = [];
  sealed = [];
  stored = 0;
  acked = 0;
  work = work;
  disks = disks;
  mode = Running;
}

-- the history is a beginning of what it was
pub record IsBeginning {Step : Type 0} (before now : List Step) : Type 0 where
  pub count : ℕ
  pub is : now ≡ take count before

-- an opening gives the image after a beginning of the steps, with all those before the last acknowledged record
pub record Recovers {Image Step R : Type 0} {S : Store R} (rules : Rules Image Step R) (before now : World Image Step S) : Type 0 where
  pub image : now.image ≡ image_after rules now.history
  pub beginning : IsBeginning before.history now.history
  pub acknowledged : last_mark (take before.acked before.sealed) ≤ length now.history

-- what is so of a world, whatever happened before
pub record IsRecoverable {Image Step R : Type 0} {S : Store R} (rules : Rules Image Step R) (w : World Image Step S) : Type 0 where
  pub running : w.mode ≡ Running → w.image ≡ image_after rules w.history
  pub recovers : (found : List R) (image : Image) (work : S.Work) (disks : S.Disks) → Can rules w (Opens found image work disks)
      → Recovers rules w (opened w found image work disks)
  pub opens : (found : List R) × (image : Image) × (work : S.Work) × (disks : S.Disks) × Can rules w (Opens found image work disks)

-- over every list of events from a new store
abbrev pub EveryRunRecovers : {Image Step R : Type 0} (S : Store R) → Rules Image Step R → Type 0
EveryRunRecovers {Image} {Step} S rules =
    (work : S.Work) (disks : S.Disks) → S.Live [] 0 work disks → (events : List (Event Image Step S))
    → CanAll rules (created rules work disks) events
    → IsRecoverable rules (after_all rules (created {S = S} rules work disks) events)

-- That each kind of record is applied by one step of the fold, or refused as it should be.
use Rattle.std.specs.Prelude.{◌≡◌, ◌≢◌, ◌⊎◌, ℕ, Bool, List, [], Option, Some, Result, Ok, Err, IfErr, OnOk, OnErr}
use Rattle.std.specs.Option.{IsSomeAnd}
use Rattle.std.proofs.Common.{ap, sym, subst, refl, ◌∙◌, inl, inr, arith}
use Rattle.ide_graph.specs.Supergraph.{Supergraph}
use Rattle.ide_journal.specs.Format.{Entry}
use Rattle.ide_journal.specs.declared.version.Version.{Version}
use Rattle.ide_lattice.specs.Algebra.{LatticeAlgebra, EdgeAlgebra}
use Rattle.ide_problem.specs.Flow.{Targets}
use Rattle.ide_steps.specs.Core.{CoreData, IsUnchanged}
use Rattle.ide_steps.specs.Refusal.{IsRootName}
use Rattle.ide_steps.specs.Rooted.{IsBegun}
use Rattle.ide_text.specs.Parsed.{IsParsed}
use Rattle.ide_text.specs.Program.{value_of}
use Rattle.ide_text.specs.declared.program.Program.{Program}
use Rattle.ide_theory.specs.Images.{Root as root_step, loaded, step}
use Rattle.ide_wire.specs.declared.refused.Refused.{Refused}
use Rattle.ide_wire.specs.declared.refused.Refused.TheVariants.{NoMemory, Damaged}
use Rattle.ide_image.specs.Worklist.{IsFree, claim_at}
use Rattle.ide_batch.specs.Applied.{ApplyRefusal, CanApply, IsApplied, LoadsText, MayBeRoot, RefusesRecord, SetsBody, SetsSome, SpellsFitting, damaged, memory}
use Rattle.ide_batch.specs.Bodies.{AreSpelled}
use Rattle.ide_batch.specs.Fold.{procedures, with_items}
use Rattle.ide_batch.specs.Items.{Functions}
use Rattle.ide_batch.specs.Records.{Load, Root, Batch}
use Rattle.ide_batch.proofs.Imaged.{has_items, has_loaded, has_root}
use Rattle.ide_batch.proofs.Sets.{sets_none, sets_unchanged}

other_refusal : (n : ℕ) → Damaged n ≢ NoMemory
other_refusal n same = cc (same)

module _ {F : Type 0} (functions : Functions F) (version : Version) (n : ℕ) (old new : CoreData F) (entry : Entry) where
  abbrev Refusal : Refused → Type 0
  Refusal = ApplyRefusal functions version n old new entry

  not_load : entry.0 ≡ 1 → ¬ ((p : Program) × IsParsed entry.1 p) → ¬ (CanApply functions version old entry)
  not_load kind not (Load text, spelled, fits) = not (subst (λ t. (p : Program) × IsParsed t p) (sym spelled.body) fits)
  not_load kind not (Root name, spelled, fits) = let both = sym kind ∙ spelled.kind in omega (arith, both)
  not_load kind not (Batch items, spelled, fits) = let both = sym kind ∙ spelled.kind in omega (arith, both)

  not_root : entry.0 ≡ 2 → ¬ (MayBeRoot old entry.1) → ¬ (CanApply functions version old entry)
  not_root kind not (Load text, spelled, fits) = let both = sym kind ∙ spelled.kind in omega (arith, both)
  not_root kind not (Root name, spelled, fits) = not (subst (MayBeRoot old) (sym spelled.body) fits)
  not_root kind not (Batch items, spelled, fits) = let both = sym kind ∙ spelled.kind in omega (arith, both)

  not_batch : entry.0 ≡ 3 → ¬ (SpellsFitting functions version old entry.1) → ¬ (CanApply functions version old entry)
  not_batch kind not (Load text, spelled, fits) = let both = sym kind ∙ spelled.kind in omega (arith, both)
  not_batch kind not (Root name, spelled, fits) = let both = sym kind ∙ spelled.kind in omega (arith, both)
  not_batch kind not (Batch items, spelled, fits) = not (items, spelled.body, fits)

  pub not_kind : entry.0 ≢ 1 → entry.0 ≢ 2 → entry.0 ≢ 3 → ¬ (CanApply functions version old entry)
  not_kind a b c (Load text, spelled, fits) = a spelled.kind
  not_kind a b c (Root name, spelled, fits) = b spelled.kind
  not_kind a b c (Batch items, spelled, fits) = c spelled.kind

  kept_none : IsUnchanged old new → Refusal NoMemory
  kept_none stays = memory [] (inl refl) (λ image has. has_items image old new [] has (sets_unchanged old old new [] (sets_none old) stays))

  unchanged_by : new ≡ old → IsUnchanged old new
  unchanged_by same = record {
    program = ap (λ (core : CoreData F). core.program) same;
    graph = ap (λ (core : CoreData F). core.graph) same;
    roots = ap (λ (core : CoreData F). core.roots) same;
    table = ap (λ (core : CoreData F). core.table) same;
    pending = ap (λ (core : CoreData F). core.pile.pending) same;
    claims = λ hand. ap (λ (core : CoreData F). claim_at core.pile hand) same;
    changes = ap (λ (core : CoreData F). core.changes) same;
  }

  refused_by : (Fitting : Type 0) → (¬ Fitting → ¬ (CanApply functions version old entry)) → (e : Refused) → RefusesRecord n Fitting e
      → (e ≡ NoMemory) ⊎ (new ≡ old) → (e ≡ NoMemory → Refusal NoMemory) → Refusal e
  refused_by Fitting not e (inl is) stays wanting = subst Refusal (sym is) (wanting is)
  refused_by Fitting not e (inr (is, unfit)) (inl wrong) wanting = absurd (other_refusal n (sym is ∙ wrong))
  refused_by Fitting not e (inr (is, unfit)) (inr same) wanting = subst Refusal (sym is) (damaged (not unfit) same)

  pub load_refused : {T : Type 0} (result : Result T Refused) (text : List ℕ) → entry.0 ≡ 1 → text ≡ entry.1
      → IfErr result (RefusesRecord n ((p : Program) × IsParsed text p)) → OnErr result (new ≡ old) → IfErr result Refusal
  load_refused (Ok x) text kind is refuses same = tt
  load_refused (Err e) text kind is refuses same =
      refused_by ((p : Program) × IsParsed text p) (λ unfit. not_load kind (λ fits. unfit (subst (λ t. (p : Program) × IsParsed t p) (sym is) fits)))
      e refuses (inr same) (λ wanting. kept_none (unchanged_by same))

  pub root_refused : {T : Type 0} (result : Result T Refused) (name : List ℕ) → entry.0 ≡ 2 → name ≡ entry.1
      → IfErr result (RefusesRecord n (MayBeRoot old name)) → IfErr result (λ e. (e ≡ NoMemory) ⊎ (new ≡ old)) → OnErr result (IsUnchanged old new)
      → IfErr result Refusal
  root_refused (Ok x) name kind is refuses same stays = tt
  root_refused (Err e) name kind is refuses same stays =
      refused_by (MayBeRoot old name) (λ unfit. not_root kind (λ fits. unfit (subst (MayBeRoot old) (sym is) fits))) e refuses same (λ wanting. kept_none stays)

  kept_some : SetsSome functions version old new entry.1 → entry.0 ≡ 3 → Refusal NoMemory
  kept_some (inl stays) kind = kept_none stays
  kept_some (inr (items, body, front)) kind =
      memory front.kept (inr (front.rest, record { kind = kind; body = subst (λ xs. AreSpelled functions version xs entry.1) front.parts body }))
      (λ image has. has_items image old new front.kept has front.sets)

  pub batch_refused : {T : Type 0} (result : Result T Refused) (body : List ℕ) → entry.0 ≡ 3 → body ≡ entry.1
      → IfErr result (RefusesRecord n (SpellsFitting functions version old body)) → IfErr result (λ e. (e ≡ NoMemory) ⊎ (new ≡ old))
      → OnErr result (SetsSome functions version old new body) → IfErr result Refusal
  batch_refused (Ok x) body kind is refuses same some = tt
  batch_refused (Err e) body kind is refuses same some =
      refused_by (SpellsFitting functions version old body) (λ unfit. not_batch kind (λ fits. unfit (subst (SpellsFitting functions version old) (sym is) fits)))
      e refuses same (λ wanting. kept_some (subst (SetsSome functions version old new) is some) kind)

module _ {F L : Type 0} (functions : Functions F) (version : Version) (A : LatticeAlgebra L) (B : EdgeAlgebra F L) (targets : Targets F) (same : F → F → Bool)
    (old new : CoreData F) (entry : Entry) where
  pub load_applied : {T E : Type 0} (result : Result T E) (text : List ℕ) → entry.0 ≡ 1 → text ≡ entry.1 → OnOk result (LoadsText text new)
      → OnOk result (IsApplied functions version B same old new entry)
  load_applied (Err e) text kind is loads = tt
  load_applied (Ok x) text kind is loads = record {
    value = Load text;
    spelled = record { kind = kind; body = sym is };
    fits = (loads.0, loads.1);
    leads = λ image has. (loaded (Some (value_of loads.0)), (loads.0, loads.1, refl), has_loaded loads.0 new loads.2);
  }

  pub root_applied : {T E : Type 0} (result : Result T E) (name : List ℕ) → entry.0 ≡ 2 → name ≡ entry.1 → IsFree old.pile
      → OnOk result (IsBegun A B targets old new name) → OnOk result (IsApplied functions version B same old new entry)
  root_applied (Err e) name kind is free begins = tt
  root_applied (Ok x) name kind is free begins = record {
    value = Root name;
    spelled = record { kind = kind; body = sym is };
    fits = subst (λ (graph : Option Supergraph). IsSomeAnd graph (λ g. (root : ℕ) × IsRootName g old.roots name root)) (sym begins.is) (begins.root, begins.named);
    leads = λ image has. (step procedures B same image (root_step name), refl, has_root A B targets same image old new name free has begins);
  }

  pub batch_applied : {T E : Type 0} (result : Result T E) (body : List ℕ) → entry.0 ≡ 3 → body ≡ entry.1 → OnOk result (SetsBody functions version old new body)
      → OnOk result (IsApplied functions version B same old new entry)
  batch_applied (Err e) body kind is sets = tt
  batch_applied (Ok x) body kind is sets = record {
    value = Batch sets.0;
    spelled = record { kind = kind; body = subst (AreSpelled functions version sets.0) is sets.1 };
    fits = sets.2;
    leads = λ image has. (with_items image sets.0, refl, has_items image old new sets.0 has sets.3);
  }

-- Why a solve is refused: what its parts refuse, as a refusal of the text and the names.
use Rattle.std.proofs.Common.{◌≡◌, ℕ, ◌<◌, ◌⊎◌, inl, inr, suc, true≢false, List, [], ◌∷◌, ◌++◌, length, take, drop, get_or, map, Option, Result, Ok, Err, is_some, refl, ap, sym, subst, ◌∙◌}
use Rattle.std.specs.Prelude.{IfErr}
use Rattle.std.specs.Option.{IsSomeAnd}
use Rattle.std.proofs.Math.Seq.{split_at}
use Rattle.std.proofs.lemmas.List.{map-append}
use Rattle.ide_graph.specs.GraphOf.{IsGraphOf}
use Rattle.ide_graph.specs.ProgramEdges.{HasEdgesOf}
use Rattle.ide_graph.specs.GraphOfText.{IsGraphOfText}
use Rattle.ide_graph.specs.Supergraph.{Supergraph}
use Rattle.ide_lattice.specs.Algebra.{LatticeAlgebra, EdgeAlgebra}
use Rattle.ide_problem.specs.Flow.{Targets}
use Rattle.ide_steps.specs.CloseRefusal.{CloseFault, no_program as close_without, unfinished as waiting}
use Rattle.ide_steps.specs.Core.{CoreData}
use Rattle.ide_steps.specs.DrainRefusal.{IsDrainRefusal, busy as at_work, memory as drain_memory, no_drain, no_program as drain_without, unfinished as others_at_work}
use Rattle.ide_steps.specs.Going.{GoesOn}
use Rattle.ide_steps.specs.Refusal.{IsRootRefusal, fault as root_fault, memory as wants, no_program as no_program_loaded}
use Rattle.ide_text.specs.Parsed.{IsParsed, IsRefusalOf}
use Rattle.ide_text.specs.declared.program.Program.{Program}
use Rattle.ide_wire.specs.declared.refused.Refused.{Refused}
use Rattle.ide_wire.specs.declared.refused.Refused.TheVariants.{Limit, NoMemory, Text}
use Rattle.ide_values.specs.Refusal.{IsValuesRefusal, no_worker, too_many}
use Rattle.ide_solver.specs.Begun.{AreBegun}
use Rattle.ide_solver.specs.Refusal.{FirstRootFault, IsRootsRefusal, IsSolveRefusal, fault, here, later, memory, no_memory, no_program, no_root, root}
use Rattle.ide_solver.specs.Solve.{AreRootNames, none, then}
use Rattle.ide_solver.specs.Started.{IsPrepared}

-- the text's refusal is one of the text and names
pub of-text : (text : List ℕ) (names : List (List ℕ)) (refused : Refused) → IsRefusalOf text refused → IsSolveRefusal text names refused
of-text text names NoMemory h = memory
of-text text names (Text line f) h = fault line f h
of-text text names _ h = elim h [ ]

-- names that were made roots stand before the fault
pub fault-later : (graph : Supergraph) {roots mid : List ℕ} {before names : List (List ℕ)} {refused : Refused}
    → AreRootNames graph roots before mid → FirstRootFault graph mid names refused → FirstRootFault graph roots (before ++ names) refused
fault-later graph none is = is
fault-later graph (then name r at rest) is = later name r at (fault-later graph rest is)

-- what names are made into, around one of them
pub names-around : {X Y : Type 0} (f : X → Y) (xs : List X) (i : ℕ) (d : X) → i < length xs
    → map f xs ≡ map f (take i xs) ++ f (get_or xs i d) ∷ map f (drop (suc i) xs)
names-around f xs i d within = ap (map f) (split_at xs i d within) ∙ map-append f (take i xs) (get_or xs i d ∷ drop (suc i) xs)

-- a call that is refused for want of memory alone
pub wants-memory : {T : Type 0} (text : List ℕ) (names : List (List ℕ)) (result : Result T Refused)
    → IfErr result (λ e. e ≡ NoMemory) → IfErr result (IsSolveRefusal text names)
wants-memory text names (Ok x) is = is
wants-memory text names (Err e) is = subst (IsSolveRefusal text names) (sym is) memory

-- so many workers are not taken
pub not_workers : (workers : ℕ) → (workers ≡ 0) ⊎ (64 < workers) → IsValuesRefusal workers Limit
not_workers workers (inl not_any) = no_worker not_any
not_workers workers (inr past) = too_many past

-- what `root` refuses is the fault of its name, which is the first
pub root-refused : (graph : Option Supergraph) (roots name : List ℕ) (names : List (List ℕ)) {refused : Refused}
    → IsRootRefusal graph roots name refused → IsRootsRefusal graph roots (name ∷ names) refused
root-refused graph roots name names (no_program_loaded empty) = no_program empty
root-refused graph roots name names (root_fault {refused = refused} loaded at is) = no_root loaded refused at (here name is)
root-refused graph roots name names (wants loaded procedure at is) = no_memory

module _ {F L : Type 0} (A : LatticeAlgebra L) (B : EdgeAlgebra F L) (targets : Targets F) where
  -- names that are begun stand before a refusal of more
  pub refused-later : (old mid : CoreData F) (before names : List (List ℕ)) {refused : Refused} → AreBegun A B targets old mid before
      → IsRootsRefusal mid.graph mid.roots names refused → IsRootsRefusal old.graph old.roots (before ++ names) refused
  refused-later old mid before names begun no_memory = no_memory
  refused-later old mid before names begun (no_program unloaded) = no_program (sym begun.same ∙ unloaded)
  refused-later old mid before names begun (no_root loaded refused at is) =
      no_root loaded refused (sym begun.same ∙ at) (fault-later loaded (begun.named loaded (sym begun.same ∙ at)) is)

  -- a loaded core with no roots refuses names as the text and the names are refused
  pub roots-refused : (text : List ℕ) (names : List (List ℕ)) (core : CoreData F) (p : Program) {refused : Refused}
      → IsParsed text p → IsSomeAnd core.graph (IsGraphOf p) → IsSomeAnd core.graph (HasEdgesOf p) → core.roots ≡ []
      → IsRootsRefusal core.graph core.roots names refused → IsSolveRefusal text names refused
  roots-refused text names core p parsed counted edges no_roots no_memory = memory
  roots-refused text names core p parsed counted edges no_roots (no_program unloaded) = elim (subst (λ o. IsSomeAnd o (IsGraphOf p)) unloaded counted) [ ]
  roots-refused text names core p parsed counted edges no_roots (no_root graph refused at is) =
      root graph refused spelled (subst (λ roots. FirstRootFault graph roots names refused) no_roots is)
    where
      spelled : IsGraphOfText text graph
      spelled = record {
        program = p;
        parsed = parsed;
        counted = subst (λ o. IsSomeAnd o (IsGraphOf p)) at counted;
        edges = subst (λ o. IsSomeAnd o (HasEdgesOf p)) at edges;
      }

  -- a core that is started is drained, but for want of memory
  pub drain-refused : (text : List ℕ) (names : List (List ℕ)) (core : CoreData F) (graph : Supergraph) {refused : Refused}
      → IsPrepared A B targets text names core graph → IsDrainRefusal core refused → refused ≡ NoMemory
  drain-refused text names core graph is (no_drain (drain_without unloaded)) = absurd (true≢false (sym (ap is_some is.is) ∙ unloaded))
  drain-refused text names core graph is (no_drain (at_work loaded claimed)) = absurd (true≢false (sym claimed ∙ ap is_some (is.unclaimed 0)))
  drain-refused text names core graph is (no_drain (others_at_work loaded free hand other claimed)) = absurd (true≢false (sym claimed ∙ ap is_some (is.unclaimed hand)))
  drain-refused text names core graph is (drain_memory may) = refl

  -- and once it is quiet it is closed
  pub close-refused : (text : List ℕ) (names : List (List ℕ)) (core drained : CoreData F) (graph : Supergraph) {refused : Refused}
      → IsPrepared A B targets text names core graph → GoesOn A B targets 0 core drained → drained.pile.pending ≡ []
      → CloseFault drained refused
      → ⊥
  close-refused text names core drained graph is goes quiet (close_without unloaded) = true≢false (sym (ap is_some (goes.by.same.graph ∙ is.is)) ∙ unloaded)
  close-refused text names core drained graph is goes quiet (waiting loaded left) = left quiet

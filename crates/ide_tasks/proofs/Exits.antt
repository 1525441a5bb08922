-- One source more at an exit.
use Rattle.std.proofs.Common.{◌≡◌, ℕ, ◌+◌, ◌<◌, Bool, false, List, [], ◌∷◌, ◌++◌, Option, None, Some, not, length, get_or, take, map, sym, ap, ◌∙◌, arith, append-nil}
use Rattle.std.specs.Prelude.{slice_get, nat_eq}
use Rattle.std.specs.List.{flat_map, range_with_len}
use Rattle.std.specs.Option.{option_eq}
use Rattle.std.proofs.lemmas.Bool.Decides.{nat_tests}
use Rattle.std.proofs.Math.Seq.{take-length}
use Rattle.std.proofs.lemmas.List.FromFn.{map-range_with_len_more}
use Rattle.std.proofs.lemmas.List.{take_more, flat_map_more, map-id}
use Rattle.ide_lattice.specs.Algebra.{EdgeAlgebra}
use Rattle.ide_problem.specs.Flow.{Targets}
use Rattle.ide_graph.specs.declared.site.Caller.{Caller}
use Rattle.ide_wire.specs.declared.key.Key.{Key}
use Rattle.ide_wire.specs.declared.key.Key.TheVariants.{Summary}
use Rattle.ide_tasks.specs.declared.partners.Reaching.{Reaching}
use Rattle.ide_tasks.specs.Parts.{exit_parts}

pub one_more : {X A : Type 0} (f : X → List A) (before after all : List A) (xs : List X) (i : ℕ) (x : X)
    → i < length xs → x ≡ get_or xs i x → after ≡ before ++ flat_map f (take i xs) → all ≡ after ++ f x
    → all ≡ before ++ flat_map f (take (i + 1) xs)
one_more f before after all xs i x within is so_far more =
    more
    ∙ ap (λ ys. ys ++ f x) so_far
    ∙ flat_map_more f before (take i xs) x
    ∙ ap (λ y. before ++ flat_map f (take i xs ++ y ∷ [])) is
    ∙ ap (λ ys. before ++ flat_map f ys) (sym (take_more xs i x within))

range_more : (n : ℕ) → range_with_len 0 n ++ n ∷ [] ≡ range_with_len 0 (n + 1)
range_more n = ap (λ ns. ns ++ n ∷ []) (sym (map-id (range_with_len 0 n))) ∙ sym (map-range_with_len_more (λ (k : ℕ). k) 0 n n (omega arith)) ∙ map-id (range_with_len 0 (n + 1))

-- one fact more
pub one_fact_more : {A : Type 0} (f : ℕ → List A) (before after all : List A) (fact : ℕ)
    → after ≡ before ++ flat_map f (range_with_len 0 fact) → all ≡ after ++ f fact
    → all ≡ before ++ flat_map f (range_with_len 0 (fact + 1))
one_fact_more f before after all fact so_far more =
    more
    ∙ ap (λ ys. ys ++ f fact) so_far
    ∙ flat_map_more f before (range_with_len 0 fact) fact
    ∙ ap (λ ns. before ++ flat_map f ns) (range_more fact)

-- an index that is not another than the current one is it
pub is_current : (current : Option ℕ) (index : ℕ) (other : Bool) → other ≡ not (option_eq nat_eq current (Some index))
    → other ≡ false → current ≡ Some index
is_current None index other is same = cc (is, same)
is_current (Some k) index other is same =
    let e : k ≡ index = grind (arith, nat_tests) in
    ap (λ (j : ℕ). Some j) e

module _ {F L : Type 0} (B : EdgeAlgebra F L) (targets : Targets F) (to : ℕ) (function : F) (callers : List Caller) where
  -- what a source owes
  abbrev pub from_source : Reaching F → List (Key × F)
  from_source source = exit_parts B targets to function source (slice_get callers source.caller)

  -- a source with no caller owes nothing
  pub none_more : (reaching : List (Reaching F)) (i : ℕ) (source : Reaching F) (before after : List (Key × F))
      → i < length reaching → source ≡ get_or reaching i source → slice_get callers source.caller ≡ None
      → after ≡ before ++ flat_map from_source (take i reaching)
      → after ≡ before ++ flat_map from_source (take (i + 1) reaching)
  none_more reaching i source before after within is none so_far =
      one_more from_source before after after reaching i source within is so_far
      (sym (ap (λ found. after ++ exit_parts B targets to function source found) none ∙ append-nil after))

  -- a source with a caller, where the targets are those of its way back
  pub some_more : (reaching : List (Reaching F)) (i : ℕ) (source : Reaching F) (caller : Caller) (before after all : List (Key × F))
      (found : List (ℕ × F)) (through : F)
      → i < length reaching → source ≡ get_or reaching i source → slice_get callers source.caller ≡ Some caller
      → after ≡ before ++ flat_map from_source (take i reaching)
      → found ≡ targets caller.back to → through ≡ B.compose source.function function
      → all ≡ after ++ map (λ t. (Summary caller.call_node source.fact t.0, B.compose through t.1)) found
      → all ≡ before ++ flat_map from_source (take (i + 1) reaching)
  some_more reaching i source caller before after all found through within is some so_far are composed more =
      one_more from_source before after all reaching i source within is so_far
      (more
      ∙ ap (λ ts. after ++ map (λ t. (Summary caller.call_node source.fact t.0, B.compose through t.1)) ts) are
      ∙ ap (λ g. after ++ map (λ t. (Summary caller.call_node source.fact t.0, B.compose g t.1)) (targets caller.back to)) composed
      ∙ ap (λ c. after ++ exit_parts B targets to function source c) (sym some))

  -- the targets of the caller that was just looked up are those of the current one
  pub still_current : (current : Option ℕ) (index : ℕ) (caller : Caller) (found : List (ℕ × F))
      → current ≡ Some index → slice_get callers index ≡ Some caller → found ≡ targets caller.back to
      → (k : ℕ) (other : Caller) → current ≡ Some k → slice_get callers k ≡ Some other → found ≡ targets other.back to
  still_current current index caller found is some are k other is_k some_k =
      let same : index ≡ k = cc (is, is_k) in
      let one : caller ≡ other = cc (same, some, some_k) in
      are ∙ ap (λ (c : Caller). targets c.back to) one

  pub at_end : (reaching : List (Reaching F)) (i : ℕ) (before after : List (Key × F)) → i ≡ length reaching
      → after ≡ before ++ flat_map from_source (take i reaching) → after ≡ before ++ flat_map from_source reaching
  at_end reaching i before after end so_far =
      so_far ∙ ap (λ rs. before ++ flat_map from_source rs) (ap (λ (n : ℕ). take n reaching) end ∙ take-length reaching)

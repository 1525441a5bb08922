-- Steps by the elements of a list, one after the other.
use Rattle.std.proofs.Common.{◌≡◌, ℕ, ◌+◌, ◌<◌, Bool, false, List, [], ◌∷◌, ◌++◌, length, get_or, take, ap, sym, subst, refl, ◌∙◌}
use Rattle.std.proofs.lemmas.List.{take_more}
use Rattle.std.proofs.lemmas.List.Sums.{fold-append}
use Rattle.ide_theory.specs.Member.{Each}
use Rattle.ide_values.specs.Pass.{Passes}

pub each_more : {X : Type 0} (P : X → Type 0) (xs : List X) (x : X) → Each P xs → P x → Each P (xs ++ x ∷ [])
each_more P [] x all one = (one, tt)
each_more P (y ∷ xs) x all one = (all.0, each_more P xs x all.1 one)

module _ {X V : Type 0} (step : V → X → V) (IsSteady : V → X → Type 0) where
  pub passes_none : (v : V) (b : Bool) → Passes step IsSteady [] v v b b
  passes_none v b = record { all = refl; same = λ e. refl; before = λ e. e; steady = λ e. tt }

  pub passes_one : (xs : List X) (u v w : V) (a b c : Bool) (x : X) → Passes step IsSteady xs u v a b
      → w ≡ step v x → (c ≡ false → w ≡ v) → (c ≡ false → b ≡ false) → (c ≡ false → IsSteady v x)
      → Passes step IsSteady (xs ++ x ∷ []) u w a c
  passes_one xs u v w a b c x so_far is same before steady = record {
    all = is ∙ ap (λ y. step y x) so_far.all ∙ sym (fold-append step u xs (x ∷ []));
    same = λ e. same e ∙ so_far.same (before e);
    before = λ e. so_far.before (before e);
    steady = λ e. each_more (IsSteady u) xs x (so_far.steady (before e)) (subst (λ y. IsSteady y x) (so_far.same (before e)) (steady e));
  }

  -- one element more of a list is passed
  pub passes_more : (xs : List X) (i : ℕ) (x : X) (u v w : V) (a b c : Bool) → i < length xs → x ≡ get_or xs i x
      → Passes step IsSteady (take i xs) u v a b
      → w ≡ step v x → (c ≡ false → w ≡ v) → (c ≡ false → b ≡ false) → (c ≡ false → IsSteady v x)
      → Passes step IsSteady (take (i + 1) xs) u w a c
  passes_more xs i x u v w a b c h at so_far is same before steady =
      subst (λ ys. Passes step IsSteady ys u w a c) (sym (take_more xs i x h ∙ ap (λ y. take i xs ++ y ∷ []) (sym at)))
      (passes_one (take i xs) u v w a b c x so_far is same before steady)

-- The lines of a dump, by how far it came.
use Rattle.std.proofs.Common.{◌≡◌, ◌++◌, ℕ, zero, suc, ◌+◌, ◌-◌, ◌≤◌, List, [], Option, None, Some, Result, Ok, Err, ap, sym, refl, ◌∙◌, append_assoc, arith}
use Rattle.std.specs.Prelude.{OnErr, OnOk, if◌then◌else◌, is_ok, slice_get}
use Rattle.std.specs.List.{flat_map, range_with_len}
use Rattle.std.specs.Option.{option_and_then}
use Rattle.std.proofs.lemmas.List.{append-nil}
use Rattle.std.proofs.lemmas.Option.{slice_get_past}
use Rattle.ide_graph.specs.Supergraph.{Supergraph, fact_names, name_at}
use Rattle.ide_text.specs.Text.{Extends}
use Rattle.ide_values.specs.Dump.{line_if}
use Rattle.ide_values.proofs.Filled.{none_past}

module _ {X : Type 0} (f : ℕ → List X) where
  flat_last : (a n j : ℕ) → a + n ≡ j → flat_map f (range_with_len a (suc n)) ≡ flat_map f (range_with_len a n) ++ f j
  flat_last a zero j e = let same : a ≡ j = omega (arith, e) in append-nil (f a) ∙ ap f same
  flat_last a (suc n) j e =
      ap (λ l. f a ++ l) (flat_last (a + 1) n j (omega (arith, e)))
      ∙ sym (append_assoc (f a) (flat_map f (range_with_len (a + 1) n)) (f j))

  -- with one more
  pub flat_more : (n : ℕ) → flat_map f (range_with_len 0 (n + 1)) ≡ flat_map f (range_with_len 0 n) ++ f n
  flat_more n = let on : n + 1 ≡ suc n = omega arith in ap (λ k. flat_map f (range_with_len 0 k)) on ∙ flat_last 0 n n (omega arith)

  some_past : (n m : ℕ) → ((k : ℕ) → n ≤ k → f k ≡ []) → flat_map f (range_with_len 0 (n + m)) ≡ flat_map f (range_with_len 0 n)
  some_past n zero none = let e : n + 0 ≡ n = omega arith in ap (λ k. flat_map f (range_with_len 0 k)) e
  some_past n (suc m) none =
      let on : n + suc m ≡ n + m + 1 = omega arith in
      ap (λ k. flat_map f (range_with_len 0 k)) on
      ∙ flat_more (n + m)
      ∙ ap (λ l. flat_map f (range_with_len 0 (n + m)) ++ l) (none (n + m) (omega arith))
      ∙ append-nil (flat_map f (range_with_len 0 (n + m)))
      ∙ some_past n m none

  -- nothing comes from some number on
  pub flat_past : (n m : ℕ) → n ≤ m → ((k : ℕ) → n ≤ k → f k ≡ []) → flat_map f (range_with_len 0 n) ≡ flat_map f (range_with_len 0 m)
  flat_past n m le none =
      let all : n + (m - n) ≡ m = omega (arith, le) in
      sym (some_past n (m - n) none) ∙ ap (λ k. flat_map f (range_with_len 0 k)) all

  -- the text of one more, after that of those before
  pub appended : (old mid new : List X) (n : ℕ) → mid ≡ old ++ flat_map f (range_with_len 0 n) → new ≡ mid ++ f n → new ≡ old ++ flat_map f (range_with_len 0 (n + 1))
  appended old mid new n so_far more =
      more ∙ ap (λ l. l ++ f n) so_far ∙ append_assoc old (flat_map f (range_with_len 0 n)) (f n)
      ∙ ap (λ l. old ++ l) (sym (flat_more n))

-- past a fact without a name none has one
pub none_after : (graph : Supergraph) (node n k : ℕ) → name_at graph node n ≡ None → n ≤ k → name_at graph node k ≡ None
none_after graph node n k none le = by (slice_get graph.owners node) none
  where
    by : (o : Option ℕ) → option_and_then (λ owner. slice_get (fact_names graph owner) n) o ≡ None → option_and_then (λ owner. slice_get (fact_names graph owner) k) o ≡ None
    by None h = refl
    by (Some owner) h = slice_get_past (fact_names graph owner) k (omega (arith, none_past (fact_names graph owner) n h, le))

-- and none has a line
pub no_line_after : (graph : Supergraph) (shown : ℕ → ℕ → List ℕ) (node n k : ℕ) → name_at graph node n ≡ None → n ≤ k → line_if node k (name_at graph node k) (shown node k) ≡ []
no_line_after graph shown node n k none le = ap (λ o. line_if node k o (shown node k)) (none_after graph node n k none le)

-- what extends a list with some text after it extends the list
pub Extends-more : (old text mid new : List ℕ) → mid ≡ old ++ text → Extends mid new → Extends old new
Extends-more old text mid new e (rest, h) = (text ++ rest, h ∙ ap (λ xs. xs ++ rest) e ∙ append_assoc old text rest)

-- what holds anyway holds at no error, and at one
pub OnOk-always : {T E : Type 0} (r : Result T E) (P : Type 0) → P → OnOk r P
OnOk-always (Ok x) P p = p
OnOk-always (Err e) P p = tt

pub OnErr-always : {T E : Type 0} (r : Result T E) (P : Type 0) → P → OnErr r P
OnErr-always (Ok x) P p = tt
OnErr-always (Err e) P p = p

pub OnErr-more : {T E : Type 0} (r : Result T E) (P Q : Type 0) → (P → Q) → OnErr r P → OnErr r Q
OnErr-more (Ok x) P Q f p = tt
OnErr-more (Err e) P Q f p = f p

-- where a text was appended, if nothing failed
pub OnOk-appended : {T E : Type 0} (r : Result T E) (P : Type 0) (old text new : List ℕ) → new ≡ (if is_ok r then old ++ text else old) → (new ≡ old ++ text → P) → OnOk r P
OnOk-appended (Ok x) P old text new is so = so is
OnOk-appended (Err e) P old text new is so = tt

-- and if it failed
pub OnErr-kept : {T E : Type 0} (r : Result T E) (old text new : List ℕ) → new ≡ (if is_ok r then old ++ text else old) → OnErr r (Extends old new)
OnErr-kept (Ok x) old text new is = tt
OnErr-kept (Err e) old text new is = ([], is ∙ sym (append-nil old))

-- What is found among entries once the jumps of a walk, which were absent, are put behind them.
use Rattle.std.proofs.Common.{◌≡◌, ℕ, zero, suc, ◌+◌, ◌<◌, ◌≤◌, true, false, cond, ◌||◌, List, [], ◌∷◌, ◌++◌, Some, None, ap, sym, subst, ◌∙◌, refl, arith}
use Rattle.std.specs.Prelude.{◌&&◌, not}
use Rattle.std.specs.List.{IsDistinct, list_any}
use Rattle.std.specs.Map.{keys_of, lookup}
use Rattle.std.proofs.lemmas.List.{append_assoc, append-nil}
use Rattle.ide_image.specs.Tables.{Table, found}
use Rattle.ide_image.specs.Walk.{AreAbsent, AreSettled, EntersWalked, GoesTo, walked_entries, jump_behind}
use Rattle.ide_image.specs.Worklist.{IsWorklist, Pile, is_claim_of, is_claimed, is_pending}
use Rattle.ide_image.proofs.Places.{distinct-put, place-absent, put-last}
use Rattle.ide_image.proofs.Sets.{found-with_entry}
use Rattle.ide_wire.specs.Key.{node_of, same_key, same_key_exact, same_key_refl}
use Rattle.ide_wire.specs.declared.key.Key.{Key}
use Rattle.ide_wire.specs.declared.key.Key.TheVariants.{Jump}
use Rattle.ide_steps.proofs.Free.{settled-unclaimed}
use Rattle.ide_steps.proofs.Permuted.{found-permuted}

-- entries and one more
pub more-entered : {F : Type 0} (es : List (Key × F)) (at : ℕ → Key) (f : F) (n : ℕ) → es ++ walked_entries at f (suc n) ≡ (es ++ walked_entries at f n) ++ (at (suc n), f) ∷ []
more-entered es at f n = sym (append_assoc es (walked_entries at f n) ((at (suc n), f) ∷ []))

-- what is found once an entry of an absent key is put behind the others
pub found-last : {F : Type 0} (es : List (Key × F)) (key q : Key) (f : F) → lookup (same_key key) es ≡ None
    → lookup (same_key q) (es ++ (key, f) ∷ []) ≡ cond (same_key key q) (Some f) (lookup (same_key q) es)
found-last es key q f none = ap (lookup (same_key q)) (sym (put-last key es f (place-absent key es none))) ∙ found-with_entry es key q f

-- jumps at different nodes are different keys
pub nodes-apart : (node from to n m : ℕ) → ((n ≡ m) → ⊥) → same_key (jump_behind node from to n) (jump_behind node from to m) ≡ false
nodes-apart node from to n m differ =
    elim (same_key (jump_behind node from to n) (jump_behind node from to m)) as (λ b. same_key (jump_behind node from to n) (jump_behind node from to m) ≡ b → b ≡ false) [
      | true ↦ λ is.
          let nodes : node + n ≡ node + m = ap node_of (same_key_exact (jump_behind node from to n) (jump_behind node from to m) is) in
          absurd (differ (omega (arith, nodes)))
      | false ↦ λ other. refl
    ] refl

module _ {F : Type 0} (es : List (Key × F)) (node from to : ℕ) (f : F) (count : ℕ)
    (absent : (n : ℕ) → n < count → lookup (same_key (jump_behind node from to (suc n))) es ≡ None) where
  -- those behind so many are absent still
  pub absent-behind : (n m : ℕ) → n ≤ m → m < count → lookup (same_key (jump_behind node from to (suc m))) (es ++ walked_entries (jump_behind node from to) f n) ≡ None
  absent-behind zero m above few = ap (lookup (same_key (jump_behind node from to (suc m)))) (append-nil es) ∙ absent m few
  absent-behind (suc n) m above few =
      ap (lookup (same_key (jump_behind node from to (suc m)))) (more-entered es (jump_behind node from to) f n)
      ∙ found-last (es ++ walked_entries (jump_behind node from to) f n) (jump_behind node from to (suc n)) (jump_behind node from to (suc m)) f
      (absent-behind n n (omega arith) (omega (arith, above, few)))
      ∙ ap (λ b. cond b (Some f) (lookup (same_key (jump_behind node from to (suc m))) (es ++ walked_entries (jump_behind node from to) f n)))
      (nodes-apart node from to (suc n) (suc m) (λ e. omega (arith, e, above)))
      ∙ absent-behind n m (omega (arith, above)) few

  -- one more has the function
  pub found-behind : (n : ℕ) → n < count → (q : Key)
      → lookup (same_key q) (es ++ walked_entries (jump_behind node from to) f (suc n))
      ≡ cond (same_key (jump_behind node from to (suc n)) q) (Some f) (lookup (same_key q) (es ++ walked_entries (jump_behind node from to) f n))
  found-behind n few q =
      ap (lookup (same_key q)) (more-entered es (jump_behind node from to) f n)
      ∙ found-last (es ++ walked_entries (jump_behind node from to) f n) (jump_behind node from to (suc n)) q f (absent-behind n n (omega arith) few)

  -- so has the last of them
  pub last-has : (n : ℕ) → n < count → lookup (same_key (jump_behind node from to (suc n))) (es ++ walked_entries (jump_behind node from to) f (suc n)) ≡ Some f
  last-has n few =
      found-behind n few (jump_behind node from to (suc n))
      ∙ ap (λ b. cond b (Some f) (lookup (same_key (jump_behind node from to (suc n))) (es ++ walked_entries (jump_behind node from to) f n)))
      (same_key_refl (jump_behind node from to (suc n)))

  -- no two entries are of one key, where none were
  pub distinct-behind : IsDistinct same_key (keys_of es) → (n : ℕ) → n ≤ count → IsDistinct same_key (keys_of (es ++ walked_entries (jump_behind node from to) f n))
  distinct-behind distinct zero few = subst (λ (es : List (Key × F)). IsDistinct same_key (keys_of es)) (sym (append-nil es)) distinct
  distinct-behind distinct (suc n) few =
      let key = jump_behind node from to (suc n) in
      let before = es ++ walked_entries (jump_behind node from to) f n in
      subst (λ (es : List (Key × F)). IsDistinct same_key (keys_of es))
      (put-last key before f (place-absent key before (absent-behind n n (omega arith) (omega (arith, few))))
      ∙ sym (more-entered es (jump_behind node from to) f n))
      (distinct-put key before f (distinct-behind distinct n (omega (arith, few))))

-- the last key of a walk has the function, waits, and is nobody's
module _ (node from to count : ℕ) (some : 0 < count) where
  pub last-found : {F : Type 0} (f : F) (old new : Table F) → AreAbsent old (jump_behind node from to) count → IsDistinct same_key (keys_of old.entries)
      → EntersWalked (jump_behind node from to) f count old new → found new (jump_behind node from to count) ≡ Some f
  last-found {F} f old new absent distinct entries =
      found-permuted (old.entries ++ walked_entries (jump_behind node from to) f count) new.entries entries
      (distinct-behind old.entries node from to f count absent distinct count (omega arith)) (jump_behind node from to count)
      ∙ among count refl
    where
      among : (n : ℕ) → n ≡ count → lookup (same_key (jump_behind node from to n)) (old.entries ++ walked_entries (jump_behind node from to) f n) ≡ Some f
      among zero none = absurd (omega (arith, some, none))
      among (suc n) is = last-has old.entries node from to f count absent n (omega (arith, is))

  pub last-waits : {T : Type 0} (old new : Pile T) → GoesTo (Jump node from to) (jump_behind node from to count) old new → is_pending new (jump_behind node from to count) ≡ true
  last-waits old new goes =
      let last = jump_behind node from to count in
      goes last ∙ ap (λ b. b || (not (same_key (Jump node from to) last) && is_pending old last)) (same_key_refl last)

  pub last-unclaimed : {T : Type 0} (old new : Pile T) → AreSettled old (jump_behind node from to) count → new.claims ≡ old.claims → IsWorklist old
      → is_claimed new (jump_behind node from to count) ≡ false
  last-unclaimed {T} old new settled claims held =
      ap (list_any (is_claim_of (jump_behind node from to count))) claims
      ∙ settled-unclaimed old held (jump_behind node from to count) (among count refl)
    where
      among : (n : ℕ) → n ≡ count → is_pending old (jump_behind node from to n) ≡ false
      among zero none = absurd (omega (arith, some, none))
      among (suc n) is = settled n (omega (arith, is))

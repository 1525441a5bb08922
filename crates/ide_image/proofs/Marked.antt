-- The keys of the slots that are marked: which these are, how many, and what a mark or an entry more changes.
use Rattle.std.proofs.Common.{◌≡◌, ℕ, zero, suc, ◌+◌, ◌≤◌, ◌++◌, refl, sym, ap, ◌∙◌, arith, List, [], ◌∷◌, length, Bool, true, false, cond}
use Rattle.std.specs.Prelude.{◌||◌, nat_eq}
use Rattle.std.specs.List.{AllByRecursion, IsDistinct, list_any}
use Rattle.std.specs.Map.{keys_of}
use Rattle.std.proofs.lemmas.Bool.{both_ways, eq-eqb, eqb-true, ne_eqb}
use Rattle.std.proofs.lemmas.Map.Keys.{IsDistinct-head, IsDistinct-tail}
use Rattle.std.proofs.lemmas.List.Sums.{sum_by-cons}
use Rattle.ide_wire.specs.declared.key.Key.{Key}
use Rattle.ide_wire.specs.Key.{same_key, same_key_exact, same_key_refl}
use Rattle.ide_image.specs.Tables.{behind, place_in, with_entry}
use Rattle.ide_image.proofs.Places.{place-put, place_then}
use Rattle.ide_image.proofs.Falls.{count-with}
use Rattle.ide_image.specs.declared.mark.Mark.{Mark}
use Rattle.ide_image.specs.KeyedImage.{Covers, marked_at, keys_where}
use Rattle.ide_image.specs.Queue.{SetsMark, is_pending_mark, one_if, pending_at, pending_count}
use Rattle.ide_image.proofs.Spots.{place-few}

-- what is behind a first entry
pub at-behind : (mark : ℕ → Bool) (place : ℕ) → marked_at mark (behind place) ≡ marked_at (λ n. mark (suc n)) place
at-behind mark zero = refl
at-behind mark (suc n) = refl

pub at-same : (mark after : ℕ → Bool) (place : ℕ) → ((n : ℕ) → after n ≡ mark n) → marked_at after place ≡ marked_at mark place
at-same mark after zero same = refl
at-same mark after (suc n) same = same n

at-first : (mark : ℕ → Bool) (here : Bool) (place : ℕ) → marked_at mark (cond here 1 (behind place)) ≡ cond here (mark 0) (marked_at (λ n. mark (suc n)) place)
at-first mark true place = refl
at-first mark false place = at-behind mark place

-- as many as there are marks
none-pending : (marks : List Mark) → ((n : ℕ) → pending_at marks n ≡ false) → pending_count marks ≡ 0
none-pending [] none = omega arith
none-pending (m ∷ ms) none =
    let here : one_if (is_pending_mark m) ≡ 0 = ap one_if (none 0) in
    let rest = none-pending ms (λ n. none (suc n)) in
    omega (arith, here, rest, sum_by-cons (λ m. one_if (is_pending_mark m)) m ms)

long-step : (b : Bool) (key : Key) (ks : List Key) → length (cond b (key ∷ ks) ks) ≡ one_if b + length ks
long-step true key ks = omega arith
long-step false key ks = omega arith

-- a slot that is made what it was is as it was
pub same-set : (slot : ℕ) (b : Bool) (mark after : ℕ → Bool) → mark slot ≡ b → SetsMark slot b mark after → (n : ℕ) → after n ≡ mark n
same-set slot b mark after is sets n =
    sets n ∙ (elim (nat_eq slot n) as (λ own. nat_eq slot n ≡ own → cond own b (mark n) ≡ mark n) [
      | true ↦ λ one. sym is ∙ ap mark (eqb-true slot n one)
      | false ↦ λ other. refl
    ] refl)

pub still-set : (slot : ℕ) (b : Bool) (mark : ℕ → Bool) → mark slot ≡ b → SetsMark slot b mark mark
still-set slot b mark is n =
    elim (nat_eq slot n) as (λ own. nat_eq slot n ≡ own → mark n ≡ cond own b (mark n)) [
      | true ↦ λ one. ap mark (sym (eqb-true slot n one)) ∙ is
      | false ↦ λ other. refl
    ] refl

pub covers-same : (count : ℕ) (mark after : ℕ → Bool) → ((n : ℕ) → after n ≡ mark n) → Covers count mark → Covers count after
covers-same count mark after same covered n more = same n ∙ covered n more

not-first : (p : ℕ) → behind p ≡ 1 → ⊥
not-first zero one = omega (arith, one)
not-first (suc p) one = omega (arith, one)

up : (p n : ℕ) → behind p ≡ suc (suc n) → p ≡ suc n
up zero n more = absurd (omega (arith, more))
up (suc p) n more = omega (arith, more)

deeper : {X : Type 0} (p r n : ℕ) → behind p ≡ suc n → behind r ≡ suc n → ((k : ℕ) → p ≡ suc k → r ≡ suc k → X) → X
deeper p r zero first later rest = absurd (not-first p first)
deeper p r (suc n) first later rest = rest n (up p n first) (up r n later)

one-step : {F : Type 0} (key q : Key) (e : Key × F) (p r n : ℕ) (own also : Bool) → same_key key e.0 ≡ own → same_key q e.0 ≡ also
    → cond own 1 (behind p) ≡ suc n → cond also 1 (behind r) ≡ suc n → ((k : ℕ) → p ≡ suc k → r ≡ suc k → key ≡ q) → key ≡ q
one-step key q e p r n true true a b first later rest = same_key_exact key e.0 a ∙ sym (same_key_exact q e.0 b)
one-step key q e p r n true false a b first later rest = absurd (not-first r (later ∙ sym first))
one-step key q e p r n false true a b first later rest = absurd (not-first p (first ∙ sym later))
one-step key q e p r n false false a b first later rest = deeper p r n first later rest

longer-step : (mark : ℕ → Bool) (here : Bool) (p r : ℕ) → marked_at (λ n. mark (suc n)) p ≡ marked_at (λ n. mark (suc n)) r
    → marked_at mark (cond here 1 (behind p)) ≡ marked_at mark (cond here 1 (behind r))
longer-step mark true p r same = refl
longer-step mark false p r same = at-behind mark p ∙ same ∙ sym (at-behind mark r)

module _ {F : Type 0} where
  -- marks that read as others do give the same keys
  pub keys-same : (mark after : ℕ → Bool) (es : List (Key × F)) → ((n : ℕ) → after n ≡ mark n) → keys_where after es ≡ keys_where mark es
  keys-same mark after [] same = refl
  keys-same mark after (e ∷ es) same =
      ap (λ b. cond b (e.0 ∷ keys_where (λ n. after (suc n)) es) (keys_where (λ n. after (suc n)) es)) (same 0)
      ∙ ap (λ ks. cond (mark 0) (e.0 ∷ ks) ks) (keys-same (λ n. mark (suc n)) (λ n. after (suc n)) es (λ n. same (suc n)))

  -- a key that no entry is of stands nowhere
  nowhere : (q : Key) (x : Key) (es : List (Key × F)) → same_key q x ≡ true → AllByRecursion (λ y. same_key x y ≡ false) (keys_of es) → place_in q es ≡ 0
  nowhere q x [] same apart = refl
  nowhere q x (e ∷ es) same apart =
      ap (λ b. cond b 1 (behind (place_in q es))) (ap (λ k. same_key k e.0) (same_key_exact q x same) ∙ apart.0)
      ∙ ap behind (nowhere q x es same apart.1)

  any-step : (q : Key) (e : Key × F) (ks : List Key) (first here : Bool) (place : ℕ) (rest : ℕ → Bool) → same_key q e.0 ≡ here
      → (here ≡ true → place ≡ 0) → list_any (same_key q) ks ≡ marked_at rest place
      → list_any (same_key q) (cond first (e.0 ∷ ks) ks) ≡ cond here first (marked_at rest place)
  any-step q e ks true true place rest is none same = ap (λ b. b || list_any (same_key q) ks) is
  any-step q e ks false true place rest is none same = same ∙ ap (marked_at rest) (none refl)
  any-step q e ks true false place rest is none same = ap (λ b. b || list_any (same_key q) ks) is ∙ same
  any-step q e ks false false place rest is none same = same

  -- a key is among them exactly where its slot is marked
  pub any-where : (mark : ℕ → Bool) (es : List (Key × F)) (q : Key) → IsDistinct same_key (keys_of es)
      → list_any (same_key q) (keys_where mark es) ≡ marked_at mark (place_in q es)
  any-where mark [] q apart = refl
  any-where mark (e ∷ es) q apart =
      any-step q e (keys_where (λ n. mark (suc n)) es) (mark 0) (same_key q e.0) (place_in q es) (λ n. mark (suc n)) refl
      (λ same. nowhere q e.0 es same (IsDistinct-head same_key e.0 (keys_of es) apart))
      (any-where (λ n. mark (suc n)) es q (IsDistinct-tail same_key e.0 (keys_of es) apart))
      ∙ sym (at-first mark (same_key q e.0) (place_in q es))

  -- there are as many as marks
  pub count-where : (es : List (Key × F)) (marks : List Mark) → Covers (length es) (pending_at marks) → length (keys_where (pending_at marks) es) ≡ pending_count marks
  count-where [] marks covered = sym (none-pending marks (λ n. covered n (omega arith)))
  count-where (e ∷ es) [] covered = count-where es [] (λ n more. refl)
  count-where (e ∷ es) (m ∷ ms) covered =
      let rest = count-where es ms (λ n more. covered (suc n) (omega (arith, more))) in
      let here = long-step (is_pending_mark m) e.0 (keys_where (pending_at ms) es) in
      omega (arith, rest, here, sum_by-cons (λ m. one_if (is_pending_mark m)) m ms)

  -- keys that stand at one place are one
  pub one-place : (key q : Key) (es : List (Key × F)) (n : ℕ) → place_in key es ≡ suc n → place_in q es ≡ suc n → key ≡ q
  one-place key q [] n here there = absurd (omega (arith, here))
  one-place key q (e ∷ es) n here there = one-step key q e (place_in key es) (place_in q es) n (same_key key e.0) (same_key q e.0) refl refl here there (λ k. one-place key q es k)

  -- what a mark at the key's slot says of each key
  pub at-set : (key : Key) (es : List (Key × F)) (index : ℕ) (b : Bool) (mark after : ℕ → Bool) → index + 1 ≡ place_in key es → SetsMark index b mark after
      → (q : Key) → marked_at after (place_in q es) ≡ cond (same_key key q) b (marked_at mark (place_in q es))
  at-set key es index b mark after stands sets q =
      elim (same_key key q) as (λ own. same_key key q ≡ own → marked_at after (place_in q es) ≡ cond own b (marked_at mark (place_in q es))) [
        | true ↦ λ same.
            ap (λ k. marked_at after (place_in k es)) (sym (same_key_exact key q same)) ∙ ap (marked_at after) here
            ∙ sets index ∙ ap (λ t. cond t b (mark index)) (eq-eqb index index refl)
        | false ↦ λ other. elsewhere (place_in q es) refl other
      ] refl
    where
      here : place_in key es ≡ suc index
      here = sym stands ∙ omega arith

      elsewhere : (place : ℕ) → place_in q es ≡ place → same_key key q ≡ false → marked_at after place ≡ marked_at mark place
      elsewhere zero is other = refl
      elsewhere (suc n) is other =
          sets n ∙ ap (λ t. cond t b (mark n))
          (ne_eqb index n
          (λ e. both_ways (same_key key q) other (ap (same_key key) (sym (one-place key q es index here (is ∙ ap suc (sym e)))) ∙ same_key_refl key)))

  -- an entry that is put in changes no mark
  pub at-put : (key : Key) (es : List (Key × F)) (f : F) (mark : ℕ → Bool) → Covers (length es) mark
      → (q : Key) → marked_at mark (place_in q (with_entry es key f)) ≡ marked_at mark (place_in q es)
  at-put key es f mark covered q =
      ap (marked_at mark) (place-put key es q f)
      ∙ elim (same_key key q) as (λ own. same_key key q ≡ own → marked_at mark (cond own (place_then (place_in key es) (length es)) (place_in q es)) ≡ marked_at mark (place_in q es)) [
        | true ↦ λ same. then (place_in key es) ∙ ap (λ k. marked_at mark (place_in k es)) (same_key_exact key q same)
        | false ↦ λ other. refl
      ] refl
    where
      then : (place : ℕ) → marked_at mark (place_then place (length es)) ≡ marked_at mark place
      then zero = covered (length es) (omega arith)
      then (suc n) = refl

  pub longer-put : (key : Key) (es : List (Key × F)) (f : F) → length es ≤ length (with_entry es key f)
  longer-put key es f = let count = count-with key f es in omega (arith, count)

  pub covers-put : (key : Key) (es : List (Key × F)) (f : F) (mark : ℕ → Bool) → Covers (length es) mark → Covers (length (with_entry es key f)) mark
  covers-put key es f mark covered n more = let longer = longer-put key es f in covered n (omega (arith, more, longer))

  -- a mark at the key's slot is of no slot behind the last
  pub covers-set : (key : Key) (es : List (Key × F)) (index : ℕ) (b : Bool) (mark after : ℕ → Bool) → index + 1 ≡ place_in key es → SetsMark index b mark after
      → Covers (length es) mark → Covers (length es) after
  covers-set key es index b mark after stands sets covered n more =
      let few = place-few key es in
      sets n ∙ ap (λ t. cond t b (mark n)) (ne_eqb index n (omega (arith, stands, few, more))) ∙ covered n more

  -- ---- behind the others there are more
  pub at-longer : (mark : ℕ → Bool) (es more : List (Key × F)) (q : Key) → Covers (length es) mark → marked_at mark (place_in q (es ++ more)) ≡ marked_at mark (place_in q es)
  at-longer mark [] more q covered = nowhere-marked (place_in q more)
    where
      nowhere-marked : (place : ℕ) → marked_at mark place ≡ false
      nowhere-marked zero = refl
      nowhere-marked (suc n) = covered n (omega arith)
  at-longer mark (e ∷ es) more q covered =
      longer-step mark (same_key q e.0) (place_in q (es ++ more)) (place_in q es)
      (at-longer (λ n. mark (suc n)) es more q (λ n past. covered (suc n) (omega (arith, past))))

  -- and none of these is marked
  pub keys-longer : (mark : ℕ → Bool) (es more : List (Key × F)) → Covers (length es) mark → keys_where mark (es ++ more) ≡ keys_where mark es
  keys-longer mark [] [] covered = refl
  keys-longer mark [] (m ∷ ms) covered =
      ap (λ b. cond b (m.0 ∷ keys_where (λ n. mark (suc n)) ms) (keys_where (λ n. mark (suc n)) ms)) (covered 0 (omega arith))
      ∙ keys-longer (λ n. mark (suc n)) [] ms (λ n past. covered (suc n) (omega arith))
  keys-longer mark (e ∷ es) more covered =
      ap (λ ks. cond (mark 0) (e.0 ∷ ks) ks) (keys-longer (λ n. mark (suc n)) es more (λ n past. covered (suc n) (omega (arith, past))))

-- Lists of forms, of which none begins another: from the front on, two lists are one as far as the shorter goes.
use Rattle.std.specs.Prelude.{◌≡◌, ℕ, ◌≤◌, ◌<◌, Bool, true, List, [], ◌∷◌, ◌++◌, length, IsTrue}
use Rattle.std.specs.List.{flat_map}
use Rattle.std.proofs.Common.{ap, sym, refl, ◌∙◌, arith, append_assoc, append-nil}
use Rattle.std.proofs.lemmas.List.{append_cancel_left}
use Rattle.std.proofs.lemmas.List.Concat.{flat_map-append}
use Rattle.ide_wire.specs.Form.{IsPrefixFree, NoFormInFront}
use Rattle.ide_batch.specs.Forms.{all_proper, NoListInFront}
use Rattle.ide_batch.specs.FormLaws.{left_law, right_law, both}

module _ {T : Type 0} (proper : T → Bool) (form : T → List ℕ) where
  pub proper-push : (xs : List T) (x : T) → IsTrue (all_proper proper xs) → IsTrue (proper x) → IsTrue (all_proper proper (xs ++ x ∷ []))
  proper-push [] x all one = both (proper x) true one refl
  proper-push (y ∷ ys) x all one =
      both (proper y) (all_proper proper (ys ++ x ∷ [])) (left_law (proper y) (all_proper proper ys) all)
      (proper-push ys x (right_law (proper y) (all_proper proper ys) all) one)

  pub forms-push : (xs : List T) (x : T) (front rest behind : List ℕ) → front ≡ flat_map form xs ++ rest → rest ≡ form x ++ behind
      → front ≡ flat_map form (xs ++ x ∷ []) ++ behind
  forms-push xs x front rest behind found more =
      found
      ∙ ap (λ bytes. flat_map form xs ++ bytes) (more ∙ ap (λ f. f ++ behind) (sym (append-nil (form x))))
      ∙ sym (append_assoc (flat_map form xs) (flat_map form (x ∷ [])) behind)
      ∙ ap (λ f. f ++ behind) (sym (flat_map-append form xs (x ∷ [])))

  module _ (free : IsPrefixFree proper form) where
    -- a list that is no shorter goes on with what stands behind the first
    pub goes_on : (xs ys : List T) (rest behind : List ℕ) → IsTrue (all_proper proper xs) → IsTrue (all_proper proper ys) → length xs ≤ length ys
        → flat_map form xs ++ rest ≡ flat_map form ys ++ behind
        → (zs : List T) × (ys ≡ xs ++ zs) × IsTrue (all_proper proper zs) × (rest ≡ flat_map form zs ++ behind)
    goes_on [] ys rest behind p q short same = (ys, refl, q, same)
    goes_on (x ∷ xs) [] rest behind p q short same = absurd (omega (arith, short))
    goes_on (x ∷ xs) (y ∷ ys) rest behind p q short same =
        let split = sym (append_assoc (form x) (flat_map form xs) rest) ∙ same ∙ append_assoc (form y) (flat_map form ys) behind in
        let one : x ≡ y = free x y (flat_map form xs ++ rest) (flat_map form ys ++ behind)
        (left_law (proper x) (all_proper proper xs) p) (left_law (proper y) (all_proper proper ys) q) split in
        let more = goes_on xs ys rest behind (right_law (proper x) (all_proper proper xs) p) (right_law (proper y) (all_proper proper ys) q) (omega (arith, short))
        (append_cancel_left (form x) (flat_map form xs ++ rest) (flat_map form ys ++ behind)
        (split ∙ ap (λ z. form z ++ (flat_map form ys ++ behind)) (sym one))) in
        (more.0, ap (λ z. z ∷ ys) (sym one) ∙ ap (λ zs. x ∷ zs) more.1, more.2, more.3)

    -- where nothing proper stands behind the first, no list is longer
    pub none_longer : (xs : List T) (front rest : List ℕ) (count : ℕ) → IsTrue (all_proper proper xs) → length xs < count → front ≡ flat_map form xs ++ rest
        → NoFormInFront proper form rest → NoListInFront proper form count front
    none_longer xs front rest count p short found none ys behind long q same =
        further (goes_on xs ys rest behind p q (omega (arith, short, long)) (sym found ∙ same))
      where
        further : (zs : List T) × (ys ≡ xs ++ zs) × IsTrue (all_proper proper zs) × (rest ≡ flat_map form zs ++ behind) → ⊥
        further ([], is, proper_too, splits) =
            let ends : length ys ≡ length xs = ap length (is ∙ append-nil xs) in absurd (omega (arith, ends, short, long))
        further (z ∷ zs, is, proper_too, splits) =
            none z (flat_map form zs ++ behind) (left_law (proper z) (all_proper proper zs) proper_too)
            (splits ∙ append_assoc (form z) (flat_map form zs) behind)

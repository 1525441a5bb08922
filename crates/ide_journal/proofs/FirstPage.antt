-- The first page tells whether there is a store.
use Rattle.std.specs.Prelude.{◌≡◌, ℕ, ◌+◌, ◌<◌, List, ◌++◌, length, take, drop, slice_range}
use Rattle.std.proofs.Common.{arith, sym, ap, ◌∙◌}
use Rattle.std.proofs.Math.Seq.{take-append-add}
use Rattle.std.proofs.lemmas.List.{append_assoc, drop_at, length-take-le, take-append-drop}
use Rattle.ide_journal.specs.Format.{Head, header}
use Rattle.ide_journal.specs.Reading.{IsStore}
use Rattle.ide_journal.proofs.OneList.{length-header}

-- what begins with the first page of a store is one
starts : (head : Head) (bytes behind : List ℕ) → 0 < head.tag → 4096 < length bytes → bytes ≡ header head ++ behind → IsStore head bytes
starts head bytes behind some inside split = record {
  some = some;
  inside = inside;
  split = split ∙ ap (λ (xs : List ℕ). header head ++ xs) (sym (ap (λ (xs : List ℕ). drop 4096 xs) split ∙ drop_at (header head) behind 4096 (length-header head)));
}

-- the first page and the first gate are those of the file
pub page_of : (bytes page : List ℕ) → 4096 < length bytes → page ≡ slice_range bytes 0 (0 + 4097) → (head : Head) → IsStore head bytes → IsStore head page
page_of bytes page inside is head store =
    let size : 4097 ≡ length (header head) + 1 = omega (arith, length-header head) in
    let split : page ≡ header head ++ take 1 (drop 4096 bytes) =
    is ∙ ap (λ (xs : List ℕ). take 4097 xs) store.split
    ∙ ap (λ (n : ℕ). take n (header head ++ drop 4096 bytes)) size
    ∙ take-append-add (header head) (drop 4096 bytes) 1 in
    starts head page (take 1 (drop 4096 bytes)) store.some (omega (arith, ap length is, length-take-le 4097 bytes (omega arith))) split

pub file_of : (bytes page : List ℕ) → 4096 < length bytes → page ≡ slice_range bytes 0 (0 + 4097) → (head : Head) → IsStore head page → IsStore head bytes
file_of bytes page inside is head store =
    let split : bytes ≡ header head ++ (drop 4096 page ++ drop 4097 bytes) =
    sym (take-append-drop 4097 bytes) ∙ ap (λ (xs : List ℕ). xs ++ drop 4097 bytes) (sym is ∙ store.split)
    ∙ append_assoc (header head) (drop 4096 page) (drop 4097 bytes) in
    starts head bytes (drop 4096 page ++ drop 4097 bytes) store.some inside split

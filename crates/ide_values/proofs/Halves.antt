-- Rows that are cut in two and put together again.
use Rattle.std.proofs.Common.{◌≡◌, ℕ, ◌+◌, ◌-◌, ◌<◌, ◌≤◌, inl, inr, ◌++◌, List, length, get_or, ap, sym, subst, arith, length-append}
use Rattle.std.proofs.lemmas.List.{get_or-append-add, get_or_append_left}
use Rattle.std.proofs.lemmas.Bool.{cases_lt}
use Rattle.ide_values.specs.Share.{AreRows, AreToFill, RangesAscend, Sharing}

module _ {T : Type 0} (P : ℕ → T → Type 0) (start : ℕ → ℕ) (first count rest : ℕ) (xs ys : List T) where
  pub cut_low : start first + length xs ≡ start (first + count) → AreRows P start first (count + rest) (xs ++ ys) → AreRows P start first count xs
  cut_low ends all = record {
    span = ends;
    each = λ k x h. subst (P (start first + k)) (get_or_append_left xs ys x k h) (all.each k x (omega (arith, h, length-append xs ys)));
  }

  pub cut_high : start first + length xs ≡ start (first + count) → AreRows P start first (count + rest) (xs ++ ys) → AreRows P start (first + count) rest ys
  cut_high ends all =
      let last : first + (count + rest) ≡ first + count + rest = omega arith in
      record {
        span = omega (arith, ends, all.span, ap start last, length-append xs ys);
        each = λ k x h.
            let place : start first + (length xs + k) ≡ start (first + count) + k = omega (arith, ends) in
            subst (λ q. P q (get_or ys k x)) place
            (subst (P (start first + (length xs + k))) (get_or-append-add xs ys k x) (all.each (length xs + k) x (omega (arith, h, length-append xs ys))));
      }

  pub joined : AreRows P start first count xs → AreRows P start (first + count) rest ys → AreRows P start first (count + rest) (xs ++ ys)
  joined low high =
      let last : first + (count + rest) ≡ first + count + rest = omega arith in
      record {
        span = omega (arith, low.span, high.span, ap start last, length-append xs ys);
        each = λ k x h. elim (cases_lt k (length xs)) [
          | inl before ↦ subst (P (start first + k)) (sym (get_or_append_left xs ys x k before)) (low.each k x before)
          | inr past ↦
              let behind : length xs + (k - length xs) ≡ k = omega (arith, past) in
              let within : k - length xs < length ys = omega (arith, h, past, length-append xs ys) in
              let place : start (first + count) + (k - length xs) ≡ start first + k = omega (arith, past, low.span) in
              subst (λ q. P (start first + k) (get_or (xs ++ ys) q x)) behind
              (subst (P (start first + k)) (sym (get_or-append-add xs ys (k - length xs) x))
              (subst (λ q. P q (get_or ys (k - length xs) x)) place (high.each (k - length xs) x within)))
        ];
      }

-- of rows that are to be filled, those of the first workers
module _ {T : Type 0} (sharing : Sharing T) (up : RangesAscend sharing) (first count low : ℕ) (rows : List T)
    (is : AreToFill sharing first count rows) (some : 0 < low) (more : low < count) where
  -- where the first part of the rows ends
  pub low_end : sharing.start first ≤ sharing.start (first + low)
  low_end = up first (first + low) (omega arith) (omega (arith, is.workers, more))

  pub high_end : sharing.start (first + low) ≤ sharing.start first + length rows
  high_end =
      let last : sharing.start (first + low) ≤ sharing.start (first + count) = up (first + low) (first + count) (omega (arith, more)) is.workers in
      omega (arith, last, is.blank.span)

  -- and each part is to be filled
  pub both_parts : (xs ys : List T) → rows ≡ xs ++ ys → length xs ≡ sharing.start (first + low) - sharing.start first
      → AreToFill sharing first low xs × AreToFill sharing (first + low) (count - low) ys
  both_parts xs ys parts size =
      let ends : sharing.start first + length xs ≡ sharing.start (first + low) = omega (arith, low_end, size) in
      let whole : count ≡ low + (count - low) = omega (arith, more) in
      let blank : AreRows (λ _. sharing.is_blank) sharing.start first (low + (count - low)) (xs ++ ys) =
      subst (λ (n : ℕ). AreRows (λ _. sharing.is_blank) sharing.start first n (xs ++ ys)) whole
      (subst (AreRows (λ _. sharing.is_blank) sharing.start first count) parts is.blank) in (
        record {
          some = some;
          few = omega (arith, is.few, more);
          workers = omega (arith, is.workers, more);
          blank = cut_low (λ _. sharing.is_blank) sharing.start first low (count - low) xs ys ends blank;
        },
        record {
          some = omega (arith, more);
          few = omega (arith, is.few, more);
          workers = omega (arith, is.workers, more);
          blank = cut_high (λ _. sharing.is_blank) sharing.start first low (count - low) xs ys ends blank;
        },
      )

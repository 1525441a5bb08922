-- Lines that are renewed: those up to one tell their values, and those from there on are as they were.
use Rattle.std.proofs.Common.{◌≡◌, ℕ, zero, suc, ◌+◌, ◌-◌, ◌<◌, ◌≤◌, inl, inr, ◌++◌, List, [], ap, ap₂, sym, subst, refl, ◌∙◌, append_assoc, append-nil, arith, length, set, take, drop, length-append, length-set, take_at, drop_at, ◌∷◌}
use Rattle.std.specs.Prelude.{codes, slice_index_or}
use Rattle.std.specs.List.{flat_map, range_with_len, sum_by}
use Rattle.std.proofs.lemmas.Bool.{cases_lt}
use Rattle.std.proofs.lemmas.Grind.{get_or-set_at}
use Rattle.std.proofs.lemmas.List.{drop_all, get_or-set_other, get_or_append_left, get_or_at, length_push}
use Rattle.std.proofs.lemmas.List.Sums.{sum_by-drop_more}
use Rattle.ide_values.specs.Lines.{AreLines, ChangesStems, TellSome, TellValues, lengths_from, lines_with, line_tail, told_line}
use Rattle.ide_values.specs.declared.line_text.Told.{Told}
use Rattle.ide_values.proofs.Begun.{opened, tail_is}
use Rattle.ide_values.proofs.Coming.{some_within}
use Rattle.ide_values.proofs.Lines.{flat_more}

-- some texts, and those behind them
pub flat_split : (f : ℕ → List ℕ) (first n m : ℕ) → flat_map f (range_with_len first (n + m)) ≡ flat_map f (range_with_len first n) ++ flat_map f (range_with_len (first + n) m)
flat_split f first zero m =
    let none : 0 + m ≡ m = omega arith in
    let here : first ≡ first + 0 = omega arith in
    ap (λ k. flat_map f (range_with_len first k)) none ∙ ap (λ k. flat_map f (range_with_len k m)) here
flat_split f first (suc n) m =
    let more : suc n + m ≡ suc (n + m) = omega arith in
    let there : first + 1 + n ≡ first + suc n = omega arith in
    ap (λ k. flat_map f (range_with_len first k)) more
    ∙ ap (λ l. f first ++ l) (flat_split f (first + 1) n m)
    ∙ sym (append_assoc (f first) (flat_map f (range_with_len (first + 1) n)) (flat_map f (range_with_len (first + 1 + n) m)))
    ∙ ap (λ k. (f first ++ flat_map f (range_with_len (first + 1) n)) ++ flat_map f (range_with_len k m)) there

-- how long lines are, all together
pub long_from : {L : Type 0} (told : List (Told L)) (f : ℕ → List ℕ) (left first : ℕ) → first + left ≡ length told
    → ((k : ℕ) (d : Told L) → first ≤ k → k < length told → (slice_index_or told k d).length ≡ length (f k))
    → lengths_from told first ≡ length (flat_map f (range_with_len first left))
long_from {L} told f zero first all long = ap (λ ts. sum_by (λ (t : Told L). t.length) ts) (drop_all first told (omega (arith, all)))
long_from {L} told f (suc left) first all long =
    let within : first < length told = omega (arith, all) in
    let (x, is) = some_within told first within in
    let rest : lengths_from told (first + 1) ≡ length (flat_map f (range_with_len (first + 1) left)) =
    long_from told f left (first + 1) (omega (arith, all)) (λ k d from inside. long k d (omega (arith, from)) inside) in
    sum_by-drop_more (λ (t : Told L). t.length) told first x within
    ∙ ap₂ (λ a b. a + b) (long first x (omega arith) within) rest
    ∙ sym (length-append (f first) (flat_map f (range_with_len (first + 1) left)))

module _ {L : Type 0} (was : List (Told L)) (f h : ℕ → List ℕ) (value : ℕ → L) (text : List ℕ) where
  -- a text has the lines up to one, but for a run of the old text that is to be taken over
  pub record IsRenewed (told : List (Told L)) (out : List ℕ) (end kept place : ℕ) : Type 0 where
    pub left : ℕ
    pub count : length told ≡ length was
    pub all : end + left ≡ length was
    pub front : List ℕ
    pub run : List ℕ
    pub whole : text ≡ front ++ (run ++ flat_map f (range_with_len end left))
    pub kept_is : kept ≡ length front
    pub place_is : place ≡ length front + length run
    pub taken : out ++ run ≡ flat_map h (range_with_len 0 end)
    pub values : (k : ℕ) (d : Told L) → k < end → (slice_index_or told k d).value ≡ value k
    pub long : (k : ℕ) (d : Told L) → k < end → (slice_index_or told k d).length ≡ length (h k)
    pub rest : (k : ℕ) (d : Told L) → end ≤ k → slice_index_or told k d ≡ slice_index_or was k d

  pub renewed_none : text ≡ flat_map f (range_with_len 0 (length was)) → IsRenewed was [] 0 0 0
  renewed_none is = record {
    left = length was;
    count = refl;
    all = omega arith;
    front = [];
    run = [];
    whole = is;
    kept_is = refl;
    place_is = refl;
    taken = refl;
    values = λ k d none. absurd (omega (arith, none));
    long = λ k d none. absurd (omega (arith, none));
    rest = λ k d h. refl;
  }

  module _ (first_long : (k : ℕ) (d : Told L) → k < length was → (slice_index_or was k d).length ≡ length (f k)) where
    long_rest : (told : List (Told L)) (out : List ℕ) (end kept place : ℕ) (so_far : IsRenewed told out end kept place) (from left : ℕ)
        → end ≤ from → from + left ≡ length was → lengths_from told from ≡ length (flat_map f (range_with_len from left))
    long_rest told out end kept place so_far from left past all =
        long_from told f left from (all ∙ sym so_far.count)
        (λ k d on inside. ap (λ (t : Told L). t.length) (so_far.rest k d (omega (arith, past, on))) ∙ first_long k d (omega (arith, inside, so_far.count)))

    -- the lines that are left are as long as what is left of the old text
    pub renewed_room : (told : List (Told L)) (out : List ℕ) (end kept place : ℕ) → IsRenewed told out end kept place → place + lengths_from told end ≡ length text
    renewed_room told out end kept place so_far =
        let rest = flat_map f (range_with_len end so_far.left) in
        let long : lengths_from told end ≡ length rest = long_rest told out end kept place so_far end so_far.left (omega arith) so_far.all in
        let two : length (so_far.run ++ rest) ≡ length so_far.run + length rest = length-append so_far.run rest in
        let three : length text ≡ length so_far.front + length (so_far.run ++ rest) = ap length so_far.whole ∙ length-append so_far.front (so_far.run ++ rest) in
        omega (arith, long, two, three, so_far.place_is)

    -- some more lines stay
    pub renewed_stay : (told : List (Told L)) (out : List ℕ) (from end kept place next : ℕ) → IsRenewed told out from kept place
        → from ≤ end → end ≤ length told
        → ((k : ℕ) (d : Told L) → from ≤ k → k < end → (slice_index_or told k d).value ≡ value k)
        → ((k : ℕ) → from ≤ k → k < end → f k ≡ h k)
        → next + lengths_from told end ≡ place + lengths_from told from → IsRenewed told out end kept next
    renewed_stay told out from end kept place next so_far on within stay same sum =
        let count = end - from in
        let left = so_far.left - count in
        let whole_left : so_far.left ≡ count + left = omega (arith, on, within, so_far.all, so_far.count) in
        let there : from + count ≡ end = omega (arith, on) in
        let more = flat_map f (range_with_len from count) in
        let rest = flat_map f (range_with_len end left) in
        let split : flat_map f (range_with_len from so_far.left) ≡ more ++ rest =
        ap (λ n. flat_map f (range_with_len from n)) whole_left ∙ flat_split f from count left ∙ ap (λ n. more ++ flat_map f (range_with_len n left)) there in
        let long_all : lengths_from told from ≡ length (flat_map f (range_with_len from so_far.left)) = long_rest told out from kept place so_far from so_far.left (omega arith) so_far.all in
        let long_left : lengths_from told end ≡ length rest = long_rest told out from kept place so_far end left on (omega (arith, so_far.all, whole_left, there)) in
        let long_split : length (flat_map f (range_with_len from so_far.left)) ≡ length more + length rest = ap length split ∙ length-append more rest in
        let long_run : length (so_far.run ++ more) ≡ length so_far.run + length more = length-append so_far.run more in
        let told_more : more ≡ flat_map h (range_with_len from count) = same_from from count (λ k low high. same k low (omega (arith, high, there))) in
        record {
          left = left;
          count = so_far.count;
          all = omega (arith, so_far.all, whole_left, there);
          front = so_far.front;
          run = so_far.run ++ more;
          whole =
              so_far.whole
              ∙ ap (λ l. so_far.front ++ (so_far.run ++ l)) split
              ∙ ap (λ l. so_far.front ++ l) (sym (append_assoc so_far.run more rest));
          kept_is = so_far.kept_is;
          place_is = omega (arith, so_far.place_is, sum, long_all, long_left, long_split, long_run);
          taken =
              sym (append_assoc out so_far.run more)
              ∙ ap₂ (λ a b. a ++ b) so_far.taken told_more
              ∙ joined from count end there;
          values = λ k d before. elim (cases_lt k from) [
            | inl low ↦ so_far.values k d low
            | inr high ↦ stay k d high before
          ];
          long = λ k d before. elim (cases_lt k from) [
            | inl low ↦ so_far.long k d low
            | inr high ↦
                ap (λ (t : Told L). t.length) (so_far.rest k d high)
                ∙ first_long k d (omega (arith, before, within, so_far.count))
                ∙ ap length (same k high before)
          ];
          rest = λ k d past. so_far.rest k d (omega (arith, on, past));
        }
      where
        same_from : (first count : ℕ) → ((k : ℕ) → first ≤ k → k < first + count → f k ≡ h k) → flat_map f (range_with_len first count) ≡ flat_map h (range_with_len first count)
        same_from first zero each = refl
        same_from first (suc count) each =
            ap₂ (λ a b. a ++ b) (each first (omega arith) (omega arith))
            (same_from (first + 1) count (λ k low high. each k (omega (arith, low)) (omega (arith, high))))

        joined : (from count end : ℕ) → from + count ≡ end
            → flat_map h (range_with_len 0 from) ++ flat_map h (range_with_len from count) ≡ flat_map h (range_with_len 0 end)
        joined from count end there =
            let here : from ≡ 0 + from = omega arith in
            ap (λ n. flat_map h (range_with_len 0 from) ++ flat_map h (range_with_len n count)) here
            ∙ sym (flat_split h 0 from count)
            ∙ ap (λ n. flat_map h (range_with_len 0 n)) there

    -- the next line is told anew
    pub renewed_told : (told new : List (Told L)) (out taken next : List ℕ) (index kept place on : ℕ) (x d : Told L) → IsRenewed told out index kept place
        → index < length told → new ≡ set told index x → x.value ≡ value index → x.length ≡ length (h index)
        → taken ≡ take (place - kept) (drop kept text) → next ≡ (out ++ taken) ++ h index
        → on ≡ place + (slice_index_or told index d).length → IsRenewed new next (index + 1) on on
    renewed_told told new out taken next index kept place on x d so_far within is says long cut appended ahead =
        let some : 0 < so_far.left = omega (arith, so_far.all, so_far.count, within) in
        let rest = flat_map f (range_with_len (index + 1) (so_far.left - 1)) in
        let line : (slice_index_or told index d).length ≡ length (f index) =
        ap (λ (t : Told L). t.length) (so_far.rest index d (omega arith)) ∙ first_long index d (omega (arith, within, so_far.count)) in
        let from : drop kept text ≡ so_far.run ++ flat_map f (range_with_len index so_far.left) =
        ap (drop kept) so_far.whole ∙ drop_at so_far.front (so_far.run ++ flat_map f (range_with_len index so_far.left)) kept (sym so_far.kept_is) in
        let run : taken ≡ so_far.run =
        cut ∙ ap (take (place - kept)) from
        ∙ take_at so_far.run (flat_map f (range_with_len index so_far.left)) (place - kept) (omega (arith, so_far.place_is, so_far.kept_is)) in
        record {
          left = so_far.left - 1;
          count = ap length is ∙ length-set told index x ∙ so_far.count;
          all = omega (arith, so_far.all, some);
          front = so_far.front ++ (so_far.run ++ f index);
          run = [];
          whole =
              so_far.whole
              ∙ ap (λ l. so_far.front ++ (so_far.run ++ l)) (opened f index so_far.left some)
              ∙ ap (λ l. so_far.front ++ l) (sym (append_assoc so_far.run (f index) rest))
              ∙ sym (append_assoc so_far.front (so_far.run ++ f index) rest);
          kept_is = omega (arith, ahead, line, so_far.place_is, length-append so_far.front (so_far.run ++ f index), length-append so_far.run (f index));
          place_is = omega (arith, ahead, line, so_far.place_is, length-append so_far.front (so_far.run ++ f index), length-append so_far.run (f index));
          taken =
              append-nil next ∙ appended
              ∙ ap (λ l. (out ++ l) ++ h index) run
              ∙ ap (λ l. l ++ h index) so_far.taken
              ∙ sym (flat_more h index);
          values = λ k e before. ap (λ ts. (slice_index_or ts k e).value) is ∙ elim (cases_lt k index) [
            | inl low ↦ ap (λ (t : Told L). t.value) (get_or-set_other told index k x e (λ same. omega (arith, same, low))) ∙ so_far.values k e low
            | inr high ↦
                let here : k ≡ index = omega (arith, high, before) in
                ap (λ (t : Told L). t.value) (get_or-set_at told index k x e here within) ∙ says ∙ ap value (sym here)
          ];
          long = λ k e before. ap (λ ts. (slice_index_or ts k e).length) is ∙ elim (cases_lt k index) [
            | inl low ↦ ap (λ (t : Told L). t.length) (get_or-set_other told index k x e (λ same. omega (arith, same, low))) ∙ so_far.long k e low
            | inr high ↦
                let here : k ≡ index = omega (arith, high, before) in
                ap (λ (t : Told L). t.length) (get_or-set_at told index k x e here within) ∙ long ∙ ap (λ n. length (h n)) (sym here)
          ];
          rest = λ k e past.
              ap (λ ts. slice_index_or ts k e) is
              ∙ get_or-set_other told index k x e (λ same. omega (arith, same, past))
              ∙ so_far.rest k e (omega (arith, past));
        }

  -- the rest of the old text is taken over
  pub renewed_all : (told : List (Told L)) (out new : List ℕ) (end kept place : ℕ) → IsRenewed told out end kept place → length told ≤ end
      → new ≡ out ++ drop kept text → new ≡ flat_map h (range_with_len 0 (length told))
  renewed_all told out new end kept place so_far past is =
      let none : so_far.left ≡ 0 = omega (arith, past, so_far.all, so_far.count) in
      let all : end ≡ length told = omega (arith, past, so_far.all, so_far.count) in
      let rest : so_far.run ++ flat_map f (range_with_len end so_far.left) ≡ so_far.run =
      ap (λ n. so_far.run ++ flat_map f (range_with_len end n)) none ∙ append-nil so_far.run in
      is
      ∙ ap (λ t. out ++ drop kept t) so_far.whole
      ∙ ap (λ l. out ++ l) (drop_at so_far.front (so_far.run ++ flat_map f (range_with_len end so_far.left)) kept (sym so_far.kept_is) ∙ rest)
      ∙ so_far.taken
      ∙ ap (λ n. flat_map h (range_with_len 0 n)) all

module _ {L : Type 0} (told new : List (Told L)) (x : Told L) (n : ℕ) (count : length told ≡ n) (is : new ≡ told ++ x ∷ []) where
  -- of each that is told, with one more, as much holds as of the one before
  pub each_push : (P : ℕ → Told L → Type 0) → ((k : ℕ) (d : Told L) → k < length told → P k (slice_index_or told k d)) → P n x
      → (k : ℕ) (d : Told L) → k < length new → P k (slice_index_or new k d)
  each_push P each last k d within =
      let long : length new ≡ n + 1 = ap length is ∙ length_push told x ∙ ap (λ m. m + 1) count in
      subst (λ ts. P k (slice_index_or ts k d)) (sym is) (elim (cases_lt k n) [
        | inl before ↦ subst (P k) (sym (get_or_append_left told (x ∷ []) d k (omega (arith, before, count)))) (each k d (omega (arith, before, count)))
        | inr behind ↦
            let here : n ≡ k = omega (arith, behind, within, long) in
            subst (P k) (sym (get_or_at told x [] d k (count ∙ here))) (subst (λ m. P m x) here last)
      ])

  -- one line more is told
  pub lines_push : (stem : List ℕ) (tail : ℕ → List ℕ) (text next : List ℕ) → AreLines told stem tail text → x.length ≡ length (stem ++ tail n)
      → next ≡ text ++ (stem ++ tail n) → AreLines new stem tail next
  lines_push stem tail text next lines long appended =
      let more : n + 1 ≡ length new = sym (ap length is ∙ length_push told x ∙ ap (λ m. m + 1) count) in
      record {
        long = each_push (λ k (t : Told L). t.length ≡ length (stem ++ tail k)) lines.long long;
        is =
            appended
            ∙ ap (λ l. l ++ (stem ++ tail n)) (lines.is ∙ ap (lines_with stem tail 0) count)
            ∙ sym (flat_more (λ k. stem ++ tail k) n)
            ∙ ap (lines_with stem tail 0) more;
      }

module _ {L : Type 0} (shown : L → List ℕ) (facts : List (List ℕ)) (given value : ℕ → L) (was : List (Told L)) (stem text : List ℕ)
    (tell : TellValues shown facts given was stem text) where
  abbrev old : ℕ → List ℕ
  old k = stem ++ line_tail shown facts given k

  abbrev new : ℕ → List ℕ
  new k = stem ++ line_tail shown facts value k

  -- lines that told some values are renewed to tell others
  abbrev pub AreRenewed : (told : List (Told L)) (out : List ℕ) (end kept place : ℕ) → Type 0
  AreRenewed told out end kept place = IsRenewed was old new value text told out end kept place

  pub tell_none : AreRenewed was [] 0 0 0
  tell_none = renewed_none was old new value text tell.lines.is

  pub tell_room : (told : List (Told L)) (out : List ℕ) (end kept place : ℕ) → AreRenewed told out end kept place → place + lengths_from told end ≡ length text
  tell_room told out end kept place so_far = renewed_room was old new value text tell.lines.long told out end kept place so_far

  -- a line that stays tells what it is to tell
  stays : (told : List (Told L)) (out : List ℕ) (from kept place : ℕ) (so_far : AreRenewed told out from kept place) (k : ℕ) → from ≤ k → k < length told
      → ((d : Told L) → (slice_index_or told k d).value ≡ value k) → old k ≡ new k
  stays told out from kept place so_far k past within says =
      let (d, is) = some_within told k within in
      let same : given k ≡ value k =
      sym (tell.values k d (omega (arith, within, so_far.count))) ∙ sym (ap (λ (t : Told L). t.value) (so_far.rest k d past)) ∙ says d in
      ap (λ v. stem ++ (slice_index_or facts k [] ++ shown v ++ codes "\n")) same

  pub tell_stay : (told : List (Told L)) (out : List ℕ) (from end kept place next : ℕ) → AreRenewed told out from kept place
      → from ≤ end → end ≤ length told
      → ((k : ℕ) (d : Told L) → from ≤ k → k < end → (slice_index_or told k d).value ≡ value k)
      → next + lengths_from told end ≡ place + lengths_from told from → AreRenewed told out end kept next
  tell_stay told out from end kept place next so_far on within stay sum =
      renewed_stay was old new value text tell.lines.long told out from end kept place next so_far on within stay
      (λ k past before. stays told out from kept place so_far k past (omega (arith, before, within)) (λ d. stay k d past before)) sum

  pub tell_one : (told after : List (Told L)) (out taken next columns : List ℕ) (index kept place on : ℕ) (x d : Told L) (v : L) → AreRenewed told out index kept place
      → index < length told → after ≡ set told index x → columns ≡ slice_index_or facts index [] → v ≡ value index → x.value ≡ v → x.length ≡ length (told_line stem columns (shown v))
      → taken ≡ take (place - kept) (drop kept text) → next ≡ (out ++ taken) ++ told_line stem columns (shown v)
      → on ≡ place + (slice_index_or told index d).length → AreRenewed after next (index + 1) on on
  tell_one told after out taken next columns index kept place on x d v so_far within is read shows says long cut appended ahead =
      let line : told_line stem columns (shown v) ≡ new index =
      ap₂ (λ a b. told_line stem a (shown b)) read shows ∙ tail_is stem (slice_index_or facts index []) (shown (value index)) in
      renewed_told was old new value text tell.lines.long told after out taken next index kept place on x d so_far within is (says ∙ shows) (long ∙ ap length line)
      cut (appended ∙ ap (λ l. (out ++ taken) ++ l) line) ahead

  pub tell_all : (told : List (Told L)) (out next : List ℕ) (end kept place : ℕ) → AreRenewed told out end kept place → length told ≤ end
      → next ≡ out ++ drop kept text → TellValues shown facts value told stem next
  tell_all told out next end kept place so_far past is = record {
    count = so_far.count ∙ tell.count;
    values = λ k d within. so_far.values k d (omega (arith, within, past));
    lines = record {
      long = λ k d within. so_far.long k d (omega (arith, within, past));
      is = renewed_all was old new value text told out next end kept place so_far past is;
    };
  }

-- texts that are the same one by one are the same
pub flat_same : (f h : ℕ → List ℕ) (first count : ℕ) → ((k : ℕ) → first ≤ k → k < first + count → f k ≡ h k) → flat_map f (range_with_len first count) ≡ flat_map h (range_with_len first count)
flat_same f h first zero each = refl
flat_same f h first (suc count) each =
    ap₂ (λ a b. a ++ b) (each first (omega arith) (omega arith))
    (flat_same f h (first + 1) count (λ k low high. each k (omega (arith, low)) (omega (arith, high))))

module _ {L : Type 0} (shown : L → List ℕ) (facts : List (List ℕ)) where
  -- the same values, given otherwise
  pub tell_same : (one two : ℕ → L) (told : List (Told L)) (stem text : List ℕ) → TellValues shown facts one told stem text
      → ((k : ℕ) → k < length told → one k ≡ two k) → TellValues shown facts two told stem text
  tell_same one two told stem text tell same =
      let tails : (k : ℕ) → k < length told → stem ++ line_tail shown facts one k ≡ stem ++ line_tail shown facts two k =
      λ k within. ap (λ v. stem ++ (slice_index_or facts k [] ++ shown v ++ codes "\n")) (same k within) in
      record {
        count = tell.count;
        values = λ k d within. tell.values k d within ∙ same k within;
        lines = record {
          long = λ k d within. tell.lines.long k d within ∙ ap length (tails k within);
          is =
              tell.lines.is
              ∙ flat_same (λ k. stem ++ line_tail shown facts one k) (λ k. stem ++ line_tail shown facts two k) 0 (length told)
              (λ k low high. tails k (omega (arith, high)));
        };
      }

  -- lines whose stems are changed tell what they told
  pub tell_with : (told old : List (Told L)) (stem before next after text from into : List ℕ) → TellSome shown facts told stem text
      → old ≡ told → before ≡ stem → from ≡ text → ChangesStems old before next from into → after ≡ next → TellSome shown facts told after into
  tell_with told old stem before next after text from into tell a b d changes e =
      let tail = line_tail shown facts tell.value in
      let lines : AreLines old before tail from =
      subst (λ ts. AreLines ts before tail from) (sym a)
      (subst (λ s. AreLines told s tail from) (sym b) (subst (λ t. AreLines told stem tail t) (sym d) tell.tell.lines)) in
      record {
        value = tell.value;
        tell = record {
          count = tell.tell.count;
          values = tell.tell.values;
          lines = subst (λ s. AreLines told s tail into) (sym e) (subst (λ ts. AreLines ts next tail into) a (changes tail lines));
        };
      }

-- What is left of a note, told by the slot beside it.
use Rattle.std.proofs.Common.{◌≡◌, ℕ, zero, suc, ◌<◌, ◌+◌, ◌++◌, refl, arith, sym, ap, ◌∙◌, cond, Bool, List, [], ◌∷◌, Option, None, Some, drop, get_or, length, map}
use Rattle.std.specs.Prelude.{slice_get, unwrap_or}
use Rattle.std.specs.List.{cons_option, filter_map}
use Rattle.std.proofs.lemmas.List.{append-nil, append_assoc}
use Rattle.std.proofs.lemmas.Option.{same_Some}
use Rattle.ide_image.specs.Notes.{noted_count}
use Rattle.ide_wire.specs.declared.key.Key.{Key}
use Rattle.ide_image.specs.Left.{is_left, left_of}
use Rattle.ide_image.specs.declared.entry.Entry.{Entry}

-- what stands at an index, in either form
pub got : {X : Type 0} (xs : List X) (i : ℕ) (d x : X) → slice_get xs i ≡ Some x → get_or xs i d ≡ x
got [] i d x is = absurd (cc (is))
got (y ∷ ys) zero d x is = same_Some y x is
got (y ∷ ys) (suc i) d x is = got ys i d x is

-- the slot beside a note is that of its key
pub slot-beside : {F : Type 0} (place : Key → ℕ) (notes : List (Key × Entry F)) (slots : List ℕ) → map (λ note. place note.0) notes ≡ map suc slots
    → (i : ℕ) (d : Key × Entry F) (e : ℕ) → i < length notes → place (get_or notes i d).0 ≡ suc (get_or slots i e)
slot-beside place [] slots same i d e within = absurd (omega (arith, within))
slot-beside place (n ∷ ns) [] same i d e within = absurd (cc (same))
slot-beside place (n ∷ ns) (s ∷ ss) same zero d e within = cc (same)
slot-beside place (n ∷ ns) (s ∷ ss) same (suc i) d e within =
    let rest : map (λ note. place note.0) ns ≡ map suc ss = cc (same) in
    slot-beside place ns ss rest i d e (omega (arith, within))

-- what is left of a key that has the function and waits or does not
pub left-as : {F : Type 0} (same : F → F → Bool) (key : Key) (now : Option F) (f : F) (pending waits : Bool) (before : Entry F) (b : Bool)
    → now ≡ Some f → pending ≡ waits → b ≡ is_left same (Some f) before.function waits before.pending
    → cond b (Some (key, f, waits)) None ≡ left_of same key now pending before
left-as same key now f pending waits before b is stands told =
    ap (λ b. cond b (Some (key, f, waits)) None) told
    ∙ ap (λ w. left_of same key (Some f) w before) (sym stands)
    ∙ ap (λ o. left_of same key o pending before) (sym is)

pub count-notes : {F : Type 0} (changes : Option (List (Key × Entry F))) → noted_count changes ≡ length (unwrap_or changes [])
count-notes None = refl
count-notes (Some list) = refl

module _ {X Y : Type 0} (f : X → Option Y) where
  -- what comes of an element, and of those behind it
  from-here : (xs : List X) (i : ℕ) (o : Option Y) → i < length xs → ((x : X) → slice_get xs i ≡ Some x → o ≡ f x)
      → filter_map f (drop i xs) ≡ cons_option o (filter_map f (drop (suc i) xs))
  from-here [] i o within gives = absurd (omega (arith, within))
  from-here (x ∷ xs) zero o within gives = ap (λ p. cons_option p (filter_map f xs)) (sym (gives x refl))
  from-here (x ∷ xs) (suc i) o within gives = from-here xs i o (omega (arith, within)) gives

  one-more : (done rest : List Y) (o : Option Y) → (done ++ cons_option o []) ++ rest ≡ done ++ cons_option o rest
  one-more done rest None = ap (λ ys. ys ++ rest) (append-nil done)
  one-more done rest (Some y) = append_assoc done (y ∷ []) rest

  pub next-listed : (done : List Y) (xs : List X) (i : ℕ) (o : Option Y) → i < length xs → ((x : X) → slice_get xs i ≡ Some x → o ≡ f x)
      → (done ++ cons_option o []) ++ filter_map f (drop (i + 1) xs) ≡ done ++ filter_map f (drop i xs)
  next-listed done xs i o within gives =
      let next : i + 1 ≡ suc i = omega arith in
      ap (λ n. (done ++ cons_option o []) ++ filter_map f (drop n xs)) next
      ∙ one-more done (filter_map f (drop (suc i) xs)) o
      ∙ ap (λ ys. done ++ ys) (sym (from-here xs i o within gives))

-- What stays of the synced bytes when others are put over them, cut off or put behind them.
use Rattle.std.specs.Prelude.{◌≡◌, ◌⊎◌, ℕ, ◌+◌, ◌<◌, ◌≤◌, max, List, [], ◌∷◌, ◌++◌, length, take, slice_index}
use Rattle.std.proofs.Common.{arith, rules, inl, inr, ap, ◌∙◌}
use Rattle.std.proofs.lemmas.List.{places, length-take, length-drop, length-append, get_or_append_left, get_or-take}
use Rattle.ide_disk.specs.Disk.{Change, Wrote, Cut, put_at, Keeps, LeftOf}

-- how many bytes there are then
pub length-put_at : (at : ℕ) (bytes old : List ℕ) → at ≤ length old → length (put_at at bytes old) ≡ max (length old) (at + length bytes)
length-put_at at bytes old inside = simp (length-append, length-take, length-drop) (omega (arith, inside))

-- bytes that end within the room, put over others that do
pub put_at-fits : (at : ℕ) (bytes old : List ℕ) (room : ℕ) → at + length bytes ≤ room → length old ≤ room → length (put_at at bytes old) ≤ room
put_at-fits at bytes old room new_fit old_fit = simp (length-append, length-take, length-drop) (omega arith)

-- a place outside of the range is still there
pub put_at-within : (at : ℕ) (bytes old : List ℕ) → (i : ℕ) → i < length old → (i < at) ⊎ (at + length bytes ≤ i)
    → i < length (put_at at bytes old)
put_at-within at bytes old i inside outside =
    elim outside [ inl before ↦ simp (length-append, length-take, length-drop) (omega arith) | inr after ↦ simp (length-append, length-take, length-drop) (omega arith) ]

-- a byte before the place stays
pub put_at-before : (at : ℕ) (bytes old : List ℕ) (i : ℕ) → i < at → i < length old
    → slice_index (put_at at bytes old) i ≡ slice_index old i
put_at-before at bytes old i before inside = search (rules, places)

-- a byte behind the range stays
pub put_at-after : (at : ℕ) (bytes old : List ℕ) (i : ℕ) → at + length bytes ≤ i → i < length old
    → slice_index (put_at at bytes old) i ≡ slice_index old i
put_at-after at bytes old i after inside = search (rules, places)

-- a change that does nothing leaves what was left
pub keeps_more : (synced : List ℕ) (change : Change) (changes : List Change) (left : List ℕ)
    → Keeps synced changes left → Keeps synced (change ∷ changes) left
keeps_more synced (Wrote at count) changes left keeps = record {
  within = λ i inside kept. keeps.within i inside kept.1;
  same = λ i inside kept. keeps.same i inside kept.1;
}
keeps_more synced (Cut len) changes left keeps = record {
  within = λ i inside kept. keeps.within i inside kept.1;
  same = λ i inside kept. keeps.same i inside kept.1;
}

-- what is left with no change, or after some, keeps what is kept
pub keeps_left : (synced : List ℕ) (changes : List Change) (left : List ℕ) → LeftOf synced changes left → Keeps synced changes left
keeps_left synced [] left is = record {
  within = λ i inside kept. omega (arith, ap length is);
  same = λ i inside kept. ap (λ (bytes : List ℕ). slice_index bytes i) is;
}
keeps_left synced (change ∷ changes) left keeps = keeps

-- no more bytes than those of the range are put over
pub keeps_put : (synced : List ℕ) (changes : List Change) (old : List ℕ) (at count : ℕ) (bytes : List ℕ) → length bytes ≤ count
    → Keeps synced changes old → Keeps synced (Wrote at count ∷ changes) (put_at at bytes old)
keeps_put synced changes old at count bytes few keeps = record {
  within = λ i inside kept. put_at-within at bytes old i (keeps.within i inside kept.1)
      (elim kept.0 [ inl before ↦ inl before | inr after ↦ inr (omega arith) ]);
  same = λ i inside kept. elim kept.0 [
    | inl before ↦ put_at-before at bytes old i before (keeps.within i inside kept.1) ∙ keeps.same i inside kept.1
    | inr after ↦ put_at-after at bytes old i (omega arith) (keeps.within i inside kept.1) ∙ keeps.same i inside kept.1
  ];
}

-- bytes behind the end change none of the others
pub keeps_pad : (synced : List ℕ) (changes : List Change) (old more : List ℕ) → Keeps synced changes old → Keeps synced changes (old ++ more)
keeps_pad synced changes old more keeps = record {
  within = λ i inside kept. omega (arith, length-append old more, keeps.within i inside kept);
  same = λ i inside kept. get_or_append_left old more 0 i (keeps.within i inside kept) ∙ keeps.same i inside kept;
}

-- a cut leaves what stands below it
pub keeps_cut : (synced : List ℕ) (changes : List Change) (old : List ℕ) (len : ℕ) → Keeps synced changes old → Keeps synced (Cut len ∷ changes) (take len old)
keeps_cut synced changes old len keeps = record {
  within = λ i inside kept. omega (arith, length-take len old, keeps.within i inside kept.1, kept.0);
  same = λ i inside kept. get_or-take len old i 0 kept.0 ∙ keeps.same i inside kept.1;
}

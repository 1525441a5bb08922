-- A file holds one list of records at most.
use Rattle.std.specs.Prelude.{◌≡◌, ℕ, ◌+◌, ◌≤◌, List, [], ◌∷◌, ◌++◌, length, drop, refl}
use Rattle.std.specs.Int.{w32, w64, to_le_bytes, from_le_bytes}
use Rattle.std.proofs.Common.{arith, sym, ap, subst, ◌∙◌, get_or}
use Rattle.std.proofs.lemmas.List.{append_assoc, append_cancel_left, length-append, length-replicate}
use Rattle.std.proofs.lemmas.Nat.{from_le_bytes-to_le_bytes_4}
use Rattle.ide_journal.specs.Format.{Entry, Head, head_of, letters, zeros, header, padding, after_gate, IsEntry, IsPages, Holds}
use Rattle.ide_journal.specs.declared.version.Version.{Version}
use Rattle.ide_journal.specs.declared.version.Version.TheVariants.{One, Two}
use Rattle.ide_journal.specs.Laws.{HoldsOneList, HoldsTheSame}

pub length-zeros : (count : ℕ) → length (zeros count) ≡ count
unfolding zeros
length-zeros count = length-replicate count 0

pub length-letters : (version : Version) → length (letters version) ≡ 8
length-letters One = refl
length-letters Two = refl

pub length-header : (head : Head) → length (header head) ≡ 4096
unfolding header
length-header head =
    omega (arith, length-append (letters head.version) (head.tag ∷ zeros 4087), length-letters head.version, length-zeros 4087)

-- the last of the letters tells the version
pub same_version : (version other : Version) → letters version ≡ letters other → version ≡ other
same_version One One same = refl
same_version One Two same = absurd (omega (arith, ap (λ (xs : List ℕ). get_or xs 7 0) same))
same_version Two One same = absurd (omega (arith, ap (λ (xs : List ℕ). get_or xs 7 0) same))
same_version Two Two same = refl

-- fronts of one length of equal lists are equal, and so is the rest
pub same_front : (xs ys us vs : List ℕ) → length xs ≡ length ys → xs ++ us ≡ ys ++ vs → (xs ≡ ys) × (us ≡ vs)
same_front [] [] us vs long same = (refl, same)
same_front [] (y ∷ ys) us vs long same = absurd (omega (arith, long))
same_front (x ∷ xs) [] us vs long same = absurd (omega (arith, long))
same_front (x ∷ xs) (y ∷ ys) us vs long same =
    let first : x ≡ y = cc in
    let others : xs ++ us ≡ ys ++ vs = cc in
    let rest = same_front xs ys us vs (omega (arith, long)) others in
    (ap (λ (z : ℕ). z ∷ xs) first ∙ ap (λ (zs : List ℕ). y ∷ zs) rest.0, rest.1)

regroup : (a b c d e us : List ℕ) → a ++ b ++ c ++ d ++ e ++ us ≡ a ++ (b ++ (c ++ (d ++ (e ++ us))))
regroup a b c d e us = simp append_assoc

-- lengths of bodies that are told by the same four bytes are the same
same_length : (n m : ℕ) → n ≤ 4194304 → m ≤ 4194304 → to_le_bytes w32 n ≡ to_le_bytes w32 m → n ≡ m
same_length n m short short' same =
    sym (from_le_bytes-to_le_bytes_4 n (omega arith)) ∙ ap (from_le_bytes w32) same ∙ from_le_bytes-to_le_bytes_4 m (omega arith)

-- records of one number at the front of equal lists are equal, and so is the rest
same_entry : (number : ℕ) (entry other : Entry) (us vs : List ℕ) → IsEntry entry → IsEntry other
    → after_gate number entry ++ us ≡ after_gate number other ++ vs → (entry ≡ other) × (us ≡ vs)
unfolding after_gate
same_entry number entry other us vs is is_other same =
    let filling : List ℕ = zeros (padding (length entry.1)) in
    let other_filling : List ℕ = zeros (padding (length other.1)) in
    let flat = sym (regroup (entry.0 ∷ []) (to_le_bytes w64 number) (to_le_bytes w32 (length entry.1)) entry.1 filling us) ∙ same
    ∙ regroup (other.0 ∷ []) (to_le_bytes w64 number) (to_le_bytes w32 (length other.1)) other.1 other_filling vs in
    let kinds = same_front (entry.0 ∷ []) (other.0 ∷ []) _ _ refl flat in
    let numbers = append_cancel_left (to_le_bytes w64 number) _ _ kinds.1 in
    let lengths = same_front (to_le_bytes w32 (length entry.1)) (to_le_bytes w32 (length other.1)) _ _ refl numbers in
    let length_is = same_length (length entry.1) (length other.1) is.short is_other.short lengths.0 in
    let bodies = same_front entry.1 other.1 _ _ length_is lengths.1 in
    let rests = same_front filling other_filling us vs (ap (λ (n : ℕ). length (zeros (padding n))) length_is) bodies.1 in
    let kind_is : entry.0 ≡ other.0 = ap (λ (xs : List ℕ). get_or xs 0 0) kinds.0 in
    (ap (λ (k : ℕ). (k, entry.1)) kind_is ∙ ap (λ (b : List ℕ). (other.0, b)) bodies.0, rests.1)

one_list : (number : ℕ) (entries others : List Entry) (pages other_pages rest other_rest : List ℕ)
    → IsPages number entries pages → IsPages number others other_pages → pages ++ 0 ∷ rest ≡ other_pages ++ 0 ∷ other_rest → entries ≡ others
one_list number [] [] pages other_pages rest other_rest whole other_whole same = refl
one_list number [] (other ∷ others) pages other_pages rest other_rest whole (gate, more, opened, is, split, goes_on) same =
    let gates : 0 ≡ gate =
    ap (λ (xs : List ℕ). get_or xs 0 0) (ap (λ (p : List ℕ). p ++ 0 ∷ rest) (sym whole) ∙ same ∙ ap (λ (p : List ℕ). p ++ 0 ∷ other_rest) split) in
    absurd (opened (sym gates))
one_list number (entry ∷ entries) [] pages other_pages rest other_rest (gate, more, opened, is, split, goes_on) whole same =
    let gates : gate ≡ 0 =
    ap (λ (xs : List ℕ). get_or xs 0 0) (ap (λ (p : List ℕ). p ++ 0 ∷ rest) (sym split) ∙ same ∙ ap (λ (p : List ℕ). p ++ 0 ∷ other_rest) whole) in
    absurd (opened gates)
one_list number (entry ∷ entries) (other ∷ others) pages other_pages rest other_rest (gate, more, opened, is, split, goes_on) (gate', more', opened', is', split', goes_on') same =
    let both : (gate ∷ after_gate number entry ++ more) ++ 0 ∷ rest ≡ (gate' ∷ after_gate number other ++ more') ++ 0 ∷ other_rest =
    ap (λ (p : List ℕ). p ++ 0 ∷ rest) (sym split) ∙ same ∙ ap (λ (p : List ℕ). p ++ 0 ∷ other_rest) split' in
    let behind = ap (drop 1) both in
    let firsts = same_entry number entry other (more ++ 0 ∷ rest) (more' ++ 0 ∷ other_rest) is is'
    (sym (append_assoc (after_gate number entry) more (0 ∷ rest)) ∙ behind ∙ append_assoc (after_gate number other) more' (0 ∷ other_rest)) in
    let others_are = one_list (number + 1) entries others more more' rest other_rest goes_on goes_on' firsts.1 in
    ap (λ (e : Entry). e ∷ entries) firsts.0 ∙ ap (λ (es : List Entry). other ∷ es) others_are

-- the first page tells one version and one tag
same_head : (head other : Head) → header head ≡ header other → head ≡ other
unfolding header
same_head head other same =
    let parts = same_front (letters head.version) (letters other.version) _ _ (length-letters head.version ∙ sym (length-letters other.version)) same in
    ap (λ (v : Version). head_of v head.tag) (same_version head.version other.version parts.0)
    ∙ ap (λ (t : ℕ). head_of other.version t) (ap (λ (xs : List ℕ). get_or xs 0 0) parts.1)

pub holds_one_list : HoldsOneList
holds_one_list head other entries others bytes holds other_holds =
    let flat : header head ++ (holds.pages ++ 0 ∷ holds.rest) ≡ header other ++ (other_holds.pages ++ 0 ∷ other_holds.rest) =
    sym (append_assoc (header head) holds.pages (0 ∷ holds.rest)) ∙ sym holds.split ∙ other_holds.split
    ∙ append_assoc (header other) other_holds.pages (0 ∷ other_holds.rest) in
    let fronts = same_front (header head) (header other) _ _ (length-header head ∙ sym (length-header other)) flat in (
      same_head head other fronts.0,
      one_list 0 entries others holds.pages other_holds.pages holds.rest other_holds.rest holds.whole other_holds.whole fronts.1,
    )

pub holds_the_same : HoldsTheSame
holds_the_same head entries bytes left same holds =
    let one = holds_one_list same.head head same.entries entries bytes same.first holds in
    subst (λ (h : Head). Holds h entries left) one.0 (subst (λ (es : List Entry). Holds same.head es left) one.1 same.second)

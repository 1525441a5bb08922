-- The coded forms of fixed numbers: as many bytes as the type has, the lowest first.
use Rattle.std.specs.Prelude.{◌≡◌, ℕ, ◌≤◌, ◌<◌, ◌^◌, Bool, List, [], ◌∷◌, ◌++◌, length, take, drop, get_or, IsTrue, nat_lt}
use Rattle.std.specs.Int.{w8, w16, w32, w64, to_le_bytes, from_le_bytes}
use Rattle.std.proofs.Common.{ap, sym, refl, ◌∙◌, arith, lit≤, Fits}
use Rattle.std.proofs.lemmas.Nat.{le_bytes_2, le_bytes_4, le_bytes_8}
use Rattle.std.proofs.lemmas.Bool.Decides.{nat_tests}
use Rattle.std.proofs.lemmas.List.{get_or-take, get_or_past, length-take, length-take-le, take-append-drop}
use Rattle.byteorder.specs.Endian.{little_bytes, little_number}
use Rattle.byteorder.specs.Numbers.{little_number-reads_back}
use Rattle.ide_wire.specs.Form.{StandsInFront, IsPrefixFree}

-- whether a number has so many bits at most
abbrev pub fits : ℕ → ℕ → Bool
fits bits n = nat_lt n (2 ^ bits)

-- each number is a byte
abbrev pub AreBytes : List ℕ → Type 0
AreBytes bytes = (i : ℕ) → Fits w8 (get_or bytes i 0)

pub fits_below : (bits n : ℕ) → IsTrue (fits bits n) → n < 2 ^ bits
fits_below bits n h = grind (arith, nat_tests)

-- the front of bytes is bytes
pub front_bytes : (count : ℕ) (bytes : List ℕ) → AreBytes bytes → AreBytes (take count bytes)
front_bytes count bytes small i = grind (arith, get_or-take count bytes i 0, get_or_past (take count bytes) i 0, length-take count bytes, small i)

-- a number is read back from the front of bytes that begin with its form, so no form begins another
number_prefix_free : (count : ℕ) (proper : ℕ → Bool) → ((x : ℕ) → IsTrue (proper x) → x < 256 ^ count) → IsPrefixFree proper (little_bytes count)
number_prefix_free count proper below x y r s p q same =
    sym (little_number-reads_back count x r (below x p)) ∙ ap (little_number count) same ∙ little_number-reads_back count y s (below y q)

pub one_prefix_free : IsPrefixFree (fits 8) (λ n. n ∷ [])
one_prefix_free x y r s p q same = ap (λ bytes. get_or bytes 0 0) same

pub two_prefix_free : IsPrefixFree (fits 16) (to_le_bytes w16)
two_prefix_free = number_prefix_free 2 (fits 16) (fits_below 16)

pub four_prefix_free : IsPrefixFree (fits 32) (to_le_bytes w32)
four_prefix_free = number_prefix_free 4 (fits 32) (fits_below 32)

pub eight_prefix_free : IsPrefixFree (fits 64) (to_le_bytes w64)
eight_prefix_free = number_prefix_free 8 (fits 64) (fits_below 64)

-- a form stands in front of bytes that begin with it
pub in_front : (form bytes : List ℕ) (count : ℕ) → count ≤ length bytes → form ≡ take count bytes → StandsInFront form bytes count
in_front form bytes count long same = record {
  rest = drop count bytes;
  splits = sym (take-append-drop count bytes) ∙ ap (λ front. front ++ drop count bytes) (sym same);
  size = sym (ap length same ∙ length-take-le count bytes long);
}

-- the form of the number that the front of some bytes spells stands there
pub two_in_front : (bytes : List ℕ) (n : ℕ) → AreBytes bytes → 2 ≤ length bytes
    → n ≡ from_le_bytes w16 bytes → StandsInFront (to_le_bytes w16 n) bytes 2
two_in_front bytes n small long same =
    in_front (to_le_bytes w16 n) bytes 2 long
    (le_bytes_2 (take 2 bytes) n (length-take-le 2 bytes long) (λ i. omega (arith, front_bytes 2 bytes small i))
    (same ∙ rw (get_or-take 2 bytes 0 0 (lit≤ tt), get_or-take 2 bytes 1 0 (lit≤ tt)) refl))

pub four_in_front : (bytes : List ℕ) (n : ℕ) → AreBytes bytes → 4 ≤ length bytes
    → n ≡ from_le_bytes w32 bytes → StandsInFront (to_le_bytes w32 n) bytes 4
four_in_front bytes n small long same =
    in_front (to_le_bytes w32 n) bytes 4 long
    (le_bytes_4 (take 4 bytes) n (length-take-le 4 bytes long) (λ i. omega (arith, front_bytes 4 bytes small i))
    (same ∙ rw (get_or-take 4 bytes 0 0 (lit≤ tt), get_or-take 4 bytes 1 0 (lit≤ tt), get_or-take 4 bytes 2 0 (lit≤ tt), get_or-take 4 bytes 3 0 (lit≤ tt)) refl))

pub eight_in_front : (bytes : List ℕ) (n : ℕ) → AreBytes bytes → 8 ≤ length bytes
    → n ≡ from_le_bytes w64 bytes → StandsInFront (to_le_bytes w64 n) bytes 8
eight_in_front bytes n small long same =
    in_front (to_le_bytes w64 n) bytes 8 long
    (le_bytes_8 (take 8 bytes) n (length-take-le 8 bytes long) (λ i. omega (arith, front_bytes 8 bytes small i))
    (same ∙ rw (get_or-take 8 bytes 0 0 (lit≤ tt), get_or-take 8 bytes 1 0 (lit≤ tt), get_or-take 8 bytes 2 0 (lit≤ tt), get_or-take 8 bytes 3 0 (lit≤ tt), get_or-take 8 bytes 4 0 (lit≤ tt), get_or-take 8 bytes 5 0 (lit≤ tt), get_or-take 8 bytes 6 0 (lit≤ tt), get_or-take 8 bytes 7 0 (lit≤ tt)) refl))

-- Headers of groups: a kind and a node, and how many members there are.
use Rattle.std.specs.Prelude.{◌≡◌, ℕ, Bool, ◌&&◌, List, ◌∷◌, ◌++◌, nat_lt}
use Rattle.std.specs.Int.{w32, to_le_bytes}
use Rattle.ide_wire.specs.Form.{IsPrefixFree}
use Rattle.ide_wire.specs.Numbers.{fits, four_prefix_free}
use Rattle.ide_batch.specs.FormLaws.{right_law, pair_free}
use Rattle.ide_batch.specs.GroupsRead.{Place, header_form, is_proper_header}

abbrev pub place_form : Place → List ℕ
place_form place = place.0 ∷ to_le_bytes w32 place.1

abbrev pub is_proper_place : Place → Bool
is_proper_place place = nat_lt place.0 2 && fits 32 place.1

pair_is : {A B : Type 0} (x y : A × B) → x.0 ≡ y.0 → x.1 ≡ y.1 → x ≡ y
pair_is (a, b) (c, d) first second = cc (first, second)

pub place_free : IsPrefixFree is_proper_place place_form
place_free x y r s p q same =
    let heads : x.0 ≡ y.0 = cc (same) in
    let tails : to_le_bytes w32 x.1 ++ r ≡ to_le_bytes w32 y.1 ++ s = cc (same) in
    pair_is x y heads (four_prefix_free x.1 y.1 r s (right_law (nat_lt x.0 2) (fits 32 x.1) p) (right_law (nat_lt y.0 2) (fits 32 y.1) q) tails)

pub header_free : IsPrefixFree is_proper_header header_form
header_free x y r s p q same =
    let cut = pair_free is_proper_place place_form (fits 32) (to_le_bytes w32) place_free four_prefix_free x.0 y.0 x.1 y.1 r s p q same in
    pair_is x y cut.0 cut.1

-- Two numbers by which keys compare: that of the kind, and the node and the facts in one.
use Rattle.std.specs.Prelude.{ℕ, ◌+◌, ◌*◌, ◌<◌}
use Rattle.ide_wire.specs.declared.key.Key.{Key}
use Rattle.ide_wire.specs.declared.key.Key.TheVariants.{Jump, Summary}

-- 0 of a jump, 1 of a summary
abbrev pub key_kind : Key → ℕ
key_kind (Jump n a b) = 0
key_kind (Summary n a b) = 1

-- the node and the facts in one number, the node's bits the highest
abbrev pub joined_numbers : (node first second : ℕ) → ℕ
joined_numbers node first second = node * 4294967296 + first * 65536 + second

abbrev pub key_number : Key → ℕ
key_number (Jump n a b) = joined_numbers n a b
key_number (Summary n a b) = joined_numbers n a b

-- the facts are numbers of 16 bits
abbrev pub HasFacts : Key → Type 0
HasFacts (Jump n a b) = (a < 65536) × (b < 65536)
HasFacts (Summary n a b) = (a < 65536) × (b < 65536)

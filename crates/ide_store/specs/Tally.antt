-- What hands did since an image was opened or its program loaded.
use Rattle.std.specs.Prelude.{ℕ, Option}
use Rattle.ide_theory.specs.Images.{Image, image_state}
use Rattle.ide_theory.specs.State.{Claim, State}

-- the state that they began from, how many keys they claimed, how many parts lowered a key, how many
-- claims were given back, and how many entries of roots became the identity
pub record Tally (F : Type 0) : Type 0 where
  pub begun : State F
  pub claims : ℕ
  pub lowerings : ℕ
  pub releases : ℕ
  pub entries : ℕ

-- nothing yet
abbrev pub nothing_since : {F : Type 0} → State F → Tally F
nothing_since begun = record { begun = begun; claims = 0; lowerings = 0; releases = 0; entries = 0 }

-- the image with the claims of hands, as a state of the tabulation
abbrev pub state_with : {Program Name F : Type 0} → Image Program Name F → (ℕ → Option (Claim F)) → State F
state_with image claims = record (image_state image) { claims = claims }

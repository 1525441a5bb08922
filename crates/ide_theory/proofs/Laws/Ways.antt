-- Steps that follow on one another: counts add up, and what is one hand's stays so.
use Rattle.std.proofs.Common.{◌≡◌, ℕ, ◌+◌, arith}
use Rattle.ide_theory.specs.Frame.{Frame}
use Rattle.ide_theory.specs.State.{State}
use Rattle.ide_theory.specs.Run.{Steps, none, more, steps_joined, claims_of, claims_in, lowerings_of, lowerings_in, releases_of, releases_in, seeds_of, seeds_in, AreBy}

module _ {K : Frame} where
  pub joined-claims : {s t u : State K.F} (first : Steps K s t) (next : Steps K t u) → claims_in (steps_joined first next) ≡ claims_in first + claims_in next
  joined-claims first none = let same : claims_in first ≡ claims_in first + 0 = omega arith in same
  joined-claims first (more steps step) =
      let rest = joined-claims first steps in
      let sum : claims_in (steps_joined first steps) + claims_of step ≡ claims_in first + (claims_in steps + claims_of step) = omega (arith, rest) in
      sum

  pub joined-lowerings : {s t u : State K.F} (first : Steps K s t) (next : Steps K t u) → lowerings_in (steps_joined first next) ≡ lowerings_in first + lowerings_in next
  joined-lowerings first none = let same : lowerings_in first ≡ lowerings_in first + 0 = omega arith in same
  joined-lowerings first (more steps step) =
      let rest = joined-lowerings first steps in
      let sum : lowerings_in (steps_joined first steps) + lowerings_of step ≡ lowerings_in first + (lowerings_in steps + lowerings_of step) = omega (arith, rest) in
      sum

  pub joined-releases : {s t u : State K.F} (first : Steps K s t) (next : Steps K t u) → releases_in (steps_joined first next) ≡ releases_in first + releases_in next
  joined-releases first none = let same : releases_in first ≡ releases_in first + 0 = omega arith in same
  joined-releases first (more steps step) =
      let rest = joined-releases first steps in
      let sum : releases_in (steps_joined first steps) + releases_of step ≡ releases_in first + (releases_in steps + releases_of step) = omega (arith, rest) in
      sum

  pub joined-seeds : {s t u : State K.F} (first : Steps K s t) (next : Steps K t u) → seeds_in (steps_joined first next) ≡ seeds_in first + seeds_in next
  joined-seeds first none = let same : seeds_in first ≡ seeds_in first + 0 = omega arith in same
  joined-seeds first (more steps step) =
      let rest = joined-seeds first steps in
      let sum : seeds_in (steps_joined first steps) + seeds_of step ≡ seeds_in first + (seeds_in steps + seeds_of step) = omega (arith, rest) in
      sum

  pub joined-by : (hand : ℕ) {s t u : State K.F} (first : Steps K s t) (next : Steps K t u) → AreBy hand first → AreBy hand next → AreBy hand (steps_joined first next)
  joined-by hand first none mine also = mine
  joined-by hand first (more steps step) mine also = (joined-by hand first steps mine also.0, also.1)

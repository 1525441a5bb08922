-- What hands do over the edges of one program: each act is a step of a run, which the tally counts.
use Rattle.std.proofs.Common.{◌≡◌, ◌≢◌, ◌∙◌, ◌+◌, ◌≤◌, ℕ, Bool, true, false, cond, List, [], ◌∷◌, Option, Some, None, refl, ap, sym, subst, arith, true≢false}
use Rattle.std.specs.Prelude.{unwrap_or}
use Rattle.ide_wire.specs.declared.key.Key.{Key}
use Rattle.ide_lattice.specs.Algebra.{EdgeAlgebra}
use Rattle.ide_theory.specs.Frame.{Frame}
use Rattle.ide_theory.specs.Images.{Procedures, Image, IsSame, Root, absent_below, entered, root_begun, is_met, received, seeded_below, image_state, step, with_state}
use Rattle.ide_theory.specs.Run.{ArePartsOf, Run, Step, Steps, claim, claims_in, claims_of, finish, steps_joined, lower, lowerings_in, lowerings_of, more, none, release, releases_in, releases_of, seeds_in, seeds_of, skip}
use Rattle.ide_theory.specs.State.{Claim, State, finished, with_lowered, new_claim, part_done, with_claim}
use Rattle.ide_theory.proofs.Laws.ImageWays.{root-image, seeds-below}
use Rattle.ide_theory.proofs.Laws.Ways.{joined-claims, joined-lowerings, joined-releases, joined-seeds}
use Rattle.ide_store.specs.Tally.{Tally, nothing_since, state_with}

-- from where the tally began a run came to the state, in as many steps as it counts
pub record IsWorkTo (K : Frame) (tally : Tally K.F) (s : State K.F) : Type 0 where
  pub run : Run K tally.begun
  pub way : Steps K tally.begun s
  pub claims : claims_in way ≡ tally.claims
  pub lowerings : lowerings_in way ≡ tally.lowerings
  pub releases : releases_in way ≡ tally.releases
  pub entries : seeds_in way ≡ tally.entries

module _ (K : Frame) where
  open K use {F, functions as B}

  -- one step more, with what is counted then
  worked : (tally now : Tally F) (s t : State F) (work : IsWorkTo K tally s) (happens : Step K s t) → now.begun ≡ tally.begun
      → tally.claims + claims_of happens ≡ now.claims → tally.lowerings + lowerings_of happens ≡ now.lowerings
      → tally.releases + releases_of happens ≡ now.releases → tally.entries + seeds_of happens ≡ now.entries → IsWorkTo K now t
  worked tally now s t work happens same claims lowerings releases entries =
      subst (λ (u : State F). IsWorkTo K (record now { begun = u }) t) (sym same) (record {
        run = work.run;
        way = more work.way happens;
        claims = ap (λ n. n + claims_of happens) work.claims ∙ claims;
        lowerings = ap (λ n. n + lowerings_of happens) work.lowerings ∙ lowerings;
        releases = ap (λ n. n + releases_of happens) work.releases ∙ releases;
        entries = ap (λ n. n + seeds_of happens) work.entries ∙ entries;
      })

  pub begun_now : (s : State F) → Run K s → IsWorkTo K (nothing_since s) s
  begun_now s run = record { run = run; way = none; claims = refl; lowerings = refl; releases = refl; entries = refl }

  pub claimed_on : (tally : Tally F) (s : State F) (h : ℕ) (q : Key) (parts : List (Key × F)) → s.claims h ≡ None → s.pending q ≡ true
      → ((j : ℕ) (c : Claim F) → s.claims j ≡ Some c → c.key ≢ q) → ArePartsOf K s.get q parts → IsWorkTo K tally s
      → IsWorkTo K (record tally { claims = tally.claims + 1 }) (with_claim s h (Some (new_claim q parts)))
  claimed_on tally s h q parts free waits alone owes work =
      worked tally _ s _ work (claim h q parts free waits alone owes) refl refl (omega arith) (omega arith) (omega arith)

  pub finished_on : (tally : Tally F) (s : State F) (h : ℕ) (c : Claim F) → s.claims h ≡ Some c → c.parts ≡ [] → IsWorkTo K tally s
      → IsWorkTo K tally (finished s h c)
  finished_on tally s h c mine over work = worked tally tally s _ work (finish h c mine over) refl (omega arith) (omega arith) (omega arith) (omega arith)

  pub released_on : (tally : Tally F) (s : State F) (h : ℕ) (c : Claim F) → s.claims h ≡ Some c → IsWorkTo K tally s
      → IsWorkTo K (record tally { releases = tally.releases + 1 }) (with_claim s h None)
  released_on tally s h c mine work = worked tally _ s _ work (release h c mine) refl (omega arith) (omega arith) refl (omega arith)

  -- absent entries at a start became identities
  pub seeded_on : (tally : Tally F) (s : State F) (r n : ℕ) → K.graph.start_of r ≡ r → n ≤ K.facts → IsWorkTo K tally s
      → IsWorkTo K (record tally { entries = tally.entries + absent_below B s r n }) (seeded_below B s r n)
  seeded_on tally s r n starts fits work =
      let seeds = seeds-below K s r starts n fits in
      let claims = joined-claims work.way seeds.way in
      let lowerings = joined-lowerings work.way seeds.way in
      let releases = joined-releases work.way seeds.way in
      let entries = joined-seeds work.way seeds.way in
      record {
        run = work.run;
        way = steps_joined work.way seeds.way;
        claims = omega (arith, claims, seeds.claims, work.claims);
        lowerings = omega (arith, lowerings, seeds.lowerings, work.lowerings);
        releases = omega (arith, releases, seeds.releases, work.releases);
        entries = omega (arith, entries, seeds.seeds, work.entries);
      }

  -- a part of a hand's claim: it is met, or lowers its key
  pub parted_on : {Program Name : Type 0} (procedures : Procedures Program Name) (same : F → F → Bool) → IsSame same
      → (tally : Tally F) (s : State F) (h : ℕ) (c : Claim F) (k : Key) (g : F) (rest : List (Key × F))
      → s.claims h ≡ Some c → c.parts ≡ (k, g) ∷ rest → IsWorkTo K tally s
      → IsWorkTo K (record tally { lowerings = tally.lowerings + cond (is_met procedures B same s k g) 0 1 }) (part_done (received procedures B same s k g) h)
  parted_on procedures same is_same tally s h c k g rest mine parts work = by (is_met procedures B same s k g) refl
    where
      by : (b : Bool) → is_met procedures B same s k g ≡ b
          → IsWorkTo K (record tally { lowerings = tally.lowerings + cond b 0 1 }) (part_done (cond b s (with_lowered B s k g)) h)
      by true is = worked tally _ s _ work (skip h c k g rest mine parts (is_same.exact _ _ is)) refl (omega arith) (omega arith) (omega arith) (omega arith)
      by false is =
          worked tally _ s _ work
          (lower h c k g rest mine parts (λ met. true≢false (sym (ap (same (B.meet (unwrap_or (s.get k) B.all_top) g)) (sym met) ∙ is_same.refl _) ∙ is)))
          refl (omega arith) (omega arith) (omega arith) (omega arith)

  -- in one step
  pub part_steps : {Program Name : Type 0} (procedures : Procedures Program Name) (same : F → F → Bool) → IsSame same
      → (s : State F) (h : ℕ) (c : Claim F) (k : Key) (g : F) (rest : List (Key × F))
      → s.claims h ≡ Some c → c.parts ≡ (k, g) ∷ rest → Steps K s (part_done (received procedures B same s k g) h)
  part_steps procedures same is_same s h c k g rest mine parts = by (is_met procedures B same s k g) refl
    where
      by : (b : Bool) → is_met procedures B same s k g ≡ b → Steps K s (part_done (cond b s (with_lowered B s k g)) h)
      by true is = more none (skip h c k g rest mine parts (is_same.exact _ _ is))
      by false is =
          more none
          (lower h c k g rest mine parts (λ met. true≢false (sym (ap (same (B.meet (unwrap_or (s.get k) B.all_top) g)) (sym met) ∙ is_same.refl _) ∙ is)))

-- the image of a part, and what it leaves of the claims, are one state
pub part_is : {Program Name F L : Type 0} (procedures : Procedures Program Name) (B : EdgeAlgebra F L) (same : F → F → Bool)
    (image : Image Program Name F) (claims : ℕ → Option (Claim F)) (h : ℕ) (k : Key) (g : F)
    → state_with (with_state image (received procedures B same (image_state image) k g)) (part_done (received procedures B same (state_with image claims) k g) h).claims
    ≡ part_done (received procedures B same (state_with image claims) k g) h
part_is procedures B same image claims h k g = by (is_met procedures B same (image_state image) k g)
  where
    by : (b : Bool)
        → state_with (with_state image (cond b (image_state image) (with_lowered B (image_state image) k g))) (part_done (cond b (state_with image claims) (with_lowered B (state_with image claims) k g)) h).claims
        ≡ part_done (cond b (state_with image claims) (with_lowered B (state_with image claims) k g)) h
    by true = refl
    by false = refl

-- and so it is of a root
pub root_is : {Program Name : Type 0} (procedures : Procedures Program Name) (K : Frame) (same : K.F → K.F → Bool)
    (image : Image Program Name K.F) (claims : ℕ → Option (Claim K.F)) (p : Program) (name : Name) (r : ℕ)
    → image.program ≡ Some p → procedures.start p name ≡ Some r
    → state_with (step procedures K.functions same image (Root name)) (entered procedures K.functions same image.program name (state_with image claims)).claims
    ≡ seeded_below K.functions (state_with image claims) r (procedures.entries p)
root_is procedures K same image claims p name r is starts =
    let s = state_with image claims in
    let marked = ap (λ o. entered procedures K.functions same o name s) is ∙ ap (λ o. root_begun procedures K.functions same p o s) starts in
    ap (λ (i : Image _ _ _). state_with i (entered procedures K.functions same image.program name s).claims) (root-image procedures K same image s p name r is starts)
    ∙ ap (λ (u : State K.F). record (seeded_below K.functions s r (procedures.entries p)) { claims = u.claims }) marked

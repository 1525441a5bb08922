-- A journal's calls are those of a store on one disk.
use Rattle.std.proofs.Common.{◌≡◌, ◌≢◌, ◌∙◌, ◌+◌, ℕ, List, [], ◌∷◌, ◌++◌, Option, Some, length, take, refl, ap, sym, subst, arith, inl, inr}
use Rattle.std.specs.Prelude.{slice_get}
use Rattle.std.proofs.lemmas.List.{length-take-le}
use Rattle.ide_disk.specs.Disk.{DiskState}
use Rattle.ide_disk.specs.declared.disk.Disk.{Ghosts}
use Rattle.ide_journal.specs.Bytes.{EndsAt, Knows}
use Rattle.ide_journal.specs.Calls.{MakesItsCall, after_stage_call, gate_after}
use Rattle.ide_journal.specs.Format.{Entry, Head, after_gate, header}
use Rattle.ide_journal.specs.Phases.{stage_after, stage_before}
use Rattle.ide_journal.specs.declared.journal.Journal.{Journal}
use Rattle.ide_journal.specs.declared.stage.Phase.{Phase}
use Rattle.ide_journal.specs.declared.stage.Phase.TheVariants as phase
use Rattle.ide_journal.specs.declared.stage.Stage.{Stage}
use Rattle.ide_journal.specs.declared.stage.Stage.TheVariants.{Idle, Begun, Written, BodySynced, GateWritten, Failed}
use Rattle.ide_store.specs.OneDisk.{IsLive, KnowsOf, next_stage, tail_of}
use Rattle.ide_store.proofs.OneDisk.{next_taken}
use Rattle.ide_store.specs.Writing.{HasNext, StandsBehind, WritesStore, work_of}

-- what a journal knows of the disk is what a writer knows
knows_rest : (s : Stage) (base : List ℕ) (number : ℕ) (next : Option Entry) (disk : DiskState) → s ≡ Idle
    → KnowsOf Idle base number next disk → KnowsOf s base number next disk
knows_rest s base number next disk is knows = subst (λ (u : Stage). KnowsOf u base number next disk) (sym is) knows

knows_next : (s : Stage) (base : List ℕ) (number : ℕ) (entry : Entry) (disk : DiskState) → (s ≡ Idle → ⊥) → (s ≡ Failed → ⊥)
    → Knows s base (tail_of number entry) disk → KnowsOf s base number (Some entry) disk
knows_next Idle base number entry disk busy whole knows = absurd (busy refl)
knows_next Begun base number entry disk busy whole knows = knows
knows_next Written base number entry disk busy whole knows = knows
knows_next BodySynced base number entry disk busy whole knows = knows
knows_next GateWritten base number entry disk busy whole knows = knows
knows_next Failed base number entry disk busy whole knows = absurd (whole refl)

-- a good call that does not store leads to the next stage, and leaves the gate
leads_next : (p : Phase) → p ≢ phase.Stored → next_stage (stage_before p) ≡ stage_after p
leads_next phase.Written more = refl
leads_next phase.BodySynced more = refl
leads_next phase.GateWritten more = refl
leads_next phase.Stored more = absurd (more refl)

gate_stays : (p : Phase) (gate end : ℕ) → p ≢ phase.Stored → gate_after (stage_before p) gate end ≡ gate
gate_stays phase.Written gate end more = refl
gate_stays phase.BodySynced gate end more = refl
gate_stays phase.GateWritten gate end more = refl
gate_stays phase.Stored gate end more = absurd (more refl)

not_last : (p : Phase) → p ≢ phase.Stored → stage_before p ≢ GateWritten
not_last phase.Written more same = cc (same)
not_last phase.BodySynced more same = cc (same)
not_last phase.GateWritten more same = cc (same)
not_last phase.Stored more same = more refl

-- a record that is stored ends where its bytes do
end_is : (s : Stage) (end place : ℕ) → s ≡ GateWritten → EndsAt s end place → end ≡ place
end_is s end place is ends = let there : EndsAt GateWritten end place = subst (λ (u : Stage). EndsAt u end place) is ends in there

module _ {D : Type 0} (G : Ghosts D) (head : Head) (records : List Entry) (stored : ℕ) where
  -- the bytes behind the gate are those of the next record
  tail_is : (journal : Journal D G) (has : HasNext head records stored journal)
      → after_gate (length (take stored records)) has.entry ++ 0 ∷ [] ≡ tail_of stored has.entry
  tail_is journal has =
      let less = (next_taken records stored has.entry has.next).0 in
      ap (λ (n : ℕ). after_gate n has.entry ++ 0 ∷ []) (length-take-le stored records (omega (arith, less)))

  lives : (journal : Journal D G) → StandsBehind head records stored journal → IsLive head records stored (work_of journal) (G.state journal.disk)
  lives journal stands = elim stands.stands [
    | inl rest ↦ record {
      pages = rest.pages;
      whole = rest.whole;
      some = stands.some;
      few = stands.few;
      proper = stands.proper;
      gate = rest.gate;
      knows = knows_rest journal.stage (header head ++ rest.pages) stored (slice_get records stored) (G.state journal.disk) rest.stage rest.disk;
    }
    | inr has ↦ record {
      pages = has.under_way.pages;
      whole = has.under_way.whole;
      some = stands.some;
      few = stands.few;
      proper = stands.proper;
      gate = has.under_way.stands.gate;
      knows = subst (λ (o : Option Entry). KnowsOf journal.stage (header head ++ has.under_way.pages) stored o (G.state journal.disk)) (sym has.next)
          (knows_next journal.stage (header head ++ has.under_way.pages) stored has.entry (G.state journal.disk) has.under_way.busy has.whole
          (subst (λ (xs : List ℕ). Knows journal.stage (header head ++ has.under_way.pages) xs (G.state journal.disk)) (tail_is journal has) has.under_way.stands.knows));
    }
  ]

  -- the call of the stage, by what the store knows
  call_is : (old new : Journal D G) (has : HasNext head records stored old) → MakesItsCall old new
      → G.state new.disk ≡ after_stage_call old.stage old.gate (tail_of stored has.entry) (G.state old.disk)
  call_is old new has makes =
      makes.disk ∙ ap (λ (xs : List ℕ). after_stage_call old.stage old.gate xs (G.state old.disk)) (has.under_way.stands.tail ∙ tail_is old has)

  pub writes_store : WritesStore G head records stored
  writes_store = record {
    live = lives;
    calls = λ old new p has leads more makes. record {
      entry = has.entry;
      under_way = has.next;
      more = λ last. not_last p more (sym leads.0 ∙ last);
      work_is =
          let gate : new.gate ≡ old.gate = makes.gate ∙ ap (λ (s : Stage). gate_after s old.gate old.end) leads.0 ∙ gate_stays p old.gate old.end more in
          let stage : new.stage ≡ next_stage old.stage = leads.1 ∙ sym (leads_next p more) ∙ ap next_stage (sym leads.0) in
          λ i. record { gate = gate i; stage = stage i };
      disk_is = call_is old new has makes;
    };
    stores = λ old new has leads makes. record {
      entry = has.entry;
      under_way = has.next;
      last = leads.0;
      work_is =
          let ends = end_is old.stage old.end _ leads.0 has.under_way.stands.end in
          let gate : new.gate ≡ old.gate + length (tail_of stored has.entry) =
          makes.gate ∙ ap (λ (s : Stage). gate_after s old.gate old.end) leads.0 ∙ ends
          ∙ ap (λ (n : ℕ). n + length (after_gate (length (take stored records)) has.entry ++ 0 ∷ [])) (sym has.under_way.stands.gate)
          ∙ ap (λ (xs : List ℕ). old.gate + length xs) (tail_is old has) in
          λ i. record { gate = gate i; stage = leads.1 i };
      disk_is = call_is old new has makes ∙ ap (λ (s : Stage). after_stage_call s old.gate (tail_of stored has.entry) (G.state old.disk)) leads.0;
    };
    fails = λ old new has leaves honest. record {
      entry = has.entry;
      under_way = has.next;
      each = λ left may. (leaves head (take stored records) has.entry has.under_way).each left (honest.counts_now left may);
      possible = honest.possible;
    };
  }

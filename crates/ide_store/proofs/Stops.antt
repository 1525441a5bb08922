-- Why calls of a half that works are refused, from why those are that it makes.
use Rattle.std.proofs.Common.{◌≡◌, ◌∙◌, ◌<◌, ◌≤◌, ℕ, Bool, true, false, not, ◌&&◌, List, [], ◌∷◌, Option, Some, None, Result, Ok, Err, length, refl, ap, sym, subst, inl, inr}
use Rattle.std.specs.Prelude.{IfErr, IfNone, IsOkUnless, IsTrue, if◌then◌else◌, slice_get, unwrap_or}
use Rattle.std.proofs.lemmas.Bool.{cases_lt}
use Rattle.std.specs.Option.{is_some}
use Rattle.ide_batch.specs.Forms.{all_proper}
use Rattle.ide_batch.specs.Items.{AreWritten, Item, is_proper_item}
use Rattle.ide_lattice.specs.Algebra.{EdgeAlgebra}
use Rattle.ide_problem.specs.Flow.{Targets}
use Rattle.ide_steps.specs.Core.{CoreData}
use Rattle.ide_image.specs.Notes.{ended_key, noted, noted_count}
use Rattle.ide_steps.specs.Items.{AreChangedItems}
use Rattle.ide_steps.specs.Refusal.{IsRootRefusal, fault, memory, no_program}
use Rattle.ide_steps.proofs.Refusing.{not-memory}
use Rattle.ide_steps.specs.Steps.{HasReceived, IsCurrent}
use Rattle.ide_tasks.specs.Task.{TaskData}
use Rattle.ide_tasks.specs.Work.{WorkData}
use Rattle.ide_theory.specs.Member.{IsIn, first, later}
use Rattle.ide_theory.specs.Members.{contains-in}
use Rattle.ide_wire.specs.declared.key.Key.{Key}
use Rattle.ide_wire.specs.declared.refused.Refused.{Refused}
use Rattle.ide_wire.specs.declared.refused.Refused.TheVariants.{Limit, Stale}
use Rattle.ide_image.specs.Worklist.{claim_at}
use Rattle.ide_image.specs.declared.claim.Claim.{Claim as Held}
use Rattle.ide_store.specs.Table.{Analysis, TableData, forms_of}
use Rattle.ide_store.specs.TableCalls.{EndOverflows, IsRefusal, IsRootStop, IsSealStop, IsStaleClaim, PartOverflows, by_itself, memory_wanting, no_claim, no_root, not_spelled}

-- a reason of a call's own, where none failed before
pub own_stop : {T F : Type 0} (r : Result T Refused) (table : TableData F) (Why Own : Refused → Type 0) → table.failed ≡ false
    → ((refused : Refused) → Why refused → Own refused) → IfErr r Why → IfErr r (IsRefusal table Own)
own_stop (Ok x) table Why Own working tells why = tt
own_stop (Err e) table Why Own working tells why = by_itself working (tells e why)

-- whether to meet a key's function changes nothing, as it is computed
pub received_is : {F L : Type 0} (B : EdgeAlgebra F L) (same : F → F → Bool) → ((f g : F) → same f g ≡ true → f ≡ g) → ((f : F) → same f f ≡ true)
    → (got held : Option F) (top before met f : F) (result : Bool) → got ≡ held → top ≡ B.all_top → before ≡ unwrap_or got top → met ≡ B.meet before f
    → result ≡ same met before
    → (IsTrue result → B.meet (unwrap_or held B.all_top) f ≡ unwrap_or held B.all_top) × (B.meet (unwrap_or held B.all_top) f ≡ unwrap_or held B.all_top → IsTrue result)
received_is B same exact alike got held top before met f result is_got is_top is_before is_met is =
    let stands : before ≡ unwrap_or held B.all_top = is_before ∙ (λ i. unwrap_or (is_got i) (is_top i)) in
    let meets : met ≡ B.meet (unwrap_or held B.all_top) f = is_met ∙ ap (λ g. B.meet g f) stands in (
      λ yes. sym meets ∙ (exact met before (sym is ∙ yes) ∙ stands),
      λ below.
          let equal : met ≡ before = meets ∙ (below ∙ sym stands) in
          is ∙ (ap (λ g. same g before) equal ∙ alike before),
    )

-- what holds where there is nothing holds, if so it is
pub where-none : {X P : Type 0} (o : Option X) → is_some o ≡ false → IfNone o P → P
where-none None none p = p
where-none (Some x) none p = absurd (cc (none))

-- the hand has no claim
pub stale_stop : {T F : Type 0} (r : Result T Refused) (table : TableData F) (hand : ℕ) → table.failed ≡ false → IsOkUnless r Stale
    → (r ≡ Err Stale → claim_at table.core.pile hand ≡ None) → IfErr r (IsRefusal table (IsStaleClaim table hand))
stale_stop (Ok x) table hand working is none = tt
stale_stop (Err e) table hand working is none =
    by_itself working (subst (IsStaleClaim table hand) (sym is) (no_claim (none (ap (λ (e : Refused). Err e) is))))

-- a length that is not within a bound is over it
pub over_bound : (n most : ℕ) → ¬ (n ≤ most) → most < n
over_bound n most beyond = elim (cases_lt most n) [
  | inl over ↦ over
  | inr under ↦ absurd (beyond under)
]

-- it is not noted
no_note : {X : Type 0} (o : Option X) (b : Bool) → b ≡ is_some o → b ≡ false → o ≡ None
no_note None b is_b none = refl
no_note (Some x) b is_b none = absurd (cc (is_b, none))

negated : (b : Bool) → IsTrue (not b) → b ≡ false
negated false is = refl
negated true is = absurd (cc (is))

module _ {F L : Type 0} (B : EdgeAlgebra F L) (targets : Targets F) (core : CoreData F) (hand : ℕ) (work : WorkData F) where
  -- the work's next part overflows, as it is computed
  pub part_full : (now : CoreData F) (part : Key × F) (changed received : Bool) → core ≡ now → IsCurrent B targets core hand work → 65536 ≤ noted_count core.changes
      → slice_get work.parts work.done ≡ Some part → changed ≡ is_some (noted core.changes part.0) → changed ≡ false
      → (HasReceived B targets now part.0 part.1 → IsTrue received) → IsTrue (not received) → PartOverflows B targets now hand work
  part_full now part changed received is own full next noted_is unnoted tells not_received =
      subst (λ (c : CoreData F). (HasReceived B targets c part.0 part.1 → IsTrue received) → PartOverflows B targets c hand work) is
      (λ told. record {
        own = own;
        full = full;
        part = part;
        next = next;
        new = no_note (noted core.changes part.0) changed noted_is unnoted;
        falls = λ below. let yes = told below in let no_more = negated received not_received in cc (yes, no_more);
      }) tells

  -- the end of the hand's claim overflows, as it is computed
  pub end_full : (held : Held (TaskData F)) (changed : Bool) → IsCurrent B targets core hand work → 65536 ≤ noted_count core.changes → length work.parts ≤ work.done
      → claim_at core.pile hand ≡ Some held → held.lowered ≡ false → changed ≡ is_some (noted core.changes held.key) → IsTrue (not changed)
      → EndOverflows B targets core hand work
  end_full held changed own full over is fresh noted_is unnoted = record {
    own = own;
    full = full;
    over = over;
    key = held.key;
    ends = ap ended_key is ∙ ends_there held fresh;
    new = no_note (noted core.changes held.key) changed noted_is (negated changed unnoted);
  }
    where
      ends_there : (claim : Held (TaskData F)) → claim.lowered ≡ false → ended_key (Some claim) ≡ Some claim.key
      ends_there claim is_fresh = ap (λ (b : Bool). if b then None else Some claim.key) is_fresh

-- an item that is not proper stands among those of which not all are
improper : {F : Type 0} (p : Item F → Bool) (items : List (Item F)) → (IsTrue (all_proper p items) → ⊥) → (item : Item F) × IsIn item items × (p item ≡ false)
improper p [] some = absurd (some refl)
improper p (x ∷ xs) some = by (p x) refl (improper p xs)
  where
    by : (b : Bool) → p x ≡ b → ((IsTrue (all_proper p xs) → ⊥) → (item : Item _) × IsIn item xs × (p item ≡ false)) → (item : Item _) × IsIn item (x ∷ xs) × (p item ≡ false)
    by false is rest = (x, first, is)
    by true is rest = let more = rest (λ all. some (ap (λ b. b && all_proper p xs) is ∙ all)) in (more.0, later more.1, more.2)

-- changed items that are not spelled have one that no record spells
pub unspelled : {F L : Type 0} (a : Analysis F L) (table : TableData F) (items : List (Item F)) → AreChangedItems table.core items → 1 ≤ length items
    → length items ≤ 65536 → (AreWritten (forms_of a) items → ⊥) → IsSealStop a table Limit
unspelled a table items changed some few not_written =
    let item = improper (is_proper_item (forms_of a)) items (λ proper. not_written (record { some = some; few = few; ascending = changed.ascending; proper = proper })) in
    not_spelled item.0 ((changed.exact item.0.0 item.0.1 item.0.2).0 (contains-in item.1)).0 item.2

-- why a core takes no root is why the half takes none
pub root_stop : {F L : Type 0} (a : Analysis F L) (table : TableData F) (name : List ℕ) (refused : Refused)
    → IsRootRefusal table.core.graph table.core.roots name refused → IsRootStop a table name refused
root_stop a table name _ (no_program none) = no_root (record { why = no_program none; not_memory = λ is. cc (is) })
root_stop a table name _ (fault loaded is faulty) = no_root (record { why = fault loaded is faulty; not_memory = not-memory faulty })
root_stop a table name _ (memory loaded root is may) = memory_wanting

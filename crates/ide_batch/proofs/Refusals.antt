-- What calls of a core say of a record that they take or refuse.
use Rattle.std.specs.Prelude.{◌≡◌, ◌⊎◌, ℕ, Bool, false, not, ◌&&◌, List, [], ◌∷◌, ◌++◌, Some, None, Result, Ok, Err, OnOk, OnErr, IsTrue, length, nat_lt, slice_index}
use Rattle.std.specs.List.{All, AllByRecursion, Contains, flat_map}
use Rattle.std.specs.Option.{IsSomeAnd}
use Rattle.std.proofs.Common.{ap, sym, subst, refl, ◌∙◌, inl, inr, arith}
use Rattle.std.proofs.lemmas.Bool.Decides.{nat_tests}
use Rattle.std.proofs.lemmas.List.Elements.{All-from_recursion}
use Rattle.ide_journal.specs.declared.version.Version.{Version}
use Rattle.ide_journal.specs.declared.version.Version.TheVariants.{One, Two}
use Rattle.ide_lattice.specs.Algebra.{EdgeAlgebra}
use Rattle.ide_problem.specs.Flow.{Targets}
use Rattle.ide_steps.specs.Core.{CoreData}
use Rattle.ide_steps.specs.Loading.{HasLoaded}
use Rattle.ide_steps.specs.Refusal.{IsRootName, IsRootRefusal, RootFault, no_program, fault, memory, unnamed, parameters, already}
use Rattle.ide_text.specs.Parsed.{IsParsed}
use Rattle.ide_text.specs.declared.program.Program.{Program}
use Rattle.ide_wire.specs.declared.refused.Refused.{Refused}
use Rattle.ide_wire.specs.declared.refused.Refused.TheVariants.{NoMemory}
use Rattle.ide_image.specs.Worklist.{IsFree}
use Rattle.std.specs.List.{slice_index_or}
use Rattle.ide_batch.specs.Applied.{LoadsText, MayBeRoot, RefusesRecord, refusal_of}
use Rattle.ide_batch.specs.Bodies.{AreSpelled}
use Rattle.ide_batch.specs.Forms.{all_proper}
use Rattle.ide_batch.specs.FormLaws.{left_law, right_law}
use Rattle.ide_batch.specs.Groups.{Group, Member, is_proper_group, is_proper_member, items_of}
use Rattle.ide_batch.specs.Items.{Functions, Item, is_proper_entry, is_proper_item}
use Rattle.ide_wire.specs.Key.{is_proper_key}
use Rattle.ide_wire.specs.Numbers.{fits}

not_true : (b : Bool) → IsTrue (not b) → b ≡ false
not_true b h = grind (arith, nat_tests)

module _ {F : Type 0} (functions : Functions F) where
  -- a function that is not always top
  abbrev IsPresent : Item F → Type 0
  IsPresent item = functions.is_top item.1 ≡ false

  in_entry : (f : F) (pending : Bool) → IsTrue (is_proper_entry functions (f, pending)) → functions.is_top f ≡ false
  in_entry f pending proper = not_true (functions.is_top f) (right_law (functions.proper f) (not (functions.is_top f)) proper)

  in_items : (items : List (Item F)) → IsTrue (all_proper (is_proper_item functions) items) → AllByRecursion IsPresent items
  in_items [] proper = tt
  in_items (x ∷ items) proper = (
    in_entry x.1 x.2 (right_law (is_proper_key x.0) (is_proper_entry functions (x.1, x.2)) (left_law (is_proper_item functions x) _ proper)),
    in_items items (right_law (is_proper_item functions x) _ proper),
  )

  in_members : (kind node : ℕ) (members : List (Member F)) (more : List (Item F)) → IsTrue (all_proper (is_proper_member functions) members)
      → AllByRecursion IsPresent more → AllByRecursion IsPresent (items_of (record { kind = kind; node = node; members = members }) ++ more)
  in_members kind node [] more proper behind = behind
  in_members kind node (m ∷ members) more proper behind = (
    in_entry m.2 m.3 (right_law (fits 16 m.0 && fits 16 m.1) (is_proper_entry functions (m.2, m.3)) (left_law (is_proper_member functions m) _ proper)),
    in_members kind node members more (right_law (is_proper_member functions m) _ proper) behind,
  )

  in_groups : (groups : List (Group F)) → IsTrue (all_proper (is_proper_group functions) groups) → AllByRecursion IsPresent (flat_map items_of groups)
  in_groups [] proper = tt
  in_groups (group ∷ groups) proper =
      in_members group.kind group.node group.members (flat_map items_of groups)
      (right_law (fits 32 (length group.members)) _ (right_law (nat_lt group.kind 2 && fits 32 group.node) _ (left_law (is_proper_group functions group) _ proper)))
      (in_groups groups (right_law (is_proper_group functions group) _ proper))

  -- the functions of items that a body spells are not always top
  pub present : (version : Version) (items : List (Item F)) (body : List ℕ) → AreSpelled functions version items body → All IsPresent items
  present One items body is = All-from_recursion IsPresent items (in_items items is.written.proper)
  present Two items body is =
      subst (All IsPresent) (sym is.items_are)
      (All-from_recursion IsPresent (flat_map items_of is.groups) (in_groups is.groups (right_law (fits 32 (length is.groups)) _ is.are.proper)))

some_is : {X : Type 0} (x y : X) → Some x ≡ Some y → x ≡ y
some_is x y same = cc (same)

module _ {F : Type 0} where
  module _ {L : Type 0} (B : EdgeAlgebra F L) (targets : Targets F) where
    pub loads : {T E : Type 0} (result : Result T E) (text : List ℕ) (p : Program) (old new : CoreData F) → IsParsed text p
        → OnOk result (HasLoaded B targets p old new) → OnOk result (LoadsText text new)
    loads (Ok x) text p old new parsed has =
        (p, parsed, record { program = has.program; graph = has.graph; roots = has.roots; entries = has.entries; pending = has.pending; claims = has.claims })
    loads (Err e) text p old new parsed has = tt

  pub no_claims : (core : CoreData F) → core.pile.claims ≡ [] → IsFree core.pile
  no_claims core nothing hand = ap (λ claims. slice_index_or claims hand None) nothing

  pub free_after : {T E L : Type 0} (B : EdgeAlgebra F L) (targets : Targets F) (result : Result T E) (p : Program) (old new : CoreData F) → IsFree old.pile
      → OnOk result (HasLoaded B targets p old new) → OnErr result (new ≡ old) → IsFree new.pile
  free_after B targets (Ok x) p old new free has same = no_claims new has.claims
  free_after B targets (Err e) p old new free has same = subst (λ (core : CoreData F). IsFree core.pile) (sym same) free

  pub root_refused : (n : ℕ) (core : CoreData F) (name : List ℕ) (e : Refused) → IsRootRefusal core.graph core.roots name e
      → RefusesRecord n (MayBeRoot core name) (refusal_of n e)
  root_refused n core name e (no_program missing) = inr (refl, λ may. absurd (subst (λ graph. IsSomeAnd graph (λ g. (root : ℕ) × IsRootName g core.roots name root)) missing may))
  root_refused n core name e (memory g root is named) = inl refl
  root_refused n core name e (fault g is why) = faulty e why (λ may. subst (λ graph. IsSomeAnd graph (λ h. (root : ℕ) × IsRootName h core.roots name root)) is may)
    where
      faulty : (e : Refused) → RootFault g core.roots name e → (MayBeRoot core name → (root : ℕ) × IsRootName g core.roots name root)
          → RefusesRecord n (MayBeRoot core name) (refusal_of n e)
      faulty e (unnamed missing) there = inr (refl, λ may. let named = (there may).1.named in absurd (cc (missing, named)))
      faulty e (parameters root named some) there =
          inr (
            refl,
            λ may. let one : (there may).0 ≡ root = some_is (there may).0 root (sym (there may).1.named ∙ named) in
                absurd (some (ap (slice_index g.parameters) (sym one) ∙ (there may).1.closed)),
          )
      faulty e (already root named closed has) there =
          inr (
            refl,
            λ may. let one : (there may).0 ≡ root = some_is (there may).0 root (sym (there may).1.named ∙ named) in
                absurd ((there may).1.new (subst (Contains core.roots) (sym one) has)),
          )

pub root_damaged : (n : ℕ) (e : Refused) (same : Type 0) → (e ≡ NoMemory) ⊎ same → (refusal_of n e ≡ NoMemory) ⊎ same
root_damaged n e same (inl is) = inl (ap (refusal_of n) is)
root_damaged n e same (inr is) = inr is

use Rattle.std.proofs.Common.{◌≡◌, ℕ, ◌<◌, Bool, List, Some, length, get_or, slice_get, take, true≢false, refl, sym, ap, subst, ◌∙◌, arith}
use Rattle.std.specs.List.{list_any}
use Rattle.std.proofs.lemmas.Option.{slice_get_read}
use Rattle.std.proofs.lemmas.Result.{err_from_is_err_and}
use Rattle.ide_wire.specs.declared.refused.Fault.{Fault}
use Rattle.ide_text.specs.declared.program.Procedure.{Procedure}
use Rattle.ide_text.specs.Names.{is_named}
use Rattle.ide_text.specs.First.{TellsFirst}
use Rattle.ide_text.specs.NameFault.{ProcedureFault, line_of_procedure}
use Rattle.ide_text.specs.Draft.{draft_globals, draft_procedures}
use Rattle.ide_text.proofs.ProgramLemmas.{name_first, next_line, procedure_told, procedures_more, procedures_none}
use Rattle.ide_text.proofs.checker.check_procedures.Goals as goal

-- what holds of the faults of a procedure, by other names for the same
renamed : (P : (ℕ → Fault → Type 0) → Type 0) (globals globals' : List (List ℕ)) (procedures procedures' : List Procedure) (q : Procedure) (line line' : ℕ) → globals ≡ globals' → procedures ≡ procedures' → line ≡ line'
    → P (ProcedureFault globals procedures q line) → P (ProcedureFault globals' procedures' q line')
renamed P globals globals' procedures procedures' q line line' e f g h =
    subst (λ (n : ℕ). P (ProcedureFault globals' procedures' q n)) g
    (subst (λ (ps : List Procedure). P (ProcedureFault globals' ps q line)) f
    (subst (λ (gs : List (List ℕ)). P (ProcedureFault gs procedures q line)) e h))

-- the element that a loop is at
at_place : (items procedures : List Procedure) (place : ℕ) (q : Procedure) → items ≡ procedures → place < length items → q ≡ get_or items place q → slice_get procedures place ≡ Some q
at_place items procedures place q same inside is = ap (λ ps. slice_get ps place) (sym same) ∙ slice_get_read items (length items) place q refl inside is

-- whether a procedure before has the name
named : (b : Bool) (q : Procedure) (place : ℕ) (list procedures : List Procedure) → list ≡ procedures → b ≡ list_any (is_named q.name) (take place list) → list_any (is_named q.name) (take place procedures) ≡ b
named b q place list procedures same h = sym (h ∙ ap (λ ps. list_any (is_named q.name) (take place ps)) same)

pub returns-then-has_before : goal.returns-then-has_before
returns-then-has_before c =
    let p = c.args.draft.now in
    let q = c.procedure-item.result in
    let at = at_place c.procedures-procedure-items.result.now (draft_procedures p) c.loop-place.place q c.procedures-procedure-items.ensures c.loop-place-test.true c.procedure-item.is in
    rw c.loop-place.invariant.counted
    (name_first p c.loop-place.place q at c.loop-place.invariant.none
    (named c.has_before.result q c.loop-place.place c.args.procedures.now (draft_procedures p) c.requires.procedures c.has_before.ensures ∙ c.if-has_before.true))

pub returns-in_err-check_procedure : goal.returns-in_err-check_procedure
returns-in_err-check_procedure c =
    let p = c.args.draft.now in
    let q = c.procedure-item.result in
    let at = at_place c.procedures-procedure-items.result.now (draft_procedures p) c.loop-place.place q c.procedures-procedure-items.ensures c.loop-place-test.true c.procedure-item.is in
    let first = named c.has_before.result q c.loop-place.place c.args.procedures.now (draft_procedures p) c.requires.procedures c.has_before.ensures ∙ c.if-has_before.false in
    let e = err_from_is_err_and c.from_residual.result c.from_residual.ensures.1 in
    rw (e.1, e.2)
    (procedure_told p c.loop-place.place q at c.loop-place.invariant.none (λ again. true≢false (sym again ∙ first)) c.in_err-check_procedure.field-0.0
    (renamed (λ faults. TellsFirst faults c.in_err-check_procedure.field-0.0) c.args.globals.now (draft_globals p) c.args.procedures.now (draft_procedures p) q c.loop-place.line (line_of_procedure p c.loop-place.place) c.requires.globals c.requires.procedures c.loop-place.invariant.counted
    c.in_err-check_procedure.ensures))

pub loop-place-preserved : goal.loop-place-preserved
loop-place-preserved c =
    let p = c.args.draft.now in
    let q = c.procedure-item.result in
    let at = at_place c.procedures-procedure-items.result.now (draft_procedures p) c.loop-place.place q c.procedures-procedure-items.ensures c.loop-place-test.true c.procedure-item.is in
    let first = named c.has_before.result q c.loop-place.place c.args.procedures.now (draft_procedures p) c.requires.procedures c.has_before.ensures ∙ c.if-has_before.false in
    let next = next_line p c.loop-place.place q at in
    record {
      counted = omega (arith, c.loop-place.invariant.counted, c.len.ensures, c.len-in-loop-place.ensures);
      none =
          procedures_more p c.loop-place.place q at c.loop-place.invariant.none (λ again. true≢false (sym again ∙ first))
          (renamed (λ faults. (l : ℕ) (f : Fault) → ¬ faults l f) c.args.globals.now (draft_globals p) c.args.procedures.now (draft_procedures p) q c.loop-place.line (line_of_procedure p c.loop-place.place) c.requires.globals c.requires.procedures c.loop-place.invariant.counted
          c.in_ok-check_procedure.ensures);
    }

pub returns : goal.returns
returns c =
    let same : length c.procedures-procedure-items.result.now ≡ length (draft_procedures c.args.draft.now) = ap length c.procedures-procedure-items.ensures in
    procedures_none c.args.draft.now c.loop-place.place (omega arith) c.loop-place.invariant.none

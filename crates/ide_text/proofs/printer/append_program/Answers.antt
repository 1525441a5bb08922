use Rattle.std.proofs.Common.{◌++◌, ◌∙◌, List, ℕ, take, append_assoc}
use Rattle.std.specs.List.{flat_map}
use Rattle.ide_text.specs.Program.{globals_of, procedures_of}
use Rattle.ide_text.specs.Text.{globals_text, procedure_text}
use Rattle.ide_text.proofs.Extends.{Extends-more, OnErr-always}
use Rattle.ide_text.proofs.printer.append_program.Goals as goal

pub returns-in_err-append_procedure-clause-extends : goal.returns-in_err-append_procedure-clause-extends
returns-in_err-append_procedure-clause-extends c =
    let old : List ℕ = c.args.out.now.items in
    let globals : List ℕ = globals_text (globals_of c.args.program.now) in
    let procedures : List ℕ = flat_map procedure_text (take c.loop-procedure.procedure-index (procedures_of c.args.program.now)) in
    OnErr-always _ _
    (Extends-more old (globals ++ procedures) c.loop-procedure.out.items c.append_procedure.new.out.items
    (c.loop-procedure.invariant ∙ append_assoc old globals procedures)
    c.in_err-append_procedure.ensures.extends)

use Rattle.std.proofs.Common.{◌≡◌, ◌++◌, take}
use Rattle.std.specs.List.{flat_map}
use Rattle.ide_text.specs.Program.{globals_of, procedures_of}
use Rattle.ide_text.specs.Text.{globals_text, procedure_text}
use Rattle.ide_text.proofs.printer.append_program.Given as goal

abbrev pub invariant-loop-procedure : goal.invariant-loop-procedure
invariant-loop-procedure l =
    l.out.items ≡ l.fn.out.items ++ globals_text (globals_of l.program) ++ flat_map procedure_text (take l.procedure-index (procedures_of l.program))

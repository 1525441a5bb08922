-- Programs that are kept as their texts, as clauses see them.
use Rattle.ide_text.specs.Value.{ProgramValue}
use Rattle.ide_steps.specs.declared.program_text.ProgramText.{ProgramText}

-- what the program says
abbrev pub said_by : ProgramText → ProgramValue
said_by kept = kept.spelled.0

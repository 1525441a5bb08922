use Rattle.std.proofs.Common.{◌≡◌, ◌++◌, take}
use Rattle.ide_text.specs.Text.{bars_text}
use Rattle.ide_text.proofs.printer.append_bars.Given as goal

abbrev pub invariant-loop-name : goal.invariant-loop-name
invariant-loop-name l = l.out.items ≡ l.fn.out.items ++ bars_text (take l.name-index l.callees)

use Rattle.ide_text.specs.Reader.{taken_lines}
use Rattle.std.proofs.Common.{◌≡◌, option_to_list, ◌∙◌, sym, length, arith}
use Rattle.std.proofs.lemmas.Bool.{false≢true}
use Rattle.ide_text.proofs.Standing.{length_closed, counts_begin, no_begin_open, begin_closed}
use Rattle.ide_text.proofs.reader.Reader.take_procedure.Goals as goal
use Rattle.ide_text.proofs.reader.Reader.take_procedure.Goals.{then-len-ge-MAX_PROCEDURES-via-then-len-ge-MAX_PROCEDURES, then-len-ge-MAX_PROCEDURES-via-else-len-ge-MAX_PROCEDURES+then-len-gt-MAX_PARAMETERS, then-len-ge-MAX_PROCEDURES-via-else-len-ge-MAX_PROCEDURES+else-len-gt-MAX_PARAMETERS+then-nodes-gt-MAX_NODES, then-len-ge-MAX_PROCEDURES-via-else-len-ge-MAX_PROCEDURES+else-len-gt-MAX_PARAMETERS+else-nodes-gt-MAX_NODES+then-not-facts_fit}

pub returns-then-is_some-clause-fault : goal.returns-then-is_some-clause-fault
returns-then-is_some-clause-fault c = let r = c.args.self.now in no_begin_open r.globals.items r.procedures.items r.open (sym c.if-is_some.ensures)

pub returns-then-len-ge-MAX_PROCEDURES-clause-fault : goal.returns-then-len-ge-MAX_PROCEDURES-clause-fault
returns-then-len-ge-MAX_PROCEDURES-clause-fault c =
    let r = c.args.self.now in (
      begin_closed r.globals.items r.procedures.items r.open (sym c.if-is_some.ensures),
      λ fits. let counts = counts_begin c.args.name c.args.parameters (taken_lines r) in let opened : length (option_to_list r.open) ≡ 0 = length_closed r.open (sym c.if-is_some.ensures) in
          elim c.then-len-ge-MAX_PROCEDURES.branch [
            | then-len-ge-MAX_PROCEDURES-via-then-len-ge-MAX_PROCEDURES w ↦ omega (arith, counts.0, fits.procedures, c.requires.procedures, w.if-len-ge-MAX_PROCEDURES.true)
            | then-len-ge-MAX_PROCEDURES-via-else-len-ge-MAX_PROCEDURES+then-len-gt-MAX_PARAMETERS w ↦ omega (arith, fits.parameters.0, w.if-len-gt-MAX_PARAMETERS.true, w.len-else-len-ge-MAX_PROCEDURES.ensures)
            | then-len-ge-MAX_PROCEDURES-via-else-len-ge-MAX_PROCEDURES+else-len-gt-MAX_PARAMETERS+then-nodes-gt-MAX_NODES w ↦ omega (arith, counts.1, fits.nodes, c.requires.nodes, w.if-nodes-gt-MAX_NODES.true)
            | then-len-ge-MAX_PROCEDURES-via-else-len-ge-MAX_PROCEDURES+else-len-gt-MAX_PARAMETERS+else-nodes-gt-MAX_NODES+then-not-facts_fit w ↦
                false≢true (sym w.if-not-facts_fit.true ∙ w.facts_fit.ensures.1 (omega (arith, counts.2, counts.3, fits.facts, c.requires.globals, c.requires.most, w.len-else-nodes-gt-MAX_NODES.ensures)))
          ],
    )

pub returns-clause-place : goal.returns-clause-place
returns-clause-place c = let r = c.args.self.now in begin_closed r.globals.items r.procedures.items r.open (sym c.if-is_some.ensures)

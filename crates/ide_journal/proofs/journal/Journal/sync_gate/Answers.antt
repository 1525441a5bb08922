use Rattle.ide_journal.proofs.Left.{sync_failed}
use Rattle.ide_journal.proofs.journal.Journal.sync_gate.Goals as goal

pub returns-in-Err-clause-stands : goal.returns-in-Err-clause-stands
returns-in-Err-clause-stands g c honest base bytes stands =
    record {
      gate = stands.gate;
      tail = stands.tail;
      some = stands.some;
      end = tt;
      knows = sync_failed c.args.self.now.stage base bytes _ _ stands.some stands.knows (c.in-Err.ensures.crash honest);
    }

use Rattle.ide_disk.proofs.Next.{possible, leaves_unsynced}
use Rattle.ide_disk.proofs.memory.MemDiskDisk.sync.Goals as goal

pub returns-then-counts_call-clause-crash : goal.returns-then-counts_call-clause-crash
returns-then-counts_call-clause-crash c =
    let contents = c.args.self.now.contents in
    leaves_unsynced _ _ (possible contents.calls.items contents.written.items contents.start.items) c.look.ensures.same.state

use Rattle.std.proofs.Common.{sym}
use Rattle.std.proofs.lemmas.Result.{on_ok_weaker}
use Rattle.ide_commands.proofs.stores.obey.Goals as goal

pub returns-in-Load : goal.returns-in-Load
returns-in-Load g c = rw c.in-Load.is (on_ok_weaker c.load.result (λ prints. (c.load.new.engine, prints)) c.load.ensures)

pub returns-in-Root : goal.returns-in-Root
returns-in-Root g c =
    rw (c.in-Root.is, sym c.as_bytes.ensures.value) (on_ok_weaker c.root.result (λ prints. (c.root.new.engine, prints)) c.root.ensures)

pub returns-in-Work : goal.returns-in-Work
returns-in-Work g c = rw c.in-Work.is (on_ok_weaker c.end_work.result (λ prints. (c.end_work.new.engine, prints)) c.end_work.ensures)

pub returns-in-Ask : goal.returns-in-Ask
returns-in-Ask g c = rw (c.in-Ask.is, sym c.as_bytes-in-Ask.ensures.value, sym c.as_bytes-in-Ask-2.ensures.value) c.ask.ensures

pub returns-in_ok-append_generation-in-Checkpoint : goal.returns-in_ok-append_generation-in-Checkpoint
returns-in_ok-append_generation-in-Checkpoint g c =
    rw c.in-Checkpoint.is
    (c.checkpoint.new.engine, c.in_ok-checkpoint-in-Checkpoint.ensures, c.in_ok-append_generation-in-Checkpoint.ensures)

pub returns-in_ok-append_version-in-Migrate : goal.returns-in_ok-append_version-in-Migrate
returns-in_ok-append_version-in-Migrate g c =
    rw c.in-Migrate.is (c.migrate.new.engine, c.in_ok-migrate-in-Migrate.ensures, c.in_ok-append_version-in-Migrate.ensures)

pub returns-in-Dump : goal.returns-in-Dump
returns-in-Dump g c = rw c.in-Dump.is c.dump.ensures

pub unreachable-requires : goal.unreachable-requires
unreachable-requires g c = c.requires c.in-Status.is

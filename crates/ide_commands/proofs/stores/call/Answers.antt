use Rattle.ide_commands.proofs.stores.call.Goals as goal

pub returns-in-Status : goal.returns-in-Status
returns-in-Status g c = rw c.in-Status.is c.append_status.ensures

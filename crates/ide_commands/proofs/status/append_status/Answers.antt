use Rattle.ide_commands.proofs.status.append_status.Goals as goal

pub returns : goal.returns
returns g c = (c.in_ok-status.status, c.in_ok-status.ensures, c.in_ok-append.ensures)

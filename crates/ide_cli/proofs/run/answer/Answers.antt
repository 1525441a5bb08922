use Rattle.ide_cli.proofs.run.answer.Goals as goal

pub returns-in-On : goal.returns-in-On
returns-in-On g c = rw c.in-On.is c.obey.ensures

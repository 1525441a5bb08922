use Rattle.ide_values.proofs.columns.Columns.turn_to.Goals as goal

pub go_on-requires-clause-told : goal.go_on-requires-clause-told
go_on-requires-clause-told g c = c.serve.ensures.told c.if-serve.true

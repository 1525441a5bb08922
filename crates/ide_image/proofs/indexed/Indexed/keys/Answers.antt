use Rattle.ide_image.specs.Indexed.{table_of}
use Rattle.ide_image.proofs.Keys.{are_keys}
use Rattle.ide_image.proofs.indexed.Indexed.keys.Goals as goal

pub returns-clause-keys : goal.returns-clause-keys
returns-clause-keys g c =
    are_keys {F = g.row.F.Denot} (table_of c.args.self.now.cells) c.in_ok-keys.keys.items c.sort_unstable.new.self.items
    c.in_ok-keys.ensures.keys c.listed_keys.ensures.distinct c.sort_unstable.ensures.permutation c.sort_unstable.ensures.sorted

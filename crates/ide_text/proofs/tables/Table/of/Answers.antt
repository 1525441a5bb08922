use Rattle.std.proofs.Common.{take, arith, rules}
use Rattle.std.proofs.lemmas.Grind.{common_steps}
use Rattle.ide_text.specs.Places.{ArePlaces}
use Rattle.ide_text.proofs.PlaceLemmas.{ArePlaces-named, ArePlaces-unnamed, front_more}
use Rattle.ide_text.proofs.tables.Table.of.Goals as goal
use Rattle.ide_text.proofs.tables.Table.of.Goals.{in-Some+in_ok-add, in_default}

pub loop-place-preserved : goal.loop-place-preserved
loop-place-preserved g c =
    let test = g.T.Named.has_name in
    let list = c.args.list.now in
    let i = c.loop-place.place in
    let element = c.index-list-place.result in
    front_more (λ l. ArePlaces test l c.match-name.places) list i element c.loop-place-test.true c.index-list-place.is
    (elim c.match-name.branch [
      | in-Some+in_ok-add w ↦
          rw (w.places-is, w.in_ok-add.ensures.added)
          (ArePlaces-named test (take i list) c.loop-place.places element c.loop-place.invariant w.in-Some.name.now i (grind (arith, common_steps)) (search rules))
      | in_default w ↦
          rw w.places-is (ArePlaces-unnamed test (take i list) c.loop-place.places element c.loop-place.invariant (search rules))
    ])

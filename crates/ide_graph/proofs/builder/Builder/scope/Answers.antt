use Rattle.std.proofs.Common.{◌≡◌, ◌<◌, Some, length, refl, arith}
use Rattle.std.specs.Prelude.{slice_get}
use Rattle.std.proofs.lemmas.Option.{slice_get_read}
use Rattle.ide_graph.proofs.builder.Builder.scope.Goals as goal

pub returns-clause-exact : goal.returns-clause-exact
returns-clause-exact c = λ p q is owner.
    let numbering = c.args.self.now.numbering.now in
    let layout : slice_get numbering.layouts.items c.args.spot.procedure ≡ Some c.index.result.now =
    slice_get_read numbering.layouts.items (length numbering.layouts.items) c.args.spot.procedure c.index.result.now refl c.requires.procedure c.index.ensures in
    let within : c.args.spot.procedure < length numbering.labels.items = omega (arith, c.requires.ready.numbered.labelled, c.requires.procedure) in
    let labels = slice_get_read numbering.labels.items (length numbering.labels.items) c.args.spot.procedure c.index-2.result.now refl within c.index-2.ensures in
    record {
      owner = owner;
      layout = is.layouts c.args.spot.procedure q c.index.result.now c.index-2.result.now owner layout labels;
      globals = is.globals;
      finds = is.finds;
      few = is.few;
    }

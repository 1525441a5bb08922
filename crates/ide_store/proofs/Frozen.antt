-- A frozen core has the image of each world on which its half works.
use Rattle.std.proofs.Common.{◌≡◌, ◌∙◌, [], Option, Some, Result, Ok, Err, ap, sym}
use Rattle.std.specs.Prelude.{IfOk, map}
use Rattle.std.specs.List.{list_any}
use Rattle.ide_batch.specs.Applied.{named_in}
use Rattle.ide_graph.specs.Supergraph.{Supergraph}
use Rattle.ide_steps.specs.Frozen.{graph_in, program_in}
use Rattle.ide_steps.specs.declared.closed.Closed.{Closed}
use Rattle.ide_image.specs.Tables.{found}
use Rattle.ide_wire.specs.Key.{same_key}
use Rattle.ide_wire.specs.declared.refused.Refused.{Refused}
use Rattle.ide_store.specs.Freezing.{IsImageOver}
use Rattle.ide_store.specs.Table.{Analysis, TableData}

pub image_of : {P F L : Type 0} (a : Analysis F L) (result : Result (Closed P L F) Refused) (table : TableData F)
    → IfOk result (λ closed. table.core.program ≡ Some (program_in closed))
    → IfOk result (λ closed. table.core.graph ≡ Some (graph_in closed))
    → IfOk result (λ closed. closed.tables.table ≡ table.core.table)
    → IfOk result (λ closed. closed.roots.items ≡ table.core.roots)
    → IfOk result (λ _. table.core.pile.pending ≡ [])
    → IfOk result (IsImageOver a table)
image_of a (Ok closed) table program graph functions roots quiet = λ place w handed reached works. record {
  program = works.image.program ∙ program;
  roots =
      ap (λ (o : Option Supergraph). map (named_in o) w.world.image.roots) (sym graph) ∙ works.image.roots
      ∙ ap (map (λ root. Some root)) (sym roots);
  functions = λ key. works.image.get key ∙ ap (λ t. found t key) (sym functions);
  quiet = λ key. works.image.pending key ∙ ap (list_any (same_key key)) quiet;
}
image_of a (Err e) table program graph functions roots quiet = tt

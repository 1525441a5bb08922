-- What contracts see of a task: the claimed key, and all that its parts depend on.
use Rattle.ide_wire.specs.declared.key.Key.{Key}
use Rattle.ide_graph.specs.declared.site.Site.{Site}
use Rattle.ide_tasks.specs.declared.partners.Partners.{Partners}

-- the key, its function when it was claimed, the site of its node, and its partners
pub record TaskData (F : Type 0) : Type 0 where
  pub key : Key
  pub function : F
  pub site : Site
  pub partners : Partners F

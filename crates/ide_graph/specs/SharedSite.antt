-- What contracts see of a site that is held with those of all nodes.
use Rattle.std.specs.Prelude.{ℕ, List, [], slice_index_or}
use Rattle.ide_graph.specs.declared.site.Site.{Site}
use Rattle.ide_graph.specs.declared.site.Site.TheVariants.{Normal}

-- the site of a node: one with no edges past the last
abbrev pub site_at : List Site → ℕ → Site
site_at sites node = slice_index_or sites node (Normal [])

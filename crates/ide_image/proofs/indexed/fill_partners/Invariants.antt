use Rattle.std.proofs.Common.{◌≡◌, ◌%◌, ◌≤◌, ◌++◌, drop, length}
use Rattle.std.specs.Prelude.{vec_capacity, vec_len}
use Rattle.ide_pages.specs.Pages.{read_at}
use Rattle.ide_image.specs.Tables.{partners_at}
use Rattle.ide_image.proofs.indexed.fill_partners.Given as goal

-- the partners so far, and those that the pages from here on give, for which there is room
abbrev pub invariant-loop-listed : goal.invariant-loop-listed
invariant-loop-listed g l = record {
  listed : l.partners.items ++ partners_at g.F.EdgeFn.edge l.functions.items (read_at l.places (l.node % 64) (drop l.listed-index l.pages))
      ≡ partners_at g.F.EdgeFn.edge l.functions.items (read_at l.places (l.node % 64) l.pages);
  few : vec_len l.partners ≤ l.listed-index;
  room : length l.pages ≤ vec_capacity l.partners;
}

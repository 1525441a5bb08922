use Rattle.std.proofs.Common.{ℕ, ◌<◌, ◌≤◌}
use Rattle.ide_pages.specs.Pages.{IsAside, page_at}
use Rattle.ide_pages.proofs.pages.Pages.next_page.Given as goal

-- so are the pages in front of this one
abbrev pub invariant-loop-index : goal.invariant-loop-index
invariant-loop-index l = (n : ℕ) → l.page ≤ n → n < l.index → IsAside l.begin l.end (page_at l.self-inside.pages.items n)

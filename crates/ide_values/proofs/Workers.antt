-- The ranges of workers, one after the other: together they are all nodes.
use Rattle.std.proofs.Common.{◌≡◌, ℕ, ◌+◌, ◌*◌, ◌/◌, ◌<◌, ◌≤◌, List, length, ap, ◌∙◌, arith}
use Rattle.std.proofs.Math.Nat.{add-mul, div-mul-le_self, mul-div_cancel_left, mul-le-mul_right, zero-div}
use Rattle.std.proofs.lemmas.List.{get_or_default}
use Rattle.std.proofs.lemmas.Nat.{le-div}
use Rattle.ide_graph.specs.Supergraph.{Supergraph}
use Rattle.ide_lattice.specs.Algebra.{LatticeAlgebra, EdgeAlgebra}
use Rattle.ide_image.specs.Tables.{Table}
use Rattle.ide_values.specs.Fill.{FillsFrom}
use Rattle.ide_values.specs.Refusal.{AreWorkers}
use Rattle.ide_values.specs.Share.{AreFull, AreToFill, Sharing}
use Rattle.ide_values.specs.SharedFill.{nodes_before, sharing_of}
use Rattle.ide_values.specs.Start.{AreTops}

-- no range begins after a later one
pub nodes_ascend : (nodes workers facts i j : ℕ) → 0 < workers → i ≤ j → nodes_before nodes workers i * facts ≤ nodes_before nodes workers j * facts
nodes_ascend nodes workers facts i j some le =
    let up : i * nodes ≤ j * nodes = mul-le-mul_right nodes le in
    let whole : nodes_before nodes workers i * workers ≤ j * nodes = omega (arith, div-mul-le_self (i * nodes) workers, up) in
    mul-le-mul_right facts (le-div (nodes_before nodes workers i) (j * nodes) workers some whole)

-- the first begins at the first node, and the last ends at the last
pub begins : (nodes workers : ℕ) → nodes_before nodes workers 0 ≡ 0
begins nodes workers = ap (λ n. n / workers) (omega arith) ∙ zero-div workers

pub ends : (nodes workers : ℕ) → 0 < workers → nodes_before nodes workers workers ≡ nodes
ends nodes workers some = mul-div_cancel_left nodes some

module _ {F L : Type 0} (A : LatticeAlgebra L) (B : EdgeAlgebra F L) (graph : Supergraph) (table : Table F) (starts : List L) (first nodes workers : ℕ) (are : AreWorkers workers) where
  -- what they share
  abbrev sharing : Sharing L
  sharing = sharing_of A B graph table starts first nodes workers

  starts_at : nodes_before nodes workers 0 * graph.facts ≡ 0
  starts_at = ap (λ n. n * graph.facts) (begins nodes workers) ∙ omega arith

  stops_at : nodes_before nodes workers (0 + workers) * graph.facts ≡ nodes * graph.facts
  stops_at = ap (λ w. nodes_before nodes workers w * graph.facts) (omega arith) ∙ ap (λ n. n * graph.facts) (ends nodes workers are.some)

  -- tops are to be filled by the workers
  pub tops_to_fill : (rows : List L) → length rows ≡ nodes * graph.facts → AreTops A rows → AreToFill sharing 0 workers rows
  tops_to_fill rows count tops = record {
    some = are.some;
    few = omega (arith, are.most);
    workers = omega arith;
    blank = record {
      span = omega (arith, starts_at, stops_at, count);
      each = λ k x h. get_or_default rows k x A.top h ∙ tops k;
    };
  }

  -- what the workers filled are the rows of the nodes
  pub full_count : (rows : List L) → AreFull sharing 0 workers rows → length rows ≡ nodes * graph.facts
  full_count rows full = omega (arith, starts_at, stops_at, full.span)

  pub full_fills : (rows : List L) → AreFull sharing 0 workers rows → FillsFrom A B graph table starts first rows
  full_fills rows full k h image proper n d i r at =
      full.each k A.top h image proper n d i r (omega (arith, at, starts_at))

  -- what a worker filled are its rows
  pub range_full : (worker : ℕ) (old new : List L) → AreToFill sharing worker 1 old → length new ≡ length old
      → FillsFrom A B graph table starts (first + nodes_before nodes workers worker) new → AreFull sharing worker 1 new
  range_full worker old new to_fill same fills =
      let apart : (first + nodes_before nodes workers worker) * graph.facts ≡ first * graph.facts + nodes_before nodes workers worker * graph.facts =
      add-mul first (nodes_before nodes workers worker) graph.facts in
      record {
        span = omega (arith, same, to_fill.blank.span);
        each = λ k x h image proper n d i r at. get_or_default new k x A.top h ∙ fills k h image proper n d i r (omega (arith, at, apart));
      }

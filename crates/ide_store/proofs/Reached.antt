-- What is known of an analysis whose calls are acts, and of the worlds that acts lead to.
use Rattle.ide_store.proofs.Adopted.{led_whole, start_whole}
use Rattle.ide_store.proofs.Hands.{IsWhole}
use Rattle.ide_store.proofs.Places.{exact_at, laws_at}
pub use Rattle.ide_store.specs.Known.{Knows}
use Rattle.ide_store.specs.Places.{Place}
use Rattle.ide_store.specs.Table.{Analysis, IsReached, IsStart, StoreWorld, forms_of, store_at}

module _ {F L : Type 0} (a : Analysis F L) (knows : Knows a) (place : Place) where
  -- what is kept by acts is so of it
  pub reached_whole : (w : StoreWorld a place) → IsReached a place w
      → IsWhole a.lattice a.functions a.targets a.same (forms_of a) (store_at a place) knows.is_same
      (exact_at a knows.prefix_free place)
      (laws_at a place) knows.known w
  reached_whole w reached =
      led_whole a knows.is_same knows.prefix_free knows.known place (IsStart a place)
      (start_whole a knows.is_same knows.prefix_free knows.known place) w reached

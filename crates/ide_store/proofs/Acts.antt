-- Lists of acts: they are done one behind the other, and lead from worlds that acts led to to such worlds.
use Rattle.std.proofs.Common.{◌≡◌, ◌∙◌, ◌+◌, ◌++◌, Bool, List, [], ◌∷◌, refl, ap, sym, subst, arith}
use Rattle.ide_store.specs.Draining.{count_of}
use Rattle.ide_store.specs.Places.{OnOneDisk, OnTwoDisks, Place}
use Rattle.ide_store.specs.Table.{Analysis, at_new, IsNew, IsReached, IsStart, MayDoAll, StoreAct, StoreWorld, after_act, after_acts, new_store, store_at}

module _ {F L : Type 0} (a : Analysis F L) (place : Place) where
  -- acts may be done behind others
  pub may_more : (w : StoreWorld a place) (first more : List (StoreAct a place)) → MayDoAll a place w first
      → MayDoAll a place (after_acts a place w first) more → MayDoAll a place w (first ++ more)
  may_more w [] more can then = then
  may_more w (act ∷ first) more can then = (can.0, may_more (after_act a place w act) first more can.1 then)

  pub after_more : (w : StoreWorld a place) (first more : List (StoreAct a place))
      → after_acts a place w (first ++ more) ≡ after_acts a place (after_acts a place w first) more
  after_more w [] more = refl
  after_more w (act ∷ first) more = after_more (after_act a place w act) first more

  pub count_more : (is : StoreAct a place → Bool) (first more : List (StoreAct a place)) → count_of a place is (first ++ more) ≡ count_of a place is first + count_of a place is more
  count_more is [] more = omega arith
  count_more is (act ∷ first) more =
      let rest = count_more is first more in omega (arith, rest)

  -- where they lead from a world that acts led to, acts led to
  pub reached_more : (w : StoreWorld a place) (acts : List (StoreAct a place)) → IsReached a place w → MayDoAll a place w acts → IsReached a place (after_acts a place w acts)
  reached_more w acts reached can =
      let begun = reached.start in
      record {
        start = begun;
        begins = reached.begins;
        acts = reached.acts ++ acts;
        can = may_more begun reached.acts acts reached.can (subst (λ (u : StoreWorld a place). MayDoAll a place u acts) (sym reached.is) can);
        is = after_more begun reached.acts acts ∙ ap (λ (u : StoreWorld a place). after_acts a place u acts) reached.is;
      }

module _ {F L : Type 0} (a : Analysis F L) where
  -- a run may begin at a new store
  pub begins_new : (place : Place) (start : StoreWorld a place) → IsNew a place start → IsStart a place start
  begins_new (OnOneDisk head) start new = new
  begins_new (OnTwoDisks head) start new = at_new new

  -- so that is a world that acts led to
  pub reached_new : (place : Place) (work : (store_at a place).Work) (disks : (store_at a place).Disks) → (store_at a place).Live [] 0 work disks
      → IsReached a place (new_store a place work disks)
  reached_new place work disks live = record {
    start = new_store a place work disks;
    begins = begins_new place (new_store a place work disks) (record { work = work; disks = disks; live = live; is = refl });
    acts = [];
    can = tt;
    is = refl;
  }

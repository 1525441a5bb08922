use Rattle.std.specs.Prelude.{◌≡◌, List, [], false}
use Rattle.std.specs.List.{All}
use Rattle.std.proofs.Common.{arith, rules, refl, subst, sym, inr}
use Rattle.std.proofs.lemmas.Grind.{common_steps}
use Rattle.ide_batch.specs.Applied.{MayHaveAll}
use Rattle.ide_batch.specs.Bodies.{AreSpelled}
use Rattle.ide_batch.specs.Items.{functions_by, Item}
use Rattle.ide_batch.proofs.Apart.{spelled_apart}
use Rattle.ide_batch.proofs.Refusals.{present}
use Rattle.ide_batch.proofs.replay.apply_batch.Goals as goal

pub returns-then-not-may_have_all-clause-refused : goal.returns-then-not-may_have_all-clause-refused
returns-then-not-may_have_all-clause-refused g c =
    let body : AreSpelled (functions_by g.P.F.Wire.proper g.P.F.Wire.form g.P.F.PartialEq.eq g.P.F.EdgeFn.edge.all_top) c.args.version c.in-Some.items.items c.args.body.now = search rules in
    inr (
      refl,
      λ fitting.
          let one : fitting.0 ≡ c.in-Some.items.items =
          spelled_apart (functions_by g.P.F.Wire.proper g.P.F.Wire.form g.P.F.PartialEq.eq g.P.F.EdgeFn.edge.all_top) g.met.P.F.Wire.prefix_free c.args.version
          fitting.0 c.in-Some.items.items c.args.body.now c.args.body.now [] [] fitting.1 body refl in
          let all : MayHaveAll c.args.core.now c.as_slice.result.now =
          subst (MayHaveAll c.args.core.now) (sym c.as_slice.ensures.value) (subst (MayHaveAll c.args.core.now) one fitting.2) in
          let yes = c.may_have_all.ensures.1 all in
          absurd (grind (arith, common_steps, yes)),
    )

pub set_all-requires-clause-present : goal.set_all-requires-clause-present
set_all-requires-clause-present g c =
    let body : AreSpelled (functions_by g.P.F.Wire.proper g.P.F.Wire.form g.P.F.PartialEq.eq g.P.F.EdgeFn.edge.all_top) c.args.version c.in-Some.items.items c.args.body.now = search rules in
    subst (λ (xs : List (Item g.row.P-F.Denot)). All (λ item. g.P.F.PartialEq.eq item.1 g.P.F.EdgeFn.edge.all_top ≡ false) xs) (sym c.as_slice-2.ensures.value)
    (present (functions_by g.P.F.Wire.proper g.P.F.Wire.form g.P.F.PartialEq.eq g.P.F.EdgeFn.edge.all_top) c.args.version c.in-Some.items.items c.args.body.now body)

use Rattle.std.proofs.Common.{◌≡◌, ◌+◌, ◌<◌, ap, inr, refl, rules, subst, sym, ◌∙◌}
use Rattle.std.proofs.lemmas.Option.{same_Some}
use Rattle.ide_graph.specs.Supergraph.{Supergraph}
use Rattle.ide_image.specs.Tables.{found}
use Rattle.ide_image.specs.Walk.{jump_behind}
use Rattle.ide_image.specs.Worklist.{is_claimed, is_pending}
use Rattle.ide_wire.specs.declared.key.Key.TheVariants.{Jump}
use Rattle.ide_steps.specs.Core.{CoreData}
use Rattle.ide_steps.proofs.Entered.{last-found, last-unclaimed, last-waits}
use Rattle.ide_steps.proofs.Nodes.{kept-equal, kept-moved, through}
use Rattle.ide_steps.proofs.machine.Core.walk_owed.Goals as goal

-- the last key is one of the graph
pub invariant_of-self-2 : goal.invariant_of-self-2
invariant_of-self-2 g c = λ loaded is.
    let kept = c.self.invariant loaded is in
    let may = c.walk_length-count.ensures.may (search rules) in
    let graph = ap (λ (core : CoreData g.row.P-F.Denot). core.graph) (sym c.self.view_is) ∙ through _ c.self.inside.loaded loaded is (λ l. l.graph) in
    let same : may.graph ≡ loaded.graph = same_Some _ _ (sym may.loaded ∙ graph) in (
      kept.0,
      kept-moved g.P.F.EdgeFn.edge g.P.Problem.targets loaded.graph c.self.inside.image.pile c.walk.new.self.pile kept.1
          (Jump c.in-Jump.node c.in-Jump.from c.in-Jump.to) (jump_behind c.in-Jump.node c.in-Jump.from c.in-Jump.to c.walk_length-count.result)
          (subst (λ (h : Supergraph). c.in-Jump.node + c.walk_length-count.result < h.nodes) same may.may.within) c.in_ok-walk.ensures.pending c.walk.ensures.claims,
    )

-- it was walked over some nodes
pub returns-clause-walked : goal.returns-clause-walked
returns-clause-walked g c =
    let some : 0 < c.walk_length-count.result = search rules in
    let may = rw (← c.self.view_is) at c.walk_length-count.ensures.may some in
    let waits = rw (← c.self.view_is) at c.requires.pending in
    let unclaimed = rw (← c.self.view_is) at c.requires.unclaimed in
    let has = rw (← c.self.view_is) at c.requires.function in
    rw (← c.self.view_is) (inr (
      some,
      record {
        node = c.in-Jump.node;
        from = c.in-Jump.from;
        to = c.in-Jump.to;
        function = c.args.function;
        waits = ap (is_pending c.self.inside.image.pile) (sym c.in-Jump.is) ∙ waits;
        unclaimed = ap (is_claimed c.self.inside.image.pile) (sym c.in-Jump.is) ∙ unclaimed;
        has = ap (found c.self.inside.image.table) (sym c.in-Jump.is) ∙ has;
        may = may;
        same = record { program = refl; graph = refl; roots = refl };
        distinct = c.walk.ensures.distinct;
        entries = c.in_ok-walk.ensures.entries;
        few = c.in_ok-walk.ensures.few;
        goes = c.in_ok-walk.ensures.pending;
        long = c.in_ok-walk.ensures.count;
        claims = c.walk.ensures.claims;
        changes = c.in_ok-walk.ensures.noted;
      },
    ))

-- and came to a key that waits
pub returns-clause-waits : goal.returns-clause-waits
returns-clause-waits g c =
    let some : 0 < c.walk_length-count.result = search rules in
    let may = rw (← c.self.view_is) at c.walk_length-count.ensures.may some in
    let image = c.self.inside.image in
    let after = c.walk.new.self in
    record {
      waits = last-waits c.in-Jump.node c.in-Jump.from c.in-Jump.to c.walk_length-count.result some image.pile after.pile c.in_ok-walk.ensures.pending;
      unclaimed = last-unclaimed c.in-Jump.node c.in-Jump.from c.in-Jump.to c.walk_length-count.result some image.pile after.pile
          may.may.settled c.walk.ensures.claims c.claim.ensures.held;
      has = last-found c.in-Jump.node c.in-Jump.from c.in-Jump.to c.walk_length-count.result some c.args.function image.table after.table
          may.may.absent c.walk.ensures.distinct c.in_ok-walk.ensures.entries;
    }

pub invariant_of-self : goal.invariant_of-self
invariant_of-self g c = λ loaded is.
    let kept = c.self.invariant loaded is in
    (kept.0, kept-equal g.P.F.EdgeFn.edge g.P.Problem.targets loaded.graph c.self.inside.image c.walk.new.self kept.1 c.in_err-walk.ensures.err)

use Rattle.std.specs.Prelude.{◌≡◌, ◌⊎◌}
use Rattle.std.proofs.Common.{subst, sym, ◌∙◌}
use Rattle.ide_wire.specs.declared.refused.Refused.{Refused}
use Rattle.ide_wire.specs.declared.refused.Refused.TheVariants.{NoMemory}
use Rattle.ide_batch.specs.Applied.{MayBeRoot, RefusesRecord}
use Rattle.ide_batch.proofs.Refusals.{root_refused, root_damaged}
use Rattle.ide_batch.proofs.replay.apply_root.Goals as goal

pub returns-in-Err : goal.returns-in-Err
returns-in-Err g c = record {
  begun = tt;
  refused = subst (RefusesRecord c.args.n (MayBeRoot c.args.core.now c.args.name.now)) (sym c.refusal_of.ensures)
      (root_refused c.args.n c.args.core.now c.args.name.now c.in-Err.refused c.in-Err.ensures.refused);
  damaged = subst (λ (e : Refused). (e ≡ NoMemory) ⊎ (c.root.new.self ≡ c.args.core.now)) (sym c.refusal_of.ensures)
      (root_damaged c.args.n c.in-Err.refused (c.root.new.self ≡ c.args.core.now) c.in-Err.ensures.same);
  unchanged = c.in-Err.ensures.unchanged;
  free = λ hand. c.in-Err.ensures.unchanged.claims hand ∙ c.requires hand;
}

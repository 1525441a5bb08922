use Rattle.std.proofs.Common.{◌≡◌, ◌≤◌, arith, subst, sym, List, Option, ℕ}
use Rattle.std.specs.Prelude.{IfSome, take}
use Rattle.ide_slot_journal.specs.Adopting.{IsCheckpointFront}
use Rattle.ide_slot_journal.proofs.adopting.has_checkpoint.Goals as goal

pub returns-in-Some-clause-has : goal.returns-in-Some-clause-has
returns-in-Some-clause-has g c honest =
    let bytes = (g.D.Disk.state c.args.disk.now).now in
    let front : c.in-Some.front ≡ take 4097 bytes =
    subst (λ (it : Option (List ℕ)). IfSome it (λ front. front ≡ take 4097 bytes)) c.in-Some.is (c.in-Ok.ensures.front honest) in
    let long : 4097 ≤ g.D.Disk.size c.args.disk.now =
    subst (λ (it : Option (List ℕ)). IfSome it (λ front. 4097 ≤ g.D.Disk.size c.args.disk.now)) c.in-Some.is c.in-Ok.ensures.long in
    let whole = g.met.D.Disk.whole c.args.disk.now honest in (
      λ has. record {
        long = omega (arith, whole, long);
        front = subst (λ (bytes : List ℕ). IsCheckpointFront bytes) front (c.is_checkpoint_front.ensures.0 has);
      },
      λ has. c.is_checkpoint_front.ensures.1 (subst (λ (bytes : List ℕ). IsCheckpointFront bytes) (sym front) has.front),
    )

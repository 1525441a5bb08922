-- The steps of a client's seat.
use Rattle.std.proofs.Common.{ℕ, ◌-◌, ◌++◌, length, max, refl, subst, arith}
use Rattle.std.proofs.Math.Nat.{max-le}
use Rattle.atomic_table.specs.Table.{Allows}
use Rattle.ide_board.specs.declared.view.Role.{Role}
use Rattle.ide_board.specs.declared.view.Role.TheVariants.{Table, Client}
use Rattle.ide_board.specs.Records.{AreSealed, IsNotNoted, IsLastOf, last_pair}
use Rattle.ide_board.specs.Roles.{Sitter, IsTableRole, IsClientRole, without_note, sealed_in, handed_in, client_in, own_in, seen_in}
use Rattle.ide_board.specs.Rule.{Ledger, IsTrueOf, KnowsLedger, Recalls, Kept}
use Rattle.ide_board.specs.Steps.{Reading, Learning, Adding}
use Rattle.ide_board.proofs.Pairs.{with_last}
use Rattle.ide_board.proofs.Changes.{any_step, allows, still}

module _ {R : Type 0} where
  -- what a client knows is so
  pub client_known : (l : Ledger R) (seats at : ℕ) (role : Role R) → IsClientRole role → KnowsLedger l seats at role → IsTrueOf l (client_in role) (own_in role) (seen_in role)
  client_known l seats at role is k = subst (λ r. KnowsLedger l seats at r) is k

  pub reads : (slots id : ℕ) (me : Sitter R) → IsClientRole me.0.role → Allows (Kept 0) slots id me 1 (λ n. n) (Reading any_step me)
  reads slots id me is = allows slots id 1 (λ n. n) me (Reading any_step me) (λ l seats nested knows recalls.
      let role : Role R = me.0.role in
      let k = client_known l seats id role is knows in
      still l seats id 1 (λ n. n) me (Reading any_step me) (without_note (Client (client_in role) (own_in role) (length l.stored))) nested refl (k.0, k.1, omega arith) tt (refl, k.2))

  pub learns : (slots id : ℕ) (me : Sitter R) → IsClientRole me.0.role → IsClientRole me.0.note → Allows (Kept 0) slots id me 0 (λ n. n) (Learning any_step me)
  learns slots id me is other = allows slots id 0 (λ n. n) me (Learning any_step me) (λ l seats nested knows recalls.
      let role : Role R = me.0.role in
      let note : Role R = me.0.note in
      let k = client_known l seats id role is knows in
      let t : Recalls l (Client (client_in note) (own_in note) (seen_in note)) = subst (Recalls l) other recalls in
      still l seats id 0 (λ n. n) me (Learning any_step me) (without_note (Client (client_in role) (own_in role) (max (seen_in role) (seen_in note)))) nested refl
      (k.0, k.1, max-le k.2 t.2) tt refl)

  pub adds : (slots id : ℕ) (me : Sitter R) → IsClientRole me.0.role → IsTableRole me.0.note → IsLastOf (client_in me.0.role) (sealed_in me.0.note)
      → IsNotNoted (length (sealed_in me.0.note) - 1) (own_in me.0.role) → AreSealed (sealed_in me.0.note) (client_in me.0.role) (own_in me.0.role) → Allows (Kept 0) slots id me 0 (λ n. n) (Adding any_step me)
  adds slots id me is table last new sealed = allows slots id 0 (λ n. n) me (Adding any_step me) (λ l seats nested knows recalls.
      let role : Role R = me.0.role in
      let note : Role R = me.0.note in
      let k = client_known l seats id role is knows in
      let t : Recalls l (Table (sealed_in note) (handed_in note) (handed_in note)) = subst (Recalls l) table recalls in
      let more = with_last (sealed_in note) l.sealed (client_in role) (own_in role) last t.0 new sealed k.0 k.1 in
      still l seats id 0 (λ n. n) me (Adding any_step me) (without_note (Client (client_in role) (own_in role ++ last_pair (sealed_in note)) (seen_in role))) nested refl (more.0, more.1, k.2) tt refl)

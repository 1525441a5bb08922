use Rattle.std.proofs.Common.{◌≡◌, rules, ap, ◌∙◌}
use Rattle.ide_board.specs.Records.{TableView, ClientView}
use Rattle.ide_board.specs.Roles.{sealed_in, client_in, own_in}
use Rattle.ide_board.proofs.Clients.{adds}
use Rattle.ide_board.proofs.board.Board.note.Goals as goal

pub load-requires : goal.load-requires
load-requires g c =
    let R : Type 0 = g.row.R.Denot in
    let sealed : sealed_in c.table.inside.seat.me.0.role ≡ c.args.table.now.sealed = ap (λ (t : TableView R). t.sealed) (c.table.view_is ∙ c.compare.ensures.table) in
    let number : client_in c.client.inside.seat.me.0.role ≡ c.args.client.now.number = ap (λ (v : ClientView R). v.number) (c.client.view_is ∙ c.compare.ensures.client) in
    let own : own_in c.client.inside.seat.me.0.role ≡ c.args.client.now.own = ap (λ (v : ClientView R). v.own) (c.client.view_is ∙ c.compare.ensures.client) in (
      search rules,
      search rules,
      adds _ _ _ (rw c.tell.ensures.to_me c.client.invariant.client) (rw c.tell.ensures.to_me c.table.invariant.table)
          (rw c.tell.ensures.to_me (rw (sealed, number) c.requires.last)) (rw c.tell.ensures.to_me (rw (sealed, own) c.requires.new)) (rw c.tell.ensures.to_me (rw (sealed, number, own) c.compare.ensures.own)),
    )

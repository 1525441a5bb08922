use Rattle.std.proofs.Common.{◌≡◌, ◌++◌, decimal, codes, rules, OnOk}
use Rattle.std.proofs.lemmas.Result.{on_ok_weaker}
use Rattle.ide_commands.proofs.Appended.{count_appended, four_appended}
use Rattle.ide_commands.proofs.counts.append_counts.Goals as goal

pub returns : goal.returns
returns c =
    let graph = c.args.graph.now in
    let before = c.args.out.now.items in
    let first = c.append_count.new.out.items in
    let second = c.append_count-2.new.out.items in
    let third = c.append_count-3.new.out.items in
    let last : OnOk c.extend_from_slice.result (c.extend_from_slice.new.self.items ≡ third ++ codes "\n") = search rules in
    on_ok_weaker c.extend_from_slice.result
    (four_appended before (codes "ok procedures " ++ decimal graph.procedures) (codes " nodes " ++ decimal graph.nodes)
    (codes " facts " ++ decimal graph.facts) (codes "\n") first second third c.extend_from_slice.new.self.items
    (count_appended before (codes "ok procedures ") first c.procedure_count.result graph.procedures c.in_ok-append_count.ensures c.procedure_count.ensures)
    (count_appended first (codes " nodes ") second c.node_count.result graph.nodes c.in_ok-append_count-2.ensures c.node_count.ensures.count)
    (count_appended second (codes " facts ") third c.fact_count.result graph.facts c.in_ok-append_count-3.ensures c.fact_count.ensures.count))
    last

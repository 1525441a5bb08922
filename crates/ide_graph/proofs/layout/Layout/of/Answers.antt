use Rattle.std.proofs.Common.{◌∙◌, ap, length, refl, arith}
use Rattle.ide_graph.proofs.NameLemmas.{added_twice}
use Rattle.ide_graph.proofs.layout.Layout.of.Goals as goal

pub returns-clause-layout : goal.returns-clause-layout
returns-clause-layout c =
    let both = added_twice c.args.procedure.now c.new-own.result c.add_all.new.self c.add_all-2.new.self c.deref.result.now c.deref-2.result.now
    c.new-own.ensures c.deref.ensures.value c.deref-2.ensures.value c.in_ok-add_all.ensures.added c.in_ok-add_all-2.ensures.added in
    record {
      start = refl;
      exit = refl;
      few = omega (arith, c.in_ok-add_all.ensures.few, c.in_ok-add_all-2.ensures.few, ap length c.new-own.ensures, ap length c.deref.ensures.value, ap length c.deref-2.ensures.value);
      own = λ names. (both names).1;
      parameters = λ names. c.len-parameter_count.ensures.len ∙ ap length (both names).0;
    }

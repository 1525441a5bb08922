use Rattle.std.proofs.Common.{◌∙◌, ap}
use Rattle.clap.specs.Simple.{app_of_fields}
use Rattle.ide_words.proofs.Line.{of_next, versioned, wanting}
use Rattle.ide_words.proofs.commands.idesolve.Goals as goal

pub returns : goal.returns
returns c =
    let named = ap versioned (ap app_of_fields c.about.ensures ∙ c.new.ensures.app) in
    let told = ap app_of_fields c.after_help.ensures ∙ ap app_of_fields c.version.ensures ∙ named in
    let top = ap app_of_fields c.subcommand_required.ensures ∙ ap wanting told in
    let first = of_next c.in_ok-subcommand.ensures c.in_ok-once.ensures.2 top in
    let second = of_next c.in_ok-subcommand-2.ensures c.in_ok-check.ensures first in
    let third = of_next c.in_ok-subcommand-3.ensures c.in_ok-explain.ensures.1 second in
    let fourth = of_next c.in_ok-subcommand-4.ensures c.in_ok-create.ensures.2 third in
    let fifth = of_next c.in_ok-subcommand-5.ensures c.in_ok-on_store.ensures fourth in
    let sixth = of_next c.in_ok-subcommand-6.ensures c.in_ok-load.ensures fifth in
    let seventh = of_next c.in_ok-subcommand-7.ensures c.in_ok-root.ensures sixth in
    let eighth = of_next c.in_ok-subcommand-8.ensures c.in_ok-work.ensures seventh in
    let ninth = of_next c.in_ok-subcommand-9.ensures c.in_ok-on_store-2.ensures eighth in
    let tenth = of_next c.in_ok-subcommand-10.ensures c.in_ok-on_store-3.ensures ninth in
    let eleventh = of_next c.in_ok-subcommand-11.ensures c.in_ok-ask.ensures tenth in
    let twelfth = of_next c.in_ok-subcommand-12.ensures c.in_ok-on_store-4.ensures eleventh in
    let thirteenth = of_next c.in_ok-subcommand-13.ensures c.in_ok-on_store-5.ensures twelfth in
    record {
      solved = c.in_ok-once.ensures.0;
      names = c.in_ok-explain.ensures.0;
      created = c.in_ok-create.ensures.0;
      are = (c.in_ok-once.ensures.1, c.in_ok-create.ensures.1);
      is = thirteenth;
    }

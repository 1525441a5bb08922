use Rattle.std.proofs.Common.{◌≡◌, ℕ, List, take, ◌∙◌, ap, arith}
use Rattle.std.proofs.lemmas.Grind.{common_steps}
use Rattle.ide_text.specs.declared.program.Procedure.{Procedure}
use Rattle.ide_graph.specs.Named.{procedure_of_name}
use Rattle.ide_graph.specs.Numbers.{procedure_of}
use Rattle.ide_graph.proofs.DirectoryLemmas.{procedure_of-more}
use Rattle.ide_graph.proofs.StatementLemmas.{front_more}
use Rattle.ide_graph.proofs.directory.Directory.of.Goals as goal

pub loop-index-preserved : goal.loop-index-preserved
loop-index-preserved c =
    let ps = c.args.procedures.now in
    let i = c.loop-index.index in
    let q = c.index-procedures-index.result in
    record {
      named =
          front_more (λ front. (name : List ℕ) → procedure_of_name c.add.new.self.procedures name ≡ procedure_of front name) ps i q c.loop-index-test.true c.index-procedures-index.is
          (rw (c.in_ok-add.ensures.added, c.as_bytes.ensures.value)
          (procedure_of-more c.loop-index.directory.procedures (take i ps) q i (grind (arith, common_steps)) c.loop-index.invariant.named));
      counted = c.in_ok-add.ensures.counted ∙ c.loop-index.invariant.counted;
    }

pub returns-clause-named : goal.returns-clause-named
returns-clause-named c name =
    c.loop-index.invariant.named name
    ∙ ap (λ (front : List Procedure). procedure_of front name) (let all : take c.loop-index.index c.args.procedures.now ≡ c.args.procedures.now = grind (arith, common_steps) in all)

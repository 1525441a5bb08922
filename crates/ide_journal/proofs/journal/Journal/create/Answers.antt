use Rattle.std.proofs.Common.{List, ℕ, [], ◌∷◌, ◌++◌, length, refl, sym, ap, ◌∙◌}
use Rattle.std.proofs.lemmas.List.{append-nil}
use Rattle.ide_disk.specs.Disk.{settled}
use Rattle.ide_journal.specs.Format.{head_of, header}
use Rattle.ide_journal.proofs.OneList.{length-header}
use Rattle.ide_journal.proofs.journal.Journal.create.Goals as goal

pub returns-in-Ok-rewrite-clause-at_rest : goal.returns-in-Ok-rewrite-clause-at_rest
returns-in-Ok-rewrite-clause-at_rest g c honest =
    let head = head_of c.args.version c.args.tag in
    let page = c.deref.ensures.value ∙ c.in-Ok.ensures.spelled in
    record {
      pages = [];
      whole = refl;
      gate = sym (ap length (append-nil (header head)) ∙ length-header head);
      count = refl;
      next = refl;
      version = refl;
      stage = refl;
      disk = c.in-Ok-rewrite.ensures.bytes honest ∙ ap settled page ∙ ap (λ (xs : List ℕ). settled (xs ++ 0 ∷ [])) (sym (append-nil (header head)));
    }

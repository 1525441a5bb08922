use Rattle.std.proofs.Common.{rules, ◌≡◌, ◌∙◌, ℕ, List, ap, length}
use Rattle.std.specs.Prelude.{is_some}
use Rattle.ide_steps.specs.ProgramText.{said_by}
use Rattle.ide_commands.specs.Lines.{version_number}
use Rattle.ide_slot_store.proofs.Sizes.{bytes_are}
use Rattle.ide_commands.proofs.Told.{is_there}
use Rattle.ide_commands.proofs.status.Status.of.Goals as goal

pub returns : goal.returns
returns g c =
    let has : c.is_some-has_program.result ≡ is_some c.program.result = search rules in
    record {
      program = is_there said_by c.program.result _ _ has (c.program.ensures ∙ ap (λ core. core.program) c.core-core.ensures);
      roots = ap (λ (r : List ℕ). length r) c.roots.ensures ∙ ap (λ core. length core.roots) c.core-core.ensures;
      keys = c.key_count-keys.ensures ∙ ap (λ core. length core.table.entries) c.core-core.ensures;
      pending = c.pending_count-pending.ensures ∙ ap (λ core. length core.pile.pending) c.core-core.ensures;
      records = c.acked-records.ensures;
      bytes = bytes_are _ _ _ _ _ c.saturating_add.ensures
          (c.in_ok-first.ensures ∙ ap (λ pair. g.D.Disk.size pair.0) c.into_disks-a.ensures)
          (c.in_ok-second.ensures ∙ ap (λ pair. g.D.Disk.size pair.1) c.into_disks-a.ensures);
      generation = c.from-generation.ensures ∙ c.generation.ensures;
      base = c.from-base.ensures ∙ c.base.ensures;
      version = c.version_number-version.ensures ∙ ap version_number c.version.ensures;
    }

use Rattle.std.proofs.Common.{◌≡◌, ◌<◌, true, false, is_some, ◌∙◌, sym, ap, subst}
use Rattle.std.specs.Map.{lookup}
use Rattle.std.specs.Str.{bytes_eq}
use Rattle.ide_text.specs.Places.{with_place}
use Rattle.ide_text.proofs.NameLists.{inserted, kept, places_of}
use Rattle.ide_graph.proofs.DirectoryLemmas.{All-insert_entry}
use Rattle.ide_graph.proofs.directory.Directory.add.Goals as goal

pub invariant_of-self-in_ok-insert : goal.invariant_of-self-in_ok-insert
invariant_of-self-in_ok-insert c =
    rw c.in_ok-insert.ensures.entries
    (All-insert_entry _ (λ index. index < c.self.inside.procedure_count) _ _ _ c.self.invariant
    (subst (λ d. c.args.index < d.count) (sym c.self.view_is) c.requires))

pub returns-in_ok-insert-clause-added : goal.returns-in_ok-insert-clause-added
returns-in_ok-insert-clause-added c =
    let name = c.args.name.now in
    let entries = c.self.inside.indices.entries in
    let has_none : is_some (lookup (λ k. bytes_eq name k.items) entries) ≡ false = sym c.contains_key.ensures ∙ cc in
    let same = c.in_ok-to_vec.ensures.items_if_clones_equal (λ x y h. h) in
    rw c.in_ok-insert.ensures.entries
    (inserted (λ v. v.items) entries c.in_ok-to_vec.field-0 name same c.args.index has_none
    ∙ ap (λ d. with_place d.procedures name c.args.index) c.self.view_is)

pub returns-else-not-contains_key-clause-added : goal.returns-else-not-contains_key-clause-added
returns-else-not-contains_key-clause-added c =
    let name = c.args.name.now in
    let entries = c.self.inside.indices.entries in
    let has_one : is_some (lookup (λ k. bytes_eq name k.items) entries) ≡ true = sym c.contains_key.ensures ∙ cc in
    let stood : places_of (λ v. v.items) entries ≡ c.args.self.now.procedures = ap (λ d. d.procedures) c.self.view_is in
    sym stood ∙ kept (λ v. v.items) entries name c.args.index has_one ∙ ap (λ places. with_place places name c.args.index) stood

use Rattle.std.proofs.Common.{◌≡◌, List, ℕ, true, false, is_some, ◌∙◌, sym, ap}
use Rattle.std.specs.Map.{lookup}
use Rattle.std.specs.Str.{bytes_eq}
use Rattle.ide_text.specs.Places.{with_place}
use Rattle.ide_text.proofs.NameLists.{inserted, kept}
use Rattle.ide_text.proofs.places.Places.add.Goals as goal

pub returns-in_ok-insert-clause-added : goal.returns-in_ok-insert-clause-added
returns-in_ok-insert-clause-added g c =
    let name = c.args.name.now in
    let entries = c.self.inside.firsts.entries in
    let has_none : is_some (lookup (λ k. bytes_eq name k.now) entries) ≡ false =
    ap (λ (n : List ℕ). is_some (lookup (λ k. bytes_eq n k.now) entries)) (sym c.as_bytes-name.ensures.value) ∙ sym c.contains_key.ensures ∙ cc in
    rw c.in_ok-insert.ensures.entries
    (inserted (λ k. k.now) entries c.as_bytes-name.result name c.as_bytes-name.ensures.value c.args.place has_none
    ∙ ap (λ places. with_place places name c.args.place) c.self.view_is)

pub returns-else-not-contains_key-clause-added : goal.returns-else-not-contains_key-clause-added
returns-else-not-contains_key-clause-added g c =
    let name = c.args.name.now in
    let entries = c.self.inside.firsts.entries in
    let has_one : is_some (lookup (λ k. bytes_eq name k.now) entries) ≡ true =
    ap (λ (n : List ℕ). is_some (lookup (λ k. bytes_eq n k.now) entries)) (sym c.as_bytes-name.ensures.value) ∙ sym c.contains_key.ensures ∙ cc in
    sym c.self.view_is ∙ kept (λ k. k.now) entries name c.args.place has_one ∙ ap (λ places. with_place places name c.args.place) c.self.view_is

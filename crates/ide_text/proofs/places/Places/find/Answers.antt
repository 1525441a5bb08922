use Rattle.std.proofs.Common.{List, ℕ, ◌∙◌, ap}
use Rattle.std.specs.Map.{lookup}
use Rattle.std.specs.Str.{bytes_eq}
use Rattle.ide_text.specs.Places.{place_of}
use Rattle.ide_text.proofs.NameLists.{place_of-entries}
use Rattle.ide_text.proofs.places.Places.find.Goals as goal

pub returns : goal.returns
returns g c =
    let entries = c.self.inside.firsts.entries in
    c.copied.ensures ∙ c.get.ensures.value
    ∙ ap (λ (name : List ℕ). lookup (λ k. bytes_eq name k.now) entries) c.as_bytes.ensures.value
    ∙ place_of-entries (λ k. k.now) entries c.args.name.now ∙ ap (λ places. place_of places c.args.name.now) c.self.view_is

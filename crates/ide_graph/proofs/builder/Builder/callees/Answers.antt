use Rattle.std.proofs.Common.{◌≡◌, ℕ, ◌<◌, ◌∙◌, ◌++◌, ◌∷◌, [], List, Option, Some, sym, ap}
use Rattle.std.specs.List.{filter_map}
use Rattle.std.proofs.lemmas.List.{take_all}
use Rattle.std.proofs.lemmas.List.Elements.{All-push}
use Rattle.std.proofs.lemmas.List.Filters.{dedup_is, All-dedup}
use Rattle.std.proofs.lemmas.List.Sorted.{All-permutation}
use Rattle.ide_graph.specs.Building.{procedure_count}
use Rattle.ide_graph.specs.Named.{procedure_of_name}
use Rattle.ide_graph.proofs.CalleeLemmas.{callees_listed, kept_more_some, kept_more_none}
use Rattle.ide_graph.proofs.builder.Builder.callees.Goals.{in-Some+in_ok-push, in_default}
use Rattle.ide_graph.proofs.builder.Builder.callees.Goals as goal

pub returns-clause-callees : goal.returns-clause-callees
returns-clause-callees c =
    let P : ℕ → Type 0 = λ procedure. procedure < procedure_count c.args.self.now in
    rw (dedup_is _ _ _ c.dedup.ensures.filtered)
    (All-dedup _ P _ (All-permutation P _ _ c.sort_unstable.ensures.permutation c.loop-name.invariant.known))

pub returns-clause-exact : goal.returns-clause-exact
returns-clause-exact c = λ p is.
    let found = c.loop-name.invariant.found ∙ ap (filter_map (procedure_of_name c.args.self.now.directory.now.procedures)) (take_all c.loop-name.name-index c.args.names.now c.loop-name-test.false) in
    rw (dedup_is _ _ _ c.dedup.ensures.filtered)
    (callees_listed p c.args.self.now is c.args.names.now c.loop-name.callees.items c.sort_unstable.new.self.items found c.sort_unstable.ensures.permutation c.sort_unstable.ensures.sorted)

pub loop-name-preserved : goal.loop-name-preserved
loop-name-preserved c =
    let h : List ℕ → Option ℕ = procedure_of_name c.args.self.now.directory.now.procedures in
    let P : ℕ → Type 0 = λ procedure. procedure < procedure_count c.args.self.now in
    let name : h c.name-item.result ≡ h c.as_bytes.result.now = ap h (sym c.as_bytes.ensures.value) in
    elim c.match-find.branch [
      | in-Some+in_ok-push w ↦
          let finds : h c.name-item.result ≡ Some w.in-Some.callee = name ∙ sym w.in-Some.ensures.value in
          record {
            known = rw (w.callees-is, w.in_ok-push.ensures.items) (All-push P c.loop-name.callees.items w.in-Some.callee c.loop-name.invariant.known (rw c.requires.counted at w.in-Some.ensures.within));
            found =
                ap (λ v. v.items) w.callees-is
                ∙ (w.in_ok-push.ensures.items
                ∙ (ap (λ xs. xs ++ w.in-Some.callee ∷ []) c.loop-name.invariant.found
                ∙ sym (kept_more_some h c.args.names.now c.loop-name.name-index c.name-item.result w.in-Some.callee c.loop-name-test.true c.name-item.is finds)));
          }
      | in_default w ↦
          record {
            known = rw w.callees-is c.loop-name.invariant.known;
            found = ap (λ v. v.items) w.callees-is ∙ (c.loop-name.invariant.found ∙ sym (kept_more_none h c.args.names.now c.loop-name.name-index c.name-item.result c.loop-name-test.true c.name-item.is (name ∙ sym w.in_default.ensures.value)));
          }
    ]

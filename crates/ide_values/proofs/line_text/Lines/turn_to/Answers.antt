use Rattle.std.proofs.Common.{ℕ, ◌≡◌, ◌+◌, ◌<◌, ◌∙◌, ap, arith, length, rules, slice_index_or, subst, sym}
use Rattle.std.specs.List.{between}
use Rattle.std.specs.Vec.{with_items}
use Rattle.std.proofs.lemmas.List.{with_items_is}
use Rattle.std.proofs.lemmas.List.Edits.{get_or-between}
use Rattle.ide_values.specs.Lines.{TellSome, TellValues, columns_in}
use Rattle.ide_values.specs.Start.{at_place}
use Rattle.ide_values.proofs.Renewed.{tell_same, tell_with}
use Rattle.ide_values.proofs.line_text.Lines.turn_to.Goals as goal

pub renew-requires-clause-told : goal.renew-requires-clause-told
renew-requires-clause-told g c =
    let self = c.args.self.now in
    let shown = g.L.Lattice.shown in
    let stem = c.deref-4.result.now in
    let some : TellSome shown (columns_in self.facts.items) self.told.items stem c.begin_with.new.text =
    tell_with shown (columns_in self.facts.items) self.told.items c.deref.result.now self.stem.items c.deref-2.result.now c.deref-3.result.now stem
    self.text.items c.deref_mut.result.now c.begin_with.new.text c.requires.told (search rules) (search rules) (search rules) c.begin_with.ensures (search rules) in
    let long : length c.begin_with.new.text ≡ self.text.len = search rules in
    let text : c.deref-6.result.now ≡ c.begin_with.new.text = c.deref-6.ensures.value ∙ with_items_is self.text c.begin_with.new.text long in
    subst (λ fs. TellSome shown (columns_in fs) c.deref_mut-2.result.now stem c.deref-6.result.now) (sym c.deref-5.ensures.value)
    (subst (λ ts. TellSome shown (columns_in self.facts.items) ts stem c.deref-6.result.now) (sym c.deref_mut-2.ensures.value)
    (subst (λ t. TellSome shown (columns_in self.facts.items) self.told.items stem t) (sym text) some))

pub returns-clause-told : goal.returns-clause-told
returns-clause-told g c =
    let self = c.args.self.now in
    let shown = g.L.Lattice.shown in
    let A = g.L.Lattice.algebra in
    let told = c.renew.new.told in
    let given : ℕ → g.row.L.Denot = λ k. slice_index_or c.in-Some.values.now k A.top in
    let value : ℕ → g.row.L.Denot = λ k. at_place A c.args.rows.now (c.args.first + k) in
    let tell : TellValues shown (columns_in c.deref-5.result.now) given told c.deref-4.result.now c.renew.new.out.items = c.in_ok-renew.ensures in
    let part : c.in-Some.values.now ≡ between c.args.first (c.args.first + length self.told.items) c.args.rows.now = search rules in
    let count : length told ≡ length self.told.items = search rules in
    let long : length told ≡ self.told.len = search rules in
    let told_is : (with_items self.told told).items ≡ told = with_items_is self.told told long in
    let text : c.swap-2.new.x.items ≡ c.renew.new.out.items = search rules in
    let stem : c.swap.new.x.items ≡ c.deref-4.result.now = search rules in
    let same : (k : ℕ) → k < length told → given k ≡ value k =
    λ k within. ap (λ vs. slice_index_or vs k A.top) part ∙ get_or-between c.args.rows.now c.args.first (c.args.first + length self.told.items) k A.top (omega (arith, within, count)) in
    let all : TellValues shown (columns_in self.facts.items) value told c.deref-4.result.now c.renew.new.out.items =
    tell_same shown (columns_in self.facts.items) given value told c.deref-4.result.now c.renew.new.out.items
    (subst (λ fs. TellValues shown (columns_in fs) given told c.deref-4.result.now c.renew.new.out.items) c.deref-5.ensures.value tell) same in
    record {
      stem = search rules;
      tell =
          subst (λ ts. TellValues shown (columns_in self.facts.items) value ts c.swap.new.x.items c.swap-2.new.x.items) (sym told_is)
          (subst (λ s. TellValues shown (columns_in self.facts.items) value told s c.swap-2.new.x.items) (sym stem)
          (subst (λ t. TellValues shown (columns_in self.facts.items) value told c.deref-4.result.now t) (sym text) all));
    }

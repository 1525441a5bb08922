use Rattle.std.proofs.Common.{◌≡◌, ◌<◌, ◌∙◌, ap, arith, get_or, length, refl, set, sym, true≢false}
use Rattle.std.proofs.lemmas.List.{set-get_or}
use Rattle.ide_values.proofs.Falling.{falls_at}
use Rattle.ide_values.proofs.passes.Starts.lower.Goals as goal

pub returns-then-eq-clause-lowered : goal.returns-then-eq-clause-lowered
returns-then-eq-clause-lowered g c =
    let old : c.value_at_place-old.result ≡ get_or c.args.self.now.values.items c.args.place g.P.L.Lattice.algebra.top =
    c.value_at_place-old.ensures ∙ ap (λ xs. get_or xs c.args.place g.P.L.Lattice.algebra.top) c.as_slice.ensures.value in
    let equal : c.meet-new.result ≡ c.value_at_place-old.result =
    g.met.P.L.Lattice.exact c.meet-new.result c.value_at_place-old.result (sym c.eq.ensures ∙ c.if-eq.true) in
    let unchanged : g.P.L.Lattice.algebra.meet (get_or c.args.self.now.values.items c.args.place g.P.L.Lattice.algebra.top) c.args.value
    ≡ get_or c.args.self.now.values.items c.args.place g.P.L.Lattice.algebra.top =
    ap (λ v. g.P.L.Lattice.algebra.meet v c.args.value) (sym old) ∙ sym c.meet-new.ensures ∙ equal ∙ old in
    sym (ap (set c.args.self.now.values.items c.args.place) unchanged
    ∙ set-get_or c.args.self.now.values.items c.args.place g.P.L.Lattice.algebra.top)

pub returns-clause-falls : goal.returns-clause-falls
returns-clause-falls g c =
    let old : c.value_at_place-old.result ≡ get_or c.args.self.now.values.items c.args.place g.P.L.Lattice.algebra.top =
    c.value_at_place-old.ensures ∙ ap (λ xs. get_or xs c.args.place g.P.L.Lattice.algebra.top) c.as_slice.ensures.value in
    let differs : c.meet-new.result ≡ c.value_at_place-old.result → ⊥ =
    λ same. true≢false (sym (ap (λ v. g.P.L.PartialEq.eq v c.value_at_place-old.result) same ∙ g.met.P.L.Eq.laws.refl c.value_at_place-old.result) ∙ (sym c.eq.ensures ∙ c.if-eq.false)) in
    let falls : g.P.L.Lattice.algebra.rank (g.P.L.Lattice.algebra.meet c.value_at_place-old.result c.args.value) < g.P.L.Lattice.algebra.rank c.value_at_place-old.result =
    g.met.P.L.Lattice.lawful.rank_falls c.value_at_place-old.result c.args.value c.proper-old_is_proper.ensures.proper c.proper-value_is_proper.ensures.proper (λ same. differs (c.meet-new.ensures ∙ same)) in
    let less : g.P.L.Lattice.algebra.rank c.meet-new.result < g.P.L.Lattice.algebra.rank (get_or c.args.self.now.values.items c.args.place g.P.L.Lattice.algebra.top) =
    omega (arith, falls, ap g.P.L.Lattice.algebra.rank c.meet-new.ensures, ap g.P.L.Lattice.algebra.rank old) in
    let within : c.args.place < length c.args.self.now.values.items = omega arith in
    falls_at g.P.L.Lattice.algebra c.args.self.now _ c.args.place c.meet-new.result
    (ap (λ v. set v.items c.args.place c.meet-new.result) c.in_ok-wait.ensures.values) refl within less c.in_ok-wait.ensures.waits

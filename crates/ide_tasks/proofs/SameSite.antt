-- When two sites are the same, they are equal.
use Rattle.std.proofs.Common.{◌≡◌, ◌↔◌, ℕ, Bool, true, ◌&&◌, Some, None, nat_eq, refl, ap, ◌∙◌, arith}
use Rattle.std.proofs.lemmas.Bool.Decides.{nat_tests}
use Rattle.ide_wire.specs.Listing.{IsExact, lists_exact}
use Rattle.ide_graph.specs.declared.edge.EdgeKind.TheVariants as kinds
use Rattle.ide_graph.specs.declared.edge.Effect.TheVariants.{Nothing, Number, Copy, Sum, Difference, Unknown, Mix, Enter}
use Rattle.ide_graph.specs.declared.site.Site.{Site}
use Rattle.ide_graph.specs.declared.site.Site.TheVariants.{Normal, Call, Exit}
use Rattle.ide_graph.specs.contracts.edge.EffectPartialEq.TheImpl.{ghosts as effect_eq}
use Rattle.ide_graph.specs.contracts.edge.EdgeKindPartialEq.TheImpl.{ghosts as kind_eq}
use Rattle.ide_graph.specs.contracts.edge.EdgeDataPartialEq.TheImpl.{ghosts as edge_eq}
use Rattle.ide_graph.specs.contracts.site.CallerPartialEq.TheImpl.{ghosts as caller_eq}
use Rattle.ide_graph.specs.contracts.site.SitePartialEq.TheImpl.{ghosts as site_eq}
use Rattle.ide_graph.specs.contracts.site.SiteEq.TheImpl.Laws.{laws-law}
use Rattle.ide_tasks.proofs.Same.{number_exact, both_left, both_right, told}

effect_exact : IsExact effect_eq.eq
effect_exact Nothing Nothing h = refl
effect_exact Nothing y h = cc (h)
effect_exact (Number t n) (Number u m) h = grind (arith, nat_tests)
effect_exact (Number t n) y h = cc (h)
effect_exact (Copy t s) (Copy u r) h = grind (arith, nat_tests)
effect_exact (Copy t s) y h = cc (h)
effect_exact (Sum t s n) (Sum u r m) h = grind (arith, nat_tests)
effect_exact (Sum t s n) y h = cc (h)
effect_exact (Difference t s n) (Difference u r m) h = grind (arith, nat_tests)
effect_exact (Difference t s n) y h = cc (h)
effect_exact (Unknown t) (Unknown u) h = grind (arith, nat_tests)
effect_exact (Unknown t) y h = cc (h)
effect_exact (Mix t s r) (Mix u v w) h = grind (arith, nat_tests)
effect_exact (Mix t s r) y h = cc (h)
effect_exact (Enter a b) (Enter c d) h = grind (arith, nat_tests)
effect_exact (Enter a b) y h = cc (h)

pair_exact : IsExact {T = ℕ × ℕ} (λ x y. nat_eq x.0 y.0 && nat_eq x.1 y.1)
pair_exact x y h =
    let first : x.0 ≡ y.0 = number_exact x.0 y.0 (both_left (nat_eq x.0 y.0) (nat_eq x.1 y.1) h) in
    let second : x.1 ≡ y.1 = number_exact x.1 y.1 (both_right (nat_eq x.0 y.0) (nat_eq x.1 y.1) h) in
    ap (λ (n : ℕ). (n, x.1)) first ∙ ap (λ (n : ℕ). (y.0, n)) second

kind_exact : IsExact kind_eq.eq
kind_exact (kinds.Normal e) (kinds.Normal f) h = ap kinds.Normal (effect_exact e f h)
kind_exact (kinds.Normal e) y h = cc (h)
kind_exact (kinds.Call xs) (kinds.Call ys) h = ap kinds.Call (lists_exact (λ x y. nat_eq x.0 y.0 && nat_eq x.1 y.1) pair_exact xs ys h)
kind_exact (kinds.Call xs) y h = cc (h)
kind_exact (kinds.Return None) (kinds.Return None) h = refl
kind_exact (kinds.Return None) (kinds.Return (Some y)) h = cc (h)
kind_exact (kinds.Return (Some x)) (kinds.Return None) h = cc (h)
kind_exact (kinds.Return (Some x)) (kinds.Return (Some y)) h = ap (λ (n : ℕ). kinds.Return (Some n)) (number_exact x y h)
kind_exact (kinds.Return x) y h = cc (h)
kind_exact (kinds.CallToReturn None) (kinds.CallToReturn None) h = refl
kind_exact (kinds.CallToReturn None) (kinds.CallToReturn (Some y)) h = cc (h)
kind_exact (kinds.CallToReturn (Some x)) (kinds.CallToReturn None) h = cc (h)
kind_exact (kinds.CallToReturn (Some x)) (kinds.CallToReturn (Some y)) h = ap (λ (n : ℕ). kinds.CallToReturn (Some n)) (number_exact x y h)
kind_exact (kinds.CallToReturn x) y h = cc (h)

edge_exact : IsExact edge_eq.eq
edge_exact x y h =
    let last = nat_eq x.facts y.facts && kind_eq.eq x.kind y.kind in
    let from_result = nat_eq x.result y.result && last in
    let rest : from_result ≡ true = both_right (nat_eq x.end y.end) from_result h in
    let facts_and_kind : last ≡ true = both_right (nat_eq x.result y.result) last rest in
    let end : x.end ≡ y.end = number_exact x.end y.end (both_left (nat_eq x.end y.end) from_result h) in
    let result : x.result ≡ y.result = number_exact x.result y.result (both_left (nat_eq x.result y.result) last rest) in
    let facts : x.facts ≡ y.facts = number_exact x.facts y.facts (both_left (nat_eq x.facts y.facts) (kind_eq.eq x.kind y.kind) facts_and_kind) in
    let kind : x.kind ≡ y.kind = kind_exact x.kind y.kind (both_right (nat_eq x.facts y.facts) (kind_eq.eq x.kind y.kind) facts_and_kind) in
    ap (λ (n : ℕ). record x { end = n }) end
    ∙ ap (λ (n : ℕ). record x { end = y.end; result = n }) result
    ∙ ap (λ (n : ℕ). record x { end = y.end; result = y.result; facts = n }) facts
    ∙ ap (λ k. record y { kind = k }) kind

caller_exact : IsExact caller_eq.eq
caller_exact x y h =
    let edges = edge_eq.eq x.call y.call && edge_eq.eq x.back y.back in
    let rest : edges ≡ true = both_right (nat_eq x.call_node y.call_node) edges h in
    let node : x.call_node ≡ y.call_node = number_exact x.call_node y.call_node (both_left (nat_eq x.call_node y.call_node) edges h) in
    let call : x.call ≡ y.call = edge_exact x.call y.call (both_left (edge_eq.eq x.call y.call) (edge_eq.eq x.back y.back) rest) in
    let back : x.back ≡ y.back = edge_exact x.back y.back (both_right (edge_eq.eq x.call y.call) (edge_eq.eq x.back y.back) rest) in
    ap (λ (n : ℕ). record x { call_node = n }) node
    ∙ ap (λ e. record x { call_node = y.call_node; call = e }) call
    ∙ ap (λ e. record y { back = e }) back

site_exact : IsExact site_eq.eq
site_exact (Normal xs) (Normal ys) h = ap Normal (lists_exact edge_eq.eq edge_exact xs ys h)
site_exact (Normal xs) t h = cc (h)
site_exact (Call xs e) (Call ys d) h =
    let calls : xs ≡ ys = lists_exact edge_eq.eq edge_exact xs ys (both_left _ (edge_eq.eq e d) h) in
    let along : e ≡ d = edge_exact e d (both_right _ (edge_eq.eq e d) h) in
    cc
site_exact (Call xs e) t h = cc (h)
site_exact (Exit r xs) (Exit s ys) h =
    let start : r ≡ s = number_exact r s (both_left (nat_eq r s) _ h) in
    let callers : xs ≡ ys = lists_exact caller_eq.eq caller_exact xs ys (both_right (nat_eq r s) _ h) in
    cc
site_exact (Exit r xs) t h = cc (h)

-- the code's `==` on sites tells whether they are equal
pub sites_told : (answer : Bool) (s t : Site) → answer ≡ site_eq.eq s t → (answer ≡ true) ↔ (s ≡ t)
sites_told answer s t = told site_eq.eq site_exact laws-law.refl answer s t

use Rattle.std.proofs.Common.{◌≡◌, ◌+◌, ◌-◌, ◌*◌, ◌<◌, ◌≤◌, ◌∷◌, ◌++◌, ℕ, [], false, ap, sym, ◌∙◌, refl, arith, ⊎_elim}
use Rattle.std.specs.Prelude.{nat_eq}
use Rattle.std.proofs.lemmas.Bool.{cases_lt}
use Rattle.std.proofs.lemmas.Bool.Decides.{nat_tests}
use Rattle.std.proofs.lemmas.List.{append-nil}
use Rattle.ide_pages.specs.Pages.{number_in}
use Rattle.ide_image.proofs.Blocks.{block_from, cells-over, more-read}
use Rattle.ide_image.proofs.indexed.add_block.Goals as goal
use Rattle.ide_image.proofs.indexed.add_block.Goals.{then-number-ne0, else-number-ne0}

pub loop-cell-init : goal.loop-cell-init
loop-cell-init g c =
    let numbers = c.args.places.now in
    let first : ℕ = 64 * c.args.listed.1 in
    let cell = c.alike_to-cell.result in
    let block = block_from g.F.EdgeFn.edge.all_top c.args.functions.now.items numbers c.args.listed in
    let none : first - first ≡ 0 = omega arith in
    let all : first + 64 - first ≡ 64 = omega arith in
    let over =
    cells-over g.F.EdgeFn.edge.all_top c.args.functions.now.items numbers c.args.listed first refl first cell (omega arith) c.alike_to-cell.ensures.from c.alike_to-cell.ensures.within
    (λ n least less. (c.alike_to-cell.ensures.alike n least less).0) in
    record {
      first = refl;
      from = c.alike_to-cell.ensures.from;
      to = c.alike_to-cell.ensures.within;
      listed =
          ap (λ items. items ++ block (cell - first) (first + 64 - cell)) c.in_ok-reserve.ensures.items
          ∙ ap (λ xs. c.args.partners.now.items ++ xs) (sym over ∙ ap (λ k. block k (first + 64 - first)) none ∙ ap (block 0) all);
      room = omega (arith, c.alike_to-cell.ensures.from, c.in_ok-reserve.ensures.ok, c.in_ok-reserve.ensures.capacity);
    }

pub loop-cell-preserved : goal.loop-cell-preserved
loop-cell-preserved g c =
    let top = g.F.EdgeFn.edge.all_top in
    let functions = c.args.functions.now.items in
    let numbers = c.args.places.now in
    let first : ℕ = 64 * c.args.listed.1 in
    let cell = c.loop-cell.cell in
    let next = c.alike_to-cell-in-loop-cell.result in
    let before = c.loop-cell.invariant in
    let up : cell < next = let from = c.alike_to-cell-in-loop-cell.ensures.from in omega (arith, from) in
    let to = c.alike_to-cell-in-loop-cell.ensures.within in
    let number = c.number_in-number.ensures.number in
    let behind : (n : ℕ) → cell + 1 ≤ n → n < next → number_in numbers n ≡ 0 = λ n least less. (c.alike_to-cell-in-loop-cell.ensures.alike n least less).0 in
    elim c.if-number-ne0.branch [
      | then-number-ne0 w ↦
          (let some : nat_eq c.number_in-number.result 0 ≡ false = grind (arith, nat_tests, w.if-number-ne0.true) in
          rw (w.partners-is)
          (record {
            first = refl;
            from = omega (arith, before.from, up);
            to = to;
            listed =
                ap (λ items. items ++ block_from top functions numbers c.args.listed (next - first) (first + 64 - next)) (w.push_reserved.ensures.items ∙ ap (λ p. c.loop-cell.partners.items ++ p ∷ []) w.partner_at.ensures)
                ∙ more-read top functions numbers c.args.listed first refl c.loop-cell.partners.items cell next c.number_in-number.result before.from up to number some behind
                ∙ before.listed;
            room = omega (arith, before.room, up, to, w.push_reserved.ensures.len, w.push_reserved.ensures.capacity);
          }))
      | else-number-ne0 w ↦
          (let zero : c.number_in-number.result ≡ 0 = grind (arith, nat_tests, w.if-number-ne0.false) in
          rw (w.partners-is)
          (record {
            first = refl;
            from = omega (arith, before.from, up);
            to = to;
            listed =
                ap (λ xs. c.loop-cell.partners.items ++ xs)
                (sym (cells-over top functions numbers c.args.listed first refl cell next before.from (omega (arith, up)) to
                (λ n least less.
                ⊎_elim (λ l. behind n (omega (arith, l)) less) (λ r. let same : cell ≡ n = omega (arith, r, least) in ap (number_in numbers) (sym same) ∙ sym number ∙ zero) (cases_lt cell n))))
                ∙ before.listed;
            room = omega (arith, before.room, up, to);
          }))
    ]

pub returns : goal.returns
returns g c =
    let cell = c.loop-cell.cell in
    let first : ℕ = 64 * c.args.listed.1 in
    let block = block_from g.F.EdgeFn.edge.all_top c.args.functions.now.items c.args.places.now c.args.listed in
    let none : first + 64 - cell ≡ 0 = omega (arith, c.loop-cell-test.false) in
    sym (append-nil c.loop-cell.partners.items) ∙ ap (λ k. c.loop-cell.partners.items ++ block (cell - first) k) (sym none) ∙ c.loop-cell.invariant.listed

use Rattle.std.proofs.Common.{◌≡◌, refl, arith}
use Rattle.ide_graph.proofs.scope.Scope.assign.Goals as goal

pub returns-in-Number : goal.returns-in-Number
returns-in-Number c = λ p index q scope all.
    let known = rw c.in-Number.is at all in
    let target = known c.args.target.now (0, omega arith, refl) in
    let t : c.fact-target.result ≡ target.0 = c.fact-target.ensures p index q target.0 scope target.1 in
    (target.0, target.1, rw c.in-Number.is cc)

pub returns-in-Copy : goal.returns-in-Copy
returns-in-Copy c = λ p index q scope all.
    let known = rw c.in-Copy.is at all in
    let target = known c.args.target.now (0, omega arith, refl) in
    let source = known c.in-Copy.source (1, omega arith, refl) in
    let t : c.fact-target.result ≡ target.0 = c.fact-target.ensures p index q target.0 scope target.1 in
    let s : c.fact.result ≡ source.0 = c.fact.ensures p index q source.0 scope source.1 in
    (target.0, target.1, rw c.in-Copy.is (source.0, source.1, cc))

pub returns-in-Sum : goal.returns-in-Sum
returns-in-Sum c = λ p index q scope all.
    let known = rw c.in-Sum.is at all in
    let target = known c.args.target.now (0, omega arith, refl) in
    let source = known c.in-Sum.source (1, omega arith, refl) in
    let t : c.fact-target.result ≡ target.0 = c.fact-target.ensures p index q target.0 scope target.1 in
    let s : c.fact-in-Sum.result ≡ source.0 = c.fact-in-Sum.ensures p index q source.0 scope source.1 in
    (target.0, target.1, rw c.in-Sum.is (source.0, source.1, cc))

pub returns-in-Difference : goal.returns-in-Difference
returns-in-Difference c = λ p index q scope all.
    let known = rw c.in-Difference.is at all in
    let target = known c.args.target.now (0, omega arith, refl) in
    let source = known c.in-Difference.source (1, omega arith, refl) in
    let t : c.fact-target.result ≡ target.0 = c.fact-target.ensures p index q target.0 scope target.1 in
    let s : c.fact-in-Difference.result ≡ source.0 = c.fact-in-Difference.ensures p index q source.0 scope source.1 in
    (target.0, target.1, rw c.in-Difference.is (source.0, source.1, cc))

pub returns-in-Unknown : goal.returns-in-Unknown
returns-in-Unknown c = λ p index q scope all.
    let known = rw c.in-Unknown.is at all in
    let target = known c.args.target.now (0, omega arith, refl) in
    let t : c.fact-target.result ≡ target.0 = c.fact-target.ensures p index q target.0 scope target.1 in
    (target.0, target.1, rw c.in-Unknown.is cc)

pub returns-in-Mix : goal.returns-in-Mix
returns-in-Mix c = λ p index q scope all.
    let known = rw c.in-Mix.is at all in
    let target = known c.args.target.now (0, omega arith, refl) in
    let first = known c.in-Mix.first (1, omega arith, refl) in
    let second = known c.in-Mix.second (2, omega arith, refl) in
    let t : c.fact-target.result ≡ target.0 = c.fact-target.ensures p index q target.0 scope target.1 in
    let f : c.fact-in-Mix.result ≡ first.0 = c.fact-in-Mix.ensures p index q first.0 scope first.1 in
    let s : c.fact-in-Mix-2.result ≡ second.0 = c.fact-in-Mix-2.ensures p index q second.0 scope second.1 in
    (target.0, target.1, rw c.in-Mix.is (first.0, second.0, first.1, second.1, cc))

use Rattle.std.proofs.Common.{◌≡◌, ◌↔◌, Bool, true, ap, rules}
use Rattle.ide_tasks.specs.Task.{TaskData}
use Rattle.ide_tasks.proofs.task.Task.is_same.Goals.{then-eq, else-eq, then-eq-2, else-eq-2}
use Rattle.ide_tasks.proofs.task.Task.is_same.Goals as goal

-- tasks with all else the same are the same where their sites are
by_site : {F : Type 0} (x y : TaskData F) (answer : Bool) → x.key ≡ y.key → x.function ≡ y.function → x.partners ≡ y.partners
    → (answer ≡ true) ↔ (x.site ≡ y.site) → (answer ≡ true) ↔ (x ≡ y)
by_site x y answer key function partners told =
    (λ yes i. record { key = key i; function = function i; site = told.0 yes i; partners = partners i }, λ same. told.1 (ap (λ t. t.site) same))

pub returns-then-is_same_partners : goal.returns-then-is_same_partners
returns-then-is_same_partners g c =
    elim c.if-eq-2.branch [
      | else-eq-2 w ↦ let none : ⊥ = cc (c.if-is_same_partners.true, w.value-is, w.if-eq-2.false) in absurd none
      | then-eq-2 w ↦ elim c.if-eq.branch [
        | else-eq v ↦ let none : ⊥ = cc (w.if-eq-2.true, v.value-is, v.if-eq.false) in absurd none
        | then-eq v ↦
            let key : c.args.self.now.key ≡ c.args.other.now.key = search rules in
            let test : g.P.F.PartialEq.eq c.args.self.now.function c.args.other.now.function ≡ true = search rules in
            let partners : c.args.self.now.partners ≡ c.args.other.now.partners = search rules in
            let site : (c.is_same_site.result ≡ true) ↔ (c.args.self.now.site ≡ c.args.other.now.site) = search rules in
            by_site c.args.self.now c.args.other.now c.is_same_site.result key (g.met.P.F.EdgeFn.exact c.args.self.now.function c.args.other.now.function test) partners site
      ]
    ]

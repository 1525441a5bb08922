use Rattle.std.proofs.Common.{◌+◌, refl, Some, sym, ap, ◌∙◌, ◌≡◌, [], ◌∷◌, ◌++◌, false, cond, length, length-append}
use Rattle.std.specs.Prelude.{nat_eq, position}
use Rattle.std.specs.List.{list_any}
use Rattle.std.proofs.lemmas.Bool.{eq-eqb}
use Rattle.ide_pages.specs.Rows.{row_in}
use Rattle.ide_pages.proofs.Places.{position-last, position-none}
use Rattle.ide_pages.proofs.RowsByNumber.{rows-pushed}
use Rattle.ide_pages.proofs.rows.Rows.make_row.Goals as goal
use Rattle.ide_pages.proofs.rows.Rows.make_row.Goals.{After-push_reserved}

-- the number is new
is-new : (c : After-push_reserved) → list_any (nat_eq c.args.number) c.self.inside.numbers.keys ≡ false
is-new c = position-none (nat_eq c.args.number) c.self.inside.numbers.keys (rw (← c.self.view_is) at (sym c.in_default.ensures.index))

-- so it is the last number, and its row the last row
numbers-are : (c : After-push_reserved) → c.insert.new.self.keys ≡ c.self.inside.numbers.keys ++ c.args.number ∷ []
numbers-are c =
    let keys = c.self.inside.numbers.keys in
    c.in_ok-insert.ensures.keys ∙ ap (λ b. cond b keys (keys ++ c.args.number ∷ [])) (is-new c)

rows-are : (c : After-push_reserved) → c.push_reserved.new.self.items ≡ c.self.inside.rows.items ++ [] ∷ []
rows-are c =
    c.push_reserved.ensures.items ∙ ap (λ rows. rows ++ c.new.result ∷ []) c.in_ok-reserve.ensures.items
    ∙ ap (λ row. c.self.inside.rows.items ++ row ∷ []) c.new.ensures

pub invariant_of-self-2 : goal.invariant_of-self-2
invariant_of-self-2 c =
    let i = c.self.inside in
    ap length (rows-are c) ∙ length-append i.rows.items ([] ∷ []) ∙ ap (λ n. n + 1) c.self.invariant
    ∙ sym (ap length (numbers-are c) ∙ length-append i.numbers.keys (c.args.number ∷ []))

pub returns-clause-index : goal.returns-clause-index
returns-clause-index c =
    let i = c.self.inside in
    ap (position (nat_eq c.args.number)) (numbers-are c)
    ∙ position-last (nat_eq c.args.number) i.numbers.keys c.args.number (is-new c) (eq-eqb c.args.number c.args.number refl)
    ∙ ap Some (sym (c.len-index.ensures ∙ i.rows.ok.0 ∙ c.self.invariant))

pub returns-clause-rows : goal.returns-clause-rows
returns-clause-rows c =
    let i = c.self.inside in
    rw (← c.self.view_is) (λ r.
    ap (λ rows. row_in rows (position (nat_eq r) c.insert.new.self.keys)) (rows-are c)
    ∙ ap (λ numbers. row_in (i.rows.items ++ [] ∷ []) (position (nat_eq r) numbers)) (numbers-are c)
    ∙ rows-pushed i.numbers.keys i.rows.items c.self.invariant c.args.number (is-new c) r)

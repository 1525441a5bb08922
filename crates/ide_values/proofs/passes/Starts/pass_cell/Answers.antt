use Rattle.std.proofs.Common.{◌≡◌, ◌+◌, ◌*◌, Some, sym, ◌∙◌}
use Rattle.ide_image.specs.Tables.{found}
use Rattle.ide_wire.specs.declared.key.Key.TheVariants.{Jump}
use Rattle.ide_values.specs.Pass.{by_entry, stays}
use Rattle.ide_values.proofs.Coming.{goes_by}
use Rattle.ide_values.proofs.Falling.{falls_not}
use Rattle.ide_values.proofs.Nowhere.{leaves_empty, leaves_shown}
use Rattle.ide_values.proofs.Shown.{nothing_shown, shown_behind, shown_is_found}
use Rattle.ide_values.proofs.passes.Starts.pass_cell.Goals as goal

pub returns-in_default-clause-leaves : goal.returns-in_default-clause-leaves
returns-in_default-clause-leaves g c =
    let cell = 64 * c.args.page + c.args.offset in
    leaves_empty g.P.L.Lattice.algebra g.P.F.EdgeFn.edge g.P.Problem.targets c.args.graph.now c.args.tables.now c.args.page c.args.offset c.args.self.now
    (nothing_shown c.args.tables.now cell (sym c.function_in.ensures ∙ c.in_default.is))

pub returns-in_default-clause-comes : goal.returns-in_default-clause-comes
returns-in_default-clause-comes g c = stays

pub returns-in_default-clause-falls : goal.returns-in_default-clause-falls
returns-in_default-clause-falls g c = falls_not g.P.L.Lattice.algebra c.args.self.now

pub returns-clause-leaves : goal.returns-clause-leaves
returns-clause-leaves g c =
    let first = c.args.first in
    leaves_shown g.P.L.Lattice.algebra g.P.F.EdgeFn.edge g.P.Problem.targets c.args.graph.now c.args.tables.now c.args.page c.args.offset
    (Jump (first.node + c.args.offset) first.from first.to) c.in-Some.function c.args.self.now c.pass_by.new.self
    (shown_behind c.args.tables.now c.args.page c.args.offset first.node first.from first.to c.in-Some.function c.requires.first c.requires.within (sym c.function_in.ensures ∙ c.in-Some.is))
    c.in_ok-pass_by.ensures.passes

pub returns-clause-comes : goal.returns-clause-comes
returns-clause-comes g c =
    let first = c.args.first in
    let key = Jump (first.node + c.args.offset) first.from first.to in
    let shows = shown_behind c.args.tables.now c.args.page c.args.offset first.node first.from first.to c.in-Some.function c.requires.first c.requires.within (sym c.function_in.ensures ∙ c.in-Some.is) in
    goes_by (λ values e. by_entry g.P.L.Lattice.algebra g.P.F.EdgeFn.edge c.args.graph.now g.P.Problem.targets values e.0 e.1) (λ e. found c.args.tables.now.table e.0 ≡ Some e.1) stays
    (key, c.in-Some.function) (shown_is_found c.args.tables.now c.cell_count.ensures.shown (64 * c.args.page + c.args.offset) (key, c.in-Some.function) shows) c.in_ok-pass_by.ensures.passes.passed

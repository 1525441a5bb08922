use Rattle.std.proofs.Common.{◌≡◌, ◌∙◌, None, ap, arith, false, true, get_or, length, refl, rules, subst}
use Rattle.std.proofs.lemmas.Result.{err_from_is_err_and}
use Rattle.ide_image.specs.Worklist.{claim_at, is_pending}
use Rattle.ide_steps.proofs.Noted.{remembers-same}
use Rattle.ide_steps.specs.Room.{IsWholeCore}
use Rattle.ide_steps.proofs.Free.{none-claimed}
use Rattle.ide_steps.proofs.States.{handed-on}
use Rattle.ide_wire.specs.declared.refused.Refused.TheVariants.{NoMemory}
use Rattle.ide_store.specs.Draining.{DrainsOff, IsWorkStop, memory_is_wanting}
use Rattle.ide_store.specs.Table.{Analysis, TableData}
use Rattle.ide_store.proofs.Drained.{same_pile, same_tables, unchanged_equal}
use Rattle.ide_store.proofs.Owed.{key_stops, key_works, less_run, off_sealed, off_unchanged}
use Rattle.ide_store.proofs.table.TableHalf.run.Given.{Over}
use Rattle.ide_store.proofs.table.TableHalf.run.Goals as goal

-- the analysis of the store
abbrev kept : (g : Over) → Analysis g.row.P-F.Denot g.row.P-L.Denot
kept g = record {
  lattice = g.P.L.Lattice.algebra;
  functions = g.P.F.EdgeFn.edge;
  targets = g.P.Problem.targets;
  same = g.P.F.PartialEq.eq;
  proper = g.P.F.Wire.proper;
  form = g.P.F.Wire.form;
}

pub returns-in_err-is_lowered-clause-stops : goal.returns-in_err-is_lowered-clause-stops
returns-in_err-is_lowered-clause-stops g c =
    let next = c.requires.owed in
    let whole = subst (λ (table : TableData g.row.P-F.Denot). IsWholeCore table.core) c.self.view_is c.cores_are_whole.ensures in
    let some = c.do_parts.ensures.some in
    key_stops (kept g) c.calls_are_acts.ensures c.args.key c.args.parts.now c.args.self.now whole c.requires.may.free next.waits next.owed
    c.do_parts.new.self some.0 some.1 some.2 (c.do_parts.ensures.kept.free 0)

pub returns-in_err-make_room-clause-stops : goal.returns-in_err-make_room-clause-stops
returns-in_err-make_room-clause-stops g c =
    let next = c.requires.owed in
    let whole = subst (λ (table : TableData g.row.P-F.Denot). IsWholeCore table.core) c.self.view_is c.cores_are_whole.ensures in
    let parts = c.args.parts.now in
    let mid = c.do_parts.new.self in
    let full = c.make_room.new.self in
    let pile = same_pile mid.core full.core c.make_room.ensures.core in
    key_stops (kept g) c.calls_are_acts.ensures c.args.key parts c.args.self.now whole c.requires.may.free next.waits next.owed
    full (length parts) c.in_ok-is_lowered.is_lowered
    (off_sealed (kept g) c.calls_are_acts.ensures c.args.key parts c.args.self.now mid full (length parts) c.in_ok-is_lowered.is_lowered c.in_ok-is_lowered.ensures.all
    c.make_room.ensures.held c.make_room.ensures.core)
    (ap (λ p. claim_at p 0) pile ∙ c.do_parts.ensures.kept.free 0)

pub returns-in_err-settle-clause-stops : goal.returns-in_err-settle-clause-stops
returns-in_err-settle-clause-stops g c =
    let next = c.requires.owed in
    let whole = subst (λ (table : TableData g.row.P-F.Denot). IsWholeCore table.core) c.self.view_is c.cores_are_whole.ensures in
    let parts = c.args.parts.now in
    let start = c.args.self.now in
    let mid = c.do_parts.new.self in
    let full = c.make_room.new.self in
    let new = c.settle.new.self in
    let pile = same_pile mid.core full.core c.make_room.ensures.core in
    let same = unchanged_equal full.core new.core c.in_err-settle.ensures.unchanged in
    key_stops (kept g) c.calls_are_acts.ensures c.args.key parts start whole c.requires.may.free next.waits next.owed
    new (length parts) c.in_ok-is_lowered.is_lowered
    (off_unchanged (kept g) c.calls_are_acts.ensures c.args.key parts start full new (length parts) c.in_ok-is_lowered.is_lowered
    (off_sealed (kept g) c.calls_are_acts.ensures c.args.key parts start mid full (length parts) c.in_ok-is_lowered.is_lowered c.in_ok-is_lowered.ensures.all
    c.make_room.ensures.held c.make_room.ensures.core)
    c.settle.ensures.rest same)
    (same.claims 0 ∙ ap (λ p. claim_at p 0) pile ∙ c.do_parts.ensures.kept.free 0)

-- no part lowered the key itself, and it is taken out
pub returns-in_ok-settle-clause-works : goal.returns-in_ok-settle-clause-works
returns-in_ok-settle-clause-works g c =
    let next = c.requires.owed in
    let whole = subst (λ (table : TableData g.row.P-F.Denot). IsWholeCore table.core) c.self.view_is c.cores_are_whole.ensures in
    let key = c.args.key in
    let parts = c.args.parts.now in
    let start = c.args.self.now in
    let mid = c.do_parts.new.self in
    let full = c.make_room.new.self in
    let pile = same_pile mid.core full.core c.make_room.ensures.core in
    let unlowered : c.in_ok-is_lowered.is_lowered ≡ false = search rules in
    let off = off_sealed (kept g) c.calls_are_acts.ensures key parts start mid full (length parts) c.in_ok-is_lowered.is_lowered c.in_ok-is_lowered.ensures.all
    c.make_room.ensures.held c.make_room.ensures.core in
    key_works (kept g) c.calls_are_acts.ensures key parts start whole c.requires.may.free next.waits next.owed full (length parts) false
    (subst (λ b. DrainsOff (kept g) key parts (length parts) b start full) unlowered off)
    (ap (λ p. claim_at p 0) pile ∙ c.do_parts.ensures.kept.free 0)
    c.settle.new.self (omega arith) c.settle.ensures.noting c.settle.ensures.rest c.settle.ensures.stays c.settle.ensures.remembers
    (λ h. ap (λ claims. get_or claims h None) c.settle.ensures.claims) (ap (λ p. is_pending p key) pile ∙ c.do_parts.ensures.kept.waits) c.settle.ensures.table
    c.in_ok-settle.ensures.settled.pending

pub returns-in_ok-settle-clause-stops : goal.returns-in_ok-settle-clause-stops
returns-in_ok-settle-clause-stops g c = (1, 0, omega arith, returns-in_ok-settle-clause-works g c)

pub returns-in_ok-settle-clause-falls : goal.returns-in_ok-settle-clause-falls
returns-in_ok-settle-clause-falls g c =
    let mid = c.do_parts.new.self in
    let full = c.make_room.new.self in
    let pending = ap (λ p. length p.pending) (same_pile mid.core full.core c.make_room.ensures.core) in
    let one = c.in_ok-settle.ensures.settled.count in
    less_run (kept g) c.args.self.now.core mid.core c.settle.new.self.core c.in_ok-is_lowered.is_lowered c.in_ok-is_lowered.ensures.all.less
    (c.settle.ensures.table ∙ same_tables mid.core full.core c.make_room.ensures.core) (omega (arith, one, pending))

-- a part lowered it, and it stays pending
pub returns-else-not-is_lowered-clause-works : goal.returns-else-not-is_lowered-clause-works
returns-else-not-is_lowered-clause-works g c =
    let next = c.requires.owed in
    let whole = subst (λ (table : TableData g.row.P-F.Denot). IsWholeCore table.core) c.self.view_is c.cores_are_whole.ensures in
    let key = c.args.key in
    let parts = c.args.parts.now in
    let start = c.args.self.now in
    let mid = c.do_parts.new.self in
    let lowered : c.in_ok-is_lowered.is_lowered ≡ true = search rules in
    key_works (kept g) c.calls_are_acts.ensures key parts start whole c.requires.may.free next.waits next.owed mid (length parts) true
    (subst (λ b. DrainsOff (kept g) key parts (length parts) b start mid) lowered c.in_ok-is_lowered.ensures.all)
    (c.do_parts.ensures.kept.free 0)
    mid (omega arith) c.do_parts.ensures.noting (record { version = refl; sealed = refl; waiting = refl; failed = refl }) (record { program = refl; graph = refl; roots = refl })
    (remembers-same _ _ refl refl refl) (λ h. refl) c.do_parts.ensures.kept.waits refl (λ q. refl)

pub returns-else-not-is_lowered-clause-stops : goal.returns-else-not-is_lowered-clause-stops
returns-else-not-is_lowered-clause-stops g c = (1, 0, omega arith, returns-else-not-is_lowered-clause-works g c)

pub returns-else-not-is_lowered-clause-falls : goal.returns-else-not-is_lowered-clause-falls
returns-else-not-is_lowered-clause-falls g c =
    let mid = c.do_parts.new.self in
    let lowered : c.in_ok-is_lowered.is_lowered ≡ true = search rules in
    less_run (kept g) c.args.self.now.core mid.core mid.core true (subst (λ b. DrainsOff (kept g) c.args.key c.args.parts.now (length c.args.parts.now) b c.args.self.now mid) lowered c.in_ok-is_lowered.ensures.all).less refl (omega arith)

pub settle-requires-clause-unclaimed : goal.settle-requires-clause-unclaimed
settle-requires-clause-unclaimed g c =
    let mid = c.do_parts.new.self in
    let full = c.make_room.new.self in
    let pile = same_pile mid.core full.core c.make_room.ensures.core in
    none-claimed full.core.pile (λ h. ap (λ p. claim_at p h) pile ∙ c.do_parts.ensures.kept.free h) c.args.key

pub returns-in_err-settle-clause-refused : goal.returns-in_err-settle-clause-refused
returns-in_err-settle-clause-refused g c =
    let p = err_from_is_err_and c.from_residual-in_err-settle.result c.from_residual-in_err-settle.ensures.1 in
    handed-on (IsWorkStop _ _ c.settle.new.self) c.from_residual-in_err-settle.result NoMemory p.0 p.1 (p.2 ∙ c.in_err-settle.ensures.refused) memory_is_wanting

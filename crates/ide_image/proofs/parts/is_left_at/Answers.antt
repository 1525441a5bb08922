use Rattle.std.proofs.Common.{◌≡◌, refl, sym, ap, ◌∙◌, cond, Bool, true, false, Option, None, Some}
use Rattle.std.specs.Prelude.{not}
use Rattle.std.specs.Option.{is_some}
use Rattle.ide_wire.specs.declared.key.Key.{Key}
use Rattle.ide_image.specs.Indexed.{function_of, place_of_key}
use Rattle.ide_image.specs.Left.{is_left, left_of}
use Rattle.ide_image.specs.KeyedImage.{pending_by_slot}
use Rattle.ide_image.specs.Queue.{pending_at}
use Rattle.ide_image.specs.declared.entry.Entry.{Entry}
use Rattle.ide_image.proofs.Agree.{at-index}
use Rattle.ide_image.proofs.parts.is_left_at.Goals as goal

some-if : {X : Type 0} (b : Bool) (x : X) → b ≡ is_some (cond b (Some x) None)
some-if true x = refl
some-if false x = refl

-- whether something is left of a key that has the function and waits or does not
is-left-as : {F : Type 0} (same : F → F → Bool) (key : Key) (now : Option F) (f : F) (pending waits : Bool) (before : Entry F) (b : Bool)
    → now ≡ Some f → pending ≡ waits → b ≡ is_left same (Some f) before.function waits before.pending → b ≡ is_some (left_of same key now pending before)
is-left-as same key now f pending waits before b is stands told =
    told ∙ some-if (is_left same (Some f) before.function waits before.pending) (key, f, waits)
    ∙ ap (λ w. is_some (left_of same key (Some f) w before)) (sym stands)
    ∙ ap (λ o. is_some (left_of same key o pending before)) (sym is)

-- of one that had no function before something is left where it has one
is-left-new : {F : Type 0} (same : F → F → Bool) (key : Key) (now : Option F) (waits : Bool) (before : Entry F) → before.function ≡ None
    → is_some now ≡ is_some (left_of same key now waits before)
is-left-new same key None waits before none = refl
is-left-new {F} same key (Some f) waits before none =
    some-if {X = Key × F × Bool} true (key, f, waits) ∙ ap (λ o. is_some {T = Key × F × Bool} (cond (is_left same (Some f) o waits before.pending) (Some (key, f, waits)) None)) (sym none)

no-function : {X : Type 0} (o : Option X) (b : Bool) → is_some o ≡ not b → b ≡ true → o ≡ None
no-function None b is none = refl
no-function (Some x) b is none = let told : true ≡ false = is ∙ ap not none in absurd (cc (told))

pub returns-then-is_none : goal.returns-then-is_none
returns-then-is_none g c =
    c.has_function.ensures c.args.key (sym c.requires.slot)
    ∙ is-left-new g.F.PartialEq.eq c.args.key (function_of c.args.indexed.now.cells c.args.key)
    (pending_by_slot c.args.indexed.now c.args.queue.now c.args.key) c.args.before.now
    (no-function c.args.before.now.function c.is_none.result c.is_none.ensures c.if-is_none.true)

pub returns-in-Some : goal.returns-in-Some
returns-in-Some g c =
    let place = place_of_key c.args.indexed.now c.args.key in
    let now : function_of c.args.indexed.now.cells c.args.key ≡ Some c.in-Some.now = sym (c.in-Some.ensures c.args.key (sym c.requires.slot)) in
    let waits : pending_by_slot c.args.indexed.now c.args.queue.now c.args.key ≡ c.is_pending.result =
    at-index (pending_at c.args.queue.now.list) place c.args.slot (sym c.requires.slot) ∙ sym c.is_pending.ensures in
    is-left-as g.F.PartialEq.eq c.args.key _ c.in-Some.now _ c.is_pending.result c.args.before.now c.is_left.result now waits c.is_left.ensures

pub returns-in-None : goal.returns-in-None
returns-in-None g c =
    let none : function_of c.args.indexed.now.cells c.args.key ≡ None = sym (c.in-None.ensures c.args.key (sym c.requires.slot)) in
    ap (λ o. is_some (left_of g.F.PartialEq.eq c.args.key o (pending_by_slot c.args.indexed.now c.args.queue.now c.args.key) c.args.before.now)) (sym none)

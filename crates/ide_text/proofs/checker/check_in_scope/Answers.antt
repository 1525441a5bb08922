use Rattle.std.proofs.Common.{◌≡◌, ℕ, ◌+◌, List, [], ◌++◌, Result, is_some, vec_len, false, sym, ap, subst, ◌∙◌, append_assoc}
use Rattle.std.proofs.lemmas.List.{append-nil}
use Rattle.ide_wire.specs.declared.refused.Refused.{Refused}
use Rattle.ide_text.specs.declared.program.Procedure.{Procedure}
use Rattle.ide_text.specs.declared.program.Statement.{Statement}
use Rattle.ide_text.specs.declared.scope.Scope.{Scope}
use Rattle.ide_text.specs.Names.{IsFirstRepeated}
use Rattle.ide_text.specs.First.{Checked}
use Rattle.ide_text.specs.NameFault.{StatementsFault, variables_in}
use Rattle.ide_text.specs.Scope.{variables_of_scope}
use Rattle.ide_text.proofs.Repeated.{renamed, some_repeated, none_repeated, at_none, is_none}
use Rattle.ide_text.proofs.LineLemmas.{parameter_first, local_first, body_checked}
use Rattle.ide_text.proofs.checker.check_in_scope.Goals as goal

-- what a scope knows before any name is declared in it are the globals
known_first : (scope : Scope) → scope.variables ≡ [] → variables_of_scope scope ≡ scope.globals.now
known_first scope none = ap (λ vs. scope.globals.now ++ vs) none ∙ append-nil scope.globals.now

-- and then those that were declared too
known_more : (known names : List (List ℕ)) (old new : Scope) → variables_of_scope old ≡ known → new.globals.now ≡ old.globals.now → new.variables ≡ old.variables ++ names → variables_of_scope new ≡ known ++ names
known_more known names old new before same more =
    ap (λ gs. gs ++ new.variables) same ∙ (ap (λ vs. old.globals.now ++ vs) more ∙ (sym (append_assoc old.globals.now old.variables names) ∙ ap (λ ks. ks ++ names) before))

-- what was found in the statements, by other names for the same
same_body : (variables variables' : List (List ℕ)) (procedures procedures' : List Procedure) (statements statements' : List Statement) (start start' : ℕ) (r : Result (Unit {0}) Refused)
    → variables ≡ variables' → procedures ≡ procedures' → statements ≡ statements' → start ≡ start' → Checked (StatementsFault variables procedures statements start) r → Checked (StatementsFault variables' procedures' statements' start') r
same_body variables variables' procedures procedures' statements statements' start start' r e f g h checked =
    subst (λ (n : ℕ). Checked (StatementsFault variables' procedures' statements' n) r) h
    (subst (λ (ss : List Statement). Checked (StatementsFault variables' procedures' ss start) r) g
    (subst (λ (ps : List Procedure). Checked (StatementsFault variables' ps statements start) r) f
    (subst (λ (vs : List (List ℕ)). Checked (StatementsFault vs procedures statements start) r) e checked)))

pub returns-then-is_some : goal.returns-then-is_some
returns-then-is_some c =
    let q = c.args.procedure.now in
    let scope = c.args.scope.now in
    let globals = scope.globals.now in
    let known = known_first scope c.requires.none in
    let told = renamed (variables_of_scope scope) globals c.deref.result.now q.parameters.items c.in_ok-declare.field-0 known c.deref.ensures.value c.in_ok-declare.ensures.first in
    let one = some_repeated globals q.parameters.items c.in_ok-declare.field-0 (sym c.is_some.ensures ∙ c.if-is_some.true) told in
    parameter_first globals scope.procedures.now q c.args.line one.0 one.1

pub returns-in-Some : goal.returns-in-Some
returns-in-Some c =
    let q = c.args.procedure.now in
    let scope = c.args.scope.now in
    let globals = scope.globals.now in
    let parameters = q.parameters.items in
    let known = known_first scope c.requires.none in
    let none : is_some c.in_ok-declare.field-0 ≡ false = sym c.is_some.ensures ∙ c.if-is_some.false in
    let told = renamed (variables_of_scope scope) globals c.deref.result.now parameters c.in_ok-declare.field-0 known c.deref.ensures.value c.in_ok-declare.ensures.first in
    let more = known_more globals parameters scope c.declare.new.self known c.declare.ensures.globals (at_none c.in_ok-declare.field-0 none c.in_ok-declare.ensures.added ∙ ap (λ names. scope.variables ++ names) c.deref.ensures.value) in
    let first = renamed (variables_of_scope c.declare.new.self) (globals ++ parameters) c.deref-2.result.now q.locals.items c.in_ok-place.field-0 more c.deref-2.ensures.value c.in_ok-place.ensures.first in
    let one = subst (IsFirstRepeated (globals ++ parameters) q.locals.items) c.in-Some.is first in
    local_first globals scope.procedures.now q c.args.line (none_repeated globals parameters c.in_ok-declare.field-0 none told) c.in-Some.place one.0 one.1

pub returns : goal.returns
returns c =
    let q = c.args.procedure.now in
    let scope = c.args.scope.now in
    let globals = scope.globals.now in
    let parameters = q.parameters.items in
    let known = known_first scope c.requires.none in
    let none : is_some c.in_ok-declare.field-0 ≡ false = sym c.is_some.ensures ∙ c.if-is_some.false in
    let told = renamed (variables_of_scope scope) globals c.deref.result.now parameters c.in_ok-declare.field-0 known c.deref.ensures.value c.in_ok-declare.ensures.first in
    let more = known_more globals parameters scope c.declare.new.self known c.declare.ensures.globals (at_none c.in_ok-declare.field-0 none c.in_ok-declare.ensures.added ∙ ap (λ names. scope.variables ++ names) c.deref.ensures.value) in
    let first = renamed (variables_of_scope c.declare.new.self) (globals ++ parameters) c.deref-2.result.now q.locals.items c.in_ok-place.field-0 more c.deref-2.ensures.value c.in_ok-place.ensures.first in
    let no_local = is_none c.in_ok-place.field-0 c.in_default.not-Some in
    let all = known_more (globals ++ parameters) q.locals.items c.declare.new.self c.declare-2.new.self more c.declare-2.ensures.globals (at_none c.in_ok-place.field-0 no_local c.in_ok-place.ensures.added ∙ ap (λ names. c.declare.new.self.variables ++ names) c.deref-2.ensures.value) in
    body_checked globals scope.procedures.now q c.args.line (none_repeated globals parameters c.in_ok-declare.field-0 none told) (none_repeated (globals ++ parameters) q.locals.items c.in_ok-place.field-0 no_local first) c.check_statements.result
    (same_body (variables_of_scope c.declare-2.new.self) (variables_in globals q) c.declare-2.new.self.procedures.now scope.procedures.now c.declare-2.new.self.labels q.statements.items _ (c.args.line + 1 + vec_len q.locals) c.check_statements.result
    all (c.declare-2.ensures.procedures ∙ c.declare.ensures.procedures)
    (c.declare-2.ensures.labels ∙ c.declare.ensures.labels ∙ c.requires.labels)
    (ap (λ n. c.args.line + 1 + n) c.len.ensures) c.check_statements.ensures)

-- Programs of one value have the same faults of their names.
use Rattle.std.proofs.Common.{codes, ℕ, zero, suc, ◌+◌, ◌≤◌, ◌≡◌, Bool, true, false, cond, ◌||◌, List, [], ◌∷◌, ◌++◌, Option, Some, None, option_map, length, map, take, slice_get, sum_by, vec_len, ap, sym, refl, ◌∙◌, subst, arith}
use Rattle.std.specs.Global.{Vec}
use Rattle.std.specs.List.{Contains, find, flat_map, list_any}
use Rattle.std.specs.Option.{option_to_list}
use Rattle.std.specs.Str.{bytes_eq}
use Rattle.std.proofs.lemmas.List.{length-map}
use Rattle.std.proofs.lemmas.List.Sums.{sum_by-cons}
use Rattle.ide_wire.specs.declared.refused.Fault.{Fault}
use Rattle.ide_wire.specs.declared.refused.Fault.TheVariants.{DeclaredTwice}
use Rattle.ide_text.specs.declared.program.Draft.{Draft}
use Rattle.ide_text.specs.declared.program.Procedure.{Procedure}
use Rattle.ide_text.specs.declared.program.Statement.{Statement}
use Rattle.ide_text.specs.declared.program.Statement.TheVariants.{Assign, Skip, At, Goto, Branch, Call, Return}
use Rattle.ide_text.specs.NameFault.{IsFirstNameFault, IsWellNamed, NameFault, ProcedureFault, StatementFault, StatementsFault, Global_again, Procedure_again, In_procedure, Parameter_again, Local_again, In_statement, Label_again, No_variable, No_label, No_procedure, Wrong_count, Wrong_list, AreWrongCallees, arguments_passed, callees_of, labels_used, line_of_procedure, variables_in, variables_used}
use Rattle.ide_text.specs.Names.{IsRepeated, declares, first_named, is_label, is_named}
use Rattle.ide_text.specs.Draft.{draft_globals, lines_of_procedure, draft_procedures}
use Rattle.ide_text.specs.Text.{call_text, draft_text, globals_text, locals_text, names_text, procedure_text, procedures_text, statement_text, statements_text}
use Rattle.ide_text.specs.Value.{ProcedureValue, ProgramValue, calling, other, draft_value, value_of_procedure, value_of_statement}

-- ---- lists that a function maps to one list
heads : {X Y : Type 0} (f : X → Y) (x y : X) (xs ys : List X) → map f (x ∷ xs) ≡ map f (y ∷ ys) → f x ≡ f y
heads f x y xs ys e = cc

tails : {X Y : Type 0} (f : X → Y) (x y : X) (xs ys : List X) → map f (x ∷ xs) ≡ map f (y ∷ ys) → map f xs ≡ map f ys
tails f x y xs ys e = cc

get_same : {X Y : Type 0} (f : X → Y) (xs ys : List X) → map f xs ≡ map f ys → (i : ℕ) (x : X) → slice_get xs i ≡ Some x → (y : X) × (slice_get ys i ≡ Some y) × (f x ≡ f y)
get_same f [] ys e i x at = absurd (cc)
get_same f (a ∷ xs) [] e i x at = absurd (cc)
get_same f (a ∷ xs) (b ∷ ys) e zero x at = let same : a ≡ x = cc in (b, refl, ap f (sym same) ∙ heads f a b xs ys e)
get_same f (a ∷ xs) (b ∷ ys) e (suc i) x at = get_same f xs ys (tails f a b xs ys e) i x at

take_same : {X Y : Type 0} (f : X → Y) (i : ℕ) (xs ys : List X) → map f xs ≡ map f ys → map f (take i xs) ≡ map f (take i ys)
take_same f zero xs ys e = refl
take_same f (suc i) [] [] e = refl
take_same f (suc i) [] (b ∷ ys) e = absurd (cc)
take_same f (suc i) (a ∷ xs) [] e = absurd (cc)
take_same f (suc i) (a ∷ xs) (b ∷ ys) e = ap (λ v. v ∷ map f (take i xs)) (heads f a b xs ys e) ∙ ap (λ vs. f b ∷ vs) (take_same f i xs ys (tails f a b xs ys e))

any_same : {X Y : Type 0} (f : X → Y) (test : X → Bool) → ((x y : X) → f x ≡ f y → test x ≡ test y) → (xs ys : List X) → map f xs ≡ map f ys → list_any test xs ≡ list_any test ys
any_same f test told [] [] e = refl
any_same f test told [] (b ∷ ys) e = absurd (cc)
any_same f test told (a ∷ xs) [] e = absurd (cc)
any_same f test told (a ∷ xs) (b ∷ ys) e = ap (λ t. t || list_any test xs) (told a b (heads f a b xs ys e)) ∙ ap (λ t. test b || t) (any_same f test told xs ys (tails f a b xs ys e))

sum_same : {X Y : Type 0} (f : X → Y) (count : X → ℕ) → ((x y : X) → f x ≡ f y → count x ≡ count y) → (xs ys : List X) → map f xs ≡ map f ys → sum_by count xs ≡ sum_by count ys
sum_same f count told [] [] e = refl
sum_same f count told [] (b ∷ ys) e = absurd (cc)
sum_same f count told (a ∷ xs) [] e = absurd (cc)
sum_same f count told (a ∷ xs) (b ∷ ys) e = omega (arith, sum_by-cons count a xs, sum_by-cons count b ys, told a b (heads f a b xs ys e), sum_same f count told xs ys (tails f a b xs ys e))

-- what is found in both
cond_same : {X Y : Type 0} (f : X → Y) (s t : Bool) (a b : X) (o r : Option X) → s ≡ t → f a ≡ f b → option_map f o ≡ option_map f r → option_map f (cond s (Some a) o) ≡ option_map f (cond t (Some b) r)
cond_same f true true a b o r e same rest = ap (λ v. Some v) same
cond_same f true false a b o r e same rest = absurd (cc)
cond_same f false true a b o r e same rest = absurd (cc)
cond_same f false false a b o r e same rest = rest

find_same : {X Y : Type 0} (f : X → Y) (test : X → Bool) → ((x y : X) → f x ≡ f y → test x ≡ test y) → (xs ys : List X) → map f xs ≡ map f ys → option_map f (find test xs) ≡ option_map f (find test ys)
find_same f test told [] [] e = refl
find_same f test told [] (b ∷ ys) e = absurd (cc)
find_same f test told (a ∷ xs) [] e = absurd (cc)
find_same f test told (a ∷ xs) (b ∷ ys) e =
    let head = heads f a b xs ys e in
    cond_same f (test a) (test b) a b (find test xs) (find test ys) (told a b head) head (find_same f test told xs ys (tails f a b xs ys e))

none_same : {X Y : Type 0} (f : X → Y) (o r : Option X) → option_map f o ≡ option_map f r → o ≡ None → r ≡ None
none_same f o None e is = refl
none_same f o (Some y) e is = absurd (let bad : None ≡ Some (f y) = ap (option_map f) (sym is) ∙ e in cc)

some_same : {X Y : Type 0} (f : X → Y) (o r : Option X) (x : X) → option_map f o ≡ option_map f r → o ≡ Some x → (y : X) × (r ≡ Some y) × (f x ≡ f y)
some_same f o None x e is = absurd (let bad : Some (f x) ≡ None = ap (option_map f) (sym is) ∙ e in cc)
some_same f o (Some y) x e is = (y, refl, (let same : Some (f x) ≡ Some (f y) = ap (option_map f) (sym is) ∙ e in cc))

-- ---- statements
-- a statement is a call, or its value is itself
data View (s : Statement) : Type 0 where
  a_call : (x : Option (List ℕ)) (callees arguments : Vec (List ℕ)) → s ≡ Call x callees arguments → View s
  no_call : value_of_statement s ≡ other s → View s

view : (s : Statement) → View s
view (Call x callees arguments) = a_call x callees arguments refl
view (Assign x e) = no_call refl
view Skip = no_call refl
view (At l) = no_call refl
view (Goto l) = no_call refl
view (Branch l) = no_call refl
view (Return y) = no_call refl

-- what is the same of calls of one value, is the same of statements of one value
abbrev IsOfCallsValue : {X : Type 0} → (Statement → X) → Type 0
IsOfCallsValue f = (x : Option (List ℕ)) (callees arguments callees' arguments' : Vec (List ℕ)) → callees.items ≡ callees'.items → arguments.items ≡ arguments'.items → f (Call x callees arguments) ≡ f (Call x callees' arguments')

by_views : {X : Type 0} (f : Statement → X) → IsOfCallsValue f → (s t : Statement) → value_of_statement s ≡ value_of_statement t → View s → View t → f s ≡ f t
by_views f told s t e (a_call x c a is) (a_call y d b is') =
    let same : calling x c.items a.items ≡ calling y d.items b.items = sym (ap value_of_statement is) ∙ e ∙ ap value_of_statement is' in
    let target : x ≡ y = cc in
    let callees : c.items ≡ d.items = cc in
    let arguments : a.items ≡ b.items = cc in
    ap f is ∙ told x c a d b callees arguments ∙ ap (λ o. f (Call o d b)) target ∙ ap f (sym is')
by_views f told s t e (a_call x c a is) (no_call is') =
    let bad : calling x c.items a.items ≡ other t = sym (ap value_of_statement is) ∙ e ∙ is' in absurd (cc)
by_views f told s t e (no_call is) (a_call y d b is') =
    let bad : other s ≡ calling y d.items b.items = sym is ∙ e ∙ ap value_of_statement is' in absurd (cc)
by_views f told s t e (no_call is) (no_call is') =
    let same : other s ≡ other t = sym is ∙ e ∙ is' in
    let one : s ≡ t = cc in
    ap f one

statement_same : {X : Type 0} (f : Statement → X) → IsOfCallsValue f → (s t : Statement) → value_of_statement s ≡ value_of_statement t → f s ≡ f t
statement_same f told s t e = by_views f told s t e (view s) (view t)

at_same : (s t : Statement) (l : List ℕ) → value_of_statement s ≡ value_of_statement t → View t → s ≡ At l → t ≡ At l
at_same s t l e (a_call x c a is) is_at =
    let bad : other (At l) ≡ calling x c.items a.items = ap value_of_statement (sym is_at) ∙ e ∙ ap value_of_statement is in absurd (cc)
at_same s t l e (no_call is) is_at =
    let same : other (At l) ≡ other t = ap value_of_statement (sym is_at) ∙ e ∙ is in cc

variables_used_same : (s t : Statement) → value_of_statement s ≡ value_of_statement t → variables_used s ≡ variables_used t
variables_used_same = statement_same variables_used (λ x c a d b _ same. ap (λ names. option_to_list x ++ names) same)

labels_used_same : (s t : Statement) → value_of_statement s ≡ value_of_statement t → labels_used s ≡ labels_used t
labels_used_same = statement_same labels_used (λ x c a d b _ _. refl)

callees_of_same : (s t : Statement) → value_of_statement s ≡ value_of_statement t → callees_of s ≡ callees_of t
callees_of_same = statement_same callees_of (λ x c a d b same _. same)

vec_len_same : (xs ys : Vec (List ℕ)) → xs.items ≡ ys.items → vec_len xs ≡ vec_len ys
vec_len_same xs ys e = omega (arith, ap length e, xs.ok, ys.ok)

arguments_passed_same : (s t : Statement) → value_of_statement s ≡ value_of_statement t → arguments_passed s ≡ arguments_passed t
arguments_passed_same = statement_same arguments_passed (λ x c a d b _ same. vec_len_same a b same)

is_label_same : (ss ts : List Statement) → map value_of_statement ss ≡ map value_of_statement ts → (l : List ℕ) → is_label ss l ≡ is_label ts l
is_label_same ss ts e l = any_same value_of_statement (declares l) (statement_same (declares l) (λ x c a d b _ _. refl)) ss ts e

-- ---- procedures
-- procedures of the same values
abbrev AreSame : List Procedure → List Procedure → Type 0
AreSame ps qs = map value_of_procedure ps ≡ map value_of_procedure qs

named_same : (name : List ℕ) (p q : Procedure) → value_of_procedure p ≡ value_of_procedure q → is_named name p ≡ is_named name q
named_same name p q e = ap (λ (v : ProcedureValue). bytes_eq name v.name) e

first_named_same : (ps qs : List Procedure) → AreSame ps qs → (name : List ℕ) → option_map value_of_procedure (first_named ps name) ≡ option_map value_of_procedure (first_named qs name)
first_named_same ps qs e name = find_same value_of_procedure (is_named name) (named_same name) ps qs e

parameters_same : (p q : Procedure) → value_of_procedure p ≡ value_of_procedure q → p.parameters.items ≡ q.parameters.items
parameters_same p q e = ap (λ (v : ProcedureValue). v.parameters) e

locals_same : (p q : Procedure) → value_of_procedure p ≡ value_of_procedure q → p.locals.items ≡ q.locals.items
locals_same p q e = ap (λ (v : ProcedureValue). v.locals) e

statements_same : (p q : Procedure) → value_of_procedure p ≡ value_of_procedure q → map value_of_statement p.statements.items ≡ map value_of_statement q.statements.items
statements_same p q e = ap (λ (v : ProcedureValue). v.statements) e

lines_same : (p q : Procedure) → value_of_procedure p ≡ value_of_procedure q → lines_of_procedure p ≡ lines_of_procedure q
lines_same p q e = omega (
  arith,
  vec_len_same p.locals q.locals (locals_same p q e),
  ap length (statements_same p q e),
  length-map p.statements.items value_of_statement,
  length-map q.statements.items value_of_statement,
  p.statements.ok,
  q.statements.ok,
)

-- ---- faults
StatementFault-same : (variables : List (List ℕ)) (ps qs : List Procedure) → AreSame ps qs → (before before' ss ts : List Statement) → map value_of_statement before ≡ map value_of_statement before' → map value_of_statement ss ≡ map value_of_statement ts →
    (s t : Statement) → value_of_statement s ≡ value_of_statement t → (fault : Fault) → StatementFault variables ps before ss s fault → StatementFault variables qs before' ts t fault
StatementFault-same variables ps qs procedures before before' ss ts same_before same_all s t e fault h = elim h as (λ f _. StatementFault variables qs before' ts t f) [
  | Label_again l is again ↦ Label_again l (at_same s t l e (view t) is) (sym (is_label_same before before' same_before l) ∙ again)
  | No_variable x uses unknown ↦ No_variable x (subst (λ names. Contains names x) (variables_used_same s t e) uses) unknown
  | No_label l uses unknown ↦ No_label l (subst (λ names. Contains names l) (labels_used_same s t e) uses) (sym (is_label_same ss ts same_all l) ∙ unknown)
  | No_procedure c calls unknown ↦ No_procedure c (subst (λ names. Contains names c) (callees_of_same s t e) calls)
      (none_same value_of_procedure (first_named ps c) (first_named qs c) (first_named_same ps qs procedures c) unknown)
  | Wrong_count c p calls is wrong ↦
      let found = some_same value_of_procedure (first_named ps c) (first_named qs c) p (first_named_same ps qs procedures c) is in
      let many = vec_len_same p.parameters found.0.parameters (parameters_same p found.0 found.2) in
      Wrong_count c found.0 (subst (λ names. Contains names c) (callees_of_same s t e) calls) found.1 (λ right. wrong (many ∙ right ∙ sym (arguments_passed_same s t e)))
  | Wrong_list wrong ↦ Wrong_list (subst AreWrongCallees (callees_of_same s t e) wrong)
]

StatementsFault-same : (variables : List (List ℕ)) (ps qs : List Procedure) → AreSame ps qs → (ss ts : List Statement) → map value_of_statement ss ≡ map value_of_statement ts →
    (start line : ℕ) (fault : Fault) → StatementsFault variables ps ss start line fault → StatementsFault variables qs ts start line fault
StatementsFault-same variables ps qs procedures ss ts same start line fault h =
    let found = get_same value_of_statement ss ts same h.place h.statement h.found in
    record {
      place = h.place;
      statement = found.0;
      found = found.1;
      on_line = h.on_line;
      faulty = StatementFault-same variables ps qs procedures (take h.place ss) (take h.place ts) ss ts (take_same value_of_statement h.place ss ts same) same h.statement found.0 found.2 fault h.faulty;
    }

ProcedureFault-same : (globals : List (List ℕ)) (ps qs : List Procedure) → AreSame ps qs → (p q : Procedure) → value_of_procedure p ≡ value_of_procedure q →
    (start line : ℕ) (fault : Fault) → ProcedureFault globals ps p start line fault → ProcedureFault globals qs q start line fault
ProcedureFault-same globals ps qs procedures p q e start line fault h =
    let parameters = parameters_same p q e in
    let locals = locals_same p q e in
    elim h as (λ l f _. ProcedureFault globals qs q start l f) [
      | Parameter_again k again ↦ Parameter_again k (subst (λ names. IsRepeated globals names k) parameters again)
      | Local_again k again ↦ Local_again k (subst (λ names. IsRepeated (globals ++ names) q.locals.items k) parameters (subst (λ names. IsRepeated (globals ++ p.parameters.items) names k) locals again))
      | In_statement l f inner ↦
          let moved = StatementsFault-same (variables_in globals p) ps qs procedures p.statements.items q.statements.items (statements_same p q e) (start + 1 + vec_len p.locals) l f inner in
          let variables : variables_in globals p ≡ variables_in globals q = ap (λ names. globals ++ names ++ p.locals.items) parameters ∙ ap (λ names. globals ++ q.parameters.items ++ names) locals in
          In_statement l f (subst (λ n. StatementsFault (variables_in globals q) qs q.statements.items (start + 1 + n) l f) (vec_len_same p.locals q.locals locals)
          (subst (λ names. StatementsFault names qs q.statements.items (start + 1 + vec_len p.locals) l f) variables moved))
    ]

-- ---- programs
globals_same : (p q : Draft) → draft_value p ≡ draft_value q → draft_globals p ≡ draft_globals q
globals_same p q e = ap (λ (v : ProgramValue). v.globals) e

procedures_same : (p q : Draft) → draft_value p ≡ draft_value q → AreSame (draft_procedures p) (draft_procedures q)
procedures_same p q e = ap (λ (v : ProgramValue). v.procedures) e

line_same : (p q : Draft) → draft_value p ≡ draft_value q → (j : ℕ) → line_of_procedure p j ≡ line_of_procedure q j
line_same p q e j = omega (
  arith,
  ap length (globals_same p q e),
  sum_same value_of_procedure lines_of_procedure lines_same (take j (draft_procedures p)) (take j (draft_procedures q)) (take_same value_of_procedure j (draft_procedures p) (draft_procedures q) (procedures_same p q e)),
)

pub NameFault-same : (p q : Draft) → draft_value p ≡ draft_value q → (line : ℕ) (fault : Fault) → NameFault p line fault → NameFault q line fault
NameFault-same p q e line fault h =
    let globals = globals_same p q e in
    let procedures = procedures_same p q e in
    elim h as (λ l f _. NameFault q l f) [
      | Global_again i again ↦ Global_again i (subst (λ names. IsRepeated [] names i) globals again)
      | Procedure_again j r at again ↦
          let found = get_same value_of_procedure (draft_procedures p) (draft_procedures q) procedures j r at in
          let firsts = take_same value_of_procedure j (draft_procedures p) (draft_procedures q) procedures in
          let name : r.name ≡ found.0.name = ap (λ (v : ProcedureValue). v.name) found.2 in
          let any = any_same value_of_procedure (is_named found.0.name) (named_same found.0.name) (take j (draft_procedures p)) (take j (draft_procedures q)) firsts in
          subst (λ l. NameFault q l DeclaredTwice) (sym (line_same p q e j))
          (Procedure_again j found.0 found.1 (sym any ∙ ap (λ n. list_any (is_named n) (take j (draft_procedures p))) (sym name) ∙ again))
      | In_procedure j r at l f inner ↦
          let found = get_same value_of_procedure (draft_procedures p) (draft_procedures q) procedures j r at in
          let moved = ProcedureFault-same (draft_globals p) (draft_procedures p) (draft_procedures q) procedures r found.0 found.2 (line_of_procedure p j) l f inner in
          In_procedure j found.0 found.1 l f (subst (λ n. ProcedureFault (draft_globals q) (draft_procedures q) found.0 n l f) (line_same p q e j)
          (subst (λ names. ProcedureFault names (draft_procedures q) found.0 (line_of_procedure p j) l f) globals moved))
    ]

pub IsFirstNameFault-same : (p q : Draft) → draft_value p ≡ draft_value q → (line : ℕ) (fault : Fault) → IsFirstNameFault p line fault → IsFirstNameFault q line fault
IsFirstNameFault-same p q e line fault h = record {
  found = NameFault-same p q e line fault h.found;
  least_line = λ l f other_fault. h.least_line l f (NameFault-same q p (sym e) l f other_fault);
  least_number = λ f other_fault. h.least_number f (NameFault-same q p (sym e) line f other_fault);
}

pub IsWellNamed-same : (p q : Draft) → draft_value p ≡ draft_value q → IsWellNamed p → IsWellNamed q
IsWellNamed-same p q e well line fault h = well line fault (NameFault-same q p (sym e) line fault h)

-- ---- texts
flat_same : {X Y : Type 0} (f : X → Y) (text : X → List ℕ) → ((x y : X) → f x ≡ f y → text x ≡ text y) → (xs ys : List X) → map f xs ≡ map f ys → flat_map text xs ≡ flat_map text ys
flat_same f text told [] [] e = refl
flat_same f text told [] (b ∷ ys) e = absurd (cc)
flat_same f text told (a ∷ xs) [] e = absurd (cc)
flat_same f text told (a ∷ xs) (b ∷ ys) e =
    ap (λ t. t ++ flat_map text xs) (told a b (heads f a b xs ys e)) ∙ ap (λ t. text b ++ t) (flat_same f text told xs ys (tails f a b xs ys e))

statement_text_same : (s t : Statement) → value_of_statement s ≡ value_of_statement t → statement_text s ++ codes "\n" ≡ statement_text t ++ codes "\n"
statement_text_same s t e =
    ap (λ text. text ++ codes "\n")
    (statement_same statement_text
    (λ x c a d b callees arguments.
    ap (λ names. call_text x names a.items) callees
    ∙ ap (λ names. call_text x d.items names) arguments)
    s t e)

abbrev text_by : List ℕ → List (List ℕ) → List (List ℕ) → List ℕ → List ℕ
text_by name parameters locals statements = codes "proc " ++ name ++ names_text parameters ++ codes "\n" ++ locals_text locals ++ statements ++ codes "end\n"

procedure_text_same : (p q : Procedure) → value_of_procedure p ≡ value_of_procedure q → procedure_text p ≡ procedure_text q
procedure_text_same p q e =
    let lines = statements_text p.statements.items in
    let statements = flat_same value_of_statement (λ s. statement_text s ++ codes "\n") statement_text_same p.statements.items q.statements.items (statements_same p q e) in
    ap (λ (v : ProcedureValue). text_by v.name p.parameters.items p.locals.items lines) e
    ∙ ap (λ names. text_by q.name names p.locals.items lines) (parameters_same p q e)
    ∙ ap (λ names. text_by q.name q.parameters.items names lines) (locals_same p q e)
    ∙ ap (λ text. text_by q.name q.parameters.items q.locals.items text) statements

-- drafts of one value have one text
pub draft_text-same : (p q : Draft) → draft_value p ≡ draft_value q → draft_text p ≡ draft_text q
draft_text-same p q e =
    ap (λ names. globals_text names ++ procedures_text (draft_procedures p)) (globals_same p q e)
    ∙ ap (λ text. globals_text (draft_globals q) ++ text) (flat_same value_of_procedure procedure_text procedure_text_same (draft_procedures p) (draft_procedures q) (procedures_same p q e))

abbrev value_by : List (List ℕ) → List ProcedureValue → ProgramValue
value_by names values = record { globals = names; procedures = values }

-- a draft of the same globals, and of procedures of the same values
pub copied_value : (d copy : Draft) → draft_globals copy ≡ draft_globals d → AreSame (draft_procedures copy) (draft_procedures d) → draft_value d ≡ draft_value copy
copied_value d copy globals procedures =
    ap (λ (names : List (List ℕ)). value_by names (map value_of_procedure (draft_procedures d))) (sym globals)
    ∙ ap (value_by (draft_globals copy)) (sym procedures)

-- and its text is no longer
pub short_copy : (d copy : Draft) → draft_value d ≡ draft_value copy → length (draft_text d) ≤ 1048576 → length (draft_text copy) ≤ 1048576
short_copy d copy same short = omega (arith, ap length (draft_text-same d copy same), short)

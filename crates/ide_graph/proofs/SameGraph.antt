-- Programs of one value have one graph: the same numbers, names and sites.
use Rattle.std.proofs.Common.{◌≡◌, ℕ, zero, suc, ◌+◌, ◌-◌, Bool, false, cond, not, nat_lt, codes, List, [], ◌∷◌, ◌++◌, Option, None, Some, ◌⊎◌, inl, inr, length, map, max, take, refl, sym, ap, subst, ◌∙◌, arith}
use Rattle.std.specs.Prelude.{slice_get}
use Rattle.std.specs.Global.{Vec}
use Rattle.std.specs.List.{Contains, flat_map, position, prefix_len}
use Rattle.std.specs.Option.{option_map}
use Rattle.std.specs.Str.{bytes_eq}
use Rattle.std.proofs.lemmas.List.{length-map, map-append}
use Rattle.ide_text.specs.declared.program.Expression.{Expression}
use Rattle.ide_text.specs.declared.program.Expression.TheVariants as expression
use Rattle.ide_text.specs.declared.program.Procedure.{Procedure}
use Rattle.ide_text.specs.declared.program.Program.{Program}
use Rattle.ide_text.specs.declared.program.Statement.{Statement}
use Rattle.ide_text.specs.declared.program.Statement.TheVariants.{Assign, Skip, At, Goto, Branch, Call, Return}
use Rattle.ide_text.specs.Names.{declares, is_named}
use Rattle.ide_text.specs.Program.{globals_of, procedures_of, value_of}
use Rattle.ide_text.specs.Value.{ProcedureValue, ProgramValue, StatementValue, calling, other, value_of_procedure, value_of_statement}
use Rattle.ide_graph.specs.declared.edge.EdgeData.{EdgeData}
use Rattle.ide_graph.specs.declared.edge.EdgeKind.{EdgeKind}
use Rattle.ide_graph.specs.declared.edge.EdgeKind.TheVariants as kind
use Rattle.ide_graph.specs.declared.edge.Effect.{Effect}
use Rattle.ide_graph.specs.declared.edge.Effect.TheVariants.{Copy, Enter}
use Rattle.ide_graph.specs.declared.site.Caller.{Caller}
use Rattle.ide_graph.specs.declared.site.Site.{Site}
use Rattle.ide_graph.specs.declared.site.Site.TheVariants as site
use Rattle.ide_graph.specs.Numbers.{Spot, start, statement, return_site, exit, spots_on, spots_of, nodes_from, nodes_of, start_of, exit_of, label_from, procedure_of, names_at, most_own, result_of, facts_of}
use Rattle.ide_graph.specs.ProgramEdges.{ArePassed, CallAt, Gives, Goes, HasFact, IsAlong, IsTargetFact, IsBack, IsCall, IsCallee, IsCallerOf, IsCallFrom, IsNormal, IsPlain, IsPlainNode, IsSiteOf, Stands, edge_of}
use Rattle.ide_graph.proofs.ListsLemmas.{lists_same}

-- ---- lists that a function maps to one list
heads : {X Y : Type 0} (f : X → Y) (x y : X) (xs ys : List X) → map f (x ∷ xs) ≡ map f (y ∷ ys) → f x ≡ f y
heads f x y xs ys e = cc

tails : {X Y : Type 0} (f : X → Y) (x y : X) (xs ys : List X) → map f (x ∷ xs) ≡ map f (y ∷ ys) → map f xs ≡ map f ys
tails f x y xs ys e = cc

length_same : {X Y : Type 0} (f : X → Y) (xs ys : List X) → map f xs ≡ map f ys → length xs ≡ length ys
length_same f xs ys e = sym (length-map xs f) ∙ ap length e ∙ length-map ys f

get_same : {X Y : Type 0} (f : X → Y) (xs ys : List X) → map f xs ≡ map f ys → (i : ℕ) (x : X) → slice_get xs i ≡ Some x → (y : X) × (slice_get ys i ≡ Some y) × (f x ≡ f y)
get_same f [] ys e i x at = absurd (cc)
get_same f (a ∷ xs) [] e i x at = absurd (cc)
get_same f (a ∷ xs) (b ∷ ys) e zero x at = let same : a ≡ x = cc in (b, refl, ap f (sym same) ∙ heads f a b xs ys e)
get_same f (a ∷ xs) (b ∷ ys) e (suc i) x at = get_same f xs ys (tails f a b xs ys e) i x at

take_same : {X Y : Type 0} (f : X → Y) (i : ℕ) (xs ys : List X) → map f xs ≡ map f ys → map f (take i xs) ≡ map f (take i ys)
take_same f zero xs ys e = refl
take_same f (suc i) [] [] e = refl
take_same f (suc i) [] (b ∷ ys) e = absurd (cc)
take_same f (suc i) (a ∷ xs) [] e = absurd (cc)
take_same f (suc i) (a ∷ xs) (b ∷ ys) e = ap (λ v. v ∷ map f (take i xs)) (heads f a b xs ys e) ∙ ap (λ vs. f b ∷ vs) (take_same f i xs ys (tails f a b xs ys e))

any_same : {X Y : Type 0} (f : X → Y) (test : X → Bool) → ((x y : X) → f x ≡ f y → test x ≡ test y) → (xs ys : List X) → map f xs ≡ map f ys → map test xs ≡ map test ys
any_same f test told [] [] e = refl
any_same f test told [] (b ∷ ys) e = absurd (cc)
any_same f test told (a ∷ xs) [] e = absurd (cc)
any_same f test told (a ∷ xs) (b ∷ ys) e = ap (λ t. t ∷ map test xs) (told a b (heads f a b xs ys e)) ∙ ap (λ ts. test b ∷ ts) (any_same f test told xs ys (tails f a b xs ys e))

abbrev prefix_of : List Bool → ℕ
prefix_of [] = 0
prefix_of (t ∷ ts) = cond (not t) (1 + prefix_of ts) 0

prefix_is : {X : Type 0} (test : X → Bool) (xs : List X) → prefix_len (λ x. not (test x)) xs ≡ prefix_of (map test xs)
prefix_is test [] = refl
prefix_is test (x ∷ xs) = ap {B = ℕ} (λ (n : ℕ). cond (not (test x)) (1 + n) 0) (prefix_is test xs)

abbrev place_by : ℕ → ℕ → Option ℕ
place_by prefix count = cond (nat_lt prefix count) (Some prefix) None

position_same : {X Y : Type 0} (f : X → Y) (test : X → Bool) → ((x y : X) → f x ≡ f y → test x ≡ test y) → (xs ys : List X) → map f xs ≡ map f ys → position test xs ≡ position test ys
position_same f test told xs ys e =
    let prefix : prefix_len (λ x. not (test x)) xs ≡ prefix_len (λ x. not (test x)) ys =
    prefix_is test xs ∙ ap prefix_of (any_same f test told xs ys e) ∙ sym (prefix_is test ys) in
    ap (λ n. place_by n (length xs)) prefix ∙ ap (place_by (prefix_len (λ x. not (test x)) ys)) (length_same f xs ys e)

map_agree : {X : Type 0} (f g : X → ℕ) → ((x : X) → f x ≡ g x) → (o : Option X) → option_map f o ≡ option_map g o
map_agree f g told None = refl
map_agree f g told (Some x) = ap (λ n. Some n) (told x)

-- ---- nodes
data SpotValue : Type 0 where
  at_start at_return at_exit : SpotValue
  at_statement : StatementValue → SpotValue

abbrev value_of_spot : Spot → SpotValue
value_of_spot start = at_start
value_of_spot (statement s) = at_statement (value_of_statement s)
value_of_spot return_site = at_return
value_of_spot exit = at_exit

abbrev value_of_node : ℕ × Spot → ℕ × SpotValue
value_of_node node = (node.0, value_of_spot node.1)

abbrev values_on : StatementValue → List SpotValue
values_on (calling x callees arguments) = at_statement (calling x callees arguments) ∷ at_return ∷ []
values_on (other s) = at_statement (other s) ∷ []

on_are : (s : Statement) → map value_of_spot (spots_on s) ≡ values_on (value_of_statement s)
on_are (Assign x e) = refl
on_are Skip = refl
on_are (At l) = refl
on_are (Goto l) = refl
on_are (Branch l) = refl
on_are (Call x callees arguments) = refl
on_are (Return y) = refl

flat_are : (ss : List Statement) → map value_of_spot (flat_map spots_on ss) ≡ flat_map values_on (map value_of_statement ss)
flat_are [] = refl
flat_are (s ∷ ss) =
    map-append value_of_spot (spots_on s) (flat_map spots_on ss)
    ∙ ap (λ vs. vs ++ map value_of_spot (flat_map spots_on ss)) (on_are s)
    ∙ ap (λ vs. values_on (value_of_statement s) ++ vs) (flat_are ss)

abbrev values_in : ProcedureValue → List SpotValue
values_in v = at_start ∷ flat_map values_on v.statements ++ at_exit ∷ []

in_are : (q : Procedure) → map value_of_spot (spots_of q) ≡ values_in (value_of_procedure q)
in_are q =
    ap (λ vs. at_start ∷ vs)
    (map-append value_of_spot (flat_map spots_on q.statements.items) (exit ∷ []) ∙ ap (λ vs. vs ++ at_exit ∷ []) (flat_are q.statements.items))

abbrev values_from : ℕ → List ProcedureValue → List (ℕ × SpotValue)
values_from i [] = []
values_from i (v ∷ vs) = map (λ w. (i, w)) (values_in v) ++ values_from (i + 1) vs

placed_are : (i : ℕ) (spots : List Spot) → map value_of_node (map (λ spot. (i, spot)) spots) ≡ map (λ w. (i, w)) (map value_of_spot spots)
placed_are i [] = refl
placed_are i (spot ∷ spots) = ap (λ (vs : List (ℕ × SpotValue)). (i, value_of_spot spot) ∷ vs) (placed_are i spots)

nodes_are : (i : ℕ) (ps : List Procedure) → map value_of_node (nodes_from i ps) ≡ values_from i (map value_of_procedure ps)
nodes_are i [] = refl
nodes_are i (q ∷ ps) =
    map-append value_of_node (map (λ spot. (i, spot)) (spots_of q)) (nodes_from (i + 1) ps)
    ∙ ap (λ vs. vs ++ map value_of_node (nodes_from (i + 1) ps)) (placed_are i (spots_of q) ∙ ap (map (λ w. (i, w))) (in_are q))
    ∙ ap (λ vs. map (λ w. (i, w)) (values_in (value_of_procedure q)) ++ vs) (nodes_are (i + 1) ps)

-- procedures of the same values
abbrev AreSame : List Procedure → List Procedure → Type 0
AreSame ps qs = map value_of_procedure ps ≡ map value_of_procedure qs

nodes_same : (ps qs : List Procedure) → AreSame ps qs → map value_of_node (nodes_of ps) ≡ map value_of_node (nodes_of qs)
nodes_same ps qs e = nodes_are 0 ps ∙ ap (values_from 0) e ∙ sym (nodes_are 0 qs)

pub count_same : (ps qs : List Procedure) → AreSame ps qs → length (nodes_of ps) ≡ length (nodes_of qs)
count_same ps qs e = length_same value_of_node (nodes_of ps) (nodes_of qs) (nodes_same ps qs e)

firsts_are : (xs : List (ℕ × Spot)) → map (λ node. node.0) xs ≡ map (λ (v : ℕ × SpotValue). v.0) (map value_of_node xs)
firsts_are [] = refl
firsts_are (x ∷ xs) = ap (λ ns. x.0 ∷ ns) (firsts_are xs)

pub owners_same : (ps qs : List Procedure) → AreSame ps qs → map (λ (node : ℕ × Spot). node.0) (nodes_of ps) ≡ map (λ (node : ℕ × Spot). node.0) (nodes_of qs)
owners_same ps qs e = firsts_are (nodes_of ps) ∙ ap (map (λ (v : ℕ × SpotValue). v.0)) (nodes_same ps qs e) ∙ sym (firsts_are (nodes_of qs))

pub start_same : (ps qs : List Procedure) → AreSame ps qs → (i : ℕ) → start_of ps i ≡ start_of qs i
start_same ps qs e i = count_same (take i ps) (take i qs) (take_same value_of_procedure i ps qs e)

pub exit_same : (ps qs : List Procedure) → AreSame ps qs → (i : ℕ) → exit_of ps i ≡ exit_of qs i
exit_same ps qs e i = ap (λ n. n - 1) (start_same ps qs e (i + 1))

-- ---- what a value tells of its spot
start_is : (s : Spot) → at_start ≡ value_of_spot s → s ≡ start
start_is start e = refl
start_is (statement s) e = absurd (cc)
start_is return_site e = absurd (cc)
start_is exit e = absurd (cc)

return_is : (s : Spot) → at_return ≡ value_of_spot s → s ≡ return_site
return_is start e = absurd (cc)
return_is (statement s) e = absurd (cc)
return_is return_site e = refl
return_is exit e = absurd (cc)

exit_is : (s : Spot) → at_exit ≡ value_of_spot s → s ≡ exit
exit_is start e = absurd (cc)
exit_is (statement s) e = absurd (cc)
exit_is return_site e = absurd (cc)
exit_is exit e = refl

inner : (u v : StatementValue) → at_statement u ≡ at_statement v → u ≡ v
inner u v e = cc

stated : (u s : Statement) → other u ≡ value_of_statement s → s ≡ u
stated u (Assign x e) is = cc
stated u Skip is = cc
stated u (At l) is = cc
stated u (Goto l) is = cc
stated u (Branch l) is = cc
stated u (Call x callees arguments) is = absurd (cc)
stated u (Return y) is = cc

other_is : (u : Statement) (s : Spot) → at_statement (other u) ≡ value_of_spot s → s ≡ statement u
other_is u start e = absurd (cc)
other_is u (statement s) e = ap (λ t. statement t) (stated u s (inner (other u) (value_of_statement s) e))
other_is u return_site e = absurd (cc)
other_is u exit e = absurd (cc)

-- a call of these names
abbrev IsCallSpot : Option (List ℕ) → List (List ℕ) → List (List ℕ) → Spot → Type 0
IsCallSpot x callees arguments s = (d : Vec (List ℕ)) × (b : Vec (List ℕ)) × (s ≡ statement (Call x d b)) × (callees ≡ d.items) × (arguments ≡ b.items)

call_stated : (x : Option (List ℕ)) (callees arguments : List (List ℕ)) (s : Statement) → calling x callees arguments ≡ value_of_statement s → IsCallSpot x callees arguments (statement s)
call_stated x callees arguments (Assign y e) is = absurd (cc)
call_stated x callees arguments Skip is = absurd (cc)
call_stated x callees arguments (At l) is = absurd (cc)
call_stated x callees arguments (Goto l) is = absurd (cc)
call_stated x callees arguments (Branch l) is = absurd (cc)
call_stated x callees arguments (Call y d b) is =
    let target : x ≡ y = cc in
    let names : callees ≡ d.items = cc in
    let passed : arguments ≡ b.items = cc in
    (d, b, ap (λ (o : Option (List ℕ)). statement (Call o d b)) (sym target), names, passed)
call_stated x callees arguments (Return y) is = absurd (cc)

call_is : (x : Option (List ℕ)) (callees arguments : List (List ℕ)) (s : Spot) → at_statement (calling x callees arguments) ≡ value_of_spot s → IsCallSpot x callees arguments s
call_is x callees arguments start e = absurd (cc)
call_is x callees arguments (statement s) e = call_stated x callees arguments s (inner (calling x callees arguments) (value_of_statement s) e)
call_is x callees arguments return_site e = absurd (cc)
call_is x callees arguments exit e = absurd (cc)

abbrev IsPlainValue : SpotValue → Type 0
IsPlainValue at_start = Unit {0}
IsPlainValue at_return = Unit {0}
IsPlainValue at_exit = ⊥
IsPlainValue (at_statement (calling x callees arguments)) = ⊥
IsPlainValue (at_statement (other s)) = Unit {0}

plain_tells : (s : Spot) → (IsPlain s → IsPlainValue (value_of_spot s)) × (IsPlainValue (value_of_spot s) → IsPlain s)
plain_tells start = ((λ h. h), (λ h. h))
plain_tells (statement (Assign x e)) = ((λ h. h), (λ h. h))
plain_tells (statement Skip) = ((λ h. h), (λ h. h))
plain_tells (statement (At l)) = ((λ h. h), (λ h. h))
plain_tells (statement (Goto l)) = ((λ h. h), (λ h. h))
plain_tells (statement (Branch l)) = ((λ h. h), (λ h. h))
plain_tells (statement (Call x callees arguments)) = ((λ h. h), (λ h. h))
plain_tells (statement (Return y)) = ((λ h. h), (λ h. h))
plain_tells return_site = ((λ h. h), (λ h. h))
plain_tells exit = ((λ h. h), (λ h. h))

plain_same : (s t : Spot) → value_of_spot s ≡ value_of_spot t → IsPlain s → IsPlain t
plain_same s t e h = (plain_tells t).1 (subst IsPlainValue e ((plain_tells s).0 h))

-- ---- labels, procedures and facts
abbrev declares_value : List ℕ → StatementValue → Bool
declares_value l (calling x callees arguments) = false
declares_value l (other s) = declares l s

declares_is : (l : List ℕ) (s : Statement) → declares l s ≡ declares_value l (value_of_statement s)
declares_is l (Assign x e) = refl
declares_is l Skip = refl
declares_is l (At m) = refl
declares_is l (Goto m) = refl
declares_is l (Branch m) = refl
declares_is l (Call x callees arguments) = refl
declares_is l (Return y) = refl

flat_same : (ss ts : List Statement) → map value_of_statement ss ≡ map value_of_statement ts → (place : ℕ) → length (flat_map spots_on (take place ss)) ≡ length (flat_map spots_on (take place ts))
flat_same ss ts e place =
    length_same value_of_spot (flat_map spots_on (take place ss)) (flat_map spots_on (take place ts))
    (flat_are (take place ss) ∙ ap (flat_map values_on) (take_same value_of_statement place ss ts e) ∙ sym (flat_are (take place ts)))

label_same : (begin : ℕ) (a b : Procedure) → value_of_procedure a ≡ value_of_procedure b → (l : List ℕ) → label_from begin a l ≡ label_from begin b l
label_same begin a b e l =
    let ss = a.statements.items in
    let ts = b.statements.items in
    let same : map value_of_statement ss ≡ map value_of_statement ts = ap (λ (v : ProcedureValue). v.statements) e in
    map_agree (λ place. begin + 1 + length (flat_map spots_on (take place ss))) (λ place. begin + 1 + length (flat_map spots_on (take place ts)))
    (λ place. ap (λ n. begin + 1 + n) (flat_same ss ts same place)) (position (declares l) ss)
    ∙ ap (option_map (λ place. begin + 1 + length (flat_map spots_on (take place ts))))
    (position_same value_of_statement (declares l) (λ s t f. declares_is l s ∙ ap (declares_value l) f ∙ sym (declares_is l t)) ss ts same)

pub procedure_same : (ps qs : List Procedure) → AreSame ps qs → (name : List ℕ) → procedure_of ps name ≡ procedure_of qs name
procedure_same ps qs e name = position_same value_of_procedure (is_named name) (λ a b f. ap (λ (v : ProcedureValue). bytes_eq name v.name) f) ps qs e

parameters_same : (a b : Procedure) → value_of_procedure a ≡ value_of_procedure b → a.parameters.items ≡ b.parameters.items
parameters_same a b e = ap (λ (v : ProcedureValue). v.parameters) e

locals_same : (a b : Procedure) → value_of_procedure a ≡ value_of_procedure b → a.locals.items ≡ b.locals.items
locals_same a b e = ap (λ (v : ProcedureValue). v.locals) e

abbrev most_by : List ProcedureValue → ℕ
most_by [] = 0
most_by (v ∷ vs) = max (length v.parameters + length v.locals) (most_by vs)

most_are : (ps : List Procedure) → most_own ps ≡ most_by (map value_of_procedure ps)
most_are [] = refl
most_are (q ∷ ps) = ap (max (length q.parameters.items + length q.locals.items)) (most_are ps)

pub names_same : (gs hs : List (List ℕ)) (a b : Procedure) → gs ≡ hs → value_of_procedure a ≡ value_of_procedure b → names_at gs a ≡ names_at hs b
names_same gs hs a b globals e =
    ap (λ names. names_at names a) globals
    ∙ ap (λ names. codes "@zero" ∷ hs ++ codes "@result" ∷ names ++ a.locals.items) (parameters_same a b e)
    ∙ ap (λ names. codes "@zero" ∷ hs ++ codes "@result" ∷ b.parameters.items ++ names) (locals_same a b e)

-- ---- programs
pub globals_same : (p q : Program) → value_of p ≡ value_of q → globals_of p ≡ globals_of q
globals_same p q e = ap (λ (v : ProgramValue). v.globals) e

pub procedures_same : (p q : Program) → value_of p ≡ value_of q → AreSame (procedures_of p) (procedures_of q)
procedures_same p q e = ap (λ (v : ProgramValue). v.procedures) e

pub result_same : (p q : Program) → value_of p ≡ value_of q → result_of p ≡ result_of q
result_same p q e = ap (λ names. length names + 1) (globals_same p q e)

pub facts_same : (p q : Program) → value_of p ≡ value_of q → facts_of p ≡ facts_of q
facts_same p q e = omega (
  arith,
  ap length (globals_same p q e),
  most_are (procedures_of p),
  most_are (procedures_of q),
  ap most_by (procedures_same p q e),
)

abbrev edge_by : ℕ → EdgeKind → ℕ → ℕ → EdgeData
edge_by end k result facts = record { end = end; result = result; facts = facts; kind = k }

edge_same : (p q : Program) → value_of p ≡ value_of q → (end : ℕ) (k : EdgeKind) → edge_of p end k ≡ edge_of q end k
edge_same p q e end k = ap (λ n. edge_by end k n (facts_of p)) (result_same p q e) ∙ ap (edge_by end k (result_of q)) (facts_same p q e)

-- what stands in one stands in the other
pub procedure_there : (p q : Program) → value_of p ≡ value_of q → (i : ℕ) (a : Procedure) → slice_get (procedures_of p) i ≡ Some a → (b : Procedure) × (slice_get (procedures_of q) i ≡ Some b) × (value_of_procedure a ≡ value_of_procedure b)
procedure_there p q e i a at = get_same value_of_procedure (procedures_of p) (procedures_of q) (procedures_same p q e) i a at

node_there : (p q : Program) → value_of p ≡ value_of q → (n i : ℕ) (s : Spot) → slice_get (nodes_of (procedures_of p)) n ≡ Some (i, s) → (t : Spot) × (slice_get (nodes_of (procedures_of q)) n ≡ Some (i, t)) × (value_of_spot s ≡ value_of_spot t)
node_there p q e n i s at =
    let found = get_same value_of_node (nodes_of (procedures_of p)) (nodes_of (procedures_of q)) (nodes_same (procedures_of p) (procedures_of q) (procedures_same p q e)) n (i, s) at in
    let index : i ≡ found.0.0 = ap (λ (v : ℕ × SpotValue). v.0) found.2 in
    (found.0.1, found.1 ∙ ap (λ (j : ℕ). Some (j, found.0.1)) (sym index), ap (λ (v : ℕ × SpotValue). v.1) found.2)

-- what stands at a node of the other
record StandsThere (q : Program) (n i : ℕ) (a : Procedure) (s : Spot) : Type 0 where
  b : Procedure
  t : Spot
  stands : Stands q n i b t
  procedure : value_of_procedure a ≡ value_of_procedure b
  spot : value_of_spot s ≡ value_of_spot t

stands_there : (p q : Program) → value_of p ≡ value_of q → (n i : ℕ) (a : Procedure) (s : Spot) → Stands p n i a s → StandsThere q n i a s
stands_there p q e n i a s stands =
    let node = node_there p q e n i s stands.node in
    let owner = procedure_there p q e i a stands.owner in
    record { b = owner.0; t = node.0; stands = record { node = node.1; owner = owner.1 }; procedure = owner.2; spot = node.2 }

module _ (p q : Program) (e : value_of p ≡ value_of q) (a b : Procedure) (same : value_of_procedure a ≡ value_of_procedure b) where
  has_same : (name : List ℕ) (fact : ℕ) → HasFact p a name fact → HasFact q b name fact
  has_same name fact h = subst (λ names. position (bytes_eq name) names ≡ Some fact) (names_same (globals_of p) (globals_of q) a b (globals_same p q e) same) h

  gives_same : (target : ℕ) (x : Expression) (effect : Effect) → Gives p a target x effect → Gives q b target x effect
  gives_same target (expression.Number k) effect h = h
  gives_same target (expression.Copy y) effect h = (h.0, has_same y h.0 h.1, h.2)
  gives_same target (expression.Sum y k) effect h = (h.0, has_same y h.0 h.1, h.2)
  gives_same target (expression.Difference y k) effect h = (h.0, has_same y h.0 h.1, h.2)
  gives_same target expression.Unknown effect h = h
  gives_same target (expression.Mix y z) effect h = (h.0, h.1, has_same y h.0 h.2, has_same z h.1 h.3, h.4)

  assigned_same : (target : Option (List ℕ)) (fact : Option ℕ) → IsTargetFact p a target fact → IsTargetFact q b target fact
  assigned_same None fact h = h
  assigned_same (Some x) fact h = (h.0, has_same x h.0 h.1, h.2)

  passed_same : (xs ys : List (List ℕ)) (pairs : List (ℕ × ℕ)) → xs ≡ ys → ArePassed p a xs pairs → ArePassed q b ys pairs
  passed_same xs ys pairs names h = record {
    each_once = h.each_once ∙ ap length names;
    in_place = λ k x at.
        let r = h.in_place k x (ap (λ (ns : List (List ℕ)). slice_get ns k) names ∙ at) in
        (r.0, has_same x r.0 r.1, r.2 ∙ ap (λ (m : ℕ). Some (r.0, m + 1 + k)) (result_same p q e));
  }

  enter_same : Enter (result_of p + 1 + length a.parameters.items) (result_of p + 1 + length a.parameters.items + length a.locals.items)
      ≡ Enter (result_of q + 1 + length b.parameters.items) (result_of q + 1 + length b.parameters.items + length b.locals.items)
  enter_same =
      ap (λ (m : ℕ). Enter (m + 1 + length a.parameters.items) (m + 1 + length a.parameters.items + length a.locals.items)) (result_same p q e)
      ∙ ap (λ (ns : List (List ℕ)). Enter (result_of q + 1 + length ns) (result_of q + 1 + length ns + length a.locals.items)) (parameters_same a b same)
      ∙ ap (λ (ns : List (List ℕ)). Enter (result_of q + 1 + length b.parameters.items) (result_of q + 1 + length b.parameters.items + length ns)) (locals_same a b same)

  label_there : (i : ℕ) (l : List ℕ) (end : ℕ) → label_from (start_of (procedures_of p) i) a l ≡ Some end → label_from (start_of (procedures_of q) i) b l ≡ Some end
  label_there i l end h =
      sym (label_same (start_of (procedures_of q) i) a b same l)
      ∙ ap (λ m. label_from m a l) (sym (start_same (procedures_of p) (procedures_of q) (procedures_same p q e) i))
      ∙ h

  exit_there : (i : ℕ) → exit_of (procedures_of p) i ≡ exit_of (procedures_of q) i
  exit_there i = exit_same (procedures_of p) (procedures_of q) (procedures_same p q e) i

  module _ (n i end : ℕ) (effect : Effect) where
    move : (s t : Spot) → t ≡ s → Goes q n i b s end effect → Goes q n i b t end effect
    move s t is h = subst (λ (r : Spot). Goes q n i b r end effect) (sym is) h

    goes_same : (s t : Spot) → value_of_spot s ≡ value_of_spot t → Goes p n i a s end effect → Goes q n i b t end effect
    goes_same start t is h = move start t (start_is t is) (h.0, h.1 ∙ enter_same)
    goes_same (statement (Assign x y)) t is h = move (statement (Assign x y)) t (other_is (Assign x y) t is) (h.0, h.1, has_same x h.1 h.2, gives_same h.1 y effect h.3)
    goes_same (statement Skip) t is h = move (statement Skip) t (other_is Skip t is) h
    goes_same (statement (At l)) t is h = move (statement (At l)) t (other_is (At l) t is) h
    goes_same (statement (Goto l)) t is h = move (statement (Goto l)) t (other_is (Goto l) t is) (label_there i l end h.0, h.1)
    goes_same (statement (Branch l)) t is h =
        let either : (end ≡ n + 1) ⊎ (label_from (start_of (procedures_of q) i) b l ≡ Some end) = elim h.0 [ inl next ↦ inl next | inr there ↦ inr (label_there i l end there) ] in
        move (statement (Branch l)) t (other_is (Branch l) t is) (either, h.1)
    goes_same (statement (Call x callees arguments)) t is h = absurd h
    goes_same (statement (Return None)) t is h = move (statement (Return None)) t (other_is (Return None) t is) (h.0 ∙ exit_there i, h.1)
    goes_same (statement (Return (Some y))) t is h =
        move (statement (Return (Some y))) t (other_is (Return (Some y)) t is)
        (h.0 ∙ exit_there i, h.1, has_same y h.1 h.2, h.3 ∙ ap (λ (m : ℕ). Copy m h.1) (result_same p q e))
    goes_same return_site t is h = move return_site t (return_is t is) h
    goes_same exit t is h = absurd h

-- a call of the other program with the same names
record CallThere (p q : Program) (n : ℕ) (at : CallAt p n) : Type 0 where
  call : CallAt q n
  procedure : value_of_procedure at.procedure ≡ value_of_procedure call.procedure
  target : at.target ≡ call.target
  callees : at.callees.items ≡ call.callees.items
  arguments : at.arguments.items ≡ call.arguments.items

module _ (p q : Program) (e : value_of p ≡ value_of q) (n : ℕ) where
  normal_same : (edge : EdgeData) → IsNormal p n edge → IsNormal q n edge
  normal_same edge h =
      let there = stands_there p q e n h.index h.procedure h.spot h.stands in
      record {
        index = h.index;
        procedure = there.b;
        spot = there.t;
        effect = h.effect;
        stands = there.stands;
        goes = goes_same p q e h.procedure there.b there.procedure n h.index edge.end h.effect h.spot there.t there.spot h.goes;
        is = h.is ∙ edge_same p q e edge.end (kind.Normal h.effect);
      }

  call_there : (at : CallAt p n) → CallThere p q n at
  call_there at =
      let there = stands_there p q e n at.index at.procedure (statement (Call at.target at.callees at.arguments)) at.stands in
      let is = call_is at.target at.callees.items at.arguments.items there.t there.spot in
      record {
        call = record {
          index = at.index;
          procedure = there.b;
          target = at.target;
          callees = is.0;
          arguments = is.1;
          stands = subst (λ (t : Spot). Stands q n at.index there.b t) is.2 there.stands;
        };
        procedure = there.procedure;
        target = refl;
        callees = is.3;
        arguments = is.4;
      }

  callee_there : (at : CallAt p n) (callee : ℕ) → IsCallee p at.callees.items callee → IsCallee q (call_there at).call.callees.items callee
  callee_there at callee h = (
    h.0,
    subst (λ (ns : List (List ℕ)). Contains ns h.0) (call_there at).callees h.1,
    sym (procedure_same (procedures_of p) (procedures_of q) (procedures_same p q e) h.0) ∙ h.2,
  )

  target_there : (at : CallAt p n) (fact : Option ℕ) → IsTargetFact p at.procedure at.target fact → IsTargetFact q (call_there at).call.procedure (call_there at).call.target fact
  target_there at fact h =
      let there = call_there at in
      subst (λ (x : Option (List ℕ)). IsTargetFact q there.call.procedure x fact) there.target (assigned_same p q e at.procedure there.call.procedure there.procedure at.target fact h)

  call_same : (callee : ℕ) (edge : EdgeData) → IsCall p n callee edge → IsCall q n callee edge
  call_same callee edge h =
      let there = call_there h.call in
      record {
        call = there.call;
        called = callee_there h.call callee h.called;
        pairs = h.pairs;
        passed = passed_same p q e h.call.procedure there.call.procedure there.procedure h.call.arguments.items there.call.arguments.items h.pairs there.arguments h.passed;
        is =
            h.is
            ∙ ap (λ (m : ℕ). edge_of p m (kind.Call h.pairs)) (start_same (procedures_of p) (procedures_of q) (procedures_same p q e) callee)
            ∙ edge_same p q e (start_of (procedures_of q) callee) (kind.Call h.pairs);
      }

  along_same : (edge : EdgeData) → IsAlong p n edge → IsAlong q n edge
  along_same edge h = record {
    call = (call_there h.call).call;
    target = h.target;
    assigned = target_there h.call h.target h.assigned;
    is = h.is ∙ edge_same p q e (n + 1) (kind.CallToReturn h.target);
  }

  back_same : (callee : ℕ) (edge : EdgeData) → IsBack p n callee edge → IsBack q n callee edge
  back_same callee edge h = record {
    call = (call_there h.call).call;
    called = callee_there h.call callee h.called;
    target = h.target;
    assigned = target_there h.call h.target h.assigned;
    is = h.is ∙ edge_same p q e (n + 1) (kind.Return h.target);
  }

  call_from : (edge : EdgeData) → IsCallFrom p n edge → IsCallFrom q n edge
  call_from edge h = (h.0, call_same h.0 edge h.1)

  plain_node : IsPlainNode p n → IsPlainNode q n
  plain_node h =
      let there = node_there p q e n h.index h.spot h.node in
      record { index = h.index; spot = there.0; node = there.1; plain = plain_same h.spot there.0 there.2 h.plain }

caller_same : (p q : Program) → value_of p ≡ value_of q → (callee : ℕ) (c : Caller) → IsCallerOf p callee c → IsCallerOf q callee c
caller_same p q e callee c h = (call_same p q e c.call_node callee c.call h.0, back_same p q e c.call_node callee c.back h.1)

-- a site of one is a site of the other
pub site_same : (p q : Program) → value_of p ≡ value_of q → (n : ℕ) (s : Site) → IsSiteOf p n s → IsSiteOf q n s
site_same p q e n (site.Normal edges) h =
    (plain_node p q e n h.0, lists_same (λ (x : EdgeData). x.end) (IsNormal p n) (IsNormal q n) edges (normal_same p q e n) (normal_same q p (sym e) n) h.1)
site_same p q e n (site.Call calls other_edge) h =
    (lists_same (λ (x : EdgeData). x.end) (IsCallFrom p n) (IsCallFrom q n) calls (call_from p q e n) (call_from q p (sym e) n) h.0, along_same p q e n other_edge h.1)
site_same p q e n (site.Exit begin callers) h =
    let there = node_there p q e n h.index exit h.node in
    record {
      index = h.index;
      node = there.1 ∙ ap (λ (t : Spot). Some (h.index, t)) (exit_is there.0 there.2);
      begins = h.begins ∙ start_same (procedures_of p) (procedures_of q) (procedures_same p q e) h.index;
      listed = lists_same (λ (c : Caller). c.call_node) (IsCallerOf p h.index) (IsCallerOf q h.index) callers (caller_same p q e h.index) (caller_same q p (sym e) h.index) h.listed;
    }

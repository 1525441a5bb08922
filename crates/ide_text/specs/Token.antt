-- Tokens, and how they are spelled.
use Rattle.std.specs.Prelude.{ℕ, List, [], ◌∷◌, ◌++◌, Option, Some, None, codes, decimal, map, length, false, ◌≡◌, ◌==◌, ◌≤◌}
use Rattle.std.specs.List.{All, AllByRecursion, slice_split}
use Rattle.ide_text.specs.declared.token.Token.{Token}
use Rattle.ide_text.specs.declared.token.Token.TheVariants as token
use Rattle.ide_text.specs.declared.line.Line.{Line}
use Rattle.ide_text.specs.declared.line.Line.TheVariants.{Global, Procedure as Begin, Local, End, Statement as Step}
use Rattle.ide_text.specs.declared.program.Statement.{Statement}
use Rattle.ide_text.specs.declared.program.Statement.TheVariants.{Assign, Skip, At, Goto, Branch, Call, Return}
use Rattle.ide_text.specs.declared.program.Expression.{Expression}
use Rattle.ide_text.specs.declared.program.Expression.TheVariants.{Number, Copy, Sum, Difference, Unknown, Mix}
use Rattle.ide_text.specs.Grammar.{IsName, IsNumber}

-- how a token is spelled
abbrev pub token_text : Token → List ℕ
token_text token.Global = codes "global"
token_text token.Proc = codes "proc"
token_text token.Var = codes "var"
token_text token.End = codes "end"
token_text token.Skip = codes "skip"
token_text token.At = codes "at"
token_text token.Goto = codes "goto"
token_text token.Branch = codes "branch"
token_text token.Call = codes "call"
token_text token.Return = codes "return"
token_text token.Mix = codes "mix"
token_text token.Equals = codes "="
token_text token.Plus = codes "+"
token_text token.Minus = codes "-"
token_text token.Question = codes "?"
token_text token.Bar = codes "|"
token_text (token.Name name) = name
token_text (token.Number n) = decimal n

-- a token of the grammar
abbrev pub IsToken : Token → Type 0
IsToken (token.Name name) = IsName name
IsToken (token.Number n) = IsNumber n
IsToken _ = Unit {0}

-- names as tokens
abbrev pub name_tokens : List (List ℕ) → List Token
name_tokens names = map (λ name. token.Name name) names

-- the tokens of callees behind the first, each after a `|`
abbrev pub bar_tokens : List (List ℕ) → List Token
bar_tokens [] = []
bar_tokens (callee ∷ callees) = token.Bar ∷ token.Name callee ∷ bar_tokens callees

-- the tokens of callees, parted by `|`
abbrev pub callee_tokens : List (List ℕ) → List Token
callee_tokens [] = []
callee_tokens (callee ∷ callees) = token.Name callee ∷ bar_tokens callees

-- the tokens of what an assignment gives
abbrev pub expression_tokens : Expression → List Token
expression_tokens (Number n) = token.Number n ∷ []
expression_tokens (Copy y) = token.Name y ∷ []
expression_tokens (Sum y n) = token.Name y ∷ token.Plus ∷ token.Number n ∷ []
expression_tokens (Difference y n) = token.Name y ∷ token.Minus ∷ token.Number n ∷ []
expression_tokens Unknown = token.Question ∷ []
expression_tokens (Mix y z) = token.Mix ∷ token.Name y ∷ token.Name z ∷ []

-- the tokens before a call, where it has a target
abbrev pub target_tokens : Option (List ℕ) → List Token
target_tokens None = []
target_tokens (Some x) = token.Name x ∷ token.Equals ∷ []

-- the tokens of a return after its first, where it has a value
abbrev pub value_tokens : Option (List ℕ) → List Token
value_tokens None = []
value_tokens (Some y) = token.Name y ∷ []

-- the tokens of a statement
abbrev pub statement_tokens : Statement → List Token
statement_tokens (Assign x e) = token.Name x ∷ token.Equals ∷ expression_tokens e
statement_tokens Skip = token.Skip ∷ []
statement_tokens (At l) = token.At ∷ token.Name l ∷ []
statement_tokens (Goto l) = token.Goto ∷ token.Name l ∷ []
statement_tokens (Branch l) = token.Branch ∷ token.Name l ∷ []
statement_tokens (Call x callees arguments) = target_tokens x ++ token.Call ∷ callee_tokens callees.items ++ name_tokens arguments.items
statement_tokens (Return y) = token.Return ∷ value_tokens y

-- the tokens of a line
abbrev pub line_tokens : Line → List Token
line_tokens (Global g) = token.Global ∷ token.Name g ∷ []
line_tokens (Begin p parameters) = token.Proc ∷ token.Name p ∷ name_tokens parameters.items
line_tokens (Local x) = token.Var ∷ token.Name x ∷ []
line_tokens End = token.End ∷ []
line_tokens (Step s) = statement_tokens s

-- a call has a callee
abbrev pub HasCallee : Statement → Type 0
HasCallee (Call x callees arguments) = 1 ≤ length callees.items
HasCallee _ = Unit {0}

-- the same of a line that is a call
abbrev pub HasCalleeOnLine : Line → Type 0
HasCalleeOnLine (Step s) = HasCallee s
HasCalleeOnLine _ = Unit {0}

-- a statement that is no assignment and no call
abbrev pub IsStep : Statement → Type 0
IsStep (Assign x e) = ⊥
IsStep (Call x callees arguments) = ⊥
IsStep _ = Unit {0}

-- has no such byte
abbrev pub Lacks : ℕ → List ℕ → Type 0
Lacks byte bytes = All (λ b. (b == byte) ≡ false) bytes

-- the tokens are those between the spaces of a text
pub record Tokenizes (text : List ℕ) (tokens : List Token) : Type 0 where
  pub words : map token_text tokens ≡ slice_split (λ byte. byte == 32) text
  pub proper : AllByRecursion IsToken tokens

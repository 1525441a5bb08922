-- What a text may spell: names, numbers, lines and programs.
use Rattle.std.specs.Prelude.{ℕ, ◌^◌, ◌<◌, ◌≤◌, ◌≡◌, ◌==◌, ◌≢◌, Bool, ◌||◌, IsTrue, List, [], ◌∷◌, IfSome, length, codes}
use Rattle.std.specs.Char.{is_ascii_alphabetic, is_ascii_alphanumeric}
use Rattle.std.specs.List.{AllByRecursion, list_all}
use Rattle.ide_text.specs.declared.line.Line.{Line}
use Rattle.ide_text.specs.declared.line.Line.TheVariants.{Global, Procedure as Begin, Local, End, Statement as Step}
use Rattle.ide_text.specs.declared.program.Draft.{Draft}
use Rattle.ide_text.specs.declared.program.Procedure.{Procedure}
use Rattle.ide_text.specs.declared.program.Statement.{Statement}
use Rattle.ide_text.specs.declared.program.Statement.TheVariants.{Assign, Skip, At, Goto, Branch, Call, Return}
use Rattle.ide_text.specs.declared.program.Expression.{Expression}
use Rattle.ide_text.specs.declared.program.Expression.TheVariants.{Number, Copy, Sum, Difference, Unknown, Mix}
use Rattle.ide_text.specs.Draft.{draft_globals, draft_procedures}
use Rattle.ide_text.specs.Text.{draft_text}

-- a byte that a name may begin with: an ASCII letter or `_`
abbrev pub begins_name : ℕ → Bool
begins_name byte = is_ascii_alphabetic byte || byte == 95

-- a byte that may follow in a name: an ASCII letter, a digit or `_`
abbrev pub continues_name : ℕ → Bool
continues_name byte = is_ascii_alphanumeric byte || byte == 95

-- the words that are no names
abbrev pub reserved_words : List (List ℕ)
reserved_words =
    codes "global" ∷ codes "proc" ∷ codes "var" ∷ codes "end" ∷ codes "skip" ∷ codes "at"
    ∷ codes "goto" ∷ codes "branch" ∷ codes "call" ∷ codes "return" ∷ codes "mix" ∷ []

-- 1 to 31 bytes that a name may have, each where it stands
abbrev pub HasNameBytes : List ℕ → Type 0
HasNameBytes [] = ⊥
HasNameBytes (first ∷ rest) = IsTrue (begins_name first) × IsTrue (list_all continues_name rest) × (length rest ≤ 30)

-- a name: such bytes, and no reserved word
abbrev pub IsName : List ℕ → Type 0
IsName name = HasNameBytes name × AllByRecursion (λ word. name ≢ word) reserved_words

-- a number of the grammar
abbrev pub IsNumber : ℕ → Type 0
IsNumber n = n < 2 ^ 64

-- what an assignment gives, of names and numbers
abbrev pub IsExpression : Expression → Type 0
IsExpression (Number n) = IsNumber n
IsExpression (Copy y) = IsName y
IsExpression (Sum y n) = IsName y × IsNumber n
IsExpression (Difference y n) = IsName y × IsNumber n
IsExpression Unknown = Unit {0}
IsExpression (Mix y z) = IsName y × IsName z

-- a statement of names and numbers, in which a call has a callee; how many it may have is said of the draft's names
abbrev pub IsStatement : Statement → Type 0
IsStatement (Assign x e) = IsName x × IsExpression e
IsStatement Skip = Unit {0}
IsStatement (At l) = IsName l
IsStatement (Goto l) = IsName l
IsStatement (Branch l) = IsName l
IsStatement (Call x callees arguments) =
    IfSome x IsName × (1 ≤ length callees.items) × AllByRecursion IsName callees.items × AllByRecursion IsName arguments.items
IsStatement (Return y) = IfSome y IsName

-- a line of the grammar
abbrev pub IsLine : Line → Type 0
IsLine (Global g) = IsName g
IsLine (Begin p parameters) = IsName p × AllByRecursion IsName parameters.items
IsLine (Local x) = IsName x
IsLine End = Unit {0}
IsLine (Step s) = IsStatement s

-- a procedure, each line of it of the grammar
pub record IsProcedure (p : Procedure) : Type 0 where
  pub name : IsName p.name
  pub parameters : AllByRecursion IsName p.parameters.items
  pub locals : AllByRecursion IsName p.locals.items
  pub statements : AllByRecursion IsStatement p.statements.items

-- a draft, each line of it of the grammar
pub record IsProgram (p : Draft) : Type 0 where
  pub globals : AllByRecursion IsName (draft_globals p)
  pub procedures : AllByRecursion IsProcedure (draft_procedures p)

-- the text is that of the draft, which is of the grammar
pub record Spells (text : List ℕ) (p : Draft) : Type 0 where
  pub same : draft_text p ≡ text
  pub proper : IsProgram p

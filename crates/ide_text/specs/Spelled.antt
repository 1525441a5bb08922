-- Whether tokens spell a statement, for the readers of lines.
use Rattle.std.specs.Prelude.{◌≡◌, ◌≢◌, ◌≤◌, ℕ, List, ◌∷◌, ◌++◌, length}
use Rattle.ide_text.specs.declared.flaw.Flaw.{Flaw}
use Rattle.ide_text.specs.declared.program.Statement.{Statement}
use Rattle.ide_text.specs.declared.token.Token.{Token}
use Rattle.ide_text.specs.declared.token.Token.TheVariants as token
use Rattle.ide_text.specs.Flaw.{IsNoLine}
use Rattle.ide_text.specs.Token.{HasCallee, callee_tokens, name_tokens, statement_tokens}

-- the tokens spell the statement, which calls some procedure if it calls
abbrev pub Spell : List Token → Statement → Type 0
Spell tokens statement = (statement_tokens statement ≡ tokens) × HasCallee statement

-- only for tokens that spell no statement
abbrev pub SpellNone : List Token → Flaw → Type 0
SpellNone tokens = IsNoLine ((statement : Statement) → HasCallee statement → statement_tokens statement ≢ tokens)

-- all the callees in front of the tokens of a call, and what stands behind them
pub record AreCallees (tokens : List Token) (callees : List (List ℕ)) (rest : List Token) : Type 0 where
  pub some : 1 ≤ length callees
  pub split : callee_tokens callees ++ rest ≡ tokens
  pub all : (after : List Token) → rest ≢ token.Bar ∷ after

-- the tokens are no callees with arguments behind them
abbrev pub AreNoCall : List Token → Type 0
AreNoCall tokens = (callees arguments : List (List ℕ)) → 1 ≤ length callees → callee_tokens callees ++ name_tokens arguments ≢ tokens

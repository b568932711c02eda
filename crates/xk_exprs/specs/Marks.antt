-- Tokens as a tree keeps them: with an offset only where a tree has it. This project's own.
use Rattle.std.specs.Prelude.{ℕ, List, Option, Some, None, map}
use Rattle.xk_lexer.specs.declared.token.Sign.{Sign}
use Rattle.xk_lexer.specs.declared.token.Sign.TheVariants as sign
use Rattle.xk_lexer.specs.declared.token.Keyword.{Keyword}
use Rattle.xk_lexer.specs.declared.token.Keyword.TheVariants as keyword
use Rattle.xk_lexer.specs.declared.token.TokenKind.{TokenKind}
use Rattle.xk_lexer.specs.declared.token.TokenKind.TheVariants as kind
use Rattle.xk_lexer.specs.declared.token.Token.{Token}
use Rattle.xk_tree.specs.declared.tree.Operator.{Operator as Op}
use Rattle.xk_tree.specs.declared.tree.Operator.TheVariants as operator

-- The numbers called `at` in what follows are offsets. `Open` is a `(`, and `CloseAt` a `}`. `Unfit` is what no tree spells: bytes with which no
-- token begins, and digits that are no number of 64 bits or begin with a needless 0.
pub data Mark : Type 0 where
  Name : ℕ → List ℕ → Mark
  Number : ℕ → ℕ → Mark
  Operator : ℕ → Op → Mark
  Open : ℕ → Mark
  CloseAt : ℕ → Mark
  Symbol : Sign → Mark
  AsyncAt : ℕ → Mark
  FinishAt : ℕ → Mark
  ClockedAt : ℕ → Mark
  ClockAt : ℕ → Mark
  LongAt : ℕ → Mark
  Reserved : Keyword → Mark
  Unfit : Mark

-- the operator that a sign is
abbrev pub operator_of : Sign → Option Op
operator_of sign.Plus = Some operator.Plus
operator_of sign.Minus = Some operator.Minus
operator_of sign.Star = Some operator.Times
operator_of _ = None

abbrev pub sign_mark : ℕ → Sign → Mark
sign_mark at sign.Plus = Operator at operator.Plus
sign_mark at sign.Minus = Operator at operator.Minus
sign_mark at sign.Star = Operator at operator.Times
sign_mark at sign.LeftParen = Open at
sign_mark at sign.RightBrace = CloseAt at
sign_mark at s = Symbol s

abbrev pub keyword_mark : ℕ → Keyword → Mark
keyword_mark at keyword.Async = AsyncAt at
keyword_mark at keyword.Finish = FinishAt at
keyword_mark at keyword.Clocked = ClockedAt at
keyword_mark at keyword.Clock = ClockAt at
keyword_mark at keyword.Long = LongAt at
keyword_mark at k = Reserved k

abbrev pub kind_mark : ℕ → TokenKind → Mark
kind_mark at (kind.Name text) = Name at text.now
kind_mark at (kind.Keyword k) = keyword_mark at k
kind_mark at (kind.Number n) = Number at n
kind_mark at kind.BadNumber = Unfit
kind_mark at (kind.Sign s) = sign_mark at s
kind_mark at kind.Stray = Unfit

abbrev pub mark : Token → Mark
mark t = kind_mark t.at t.kind

abbrev pub marks : List Token → List Mark
marks ts = map mark ts

-- Tokens, and how signs and reserved words are spelled. The signs and words are X10's as far as X10 has them; the choice is this project's own.
use Rattle.std.specs.Prelude.{ℕ, List, Option, Some, None, codes, if◌then◌else◌}
use Rattle.std.specs.Str.{bytes_eq}
use Rattle.xk_lexer.specs.declared.token.Sign.{Sign}
use Rattle.xk_lexer.specs.declared.token.Sign.TheVariants as sign
use Rattle.xk_lexer.specs.declared.token.Keyword.{Keyword}
use Rattle.xk_lexer.specs.declared.token.Keyword.TheVariants as keyword
use Rattle.xk_lexer.specs.declared.token.TokenKind.{TokenKind}
use Rattle.xk_lexer.specs.declared.token.TokenKind.TheVariants as kind
use Rattle.xk_lexer.specs.declared.token.Token.{Token}

-- what a token is: `TokenKind` with the bytes of a name in place of where they lie
pub data Lexeme : Type 0 where
  Name : List ℕ → Lexeme
  Reserved : Keyword → Lexeme
  Number : ℕ → Lexeme
  BadNumber : Lexeme
  Symbol : Sign → Lexeme
  Stray : Lexeme

-- a token, and the offset of its first byte
pub record TokenValue : Type 0 where
  pub at : ℕ
  pub what : Lexeme

abbrev pub lexeme : TokenKind → Lexeme
lexeme (kind.Name text) = Name text.now
lexeme (kind.Keyword k) = Reserved k
lexeme (kind.Number n) = Number n
lexeme kind.BadNumber = BadNumber
lexeme (kind.Sign s) = Symbol s
lexeme kind.Stray = Stray

abbrev pub token_value : Token → TokenValue
token_value t = record { at = t.at; what = lexeme t.kind }

abbrev pub sign_text : Sign → List ℕ
sign_text sign.LeftParen = codes "("
sign_text sign.RightParen = codes ")"
sign_text sign.LeftBrace = codes "{"
sign_text sign.RightBrace = codes "}"
sign_text sign.Comma = codes ","
sign_text sign.Semicolon = codes ";"
sign_text sign.Colon = codes ":"
sign_text sign.Assign = codes "="
sign_text sign.Plus = codes "+"
sign_text sign.Minus = codes "-"
sign_text sign.Star = codes "*"
sign_text sign.Dot = codes "."
sign_text sign.DotDot = codes ".."
sign_text sign.Equal = codes "=="
sign_text sign.NotEqual = codes "!="
sign_text sign.Less = codes "<"
sign_text sign.LessEqual = codes "<="
sign_text sign.Greater = codes ">"
sign_text sign.GreaterEqual = codes ">="

-- the reserved word of this spelling
unfoldable pub keyword_of : List ℕ → Option Keyword
keyword_of text =
    if bytes_eq text (codes "shared") then Some keyword.Shared
    else if bytes_eq text (codes "def") then Some keyword.Def
    else if bytes_eq text (codes "val") then Some keyword.Val
    else if bytes_eq text (codes "var") then Some keyword.Var
    else if bytes_eq text (codes "if") then Some keyword.If
    else if bytes_eq text (codes "else") then Some keyword.Else
    else if bytes_eq text (codes "for") then Some keyword.For
    else if bytes_eq text (codes "in") then Some keyword.In
    else if bytes_eq text (codes "async") then Some keyword.Async
    else if bytes_eq text (codes "clocked") then Some keyword.Clocked
    else if bytes_eq text (codes "finish") then Some keyword.Finish
    else if bytes_eq text (codes "atomic") then Some keyword.Atomic
    else if bytes_eq text (codes "Clock") then Some keyword.Clock
    else if bytes_eq text (codes "Long") then Some keyword.Long
    else if bytes_eq text (codes "Console") then Some keyword.Console
    else None

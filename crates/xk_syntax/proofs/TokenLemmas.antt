-- The sign, the reserved word and the comparison that a token is.
use Rattle.std.proofs.Common.{◌≡◌, ℕ, List, Some, refl}
use Rattle.xk_lexer.specs.declared.token.Sign.{Sign}
use Rattle.xk_lexer.specs.declared.token.Sign.TheVariants as sign
use Rattle.xk_lexer.specs.declared.token.Keyword.{Keyword}
use Rattle.xk_lexer.specs.declared.token.Keyword.TheVariants as keyword
use Rattle.xk_exprs.specs.Marks.{Mark, sign_mark, keyword_mark}
use Rattle.xk_syntax.specs.Readers.{◌>>=◌, bind, sign_of, keyword_of, comparison_of, comparison_by}

pub sign_mark_is : (at : ℕ) (s : Sign) → sign_of (sign_mark at s) ≡ Some s
sign_mark_is at sign.LeftParen = refl
sign_mark_is at sign.RightParen = refl
sign_mark_is at sign.LeftBrace = refl
sign_mark_is at sign.RightBrace = refl
sign_mark_is at sign.Comma = refl
sign_mark_is at sign.Semicolon = refl
sign_mark_is at sign.Colon = refl
sign_mark_is at sign.Assign = refl
sign_mark_is at sign.Plus = refl
sign_mark_is at sign.Minus = refl
sign_mark_is at sign.Star = refl
sign_mark_is at sign.Dot = refl
sign_mark_is at sign.DotDot = refl
sign_mark_is at sign.Equal = refl
sign_mark_is at sign.NotEqual = refl
sign_mark_is at sign.Less = refl
sign_mark_is at sign.LessEqual = refl
sign_mark_is at sign.Greater = refl
sign_mark_is at sign.GreaterEqual = refl

pub keyword_mark_is : (at : ℕ) (k : Keyword) → keyword_of (keyword_mark at k) ≡ Some k
keyword_mark_is at keyword.Shared = refl
keyword_mark_is at keyword.Def = refl
keyword_mark_is at keyword.Val = refl
keyword_mark_is at keyword.Var = refl
keyword_mark_is at keyword.If = refl
keyword_mark_is at keyword.Else = refl
keyword_mark_is at keyword.For = refl
keyword_mark_is at keyword.In = refl
keyword_mark_is at keyword.Async = refl
keyword_mark_is at keyword.Clocked = refl
keyword_mark_is at keyword.Finish = refl
keyword_mark_is at keyword.Atomic = refl
keyword_mark_is at keyword.Clock = refl
keyword_mark_is at keyword.Long = refl
keyword_mark_is at keyword.Console = refl

pub comparison_mark_is : (at : ℕ) (s : Sign) (ts : List Mark) → comparison_by (sign_mark at s) ts ≡ (comparison_of s >>= λ c. Some (c, ts))
unfolding bind
comparison_mark_is at sign.LeftParen ts = refl
comparison_mark_is at sign.Plus ts = refl
comparison_mark_is at sign.Minus ts = refl
comparison_mark_is at sign.Star ts = refl
comparison_mark_is at _ ts = refl

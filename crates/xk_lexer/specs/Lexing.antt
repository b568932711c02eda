-- A text read from left to right, a piece at a time. This project's own.
use Rattle.std.specs.Prelude.{ℕ, zero, suc, ◌+◌, ◌-◌, ◌^◌, ◌==◌, nat_le, Bool, false, ◌&&◌, List, [], ◌∷◌, length, take, Option, Some, None, option_map, unwrap_or, if◌then◌else◌}
use Rattle.std.specs.List.{prefix_len}
use Rattle.xk_lexer.specs.declared.token.Sign.{Sign}
use Rattle.xk_lexer.specs.declared.token.Sign.TheVariants as sign
use Rattle.xk_lexer.specs.Tokens.{Lexeme, Symbol, Stray, TokenValue}
use Rattle.xk_lexer.specs.Pieces.{is_blank, is_letter, is_digit, is_word_byte, isnt_line_feed, decimal, slash, star, word_of, number_of, with_token}

-- ---- parts

abbrev pub begins_close : List ℕ → Bool
begins_close [] = false
begins_close (a ∷ []) = false
begins_close (a ∷ b ∷ bs) = a == star && b == slash

-- how many bytes stand before the first `*/`
abbrev pub closing : List ℕ → Option ℕ
closing [] = None
closing (b ∷ bs) = if begins_close (b ∷ bs) then Some 0 else option_map suc (closing bs)

-- the value of digits, if it is at most 2 to the 63rd
abbrev pub value_of : List ℕ → Option ℕ
value_of ds = if nat_le (decimal 0 ds) (2 ^ 63) then Some (decimal 0 ds) else None

-- the sign of this one byte
unfoldable pub sign_of_one : ℕ → Option Sign
sign_of_one a =
    if a == 40 then Some sign.LeftParen
    else if a == 41 then Some sign.RightParen
    else if a == 123 then Some sign.LeftBrace
    else if a == 125 then Some sign.RightBrace
    else if a == 44 then Some sign.Comma
    else if a == 59 then Some sign.Semicolon
    else if a == 58 then Some sign.Colon
    else if a == 61 then Some sign.Assign
    else if a == 43 then Some sign.Plus
    else if a == 45 then Some sign.Minus
    else if a == 42 then Some sign.Star
    else if a == 46 then Some sign.Dot
    else if a == 60 then Some sign.Less
    else if a == 62 then Some sign.Greater
    else None

-- the sign of these two bytes
unfoldable pub sign_of_two : ℕ → ℕ → Option Sign
sign_of_two a b =
    if b == 61 then
    (if a == 61 then Some sign.Equal
    else if a == 33 then Some sign.NotEqual
    else if a == 60 then Some sign.LessEqual
    else if a == 62 then Some sign.GreaterEqual
    else None)
    else if a == 46 && b == 46 then Some sign.DotDot
    else None

-- ---- the front of a text: perhaps a token, and how many bytes it takes

abbrev pub two_at : List ℕ → Option Sign
two_at [] = None
two_at (a ∷ []) = None
two_at (a ∷ b ∷ bs) = sign_of_two a b

abbrev pub one_at : List ℕ → Option Sign
one_at [] = None
one_at (a ∷ bs) = sign_of_one a

abbrev pub sign_or : List ℕ → Option Sign → Option Sign → Option Lexeme × ℕ
sign_or text (Some s) o = (Some (Symbol s), 2)
sign_or text None (Some s) = (Some (Symbol s), 1)
sign_or text None None = (Some Stray, length text)

unfoldable pub sign_at : List ℕ → Option Lexeme × ℕ
sign_at text = sign_or text (two_at text) (one_at text)

abbrev pub block_comment : List ℕ → Option ℕ → Option Lexeme × ℕ
block_comment text (Some n) = (None, n + 4)
block_comment text None = (Some Stray, length text)

unfoldable pub comment_at : List ℕ → Option (Option Lexeme × ℕ)
comment_at [] = None
comment_at (a ∷ []) = None
comment_at (a ∷ b ∷ bs) =
    if a == 47 then
    (if b == 47 then Some (None, prefix_len isnt_line_feed bs + 2)
    else if b == star then Some (block_comment (a ∷ b ∷ bs) (closing bs))
    else None)
    else None

-- the bytes from the front on that pass, as a token
abbrev pub token_of_run : (ℕ → Bool) → (List ℕ → Lexeme) → List ℕ → Option Lexeme × ℕ
token_of_run p what text = (Some (what (take (prefix_len p text) text)), prefix_len p text)

unfoldable pub piece_at : ℕ → List ℕ → Option Lexeme × ℕ
piece_at b text =
    if is_blank b then (None, 1)
    else if is_letter b then token_of_run is_word_byte word_of text
    else if is_digit b then token_of_run is_digit number_of text
    else unwrap_or (comment_at text) (sign_at text)

-- the same, where the text isn't at its end
abbrev pub front_at : List ℕ → Option (Option Lexeme × ℕ)
front_at [] = None
front_at (b ∷ bs) = Some (piece_at b (b ∷ bs))

-- ---- the whole text

-- the tokens, where the first `skip` bytes belong to the piece before
abbrev pub lexed_from : ℕ → ℕ → List ℕ → List TokenValue
lexed_from skip at [] = []
lexed_from (suc k) at (b ∷ bs) = lexed_from k (suc at) bs
lexed_from zero at (b ∷ bs) =
    let p = piece_at b (b ∷ bs) in with_token at p.0 (lexed_from (p.1 - 1) (suc at) bs)

-- the tokens of a text; where at some place none begins, the rest from there on is a stray one
abbrev pub lexed : List ℕ → List TokenValue
lexed text = lexed_from 0 0 text

-- What a text spells. It is cut into pieces, each as long as can be: blanks, comments, and those that are tokens.
-- Which pieces there are is this project's own, in the manner of X10.
use Rattle.std.specs.Prelude.{◌≡◌, ◌≢◌, ℕ, ◌+◌, ◌-◌, ◌*◌, ◌^◌, ◌≤◌, ◌==◌, nat_le, ◌⊎◌, Bool, true, false, IsTrue, IsFalse, not, ◌&&◌, ◌||◌, List, [], ◌∷◌, ◌++◌, length, map, Option, Some, None, if◌then◌else◌}
use Rattle.std.specs.List.{list_all, list_any}
use Rattle.xk_lexer.specs.declared.token.Sign.{Sign}
use Rattle.xk_lexer.specs.declared.token.Keyword.{Keyword}
use Rattle.xk_lexer.specs.Tokens.{Lexeme, Name, Reserved, Number, BadNumber, Symbol, Stray, TokenValue, keyword_of, sign_text}

-- ---- bytes

-- a space, tab, line feed or carriage return
abbrev pub is_blank : ℕ → Bool
is_blank b = b == 32 || b == 9 || b == 10 || b == 13

-- an ASCII letter, or `_`
abbrev pub is_letter : ℕ → Bool
is_letter b = (nat_le 97 b && nat_le b 122) || (nat_le 65 b && nat_le b 90) || b == 95

-- `0` to `9`
abbrev pub is_digit : ℕ → Bool
is_digit b = nat_le 48 b && nat_le b 57

abbrev pub is_word_byte : ℕ → Bool
is_word_byte b = is_letter b || is_digit b

abbrev pub isnt_line_feed : ℕ → Bool
isnt_line_feed b = not (b == 10)

abbrev pub slash : ℕ
slash = 47

abbrev pub star : ℕ
star = 42

-- whether the first byte, if there is one, passes
abbrev pub begins : (ℕ → Bool) → List ℕ → Bool
begins p [] = false
begins p (b ∷ bs) = p b

-- ---- words and digit runs

abbrev pub word_or_name : List ℕ → Option Keyword → Lexeme
word_or_name text (Some k) = Reserved k
word_or_name text None = Name text

-- what a word is
abbrev pub word_of : List ℕ → Lexeme
word_of text = word_or_name text (keyword_of text)

-- the number that digits stand for, where those before them stand for v
abbrev pub decimal : ℕ → List ℕ → ℕ
decimal v [] = v
decimal v (d ∷ ds) = decimal (v * 10 + (d - 48)) ds

-- a 0 before other digits
abbrev pub has_leading_zero : List ℕ → Bool
has_leading_zero [] = false
has_leading_zero (d ∷ []) = false
has_leading_zero (d ∷ e ∷ ds) = d == 48

-- What a digit run is: with a needless 0 in front, or a value above 2 to the 63rd, it is a bad number. That is a token
-- too, so that whoever reads tokens can say where it stands.
unfoldable pub number_of : List ℕ → Lexeme
number_of ds =
    if has_leading_zero ds then BadNumber
    else if nat_le (decimal 0 ds) (2 ^ 63) then Number (decimal 0 ds)
    else BadNumber

-- ---- pieces

-- blanks and comments, which stand between tokens, and tokens
pub data Piece : Type 0 where
  Blank : ℕ → Piece
  LineComment : List ℕ → Piece
  BlockComment : List ℕ → Piece
  Word : List ℕ → Piece
  Digits : List ℕ → Piece
  Mark : Sign → Piece

-- its bytes
abbrev pub piece_text : Piece → List ℕ
piece_text (Blank b) = b ∷ []
piece_text (LineComment body) = slash ∷ slash ∷ body
piece_text (BlockComment body) = slash ∷ star ∷ (body ++ star ∷ slash ∷ [])
piece_text (Word text) = text
piece_text (Digits digits) = digits
piece_text (Mark s) = sign_text s

-- a run of bytes: the first is of one sort, all are of another, and none of these follows
abbrev pub IsRun : (ℕ → Bool) → (ℕ → Bool) → List ℕ → List ℕ → Type 0
IsRun first each text after =
    IsTrue (begins first text) × IsTrue (list_all each text) × IsFalse (begins each after)

-- up to the line's end or the text's end
abbrev pub IsToLineEnd : List ℕ → List ℕ → Type 0
IsToLineEnd body after = IsTrue (list_all isnt_line_feed body) × IsFalse (begins isnt_line_feed after)

-- up to a `*/`, and there is none before
abbrev pub IsToFirstClose : List ℕ → Type 0
IsToFirstClose body =
    (front back : List ℕ)
    → body ++ star ∷ slash ∷ [] ≡ front ++ star ∷ slash ∷ back → length body ≤ length front

-- no longer sign begins where it does
abbrev pub IsLongest : Sign → List ℕ → Type 0
IsLongest s after =
    (t : Sign) (back : List ℕ)
    → sign_text s ++ after ≡ sign_text t ++ back → length (sign_text t) ≤ length (sign_text s)

-- a piece is of its form, and as long as can be where `after` follows
abbrev pub IsPiece : Piece → List ℕ → Type 0
IsPiece (Blank b) after = IsTrue (is_blank b)
IsPiece (LineComment body) after = IsToLineEnd body after
IsPiece (BlockComment body) after = IsToFirstClose body
IsPiece (Word text) after = IsRun is_letter is_word_byte text after
IsPiece (Digits digits) after = IsRun is_digit is_digit digits after
IsPiece (Mark s) after = IsLongest s after

-- these pieces, one after another, are what stands before `rest`
abbrev pub ArePieces : List Piece → List ℕ → List ℕ → Type 0
ArePieces [] text rest = text ≡ rest
ArePieces (p ∷ ps) text rest =
    (after : List ℕ) × (text ≡ piece_text p ++ after) × IsPiece p after × ArePieces ps after rest

-- ---- their tokens

-- the token that a piece is, if it is one
abbrev pub token_of : Piece → Option Lexeme
token_of (Blank b) = None
token_of (LineComment body) = None
token_of (BlockComment body) = None
token_of (Word text) = Some (word_of text)
token_of (Digits digits) = Some (number_of digits)
token_of (Mark s) = Some (Symbol s)

-- a token at this offset, if there is one, before others
abbrev pub with_token : ℕ → Option Lexeme → List TokenValue → List TokenValue
with_token at None ts = ts
with_token at (Some l) ts = record { at = at; what = l } ∷ ts

-- the tokens among pieces of which the first begins at this offset
abbrev pub tokens_at : ℕ → List Piece → List TokenValue
tokens_at at [] = []
tokens_at at (p ∷ ps) = with_token at (token_of p) (tokens_at (at + length (piece_text p)) ps)

-- the text is pieces, and these are their tokens
abbrev pub SpellsTokens : List ℕ → List TokenValue → Type 0
SpellsTokens text tokens = (ps : List Piece) × ArePieces ps text [] × (tokens ≡ tokens_at 0 ps)

-- ---- texts that spell none

-- no piece begins the text
abbrev pub HasNoPiece : List ℕ → Type 0
HasNoPiece text = (p : Piece) (after : List ℕ) → text ≡ piece_text p ++ after → ¬ IsPiece p after

-- a stray token at this offset
abbrev pub stray_at : ℕ → TokenValue
stray_at at = record { at = at; what = Stray }

-- The text is pieces up to a rest, not empty, that no piece begins. The tokens are those of the pieces, and the
-- rest as a stray one.
abbrev pub Strays : List ℕ → List TokenValue → Type 0
Strays text tokens =
    (ps : List Piece) × (rest : List ℕ) × ArePieces ps text rest × (rest ≢ []) × HasNoPiece rest
    × (tokens ≡ tokens_at 0 ps ++ stray_at (length text - length rest) ∷ [])

-- the text spells these tokens, or strays after all but the last
unfoldable pub IsReadAs : List ℕ → List TokenValue → Type 0
IsReadAs text tokens = SpellsTokens text tokens ⊎ Strays text tokens

abbrev pub is_stray : Lexeme → Bool
is_stray Stray = true
is_stray l = false

abbrev pub has_stray : List TokenValue → Bool
has_stray tokens = list_any (λ t. is_stray t.what) tokens

-- ---- offsets

abbrev pub offsets : List TokenValue → List ℕ
offsets tokens = map (λ t. t.at) tokens

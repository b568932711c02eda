-- Small texts, and what they spell.
use Rattle.std.proofs.Common.{◌≡◌, ℕ, IsTrue, IsFalse, List, [], ◌∷◌, ◌++◌, refl, ap, sym, subst, ◌∙◌, true≢false}
use Rattle.std.specs.Prelude.{codes}
use Rattle.xk_lexer.specs.declared.token.Keyword.TheVariants as keyword
use Rattle.xk_lexer.specs.declared.token.Sign.{Sign}
use Rattle.xk_lexer.specs.declared.token.Sign.TheVariants as sign
use Rattle.xk_lexer.specs.Tokens.{Lexeme, Name, Reserved, Number, BadNumber, Symbol, TokenValue, keyword_of}
use Rattle.xk_lexer.specs.Pieces.{SpellsTokens, Strays, has_stray, number_of, stray_at}
use Rattle.xk_lexer.specs.Lexing.{sign_of_one, sign_of_two, sign_at, comment_at, piece_at, lexed}
use Rattle.xk_lexer.proofs.LexingLemmas.{spelled_lexed, spelled_have_none, spelled_from_none, strayed_from_one}

-- ---- how a row is shown

abbrev token : ℕ → Lexeme → TokenValue
token at what = record { at = at; what = what }

abbrev name : ℕ → List ℕ → TokenValue
name at text = token at (Name text)

abbrev symbol : ℕ → Sign → TokenValue
symbol at s = token at (Symbol s)

spells : (text : List ℕ) (tokens : List TokenValue) → lexed text ≡ tokens → IsFalse (has_stray tokens) → SpellsTokens text tokens
spells text tokens read none = subst (SpellsTokens text) read (spelled_from_none text (ap has_stray read ∙ none))

-- it spells no tokens, and where it strays
abbrev SpellsNone : List ℕ → List TokenValue → Type 0
SpellsNone text tokens = Strays text tokens × ((others : List TokenValue) → ¬ SpellsTokens text others)

strays : (text : List ℕ) (tokens : List TokenValue) → lexed text ≡ tokens → IsTrue (has_stray tokens) → SpellsNone text tokens
strays text tokens read one = (
  subst (Strays text) read (strayed_from_one text (ap has_stray read ∙ one)),
  λ others h. true≢false (sym one ∙ ap has_stray (sym read ∙ spelled_lexed text others h) ∙ spelled_have_none text others h),
)

-- ---- words

no_bytes : SpellsTokens [] []
no_bytes = spells [] [] refl refl

reserved_words : SpellsTokens (codes "shared def val var if else for in async clocked finish atomic Clock Long Console")
    (token 0 (Reserved keyword.Shared) ∷ token 7 (Reserved keyword.Def) ∷ token 11 (Reserved keyword.Val) ∷ token 15 (Reserved keyword.Var) ∷ token 19 (Reserved keyword.If)
    ∷ token 22 (Reserved keyword.Else) ∷ token 27 (Reserved keyword.For) ∷ token 31 (Reserved keyword.In) ∷ token 34 (Reserved keyword.Async) ∷ token 40 (Reserved keyword.Clocked)
    ∷ token 48 (Reserved keyword.Finish) ∷ token 55 (Reserved keyword.Atomic)
    ∷ token 62 (Reserved keyword.Clock) ∷ token 68 (Reserved keyword.Long) ∷ token 73 (Reserved keyword.Console) ∷ [])
unfolding piece_at comment_at keyword_of
reserved_words = spells _ _ refl refl

-- a name may begin as a reserved word does; letters are great or small
names_like_them : SpellsTokens (codes "sharedx iff In clock long_ Clock2")
    (name 0 (codes "sharedx") ∷ name 8 (codes "iff") ∷ name 12 (codes "In") ∷ name 15 (codes "clock") ∷ name 21 (codes "long_") ∷ name 27 (codes "Clock2") ∷ [])
unfolding piece_at comment_at keyword_of
names_like_them = spells _ _ refl refl

underscores : SpellsTokens (codes "_a1 _") (name 0 (codes "_a1") ∷ name 4 (codes "_") ∷ [])
unfolding piece_at comment_at keyword_of
underscores = spells _ _ refl refl

-- ---- digit runs

digit_runs : SpellsTokens (codes "0 10 007 00") (token 0 (Number 0) ∷ token 2 (Number 10) ∷ token 5 BadNumber ∷ token 9 BadNumber ∷ [])
unfolding piece_at comment_at number_of
digit_runs = spells _ _ refl refl

greatest : SpellsTokens (codes "9223372036854775808 9223372036854775809 99999999999999999999999")
    (token 0 (Number 9223372036854775808) ∷ token 20 BadNumber ∷ token 40 BadNumber ∷ [])
unfolding piece_at comment_at number_of
greatest = spells _ _ refl refl

-- a digit run ends at a letter, and a sign before it is a token of its own
run_and_word : SpellsTokens (codes "12a-5") (token 0 (Number 12) ∷ name 2 (codes "a") ∷ symbol 3 sign.Minus ∷ token 4 (Number 5) ∷ [])
unfolding piece_at comment_at sign_at sign_of_one sign_of_two keyword_of number_of
run_and_word = spells _ _ refl refl

-- ---- signs

signs_of_one_byte : SpellsTokens (codes "(){},;:=+-*.<>")
    (symbol 0 sign.LeftParen ∷ symbol 1 sign.RightParen ∷ symbol 2 sign.LeftBrace ∷ symbol 3 sign.RightBrace ∷ symbol 4 sign.Comma ∷ symbol 5 sign.Semicolon ∷ symbol 6 sign.Colon
    ∷ symbol 7 sign.Assign ∷ symbol 8 sign.Plus ∷ symbol 9 sign.Minus ∷ symbol 10 sign.Star ∷ symbol 11 sign.Dot ∷ symbol 12 sign.Less ∷ symbol 13 sign.Greater ∷ [])
unfolding piece_at comment_at sign_at sign_of_one sign_of_two
signs_of_one_byte = spells _ _ refl refl

signs_of_two_bytes : SpellsTokens (codes "==!=<=>=..")
    (symbol 0 sign.Equal ∷ symbol 2 sign.NotEqual ∷ symbol 4 sign.LessEqual ∷ symbol 6 sign.GreaterEqual ∷ symbol 8 sign.DotDot ∷ [])
unfolding piece_at comment_at sign_at sign_of_one sign_of_two
signs_of_two_bytes = spells _ _ refl refl

-- the longest that fits, from the left
three_each : SpellsTokens (codes "===...<==")
    (symbol 0 sign.Equal ∷ symbol 2 sign.Assign ∷ symbol 3 sign.DotDot ∷ symbol 5 sign.Dot ∷ symbol 6 sign.LessEqual ∷ symbol 8 sign.Assign ∷ [])
unfolding piece_at comment_at sign_at sign_of_one sign_of_two
three_each = spells _ _ refl refl

-- a blank parts what would be one sign
parted : SpellsTokens (codes "= = . . =") (symbol 0 sign.Assign ∷ symbol 2 sign.Assign ∷ symbol 4 sign.Dot ∷ symbol 6 sign.Dot ∷ symbol 8 sign.Assign ∷ [])
unfolding piece_at comment_at sign_at sign_of_one sign_of_two
parted = spells _ _ refl refl

range : SpellsTokens (codes "a..b") (name 0 (codes "a") ∷ symbol 1 sign.DotDot ∷ name 3 (codes "b") ∷ [])
unfolding piece_at comment_at sign_at sign_of_one sign_of_two keyword_of
range = spells _ _ refl refl

member : SpellsTokens (codes "a.b") (name 0 (codes "a") ∷ symbol 1 sign.Dot ∷ name 2 (codes "b") ∷ [])
unfolding piece_at comment_at sign_at sign_of_one sign_of_two keyword_of
member = spells _ _ refl refl

range_of_numbers : SpellsTokens (codes "1..5") (token 0 (Number 1) ∷ symbol 1 sign.DotDot ∷ token 3 (Number 5) ∷ [])
unfolding piece_at comment_at sign_at sign_of_one sign_of_two number_of
range_of_numbers = spells _ _ refl refl

-- ---- blanks and comments

-- space, tab, line feed, carriage return
blanks : SpellsTokens (32 ∷ 9 ∷ 10 ∷ 13 ∷ codes "a") (name 4 (codes "a") ∷ [])
unfolding piece_at comment_at keyword_of
blanks = spells _ _ refl refl

-- a line comment ends at the line feed, at the text's end, and not at a carriage return
two_lines : SpellsTokens (codes "a//b" ++ 13 ∷ codes "c" ++ 10 ∷ codes "d") (name 0 (codes "a") ∷ name 7 (codes "d") ∷ [])
unfolding piece_at comment_at keyword_of
two_lines = spells _ _ refl refl

last_line : SpellsTokens (codes "a//") (name 0 (codes "a") ∷ [])
unfolding piece_at comment_at keyword_of
last_line = spells _ _ refl refl

-- a block comment goes over lines, and ends at the next `*/`
block : SpellsTokens (codes "a/*b" ++ 10 ∷ codes "*c*/d") (name 0 (codes "a") ∷ name 9 (codes "d") ∷ [])
unfolding piece_at comment_at keyword_of
block = spells _ _ refl refl

-- so they don't nest
comments_dont_nest : SpellsNone (codes "/*/**/c*/") (name 6 (codes "c") ∷ symbol 7 sign.Star ∷ stray_at 8 ∷ [])
unfolding piece_at comment_at sign_at sign_of_one sign_of_two keyword_of
comments_dont_nest = strays _ _ refl refl

empty_comments : SpellsTokens (codes "a/**/b/***/c/*/*/d") (name 0 (codes "a") ∷ name 5 (codes "b") ∷ name 11 (codes "c") ∷ name 17 (codes "d") ∷ [])
unfolding piece_at comment_at keyword_of
empty_comments = spells _ _ refl refl

-- one sort of comment doesn't begin in the other
in_one_another : SpellsTokens (codes "a//*" ++ 10 ∷ codes "b/*//*/c") (name 0 (codes "a") ∷ name 5 (codes "b") ∷ name 12 (codes "c") ∷ [])
unfolding piece_at comment_at keyword_of
in_one_another = spells _ _ refl refl

-- any bytes may stand in comments: here a letter e with an accent
accents_in_comments : SpellsTokens (codes "/*" ++ 195 ∷ 169 ∷ codes "*/a//" ++ 195 ∷ 169 ∷ []) (name 6 (codes "a") ∷ [])
unfolding piece_at comment_at keyword_of
accents_in_comments = spells _ _ refl refl

-- ---- stray

accent : SpellsNone (codes "a " ++ 195 ∷ 169 ∷ codes " b") (name 0 (codes "a") ∷ stray_at 2 ∷ [])
unfolding piece_at comment_at sign_at sign_of_one sign_of_two keyword_of
accent = strays _ _ refl refl

-- a name doesn't go on over such a letter
accent_in_a_word : SpellsNone (codes "caf" ++ 195 ∷ 169 ∷ []) (name 0 (codes "caf") ∷ stray_at 3 ∷ [])
unfolding piece_at comment_at sign_at sign_of_one sign_of_two keyword_of
accent_in_a_word = strays _ _ refl refl

unclosed : SpellsNone (codes "a /* b *") (name 0 (codes "a") ∷ stray_at 2 ∷ [])
unfolding piece_at comment_at sign_at sign_of_one sign_of_two keyword_of
unclosed = strays _ _ refl refl

-- the star of its beginning isn't that of its end
half_closed : SpellsNone (codes "/*/") (stray_at 0 ∷ [])
unfolding piece_at comment_at
half_closed = strays _ _ refl refl

lone_slash : SpellsNone (codes "a/b") (name 0 (codes "a") ∷ stray_at 1 ∷ [])
unfolding piece_at comment_at sign_at sign_of_one sign_of_two keyword_of
lone_slash = strays _ _ refl refl

lone_mark : SpellsNone (codes "a ! = b") (name 0 (codes "a") ∷ stray_at 2 ∷ [])
unfolding piece_at comment_at sign_at sign_of_one sign_of_two keyword_of
lone_mark = strays _ _ refl refl

-- a vertical tab is no blank
vertical_tab : SpellsNone (11 ∷ codes "a") (stray_at 0 ∷ [])
unfolding piece_at comment_at sign_at sign_of_one sign_of_two
vertical_tab = strays _ _ refl refl

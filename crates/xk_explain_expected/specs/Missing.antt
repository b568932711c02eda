-- What is missing before a token that can't stand where it stands: a sign between others, with which it and the next token could stand there. This
-- project's own.
use Rattle.std.specs.Prelude.{ℕ, nat_lt, Bool, true, false, not, ◌&&◌, List, [], ◌∷◌, ◌++◌, filter, Option, Some, None, codes}
use Rattle.std.specs.Prelude.{if◌then◌else◌}
use Rattle.xk_lexer.specs.Tokens.{TokenValue}
use Rattle.xk_explain_expected.specs.declared.terminal.Terminal.{Terminal}
use Rattle.xk_explain_expected.specs.declared.terminal.Terminal.TheVariants as terminal
use Rattle.xk_explain_expected.specs.declared.grammar.Symbol.{Symbol}
use Rattle.xk_explain_expected.specs.Grammar.{terminal_of, terminal_text}
use Rattle.xk_explain_expected.specs.Expected.{taken, takes, told_alone}

-- ---- what comes

-- the tokens that don't stand before an offset
abbrev pub tokens_from : ℕ → List TokenValue → List TokenValue
tokens_from at [] = []
tokens_from at (t ∷ ts) = if nat_lt t.at at then tokens_from at ts else t ∷ ts

-- the first of them, or the end of the text
abbrev pub first_terminal : List TokenValue → Terminal
first_terminal [] = terminal.End
first_terminal (t ∷ ts) = terminal_of t.what

-- and the one behind it, unless the first is the end
abbrev pub second_terminal : List TokenValue → Option Terminal
second_terminal [] = None
second_terminal (t ∷ ts) = Some (first_terminal ts)

-- ---- what is missing

-- a sign, or a word, that stands between others
abbrev pub joins : Terminal → Bool
joins terminal.Semicolon = true
joins terminal.Comma = true
joins terminal.RightParen = true
joins terminal.RightBrace = true
joins terminal.LeftParen = true
joins terminal.LeftBrace = true
joins terminal.Colon = true
joins terminal.Dot = true
joins terminal.DotDot = true
joins terminal.In = true
joins _ = false

-- a `;` would cut off a block from what stands before it
abbrev pub is_brace : Terminal → Bool
is_brace terminal.LeftBrace = true
is_brace _ = false

abbrev pub is_semicolon : Terminal → Bool
is_semicolon terminal.Semicolon = true
is_semicolon _ = false

abbrev pub may_join : Terminal → Terminal → Bool
may_join t first = joins t && not (is_semicolon t && is_brace first)

-- these can stand here, one behind the other
abbrev pub second_fits : Option (List Symbol) → Terminal → Bool
second_fits None t = false
second_fits (Some stack) t = takes stack t

abbrev pub both_fit : List Symbol → Terminal → Option Terminal → Bool
both_fit stack first None = takes stack first
both_fit stack first (Some t) = second_fits (taken stack first) t

-- the same behind a token
abbrev pub fits_on : Option (List Symbol) → Terminal → Option Terminal → Bool
fits_on None first second = false
fits_on (Some stack) first second = both_fit stack first second

abbrev pub is_missing : List Symbol → Terminal → Option Terminal → Terminal → Bool
is_missing stack first second t = may_join t first && fits_on (taken stack t) first second

abbrev pub missing : List Symbol → Terminal → Option Terminal → List Terminal
missing stack first second = filter (is_missing stack first second) told_alone

-- ---- the repair

-- ``write `;` before it``
unfoldable pub before_text : Terminal → List ℕ
before_text t = (codes "write " ++ terminal_text t) ++ codes " before it"

-- one sign alone is missing
abbrev pub missing_text : List Terminal → Option (List ℕ)
missing_text (t ∷ []) = Some (before_text t)
missing_text _ = None

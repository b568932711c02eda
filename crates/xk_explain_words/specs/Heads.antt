-- The statement that a place of a text stands in, by the words before it, which goes on behind a `;`, a `{` or a `}`; and how many `{` are open there. This project's own.
use Rattle.std.specs.Prelude.{ℕ, ◌+◌, ◌-◌, nat_lt, Bool, ◌||◌, List, [], ◌∷◌, drop, codes, if◌then◌else◌}
use Rattle.std.specs.Str.{bytes_eq}
use Rattle.xk_lexer.specs.Tokens.{TokenValue}
use Rattle.xk_lexer.specs.Lexing.{lexed}
use Rattle.xk_explain_words.specs.declared.heads.Head.{Head}
use Rattle.xk_explain_words.specs.declared.heads.Head.TheVariants as head
use Rattle.xk_explain_words.specs.Words.{begins, first_word}

-- by a word of the language; another one says nothing of it
unfoldable pub head_of_own : List ℕ → Head → Head
head_of_own word other =
    if bytes_eq word (codes "if") || bytes_eq word (codes "If") then head.If
    else if bytes_eq word (codes "for") || bytes_eq word (codes "For") then head.For
    else if bytes_eq word (codes "val") || bytes_eq word (codes "var") then head.Binding
    else if bytes_eq word (codes "shared") then head.Shared
    else if bytes_eq word (codes "atomic") then head.Atomic
    else if bytes_eq word (codes "def") then head.Def
    else if bytes_eq word (codes "Console") || (bytes_eq word (codes "console")
    || bytes_eq word (codes "System")) then head.Print
    else if bytes_eq word (codes "Clock") then head.Clock
    else if bytes_eq word (codes "async") || bytes_eq word (codes "clocked") then head.Async
    else other

-- by a word of other languages
unfoldable pub head_of_foreign : List ℕ → Head → Head
head_of_foreign word other =
    if bytes_eq word (codes "while") || (bytes_eq word (codes "until") || bytes_eq word (codes "While")) then head.While
    else if bytes_eq word (codes "when") then head.When
    else if bytes_eq word (codes "elif") || (bytes_eq word (codes "elsif")
    || bytes_eq word (codes "elseif")) then head.Elif
    else if bytes_eq word (codes "switch") || bytes_eq word (codes "match") then head.Switch
    else if bytes_eq word (codes "repeat") || (bytes_eq word (codes "foreach")
    || bytes_eq word (codes "loop")) then head.Repeat
    else if bytes_eq word (codes "synchronized") || bytes_eq word (codes "lock") then head.Synchronized
    else if bytes_eq word (codes "at") then head.At
    else other

abbrev pub head_of_word : List ℕ → Head → Head
head_of_word word other = head_of_own word (head_of_foreign word other)

-- a statement ends there, or its inside begins
abbrev pub ends_statement : List ℕ → Bool
ends_statement rest = begins rest (codes ";") || (begins rest (codes "{") || begins rest (codes "}"))

-- behind a token, which the text goes on with
abbrev pub head_after : List ℕ → Head → Head
head_after rest h = if ends_statement rest then head.Other else head_of_word (first_word rest) h

-- behind those tokens of a text that stand before an offset
abbrev pub head_behind : List ℕ → ℕ → Head → List TokenValue → Head
head_behind text at h [] = h
head_behind text at h (t ∷ ts) = if nat_lt t.at at then head_behind text at (head_after (drop t.at text) h) ts else h

-- that of an offset of a text
abbrev pub head_at : List ℕ → ℕ → Head
head_at text at = head_behind text at head.Other (lexed text)

-- behind a token, which the text goes on with, where so many `{` are open
abbrev pub depth_after : List ℕ → ℕ → ℕ
depth_after rest depth = if begins rest (codes "{") then depth + 1 else if begins rest (codes "}") then depth - 1 else depth

-- behind those tokens of a text that stand before an offset
abbrev pub depth_behind : List ℕ → ℕ → ℕ → List TokenValue → ℕ
depth_behind text at depth [] = depth
depth_behind text at depth (t ∷ ts) = if nat_lt t.at at then depth_behind text at (depth_after (drop t.at text) depth) ts else depth

-- at an offset of a text
abbrev pub depth_at : List ℕ → ℕ → ℕ
depth_at text at = depth_behind text at 0 (lexed text)

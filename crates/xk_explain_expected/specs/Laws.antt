-- The table takes whatever the grammar of trees spells. This project's own.
use Rattle.std.specs.Prelude.{◌≡◌, ℕ, nat_lt, IsTrue, List, [], ◌∷◌, ◌++◌, map, Option, Some, if◌then◌else◌}
use Rattle.xk_lexer.specs.Tokens.{TokenValue}
use Rattle.xk_lexer.specs.Lexing.{lexed}
use Rattle.xk_tree.specs.Tree.{TreeValue}
use Rattle.xk_syntax.specs.Spelling.{SpellsTree}
use Rattle.xk_explain_expected.specs.declared.terminal.Terminal.{Terminal}
use Rattle.xk_explain_expected.specs.declared.terminal.Terminal.TheVariants as terminal
use Rattle.xk_explain_expected.specs.declared.grammar.Symbol.{Symbol}
use Rattle.xk_explain_expected.specs.declared.grammar.Symbol.TheVariants as symbol
use Rattle.xk_explain_expected.specs.Grammar.{terminal_of}
use Rattle.xk_explain_expected.specs.Expected.{taken, and_then, takes, stack_at}

-- what stands on the stack behind all of these, if each can stand where it stands
abbrev pub all_taken : List Symbol → List Terminal → Option (List Symbol)
all_taken stack [] = Some stack
all_taken stack (t ∷ ts) = and_then (taken stack t) (λ next. all_taken next ts)

abbrev pub token_terminal : TokenValue → Terminal
token_terminal t = terminal_of t.what

-- the tokens of a text, and its end
abbrev pub terminals : List ℕ → List Terminal
terminals text = map token_terminal (lexed text) ++ terminal.End ∷ []

-- Of a text that spells a tree each token can stand where it stands, and so can its end; nothing is left to come.
abbrev pub TakesEveryTree : Type 0
TakesEveryTree = (text : List ℕ) (t : TreeValue) → SpellsTree text t → all_taken (symbol.Program ∷ []) (terminals text) ≡ Some []

-- the first token that doesn't stand before an offset, or else the end of the text
abbrev pub next_terminal : ℕ → List TokenValue → Terminal
next_terminal at [] = terminal.End
next_terminal at (t ∷ ts) = if nat_lt t.at at then next_terminal at ts else token_terminal t

-- At each offset of such a text there is a stack, and it takes what comes next.
abbrev pub TakesWhatComes : Type 0
TakesWhatComes = (text : List ℕ) (t : TreeValue) (at : ℕ) → SpellsTree text t
    → (stack : List Symbol) × (stack_at text at ≡ Some stack) × IsTrue (takes stack (next_terminal at (lexed text)))

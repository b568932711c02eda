-- What could stand where a token of a text can't: the machine takes the tokens before it, one after another, and is asked what it takes next. This
-- project's own.
use Rattle.std.specs.Prelude.{ℕ, nat_lt, Bool, true, false, not, ◌&&◌, List, [], ◌∷◌, ◌++◌, flat_map, Option, Some, None, option_map, codes}
use Rattle.std.specs.Prelude.{if◌then◌else◌}
use Rattle.xk_lexer.specs.Tokens.{TokenValue}
use Rattle.xk_lexer.specs.Lexing.{lexed}
use Rattle.xk_tree.specs.declared.fault.FrontFault.{FrontFault}
use Rattle.xk_tree.specs.declared.fault.FrontRule.{FrontRule}
use Rattle.xk_tree.specs.declared.fault.FrontRule.TheVariants as rule
use Rattle.xk_explain_expected.specs.declared.terminal.Terminal.{Terminal}
use Rattle.xk_explain_expected.specs.declared.terminal.Terminal.TheVariants as terminal
use Rattle.xk_explain_expected.specs.declared.grammar.Symbol.{Symbol}
use Rattle.xk_explain_expected.specs.declared.grammar.Symbol.TheVariants as symbol
use Rattle.xk_explain_expected.specs.declared.choices.Group.{Group}
use Rattle.xk_explain_expected.specs.declared.choices.Group.TheVariants.{Statement, Expression, Number, Name, Alone}
use Rattle.xk_explain_expected.specs.declared.choices.Choice.{Choice}
use Rattle.xk_explain_expected.specs.declared.choices.Choice.TheVariants as choice
use Rattle.xk_explain_expected.specs.Grammar.{Entry, Refused, Skipped, Behind, is_name, produced, terminal_of, terminal_text}

-- ---- the machine

-- what an entry makes of the symbols below, where these are what they make of the token themselves
abbrev pub moved : Entry → List Symbol → Option (List Symbol) → Option (List Symbol)
moved Refused stack below = None
moved Skipped stack below = below
moved (Behind row) stack below = Some (row ++ stack)

-- what stands on the stack behind a token, if it can stand here
abbrev pub taken : List Symbol → Terminal → Option (List Symbol)
taken [] t = None
taken (s ∷ stack) t = moved (produced s t) stack (taken stack t)

-- first the one, then the other with what the one gave
abbrev pub and_then : Option (List Symbol) → (List Symbol → Option (List Symbol)) → Option (List Symbol)
and_then None f = None
and_then (Some stack) f = f stack

-- the same behind all tokens of lesser offsets than this
abbrev pub taken_before : ℕ → List Symbol → List TokenValue → Option (List Symbol)
taken_before at stack [] = Some stack
taken_before at stack (t ∷ ts) =
    if nat_lt t.at at then and_then (taken stack (terminal_of t.what)) (λ next. taken_before at next ts) else Some stack

-- what stands on the stack at an offset of a text, if the tokens up to there can stand so
unfoldable pub stack_at : List ℕ → ℕ → Option (List Symbol)
stack_at text at = taken_before at (symbol.Program ∷ []) (lexed text)

abbrev pub is_found : Option (List Symbol) → Bool
is_found None = false
is_found (Some stack) = true

-- a token can stand here
abbrev pub takes : List Symbol → Terminal → Bool
takes stack t = is_found (taken stack t)

-- ---- how it is told

-- What could stand here that is told in one: a statement where a `val` can stand, an expression where digits and any name can, a number where digits
-- can, a name where any name can.
abbrev pub group_by : Bool → Bool → Bool → Group
group_by true digits name = Statement
group_by false true true = Expression
group_by false true false = Number
group_by false false true = Name
group_by false false false = Alone

abbrev pub group_of : List Symbol → Group
group_of stack = group_by (takes stack terminal.Binding) (takes stack terminal.Digits) (takes stack terminal.Name)

abbrev pub begins_statement : Terminal → Bool
begins_statement terminal.LeftBrace = true
begins_statement terminal.Semicolon = true
begins_statement terminal.Binding = true
begins_statement terminal.If = true
begins_statement terminal.For = true
begins_statement terminal.Async = true
begins_statement terminal.Clocked = true
begins_statement terminal.Finish = true
begins_statement terminal.Atomic = true
begins_statement terminal.Clock = true
begins_statement terminal.Console = true
begins_statement t = is_name t

abbrev pub begins_number : Terminal → Bool
begins_number terminal.Minus = true
begins_number terminal.Digits = true
begins_number _ = false

abbrev pub begins_expression : Terminal → Bool
begins_expression terminal.LeftParen = true
begins_expression terminal.Minus = true
begins_expression terminal.Digits = true
begins_expression t = is_name t

-- what is told with the group
abbrev pub is_within : Group → Terminal → Bool
is_within Statement t = begins_statement t
is_within Expression t = begins_expression t
is_within Number t = begins_number t
is_within Name t = is_name t
is_within Alone t = false

-- what is told one by one, in this order
abbrev pub told_alone : List Terminal
told_alone =
    terminal.Semicolon ∷ terminal.Comma ∷ terminal.RightParen ∷ terminal.RightBrace ∷ terminal.LeftParen ∷ terminal.LeftBrace ∷ terminal.Assign
    ∷ terminal.Colon ∷ terminal.Dot ∷ terminal.DotDot ∷ terminal.Plus ∷ terminal.Minus ∷ terminal.Star ∷ terminal.Comparison ∷ terminal.Shared
    ∷ terminal.Def ∷ terminal.Else ∷ terminal.In ∷ terminal.Async ∷ terminal.Finish ∷ terminal.Clock ∷ terminal.Long ∷ terminal.Math ∷ terminal.Min
    ∷ terminal.Make ∷ terminal.Verb ∷ terminal.AdvanceAll ∷ terminal.Out ∷ terminal.Println ∷ terminal.End ∷ []

abbrev pub group_choices : Group → List Choice
group_choices Alone = []
group_choices g = choice.Any g ∷ []

-- the group, and what could stand here besides
abbrev pub is_besides : List Symbol → Group → Terminal → Bool
is_besides stack g t = takes stack t && not (is_within g t)

abbrev pub besides_one : List Symbol → Group → Terminal → List Choice
besides_one stack g t = if is_besides stack g t then choice.One t ∷ [] else []

abbrev pub besides : List Symbol → Group → List Terminal → List Choice
besides stack g ts = flat_map (besides_one stack g) ts

abbrev pub choices : List Symbol → List Choice
choices stack = group_choices (group_of stack) ++ besides stack (group_of stack) told_alone

abbrev pub group_text : Group → List ℕ
group_text Statement = codes "a statement"
group_text Expression = codes "an expression"
group_text Number = codes "a number"
group_text Name = codes "a name"
group_text Alone = codes "nothing"

abbrev pub choice_text : Choice → List ℕ
choice_text (choice.Any g) = group_text g
choice_text (choice.One t) = terminal_text t

abbrev pub behind_comma : Choice → List ℕ
behind_comma c = codes ", " ++ choice_text c

-- one after another, with commas between them
abbrev pub listed : List Choice → List ℕ
listed [] = []
listed (c ∷ cs) = choice_text c ++ flat_map behind_comma cs

-- `` could stand here: a statement, `}` ``
unfoldable pub choices_text : List Choice → List ℕ
choices_text cs = codes "could stand here: " ++ listed cs

-- ---- faults

-- a token that can't stand where it stands, F2
abbrev pub is_misplaced : FrontRule → Bool
is_misplaced rule.Syntax = true
is_misplaced _ = false

-- what is told of a stack
unfoldable pub stack_text : List Symbol → List ℕ
stack_text stack = choices_text (choices stack)

-- the token has one spelling
abbrev pub is_single : Terminal → Bool
is_single terminal.Comparison = false
is_single terminal.Binding = false
is_single terminal.Verb = false
is_single terminal.Name = false
is_single terminal.Digits = false
is_single terminal.End = false
is_single terminal.Unfit = false
is_single _ = true

-- ``write `;` here``
unfoldable pub write_text : Terminal → List ℕ
write_text t = (codes "write " ++ terminal_text t) ++ codes " here"

-- the repair where one token alone could stand
abbrev pub only_text : List Choice → Option (List ℕ)
only_text (choice.One t ∷ []) = if is_single t then Some (write_text t) else None
only_text _ = None

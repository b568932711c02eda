-- The grammar of docs/LANGUAGE.md as a machine with a stack. On the stack stands what has yet to come, the next first; by what stands on top, and the
-- token that comes, the table tells what takes its place. The grammar is this project's own.
use Rattle.std.specs.Prelude.{ℕ, Bool, true, false, ◌||◌, List, [], ◌∷◌, ◌++◌, Option, Some, None, codes, if◌then◌else◌}
use Rattle.std.specs.Str.{bytes_eq}
use Rattle.xk_lexer.specs.declared.token.Sign.{Sign}
use Rattle.xk_lexer.specs.declared.token.Sign.TheVariants as sign
use Rattle.xk_lexer.specs.declared.token.Keyword.{Keyword}
use Rattle.xk_lexer.specs.declared.token.Keyword.TheVariants as keyword
use Rattle.xk_lexer.specs.Tokens.{Lexeme}
use Rattle.xk_lexer.specs.Tokens as lexeme
use Rattle.xk_explain_expected.specs.declared.terminal.Terminal.{Terminal}
use Rattle.xk_explain_expected.specs.declared.terminal.Terminal.TheVariants as terminal
use Rattle.xk_explain_expected.specs.declared.grammar.Symbol.{Symbol}
use Rattle.xk_explain_expected.specs.declared.grammar.Symbol.TheVariants.{Takes, Name, Number, Program, Methods, Params, MoreParams}
use Rattle.xk_explain_expected.specs.declared.grammar.Symbol.TheVariants.{TypeName, OptionalType, Statement, Statements, Declaration}
use Rattle.xk_explain_expected.specs.declared.grammar.Symbol.TheVariants.{Addition, Condition, Range, Advance, Print, Right, AfterName}
use Rattle.xk_explain_expected.specs.declared.grammar.Symbol.TheVariants.{Arguments, MoreArguments, OptionalElse, AfterAsync}
use Rattle.xk_explain_expected.specs.declared.grammar.Symbol.TheVariants.{AfterAsyncClocked, AfterClocked, MoreClocks, Bound, Expression}
use Rattle.xk_explain_expected.specs.declared.grammar.Symbol.TheVariants.{MoreTerms, Term, MoreFactors, Factor}

-- ---- terminals

-- how a terminal is told
abbrev pub terminal_text : Terminal → List ℕ
terminal_text terminal.LeftParen = codes "`(`"
terminal_text terminal.RightParen = codes "`)`"
terminal_text terminal.LeftBrace = codes "`{`"
terminal_text terminal.RightBrace = codes "`}`"
terminal_text terminal.Comma = codes "`,`"
terminal_text terminal.Semicolon = codes "`;`"
terminal_text terminal.Colon = codes "`:`"
terminal_text terminal.Assign = codes "`=`"
terminal_text terminal.Plus = codes "`+`"
terminal_text terminal.Minus = codes "`-`"
terminal_text terminal.Star = codes "`*`"
terminal_text terminal.Dot = codes "`.`"
terminal_text terminal.DotDot = codes "`..`"
terminal_text terminal.Comparison = codes "`==`, `!=`, `<`, `<=`, `>`, `>=`"
terminal_text terminal.Shared = codes "`shared`"
terminal_text terminal.Def = codes "`def`"
terminal_text terminal.Binding = codes "`val`, `var`"
terminal_text terminal.If = codes "`if`"
terminal_text terminal.Else = codes "`else`"
terminal_text terminal.For = codes "`for`"
terminal_text terminal.In = codes "`in`"
terminal_text terminal.Async = codes "`async`"
terminal_text terminal.Clocked = codes "`clocked`"
terminal_text terminal.Finish = codes "`finish`"
terminal_text terminal.Atomic = codes "`atomic`"
terminal_text terminal.Clock = codes "`Clock`"
terminal_text terminal.Long = codes "`Long`"
terminal_text terminal.Console = codes "`Console`"
terminal_text terminal.Math = codes "`Math`"
terminal_text terminal.Min = codes "`min`"
terminal_text terminal.Make = codes "`make`"
terminal_text terminal.Verb = codes "`resume`, `drop`"
terminal_text terminal.AdvanceAll = codes "`advanceAll`"
terminal_text terminal.Out = codes "`OUT`"
terminal_text terminal.Println = codes "`println`"
terminal_text terminal.Name = codes "a name"
terminal_text terminal.Digits = codes "a number"
terminal_text terminal.End = codes "the end of the text"
terminal_text terminal.Unfit = codes "no token"

-- they are told alike
abbrev pub is_same : Terminal → Terminal → Bool
is_same a b = bytes_eq (terminal_text a) (terminal_text b)

abbrev pub sign_terminal : Sign → Terminal
sign_terminal sign.LeftParen = terminal.LeftParen
sign_terminal sign.RightParen = terminal.RightParen
sign_terminal sign.LeftBrace = terminal.LeftBrace
sign_terminal sign.RightBrace = terminal.RightBrace
sign_terminal sign.Comma = terminal.Comma
sign_terminal sign.Semicolon = terminal.Semicolon
sign_terminal sign.Colon = terminal.Colon
sign_terminal sign.Assign = terminal.Assign
sign_terminal sign.Plus = terminal.Plus
sign_terminal sign.Minus = terminal.Minus
sign_terminal sign.Star = terminal.Star
sign_terminal sign.Dot = terminal.Dot
sign_terminal sign.DotDot = terminal.DotDot
sign_terminal sign.Equal = terminal.Comparison
sign_terminal sign.NotEqual = terminal.Comparison
sign_terminal sign.Less = terminal.Comparison
sign_terminal sign.LessEqual = terminal.Comparison
sign_terminal sign.Greater = terminal.Comparison
sign_terminal sign.GreaterEqual = terminal.Comparison

abbrev pub keyword_terminal : Keyword → Terminal
keyword_terminal keyword.Shared = terminal.Shared
keyword_terminal keyword.Def = terminal.Def
keyword_terminal keyword.Val = terminal.Binding
keyword_terminal keyword.Var = terminal.Binding
keyword_terminal keyword.If = terminal.If
keyword_terminal keyword.Else = terminal.Else
keyword_terminal keyword.For = terminal.For
keyword_terminal keyword.In = terminal.In
keyword_terminal keyword.Async = terminal.Async
keyword_terminal keyword.Clocked = terminal.Clocked
keyword_terminal keyword.Finish = terminal.Finish
keyword_terminal keyword.Atomic = terminal.Atomic
keyword_terminal keyword.Clock = terminal.Clock
keyword_terminal keyword.Long = terminal.Long
keyword_terminal keyword.Console = terminal.Console

-- some names are words of the grammar in their places
unfoldable pub name_terminal : List ℕ → Terminal
name_terminal text =
    if bytes_eq text (codes "Math") then terminal.Math
    else if bytes_eq text (codes "min") then terminal.Min
    else if bytes_eq text (codes "make") then terminal.Make
    else if bytes_eq text (codes "resume") || bytes_eq text (codes "drop") then terminal.Verb
    else if bytes_eq text (codes "advanceAll") then terminal.AdvanceAll
    else if bytes_eq text (codes "OUT") then terminal.Out
    else if bytes_eq text (codes "println") then terminal.Println
    else terminal.Name

-- what a token is
abbrev pub terminal_of : Lexeme → Terminal
terminal_of (lexeme.Name text) = name_terminal text
terminal_of (lexeme.Reserved k) = keyword_terminal k
terminal_of (lexeme.Number n) = terminal.Digits
terminal_of lexeme.BadNumber = terminal.Unfit
terminal_of (lexeme.Symbol s) = sign_terminal s
terminal_of lexeme.Stray = terminal.Unfit

-- ---- the table

-- What the table has for a symbol and a terminal: nothing, or the symbol stands for no token here and the next one is asked, or it begins with this
-- terminal, and these come behind that.
pub data Entry : Type 0 where
  Refused : Entry
  Skipped : Entry
  Behind : List Symbol → Entry

-- a part that may begin with the terminal, and more behind it
abbrev pub begun : Option (List Symbol) → List Symbol → Entry
begun None more = Refused
begun (Some row) more = Behind (row ++ more)

-- NAME: any name, those that are words of the grammar elsewhere among them
abbrev pub is_name : Terminal → Bool
is_name terminal.Name = true
is_name terminal.Math = true
is_name terminal.Min = true
is_name terminal.Make = true
is_name terminal.Verb = true
is_name terminal.AdvanceAll = true
is_name terminal.Out = true
is_name terminal.Println = true
is_name _ = false

abbrev pub taken_if : Bool → Entry
taken_if b = if b then Behind [] else Refused

-- number = [ "-" ] DIGITS
abbrev pub number : Terminal → Entry
number terminal.Minus = Behind (Takes terminal.Digits ∷ [])
number terminal.Digits = Behind []
number _ = Refused

-- program = { shared } { method }
-- shared = "shared" NAME "=" number ";"
abbrev pub program : Terminal → Entry
program terminal.Shared = Behind (Name ∷ Takes terminal.Assign ∷ Number ∷ Takes terminal.Semicolon ∷ Program ∷ [])
program terminal.Def = Behind (Name ∷ Takes terminal.LeftParen ∷ Params ∷ Takes terminal.LeftBrace ∷ Statements ∷ Methods ∷ [])
program terminal.End = Behind []
program _ = Refused

-- method = "def" NAME "(" [ param { "," param } ] ")" block
abbrev pub methods : Terminal → Entry
methods terminal.Def = Behind (Name ∷ Takes terminal.LeftParen ∷ Params ∷ Takes terminal.LeftBrace ∷ Statements ∷ Methods ∷ [])
methods terminal.End = Behind []
methods _ = Refused

-- [ param { "," param } ] ")", with param = NAME ":" type
abbrev pub params : Terminal → Entry
params terminal.RightParen = Behind []
params t = if is_name t then Behind (Takes terminal.Colon ∷ TypeName ∷ MoreParams ∷ []) else Refused

-- { "," param } ")"
abbrev pub more_params : Terminal → Entry
more_params terminal.Comma = Behind (Name ∷ Takes terminal.Colon ∷ TypeName ∷ MoreParams ∷ [])
more_params terminal.RightParen = Behind []
more_params _ = Refused

-- type = "Clock" | "Long"
abbrev pub type_name : Terminal → Entry
type_name terminal.Clock = Behind []
type_name terminal.Long = Behind []
type_name _ = Refused

-- [ ":" type ]
abbrev pub optional_type : Terminal → Entry
optional_type terminal.Colon = Behind (TypeName ∷ [])
optional_type _ = Skipped

-- factor = number | NAME | "(" expr ")" | "-" factor; a `-` before digits is a factor's too
abbrev pub factor : Terminal → Option (List Symbol)
factor terminal.Digits = Some []
factor terminal.LeftParen = Some (Expression ∷ Takes terminal.RightParen ∷ [])
factor terminal.Minus = Some (Factor ∷ [])
factor t = if is_name t then Some [] else None

-- { "*" factor }
abbrev pub more_factors : Terminal → Entry
more_factors terminal.Star = Behind (Factor ∷ MoreFactors ∷ [])
more_factors _ = Skipped

-- { ( "+" | "-" ) term }
abbrev pub more_terms : Terminal → Entry
more_terms terminal.Plus = Behind (Term ∷ MoreTerms ∷ [])
more_terms terminal.Minus = Behind (Term ∷ MoreTerms ∷ [])
more_terms _ = Skipped

-- behind `val` or `var`: NAME [ ":" type ] "=" right ";"
abbrev pub declaration : Terminal → Entry
declaration t = if is_name t then Behind (OptionalType ∷ Takes terminal.Assign ∷ Right ∷ Takes terminal.Semicolon ∷ []) else Refused

-- behind `atomic`: NAME "=" NAME "+" term ";"
abbrev pub addition : Terminal → Entry
addition t =
    if is_name t then Behind (Takes terminal.Assign ∷ Name ∷ Takes terminal.Plus ∷ Term ∷ Takes terminal.Semicolon ∷ []) else Refused

-- behind `if`: "(" expr cmp expr ")" stmt [ "else" stmt ]
abbrev pub condition : Terminal → Entry
condition terminal.LeftParen =
    Behind (Expression ∷ Takes terminal.Comparison ∷ Expression ∷ Takes terminal.RightParen ∷ Statement ∷ OptionalElse ∷ [])
condition _ = Refused

-- behind `for`: "(" NAME "in" number ".." bound ")" stmt
abbrev pub range : Terminal → Entry
range terminal.LeftParen =
    Behind (Name ∷ Takes terminal.In ∷ Number ∷ Takes terminal.DotDot ∷ Bound ∷ Takes terminal.RightParen ∷ Statement ∷ [])
range _ = Refused

-- behind `Clock`: "." "advanceAll" "(" ")" ";"
abbrev pub advance : Terminal → Entry
advance terminal.Dot =
    Behind (Takes terminal.AdvanceAll ∷ Takes terminal.LeftParen ∷ Takes terminal.RightParen ∷ Takes terminal.Semicolon ∷ [])
advance _ = Refused

-- behind `Console`: "." "OUT" "." "println" "(" expr ")" ";"
abbrev pub print : Terminal → Entry
print terminal.Dot =
    Behind (Takes terminal.Out ∷ Takes terminal.Dot ∷ Takes terminal.Println ∷ Takes terminal.LeftParen ∷ Expression ∷ Takes terminal.RightParen ∷ Takes terminal.Semicolon ∷ [])
print _ = Refused

-- stmt, by the token that it begins with
abbrev pub statement : Terminal → Option (List Symbol)
statement terminal.LeftBrace = Some (Statements ∷ [])
statement terminal.Semicolon = Some []
statement terminal.Binding = Some (Declaration ∷ [])
statement terminal.Atomic = Some (Addition ∷ [])
statement terminal.If = Some (Condition ∷ [])
statement terminal.For = Some (Range ∷ [])
statement terminal.Async = Some (AfterAsync ∷ [])
statement terminal.Finish = Some (Statement ∷ [])
statement terminal.Clocked = Some (AfterClocked ∷ [])
statement terminal.Clock = Some (Advance ∷ [])
statement terminal.Console = Some (Print ∷ [])
statement t = if is_name t then Some (AfterName ∷ Takes terminal.Semicolon ∷ []) else None

-- { stmt } "}"
abbrev pub statements : Terminal → Entry
statements terminal.RightBrace = Behind []
statements t = begun (statement t) (Statements ∷ [])

-- right = "Clock" "." "make" "(" ")" | expr
abbrev pub right : Terminal → Entry
right terminal.Clock = Behind (Takes terminal.Dot ∷ Takes terminal.Make ∷ Takes terminal.LeftParen ∷ Takes terminal.RightParen ∷ [])
right t = begun (factor t) (MoreFactors ∷ MoreTerms ∷ [])

-- what goes on behind the name that a statement begins with, up to its `;`
abbrev pub after_name : Terminal → Entry
after_name terminal.Assign = Behind (Expression ∷ [])
after_name terminal.LeftParen = Behind (Arguments ∷ [])
after_name terminal.Dot = Behind (Takes terminal.Verb ∷ Takes terminal.LeftParen ∷ Takes terminal.RightParen ∷ [])
after_name _ = Refused

-- [ expr { "," expr } ] ")"
abbrev pub arguments : Terminal → Entry
arguments terminal.RightParen = Behind []
arguments t = begun (factor t) (MoreFactors ∷ MoreTerms ∷ MoreArguments ∷ [])

-- { "," expr } ")"
abbrev pub more_arguments : Terminal → Entry
more_arguments terminal.Comma = Behind (Expression ∷ MoreArguments ∷ [])
more_arguments terminal.RightParen = Behind []
more_arguments _ = Refused

-- [ "else" stmt ]: an `else` is taken where it can be, and so belongs to the nearest `if`
abbrev pub optional_else : Terminal → Entry
optional_else terminal.Else = Behind (Statement ∷ [])
optional_else _ = Skipped

-- [ "clocked" "(" NAME { "," NAME } ")" ] stmt, where the statement may begin with `clocked` too
abbrev pub after_async : Terminal → Entry
after_async terminal.Clocked = Behind (AfterAsyncClocked ∷ [])
after_async t = begun (statement t) []

-- behind `async clocked`: a list of clocks and a statement, or what a statement has behind its `clocked`
abbrev pub after_async_clocked : Terminal → Entry
after_async_clocked terminal.LeftParen = Behind (Name ∷ MoreClocks ∷ Statement ∷ [])
after_async_clocked terminal.Finish = Behind (Statement ∷ [])
after_async_clocked terminal.Async = Behind (Statement ∷ [])
after_async_clocked _ = Refused

-- ( "finish" | "async" ) stmt
abbrev pub after_clocked : Terminal → Entry
after_clocked terminal.Finish = Behind (Statement ∷ [])
after_clocked terminal.Async = Behind (Statement ∷ [])
after_clocked _ = Refused

-- { "," NAME } ")"
abbrev pub more_clocks : Terminal → Entry
more_clocks terminal.Comma = Behind (Name ∷ MoreClocks ∷ [])
more_clocks terminal.RightParen = Behind []
more_clocks _ = Refused

-- bound = number | "Math" "." "min" "(" expr "," number ")"
abbrev pub bound : Terminal → Entry
bound terminal.Minus = Behind (Takes terminal.Digits ∷ [])
bound terminal.Digits = Behind []
bound terminal.Math =
    Behind (Takes terminal.Dot ∷ Takes terminal.Min ∷ Takes terminal.LeftParen ∷ Expression ∷ Takes terminal.Comma ∷ Number ∷ Takes terminal.RightParen ∷ [])
bound _ = Refused

-- the whole table
abbrev pub produced : Symbol → Terminal → Entry
produced (Takes wanted) t = taken_if (is_same wanted t)
produced Name t = taken_if (is_name t)
produced Number t = number t
produced Program t = program t
produced Methods t = methods t
produced Params t = params t
produced MoreParams t = more_params t
produced TypeName t = type_name t
produced OptionalType t = optional_type t
produced Statement t = begun (statement t) []
produced Statements t = statements t
produced Declaration t = declaration t
produced Addition t = addition t
produced Condition t = condition t
produced Range t = range t
produced Advance t = advance t
produced Print t = print t
produced Right t = right t
produced AfterName t = after_name t
produced Arguments t = arguments t
produced MoreArguments t = more_arguments t
produced OptionalElse t = optional_else t
produced AfterAsync t = after_async t
produced AfterAsyncClocked t = after_async_clocked t
produced AfterClocked t = after_clocked t
produced MoreClocks t = more_clocks t
produced Bound t = bound t
produced Expression t = begun (factor t) (MoreFactors ∷ MoreTerms ∷ [])
produced MoreTerms t = more_terms t
produced Term t = begun (factor t) (MoreFactors ∷ [])
produced MoreFactors t = more_factors t
produced Factor t = begun (factor t) []

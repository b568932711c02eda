-- What is advised at a fault of a source text, by what stands there: what other languages have, and what is missing. Comments aren't looked at. This
-- project's own.
use Rattle.std.specs.Prelude.{ℕ, ◌-◌, ◌==◌, nat_eq, nat_le, nat_lt, Bool, true, false, not, ◌&&◌, ◌||◌, List, [], ◌∷◌, length, take, drop}
use Rattle.std.specs.Prelude.{codes, if◌then◌else◌}
use Rattle.std.specs.List.{list_any, ends_with, prefix_len}
use Rattle.std.specs.Str.{bytes_eq}
use Rattle.xk_tree.specs.declared.fault.FrontRule.{FrontRule}
use Rattle.xk_tree.specs.declared.fault.FrontRule.TheVariants as front
use Rattle.xk_explain_repairs.specs.declared.advice.Advice.{Advice}
use Rattle.xk_explain_repairs.specs.declared.advice.Advice.TheVariants as advice
use Rattle.xk_explain_words.specs.declared.heads.Head.{Head}
use Rattle.xk_explain_words.specs.declared.heads.Head.TheVariants as head
use Rattle.xk_explain_parts.specs.Parts.{behind_first, ends_part, ends_value, goes_on, has_line_feed, is_alone, is_barrier, is_before_def}
use Rattle.xk_explain_parts.specs.Parts.{is_binding, is_clock_word, is_comparison, is_declared, is_equality, is_foreign, is_method_head}
use Rattle.xk_explain_parts.specs.Parts.{is_number, is_number_head, is_outside, is_pair, is_reserved, is_second, is_type, is_typed, is_word}
use Rattle.xk_explain_parts.specs.Parts.{is_listed, wants_name, wants_value}
use Rattle.xk_explain_words.specs.Words.{begins, first_word, is_digit, is_word_byte, last_word}
use Rattle.xk_explain_words.specs.Comments.{from_sign, to_sign}
use Rattle.xk_explain_words.specs.Heads.{head_at, depth_at}
use Rattle.xk_explain_words.specs.NearNames.{is_near}
use Rattle.xk_explain_words.specs.Signs.{is_comparison_sign, is_dash, is_other_blank, is_quote, is_wide, is_without_width}
use Rattle.xk_explain_repairs.specs.declared.advice.Reserved.TheVariants as reserved

-- ---- no token begins there, F1

-- by a sign that begins no token
unfoldable pub advice_at_stray : List ℕ → Advice → Advice
advice_at_stray rest other =
    if begins rest (codes "/*") then advice.CloseComment
    else if begins rest (codes "%") then advice.NoRemainder
    else if begins rest (codes "/") then advice.NoDivision
    else if begins rest (codes "^") then advice.NoPower
    else if begins rest (codes "[") then advice.NoArrays
    else if begins rest (codes "\"") || begins rest (codes "'") then advice.NoTexts
    else if begins rest (codes "&") then advice.BothConditions
    else if begins rest (codes "|") then advice.EitherCondition
    else if begins rest (codes "!") then advice.NoNegation
    else if begins rest (codes "?") then advice.NoChoice
    else if begins rest (codes "@") then advice.NoAnnotations
    else if begins rest (codes "#") then advice.CommentSign
    else other

-- by a line of the preprocessor of C
unfoldable pub advice_at_hash : List ℕ → Advice → Advice
advice_at_hash rest other =
    if begins rest (codes "#pragma") then advice.Parallel
    else if begins rest (codes "#include") || (begins rest (codes "#define") || (begins rest (codes "#import") || begins rest (codes "#using"))) then advice.Program
    else other

-- by a sign that isn't of ASCII; a byte order mark is one only where the text begins
unfoldable pub advice_at_foreign : ℕ → List ℕ → Advice
advice_at_foreign at rest =
    if at == 0 && begins rest (239 ∷ 187 ∷ 191 ∷ []) then advice.ByteOrderMark
    else if begins rest (194 ∷ 160 ∷ []) then advice.NoBreakSpace
    else if is_quote rest then advice.TypographicQuote
    else if is_dash rest then advice.Dash
    else if is_wide rest then advice.WideSign
    else if is_other_blank rest then advice.OtherBlank
    else if is_without_width rest then advice.NoWidth
    else if is_comparison_sign rest then advice.ComparisonSign
    else if begins rest (195 ∷ 151 ∷ []) then advice.MultiplicationSign
    else if begins rest (226 ∷ 128 ∷ 166 ∷ []) then advice.TwoPoints
    else advice.AsciiNames

abbrev pub token_advice : ℕ → List ℕ → Advice
token_advice at rest = if is_foreign rest then advice_at_foreign at rest else advice_at_hash rest (advice_at_stray rest advice.Usual)

-- ---- a token can't stand there, F2

abbrev pub advice_of_part : Head → Advice → Advice
advice_of_part head.For other = advice.Times
advice_of_part head.Shared other = advice.SharedNumber
advice_of_part head.Def other = advice.Parameter
advice_of_part _ other = other

abbrev pub advice_of_type : Head → List ℕ → Advice → Advice
advice_of_type h word other = if is_type word then advice_of_part h (advice.Declaration) else other

-- a `return` without a value
abbrev pub advice_of_return : List ℕ → List ℕ → Advice → Advice
advice_of_return word rest other = if bytes_eq word (codes "return") && begins rest (codes ";") then advice.Returns else other

-- a range of another language stands there, in a `for`
abbrev pub advice_at_range : List ℕ → List ℕ → Advice → Advice
advice_at_range before there other =
    if bytes_eq before (codes "in") && bytes_eq there (codes "range") then advice.Range else other

-- by the word that stands before the fault
unfoldable pub advice_behind : List ℕ → Advice → Advice
advice_behind word other =
    if bytes_eq word (codes "return") then advice.NothingBack
    else if bytes_eq word (codes "break") || bytes_eq word (codes "continue") then advice.LoopGoesOn
    else if bytes_eq word (codes "new") then advice.NoObjects
    else if bytes_eq word (codes "do") then advice.Loop
    else if bytes_eq word (codes "if") then advice.Condition
    else if bytes_eq word (codes "clocked") || bytes_eq word (codes "async") then advice.Clocked
    else if bytes_eq word (codes "atomic") then advice.OneAddition
    else if bytes_eq word (codes "fn") || (bytes_eq word (codes "fun") || (bytes_eq word (codes "func") || (bytes_eq word (codes "function") || bytes_eq word (codes "void")))) then advice.MethodWord
    else if bytes_eq word (codes "in") then advice.LowerBound
    else if bytes_eq word (codes "Math") then advice.LeastAlone
    else other

-- by a word of other languages that stands there
unfoldable pub advice_behind_habit : List ℕ → Advice → Advice
advice_behind_habit word other =
    if bytes_eq word (codes "spawn") || (bytes_eq word (codes "go") || (bytes_eq word (codes "fork") || (bytes_eq word (codes "thread") || bytes_eq word (codes "parallel")))) then advice.StartActivity
    else if bytes_eq word (codes "await") || (bytes_eq word (codes "join") || bytes_eq word (codes "sync")) then advice.EndFirst
    else if bytes_eq word (codes "finish") then advice.EndFirst
    else if bytes_eq word (codes "print") || (bytes_eq word (codes "println") || bytes_eq word (codes "echo")) then advice.Print
    else if bytes_eq word (codes "critical") then advice.Locked
    else if bytes_eq word (codes "not") then advice.NoNegation
    else if bytes_eq word (codes "then") then advice.NoThen
    else if bytes_eq word (codes "pass") then advice.NothingDone
    else if bytes_eq word (codes "try") || (bytes_eq word (codes "throw") || bytes_eq word (codes "finally")) then advice.NoExceptions
    else other

-- a word of the language stands where a name is wanted: a type, or another word
abbrev pub advice_of_first_type : List ℕ → List ℕ → Advice
advice_of_first_type before there =
    if bytes_eq before (codes "def") then advice.MethodHead
    else if bytes_eq there (codes "Clock") then advice.ClockCalls
    else advice.Declaration

abbrev pub advice_of_word : List ℕ → List ℕ → Advice
advice_of_word before there =
    if bytes_eq there (codes "Long") || bytes_eq there (codes "Clock") then advice_of_first_type before there else advice.ReservedWord

abbrev pub advice_of_reserved : List ℕ → List ℕ → Advice → Advice
advice_of_reserved before there other = if wants_name before && is_reserved there then advice_of_word before there else other

-- the word before the fault is near a word that a statement begins with
unfoldable pub advice_near : List ℕ → Advice → Advice
advice_near word other =
    if is_near word (codes "async") then advice.Meant reserved.Async
    else if is_near word (codes "atomic") then advice.Meant reserved.Atomic
    else if is_near word (codes "clocked") then advice.Meant reserved.Clocked
    else if is_near word (codes "def") then advice.Meant reserved.Def
    else if is_near word (codes "else") then advice.Meant reserved.Else
    else if is_near word (codes "finish") then advice.Meant reserved.Finish
    else if is_near word (codes "for") then advice.Meant reserved.For
    else if is_near word (codes "if") then advice.Meant reserved.If
    else if is_near word (codes "shared") then advice.Meant reserved.Shared
    else if is_near word (codes "val") then advice.Meant reserved.Val
    else if is_near word (codes "var") then advice.Meant reserved.Var
    else other

-- it isn't one itself
abbrev pub advice_of_near : List ℕ → Advice → Advice
advice_of_near word other = if is_reserved word then other else advice_near word other

unfoldable pub advice_behind_number : List ℕ → List ℕ → Advice → Advice
advice_behind_number before rest other = if is_number (last_word before) && goes_on rest then advice.WholeNumber else other

-- something is taken away in an `atomic`, or a number is written
abbrev pub is_atomic : Head → Bool
is_atomic head.Atomic = true
is_atomic _ = false

abbrev pub advice_at_minus : Head → List ℕ → Advice → Advice
advice_at_minus h rest other = if is_atomic h && (begins rest (codes "-") && not (begins rest (codes "-=") || begins rest (codes "--"))) then advice.NegativeAddend else other

abbrev pub advice_at_digit : Head → List ℕ → List ℕ → Advice → Advice
advice_at_digit h before rest other =
    if is_atomic h && (ends_with nat_eq before (codes "=") && (is_number rest && begins (drop (length (first_word rest)) rest) (codes ";"))) then advice.PlainWrite
    else other

-- a `*` stands behind another one
abbrev pub advice_at_star : List ℕ → List ℕ → Advice → Advice
advice_at_star before rest other = if ends_with nat_eq before (codes "*") && begins rest (codes "*") then advice.NoPower else other

-- a `,` stands between statements
abbrev pub stands_alone : Head → Bool
stands_alone head.Other = true
stands_alone head.Binding = true
stands_alone head.Shared = true
stands_alone head.Clock = true
stands_alone _ = false

abbrev pub advice_at_missing : List ℕ → List ℕ → Advice → Advice
advice_at_missing before rest other = if wants_value before && ends_value rest then advice.MissingValue else other

abbrev pub advice_at_comma : Head → List ℕ → List ℕ → Advice → Advice
advice_at_comma h before rest other =
    if stands_alone h && (begins rest (codes ",") && not (ends_with nat_eq before (codes "("))) then advice.OneEach else other

unfoldable pub advice_at_pair : List ℕ → List ℕ → Advice → Advice
advice_at_pair before rest other =
    if is_pair before rest (codes "<") (codes ">") then advice.NotEqual
    else if begins rest (codes "<<") || begins rest (codes ">>") then advice.NoShift
    else if is_pair before rest (codes "<") (codes "<") || is_pair before rest (codes ">") (codes ">") then advice.NoShift
    else if is_pair before rest (codes ")") (codes "=") && not (begins rest (codes "==")) then advice.NoArrays
    else if is_pair before rest (codes ":") (codes "=") then advice.AssignSign
    else if begins rest (codes "=<") || begins rest (codes "=>") then advice.OrderSign
    else other

abbrev pub compares : Head → Bool
compares head.Other = true
compares head.Binding = true
compares head.Print = true
compares _ = false

unfoldable pub advice_at_comparison : Head → List ℕ → List ℕ → Advice → Advice
advice_at_comparison h before rest other =
    if compares h && is_comparison rest
    then (if is_equality rest && (is_alone before || is_declared before) then advice.AssignSign else advice.NoComparison)
    else other

abbrev pub advice_behind_clock : List ℕ → Advice → Advice
advice_behind_clock before other = if is_clock_word (last_word before) && not (is_typed before) then advice.ClockCalls else other

abbrev pub is_bound : Head → Bool
is_bound head.Binding = true
is_bound _ = false

abbrev pub advice_at_value : Head → List ℕ → List ℕ → Advice → Advice
advice_at_value h before rest other =
    if is_bound h && (begins rest (codes ";") && (is_declared before || is_typed before)) then advice.FirstValue else other

-- by signs that stand there
unfoldable pub advice_at_sign : List ℕ → Advice → Advice
advice_at_sign rest other =
    if begins rest (codes "++") || (begins rest (codes "--") || (begins rest (codes "+=") || (begins rest (codes "-=") || begins rest (codes "*=")))) then advice.AddOne
    else if begins rest (codes ":=") then advice.AssignSign
    else if begins rest (codes "(") then advice.NoValue
    else other

-- by the statement, which is one of other languages
abbrev pub advice_of_foreign : Head → Advice → Advice
advice_of_foreign head.While other = advice.Loop
advice_of_foreign head.When other = advice.Waiting
advice_of_foreign head.Elif other = advice.ElseIf
advice_of_foreign head.Switch other = advice.Cases
advice_of_foreign head.Repeat other = advice.Times
advice_of_foreign head.Synchronized other = advice.Locked
advice_of_foreign head.At other = advice.OnePlace
advice_of_foreign _ other = other

-- What is advised by what stands before the fault, and by signs there; `before` ends with a token.
abbrev pub advice_there : Head → List ℕ → List ℕ → Advice
advice_there h before rest =
    advice_at_minus h rest (advice_at_digit h before rest (advice_behind_clock before (advice_at_star before rest
    (advice_at_missing before rest (advice_at_comma h before rest (advice_at_pair before rest (advice_at_comparison h before rest (advice_at_value h before rest
    (advice_at_sign rest (advice_of_foreign h advice.Usual))))))))))

abbrev pub syntax_advice : Head → List ℕ → List ℕ → Advice
syntax_advice h before rest =
    advice_of_type h (last_word (to_sign before)) (advice_of_return (last_word (to_sign before)) rest
    (advice_at_range (last_word (to_sign before)) (first_word rest)
    (advice_behind (last_word (to_sign before)) (advice_behind_habit (last_word (to_sign before))
    (advice_of_reserved (last_word (to_sign before)) (first_word rest) (advice_of_near (last_word (to_sign before))
    (advice_behind_number before rest (advice_there h (to_sign before) rest))))))))

-- ---- the same where nothing else calls for a repair

-- the text ends there
unfoldable pub advice_at_end : List ℕ → Advice → Advice
advice_at_end [] other = advice.TextEnds
advice_at_end (b ∷ bs) other = other

unfoldable pub advice_behind_line : List ℕ → Advice → Advice
advice_behind_line before other =
    if ends_part (to_sign before) && has_line_feed (drop (length (to_sign before)) before) then advice.EndPart else other

unfoldable pub advice_outside : List ℕ → Advice → Advice
advice_outside rest other =
    if is_method_head rest || is_before_def rest then advice.MethodWord
    else if is_number_head rest then advice.SharedNumber
    else other

abbrev pub advice_of_outside : ℕ → List ℕ → Advice → Advice
advice_of_outside depth rest other = if depth == 0 then advice_outside rest other else other

-- by the word that stands there
unfoldable pub advice_at_word : List ℕ → Advice → Advice
advice_at_word word other =
    if bytes_eq word (codes "public") || (bytes_eq word (codes "private") || (bytes_eq word (codes "static") || (bytes_eq word (codes "class") || (bytes_eq word (codes "import") || (bytes_eq word (codes "package") || bytes_eq word (codes "void")))))) then advice.Program
    else if bytes_eq word (codes "shared") then advice.SharedNumber
    else if bytes_eq word (codes "def") then advice.MethodsBeside
    else if bytes_eq word (codes "else") then advice.ElseBehind
    else if bytes_eq word (codes "advance") || bytes_eq word (codes "advanceAll") then advice.AdvanceAll
    else if bytes_eq word (codes "drop") then advice.DropByName
    else if bytes_eq word (codes "sleep") then advice.NoTime
    else if bytes_eq word (codes "Clock") then advice.MadeOrTaken
    else other

-- a type of numbers stands there: among parameters, or elsewhere
abbrev pub advice_of_long : Head → Advice
advice_of_long head.Def = advice.Parameter
advice_of_long _ = advice.Declaration

abbrev pub advice_at_long : Head → List ℕ → Advice → Advice
advice_at_long h word other = if bytes_eq word (codes "Long") then advice_of_long h else other

-- an array or a text stands there: among parameters, or elsewhere
abbrev pub advice_of_array : Head → Advice → Advice
advice_of_array head.Def elsewhere = advice.Taken
advice_of_array _ elsewhere = elsewhere

unfoldable pub advice_at_array : Head → List ℕ → Advice → Advice
advice_at_array h word other =
    if bytes_eq word (codes "Rail") || bytes_eq word (codes "Array") then advice_of_array h (advice.NoArrays)
    else if bytes_eq word (codes "String") then advice_of_array h (advice.NoTexts)
    else other

-- by the word of other languages that stands there
unfoldable pub advice_at_call : List ℕ → Advice → Advice
advice_at_call word other =
    if bytes_eq word (codes "mod") then advice.NoRemainder
    else if bytes_eq word (codes "div") then advice.NoDivision
    else if bytes_eq word (codes "println") || (bytes_eq word (codes "print") || bytes_eq word (codes "printf")) then advice.Print
    else if bytes_eq word (codes "and") then advice.BothConditions
    else if bytes_eq word (codes "or") then advice.EitherCondition
    else if bytes_eq word (codes "join") then advice.EndFirst
    else if bytes_eq word (codes "start") || bytes_eq word (codes "run") then advice.StartActivity
    else if bytes_eq word (codes "lock") || (bytes_eq word (codes "unlock") || (bytes_eq word (codes "acquire") || bytes_eq word (codes "release"))) then advice.Locked
    else other

-- by the name of a method of other languages
unfoldable pub advice_at_method : List ℕ → Advice → Advice
advice_at_method word other =
    if bytes_eq word (codes "register") then advice.FromStart
    else if bytes_eq word (codes "resume") then advice.NamedClock
    else if bytes_eq word (codes "wait") || (bytes_eq word (codes "await") || (bytes_eq word (codes "next") || (bytes_eq word (codes "sync") || bytes_eq word (codes "arriveAndAwaitAdvance")))) then advice.AdvanceAll
    else if bytes_eq word (codes "incrementAndGet") || (bytes_eq word (codes "getAndIncrement") || (bytes_eq word (codes "addAndGet") || bytes_eq word (codes "getAndAdd"))) then advice.Locked
    else if bytes_eq word (codes "arriveAndDeregister") || bytes_eq word (codes "deregister") then advice.DropByName
    else other

-- a word stands behind a name alone, and a value or an end behind it
abbrev pub advice_of_pair : List ℕ → Advice → Advice
advice_of_pair behind other =
    if begins behind (codes "=") then advice.Declaration else if begins behind (codes ";") then advice.Parentheses else other

abbrev pub advice_of_two : List ℕ → List ℕ → Advice → Advice
advice_of_two before rest other =
    if is_word (first_word rest) && is_alone before then advice_of_pair (behind_first rest) other else other

-- a type stands behind a name alone
abbrev pub advice_at_colon : List ℕ → List ℕ → Advice → Advice
advice_at_colon before rest other = if begins rest (codes ":") && is_alone before then advice.Declaration else other

abbrev pub advice_of_global : List ℕ → List ℕ → Advice → Advice
advice_of_global before there other = if is_outside before && is_binding there then advice.SharedNumber else other

-- nothing stands before the fault, or a `}` does, or a `:`
abbrev pub advice_behind_brace : ℕ → List ℕ → Advice → Advice
advice_behind_brace depth rest other =
    if depth == 0 then (if begins rest (codes "}") then advice.ClosesNothing else advice.Outside) else other

-- the first word of a log
abbrev pub advice_at_front : List ℕ → Advice
advice_at_front word = if bytes_eq word (codes "x10log") then advice.Log else advice.Program

unfoldable pub advice_behind_sign : ℕ → List ℕ → List ℕ → Advice → Advice
advice_behind_sign depth [] rest other = advice_at_front (first_word rest)
advice_behind_sign depth (b ∷ bs) rest other =
    if ends_with nat_eq (b ∷ bs) (codes "}") then advice_behind_brace depth rest other
    else if ends_with nat_eq (b ∷ bs) (codes ":") then advice.Types
    else other

-- among parameters, or behind them
abbrev pub is_def : Head → Bool
is_def head.Def = true
is_def _ = false

unfoldable pub advice_in_def : Head → List ℕ → List ℕ → Advice → Advice
advice_in_def h before rest other =
    if is_def h && is_pair before rest (codes ")") (codes ":") then advice.MethodBrace
    else if is_def h && is_listed before then advice.Parameter
    else other

-- a `:` stands before the body of a statement
unfoldable pub advice_before_body : List ℕ → List ℕ → Advice → Advice
advice_before_body before rest other =
    if begins rest (codes ":") && (ends_with nat_eq before (codes ")") || bytes_eq (last_word before) (codes "else")) then advice.BodyBraces
    else other

-- a method of a clock stands before, without parentheses
unfoldable pub advice_of_verb : List ℕ → Advice → Advice
advice_of_verb word other =
    if bytes_eq word (codes "resume") || bytes_eq word (codes "drop") then advice.NamedClock
    else if bytes_eq word (codes "make") then advice.ClockCalls
    else other

-- by the statement
abbrev pub advice_of_head : Head → Advice → Advice
advice_of_head head.For other = advice.Bounds
advice_of_head head.If other = advice.Comparison
advice_of_head head.Binding other = advice.OneName
advice_of_head head.Shared other = advice.SharedNumber
advice_of_head head.Atomic other = advice.OneAddition
advice_of_head head.Def other = advice.MethodHead
advice_of_head head.Print other = advice.Print
advice_of_head head.Clock other = advice.ClockCalls
advice_of_head head.Async other = advice.Clocked
advice_of_head _ other = other

-- a point stands before the fault: a clock is called, or there is no object
abbrev pub advice_of_member : List ℕ → Advice
advice_of_member behind = if begins behind (codes "(") then advice.NamedClock else advice.NoObjects

abbrev pub advice_behind_point : List ℕ → List ℕ → Advice → Advice
advice_behind_point before rest other = if ends_with nat_eq before (codes ".") then advice_of_member (behind_first rest) else other

unfoldable pub advice_of_lone : List ℕ → List ℕ → Advice → Advice
advice_of_lone before rest other =
    if begins rest (codes ";") && is_alone before
    then (if is_barrier (last_word before) then advice.AdvanceAll else advice.Parentheses)
    else other

-- by what stands there, with so many `{` open
abbrev pub further_there : Head → ℕ → List ℕ → List ℕ → Advice
further_there h depth before rest =
    advice_of_outside depth rest (advice_at_word (first_word rest) (advice_at_array h (first_word rest)
    (advice_at_long h (first_word rest) (advice_at_call (first_word rest) (advice_at_method (first_word rest) (advice_of_two before rest
    (advice_at_colon before rest (advice_of_global before (first_word rest) (advice_behind_sign depth before rest
    (advice_in_def h before rest (advice_before_body before rest (advice_of_verb (last_word before)
    (advice_of_head h (advice_behind_point before rest (advice_of_lone before rest advice.Usual)))))))))))))))

abbrev pub further_syntax_advice : Head → ℕ → List ℕ → List ℕ → Advice
further_syntax_advice h depth before rest =
    advice_at_end rest (advice_behind_line before (further_there h depth (to_sign before) rest))

-- ---- no such name is visible there, F5

-- by the name
unfoldable pub name_advice : List ℕ → Advice → Advice
name_advice word other =
    if bytes_eq word (codes "print") || (bytes_eq word (codes "println") || (bytes_eq word (codes "printf") || (bytes_eq word (codes "puts") || bytes_eq word (codes "echo")))) then advice.Print
    else if bytes_eq word (codes "advanceAll") || (bytes_eq word (codes "advance") || (bytes_eq word (codes "barrier") || (bytes_eq word (codes "next") || (bytes_eq word (codes "wait") || bytes_eq word (codes "await"))))) then advice.AdvanceAll
    else if bytes_eq word (codes "sleep") || (bytes_eq word (codes "usleep") || bytes_eq word (codes "delay")) then advice.NoTime
    else if bytes_eq word (codes "true") || (bytes_eq word (codes "false") || (bytes_eq word (codes "True") || bytes_eq word (codes "False"))) then advice.NoTruth
    else other

-- by the name of what starts, awaits or locks, or is a statement elsewhere
unfoldable pub name_advice_of_activities : List ℕ → Advice → Advice
name_advice_of_activities word other =
    if bytes_eq word (codes "spawn") || (bytes_eq word (codes "fork") || (bytes_eq word (codes "start") || bytes_eq word (codes "go"))) then advice.StartActivity
    else if bytes_eq word (codes "join") || (bytes_eq word (codes "sync") || bytes_eq word (codes "taskwait")) then advice.EndFirst
    else if bytes_eq word (codes "lock") || (bytes_eq word (codes "unlock") || (bytes_eq word (codes "acquire") || bytes_eq word (codes "release"))) then advice.Locked
    else if bytes_eq word (codes "while") || bytes_eq word (codes "until") then advice.Loop
    else if bytes_eq word (codes "return") then advice.NothingBack
    else if bytes_eq word (codes "resume") || bytes_eq word (codes "drop") then advice.NamedClock
    else if bytes_eq word (codes "input") || (bytes_eq word (codes "scanf") || bytes_eq word (codes "read")) then advice.MainNumbers
    else other

-- ---- another kind is wanted there, F7

-- by the type that stands there, or a clock that is made
abbrev pub advice_at_type : List ℕ → Advice → Advice
advice_at_type word other =
    if bytes_eq word (codes "Clock") || bytes_eq word (codes "Long") then advice.ClockBinding else other

-- by an `atomic` that stands before the fault
abbrev pub advice_behind_atomic : List ℕ → Advice → Advice
advice_behind_atomic word other = if bytes_eq word (codes "atomic") then advice.SharedAtomic else other

abbrev pub advice_of_second : List ℕ → Advice → Advice
advice_of_second before other = if is_second before then advice.SameTwice else other

-- By a type that stands there, or by what stands before it.
abbrev pub kind_advice : List ℕ → List ℕ → Advice
kind_advice before rest =
    advice_at_type (first_word rest) (advice_behind_atomic (last_word (to_sign before)) (advice_of_second (to_sign before) advice.Usual))

-- ---- a number is too long, or begins with a 0, F13

abbrev pub number_advice : List ℕ → Advice
number_advice rest = if begins rest (codes "0") then advice.NeedlessZero else advice.Usual

-- What is advised first on a fault of this rule at an offset.
abbrev pub advice_at : List ℕ → FrontRule → ℕ → Advice
advice_at text front.Token at = token_advice at (drop at text)
advice_at text front.Syntax at = syntax_advice (head_at text at) (take at text) (drop at text)
advice_at text front.UnknownName at =
    name_advice (first_word (drop at text)) (name_advice_of_activities (first_word (drop at text)) advice.Usual)
advice_at text front.WrongKind at = kind_advice (take at text) (drop at text)
advice_at text front.Literal at = number_advice (drop at text)
advice_at text r at = advice.Usual

-- What is advised where nothing else calls for a repair.
abbrev pub further_advice_at : List ℕ → FrontRule → ℕ → Advice
further_advice_at text front.Syntax at = further_syntax_advice (head_at text at) (depth_at text at) (take at text) (drop at text)
further_advice_at text r at = advice.Usual

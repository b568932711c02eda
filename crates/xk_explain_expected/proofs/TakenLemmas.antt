-- Which terminal a token is as a tree keeps it, and what a stack makes of such tokens one after another.
use Rattle.std.proofs.Common.{◌≡◌, ℕ, Bool, true, false, List, [], ◌∷◌, ◌++◌, map, Option, Some, None, refl, sym, ap, ◌∙◌, append_assoc}
use Rattle.std.specs.Prelude.{◌||◌, codes, if◌then◌else◌}
use Rattle.std.specs.Str.{bytes_eq}
use Rattle.xk_lexer.specs.declared.token.Sign.{Sign}
use Rattle.xk_lexer.specs.declared.token.Sign.TheVariants as sign
use Rattle.xk_lexer.specs.declared.token.Keyword.{Keyword}
use Rattle.xk_lexer.specs.declared.token.Keyword.TheVariants as keyword
use Rattle.xk_lexer.specs.Tokens.{Lexeme, TokenValue}
use Rattle.xk_lexer.specs.Tokens as lexeme
use Rattle.xk_tree.specs.declared.tree.Operator.{Operator as Op}
use Rattle.xk_tree.specs.declared.tree.Operator.TheVariants as operator
use Rattle.xk_exprs.specs.Marks.{Mark, Name, Number, Operator, Open, CloseAt, Symbol, Reserved, AsyncAt, FinishAt, ClockedAt, ClockAt}
use Rattle.xk_exprs.specs.Marks.{LongAt, Unfit, sign_mark, keyword_mark}
use Rattle.xk_syntax.specs.Spelling.{lexeme_mark, token_mark}
use Rattle.xk_explain_expected.specs.declared.terminal.Terminal.{Terminal}
use Rattle.xk_explain_expected.specs.declared.terminal.Terminal.TheVariants as terminal
use Rattle.xk_explain_expected.specs.declared.grammar.Symbol.{Symbol as Sym}
use Rattle.xk_explain_expected.specs.declared.grammar.Symbol.TheVariants as symbol
use Rattle.xk_explain_expected.specs.Grammar.{Entry, Skipped, Behind, begun, is_name, produced, sign_terminal, keyword_terminal}
use Rattle.xk_explain_expected.specs.Grammar.{name_terminal, terminal_of}
use Rattle.xk_explain_expected.specs.Expected.{moved, taken, and_then}
use Rattle.xk_explain_expected.specs.Laws.{all_taken, token_terminal}

abbrev pub operator_terminal : Op → Terminal
operator_terminal operator.Plus = terminal.Plus
operator_terminal operator.Minus = terminal.Minus
operator_terminal operator.Times = terminal.Star

abbrev pub mark_terminal : Mark → Terminal
mark_terminal (Name at text) = name_terminal text
mark_terminal (Number at n) = terminal.Digits
mark_terminal (Operator at o) = operator_terminal o
mark_terminal (Open at) = terminal.LeftParen
mark_terminal (CloseAt at) = terminal.RightBrace
mark_terminal (Symbol s) = sign_terminal s
mark_terminal (AsyncAt at) = terminal.Async
mark_terminal (FinishAt at) = terminal.Finish
mark_terminal (ClockedAt at) = terminal.Clocked
mark_terminal (ClockAt at) = terminal.Clock
mark_terminal (LongAt at) = terminal.Long
mark_terminal (Reserved k) = keyword_terminal k
mark_terminal Unfit = terminal.Unfit

sign_kept : (at : ℕ) (s : Sign) → sign_terminal s ≡ mark_terminal (sign_mark at s)
sign_kept at sign.LeftParen = refl
sign_kept at _ = refl

keyword_kept : (at : ℕ) (k : Keyword) → keyword_terminal k ≡ mark_terminal (keyword_mark at k)
keyword_kept at keyword.Shared = refl
keyword_kept at _ = refl

lexeme_kept : (at : ℕ) (l : Lexeme) → terminal_of l ≡ mark_terminal (lexeme_mark at l)
lexeme_kept at (lexeme.Name text) = refl
lexeme_kept at (lexeme.Reserved k) = keyword_kept at k
lexeme_kept at (lexeme.Number n) = refl
lexeme_kept at lexeme.BadNumber = refl
lexeme_kept at (lexeme.Symbol s) = sign_kept at s
lexeme_kept at lexeme.Stray = refl

-- the terminals of these, and the end of the text
abbrev pub ended : List Mark → List Terminal
ended [] = terminal.End ∷ []
ended (m ∷ ms) = mark_terminal m ∷ ended ms

pub marks_ended : (ts : List TokenValue) → map token_terminal ts ++ terminal.End ∷ [] ≡ ended (map token_mark ts)
marks_ended [] = refl
marks_ended (t ∷ ts) =
    ap (λ (k : Terminal). k ∷ (map token_terminal ts ++ terminal.End ∷ [])) (lexeme_kept t.at t.what)
    ∙ ap (λ (l : List Terminal). mark_terminal (token_mark t) ∷ l) (marks_ended ts)

-- what a stack makes of these and of the end of the text
abbrev pub run : List Sym → List Mark → Option (List Sym)
run stack ms = all_taken stack (ended ms)

-- the first terminal
abbrev pub first : List Mark → Terminal
first [] = terminal.End
first (m ∷ ms) = mark_terminal m

-- stacks that make the same of the first one
pub run_by : (a b : List Sym) (ms : List Mark) → taken a (first ms) ≡ taken b (first ms) → run a ms ≡ run b ms
run_by a b [] e = ap (λ (o : Option (List Sym)). and_then o (λ next. Some next)) e
run_by a b (m ∷ ms) e = ap (λ (o : Option (List Sym)). and_then o (λ next. all_taken next (ended ms))) e

-- symbols of which the table has the same there
pub run_same : (a b : Sym) (stack : List Sym) (ms : List Mark) → produced a (first ms) ≡ produced b (first ms) → run (a ∷ stack) ms ≡ run (b ∷ stack) ms
run_same a b stack ms e = run_by (a ∷ stack) (b ∷ stack) ms (ap (λ (x : Entry). moved x stack (taken stack (first ms))) e)

-- a symbol that stands for no token there
pub run_skips : (a : Sym) (stack : List Sym) (ms : List Mark) → produced a (first ms) ≡ Skipped → run (a ∷ stack) ms ≡ run stack ms
run_skips a stack ms e = run_by (a ∷ stack) stack ms (ap (λ (x : Entry). moved x stack (taken stack (first ms))) e)

begun_moved : (o : Option (List Sym)) (more stack : List Sym) (x y : Option (List Sym)) → moved (begun o more) stack x ≡ moved (begun o []) (more ++ stack) y
begun_moved None more stack x y = refl
begun_moved (Some row) more stack x y = ap Some (append_assoc row more stack ∙ sym (append_assoc row [] (more ++ stack)))

-- a part that may begin there, with more behind it, is the part, and more on the stack
pub run_begun : (a b : Sym) (more stack : List Sym) (ms : List Mark) (o : Option (List Sym)) → produced a (first ms) ≡ begun o more → produced b (first ms) ≡ begun o []
    → run (a ∷ stack) ms ≡ run (b ∷ (more ++ stack)) ms
run_begun a b more stack ms o p q =
    let x = taken stack (first ms) in
    let y = taken (more ++ stack) (first ms) in
    run_by (a ∷ stack) (b ∷ (more ++ stack)) ms
    (ap (λ (e : Entry). moved e stack x) p ∙ begun_moved o more stack x y ∙ sym (ap (λ (e : Entry). moved e (more ++ stack) y) q))

-- ---- names

name_by : (a b c d e f g h : Bool)
    → is_name (if a then terminal.Math else if b then terminal.Min else if c then terminal.Make else if d || e then terminal.Verb else if f then terminal.AdvanceAll
    else if g then terminal.Out else if h then terminal.Println else terminal.Name) ≡ true
name_by true b c d e f g h = refl
name_by false true c d e f g h = refl
name_by false false true d e f g h = refl
name_by false false false true e f g h = refl
name_by false false false false true f g h = refl
name_by false false false false false true g h = refl
name_by false false false false false false true h = refl
name_by false false false false false false false true = refl
name_by false false false false false false false false = refl

pub name_is : (text : List ℕ) → is_name (name_terminal text) ≡ true
unfolding name_terminal
name_is text =
    name_by (bytes_eq text (codes "Math")) (bytes_eq text (codes "min")) (bytes_eq text (codes "make")) (bytes_eq text (codes "resume")) (bytes_eq text (codes "drop"))
    (bytes_eq text (codes "advanceAll")) (bytes_eq text (codes "OUT")) (bytes_eq text (codes "println"))

-- what holds of each name holds of whatever is one
pub for_names : (P : Terminal → Type 0) → P terminal.Name → P terminal.Math → P terminal.Min → P terminal.Make → P terminal.Verb → P terminal.AdvanceAll → P terminal.Out
    → P terminal.Println → (t : Terminal) → is_name t ≡ true → P t
for_names P a b c d e f g h terminal.Name i = a
for_names P a b c d e f g h terminal.Math i = b
for_names P a b c d e f g h terminal.Min i = c
for_names P a b c d e f g h terminal.Make i = d
for_names P a b c d e f g h terminal.Verb i = e
for_names P a b c d e f g h terminal.AdvanceAll i = f
for_names P a b c d e f g h terminal.Out i = g
for_names P a b c d e f g h terminal.Println i = h
for_names P a b c d e f g h _ i = absurd cc

-- a symbol begins with any name, and these come behind it
abbrev pub BeginsWithName : Sym → List Sym → Type 0
BeginsWithName s row = (t : Terminal) → is_name t ≡ true → produced s t ≡ Behind row

pub run_name : (s : Sym) (row : List Sym) → BeginsWithName s row → (stack : List Sym) (at : ℕ) (text : List ℕ) (ms : List Mark)
    → run (s ∷ stack) (Name at text ∷ ms) ≡ run (row ++ stack) ms
run_name s row b stack at text ms =
    ap (λ (x : Entry). and_then (moved x stack (taken stack (name_terminal text))) (λ next. all_taken next (ended ms))) (b (name_terminal text) (name_is text))

pub name_name : BeginsWithName symbol.Name []
name_name = for_names (λ t. produced symbol.Name t ≡ Behind []) refl refl refl refl refl refl refl refl

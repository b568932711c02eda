-- How statements, methods and programs are spelled, and which of them are within the limits. Grammar and limits are this project's own.
use Rattle.std.specs.Prelude.{◌≡◌, ◌≢◌, ℕ, zero, suc, ◌≤◌, min, Bool, true, false, List, [], ◌∷◌, ◌++◌, length, map, replicate, Option, Some, None, codes}
use Rattle.std.specs.List.{AllByRecursion}
use Rattle.xk_types.specs.declared.instr.Comparison.{Comparison}
use Rattle.xk_types.specs.declared.instr.Comparison.TheVariants as comparison
use Rattle.xk_types.specs.declared.unit.ParamKind.{ParamKind}
use Rattle.xk_types.specs.declared.unit.ParamKind.TheVariants as kind
use Rattle.xk_lexer.specs.declared.token.Sign.{Sign}
use Rattle.xk_lexer.specs.declared.token.Sign.TheVariants as sign
use Rattle.xk_lexer.specs.declared.token.Keyword.{Keyword}
use Rattle.xk_lexer.specs.declared.token.Keyword.TheVariants as keyword
use Rattle.xk_lexer.specs.Tokens.{Lexeme, TokenValue}
use Rattle.xk_lexer.specs.Tokens as lexeme
use Rattle.xk_lexer.specs.Pieces.{SpellsTokens}
use Rattle.xk_tree.specs.declared.tree.Operator.TheVariants as operator
use Rattle.xk_tree.specs.declared.tree.Binding.{Binding}
use Rattle.xk_tree.specs.declared.tree.Binding.TheVariants as binding
use Rattle.xk_tree.specs.declared.tree.TypeName.{TypeName}
use Rattle.xk_tree.specs.declared.tree.Number as tree
use Rattle.xk_tree.specs.declared.tree.Verb.{Verb}
use Rattle.xk_tree.specs.declared.tree.Written.{Written}
use Rattle.xk_tree.specs.declared.tree.Written.TheVariants as written
use Rattle.xk_tree.specs.Tree.{Word, Expression, Source, Make, Value, Bound, UpTo, Least, Clocks, Statement, Statements, Done, More, Block, Empty, Declare, Assign, Atomic, If, IfElse, For, Async, Finish, Call, Resume, Drop, AdvanceAll, Print, ParamValue, MethodValue, SharedValue, TreeValue}
use Rattle.xk_exprs.specs.Marks.{Mark, Name, Number, Operator, Open, CloseAt, Symbol, Reserved, AsyncAt, FinishAt, ClockedAt, ClockAt, LongAt, Unfit, sign_mark, keyword_mark}
use Rattle.xk_exprs.specs.Spelling.{spell, number_marks, IsNumber, Spells, SpellsTerm}

-- ---- Names that no text has

-- The letters of a name that stands for what a text has no name for: as many spaces as levels are left for the statement that needs it, itself among
-- them. No token has such letters, and of statements in one another each has others. A method has 64 levels.
abbrev pub hidden_text : ℕ → List ℕ
hidden_text d = replicate (min d 64) 32

-- the clock of a `clocked finish` whose `clocked` stands at this offset, where so many levels are left, itself among them
abbrev pub hidden_clock : ℕ → ℕ → Word
hidden_clock d at = record { at = at; text = hidden_text d }

-- what stands in a row within `clocked finish s`: its clock is made, s, the clock is dropped
abbrev pub between : Word → Statement → Statements
between h s = let v : Verb = record { at = h.at; paren = h.at } in More (Declare binding.Hidden h None (Make h.at v)) (More s (More (Drop h v) Done))

-- What `clocked finish s` stands for, where `finish` stands at this offset. The block has no `}` in the text: its offset is that of `finish` too, so
-- that a text spells one tree.
abbrev pub clocked_finish : ℕ → Word → Statement → Statement
clocked_finish at h s = Finish at (Block at (between h s))

-- The clock that `clocked async` hands on, where `clocked` stands at this offset, and this is the text of the hidden clock of the place. Where a place
-- has none, that text is empty.
abbrev pub in_force : ℕ → List ℕ → Word
in_force at hidden = record { at = at; text = hidden }

-- the hidden clock in the body of an `async`
abbrev pub written_inside : Written → List ℕ → List ℕ
written_inside (written.Listed clocked paren) hidden = []
written_inside (written.Ahead at) hidden = hidden

abbrev pub inside : Option Clocks → List ℕ → List ℕ
inside None hidden = []
inside (Some cs) hidden = written_inside cs.written hidden

-- ---- Spelling. A function gives the tokens of a thing, and then those that come after it.

abbrev pub word : Word → List Mark → List Mark
word w after = Name w.at w.text ∷ after

abbrev pub number : tree.Number → List Mark → List Mark
number n after = number_marks n ++ after

abbrev pub expr : Expression → List Mark → List Mark
expr e after = spell e ++ after

abbrev pub comparison_sign : Comparison → Sign
comparison_sign comparison.Eq = sign.Equal
comparison_sign comparison.Ne = sign.NotEqual
comparison_sign comparison.Lt = sign.Less
comparison_sign comparison.Le = sign.LessEqual
comparison_sign comparison.Gt = sign.Greater
comparison_sign comparison.Ge = sign.GreaterEqual

abbrev pub binding_word : Binding → Keyword
binding_word binding.Val = keyword.Val
binding_word binding.Var = keyword.Var
binding_word binding.Hidden = keyword.Val

abbrev pub type_mark : ℕ → ParamKind → Mark
type_mark at kind.Clock = ClockAt at
type_mark at kind.Number = LongAt at

abbrev pub type_name : TypeName → List Mark → List Mark
type_name ty after = type_mark ty.at ty.kind ∷ after

-- `: T`, if there is one
abbrev pub type_part : Option TypeName → List Mark → List Mark
type_part None after = after
type_part (Some ty) after = Symbol sign.Colon ∷ type_name ty after

-- such a word and the `(` behind it
abbrev pub verb : List ℕ → Verb → List Mark → List Mark
verb text v after = Name v.at text ∷ Open v.paren ∷ after

abbrev pub source : Source → List Mark → List Mark
source (Make at v) after = ClockAt at ∷ Symbol sign.Dot ∷ verb (codes "make") v (Symbol sign.RightParen ∷ after)
source (Value e) after = expr e after

-- how far a loop goes: a number, or `Math.min(e, n)`
abbrev pub bound : Bound → List Mark → List Mark
bound (UpTo n) after = number n after
bound (Least x v e n) after = Name x.at (codes "Math") ∷ Symbol sign.Dot ∷ verb (codes "min") v (expr e (Symbol sign.Comma ∷ number n (Symbol sign.RightParen ∷ after)))

-- one after another
abbrev pub row : {T : Type 0} → (T → List Mark → List Mark) → List T → List Mark → List Mark
row f [] after = after
row f (x ∷ xs) after = f x (row f xs after)

abbrev pub behind_comma : {T : Type 0} → (T → List Mark → List Mark) → T → List Mark → List Mark
behind_comma f x after = Symbol sign.Comma ∷ f x after

-- with commas between them
abbrev pub commas : {T : Type 0} → (T → List Mark → List Mark) → List T → List Mark → List Mark
commas f [] after = after
commas f (x ∷ xs) after = f x (row (behind_comma f) xs after)

-- `clocked (c, ..)`
abbrev pub clock_part : ℕ → ℕ → List Word → List Mark → List Mark
clock_part clocked paren ws after = ClockedAt clocked ∷ Open paren ∷ commas word ws (Symbol sign.RightParen ∷ after)

-- an `async` with clocks, up to its statement
abbrev pub clocked_start : ℕ → Written → List Word → List Mark → List Mark
clocked_start at (written.Listed clocked paren) ws after = AsyncAt at ∷ clock_part clocked paren ws after
clocked_start at (written.Ahead clocked) ws after = ClockedAt clocked ∷ AsyncAt at ∷ after

abbrev pub start : ℕ → Option Clocks → List Mark → List Mark
start at None after = AsyncAt at ∷ after
start at (Some cs) after = clocked_start at cs.written cs.names after

abbrev mutual
  pub stmt : Statement → List Mark → List Mark
  stmt (Block close ss) after = Symbol sign.LeftBrace ∷ stmts ss (CloseAt close ∷ after)
  stmt Empty after = Symbol sign.Semicolon ∷ after
  stmt (Declare b w ty r) after = Reserved (binding_word b) ∷ word w (type_part ty (Symbol sign.Assign ∷ source r (Symbol sign.Semicolon ∷ after)))
  stmt (Assign w e) after = word w (Symbol sign.Assign ∷ expr e (Symbol sign.Semicolon ∷ after))
  stmt (Atomic w v at e) after = Reserved keyword.Atomic ∷ word w (Symbol sign.Assign ∷ word v (Operator at operator.Plus ∷ expr e (Symbol sign.Semicolon ∷ after)))
  stmt (If at l c r s) after = Reserved keyword.If ∷ Open at ∷ expr l (Symbol (comparison_sign c) ∷ expr r (Symbol sign.RightParen ∷ stmt s after))
  stmt (IfElse at l c r s t) after = Reserved keyword.If ∷ Open at ∷ expr l (Symbol (comparison_sign c) ∷ expr r
      (Symbol sign.RightParen ∷ stmt s (Reserved keyword.Else ∷ stmt t after)))
  stmt (For at w lo b s) after = Reserved keyword.For ∷ Open at ∷ word w (Reserved keyword.In ∷ number lo (Symbol sign.DotDot ∷ bound b (Symbol sign.RightParen ∷ stmt s after)))
  stmt (Async at cs s) after = start at cs (stmt s after)
  stmt (Finish at (Block close (More (Declare binding.Hidden h ty r) (More s (More (Drop g v) Done))))) after = ClockedAt h.at ∷ FinishAt at ∷ stmt s after
  stmt (Finish at s) after = FinishAt at ∷ stmt s after
  stmt (Call w at es) after = word w (Open at ∷ commas expr es (Symbol sign.RightParen ∷ Symbol sign.Semicolon ∷ after))
  stmt (Resume w v) after = word w (Symbol sign.Dot ∷ verb (codes "resume") v (Symbol sign.RightParen ∷ Symbol sign.Semicolon ∷ after))
  stmt (Drop w v) after = word w (Symbol sign.Dot ∷ verb (codes "drop") v (Symbol sign.RightParen ∷ Symbol sign.Semicolon ∷ after))
  stmt (AdvanceAll at v) after = ClockAt at ∷ Symbol sign.Dot ∷ verb (codes "advanceAll") v (Symbol sign.RightParen ∷ Symbol sign.Semicolon ∷ after)
  stmt (Print at v e) after = Reserved keyword.Console ∷ Symbol sign.Dot ∷ Name at (codes "OUT") ∷ Symbol sign.Dot ∷ verb (codes "println") v
      (expr e (Symbol sign.RightParen ∷ Symbol sign.Semicolon ∷ after))

  pub stmts : Statements → List Mark → List Mark
  stmts Done after = after
  stmts (More s ss) after = stmt s (stmts ss after)

abbrev pub param : ParamValue → List Mark → List Mark
param p after = word p.name (Symbol sign.Colon ∷ type_name p.takes after)

abbrev pub method : MethodValue → List Mark → List Mark
method m after = Reserved keyword.Def ∷ word m.name (Open m.paren ∷ commas param m.params
    (Symbol sign.RightParen ∷ Symbol sign.LeftBrace ∷ stmts m.body (CloseAt m.close ∷ after)))

abbrev pub shared : SharedValue → List Mark → List Mark
shared s after = Reserved keyword.Shared ∷ word s.name (Symbol sign.Assign ∷ number s.start (Symbol sign.Semicolon ∷ after))

-- the tokens of a program
abbrev pub program : TreeValue → List Mark
program t = row shared t.shared (row method t.methods [])

-- ---- Limits

-- an expression, and a term, within the limits where so many levels are left
abbrev pub IsExpr : ℕ → Expression → Type 0
IsExpr d e = Spells d (spell e) e

abbrev pub IsTerm : ℕ → Expression → Type 0
IsTerm d e = SpellsTerm d (spell e) e

-- it ends in an `if` that has no `else`
abbrev pub dangles : Statement → Bool
dangles (If at l c r s) = true
dangles (IfElse at l c r s t) = dangles t
dangles (For at w lo b s) = dangles s
dangles (Async at cs s) = dangles s
dangles (Finish at (Block close (More (Declare binding.Hidden h ty r) (More s (More (Drop g v) Done))))) = dangles s
dangles (Finish at s) = dangles s
dangles _ = false

abbrev pub SourceFits : ℕ → Source → Type 0
SourceFits d (Make at v) = Unit {0}
SourceFits d (Value e) = IsExpr d e

-- where so many levels are left behind the loop
abbrev pub BoundFits : ℕ → Bound → Type 0
BoundFits d (UpTo n) = IsNumber n
BoundFits d (Least x v e n) = (x.text ≡ hidden_text (suc d)) × IsExpr d e × IsNumber n

-- a clock that has no name in the text is made by a `clocked finish` alone
abbrev pub DeclareFits : ℕ → Binding → Source → Type 0
DeclareFits d binding.Hidden r = ⊥
DeclareFits d b r = SourceFits d r

-- where this is the hidden clock of the place
abbrev pub WrittenFits : List ℕ → Written → List Word → Type 0
WrittenFits hidden (written.Listed clocked paren) ws = ws ≢ []
WrittenFits hidden (written.Ahead at) ws = ws ≡ in_force at hidden ∷ []

abbrev pub ClocksFit : List ℕ → Option Clocks → Type 0
ClocksFit hidden None = Unit {0}
ClocksFit hidden (Some cs) = WrittenFits hidden cs.written cs.names

abbrev mutual
  -- A statement fits where so many statements, parentheses and negations may still be in one another, and this is the hidden clock of the place: its
  -- expressions and numbers are within their limits, a list of clocks isn't empty, what is added by an `atomic` is a term, an `else` belongs to the
  -- nearest `if`, and the name of a loop's limit is the hidden one of its level. A hidden clock is made only by what a `clocked finish` stands for, under
  -- the hidden name of its level and in a block at the offset of `finish`, and a `clocked async` hands on that of the place.
  pub Fits : ℕ → List ℕ → Statement → Type 0
  Fits zero hidden s = ⊥
  Fits (suc d) hidden (Block close ss) = AllFit d hidden ss
  Fits (suc d) hidden Empty = Unit {0}
  Fits (suc d) hidden (Declare b w ty r) = DeclareFits d b r
  Fits (suc d) hidden (Assign w e) = IsExpr d e
  Fits (suc d) hidden (Atomic w v at e) = IsTerm d e
  Fits (suc d) hidden (If at l c r s) = IsExpr d l × IsExpr d r × Fits d hidden s
  Fits (suc d) hidden (IfElse at l c r s t) = IsExpr d l × IsExpr d r × Fits d hidden s × Fits d hidden t × (dangles s ≡ false)
  Fits (suc d) hidden (For at w lo b s) = IsNumber lo × BoundFits d b × Fits d hidden s
  Fits (suc d) hidden (Async at cs s) = ClocksFit hidden cs × Fits d (inside cs hidden) s
  Fits (suc d) hidden (Finish at (Block close (More (Declare binding.Hidden h ty r) (More s (More (Drop g v) Done))))) =
      (Block close (More (Declare binding.Hidden h ty r) (More s (More (Drop g v) Done))) ≡ Block at (between (hidden_clock (suc d) h.at) s))
      × Fits d (hidden_text (suc d)) s
  Fits (suc d) hidden (Finish at s) = Fits d [] s
  Fits (suc d) hidden (Call w at es) = AllByRecursion (IsExpr d) es
  Fits (suc d) hidden (Resume w v) = Unit {0}
  Fits (suc d) hidden (Drop w v) = Unit {0}
  Fits (suc d) hidden (AdvanceAll at v) = Unit {0}
  Fits (suc d) hidden (Print at v e) = IsExpr d e

  pub AllFit : ℕ → List ℕ → Statements → Type 0
  AllFit d hidden Done = Unit {0}
  AllFit d hidden (More s ss) = Fits d hidden s × AllFit d hidden ss

-- a method's own block isn't counted, and no hidden clock is there
abbrev pub MethodFits : MethodValue → Type 0
MethodFits m = AllFit 64 [] m.body

abbrev pub SharedFits : SharedValue → Type 0
SharedFits s = IsNumber s.start

-- within the limits
pub record TreeFits (t : TreeValue) : Type 0 where
  pub shared_fit : AllByRecursion SharedFits t.shared
  pub methods_fit : AllByRecursion MethodFits t.methods

-- ---- Texts

abbrev pub lexeme_mark : ℕ → Lexeme → Mark
lexeme_mark at (lexeme.Name text) = Name at text
lexeme_mark at (lexeme.Reserved k) = keyword_mark at k
lexeme_mark at (lexeme.Number n) = Number at n
lexeme_mark at (lexeme.Symbol s) = sign_mark at s
lexeme_mark at lexeme.BadNumber = Unfit
lexeme_mark at lexeme.Stray = Unfit

-- a token as a tree keeps it
abbrev pub token_mark : TokenValue → Mark
token_mark t = lexeme_mark t.at t.what

-- the text spells this tree
pub record SpellsTree (text : List ℕ) (t : TreeValue) : Type 0 where
  pub short : length text ≤ 1048576
  pub spelled : (tokens : List TokenValue) × SpellsTokens text tokens × (map token_mark tokens ≡ program t)
  pub fits : TreeFits t

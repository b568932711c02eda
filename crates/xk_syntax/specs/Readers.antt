-- Reading statements, methods and programs. Where nothing can be read, `None`.
-- The grammar is this project's own, in the manner of X10's statements and methods.
use Rattle.std.specs.Prelude.{ℕ, zero, suc, List, [], ◌∷◌, ◌++◌, Option, Some, None, codes, if◌then◌else◌}
use Rattle.std.specs.Str.{bytes_eq}
use denote.Enum.Bare.{sameb}
use Rattle.xk_types.specs.declared.instr.Comparison.{Comparison}
use Rattle.xk_types.specs.declared.instr.Comparison.TheVariants as comparison
use Rattle.xk_types.specs.declared.unit.ParamKind.TheVariants as kind
use Rattle.xk_lexer.specs.declared.token.Sign.{Sign}
use Rattle.xk_lexer.specs.declared.token.Sign.TheVariants as sign
use Rattle.xk_lexer.specs.contracts.token.Sign as signs
use Rattle.xk_lexer.specs.declared.token.Keyword.{Keyword}
use Rattle.xk_lexer.specs.declared.token.Keyword.TheVariants as keyword
use Rattle.xk_lexer.specs.contracts.token.Keyword as keywords
use Rattle.xk_tree.specs.declared.tree.Operator.{Operator as Op}
use Rattle.xk_tree.specs.declared.tree.Operator.TheVariants as operator
use Rattle.xk_tree.specs.declared.tree.Binding.{Binding}
use Rattle.xk_tree.specs.declared.tree.Binding.TheVariants as binding
use Rattle.xk_tree.specs.declared.tree.TypeName.{TypeName}
use Rattle.xk_tree.specs.declared.tree.Number as tree
use Rattle.xk_tree.specs.declared.tree.Verb.{Verb}
use Rattle.xk_tree.specs.declared.tree.Written.TheVariants as written
use Rattle.xk_tree.specs.Tree.{Word, Expression, Source, Make, Value, Bound, UpTo, Least, Clocks, Statement, listed, Block, Empty, Declare, Assign, Atomic, If, IfElse, For, Async, Finish, Call, Resume, Drop, AdvanceAll, Print, ParamValue, MethodValue, SharedValue, TreeValue}
use Rattle.xk_exprs.specs.Marks.{Mark, Name, Operator, Open, CloseAt, Symbol, Reserved, AsyncAt, FinishAt, ClockedAt, ClockAt, LongAt}
use Rattle.xk_exprs.specs.ReaderCombinators.{Turn, Fails, Stops, Goes, loop, head_at}
use Rattle.xk_exprs.specs.ExprReaders.{number_at, whole_at, whole_term_at}
use Rattle.xk_syntax.specs.Spelling.{hidden_text, hidden_clock, clocked_finish, in_force, inside}

-- first the one, then the other with what the one gave
unfoldable pub bind : {A B : Type 0} → Option A → (A → Option B) → Option B
bind None f = None
bind (Some x) f = f x

infixl 10 ◌>>=◌
abbrev pub ◌>>=◌ : {A B : Type 0} → Option A → (A → Option B) → Option B
o >>= f = bind o f

-- ---- tokens

-- the sign that a token is
abbrev pub operator_sign : Op → Sign
operator_sign operator.Plus = sign.Plus
operator_sign operator.Minus = sign.Minus
operator_sign operator.Times = sign.Star

abbrev pub sign_of : Mark → Option Sign
sign_of (Symbol s) = Some s
sign_of (Open at) = Some sign.LeftParen
sign_of (CloseAt at) = Some sign.RightBrace
sign_of (Operator at o) = Some (operator_sign o)
sign_of _ = None

-- the reserved word that a token is
abbrev pub keyword_of : Mark → Option Keyword
keyword_of (Reserved k) = Some k
keyword_of (AsyncAt at) = Some keyword.Async
keyword_of (FinishAt at) = Some keyword.Finish
keyword_of (ClockedAt at) = Some keyword.Clocked
keyword_of (ClockAt at) = Some keyword.Clock
keyword_of (LongAt at) = Some keyword.Long
keyword_of _ = None

abbrev pub sign_by : Sign → Option Sign → List Mark → Option (List Mark)
sign_by s (Some t) ts = if sameb signs.the_type t s then Some ts else None
sign_by s None ts = None

-- past this sign
unfoldable pub sign_at : Sign → List Mark → Option (List Mark)
sign_at s [] = None
sign_at s (m ∷ ts) = sign_by s (sign_of m) ts

abbrev pub keyword_by : Keyword → Option Keyword → List Mark → Option (List Mark)
keyword_by k (Some l) ts = if sameb keywords.the_type l k then Some ts else None
keyword_by k None ts = None

-- past this reserved word
unfoldable pub keyword_at : Keyword → List Mark → Option (List Mark)
keyword_at k [] = None
keyword_at k (m ∷ ts) = keyword_by k (keyword_of m) ts

abbrev pub open_by : Mark → List Mark → Option (ℕ × List Mark)
open_by (Open at) ts = Some (at, ts)
open_by _ ts = None

-- a `(` and its offset
unfoldable pub open_at : List Mark → Option (ℕ × List Mark)
open_at [] = None
open_at (m ∷ ts) = open_by m ts

abbrev pub close_by : Mark → List Mark → Option (ℕ × List Mark)
close_by (CloseAt at) ts = Some (at, ts)
close_by _ ts = None

-- a `}` and its offset
unfoldable pub close_at : List Mark → Option (ℕ × List Mark)
close_at [] = None
close_at (m ∷ ts) = close_by m ts

abbrev pub plus_by : Mark → List Mark → Option (ℕ × List Mark)
plus_by (Operator at operator.Plus) ts = Some (at, ts)
plus_by _ ts = None

-- a `+` and its offset
unfoldable pub plus_at : List Mark → Option (ℕ × List Mark)
plus_at [] = None
plus_at (m ∷ ts) = plus_by m ts

abbrev pub word_by : Mark → List Mark → Option (Word × List Mark)
word_by (Name at text) ts = Some (record { at = at; text = text }, ts)
word_by _ ts = None

-- a name
unfoldable pub word_at : List Mark → Option (Word × List Mark)
word_at [] = None
word_at (m ∷ ts) = word_by m ts

abbrev pub this_word : List ℕ → Word × List Mark → Option (ℕ × List Mark)
this_word text x = if bytes_eq x.0.text text then Some (x.0.at, x.1) else None

-- the name of these letters, and its offset
unfoldable pub this_word_at : List ℕ → List Mark → Option (ℕ × List Mark)
this_word_at text ts = word_at ts >>= this_word text

abbrev pub comparison_of : Sign → Option Comparison
comparison_of sign.Equal = Some comparison.Eq
comparison_of sign.NotEqual = Some comparison.Ne
comparison_of sign.Less = Some comparison.Lt
comparison_of sign.LessEqual = Some comparison.Le
comparison_of sign.Greater = Some comparison.Gt
comparison_of sign.GreaterEqual = Some comparison.Ge
comparison_of _ = None

abbrev pub comparison_by : Mark → List Mark → Option (Comparison × List Mark)
comparison_by (Symbol s) ts = comparison_of s >>= λ c. Some (c, ts)
comparison_by _ ts = None

-- how two numbers are compared
unfoldable pub comparison_at : List Mark → Option (Comparison × List Mark)
comparison_at [] = None
comparison_at (m ∷ ts) = comparison_by m ts

abbrev pub type_by : Mark → List Mark → Option (TypeName × List Mark)
type_by (ClockAt at) ts = Some (record { at = at; kind = kind.Clock }, ts)
type_by (LongAt at) ts = Some (record { at = at; kind = kind.Number }, ts)
type_by _ ts = None

-- the name of a type
unfoldable pub type_at : List Mark → Option (TypeName × List Mark)
type_at [] = None
type_at (m ∷ ts) = type_by m ts

abbrev pub clock_by : Mark → List Mark → Option (ℕ × List Mark)
clock_by (ClockAt at) ts = Some (at, ts)
clock_by _ ts = None

-- a `Clock` and its offset
unfoldable pub clock_at : List Mark → Option (ℕ × List Mark)
clock_at [] = None
clock_at (m ∷ ts) = clock_by m ts

-- ---- lists

abbrev pub pushed : {T : Type 0} → List T → Option (T × List Mark) → Turn (List T)
pushed xs None = Fails
pushed xs (Some x) = Goes (xs ++ x.0 ∷ []) x.1

abbrev pub one_more : {T : Type 0} → (List Mark → Option (T × List Mark)) → List T → Option (List Mark) → Turn (List T)
one_more item xs None = Stops
one_more item xs (Some ts) = pushed xs (item ts)

-- one more thing, where `goes_on` says so
unfoldable pub next_item : {T : Type 0} → (List Mark → Option (List Mark)) → (List Mark → Option (T × List Mark)) → List T → List Mark → Turn (List T)
next_item goes_on item xs ts = one_more item xs (goes_on ts)

-- things behind these ones, as long as `goes_on` says so
unfoldable pub more_at : {T : Type 0} → (List Mark → Option (List Mark)) → (List Mark → Option (T × List Mark)) → List T → List Mark → Option (List T × List Mark)
more_at goes_on item xs ts = loop (next_item goes_on item) xs ts

-- one thing or more, with commas between them
unfoldable pub commas_at : {T : Type 0} → (List Mark → Option (T × List Mark)) → List Mark → Option (List T × List Mark)
commas_at item ts = do
  x ← item ts
  more_at (sign_at sign.Comma) item (x.0 ∷ []) x.1

abbrev pub listed_or : {T : Type 0} → (List Mark → Option (T × List Mark)) → List Mark → Option (List Mark) → Option (List T × List Mark)
listed_or item ts (Some us) = Some ([], us)
listed_or item ts None = do
  xs ← commas_at item ts
  us ← sign_at sign.RightParen xs.1
  Some (xs.0, us)

-- none or more, with commas between them, and the `)` behind them
unfoldable pub listed_at : {T : Type 0} → (List Mark → Option (T × List Mark)) → List Mark → Option (List T × List Mark)
listed_at item ts = listed_or item ts (sign_at sign.RightParen ts)

-- ---- words that say what is done

-- `word (`
unfoldable pub verb_at : List ℕ → List Mark → Option (Verb × List Mark)
verb_at text ts = do
  w ← this_word_at text ts
  o ← open_at w.1
  Some (record { at = w.0; paren = o.0 }, o.1)

-- `word ()`
unfoldable pub bare_verb_at : List ℕ → List Mark → Option (Verb × List Mark)
bare_verb_at text ts = do
  v ← verb_at text ts
  us ← sign_at sign.RightParen v.1
  Some (v.0, us)

-- `. word ()`
unfoldable pub act_at : List ℕ → List Mark → Option (Verb × List Mark)
act_at text ts = do
  us ← sign_at sign.Dot ts
  bare_verb_at text us

-- ---- statements that hold none, behind their first token

abbrev pub type_part_or : List Mark → Option (List Mark) → Option (Option TypeName × List Mark)
type_part_or ts None = Some (None, ts)
type_part_or ts (Some us) = do
  ty ← type_at us
  Some (Some ty.0, ty.1)

-- `: T`, if there is one
unfoldable pub type_part_at : List Mark → Option (Option TypeName × List Mark)
type_part_at ts = type_part_or ts (sign_at sign.Colon ts)

abbrev pub source_or : ℕ → List Mark → Option (ℕ × List Mark) → Option (Source × List Mark)
source_or d ts (Some at) = do
  v ← act_at (codes "make") at.1
  Some (Make at.0 v.0, v.1)
source_or d ts None = do
  e ← whole_at d ts
  Some (Value e.0, e.1)

unfoldable pub source_at : ℕ → List Mark → Option (Source × List Mark)
source_at d ts = source_or d ts (clock_at ts)

abbrev pub Read : Type 0
Read = Option (Statement × List Mark)

-- a statement that ends in `;`
abbrev pub ended : Statement → List Mark → Read
ended s ts = do
  us ← sign_at sign.Semicolon ts
  Some (s, us)

unfoldable pub declare_at : ℕ → Binding → List Mark → Read
declare_at d b ts = do
  w ← word_at ts
  ty ← type_part_at w.1
  us ← sign_at sign.Assign ty.1
  r ← source_at d us
  ended (Declare b w.0 ty.0 r.0) r.1

unfoldable pub atomic_at : ℕ → List Mark → Read
atomic_at d ts = do
  w ← word_at ts
  us ← sign_at sign.Assign w.1
  v ← word_at us
  at ← plus_at v.1
  e ← whole_term_at d at.1
  ended (Atomic w.0 v.0 at.0 e.0) e.1

unfoldable pub advance_at : ℕ → List Mark → Read
advance_at at ts = do
  v ← act_at (codes "advanceAll") ts
  ended (AdvanceAll at v.0) v.1

-- `. OUT . println (`
unfoldable pub print_head_at : List Mark → Option ((ℕ × Verb) × List Mark)
print_head_at ts = do
  us ← sign_at sign.Dot ts
  w ← this_word_at (codes "OUT") us
  vs ← sign_at sign.Dot w.1
  v ← verb_at (codes "println") vs
  Some ((w.0, v.0), v.1)

unfoldable pub print_at : ℕ → List Mark → Read
print_at d ts = do
  h ← print_head_at ts
  e ← whole_at d h.1
  us ← sign_at sign.RightParen e.1
  ended (Print h.0.0 h.0.1 e.0) us

unfoldable pub call_at : ℕ → Word → ℕ × List Mark → Read
call_at d w at = do
  es ← listed_at (whole_at d) at.1
  ended (Call w at.0 es.0) es.1

abbrev pub dotted_or : Word → List Mark → Option (ℕ × List Mark) → Read
dotted_or w ts (Some x) = do
  v ← bare_verb_at (codes "resume") ts
  ended (Resume w v.0) v.1
dotted_or w ts None = do
  v ← bare_verb_at (codes "drop") ts
  ended (Drop w v.0) v.1

-- behind the `.`
unfoldable pub dotted_at : Word → List Mark → Read
dotted_at w ts = dotted_or w ts (this_word_at (codes "resume") ts)

unfoldable pub assign_at : ℕ → Word → List Mark → Read
assign_at d w ts = do
  us ← sign_at sign.Assign ts
  e ← whole_at d us
  ended (Assign w e.0) e.1

abbrev pub undotted : ℕ → Word → List Mark → Option (List Mark) → Read
undotted d w ts (Some us) = dotted_at w us
undotted d w ts None = assign_at d w ts

abbrev pub named_or : ℕ → Word → List Mark → Option (ℕ × List Mark) → Read
named_or d w ts (Some at) = call_at d w at
named_or d w ts None = undotted d w ts (sign_at sign.Dot ts)

-- behind its name
unfoldable pub named_at : ℕ → Word → List Mark → Read
named_at d w ts = named_or d w ts (open_at ts)

abbrev pub flat_by : ℕ → Mark → List Mark → Read
flat_by d (Symbol sign.Semicolon) ts = Some (Empty, ts)
flat_by d (Name at text) ts = named_at d (record { at = at; text = text }) ts
flat_by d (Reserved keyword.Val) ts = declare_at d binding.Val ts
flat_by d (Reserved keyword.Var) ts = declare_at d binding.Var ts
flat_by d (Reserved keyword.Atomic) ts = atomic_at d ts
flat_by d (Reserved keyword.Console) ts = print_at d ts
flat_by d (ClockAt at) ts = advance_at at ts
flat_by d _ ts = None

-- a statement that holds none, where so many levels are left behind it
unfoldable pub flat_at : ℕ → List Mark → Read
flat_at d ts = do
  x ← head_at ts
  flat_by d x.0 x.1

-- ---- what stands before the statement or the statements that a statement holds

pub data Head : Type 0 where
  Whole : Statement → Head
  Brace : Head
  Condition : ℕ → Expression → Comparison → Expression → Head
  Range : ℕ → Word → tree.Number → Bound → Head
  Start : ℕ → Option Clocks → Head
  Wait : ℕ → Head
  Hide : ℕ → ℕ → Head

abbrev pub ReadHead : Type 0
ReadHead = Option (Head × List Mark)

abbrev pub whole : Read → ReadHead
whole r = do
  s ← r
  Some (Whole s.0, s.1)

unfoldable pub condition_at : ℕ → List Mark → ReadHead
condition_at d ts = do
  at ← open_at ts
  l ← whole_at d at.1
  c ← comparison_at l.1
  r ← whole_at d c.1
  us ← sign_at sign.RightParen r.1
  Some (Condition at.0 l.0 c.0 r.0, us)

-- behind `Math`, which stands at this offset, where so many levels are left behind the loop
unfoldable pub least_at : ℕ → ℕ → List Mark → Option (Bound × List Mark)
least_at d at ts = do
  us ← sign_at sign.Dot ts
  v ← verb_at (codes "min") us
  e ← whole_at d v.1
  vs ← sign_at sign.Comma e.1
  n ← number_at vs
  ws ← sign_at sign.RightParen n.1
  Some (Least (record { at = at; text = hidden_text (suc d) }) v.0 e.0 n.0, ws)

abbrev pub bound_or : ℕ → List Mark → Option (ℕ × List Mark) → Option (Bound × List Mark)
bound_or d ts (Some at) = least_at d at.0 at.1
bound_or d ts None = do
  n ← number_at ts
  Some (UpTo n.0, n.1)

-- how far a loop goes: where `Math` comes, `Math.min(e, n)`, and else a number
unfoldable pub bound_at : ℕ → List Mark → Option (Bound × List Mark)
bound_at d ts = bound_or d ts (this_word_at (codes "Math") ts)

unfoldable pub range_at : ℕ → List Mark → ReadHead
range_at d ts = do
  at ← open_at ts
  w ← word_at at.1
  us ← keyword_at keyword.In w.1
  lo ← number_at us
  vs ← sign_at sign.DotDot lo.1
  b ← bound_at d vs
  zs ← sign_at sign.RightParen b.1
  Some (Range at.0 w.0 lo.0 b.0, zs)

abbrev pub list_open_by : Mark → List Mark → Option ((ℕ × ℕ) × List Mark)
list_open_by (ClockedAt at) ts = do
  paren ← open_at ts
  Some ((at, paren.0), paren.1)
list_open_by _ ts = None

-- `clocked (`, and the offsets of both
unfoldable pub list_open_at : List Mark → Option ((ℕ × ℕ) × List Mark)
list_open_at [] = None
list_open_at (m ∷ ts) = list_open_by m ts

abbrev pub clocks_or : List Mark → Option ((ℕ × ℕ) × List Mark) → Option (Option Clocks × List Mark)
clocks_or ts None = Some (None, ts)
clocks_or ts (Some at) = do
  ws ← commas_at word_at at.1
  us ← sign_at sign.RightParen ws.1
  Some (Some (record { written = written.Listed at.0.0 at.0.1; names = ws.0 }), us)

-- a `clocked` list, if there is one
unfoldable pub clocks_at : List Mark → Option (Option Clocks × List Mark)
clocks_at ts = clocks_or ts (list_open_at ts)

unfoldable pub start_at : ℕ → List Mark → ReadHead
start_at at ts = do
  cs ← clocks_at ts
  Some (Start at cs.0, cs.1)

abbrev pub hiding_by : List ℕ → ℕ → Mark → List Mark → ReadHead
hiding_by hidden at (FinishAt finish) ts = Some (Hide at finish, ts)
hiding_by hidden at (AsyncAt start) ts = Some (Start start (Some (record { written = written.Ahead at; names = in_force at hidden ∷ [] })), ts)
hiding_by hidden at _ ts = None

-- behind a `clocked` that begins a statement and stands at this offset, where this is the hidden clock of the place
unfoldable pub hiding_at : List ℕ → ℕ → List Mark → ReadHead
hiding_at hidden at ts = do
  x ← head_at ts
  hiding_by hidden at x.0 x.1

abbrev pub head_by : ℕ → List ℕ → List Mark → Mark → List Mark → ReadHead
head_by d hidden all (Symbol sign.LeftBrace) ts = Some (Brace, ts)
head_by d hidden all (Reserved keyword.If) ts = condition_at d ts
head_by d hidden all (Reserved keyword.For) ts = range_at d ts
head_by d hidden all (AsyncAt at) ts = start_at at ts
head_by d hidden all (FinishAt at) ts = Some (Wait at, ts)
head_by d hidden all (ClockedAt at) ts = hiding_at hidden at ts
head_by d hidden all _ ts = whole (flat_at d all)

-- what a statement begins with, where so many levels are left behind it, and this is the hidden clock of the place
unfoldable pub stmt_head_at : ℕ → List ℕ → List Mark → ReadHead
stmt_head_at d hidden ts = do
  x ← head_at ts
  head_by d hidden ts x.0 x.1

-- ---- statements

abbrev pub ahead_or : List Mark → Option (ℕ × List Mark) → Option (List Mark)
ahead_or ts None = Some ts
ahead_or ts (Some close) = None

-- the tokens, unless a `}` comes
unfoldable pub ahead_at : List Mark → Option (List Mark)
ahead_at ts = ahead_or ts (close_at ts)

-- statements up to a `}`, and that with its offset
unfoldable pub stmts_at : (List Mark → Read) → List Mark → Option ((List Statement × ℕ) × List Mark)
stmts_at inner ts = do
  ss ← more_at ahead_at inner [] ts
  close ← close_at ss.1
  Some ((ss.0, close.0), close.1)

abbrev pub else_or : (List Mark → Read) → ℕ → Expression → Comparison → Expression → Statement → List Mark → Option (List Mark) → Read
else_or inner at l c r s ts None = Some (If at l c r s, ts)
else_or inner at l c r s ts (Some us) = do
  t ← inner us
  Some (IfElse at l c r s t.0, t.1)

-- an `if`, behind its statement
unfoldable pub else_at : (List Mark → Read) → ℕ → Expression → Comparison → Expression → Statement → List Mark → Read
else_at inner at l c r s ts = else_or inner at l c r s ts (keyword_at keyword.Else ts)

-- The rest of a statement that begins so, where so many levels are left behind it, and this is the hidden clock of the place. Statements within are
-- read by the hidden clock that they have.
unfoldable pub rest_at : ℕ → (List ℕ → List Mark → Read) → List ℕ → Head → List Mark → Read
rest_at d inner hidden (Whole s) ts = Some (s, ts)
rest_at d inner hidden Brace ts = do
  ss ← stmts_at (inner hidden) ts
  Some (Block ss.0.1 (listed ss.0.0), ss.1)
rest_at d inner hidden (Condition at l c r) ts = do
  s ← inner hidden ts
  else_at (inner hidden) at l c r s.0 s.1
rest_at d inner hidden (Range at w lo b) ts = do
  s ← inner hidden ts
  Some (For at w lo b s.0, s.1)
rest_at d inner hidden (Start at cs) ts = do
  s ← inner (inside cs hidden) ts
  Some (Async at cs s.0, s.1)
rest_at d inner hidden (Wait at) ts = do
  s ← inner [] ts
  Some (Finish at s.0, s.1)
rest_at d inner hidden (Hide at finish) ts = do
  s ← inner (hidden_text (suc d)) ts
  Some (clocked_finish finish (hidden_clock (suc d) at) s.0, s.1)

-- a statement, where so many levels are left, itself among them, and this is the hidden clock of the place
unfoldable pub stmt_at : ℕ → List ℕ → List Mark → Read
stmt_at zero hidden ts = None
stmt_at (suc d) hidden ts = do
  h ← stmt_head_at d hidden ts
  rest_at d (stmt_at d) hidden h.0 h.1

-- ---- methods and programs

unfoldable pub param_at : List Mark → Option (ParamValue × List Mark)
param_at ts = do
  w ← word_at ts
  us ← sign_at sign.Colon w.1
  ty ← type_at us
  Some (record { name = w.0; takes = ty.0 }, ty.1)

-- behind its `def`
unfoldable pub method_at : List Mark → Option (MethodValue × List Mark)
method_at ts = do
  w ← word_at ts
  at ← open_at w.1
  ps ← listed_at param_at at.1
  us ← sign_at sign.LeftBrace ps.1
  ss ← stmts_at (stmt_at 64 []) us
  Some (record { name = w.0; paren = at.0; params = ps.0; body = listed ss.0.0; close = ss.0.1 }, ss.1)

-- behind its `shared`
unfoldable pub shared_at : List Mark → Option (SharedValue × List Mark)
shared_at ts = do
  w ← word_at ts
  us ← sign_at sign.Assign w.1
  n ← number_at us
  vs ← sign_at sign.Semicolon n.1
  Some (record { name = w.0; start = n.0 }, vs)

abbrev pub no_more : TreeValue → List Mark → Option TreeValue
no_more t [] = Some t
no_more t (m ∷ ts) = None

-- a program, which takes all the tokens
unfoldable pub program_at : List Mark → Option TreeValue
program_at ts = do
  ss ← more_at (keyword_at keyword.Shared) shared_at [] ts
  ms ← more_at (keyword_at keyword.Def) method_at [] ss.1
  no_more (record { shared = ss.0; methods = ms.0 }) ms.1

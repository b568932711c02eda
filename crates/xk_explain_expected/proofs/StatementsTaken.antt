-- What a statement spells, the table takes; what is left on the stack behind it are the symbols for an `else` that it could still take.
use Rattle.std.proofs.Common.{◌≡◌, ◌≢◌, ℕ, zero, suc, true, false, List, [], ◌∷◌, Option, Some, None, refl, ap, ◌∙◌}
use Rattle.std.specs.Prelude.{codes}
use Rattle.std.specs.List.{AllByRecursion}
use Rattle.xk_types.specs.declared.instr.Comparison.{Comparison}
use Rattle.xk_types.specs.declared.instr.Comparison.TheVariants as comparison
use Rattle.xk_types.specs.declared.unit.ParamKind.{ParamKind}
use Rattle.xk_types.specs.declared.unit.ParamKind.TheVariants as kind
use Rattle.xk_lexer.specs.declared.token.Sign.TheVariants as sign
use Rattle.xk_lexer.specs.declared.token.Keyword.TheVariants as keyword
use Rattle.xk_tree.specs.declared.tree.Operator.TheVariants as operator
use Rattle.xk_tree.specs.declared.tree.Binding.{Binding}
use Rattle.xk_tree.specs.declared.tree.Binding.TheVariants as binding
use Rattle.xk_tree.specs.declared.tree.TypeName.{TypeName}
use Rattle.xk_tree.specs.declared.tree.Verb.{Verb}
use Rattle.xk_tree.specs.declared.tree.Written.{Written}
use Rattle.xk_tree.specs.declared.tree.Written.TheVariants as written
use Rattle.xk_tree.specs.Tree.{Word, Expression, Source, Clocks, Statement, Statements, Done, More, Block, Empty, Declare, Assign, Atomic}
use Rattle.xk_tree.specs.Tree.{If, IfElse, For, Async, Finish, Call, Resume, Drop, AdvanceAll, Print}
use Rattle.xk_exprs.specs.Marks.{Mark, Name, Operator, Open, CloseAt, Symbol, Reserved}
use Rattle.xk_syntax.specs.Spelling.{word, number, expr, comparison_sign, binding_word, type_mark, type_part, verb, source, bound, row}
use Rattle.xk_syntax.specs.Spelling.{behind_comma, commas, clocked_start, start, inside, hidden_text, stmt, stmts, dangles, IsExpr, IsTerm}
use Rattle.xk_syntax.specs.Spelling.{SourceFits, DeclareFits, WrittenFits, ClocksFit, Fits, AllFit}
use Rattle.xk_explain_expected.specs.declared.terminal.Terminal.{Terminal}
use Rattle.xk_explain_expected.specs.declared.terminal.Terminal.TheVariants as terminal
use Rattle.xk_explain_expected.specs.declared.grammar.Symbol.{Symbol as Sym}
use Rattle.xk_explain_expected.specs.declared.grammar.Symbol.TheVariants as symbol
use Rattle.xk_explain_expected.specs.Grammar.{Behind, Skipped, begun, is_name, name_terminal, keyword_terminal, produced, statement}
use Rattle.xk_explain_expected.specs.Grammar.{statements, optional_else}
use Rattle.xk_explain_expected.specs.Expected.{is_found}
use Rattle.xk_explain_expected.proofs.TakenLemmas.{run, first, run_same, run_skips, run_begun, name_is, for_names, BeginsWithName, run_name}
use Rattle.xk_explain_expected.proofs.TakenLemmas.{name_name}
use Rattle.xk_explain_expected.proofs.ExpressionsTaken.{number_taken, expr_taken, term_taken, argument_taken, source_taken, bound_taken}

-- ---- the parts of statements

statement_name : BeginsWithName symbol.Statement (symbol.AfterName ∷ symbol.Takes terminal.Semicolon ∷ [])
statement_name =
    for_names (λ t. produced symbol.Statement t ≡ Behind (symbol.AfterName ∷ symbol.Takes terminal.Semicolon ∷ [])) refl refl refl refl refl refl refl refl

abbrev declaration_row : List Sym
declaration_row = symbol.OptionalType ∷ symbol.Takes terminal.Assign ∷ symbol.Right ∷ symbol.Takes terminal.Semicolon ∷ []

declaration_name : BeginsWithName symbol.Declaration declaration_row
declaration_name = for_names (λ t. produced symbol.Declaration t ≡ Behind declaration_row) refl refl refl refl refl refl refl refl

abbrev addition_row : List Sym
addition_row = symbol.Takes terminal.Assign ∷ symbol.Name ∷ symbol.Takes terminal.Plus ∷ symbol.Term ∷ symbol.Takes terminal.Semicolon ∷ []

addition_name : BeginsWithName symbol.Addition addition_row
addition_name = for_names (λ t. produced symbol.Addition t ≡ Behind addition_row) refl refl refl refl refl refl refl refl

pub type_taken : (at : ℕ) (k : ParamKind) (stack : List Sym) (after : List Mark) → run (symbol.TypeName ∷ stack) (type_mark at k ∷ after) ≡ run stack after
type_taken at kind.Clock stack after = refl
type_taken at kind.Number stack after = refl

type_part_taken : (ty : Option TypeName) (stack : List Sym) (after : List Mark)
    → run (symbol.OptionalType ∷ symbol.Takes terminal.Assign ∷ stack) (type_part ty (Symbol sign.Assign ∷ after)) ≡ run stack after
type_part_taken None stack after = refl
type_part_taken (Some ty) stack after = type_taken ty.at ty.kind (symbol.Takes terminal.Assign ∷ stack) (Symbol sign.Assign ∷ after)

binding_taken : (b : Binding) (stack : List Sym) (after : List Mark)
    → run (symbol.Statement ∷ stack) (Reserved (binding_word b) ∷ after) ≡ run (symbol.Declaration ∷ stack) after
binding_taken binding.Val stack after = refl
binding_taken binding.Var stack after = refl
binding_taken binding.Hidden stack after = refl

declared_fits : (d : ℕ) (b : Binding) (r : Source) → DeclareFits d b r → SourceFits d r
declared_fits d binding.Val r f = f
declared_fits d binding.Var r f = f
declared_fits d binding.Hidden r f = absurd f

declare_taken : (d : ℕ) (b : Binding) (w : Word) (ty : Option TypeName) (r : Source) → DeclareFits d b r → (stack : List Sym) (after : List Mark)
    → run (symbol.Statement ∷ stack) (stmt (Declare b w ty r) after) ≡ run stack after
declare_taken d b w ty r f stack after =
    let rest = source r (Symbol sign.Semicolon ∷ after) in
    let right = symbol.Right ∷ symbol.Takes terminal.Semicolon ∷ stack in
    let typed = type_part ty (Symbol sign.Assign ∷ rest) in
    binding_taken b stack (word w typed)
    ∙ run_name symbol.Declaration declaration_row declaration_name stack w.at w.text typed
    ∙ type_part_taken ty right rest
    ∙ source_taken d r (declared_fits d b r f) stack after

assign_taken : (d : ℕ) (w : Word) (e : Expression) → IsExpr d e → (stack : List Sym) (after : List Mark)
    → run (symbol.Statement ∷ stack) (stmt (Assign w e) after) ≡ run stack after
assign_taken d w e f stack after =
    let rest = Symbol sign.Semicolon ∷ after in
    run_name symbol.Statement (symbol.AfterName ∷ symbol.Takes terminal.Semicolon ∷ []) statement_name stack w.at w.text (Symbol sign.Assign ∷ expr e rest)
    ∙ expr_taken d e f (symbol.Takes terminal.Semicolon ∷ stack) rest

atomic_taken : (d : ℕ) (w v : Word) (at : ℕ) (e : Expression) → IsTerm d e → (stack : List Sym) (after : List Mark)
    → run (symbol.Statement ∷ stack) (stmt (Atomic w v at e) after) ≡ run stack after
atomic_taken d w v at e f stack after =
    let rest = Symbol sign.Semicolon ∷ after in
    let added = Operator at operator.Plus ∷ expr e rest in
    run_name symbol.Addition addition_row addition_name stack w.at w.text (Symbol sign.Assign ∷ word v added)
    ∙ run_name symbol.Name [] name_name (symbol.Takes terminal.Plus ∷ symbol.Term ∷ symbol.Takes terminal.Semicolon ∷ stack) v.at v.text added
    ∙ term_taken d e f (symbol.Takes terminal.Semicolon ∷ stack) rest

comparison_taken : (c : Comparison) (stack : List Sym) (after : List Mark)
    → run (symbol.MoreFactors ∷ symbol.MoreTerms ∷ symbol.Takes terminal.Comparison ∷ stack) (Symbol (comparison_sign c) ∷ after) ≡ run stack after
comparison_taken comparison.Eq stack after = refl
comparison_taken comparison.Ne stack after = refl
comparison_taken comparison.Lt stack after = refl
comparison_taken comparison.Le stack after = refl
comparison_taken comparison.Gt stack after = refl
comparison_taken comparison.Ge stack after = refl

-- up to the statement of an `if`
condition_taken : (d at : ℕ) (l : Expression) (c : Comparison) (r : Expression) → IsExpr d l → IsExpr d r → (stack : List Sym) (after : List Mark)
    → run (symbol.Statement ∷ stack) (Reserved keyword.If ∷ Open at ∷ expr l (Symbol (comparison_sign c) ∷ expr r (Symbol sign.RightParen ∷ after)))
    ≡ run (symbol.Statement ∷ symbol.OptionalElse ∷ stack) after
condition_taken d at l c r f g stack after =
    let body = symbol.Takes terminal.RightParen ∷ symbol.Statement ∷ symbol.OptionalElse ∷ stack in
    let rest = Symbol sign.RightParen ∷ after in
    expr_taken d l f (symbol.Takes terminal.Comparison ∷ symbol.Expression ∷ body) (Symbol (comparison_sign c) ∷ expr r rest)
    ∙ comparison_taken c (symbol.Expression ∷ body) (expr r rest)
    ∙ expr_taken d r g body rest

more_arguments_taken : (d : ℕ) (es : List Expression) → AllByRecursion (IsExpr d) es → (stack : List Sym) (after : List Mark)
    → run (symbol.MoreFactors ∷ symbol.MoreTerms ∷ symbol.MoreArguments ∷ stack) (row (behind_comma expr) es (Symbol sign.RightParen ∷ after)) ≡ run stack after
more_arguments_taken d [] f stack after = refl
more_arguments_taken d (e ∷ es) f stack after =
    expr_taken d e f.0 (symbol.MoreArguments ∷ stack) (row (behind_comma expr) es (Symbol sign.RightParen ∷ after)) ∙ more_arguments_taken d es f.1 stack after

arguments_taken : (d : ℕ) (es : List Expression) → AllByRecursion (IsExpr d) es → (stack : List Sym) (after : List Mark)
    → run (symbol.Arguments ∷ stack) (commas expr es (Symbol sign.RightParen ∷ after)) ≡ run stack after
arguments_taken d [] f stack after = refl
arguments_taken d (e ∷ es) f stack after =
    argument_taken d e f.0 stack (row (behind_comma expr) es (Symbol sign.RightParen ∷ after)) ∙ more_arguments_taken d es f.1 stack after

call_taken : (d : ℕ) (w : Word) (at : ℕ) (es : List Expression) → AllByRecursion (IsExpr d) es → (stack : List Sym) (after : List Mark)
    → run (symbol.Statement ∷ stack) (stmt (Call w at es) after) ≡ run stack after
call_taken d w at es f stack after =
    let rest = Symbol sign.Semicolon ∷ after in
    run_name symbol.Statement (symbol.AfterName ∷ symbol.Takes terminal.Semicolon ∷ []) statement_name stack w.at w.text
    (Open at ∷ commas expr es (Symbol sign.RightParen ∷ rest))
    ∙ arguments_taken d es f (symbol.Takes terminal.Semicolon ∷ stack) rest

-- behind the name of a clock
dotted_taken : (text : List ℕ) → name_terminal text ≡ terminal.Verb → (w : Word) (v : Verb) (stack : List Sym) (after : List Mark)
    → run (symbol.Statement ∷ stack) (word w (Symbol sign.Dot ∷ verb text v (Symbol sign.RightParen ∷ Symbol sign.Semicolon ∷ after))) ≡ run stack after
dotted_taken text e w v stack after =
    run_name symbol.Statement (symbol.AfterName ∷ symbol.Takes terminal.Semicolon ∷ []) statement_name stack w.at w.text
    (Symbol sign.Dot ∷ verb text v (Symbol sign.RightParen ∷ Symbol sign.Semicolon ∷ after))
    ∙ rw e refl

resume_verb : name_terminal (codes "resume") ≡ terminal.Verb
unfolding name_terminal
resume_verb = refl

drop_verb : name_terminal (codes "drop") ≡ terminal.Verb
unfolding name_terminal
drop_verb = refl

advance_taken : (at : ℕ) (v : Verb) (stack : List Sym) (after : List Mark) → run (symbol.Statement ∷ stack) (stmt (AdvanceAll at v) after) ≡ run stack after
unfolding name_terminal
advance_taken at v stack after = refl

print_taken : (d at : ℕ) (v : Verb) (e : Expression) → IsExpr d e → (stack : List Sym) (after : List Mark)
    → run (symbol.Statement ∷ stack) (stmt (Print at v e) after) ≡ run stack after
unfolding name_terminal
print_taken d at v e f stack after =
    expr_taken d e f (symbol.Takes terminal.RightParen ∷ symbol.Takes terminal.Semicolon ∷ stack) (Symbol sign.RightParen ∷ Symbol sign.Semicolon ∷ after)

-- ---- what statements begin with

-- a statement begins there
abbrev IsBegin : Terminal → Type 0
IsBegin t = is_found (statement t) ≡ true

name_begin : (t : Terminal) → is_name t ≡ true → IsBegin t
name_begin = for_names IsBegin refl refl refl refl refl refl refl refl

declare_begin : (b : Binding) → IsBegin (keyword_terminal (binding_word b))
declare_begin binding.Val = refl
declare_begin binding.Var = refl
declare_begin binding.Hidden = refl

clocked_begin : (at : ℕ) (w : Written) (ws : List Word) (after : List Mark) → IsBegin (first (clocked_start at w ws after))
clocked_begin at (written.Listed clocked paren) ws after = refl
clocked_begin at (written.Ahead clocked) ws after = refl

start_begin : (at : ℕ) (cs : Option Clocks) (after : List Mark) → IsBegin (first (start at cs after))
start_begin at None after = refl
start_begin at (Some cs) after = clocked_begin at cs.written cs.names after

stmt_begin : (s : Statement) (after : List Mark) → IsBegin (first (stmt s after))
stmt_begin (Declare b w ty r) after = declare_begin b
stmt_begin (Assign w e) after = name_begin (name_terminal w.text) (name_is w.text)
stmt_begin (Call w at es) after = name_begin (name_terminal w.text) (name_is w.text)
stmt_begin (Resume w v) after = name_begin (name_terminal w.text) (name_is w.text)
stmt_begin (Drop w v) after = name_begin (name_terminal w.text) (name_is w.text)
stmt_begin (Async at cs s) after = start_begin at cs (stmt s after)
stmt_begin (Finish at (Block close (More (Declare binding.Hidden h ty r) (More s (More (Drop g v) Done))))) after = refl
stmt_begin _ after = refl

statements_row : (t : Terminal) → IsBegin t → statements t ≡ begun (statement t) (symbol.Statements ∷ [])
statements_row terminal.RightBrace h = absurd cc
statements_row _ h = refl

else_skipped : (t : Terminal) → IsBegin t → optional_else t ≡ Skipped
else_skipped terminal.Else h = absurd cc
else_skipped _ h = refl

-- up to a `}` no `else` comes first
stmts_skip : (ss : Statements) (close : ℕ) (after : List Mark) → optional_else (first (stmts ss (CloseAt close ∷ after))) ≡ Skipped
stmts_skip Done close after = refl
stmts_skip (More s ss) close after =
    let rest = stmts ss (CloseAt close ∷ after) in
    else_skipped (first (stmt s rest)) (stmt_begin s rest)

-- ---- `async`

more_clocks_taken : (ws : List Word) (stack : List Sym) (after : List Mark)
    → run (symbol.MoreClocks ∷ stack) (row (behind_comma word) ws (Symbol sign.RightParen ∷ after)) ≡ run stack after
more_clocks_taken [] stack after = refl
more_clocks_taken (w ∷ ws) stack after =
    run_name symbol.Name [] name_name (symbol.MoreClocks ∷ stack) w.at w.text (row (behind_comma word) ws (Symbol sign.RightParen ∷ after))
    ∙ more_clocks_taken ws stack after

clocks_taken : (ws : List Word) → ws ≢ [] → (stack : List Sym) (after : List Mark)
    → run (symbol.Name ∷ symbol.MoreClocks ∷ stack) (commas word ws (Symbol sign.RightParen ∷ after)) ≡ run stack after
clocks_taken [] f stack after = absurd (f refl)
clocks_taken (w ∷ ws) f stack after =
    run_name symbol.Name [] name_name (symbol.MoreClocks ∷ stack) w.at w.text (row (behind_comma word) ws (Symbol sign.RightParen ∷ after))
    ∙ more_clocks_taken ws stack after

name_body : (t : Terminal) → is_name t ≡ true → produced symbol.AfterAsync t ≡ produced symbol.Statement t
name_body = for_names (λ t. produced symbol.AfterAsync t ≡ produced symbol.Statement t) refl refl refl refl refl refl refl refl

-- a statement behind `async` is taken as one elsewhere
async_body : (s : Statement) (stack : List Sym) (after : List Mark) → run (symbol.AfterAsync ∷ stack) (stmt s after) ≡ run (symbol.Statement ∷ stack) (stmt s after)
async_body (Declare binding.Val w ty r) stack after = refl
async_body (Declare binding.Var w ty r) stack after = refl
async_body (Declare binding.Hidden w ty r) stack after = refl
async_body (Assign w e) stack after = run_same symbol.AfterAsync symbol.Statement stack (stmt (Assign w e) after) (name_body (name_terminal w.text) (name_is w.text))
async_body (Call w at es) stack after = run_same symbol.AfterAsync symbol.Statement stack (stmt (Call w at es) after) (name_body (name_terminal w.text) (name_is w.text))
async_body (Resume w v) stack after = run_same symbol.AfterAsync symbol.Statement stack (stmt (Resume w v) after) (name_body (name_terminal w.text) (name_is w.text))
async_body (Drop w v) stack after = run_same symbol.AfterAsync symbol.Statement stack (stmt (Drop w v) after) (name_body (name_terminal w.text) (name_is w.text))
async_body (Async at None s) stack after = refl
async_body (Async at (Some cs) s) stack after = by cs.written
  where
    by : (w : Written)
        → run (symbol.AfterAsync ∷ stack) (clocked_start at w cs.names (stmt s after)) ≡ run (symbol.Statement ∷ stack) (clocked_start at w cs.names (stmt s after))
    by (written.Listed clocked paren) = refl
    by (written.Ahead clocked) = refl
async_body (Finish at (Block close (More (Declare binding.Hidden h ty r) (More s (More (Drop g v) Done))))) stack after = refl
async_body _ stack after = refl

written_taken : (at : ℕ) (hidden : List ℕ) (w : Written) (ws : List Word) → WrittenFits hidden w ws → (stack : List Sym) (after : List Mark)
    → run (symbol.Statement ∷ stack) (clocked_start at w ws after) ≡ run (symbol.Statement ∷ stack) after
written_taken at hidden (written.Listed clocked paren) ws f stack after = clocks_taken ws f (symbol.Statement ∷ stack) after
written_taken at hidden (written.Ahead clocked) ws f stack after = refl

start_taken : (at : ℕ) (hidden : List ℕ) (cs : Option Clocks) → ClocksFit hidden cs → (s : Statement) (stack : List Sym) (after : List Mark)
    → run (symbol.Statement ∷ stack) (start at cs (stmt s after)) ≡ run (symbol.Statement ∷ stack) (stmt s after)
start_taken at hidden None f s stack after = async_body s stack after
start_taken at hidden (Some cs) f s stack after = written_taken at hidden cs.written cs.names f stack (stmt s after)

-- ---- statements

-- the stack behind a statement: on it are the symbols for an `else` that the statement could still take
abbrev left : Statement → List Sym → List Sym
left (If at l c r s) stack = left s (symbol.OptionalElse ∷ stack)
left (IfElse at l c r s t) stack = left t stack
left (For at w lo b s) stack = left s stack
left (Async at cs s) stack = left s stack
left (Finish at (Block close (More (Declare binding.Hidden h ty r) (More s (More (Drop g v) Done))))) stack = left s stack
left (Finish at s) stack = left s stack
left _ stack = stack

-- there are none where it doesn't end in such an `if`
closed : (s : Statement) → dangles s ≡ false → (stack : List Sym) → left s stack ≡ stack
closed (If at l c r s) h stack = absurd cc
closed (IfElse at l c r s t) h stack = closed t h stack
closed (For at w lo b s) h stack = closed s h stack
closed (Async at cs s) h stack = closed s h stack
closed (Finish at (Block close (More (Declare binding.Hidden g ty r) (More s (More (Drop k v) Done))))) h stack = closed s h stack
closed (Finish at s) h stack = closed s h stack
closed _ h stack = refl

-- where no `else` comes they stand for nothing
skipped : (s : Statement) (stack : List Sym) (ms : List Mark) → optional_else (first ms) ≡ Skipped → run (left s stack) ms ≡ run stack ms
skipped (If at l c r s) stack ms h = skipped s (symbol.OptionalElse ∷ stack) ms h ∙ run_skips symbol.OptionalElse stack ms h
skipped (IfElse at l c r s t) stack ms h = skipped t stack ms h
skipped (For at w lo b s) stack ms h = skipped s stack ms h
skipped (Async at cs s) stack ms h = skipped s stack ms h
skipped (Finish at (Block close (More (Declare binding.Hidden g ty r) (More s (More (Drop k v) Done))))) stack ms h = skipped s stack ms h
skipped (Finish at s) stack ms h = skipped s stack ms h
skipped _ stack ms h = refl

mutual
  pub stmt_taken : (s : Statement) (d : ℕ) (hidden : List ℕ) → Fits d hidden s → (stack : List Sym) (after : List Mark)
      → run (symbol.Statement ∷ stack) (stmt s after) ≡ run (left s stack) after
  stmt_taken s zero hidden f stack after = absurd f
  stmt_taken (Block close ss) (suc d) hidden f stack after = stmts_taken ss d hidden f stack close after
  stmt_taken Empty (suc d) hidden f stack after = refl
  stmt_taken (Declare b w ty r) (suc d) hidden f stack after = declare_taken d b w ty r f stack after
  stmt_taken (Assign w e) (suc d) hidden f stack after = assign_taken d w e f stack after
  stmt_taken (Atomic w v at e) (suc d) hidden f stack after = atomic_taken d w v at e f stack after
  stmt_taken (If at l c r s) (suc d) hidden f stack after =
      condition_taken d at l c r f.0 f.1 stack (stmt s after) ∙ stmt_taken s d hidden f.2 (symbol.OptionalElse ∷ stack) after
  stmt_taken (IfElse at l c r s t) (suc d) hidden f stack after =
      let other = Reserved keyword.Else ∷ stmt t after in
      condition_taken d at l c r f.0 f.1 stack (stmt s other)
      ∙ stmt_taken s d hidden f.2 (symbol.OptionalElse ∷ stack) other
      ∙ ap (λ (z : List Sym). run z other) (closed s f.4 (symbol.OptionalElse ∷ stack))
      ∙ stmt_taken t d hidden f.3 stack after
  stmt_taken (For at w lo b s) (suc d) hidden f stack after =
      let body = symbol.Takes terminal.RightParen ∷ symbol.Statement ∷ stack in
      let rest = Symbol sign.RightParen ∷ stmt s after in
      run_name symbol.Name [] name_name (symbol.Takes terminal.In ∷ symbol.Number ∷ symbol.Takes terminal.DotDot ∷ symbol.Bound ∷ body) w.at w.text
      (Reserved keyword.In ∷ number lo (Symbol sign.DotDot ∷ bound b rest))
      ∙ number_taken lo (symbol.Takes terminal.DotDot ∷ symbol.Bound ∷ body) (Symbol sign.DotDot ∷ bound b rest)
      ∙ bound_taken d b f.1 body rest
      ∙ stmt_taken s d hidden f.2 stack after
  stmt_taken (Async at cs s) (suc d) hidden f stack after =
      start_taken at hidden cs f.0 s stack after ∙ stmt_taken s d (inside cs hidden) f.1 stack after
  stmt_taken (Finish at (Block close (More (Declare binding.Hidden h ty r) (More s (More (Drop g v) Done))))) (suc d) hidden f stack after =
      stmt_taken s d (hidden_text (suc d)) f.1 stack after
  stmt_taken (Finish at s) (suc d) hidden f stack after = stmt_taken s d [] f stack after
  stmt_taken (Call w at es) (suc d) hidden f stack after = call_taken d w at es f stack after
  stmt_taken (Resume w v) (suc d) hidden f stack after = dotted_taken (codes "resume") resume_verb w v stack after
  stmt_taken (Drop w v) (suc d) hidden f stack after = dotted_taken (codes "drop") drop_verb w v stack after
  stmt_taken (AdvanceAll at v) (suc d) hidden f stack after = advance_taken at v stack after
  stmt_taken (Print at v e) (suc d) hidden f stack after = print_taken d at v e f stack after

  pub stmts_taken : (ss : Statements) (d : ℕ) (hidden : List ℕ) → AllFit d hidden ss → (stack : List Sym) (close : ℕ) (after : List Mark)
      → run (symbol.Statements ∷ stack) (stmts ss (CloseAt close ∷ after)) ≡ run stack after
  stmts_taken Done d hidden f stack close after = refl
  stmts_taken (More s ss) d hidden f stack close after =
      let rest = stmts ss (CloseAt close ∷ after) in
      let begin = first (stmt s rest) in
      run_begun symbol.Statements symbol.Statement (symbol.Statements ∷ []) stack (stmt s rest) (statement begin) (statements_row begin (stmt_begin s rest)) refl
      ∙ stmt_taken s d hidden f.0 (symbol.Statements ∷ stack) rest
      ∙ skipped s (symbol.Statements ∷ stack) rest (stmts_skip ss close after)
      ∙ stmts_taken ss d hidden f.1 stack close after

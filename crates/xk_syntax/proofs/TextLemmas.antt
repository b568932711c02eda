-- A text spells a tree exactly where its tokens are read as that tree.
use Rattle.std.proofs.Common.{◌≡◌, ℕ, ◌≤◌, List, [], ◌∷◌, ◌++◌, length, map, Option, Some, None, refl, sym, ap, subst, ◌∙◌}
use Rattle.std.specs.Prelude.{IsFalse, Err}
use Rattle.xk_types.specs.declared.unit.ParamKind.{ParamKind}
use Rattle.xk_types.specs.declared.unit.ParamKind.TheVariants as kind
use Rattle.xk_lexer.specs.declared.token.Sign.TheVariants as sign
use Rattle.xk_lexer.specs.declared.token.Keyword.TheVariants as keyword
use Rattle.xk_lexer.specs.declared.token.TokenKind.{TokenKind}
use Rattle.xk_lexer.specs.declared.token.TokenKind.TheVariants as kinds
use Rattle.xk_lexer.specs.declared.token.Token.{Token}
use Rattle.xk_lexer.specs.Tokens.{Lexeme, TokenValue, lexeme, token_value}
use Rattle.xk_lexer.specs.Tokens as lexemes
use Rattle.xk_lexer.specs.Pieces.{has_stray}
use Rattle.xk_lexer.specs.Lexing.{lexed}
use Rattle.xk_lexer.proofs.LexingLemmas.{spelled_lexed, spelled_from_none}
use Rattle.xk_tree.specs.declared.tree.Binding.TheVariants as binding
use Rattle.xk_tree.specs.declared.tree.Written.{Written}
use Rattle.xk_tree.specs.declared.tree.Written.TheVariants as written
use Rattle.xk_tree.specs.declared.tree.Number as tree
use Rattle.xk_tree.specs.Tree.{Word, Clocks, Expression, Literal, Named, Paren, Negation, Binary, Make, Value, UpTo, Least, Statement, Statements, Done, More, Block, Empty, Declare, Assign, Atomic, If, IfElse, For, Async, Finish, Call, Resume, Drop, AdvanceAll, Print, TreeValue}
use Rattle.xk_exprs.specs.Marks.{Mark, Name, Number, Operator, Open, CloseAt, Symbol, Reserved, AsyncAt, FinishAt, ClockedAt, ClockAt, LongAt, Unfit, kind_mark, marks}
use Rattle.xk_exprs.specs.declared.fault.SyntaxError.{SyntaxError}
use Rattle.xk_exprs.specs.declared.fault.SyntaxError.TheVariants as error
use Rattle.xk_exprs.specs.Faults.{front_error}
use Rattle.xk_exprs.specs.ReaderCombinators.{Refuses}
use Rattle.xk_exprs.specs.Spelling.{spell, minus_marks, number_marks}
use Rattle.xk_syntax.specs.Spelling.{word, number, expr, comparison_sign, type_mark, type_name, type_part, source, bound, row, behind_comma, commas, clocked_start, start, stmt, stmts, param, method, shared, program, lexeme_mark, token_mark, SpellsTree}
use Rattle.xk_syntax.specs.Faults.{IsRefused}
use Rattle.xk_syntax.specs.Readers.{program_at}
use Rattle.xk_syntax.proofs.ProgramLemmas.{program_found, program_again}

-- ---- no tree is spelled by a token that none spells

-- none of these is such a token
abbrev Clean : List Mark → Type 0
Clean [] = Unit {0}
Clean (Unfit ∷ ts) = ⊥
Clean (m ∷ ts) = Clean ts

-- what is put in front keeps this
abbrev KeepsClean : {T : Type 0} → (T → List Mark → List Mark) → Type 0
KeepsClean {T = T} f = (x : T) (after : List Mark) → Clean after → Clean (f x after)

clean-append : (xs ys : List Mark) → Clean xs → Clean ys → Clean (xs ++ ys)
clean-append [] ys h k = k
clean-append (Name at text ∷ xs) ys h k = clean-append xs ys h k
clean-append (Number at n ∷ xs) ys h k = clean-append xs ys h k
clean-append (Operator at o ∷ xs) ys h k = clean-append xs ys h k
clean-append (Open at ∷ xs) ys h k = clean-append xs ys h k
clean-append (CloseAt at ∷ xs) ys h k = clean-append xs ys h k
clean-append (Symbol s ∷ xs) ys h k = clean-append xs ys h k
clean-append (Reserved w ∷ xs) ys h k = clean-append xs ys h k
clean-append (AsyncAt at ∷ xs) ys h k = clean-append xs ys h k
clean-append (FinishAt at ∷ xs) ys h k = clean-append xs ys h k
clean-append (ClockedAt at ∷ xs) ys h k = clean-append xs ys h k
clean-append (ClockAt at ∷ xs) ys h k = clean-append xs ys h k
clean-append (LongAt at ∷ xs) ys h k = clean-append xs ys h k
clean-append (Unfit ∷ xs) ys h k = absurd h

minus_clean : (m : Option ℕ) (at n : ℕ) → Clean (minus_marks m ++ Number at n ∷ [])
minus_clean None at n = tt
minus_clean (Some minus) at n = tt

literal_clean : (n : tree.Number) → Clean (number_marks n)
literal_clean n = minus_clean n.minus n.at _

number_clean : KeepsClean number
number_clean n after h = clean-append (number_marks n) after (literal_clean n) h

spell_clean : (e : Expression) → Clean (spell e)
spell_clean (Literal n) = literal_clean n
spell_clean (Named w) = tt
spell_clean (Paren at e) = clean-append (spell e) (Symbol sign.RightParen ∷ []) (spell_clean e) tt
spell_clean (Negation at e) = spell_clean e
spell_clean (Binary o l at r) = clean-append (spell l) (Operator at o ∷ spell r) (spell_clean l) (spell_clean r)

expr_clean : KeepsClean expr
expr_clean e after h = clean-append (spell e) after (spell_clean e) h

word_clean : KeepsClean word
word_clean w after h = h

mark_clean : (at : ℕ) (k : ParamKind) (after : List Mark) → Clean after → Clean (type_mark at k ∷ after)
mark_clean at kind.Clock after h = h
mark_clean at kind.Number after h = h

type_clean : KeepsClean type_name
type_clean ty after h = mark_clean ty.at ty.kind after h

type_part_clean : KeepsClean type_part
type_part_clean None after h = h
type_part_clean (Some ty) after h = type_clean ty after h

source_clean : KeepsClean source
source_clean (Make at v) after h = h
source_clean (Value e) after h = expr_clean e after h

bound_clean : KeepsClean bound
bound_clean (UpTo n) after h = number_clean n after h
bound_clean (Least x v e n) after h =
    let close = Symbol sign.RightParen ∷ after in
    expr_clean e (Symbol sign.Comma ∷ number n close) (number_clean n close h)

row_clean : {T : Type 0} (f : T → List Mark → List Mark) → KeepsClean f → KeepsClean (row f)
row_clean f k [] after h = h
row_clean f k (x ∷ xs) after h = k x (row f xs after) (row_clean f k xs after h)

commas_clean : {T : Type 0} (f : T → List Mark → List Mark) → KeepsClean f → KeepsClean (commas f)
commas_clean f k [] after h = h
commas_clean f k (x ∷ xs) after h = k x (row (behind_comma f) xs after) (row_clean (behind_comma f) k xs after h)

clocks_clean : (at : ℕ) (w : Written) (ws : List Word) (after : List Mark) → Clean after → Clean (clocked_start at w ws after)
clocks_clean at (written.Listed clocked paren) ws after h = commas_clean word word_clean ws (Symbol sign.RightParen ∷ after) h
clocks_clean at (written.Ahead clocked) ws after h = h

start_clean : (at : ℕ) (cs : Option Clocks) (after : List Mark) → Clean after → Clean (start at cs after)
start_clean at None after h = h
start_clean at (Some cs) after h = clocks_clean at cs.written cs.names after h

mutual
  stmt_clean : (s : Statement) (after : List Mark) → Clean after → Clean (stmt s after)
  stmt_clean (Block close ss) after h = stmts_clean ss (CloseAt close ∷ after) h
  stmt_clean Empty after h = h
  stmt_clean (Declare b w ty r) after h = type_part_clean ty (Symbol sign.Assign ∷ source r (Symbol sign.Semicolon ∷ after)) (source_clean r (Symbol sign.Semicolon ∷ after) h)
  stmt_clean (Assign w e) after h = expr_clean e (Symbol sign.Semicolon ∷ after) h
  stmt_clean (Atomic w v at e) after h = expr_clean e (Symbol sign.Semicolon ∷ after) h
  stmt_clean (If at l c r s) after h =
      let body = Symbol sign.RightParen ∷ stmt s after in
      expr_clean l (Symbol (comparison_sign c) ∷ expr r body) (expr_clean r body (stmt_clean s after h))
  stmt_clean (IfElse at l c r s t) after h =
      let other = Reserved keyword.Else ∷ stmt t after in
      let body = Symbol sign.RightParen ∷ stmt s other in
      expr_clean l (Symbol (comparison_sign c) ∷ expr r body) (expr_clean r body (stmt_clean s other (stmt_clean t after h)))
  stmt_clean (For at w lo b s) after h =
      let body = Symbol sign.RightParen ∷ stmt s after in
      number_clean lo (Symbol sign.DotDot ∷ bound b body) (bound_clean b body (stmt_clean s after h))
  stmt_clean (Async at cs s) after h = start_clean at cs (stmt s after) (stmt_clean s after h)
  stmt_clean (Finish at (Block close (More (Declare binding.Hidden b ty r) (More s (More (Drop g v) Done))))) after h = stmt_clean s after h
  stmt_clean (Finish at s) after h = stmt_clean s after h
  stmt_clean (Call w at es) after h = commas_clean expr expr_clean es (Symbol sign.RightParen ∷ Symbol sign.Semicolon ∷ after) h
  stmt_clean (Resume w v) after h = h
  stmt_clean (Drop w v) after h = h
  stmt_clean (AdvanceAll at v) after h = h
  stmt_clean (Print at v e) after h = expr_clean e (Symbol sign.RightParen ∷ Symbol sign.Semicolon ∷ after) h

  stmts_clean : (ss : Statements) (after : List Mark) → Clean after → Clean (stmts ss after)
  stmts_clean Done after h = h
  stmts_clean (More s ss) after h = stmt_clean s (stmts ss after) (stmts_clean ss after h)

param_clean : KeepsClean param
param_clean p after h = type_clean p.takes after h

method_clean : KeepsClean method
method_clean m after h =
    let body = stmts m.body (CloseAt m.close ∷ after) in
    commas_clean param param_clean m.params (Symbol sign.RightParen ∷ Symbol sign.LeftBrace ∷ body) (stmts_clean m.body (CloseAt m.close ∷ after) h)

shared_clean : KeepsClean shared
shared_clean s after h = number_clean s.start (Symbol sign.Semicolon ∷ after) h

program_clean : (t : TreeValue) → Clean (program t)
program_clean t = row_clean shared shared_clean t.shared (row method t.methods []) (row_clean method method_clean t.methods [] tt)

-- ---- tokens and their marks

kind_kept : (at : ℕ) (k : TokenKind) → kind_mark at k ≡ lexeme_mark at (lexeme k)
kind_kept at (kinds.Name text) = refl
kind_kept at (kinds.Keyword w) = refl
kind_kept at (kinds.Number n) = refl
kind_kept at kinds.BadNumber = refl
kind_kept at (kinds.Sign s) = refl
kind_kept at kinds.Stray = refl

marks_kept : (ts : List Token) → marks ts ≡ map token_mark (map token_value ts)
marks_kept [] = refl
marks_kept (t ∷ ts) = ap (λ (m : Mark). m ∷ marks ts) (kind_kept t.at t.kind) ∙ ap (λ (l : List Mark). token_mark (token_value t) ∷ l) (marks_kept ts)

first_clean : (m : Mark) (ts : List Mark) → Clean (m ∷ ts) → Clean ts
first_clean Unfit ts h = absurd h
first_clean _ ts h = h

none_stray : (tokens : List TokenValue) → Clean (map token_mark tokens) → IsFalse (has_stray tokens)
none_stray [] h = refl
none_stray (t ∷ ts) h = by (none_stray ts) t.what h
  where
    by : (Clean (map token_mark ts) → IsFalse (has_stray ts)) → (l : Lexeme) → Clean (lexeme_mark t.at l ∷ map token_mark ts)
        → IsFalse (has_stray (record { at = t.at; what = l } ∷ ts))
    by ih (lexemes.Name text) k = ih k
    by ih (lexemes.Reserved w) k = ih (first_clean (lexeme_mark t.at (lexemes.Reserved w)) (map token_mark ts) k)
    by ih (lexemes.Number n) k = ih k
    by ih lexemes.BadNumber k = absurd k
    by ih (lexemes.Symbol s) k = ih (first_clean (lexeme_mark t.at (lexemes.Symbol s)) (map token_mark ts) k)
    by ih lexemes.Stray k = absurd k

-- ---- texts

-- the marks of these tokens, which are those of the text
all_marks : (text : List ℕ) (ts : List Token) → map token_value ts ≡ lexed text → marks ts ≡ map token_mark (lexed text)
all_marks text ts e = marks_kept ts ∙ ap (map token_mark) e

pub spelled_from_read : (text : List ℕ) (t : TreeValue) → length text ≤ 1048576 → program_at (map token_mark (lexed text)) ≡ Some t → SpellsTree text t
spelled_from_read text t short r =
    let f = program_found (map token_mark (lexed text)) t r in
    let none = none_stray (lexed text) (subst Clean (sym f.0) (program_clean t)) in
    record { short = short; spelled = (lexed text, spelled_from_none text none, f.0); fits = f.1 }

pub tree_spelled : (text : List ℕ) (ts : List Token) (t : TreeValue)
    → length text ≤ 1048576 → map token_value ts ≡ lexed text → program_at (marks ts) ≡ Some t → SpellsTree text t
tree_spelled text ts t short e r = spelled_from_read text t short (sym (ap program_at (all_marks text ts e)) ∙ r)

tree_read : (text : List ℕ) (t : TreeValue) → SpellsTree text t → program_at (map token_mark (lexed text)) ≡ Some t
tree_read text t s =
    let m : map token_mark (lexed text) ≡ program t = ap (map token_mark) (spelled_lexed text s.spelled.0 s.spelled.1) ∙ s.spelled.2 in
    ap program_at m ∙ program_again t s.fits

pub none_from_read : (text : List ℕ) → program_at (map token_mark (lexed text)) ≡ None → (t : TreeValue) → ¬ SpellsTree text t
none_from_read text r t s = let p = tree_read text t s in absurd cc

none_spelled : (text : List ℕ) (ts : List Token) → map token_value ts ≡ lexed text → program_at (marks ts) ≡ None → (t : TreeValue) → ¬ SpellsTree text t
none_spelled text ts e r = none_from_read text (sym (ap program_at (all_marks text ts e)) ∙ r)

pub one_tree : (text : List ℕ) (t u : TreeValue) → SpellsTree text t → SpellsTree text u → t ≡ u
one_tree text t u s r =
    let p = tree_read text t s in
    let q = tree_read text u r in
    cc

-- ---- what `parse` answers

pub error_refused : (text : List ℕ) (ts : List Token) (e : SyntaxError) → map token_value ts ≡ lexed text → Refuses e (program_at (marks ts))
    → IsRefused text (Err (front_error e))
error_refused text ts (error.Fault f) r g = none_spelled text ts r g
error_refused text ts error.OutOfMemory r g = tt

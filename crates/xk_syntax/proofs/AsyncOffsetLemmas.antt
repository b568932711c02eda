-- In a tree that a text spells the words `async` stand at rising offsets.
use Rattle.std.proofs.Common.{◌≡◌, ℕ, zero, suc, ◌+◌, ◌<◌, ◌≤◌, List, [], ◌∷◌, ◌++◌, map, Option, Some, None, refl, sym, ap, subst, ◌∙◌, arith}
use Rattle.std.specs.List.{slice_index}
use Rattle.std.specs.List.Sorted.{IsStrictlyIncreasing}
use Rattle.std.proofs.lemmas.List.{append_assoc, append-nil}
use Rattle.xk_types.specs.declared.unit.ParamKind.{ParamKind}
use Rattle.xk_types.specs.declared.unit.ParamKind.TheVariants as kind
use Rattle.xk_lexer.specs.declared.token.Sign.{Sign}
use Rattle.xk_lexer.specs.declared.token.Sign.TheVariants as sign
use Rattle.xk_lexer.specs.declared.token.Keyword.{Keyword}
use Rattle.xk_lexer.specs.declared.token.Keyword.TheVariants as keyword
use Rattle.xk_lexer.specs.Tokens.{Lexeme, TokenValue}
use Rattle.xk_lexer.specs.Tokens as lexemes
use Rattle.xk_lexer.specs.Pieces.{offsets}
use Rattle.xk_lexer.proofs.LexingLemmas.{spelled_lexed}
use Rattle.xk_lexer.proofs.OffsetLemmas.{lexed_increasing}
use Rattle.xk_tree.specs.declared.tree.Binding.TheVariants as binding
use Rattle.xk_tree.specs.declared.tree.Written.{Written}
use Rattle.xk_tree.specs.declared.tree.Written.TheVariants as written
use Rattle.xk_tree.specs.declared.tree.Number as tree
use Rattle.xk_tree.specs.Tree.{Word, Clocks, Expression, Literal, Named, Paren, Negation, Binary, Make, Value, UpTo, Least, Statement, Statements, Done, More, Block, Empty, Declare, Assign, Atomic, If, IfElse, For, Async, Finish, Call, Resume, Drop, AdvanceAll, Print, MethodValue, TreeValue}
use Rattle.xk_tree.specs.AsyncOffsets.{asyncs, asyncs_in, asyncs_of_methods, HasBodiesApart}
use Rattle.xk_exprs.specs.Marks.{Mark, Name, Number, Operator, Open, CloseAt, Symbol, Reserved, AsyncAt, FinishAt, ClockedAt, ClockAt, LongAt, Unfit, keyword_mark, sign_mark}
use Rattle.xk_exprs.specs.Spelling.{spell, minus_marks, number_marks}
use Rattle.xk_syntax.specs.Spelling.{word, number, expr, comparison_sign, type_mark, type_name, type_part, source, bound, row, behind_comma, commas, clocked_start, start, stmt, stmts, param, method, shared, program, lexeme_mark, token_mark, SpellsTree}

-- ---- the words `async` of a tree are those of its spelling

-- where the words `async` stand among tokens
abbrev marked : List Mark → List ℕ
marked [] = []
marked (AsyncAt at ∷ ts) = at ∷ marked ts
marked (m ∷ ts) = marked ts

-- what is put in front has none
abbrev AddsNone : {T : Type 0} → (T → List Mark → List Mark) → Type 0
AddsNone {T = T} f = (x : T) (after : List Mark) → marked (f x after) ≡ marked after

behind : (xs ys : List Mark) → marked xs ≡ [] → marked (xs ++ ys) ≡ marked ys
behind [] ys h = refl
behind (Name at text ∷ xs) ys h = behind xs ys h
behind (Number at n ∷ xs) ys h = behind xs ys h
behind (Operator at o ∷ xs) ys h = behind xs ys h
behind (Open at ∷ xs) ys h = behind xs ys h
behind (CloseAt at ∷ xs) ys h = behind xs ys h
behind (Symbol s ∷ xs) ys h = behind xs ys h
behind (Reserved w ∷ xs) ys h = behind xs ys h
behind (AsyncAt at ∷ xs) ys h = absurd cc
behind (FinishAt at ∷ xs) ys h = behind xs ys h
behind (ClockedAt at ∷ xs) ys h = behind xs ys h
behind (ClockAt at ∷ xs) ys h = behind xs ys h
behind (LongAt at ∷ xs) ys h = behind xs ys h
behind (Unfit ∷ xs) ys h = behind xs ys h

minus_none : (m : Option ℕ) (at n : ℕ) → marked (minus_marks m ++ Number at n ∷ []) ≡ []
minus_none None at n = refl
minus_none (Some minus) at n = refl

literal_none : (n : tree.Number) → marked (number_marks n) ≡ []
literal_none n = minus_none n.minus n.at _

number_none : AddsNone number
number_none n after = behind (number_marks n) after (literal_none n)

spell_none : (e : Expression) → marked (spell e) ≡ []
spell_none (Literal n) = literal_none n
spell_none (Named w) = refl
spell_none (Paren at e) = behind (spell e) (Symbol sign.RightParen ∷ []) (spell_none e)
spell_none (Negation at e) = spell_none e
spell_none (Binary o l at r) = behind (spell l) (Operator at o ∷ spell r) (spell_none l) ∙ spell_none r

expr_none : AddsNone expr
expr_none e after = behind (spell e) after (spell_none e)

word_none : AddsNone word
word_none w after = refl

mark_none : (at : ℕ) (k : ParamKind) (after : List Mark) → marked (type_mark at k ∷ after) ≡ marked after
mark_none at kind.Clock after = refl
mark_none at kind.Number after = refl

type_none : AddsNone type_name
type_none ty after = mark_none ty.at ty.kind after

type_part_none : AddsNone type_part
type_part_none None after = refl
type_part_none (Some ty) after = type_none ty after

source_none : AddsNone source
source_none (Make at v) after = refl
source_none (Value e) after = expr_none e after

bound_none : AddsNone bound
bound_none (UpTo n) after = number_none n after
bound_none (Least x v e n) after =
    let close = Symbol sign.RightParen ∷ after in
    expr_none e (Symbol sign.Comma ∷ number n close) ∙ number_none n close

row_none : {T : Type 0} (f : T → List Mark → List Mark) → AddsNone f → AddsNone (row f)
row_none f k [] after = refl
row_none f k (x ∷ xs) after = k x (row f xs after) ∙ row_none f k xs after

commas_none : {T : Type 0} (f : T → List Mark → List Mark) → AddsNone f → AddsNone (commas f)
commas_none f k [] after = refl
commas_none f k (x ∷ xs) after = k x (row (behind_comma f) xs after) ∙ row_none (behind_comma f) k xs after

clocks_marked : (at : ℕ) (w : Written) (ws : List Word) (after : List Mark) → marked (clocked_start at w ws after) ≡ at ∷ marked after
clocks_marked at (written.Listed clocked paren) ws after = ap (λ (l : List ℕ). at ∷ l) (commas_none word word_none ws (Symbol sign.RightParen ∷ after))
clocks_marked at (written.Ahead clocked) ws after = refl

start_marked : (at : ℕ) (cs : Option Clocks) (after : List Mark) → marked (start at cs after) ≡ at ∷ marked after
start_marked at None after = refl
start_marked at (Some cs) after = clocks_marked at cs.written cs.names after

mutual
  stmt_marked : (s : Statement) (after : List Mark) → marked (stmt s after) ≡ asyncs s ++ marked after
  stmt_marked (Block close ss) after = stmts_marked ss (CloseAt close ∷ after)
  stmt_marked Empty after = refl
  stmt_marked (Declare b w ty r) after = type_part_none ty (Symbol sign.Assign ∷ source r (Symbol sign.Semicolon ∷ after)) ∙ source_none r (Symbol sign.Semicolon ∷ after)
  stmt_marked (Assign w e) after = expr_none e (Symbol sign.Semicolon ∷ after)
  stmt_marked (Atomic w v at e) after = expr_none e (Symbol sign.Semicolon ∷ after)
  stmt_marked (If at l c r s) after =
      let body = Symbol sign.RightParen ∷ stmt s after in
      expr_none l (Symbol (comparison_sign c) ∷ expr r body) ∙ expr_none r body ∙ stmt_marked s after
  stmt_marked (IfElse at l c r s t) after =
      let other = Reserved keyword.Else ∷ stmt t after in
      let body = Symbol sign.RightParen ∷ stmt s other in
      expr_none l (Symbol (comparison_sign c) ∷ expr r body) ∙ expr_none r body ∙ stmt_marked s other
      ∙ ap (λ (l : List ℕ). asyncs s ++ l) (stmt_marked t after) ∙ sym (append_assoc (asyncs s) (asyncs t) (marked after))
  stmt_marked (For at w lo b s) after =
      let body = Symbol sign.RightParen ∷ stmt s after in
      number_none lo (Symbol sign.DotDot ∷ bound b body) ∙ bound_none b body ∙ stmt_marked s after
  stmt_marked (Async at cs s) after = start_marked at cs (stmt s after) ∙ ap (λ (l : List ℕ). at ∷ l) (stmt_marked s after)
  stmt_marked (Finish at (Block close (More (Declare binding.Hidden h ty r) (More s (More (Drop g v) Done))))) after =
      stmt_marked s after ∙ ap (λ (l : List ℕ). l ++ marked after) (sym (append-nil (asyncs s)))
  stmt_marked (Finish at s) after = stmt_marked s after
  stmt_marked (Call w at es) after = commas_none expr expr_none es (Symbol sign.RightParen ∷ Symbol sign.Semicolon ∷ after)
  stmt_marked (Resume w v) after = refl
  stmt_marked (Drop w v) after = refl
  stmt_marked (AdvanceAll at v) after = refl
  stmt_marked (Print at v e) after = expr_none e (Symbol sign.RightParen ∷ Symbol sign.Semicolon ∷ after)

  stmts_marked : (ss : Statements) (after : List Mark) → marked (stmts ss after) ≡ asyncs_in ss ++ marked after
  stmts_marked Done after = refl
  stmts_marked (More s ss) after =
      stmt_marked s (stmts ss after) ∙ ap (λ (l : List ℕ). asyncs s ++ l) (stmts_marked ss after) ∙ sym (append_assoc (asyncs s) (asyncs_in ss) (marked after))

param_none : AddsNone param
param_none p after = type_none p.takes after

method_marked : (m : MethodValue) (after : List Mark) → marked (method m after) ≡ asyncs_in m.body ++ marked after
method_marked m after =
    let body = stmts m.body (CloseAt m.close ∷ after) in
    commas_none param param_none m.params (Symbol sign.RightParen ∷ Symbol sign.LeftBrace ∷ body) ∙ stmts_marked m.body (CloseAt m.close ∷ after)

methods_marked : (ms : List MethodValue) → marked (row method ms []) ≡ asyncs_of_methods ms
methods_marked [] = refl
methods_marked (m ∷ ms) = method_marked m (row method ms []) ∙ ap (λ (l : List ℕ). asyncs_in m.body ++ l) (methods_marked ms)

shared_none : AddsNone shared
shared_none s after = number_none s.start (Symbol sign.Semicolon ∷ after)

program_marked : (t : TreeValue) → marked (program t) ≡ asyncs_of_methods t.methods
program_marked t = row_none shared shared_none t.shared (row method t.methods []) ∙ methods_marked t.methods

-- ---- those of tokens rise, since the tokens' offsets do

-- each is above those before it, and none is below this one
abbrev Rises : ℕ → List ℕ → Type 0
Rises low [] = Unit {0}
Rises low (x ∷ xs) = (low ≤ x) × Rises (suc x) xs

from_lower : (low high : ℕ) (xs : List ℕ) → low ≤ high → Rises high xs → Rises low xs
from_lower low high [] below h = tt
from_lower low high (x ∷ xs) below h = let least = h.0 in (omega arith, h.1)

later_increasing : (x y : ℕ) (ys : List ℕ) → IsStrictlyIncreasing (x ∷ y ∷ ys) → IsStrictlyIncreasing (y ∷ ys)
later_increasing x y ys inc k below =
    let next : suc k + 1 ≡ suc (k + 1) = omega arith in
    subst (λ (n : ℕ). slice_index (x ∷ y ∷ ys) (suc k) < slice_index (x ∷ y ∷ ys) n) next (inc (suc k) (omega arith))

rises_from : (low x : ℕ) (xs : List ℕ) → low ≤ x → IsStrictlyIncreasing (x ∷ xs) → Rises low (x ∷ xs)
rises_from low x [] h inc = (h, tt)
rises_from low x (y ∷ ys) h inc = (h, rises_from (suc x) y ys (let first = inc 0 (omega arith) in omega (arith, first)) (later_increasing x y ys inc))

increasing_rises : (xs : List ℕ) → IsStrictlyIncreasing xs → Rises 0 xs
increasing_rises [] inc = tt
increasing_rises (x ∷ xs) inc = rises_from 0 x xs (omega arith) inc

rises_increasing : (low : ℕ) (xs : List ℕ) → Rises low xs → IsStrictlyIncreasing xs
rises_increasing low [] h k below = absurd (omega arith)
rises_increasing low (x ∷ []) h k below = absurd (omega arith)
rises_increasing low (x ∷ y ∷ ys) h zero below = let next = h.1 in omega (arith, next.0)
rises_increasing low (x ∷ y ∷ ys) h (suc k) below =
    let next : suc k + 1 ≡ suc (k + 1) = omega arith in
    rw next (rises_increasing (suc x) (y ∷ ys) h.1 k (omega arith))

keyword_rises : (low at : ℕ) (w : Keyword) (ts : List Mark) → low ≤ at → Rises (suc at) (marked ts) → Rises low (marked (keyword_mark at w ∷ ts))
keyword_rises low at keyword.Async ts below h = (below, h)
keyword_rises low at _ ts below h = from_lower low (suc at) (marked ts) (omega arith) h

sign_rises : (low at : ℕ) (s : Sign) (ts : List Mark) → low ≤ at → Rises (suc at) (marked ts) → Rises low (marked (sign_mark at s ∷ ts))
sign_rises low at sign.Plus ts below h = from_lower low (suc at) (marked ts) (omega arith) h
sign_rises low at _ ts below h = from_lower low (suc at) (marked ts) (omega arith) h

token_rises : (low at : ℕ) (l : Lexeme) (ts : List Mark) → low ≤ at → Rises (suc at) (marked ts) → Rises low (marked (lexeme_mark at l ∷ ts))
token_rises low at (lexemes.Reserved w) ts below h = keyword_rises low at w ts below h
token_rises low at (lexemes.Symbol s) ts below h = sign_rises low at s ts below h
token_rises low at _ ts below h = from_lower low (suc at) (marked ts) (omega arith) h

tokens_rise : (low : ℕ) (ts : List TokenValue) → Rises low (offsets ts) → Rises low (marked (map token_mark ts))
tokens_rise low [] h = tt
tokens_rise low (t ∷ ts) h = token_rises low t.at t.what (map token_mark ts) h.0 (tokens_rise (suc t.at) ts h.1)

-- ---- texts

pub bodies_apart : (text : List ℕ) (t : TreeValue) → SpellsTree text t → HasBodiesApart t
bodies_apart text t s =
    let ts = s.spelled.0 in
    let inc : IsStrictlyIncreasing (offsets ts) = subst (λ (l : List TokenValue). IsStrictlyIncreasing (offsets l)) (spelled_lexed text ts s.spelled.1) (lexed_increasing text) in
    let rise : Rises 0 (marked (map token_mark ts)) = tokens_rise 0 ts (increasing_rises (offsets ts) inc) in
    let is = ap marked s.spelled.2 ∙ program_marked t in
    rises_increasing 0 (asyncs_of_methods t.methods) (subst (Rises 0) is rise)

-- Whatever is spelled has tokens.
use Rattle.std.proofs.Common.{ℕ, ◌<◌, ◌≤◌, List, [], ◌∷◌, length, Option, Some, None, arith, length-append}
use Rattle.xk_lexer.specs.declared.token.Sign.TheVariants as sign
use Rattle.xk_lexer.specs.declared.token.Keyword.TheVariants as keyword
use Rattle.xk_tree.specs.declared.tree.Binding.TheVariants as binding
use Rattle.xk_tree.specs.declared.tree.Written.{Written}
use Rattle.xk_tree.specs.declared.tree.Written.TheVariants as written
use Rattle.xk_tree.specs.Tree.{Word, Clocks, Make, Value, UpTo, Least, Statement, Statements, Done, More, Block, Empty, Declare, Assign, Atomic, If, IfElse, For, Async, Finish, Call, Resume, Drop, AdvanceAll, Print}
use Rattle.xk_exprs.specs.Marks.{Mark, Symbol, Reserved, CloseAt}
use Rattle.xk_exprs.specs.Spelling.{spell, number_marks}
use Rattle.xk_syntax.specs.Spelling.{word, number, expr, comparison_sign, type_name, type_part, source, bound, row, behind_comma, commas, clocked_start, start, stmt, stmts}

abbrev pub Longer : {T : Type 0} → (T → List Mark → List Mark) → Type 0
Longer {T = T} f = (x : T) (after : List Mark) → length after ≤ length (f x after)

expr_longer : Longer expr
expr_longer e after = omega (arith, length-append (spell e) after)

word_longer : Longer word
word_longer w after = omega arith

pub type_longer : Longer type_name
type_longer ty after = omega arith

type_part_longer : Longer type_part
type_part_longer None after = omega arith
type_part_longer (Some ty) after = omega (arith, type_longer ty after)

source_longer : Longer source
source_longer (Make at v) after = omega arith
source_longer (Value e) after = expr_longer e after

number_longer : Longer number
number_longer n after = omega (arith, length-append (number_marks n) after)

bound_longer : Longer bound
bound_longer (UpTo n) after = number_longer n after
bound_longer (Least x v e n) after =
    let close = Symbol sign.RightParen ∷ after in
    omega (arith, expr_longer e (Symbol sign.Comma ∷ number n close), number_longer n close)

row_longer : {T : Type 0} (f : T → List Mark → List Mark) → Longer f → Longer (row f)
row_longer f l [] after = omega arith
row_longer f l (x ∷ xs) after = omega (arith, l x (row f xs after), row_longer f l xs after)

pub commas_longer : {T : Type 0} (f : T → List Mark → List Mark) → Longer f → Longer (commas f)
commas_longer f l [] after = omega arith
commas_longer f l (x ∷ xs) after = omega (arith, l x (row (behind_comma f) xs after), row_longer (behind_comma f) (λ y us. omega (arith, l y us)) xs after)

clocks_longer : (at : ℕ) (w : Written) (ws : List Word) (after : List Mark) → length after < length (clocked_start at w ws after)
clocks_longer at (written.Listed clocked paren) ws after = omega (arith, commas_longer word word_longer ws (Symbol sign.RightParen ∷ after))
clocks_longer at (written.Ahead clocked) ws after = omega arith

start_longer : (at : ℕ) (cs : Option Clocks) (after : List Mark) → length after < length (start at cs after)
start_longer at None after = omega arith
start_longer at (Some cs) after = clocks_longer at cs.written cs.names after

mutual
  pub stmt_longer : (s : Statement) (after : List Mark) → length after < length (stmt s after)
  stmt_longer (Block close ss) after = omega (arith, stmts_longer ss (CloseAt close ∷ after))
  stmt_longer Empty after = omega arith
  stmt_longer (Declare b w ty r) after = omega (
    arith,
    type_part_longer ty (Symbol sign.Assign ∷ source r (Symbol sign.Semicolon ∷ after)),
    source_longer r
        (Symbol sign.Semicolon ∷ after),
  )
  stmt_longer (Assign w e) after = omega (arith, expr_longer e (Symbol sign.Semicolon ∷ after))
  stmt_longer (Atomic w v at e) after = omega (arith, expr_longer e (Symbol sign.Semicolon ∷ after))
  stmt_longer (If at l c r s) after =
      let right = expr r (Symbol sign.RightParen ∷ stmt s after) in
      omega (arith, expr_longer l (Symbol (comparison_sign c) ∷ right), expr_longer r (Symbol sign.RightParen ∷ stmt s after), stmt_longer s after)
  stmt_longer (IfElse at l c r s t) after =
      let rest = stmt s (Reserved keyword.Else ∷ stmt t after) in
      let right = expr r (Symbol sign.RightParen ∷ rest) in
      omega (
        arith,
        expr_longer l (Symbol (comparison_sign c) ∷ right),
        expr_longer r (Symbol sign.RightParen ∷ rest),
        stmt_longer s
            (Reserved keyword.Else ∷ stmt t after),
        stmt_longer t after,
      )
  stmt_longer (For at w lo b s) after =
      let body = Symbol sign.RightParen ∷ stmt s after in
      omega (arith, number_longer lo (Symbol sign.DotDot ∷ bound b body), bound_longer b body, stmt_longer s after)
  stmt_longer (Async at cs s) after = omega (arith, start_longer at cs (stmt s after), stmt_longer s after)
  stmt_longer (Finish at (Block close (More (Declare binding.Hidden h ty r) (More s (More (Drop g v) Done))))) after = omega (arith, stmt_longer s after)
  stmt_longer (Finish at s) after = omega (arith, stmt_longer s after)
  stmt_longer (Call w at es) after = omega (arith, commas_longer expr expr_longer es (Symbol sign.RightParen ∷ Symbol sign.Semicolon ∷ after))
  stmt_longer (Resume w v) after = omega arith
  stmt_longer (Drop w v) after = omega arith
  stmt_longer (AdvanceAll at v) after = omega arith
  stmt_longer (Print at v e) after = omega (arith, expr_longer e (Symbol sign.RightParen ∷ Symbol sign.Semicolon ∷ after))

  pub stmts_longer : (ss : Statements) (after : List Mark) → length after ≤ length (stmts ss after)
  stmts_longer Done after = omega arith
  stmts_longer (More s ss) after = omega (arith, stmt_longer s (stmts ss after), stmts_longer ss after)

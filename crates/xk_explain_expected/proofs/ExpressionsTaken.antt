-- What a number and an expression spell, the table takes.
use Rattle.std.proofs.Common.{◌≡◌, ℕ, ◌≤◌, ◌<◌, true, List, [], ◌∷◌, ◌++◌, Option, Some, None, refl, ap, ◌∙◌, append_assoc, arith}
use Rattle.xk_lexer.specs.declared.token.Sign.TheVariants as sign
use Rattle.xk_tree.specs.declared.tree.Operator.{Operator as Op}
use Rattle.xk_tree.specs.declared.tree.Operator.TheVariants as operator
use Rattle.xk_tree.specs.declared.tree.Number as tree
use Rattle.xk_tree.specs.Tree.{Expression, Literal, Named, Paren, Negation, Binary, Source, Make, Value, Bound, UpTo, Least}
use Rattle.xk_exprs.specs.Marks.{Mark, Name, Number, Operator, Open, Symbol}
use Rattle.xk_exprs.specs.Spelling.{minus_marks, spell, binds, level, IsGrouped}
use Rattle.xk_syntax.specs.Spelling.{number, expr, IsExpr, IsTerm, SourceFits, BoundFits, bound, source}
use Rattle.xk_explain_expected.specs.declared.terminal.Terminal.{Terminal}
use Rattle.xk_explain_expected.specs.declared.terminal.Terminal.TheVariants as terminal
use Rattle.xk_explain_expected.specs.declared.grammar.Symbol.{Symbol as Sym}
use Rattle.xk_explain_expected.specs.declared.grammar.Symbol.TheVariants as symbol
use Rattle.xk_explain_expected.specs.Grammar.{Behind, is_name, factor, name_terminal, produced, right, arguments, begun}
use Rattle.xk_explain_expected.specs.Expected.{is_found}
use Rattle.xk_explain_expected.proofs.TakenLemmas.{run, first, run_begun, run_same, name_is, for_names, BeginsWithName, run_name}

-- ---- numbers

-- by a symbol that begins with digits, and with a `-` that leaves one which does
minus_taken : (s b : Sym) → produced s terminal.Minus ≡ Behind (b ∷ []) → produced b terminal.Digits ≡ Behind [] → produced s terminal.Digits ≡ Behind []
    → (m : Option ℕ) (at n : ℕ) (stack : List Sym) (after : List Mark) → run (s ∷ stack) ((minus_marks m ++ Number at n ∷ []) ++ after) ≡ run stack after
minus_taken s b p q r None at n stack after = rw r refl
minus_taken s b p q r (Some k) at n stack after = rw (p, q) refl

pub number_taken : (n : tree.Number) (stack : List Sym) (after : List Mark) → run (symbol.Number ∷ stack) (number n after) ≡ run stack after
number_taken n stack after = minus_taken symbol.Number (symbol.Takes terminal.Digits) refl refl refl n.minus n.at _ stack after

-- ---- expressions

-- an expression's tokens, and then these
abbrev put : Expression → List Mark → List Mark
put (Literal n) after = number n after
put (Named w) after = Name w.at w.text ∷ after
put (Paren at e) after = Open at ∷ put e (Symbol sign.RightParen ∷ after)
put (Negation at e) after = Operator at operator.Minus ∷ put e after
put (Binary o l at r) after = put l (Operator at o ∷ put r after)

put_is : (e : Expression) (after : List Mark) → expr e after ≡ put e after
put_is (Literal n) after = refl
put_is (Named w) after = refl
put_is (Paren at e) after =
    ap (λ (z : List Mark). Open at ∷ z) (append_assoc (spell e) (Symbol sign.RightParen ∷ []) after ∙ put_is e (Symbol sign.RightParen ∷ after))
put_is (Negation at e) after = ap (λ (z : List Mark). Operator at operator.Minus ∷ z) (put_is e after)
put_is (Binary o l at r) after =
    append_assoc (spell l) (Operator at o ∷ spell r) after
    ∙ put_is l (Operator at o ∷ (spell r ++ after))
    ∙ ap (λ (z : List Mark). put l (Operator at o ∷ z)) (put_is r after)

factor_name : BeginsWithName symbol.Factor []
factor_name = for_names (λ t. produced symbol.Factor t ≡ Behind []) refl refl refl refl refl refl refl refl

-- What the table makes of an expression's tokens: of a factor and a term too, where it is one. The symbols for more of it are left.
record Taken (e : Expression) : Type 0 where
  as_factor : level e ≡ 0 → (stack : List Sym) (after : List Mark) → run (symbol.Factor ∷ stack) (put e after) ≡ run stack after
  as_term : level e ≤ 1 → (stack : List Sym) (after : List Mark)
      → run (symbol.Factor ∷ symbol.MoreFactors ∷ stack) (put e after) ≡ run (symbol.MoreFactors ∷ stack) after
  as_sum : (stack : List Sym) (after : List Mark)
      → run (symbol.Factor ∷ symbol.MoreFactors ∷ symbol.MoreTerms ∷ stack) (put e after) ≡ run (symbol.MoreFactors ∷ symbol.MoreTerms ∷ stack) after

factor_taken : (e : Expression) → ((stack : List Sym) (after : List Mark) → run (symbol.Factor ∷ stack) (put e after) ≡ run stack after) → Taken e
factor_taken e f = record {
  as_factor = λ h. f;
  as_term = λ h stack. f (symbol.MoreFactors ∷ stack);
  as_sum = λ stack. f (symbol.MoreFactors ∷ symbol.MoreTerms ∷ stack);
}

-- an expression and a term, where that stands on top, are a factor and more
expression_begun : (stack : List Sym) (ms : List Mark)
    → run (symbol.Expression ∷ stack) ms ≡ run (symbol.Factor ∷ symbol.MoreFactors ∷ symbol.MoreTerms ∷ stack) ms
expression_begun stack ms = run_begun symbol.Expression symbol.Factor (symbol.MoreFactors ∷ symbol.MoreTerms ∷ []) stack ms (factor (first ms)) refl refl

term_begun : (stack : List Sym) (ms : List Mark) → run (symbol.Term ∷ stack) ms ≡ run (symbol.Factor ∷ symbol.MoreFactors ∷ stack) ms
term_begun stack ms = run_begun symbol.Term symbol.Factor (symbol.MoreFactors ∷ []) stack ms (factor (first ms)) refl refl

product_taken : (l : Expression) (at : ℕ) (r : Expression) → Taken l → Taken r → level l ≤ 1 → level r < 1 → Taken (Binary operator.Times l at r)
product_taken l at r p q hl hr =
    let both = λ (stack : List Sym) (after : List Mark).
    p.as_term hl stack (Operator at operator.Times ∷ put r after) ∙ q.as_term (omega arith) stack after in
    record { as_factor = λ h. absurd (omega arith); as_term = λ h. both; as_sum = λ stack. both (symbol.MoreTerms ∷ stack) }

sum_taken : (o : Op) (l : Expression) (at : ℕ) (r : Expression)
    → ((stack : List Sym) (ms : List Mark)
    → run (symbol.MoreFactors ∷ symbol.MoreTerms ∷ stack) (Operator at o ∷ ms) ≡ run (symbol.Term ∷ symbol.MoreTerms ∷ stack) ms)
    → binds o ≡ 2 → Taken l → Taken r → level r < 2 → Taken (Binary o l at r)
sum_taken o l at r step b p q h = record {
  as_factor = λ k. absurd (omega arith);
  as_term = λ k. absurd (omega arith);
  as_sum = λ stack after.
      p.as_sum stack (Operator at o ∷ put r after)
      ∙ step stack (put r after)
      ∙ term_begun (symbol.MoreTerms ∷ stack) (put r after)
      ∙ q.as_term (omega arith) (symbol.MoreTerms ∷ stack) after;
}

taken_of : (e : Expression) → IsGrouped e → Taken e
taken_of (Literal n) g = factor_taken (Literal n) (λ stack after. minus_taken symbol.Factor symbol.Factor refl refl refl n.minus n.at _ stack after)
taken_of (Named w) g = factor_taken (Named w) (λ stack after. run_name symbol.Factor [] factor_name stack w.at w.text after)
taken_of (Paren at e) g =
    let t = taken_of e g in
    factor_taken (Paren at e) (λ stack after.
    expression_begun (symbol.Takes terminal.RightParen ∷ stack) (put e (Symbol sign.RightParen ∷ after))
    ∙ t.as_sum (symbol.Takes terminal.RightParen ∷ stack) (Symbol sign.RightParen ∷ after))
taken_of (Negation at e) g =
    let t = taken_of e g.0 in
    factor_taken (Negation at e) (λ stack after. t.as_factor g.1 stack after)
taken_of (Binary operator.Times l at r) g = product_taken l at r (taken_of l g.0) (taken_of r g.1) g.2 g.3
taken_of (Binary operator.Plus l at r) g = sum_taken operator.Plus l at r (λ stack ms. refl) refl (taken_of l g.0) (taken_of r g.1) g.3
taken_of (Binary operator.Minus l at r) g = sum_taken operator.Minus l at r (λ stack ms. refl) refl (taken_of l g.0) (taken_of r g.1) g.3

-- behind an expression the symbols for more of it are left, and those behind a term
pub expr_taken : (d : ℕ) (e : Expression) → IsExpr d e → (stack : List Sym) (after : List Mark)
    → run (symbol.Expression ∷ stack) (expr e after) ≡ run (symbol.MoreFactors ∷ symbol.MoreTerms ∷ stack) after
expr_taken d e f stack after =
    let t = taken_of e f.grouped in
    ap (run (symbol.Expression ∷ stack)) (put_is e after) ∙ expression_begun stack (put e after) ∙ t.as_sum stack after

pub term_taken : (d : ℕ) (e : Expression) → IsTerm d e → (stack : List Sym) (after : List Mark)
    → run (symbol.Term ∷ stack) (expr e after) ≡ run (symbol.MoreFactors ∷ stack) after
term_taken d e f stack after =
    let t = taken_of e f.spells.grouped in
    ap (run (symbol.Term ∷ stack)) (put_is e after) ∙ term_begun stack (put e after) ∙ t.as_term f.level stack after

-- ---- what may stand in an expression's place

-- a factor begins there
abbrev IsOperand : Terminal → Type 0
IsOperand t = is_found (factor t) ≡ true

name_operand : (t : Terminal) → is_name t ≡ true → IsOperand t
name_operand = for_names IsOperand refl refl refl refl refl refl refl refl

number_first : (m : Option ℕ) (at n : ℕ) (after : List Mark) → IsOperand (first ((minus_marks m ++ Number at n ∷ []) ++ after))
number_first None at n after = refl
number_first (Some k) at n after = refl

put_first : (e : Expression) (after : List Mark) → IsOperand (first (put e after))
put_first (Literal n) after = number_first n.minus n.at _ after
put_first (Named w) after = name_operand (name_terminal w.text) (name_is w.text)
put_first (Paren at e) after = refl
put_first (Negation at e) after = refl
put_first (Binary o l at r) after = put_first l (Operator at o ∷ put r after)

right_row : (t : Terminal) → IsOperand t → right t ≡ begun (factor t) (symbol.MoreFactors ∷ symbol.MoreTerms ∷ [])
right_row terminal.Clock h = absurd cc
right_row _ h = refl

right_taken : (d : ℕ) (e : Expression) → IsExpr d e → (stack : List Sym) (after : List Mark)
    → run (symbol.Right ∷ stack) (expr e after) ≡ run (symbol.MoreFactors ∷ symbol.MoreTerms ∷ stack) after
right_taken d e f stack after =
    let t = taken_of e f.grouped in
    ap (run (symbol.Right ∷ stack)) (put_is e after)
    ∙ run_same symbol.Right symbol.Expression stack (put e after) (right_row (first (put e after)) (put_first e after))
    ∙ expression_begun stack (put e after)
    ∙ t.as_sum stack after

arguments_row : (t : Terminal) → IsOperand t → arguments t ≡ begun (factor t) (symbol.MoreFactors ∷ symbol.MoreTerms ∷ symbol.MoreArguments ∷ [])
arguments_row terminal.RightParen h = absurd cc
arguments_row _ h = refl

pub argument_taken : (d : ℕ) (e : Expression) → IsExpr d e → (stack : List Sym) (after : List Mark)
    → run (symbol.Arguments ∷ stack) (expr e after) ≡ run (symbol.MoreFactors ∷ symbol.MoreTerms ∷ symbol.MoreArguments ∷ stack) after
argument_taken d e f stack after =
    let t = taken_of e f.grouped in
    let row = symbol.MoreFactors ∷ symbol.MoreTerms ∷ symbol.MoreArguments ∷ [] in
    ap (run (symbol.Arguments ∷ stack)) (put_is e after)
    ∙ run_begun symbol.Arguments symbol.Factor row stack (put e after) (factor (first (put e after))) (arguments_row (first (put e after)) (put_first e after)) refl
    ∙ t.as_sum (symbol.MoreArguments ∷ stack) after

pub source_taken : (d : ℕ) (r : Source) → SourceFits d r → (stack : List Sym) (after : List Mark)
    → run (symbol.Right ∷ symbol.Takes terminal.Semicolon ∷ stack) (source r (Symbol sign.Semicolon ∷ after)) ≡ run stack after
unfolding name_terminal
source_taken d (Make at v) f stack after = refl
source_taken d (Value e) f stack after = right_taken d e f (symbol.Takes terminal.Semicolon ∷ stack) (Symbol sign.Semicolon ∷ after)

pub bound_taken : (d : ℕ) (b : Bound) → BoundFits d b → (stack : List Sym) (after : List Mark) → run (symbol.Bound ∷ stack) (bound b after) ≡ run stack after
unfolding name_terminal
bound_taken d (UpTo n) f stack after = minus_taken symbol.Bound (symbol.Takes terminal.Digits) refl refl refl n.minus n.at _ stack after
bound_taken d (Least x v e n) f stack after =
    let close = Symbol sign.RightParen ∷ after in
    expr_taken d e f.1 (symbol.Takes terminal.Comma ∷ symbol.Number ∷ symbol.Takes terminal.RightParen ∷ stack) (Symbol sign.Comma ∷ number n close)
    ∙ number_taken n (symbol.Takes terminal.RightParen ∷ stack) close

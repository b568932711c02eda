-- What is spelled is read again.
use Rattle.std.proofs.Common.{◌≡◌, ℕ, zero, suc, ◌+◌, ◌-◌, ◌<◌, ◌≤◌, ◌==◌, true, false, List, [], ◌∷◌, ◌++◌, Option, Some, None, refl, sym, ap, ◌∙◌, append_assoc, arith, inl, inr}
use Rattle.std.proofs.lemmas.Bool.{eq-eqb, ne_eqb, cases_lt}
use Rattle.std.specs.Prelude.{unsigned_abs, IsSome}
use Rattle.std.proofs.lemmas.Option.{same_Some}
use Rattle.xk_lexer.specs.declared.token.Sign.TheVariants as sign
use Rattle.xk_tree.specs.declared.tree.Operator.{Operator as Op}
use Rattle.xk_tree.specs.declared.tree.Operator.TheVariants as operator
use Rattle.xk_exprs.specs.Marks.{Mark, Number, Operator, Symbol}
use Rattle.xk_tree.specs.declared.tree.Number as number
use Rattle.xk_tree.specs.Tree.{Expression, Literal, Named, Paren, Negation, Binary}
use Rattle.xk_exprs.specs.Spelling.{minus_marks, spell, binds, level, depth, operators, IsNegatable, IsGrouped, Ends}
use Rattle.xk_exprs.specs.ReaderCombinators.{Stops, Goes, loop}
use Rattle.xk_exprs.specs.ExprReaders.{Read, operator_at, another, chain_at, terms, sums, in_parens, negated, digits_at, literal, factor_at, without_count, whole_at, whole_term_at}
use Rattle.xk_exprs.specs.Laws.{ExpressionAgain, ExpressionOnce, TermAgain}
use Rattle.xk_exprs.proofs.LoopLemmas.{loop_goes, loop_stops}
use Rattle.xk_exprs.proofs.NumberLemmas.{literal_again}
use Rattle.xk_exprs.proofs.SoundnessLemmas.{Sound, another_shrinks, terms_sound, factor_sound}

-- each operator binds
binds_some : (o : Op) → 0 < binds o
binds_some operator.Plus = omega arith
binds_some operator.Minus = omega arith
binds_some operator.Times = omega arith

-- where the tokens end so, no such operator is read
ends_none : (k j : ℕ) (ts : List Mark) → Ends k ts → j ≤ k → operator_at j ts ≡ None
ends_none k j [] e le = refl
ends_none k j (Operator at o ∷ ts) e le = let ne : (binds o == j) ≡ false = ne_eqb (binds o) j (λ q. omega arith) in rw ne refl
ends_none k j (_ ∷ ts) e le = refl

-- nor one of a lesser level
ends_below : (k j : ℕ) (ts : List Mark) → Ends k ts → j ≤ k → Ends j ts
ends_below k j [] e le = tt
ends_below k j (Operator at o ∷ ts) e le = omega arith
ends_below k j (_ ∷ ts) e le = tt

-- an expression of this level and depth is read from its tokens
abbrev pub Complete : ℕ → ℕ → (ℕ → List Mark → Read) → Type 0
Complete k d item =
    (e : Expression) (ops : ℕ) (rest : List Mark) → IsGrouped e → level e ≤ k → depth e ≤ d → Ends k rest → item (operators e + ops) (spell e ++ rest) ≡ Some ((e, ops), rest)

level_most : (e : Expression) → level e ≤ 2
level_most (Binary operator.Plus l at r) = omega arith
level_most (Binary operator.Minus l at r) = omega arith
level_most (Binary operator.Times l at r) = omega arith
level_most (Literal n) = omega arith
level_most (Named w) = omega arith
level_most (Paren at e) = omega arith
level_most (Negation at e) = omega arith

-- an operator and its operand are taken
another_goes : (k : ℕ) (item : ℕ → List Mark → Read) (l r : Expression) (at ops : ℕ) (o : Op) (after rest : List Mark) → binds o ≡ k
    → item (operators r + ops) after ≡ Some ((r, ops), rest)
    → another k item (l, suc (operators r + ops)) (Operator at o ∷ after) ≡ Goes (Binary o l at r, ops) rest
unfolding another
another_goes k item l r at ops o after rest b e =
    let h1 : (binds o == k) ≡ true = eq-eqb (binds o) k b in
    let h2 : (suc (operators r + ops) == 0) ≡ false = ne_eqb (suc (operators r + ops)) 0 (λ z. omega arith) in
    let h3 : suc (operators r + ops) - 1 ≡ operators r + ops = omega arith in
    rw (h1, h2, h3, e) refl

-- reading comes to where the loop has the expression
chain_base : (k d : ℕ) (item : ℕ → List Mark → Read) → Complete k d item → (e : Expression) (ops : ℕ) (rest : List Mark) → IsGrouped e → level e ≤ k
    → depth e ≤ d → Ends k rest → chain_at (suc k) item (operators e + ops) (spell e ++ rest) ≡ loop (another (suc k) item) (e, ops) rest
unfolding chain_at
chain_base k d item c e ops rest g l h ends = rw (c e ops rest g l h ends) refl

chain_step : (k d : ℕ) (item : ℕ → List Mark → Read) → Sound k d item → Complete k d item
    → (o : Op) (l : Expression) (at : ℕ) (r : Expression) (ops : ℕ) (rest : List Mark)
    → ((ops : ℕ) (rest : List Mark) → IsGrouped l → level l ≤ suc k → depth l ≤ d → Ends k rest
    → chain_at (suc k) item (operators l + ops) (spell l ++ rest) ≡ loop (another (suc k) item) (l, ops) rest)
    → IsGrouped (Binary o l at r) → binds o ≡ suc k → depth (Binary o l at r) ≤ d → Ends k rest
    → chain_at (suc k) item (operators (Binary o l at r) + ops) (spell (Binary o l at r) ++ rest) ≡ loop (another (suc k) item) (Binary o l at r, ops) rest
chain_step k d item s c o l at r ops rest ih g b h ends =
    let g2 = g.2 in
    let g3 = g.3 in
    let after = spell r ++ rest in
    let regrouped : spell (Binary o l at r) ++ rest ≡ spell l ++ (Operator at o ∷ after) = append_assoc (spell l) (Operator at o ∷ spell r) rest in
    let counted : operators (Binary o l at r) + ops ≡ operators l + suc (operators r + ops) = omega arith in
    let right : item (operators r + ops) after ≡ Some ((r, ops), rest) = c r ops rest g.1 (omega arith) (omega arith) ends in
    ap (chain_at (suc k) item (operators (Binary o l at r) + ops)) regrouped
    ∙ ap (λ (n : ℕ). chain_at (suc k) item n (spell l ++ (Operator at o ∷ after))) counted
    ∙ ih (suc (operators r + ops)) (Operator at o ∷ after) g.0 (omega arith) (omega arith) (omega arith)
    ∙ loop_goes (another (suc k) item) (another_shrinks k d item s) (l, suc (operators r + ops)) (Operator at o ∷ after) (Binary o l at r, ops) rest
    (another_goes (suc k) item l r at ops o after rest b right)

chain_reach : (k d : ℕ) (item : ℕ → List Mark → Read) → Sound k d item → Complete k d item → (e : Expression) (ops : ℕ) (rest : List Mark) → IsGrouped e
    → level e ≤ suc k → depth e ≤ d → Ends k rest → chain_at (suc k) item (operators e + ops) (spell e ++ rest) ≡ loop (another (suc k) item) (e, ops) rest
chain_reach k d item s c (Binary o l at r) ops rest g lv h ends =
    elim (cases_lt k (binds o)) [
      | inl lt ↦ chain_step k d item s c o l at r ops rest (λ ops rest. chain_reach k d item s c l ops rest) g (omega arith) h ends
      | inr le ↦ chain_base k d item c (Binary o l at r) ops rest g le h ends
    ]
chain_reach k d item s c (Literal n) ops rest g l h ends = chain_base k d item c (Literal n) ops rest g (omega arith) h ends
chain_reach k d item s c (Named w) ops rest g l h ends = chain_base k d item c (Named w) ops rest g (omega arith) h ends
chain_reach k d item s c (Paren at e) ops rest g l h ends = chain_base k d item c (Paren at e) ops rest g (omega arith) h ends
chain_reach k d item s c (Negation at e) ops rest g l h ends = chain_base k d item c (Negation at e) ops rest g (omega arith) h ends

another_stops : (k : ℕ) (item : ℕ → List Mark → Read) (x : Expression × ℕ) (ts : List Mark) → operator_at k ts ≡ None → another k item x ts ≡ Stops
unfolding another
another_stops k item x ts e = rw e refl

chain_complete : (k d : ℕ) (item : ℕ → List Mark → Read) → Sound k d item → Complete k d item → Complete (suc k) d (chain_at (suc k) item)
chain_complete k d item s c e ops rest g l h ends =
    chain_reach k d item s c e ops rest g l h (ends_below (suc k) k rest ends (omega arith))
    ∙ loop_stops (another (suc k) item) (e, ops) rest (another_stops (suc k) item (e, ops) rest (ends_none (suc k) (suc k) rest ends (omega arith)))

terms_complete : (d : ℕ) (item : ℕ → List Mark → Read) → Sound 0 d item → Complete 0 d item → Complete 1 d (terms item)
unfolding terms
terms_complete d item s c = chain_complete 0 d item s c

sums_complete : (d : ℕ) (item : ℕ → List Mark → Read) → Sound 0 d item → Complete 0 d item → Complete 2 d (sums item)
unfolding sums
sums_complete d item s c = chain_complete 1 d (terms item) (terms_sound d item s) (terms_complete d item s c)

signed_digits : (m : Option ℕ) (at n : ℕ) (rest : List Mark) → IsSome m → digits_at ((minus_marks m ++ Number at n ∷ []) ++ rest) ≡ None
signed_digits None at n rest h = absurd cc
signed_digits (Some k) at n rest h = refl

-- what may stand behind a negation doesn't begin with digits
no_digits : (e : Expression) (rest : List Mark) → level e ≡ 0 → IsNegatable e → digits_at (spell e ++ rest) ≡ None
no_digits (Literal n) rest l h = signed_digits n.minus n.at (unsigned_abs n.value) rest h
no_digits (Named w) rest l h = refl
no_digits (Paren at e) rest l h = refl
no_digits (Negation at e) rest l h = refl
no_digits (Binary o a at b) rest l h = let p = binds_some o in absurd (omega arith)

paren_again : (d at ops : ℕ) (e : Expression) (rest : List Mark)
    → sums (factor_at d) (operators e + ops) (spell e ++ (Symbol sign.RightParen ∷ rest)) ≡ Some ((e, ops), Symbol sign.RightParen ∷ rest)
    → factor_at (suc d) (operators e + ops) (spell (Paren at e) ++ rest) ≡ Some ((Paren at e, ops), rest)
unfolding factor_at
paren_again d at ops e rest h =
    ap (λ (z : List Mark). in_parens at (sums (factor_at d) (operators e + ops) z)) (append_assoc (spell e) (Symbol sign.RightParen ∷ []) rest) ∙ rw h refl

negation_by : (d at n : ℕ) (ts : List Mark) (x : (Expression × ℕ) × List Mark) → digits_at ts ≡ None → (n ≡ 0 → ⊥) → factor_at d (n - 1) ts ≡ Some x
    → factor_at (suc d) n (Operator at operator.Minus ∷ ts) ≡ Some ((Negation at x.0.0, x.0.1), x.1)
unfolding factor_at
negation_by d at n ts x nd ne h =
    let t : (n == 0) ≡ false = ne_eqb n 0 ne in
    rw (nd, t) (ap (negated at) h)

negation_again : (d at ops : ℕ) (e : Expression) (rest : List Mark) → level e ≡ 0 → IsNegatable e
    → factor_at d (operators e + ops) (spell e ++ rest) ≡ Some ((e, ops), rest)
    → factor_at (suc d) (operators (Negation at e) + ops) (spell (Negation at e) ++ rest) ≡ Some ((Negation at e, ops), rest)
negation_again d at ops e rest l nd h =
    let less : (operators (Negation at e) + ops) - 1 ≡ operators e + ops = omega arith in
    negation_by d at (operators (Negation at e) + ops) (spell e ++ rest) ((e, ops), rest)
    (no_digits e rest l nd) (λ z. omega arith) (ap (λ (n : ℕ). factor_at d n (spell e ++ rest)) less ∙ h)

-- a number is read from its digits, and its `-`
number_again : (d : ℕ) (m : Option ℕ) (at n ops : ℕ) (rest : List Mark) (r : number.Number) → literal m at n ≡ Some r
    → factor_at d ops ((minus_marks m ++ Number at n ∷ []) ++ rest) ≡ Some ((Literal r, ops), rest)
unfolding factor_at
number_again d None at n ops rest r e = rw e refl
number_again zero (Some k) at n ops rest r e = rw e refl
number_again (suc d) (Some k) at n ops rest r e = rw e refl

factor_complete : (d : ℕ) → Complete 0 d (factor_at d)
unfolding factor_at
factor_complete d (Literal n) ops rest g l h ends =
    let z : 0 + ops ≡ ops = omega arith in
    rw z (number_again d n.minus n.at (unsigned_abs n.value) ops rest n (literal_again n g))
factor_complete d (Named w) ops rest g l h ends = let z : 0 + ops ≡ ops = omega arith in rw z refl
factor_complete zero (Paren at e) ops rest g l h ends = absurd (omega arith)
factor_complete (suc d) (Paren at e) ops rest g l h ends =
    paren_again d at ops e rest (sums_complete d (factor_at d) (factor_sound d) (factor_complete d) e ops (Symbol sign.RightParen ∷ rest) g (level_most e) (omega arith) tt)
factor_complete zero (Negation at e) ops rest g l h ends = absurd (omega arith)
factor_complete (suc d) (Negation at e) ops rest g l h ends =
    negation_again d at ops e rest g.1 g.2 (factor_complete d e ops rest g.0 (let q = g.1 in omega arith) (omega arith) ends)
factor_complete d (Binary o a at b) ops rest g l h ends = let p = binds_some o in absurd (omega arith)

-- ---- whole expressions and terms

pub expression_again : ExpressionAgain
unfolding whole_at
expression_again d front e rest s ends =
    let n = s.operators in
    let all : operators e + (64 - operators e) ≡ 64 = omega arith in
    let h = sums_complete d (factor_at d) (factor_sound d) (factor_complete d) e (64 - operators e) rest s.grouped (level_most e) s.depth ends in
    let g : sums (factor_at d) 64 (spell e ++ rest) ≡ Some ((e, 64 - operators e), rest) = ap (λ (k : ℕ). sums (factor_at d) k (spell e ++ rest)) (sym all) ∙ h in
    ap (λ (z : List Mark). without_count (sums (factor_at d) 64 (z ++ rest))) s.spelled ∙ ap without_count g

pub expression_once : ExpressionOnce
expression_once left ts e f s t =
    let a = expression_again left ts e [] s tt in
    let b = expression_again left ts f [] t tt in
    ap (λ (x : Expression × List Mark). x.0) (same_Some (e, []) (f, []) (sym a ∙ b))

pub term_again : TermAgain
unfolding whole_term_at
term_again d front e rest s ends =
    let n = s.spells.operators in
    let all : operators e + (64 - operators e) ≡ 64 = omega arith in
    let h = terms_complete d (factor_at d) (factor_sound d) (factor_complete d) e (64 - operators e) rest s.spells.grouped s.level s.spells.depth ends in
    let g : terms (factor_at d) 64 (spell e ++ rest) ≡ Some ((e, 64 - operators e), rest) = ap (λ (k : ℕ). terms (factor_at d) k (spell e ++ rest)) (sym all) ∙ h in
    ap (λ (z : List Mark). without_count (terms (factor_at d) 64 (z ++ rest))) s.spells.spelled ∙ ap without_count g

-- What a loop over operands has read so far.
use Rattle.std.proofs.Common.{◌≡◌, ℕ, zero, suc, ◌-◌, ◌<◌, ◌==◌, true, false, List, [], ◌∷◌, length, Some, None, refl, sym, ap, subst, ◌∙◌, arith}
use Rattle.std.proofs.lemmas.Bool.{eq-eqb, ne_eqb}
use Rattle.std.proofs.lemmas.List.{length-map}
use Rattle.xk_lexer.specs.declared.token.Token.{Token}
use Rattle.xk_tree.specs.declared.tree.Operator.{Operator as Op}
use Rattle.xk_exprs.specs.declared.fault.SyntaxError.{SyntaxError}
use Rattle.xk_exprs.specs.declared.fault.SyntaxError.TheVariants as error
use Rattle.xk_lexer.specs.declared.token.Sign.{Sign}
use Rattle.xk_lexer.specs.declared.token.Sign.TheVariants as sign
use Rattle.xk_lexer.specs.declared.token.TokenKind.{TokenKind}
use Rattle.xk_lexer.specs.declared.token.TokenKind.TheVariants as kind
use Rattle.xk_exprs.specs.Marks.{Mark, Open, kind_mark, mark, marks}
use Rattle.xk_tree.specs.Tree.{Expression, Paren, Binary}
use Rattle.xk_exprs.specs.ReaderCombinators.{Refuses, head_at, loop}
use Rattle.xk_exprs.specs.ExprReaders.{Read, operator_at, joined, operand, another, chain_at, sums, close_at, factor_at}
use Rattle.xk_exprs.proofs.LoopLemmas.{loop_goes, loop_stops, loop_fails, Shrinks}

abbrev pub Reader : Type 0
Reader = ℕ → List Mark → Read

pub first_refused : (e : SyntaxError) (k : ℕ) (item : Reader) (ops : ℕ) (ts : List Mark) → Refuses e (item ops ts) → Refuses e (chain_at k item ops ts)
unfolding chain_at
first_refused (error.Fault f) k item ops ts h = rw h refl
first_refused error.OutOfMemory k item ops ts h = tt

pub first_read : (k : ℕ) (item : Reader) (ops : ℕ) (ts : List Mark) (x : (Expression × ℕ) × List Mark) → item ops ts ≡ Some x
    → loop (another k item) x.0 x.1 ≡ chain_at k item ops ts
unfolding chain_at
first_read k item ops ts x h = rw h refl

-- no operator is left
pub spent : (k : ℕ) (item : Reader) (x : Expression × ℕ) (us : List Mark) (o : (ℕ × Op) × List Mark) → Some o ≡ operator_at k us → x.1 ≡ 0
    → loop (another k item) x us ≡ None
unfolding another
spent k item x us o h z =
    let t : (x.1 == 0) ≡ true = eq-eqb x.1 0 z in
    loop_fails (another k item) x us (ap (operand item x) (sym h) ∙ rw t refl)

turned_to : (k : ℕ) (item : Reader) (x : Expression × ℕ) (us : List Mark) (o : (ℕ × Op) × List Mark) → Some o ≡ operator_at k us → (x.1 ≡ 0 → ⊥)
    → another k item x us ≡ joined x.0 o.0 (item (x.1 - 1) o.1)
unfolding another
turned_to k item x us o h ne =
    let t : (x.1 == 0) ≡ false = ne_eqb x.1 0 ne in
    ap (operand item x) (sym h) ∙ rw t refl

pub operand_refused : (e : SyntaxError) (k : ℕ) (item : Reader) (x : Expression × ℕ) (us : List Mark) (o : (ℕ × Op) × List Mark) → Some o ≡ operator_at k us
    → (x.1 ≡ 0 → ⊥) → Refuses e (item (x.1 - 1) o.1) → Refuses e (loop (another k item) x us)
operand_refused (error.Fault f) k item x us o h ne r = loop_fails (another k item) x us (turned_to k item x us o h ne ∙ ap (joined x.0 o.0) r)
operand_refused error.OutOfMemory k item x us o h ne r = tt

operand_read : (k : ℕ) (item : Reader) → Shrinks (another k item)
    → (x : Expression × ℕ) (us : List Mark) (o : (ℕ × Op) × List Mark) (r : (Expression × ℕ) × List Mark) → Some o ≡ operator_at k us → (x.1 ≡ 0 → ⊥)
    → item (x.1 - 1) o.1 ≡ Some r → loop (another k item) x us ≡ loop (another k item) (Binary o.0.1 x.0 o.0.0 r.0.0, r.0.1) r.1
operand_read k item s x us o r h ne e = loop_goes (another k item) s x us (Binary o.0.1 x.0 o.0.0 r.0.0, r.0.1) r.1 (turned_to k item x us o h ne ∙ ap (joined x.0 o.0) e)

pub operand_shrinks : (k : ℕ) (item : Reader) → Shrinks (another k item)
    → (x : Expression × ℕ) (us vs : List Token) (o : (ℕ × Op) × List Mark) (r : Expression × ℕ) → Some o ≡ operator_at k (marks us) → (x.1 ≡ 0 → ⊥)
    → item (x.1 - 1) o.1 ≡ Some (r, marks vs) → length vs < length us
operand_shrinks k item s x us vs o r h ne e =
    let lt = s x (marks us) (Binary o.0.1 x.0 o.0.0 r.0, r.1) (marks vs) (turned_to k item x (marks us) o h ne ∙ ap (joined x.0 o.0) e) in
    omega (arith, length-map us mark, length-map vs mark)

pub no_more : (k : ℕ) (item : Reader) (x : Expression × ℕ) (us : List Mark) → None ≡ operator_at k us → loop (another k item) x us ≡ Some (x, us)
unfolding another
no_more k item x us h = loop_stops (another k item) x us (ap (operand item x) (sym h))

pub operand_kept : (k : ℕ) (item : Reader) → Shrinks (another k item)
    → (x : Expression × ℕ) (us : List Mark) (o : (ℕ × Op) × List Mark) (r : (Expression × ℕ) × List Mark) (l : Expression) (z : Read)
    → Some o ≡ operator_at k us → (x.1 ≡ 0 → ⊥) → item (x.1 - 1) o.1 ≡ Some r → Some (Binary o.0.1 x.0 o.0.0 r.0.0) ≡ Some l → loop (another k item) x us ≡ z
    → loop (another k item) (l, r.0.1) r.1 ≡ z
operand_kept k item s x us o r l z h ne e made so_far =
    let q : Binary o.0.1 x.0 o.0.0 r.0.0 ≡ l = cc in
    subst (λ (t : Expression). loop (another k item) (t, r.0.1) r.1 ≡ z) q (sym (operand_read k item s x us o r h ne e) ∙ so_far)

-- ---- parentheses

pub open_is : (ts us : List Mark) (at : ℕ) (k : TokenKind) (s : Sign) → Some (kind_mark at k, us) ≡ head_at ts → k ≡ kind.Sign s → s ≡ sign.LeftParen → ts ≡ Open at ∷ us
open_is [] us at k s h e f = absurd cc
open_is (m ∷ ts) us at k s h e f =
    let q : (kind_mark at k, us) ≡ (m, ts) = cc in
    let c : kind_mark at k ≡ Open at = ap (kind_mark at) (e ∙ ap kind.Sign f) in
    ap (λ (z : Mark × List Mark). z.0 ∷ z.1) (sym q) ∙ ap (λ (z : Mark). z ∷ us) c

pub paren_refused : (e : SyntaxError) (d ops at : ℕ) (ts us : List Mark) (x : (Expression × ℕ) × List Mark) → ts ≡ Open at ∷ us → (d ≡ 0 → ⊥)
    → sums (factor_at (d - 1)) ops us ≡ Some x → Refuses e (close_at x.1) → Refuses e (factor_at d ops ts)
unfolding factor_at
paren_refused e zero ops at ts us x p ne h r = absurd (ne refl)
paren_refused (error.Fault f) (suc d) ops at ts us x p ne h r =
    let less : suc d - 1 ≡ d = omega arith in
    let h2 : sums (factor_at d) ops us ≡ Some x = subst (λ (n : ℕ). sums (factor_at n) ops us ≡ Some x) less h in
    ap (factor_at (suc d) ops) p ∙ rw (h2, r) refl
paren_refused error.OutOfMemory (suc d) ops at ts us x p ne h r = tt

pub paren_read : (d ops at : ℕ) (ts us : List Mark) (x : (Expression × ℕ) × List Mark) (rest : List Mark) (e : Expression) → ts ≡ Open at ∷ us → (d ≡ 0 → ⊥)
    → sums (factor_at (d - 1)) ops us ≡ Some x → close_at x.1 ≡ Some rest → x.0.0 ≡ e → factor_at d ops ts ≡ Some ((Paren at e, x.0.1), rest)
unfolding factor_at
paren_read zero ops at ts us x rest e p ne h r q = absurd (ne refl)
paren_read (suc d) ops at ts us x rest e p ne h r q =
    let less : suc d - 1 ≡ d = omega arith in
    let h2 : sums (factor_at d) ops us ≡ Some x = subst (λ (n : ℕ). sums (factor_at n) ops us ≡ Some x) less h in
    ap (factor_at (suc d) ops) p ∙ rw (h2, r, q) refl

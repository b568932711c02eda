-- A statement that holds no other is what is read without its head.
use Rattle.std.proofs.Common.{◌≡◌, ℕ, zero, suc, ◌-◌, List, Some, None, refl, sym, ap, subst, ◌∙◌, arith}
use Rattle.xk_exprs.specs.Marks.{Mark}
use Rattle.xk_syntax.specs.Readers.{bind, Read, whole, flat_at, stmt_head_at, rest_at, stmt_at}

whole_rest : (d : ℕ) (o : List ℕ) (r : Read) → bind (whole r) (λ h. rest_at d (stmt_at d) o h.0 h.1) ≡ r
unfolding rest_at bind
whole_rest d o None = refl
whole_rest d o (Some x) = refl

pub flat_is : (d : ℕ) (o : List ℕ) (ts : List Mark) → (d ≡ 0 → ⊥) → stmt_head_at (d - 1) o ts ≡ whole (flat_at (d - 1) ts) → flat_at (d - 1) ts ≡ stmt_at d o ts
unfolding stmt_at
flat_is zero o ts ne h = absurd (ne refl)
flat_is (suc d) o ts ne h =
    let less : suc d - 1 ≡ d = omega arith in
    let h2 : stmt_head_at d o ts ≡ whole (flat_at d ts) = subst (λ (n : ℕ). stmt_head_at n o ts ≡ whole (flat_at n ts)) less h in
    ap (λ (n : ℕ). flat_at n ts) less ∙ sym (rw h2 (whole_rest d o (flat_at d ts)))

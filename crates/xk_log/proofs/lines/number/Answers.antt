use Rattle.std.proofs.Common.{◌≡◌, ◌<◌, length, get_or, sym, ◌∙◌, arith}
use Rattle.std.proofs.lemmas.Bool.{eqb-true, eqb-false}
use Rattle.xk_log.proofs.LineReaderLemmas.{found_from, none_from, no_digits, leading_zero}
use Rattle.xk_log.proofs.lines.number.Goals as goal
use Rattle.xk_log.proofs.lines.number.Goals.{else-digits-gt1-via-then-digits-gt1+else-digits-eq48, else-digits-gt1-via-else-digits-gt1}

pub returns-then-is_empty-clause-none : goal.returns-then-is_empty-clause-none
returns-then-is_empty-clause-none c = λ n h is. no_digits c.args.digits.now n (eqb-true _ _ (sym c.is_empty.ensures ∙ c.if-is_empty.true)) h is

pub returns-then-digits-eq48-clause-none : goal.returns-then-digits-eq48-clause-none
returns-then-digits-eq48-clause-none c = λ n h is. leading_zero c.args.digits.now n c.if-digits-eq48.true c.if-digits-gt1.true h is

pub returns-clause-found : goal.returns-clause-found
returns-clause-found c =
    let ds = c.args.digits.now in
    let none : length ds ≡ 0 → ⊥ = eqb-false _ _ (sym c.is_empty.ensures ∙ c.if-is_empty.false) in
    let some : 0 < length ds = omega (arith, none) in
    let lead : get_or ds 0 0 ≡ 48 → length ds ≡ 1 = elim c.else-digits-gt1.branch [
      | else-digits-gt1-via-then-digits-gt1+else-digits-eq48 w ↦ λ zero. absurd (w.if-digits-eq48.false zero)
      | else-digits-gt1-via-else-digits-gt1 w ↦ λ zero. omega arith
    ] in
    found_from c.value.result ds c.value.ensures some lead

pub returns-clause-none : goal.returns-clause-none
returns-clause-none c = none_from c.value.result c.args.digits.now c.value.ensures

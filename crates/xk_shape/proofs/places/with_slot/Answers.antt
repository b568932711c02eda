-- one bit more
use Rattle.std.proofs.Common.{◌≡◌, ℕ, ◌*◌, ◌%◌, ◌^◌, ◌<◌, ◌||◌, ◌==◌, inl, inr, sym, ap, ◌∙◌, subst, arith, bit_or, w64}
use Rattle.std.specs.Int.{bit_at}
use Rattle.std.proofs.lemmas.Bool.{or_left, eq-eqb, ne_eqb, cases_order}
use Rattle.std.proofs.lemmas.Nat.Bits.{bit_at_set_same, bit_at_set_other}
use Rattle.xk_shape.specs.Places.{has_slot}
use Rattle.xk_shape.proofs.places.with_slot.Goals as goal

has_more : (n k s : ℕ) → k < 64 → has_slot (bit_or n (1 * 2 ^ k % 18446744073709551616)) s ≡ ((s == k) || has_slot n s)
has_more n k s small =
    let m = bit_or n (1 * 2 ^ k % 18446744073709551616) in
    elim (cases_order s k) [
      | inl same ↦
          ap (λ b. b == 1) (subst (λ x. bit_at m x ≡ 1) (sym same) (bit_at_set_same w64 n k small)) ∙ sym (or_left (s == k) (has_slot n s) (eq-eqb s k same))
      | inr other ↦
          let apart : s ≡ k → ⊥ = λ e. elim other [ inl lt ↦ omega arith | inr gt ↦ omega arith ] in
          ap (λ b. b == 1) (bit_at_set_other w64 n k small s apart) ∙ sym (ap (λ b. b || has_slot n s) (ne_eqb s k apart))
    ]

pub returns-then-slot-lt64 : goal.returns-then-slot-lt64
returns-then-slot-lt64 c = λ s lt. has_more c.args.slots c.args.slot s c.if-slot-lt64.true

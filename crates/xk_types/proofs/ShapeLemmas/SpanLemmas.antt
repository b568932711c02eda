-- Loops and finishes as stretches of a unit's code: what the rules on targets and on blocks say of them, instruction by instruction; and
-- when two blocks are the same.
use Rattle.std.proofs.Common.{◌≡◌, ℕ, ◌<◌, ◌==◌, true, false, not, List, [], ◌∷◌, length, Option, Some, None, refl, sym, ap, ◌∙◌, ltb-true, eqb-true, true≢false, option_map, map, Bool}
use Rattle.std.specs.Prelude.{slice_get, nat_lt}
use Rattle.std.specs.List.{list_any}
use Rattle.std.proofs.lemmas.Bool.{and_parts, not-false, eq-eqb, false≢true}
use Rattle.std.proofs.lemmas.Option.{none-some, same_Some}
use Rattle.xk_types.specs.declared.instr.Instr.{Instr}
use Rattle.xk_types.specs.declared.instr.Instr.TheVariants as instr
use Rattle.xk_types.specs.Code.{UnitValue, Loop, is_next_of, loops}
use Rattle.xk_types.specs.Blocks.{Span, is_end_of, finishes, same_block}
use Rattle.xk_types.specs.Order.{Has}
use Rattle.xk_types.specs.Shape.{instr_is, lies_ahead, aims_well, breaks_target, span_of, spans, overlaps, is_amiss, is_crossing, breaks_block, differ}
use Rattle.xk_types.proofs.MembershipLemmas.{has_left, has_right, has_map}

-- ---- a loop or a finish, and its end

-- what the test on a `next` says
pub next_is : (first : ℕ) (o : Option Instr) → is_next_of first o ≡ true → o ≡ Some (instr.Next first)
next_is first None h = absurd (false≢true h)
next_is first (Some (instr.Next b)) h = ap (λ n. Some (instr.Next n)) (eqb-true b first h)
next_is first (Some _) h = absurd (false≢true h)

-- what the test on an `endfinish` says
pub end_is : (first : ℕ) (o : Option Instr) → is_end_of first o ≡ true → o ≡ Some (instr.EndFinish first)
end_is first None h = absurd (false≢true h)
end_is first (Some (instr.EndFinish b)) h = ap (λ n. Some (instr.EndFinish n)) (eqb-true b first h)
end_is first (Some _) h = absurd (false≢true h)

-- a span that isn't amiss is one, and overlaps none
pub not_amiss : (u : UnitValue) (o : Option Span) → is_amiss u o ≡ false → (s : Span) × (o ≡ Some s) × (list_any (overlaps s) (spans u) ≡ false)
not_amiss u None h = absurd (true≢false h)
not_amiss u (Some s) h = (s, refl, h)

-- the span of a loop, if there is one
pub of_loop : (o : Option Loop) (s : Span) → option_map span_of o ≡ Some s → (l : Loop) × (o ≡ Some l) × (span_of l ≡ s)
of_loop None s h = absurd (none-some s h)
of_loop (Some l) s h = (l, refl, same_Some (span_of l) s h)

-- loops and finishes are spans
pub loop_span : (u : UnitValue) (l : Loop) → Has (loops u) l → Has (spans u) (span_of l)
loop_span u l h = has_left (map span_of (loops u)) (finishes u) (span_of l) (has_map span_of (loops u) l h)

pub finish_span : (u : UnitValue) (f : Span) → Has (finishes u) f → Has (spans u) f
finish_span u f h = has_right (map span_of (loops u)) (finishes u) f h

-- ---- the rules on targets and blocks, at one instruction

module _ (u : UnitValue) where
  -- its target lies where it should
  pub aims : ((at : ℕ) → breaks_target u at ≡ false) → (at : ℕ) (i : Instr) → slice_get u.code at ≡ Some i → aims_well u at i ≡ true
  aims targets at i here = not-false (aims_well u at i) (ap (instr_is (λ x. not (aims_well u at x))) (sym here) ∙ targets at)

  -- and it crosses no edge of a loop or a finish
  pub uncrossing : ((at : ℕ) → breaks_block u at ≡ false) → (at : ℕ) (i : Instr) → slice_get u.code at ≡ Some i → is_crossing u at i ≡ false
  uncrossing blocks at i here = ap (instr_is (is_crossing u at)) (sym here) ∙ blocks at

  -- what lies ahead
  pub ahead : (at t : ℕ) → lies_ahead u at t ≡ true → (at < t) × (t < length u.code)
  ahead at t h = let p = and_parts (nat_lt at t) (nat_lt t (length u.code)) h in (ltb-true at t p.0, ltb-true t (length u.code) p.1)

-- ---- blocks, one and the same

-- what the test of two blocks says
pub same_is : (xs ys : List ℕ) → same_block xs ys ≡ true → xs ≡ ys
same_is [] [] h = refl
same_is [] (y ∷ ys) h = absurd (false≢true h)
same_is (x ∷ xs) [] h = absurd (false≢true h)
same_is (x ∷ xs) (y ∷ ys) h =
    let p = and_parts (x == y) (same_block xs ys) h in
    ap (λ l. x ∷ l) (same_is xs ys p.1) ∙ ap (λ z. z ∷ ys) (eqb-true x y p.0)

-- and it passes a block and itself
pub is_same : (xs : List ℕ) → same_block xs xs ≡ true
is_same [] = refl
is_same (x ∷ xs) = rw (eq-eqb x x refl) (is_same xs)

-- two tests that don't differ are one
pub differ_not : (p q : Bool) → differ p q ≡ false → p ≡ q
differ_not true q h = sym (not-false q h)
differ_not false q h = sym h

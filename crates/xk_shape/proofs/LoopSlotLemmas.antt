-- Instructions that write the slot of a loop that they lie in, and jumps, which end none.
use Rattle.std.proofs.Common.{◌≡◌, ℕ, nat_lt, nat_le, false, ◌&&◌, ◌==◌, eqb, List, [], ◌∷◌, Option, Some, None, slice_get, refl, sym, ap, ◌∙◌, subst, arith}
use Rattle.std.specs.List.{list_any}
use Rattle.std.specs.Option.{option_map_or}
use Rattle.std.proofs.Math.Bool.{and-false}
use Rattle.std.proofs.lemmas.Bool.{ltb-true, lt-ltb, leb-true, le-leb}
use Rattle.std.proofs.lemmas.Option.{none-some}
use Rattle.xk_types.specs.declared.instr.Instr.{Instr}
use Rattle.xk_types.specs.declared.instr.Instr.TheVariants as instr
use Rattle.xk_types.specs.Code.{UnitValue, Loop, loops, is_round, is_within}
use Rattle.xk_types.specs.Blocks.{is_inside}
use Rattle.xk_types.specs.Shape.{span_of, spans, differ, crosses, slot_written, counts_by, spoils}
use Rattle.xk_shape.specs.Nesting.{begin_named}
use Rattle.xk_shape.specs.Places.{is_counter}
use Rattle.xk_types.proofs.MembershipLemmas.{same_test}
use Rattle.xk_types.proofs.ShapeLemmas.SpanLemmas.{loop_span}
use Rattle.xk_shape.proofs.SpanEndLemmas.{is_span, no_end, any_same}

-- ---- places that end none

-- a place that isn't the last of a stretch lies before the last or not behind it
below_last : (at last : ℕ) → (last ≡ at → ⊥) → nat_le at last ≡ nat_lt at last
below_last at last apart = same_test (nat_le at last) (nat_lt at last)
    (λ on. let le = leb-true at last on in lt-ltb at last (omega arith))
    (λ on. let lt = ltb-true at last on in le-leb at last (omega arith))

-- a jump crosses the edge of a stretch where that lies round one of its two ends alone
pub crossed : (u : UnitValue) (at t : ℕ) (i : Instr) → slice_get u.code at ≡ Some i → begin_named i ≡ None
    → list_any (λ s. differ (is_inside at s) (is_inside t s)) (spans u) ≡ list_any (crosses at t) (spans u)
crossed u at t i here ends_none = any_same (λ s. differ (is_inside at s) (is_inside t s)) (crosses at t) (spans u)
    (λ s has. ap (λ b. differ (nat_lt s.first at && b) (is_inside t s)) (below_last at s.last (no_end u at i s here ends_none (is_span u s has))))

-- ---- slots of loops

none_written : (at : ℕ) (ls : List Loop) → list_any (λ l. is_within at l && false) ls ≡ false
none_written at [] = refl
none_written at (l ∷ ls) = rw and-false (none_written at ls)

pub nothing_written : (i : Instr) (at : ℕ) (ls : List Loop) → slot_written i ≡ None → list_any (λ l. is_within at l && spoils l i) ls ≡ false
nothing_written i at ls none =
    let P : Option ℕ → Type 0 = λ o. list_any (λ l. is_within at l && option_map_or (λ d. counts_by d l) o false) ls ≡ false in
    subst P (sym none) (none_written at ls)

written_ends : (i : Instr) (d : ℕ) → slot_written i ≡ Some d → begin_named i ≡ None
written_ends (instr.Next b) d h = absurd (none-some d h)
written_ends (instr.EndFinish b) d h = absurd (none-some d h)
written_ends _ d h = refl

-- what writes a slot writes one of a loop round it where a loop counts in that slot
pub written_in : (u : UnitValue) (at d : ℕ) (i : Instr) → slice_get u.code at ≡ Some i → slot_written i ≡ Some d
    → is_counter u at d ≡ list_any (λ l. is_within at l && spoils l i) (loops u)
written_in u at d i here writes = any_same (λ l. is_round at l && counts_by d l) (λ l. is_within at l && spoils l i) (loops u)
    (λ l has.
    let apart = no_end u at i (span_of l) here (written_ends i d writes) (is_span u (span_of l) (loop_span u l has)) in
    ap (λ b. (nat_lt l.first at && b) && counts_by d l) (below_last at l.last apart)
    ∙ ap (λ o. is_within at l && option_map_or (λ x. counts_by x l) o false) (sym writes))

-- One pass over a unit's code sums its weights, each instruction as often as it is carried out.
use Rattle.std.proofs.Common.{◌≡◌, ℕ, suc, ◌+◌, ◌*◌, ◌<◌, ◌≤◌, min, List, [], ◌∷◌, ◌++◌, length, drop, Some, slice_get, slice_index, inl, inr, sym, ap, ◌∙◌, arith, drop-cons}
use Rattle.std.proofs.lemmas.Bool.{cases_lt}
use Rattle.std.proofs.lemmas.List.{length_push, get_or_push, get_or_append_left}
use Rattle.std.proofs.lemmas.Option.{slice_get_within, get_or_from_slice_get}
use Rattle.xk_types.specs.declared.instr.Instr.{Instr}
use Rattle.xk_types.specs.Code.{UnitValue}
use Rattle.xk_types.specs.Bound.{visits, sum_from}
use Rattle.xk_shape.specs.Blocks.{IsOrderly}
use Rattle.xk_bounds.specs.Measure.{added, added_at, added_by, visits_next}
use Rattle.xk_bounds.proofs.CutLemmas.{cut_left, cut_right}
use Rattle.xk_bounds.proofs.VisitLemmas.{starts, next_measured}

-- what has been found when the instructions before a place have been measured, each number cut
pub record IsMeasured (weight : Instr → ℕ) (table : ℕ → ℕ) (u : UnitValue) (cut at : ℕ) (before : List ℕ) (here most : ℕ) : Type 0 where
  pub places : length before ≡ at
  pub counted : (k : ℕ) → k < at → slice_index before k ≡ min (visits u k) cut
  pub reached : here ≡ min (visits u at) cut
  pub small : most ≤ cut
  pub sum : min (most + sum_from (added_at weight table u) at (drop at u.code)) cut ≡ min (added_by weight table u) cut

drop_is : (is : List Instr) (at : ℕ) (i : Instr) → slice_get is at ≡ Some i → drop at is ≡ i ∷ drop (suc at) is
drop_is is at i found = drop-cons is at i (slice_get_within is at i found) ∙ ap (λ x. x ∷ drop (suc at) is) (get_or_from_slice_get is at i i found)

module _ (weight : Instr → ℕ) (table : ℕ → ℕ) (u : UnitValue) (cut : ℕ) where
  pub measured_start : 1 ≤ cut → (before : List ℕ) → before ≡ [] → IsMeasured weight table u cut 0 before 1 0
  measured_start some before none = record {
    places = ap length none;
    counted = λ k lt. absurd (omega arith);
    reached = let once = starts u in omega arith;
    small = omega arith;
    sum = omega arith;
  }

  -- one instruction more
  pub measured_next : (at : ℕ) (i : Instr) (before after : List ℕ) (here beyond most once product sum : ℕ) → IsOrderly u → slice_get u.code at ≡ Some i
      → after ≡ before ++ here ∷ [] → beyond ≡ visits_next cut after here i
      → once ≡ min (added weight table i) cut → product ≡ min (here * once) cut → sum ≡ min (most + product) cut
      → IsMeasured weight table u cut at before here most → IsMeasured weight table u cut (suc at) after beyond sum
  measured_next at i before after here beyond most once product sum blocks found pushed is_beyond is_once is_product is_sum so_far =
      let counted : (k : ℕ) → k < suc at → slice_index after k ≡ min (visits u k) cut = λ k lt. elim (cases_lt k at) [
        | inl below ↦ ap (λ xs. slice_index xs k) pushed ∙ get_or_append_left before (here ∷ []) 0 k (omega (arith, so_far.places)) ∙ so_far.counted k below
        | inr last ↦
            let same : k ≡ at = omega arith in
            ap (λ n. slice_index after n) same ∙ ap (λ xs. slice_index xs at) pushed ∙ get_or_push before here 0 at so_far.places ∙ so_far.reached
            ∙ ap (λ n. min (visits u n) cut) (sym same)
      ]
      in
      let rest = ap (sum_from (added_at weight table u) at) (drop_is u.code at i found) in
      let term : product ≡ min (visits u at * added weight table i) cut =
      is_product ∙ ap (λ n. min (here * n) cut) is_once ∙ cut_right cut here (added weight table i)
      ∙ ap (λ n. min (n * added weight table i) cut) so_far.reached ∙ cut_left cut (visits u at) (added weight table i)
      in
      record {
        places = let long = length_push before here in ap length pushed ∙ omega (arith, so_far.places);
        counted = counted;
        reached = is_beyond ∙ next_measured u cut at here after i blocks found so_far.reached (λ k lt. counted k (omega arith));
        small = omega arith;
        sum = omega (arith, so_far.sum);
      }

-- Sums and products of numbers as they are kept: of parts that are kept they are those of the numbers themselves.
use Rattle.std.proofs.Common.{◌≡◌, ℕ, zero, suc, ◌+◌, ◌*◌, ◌<◌, ◌≤◌, min, max, fold, cond, Bool, true, false, List, [], ◌∷◌, length, drop}
use Rattle.std.proofs.Common.{get_or, map, filter, Some, slice_get, refl, sym, ap, ◌∙◌, arith}
use Rattle.std.proofs.Math.Seq.{drop-cons}
use Rattle.std.proofs.Math.Nat.{mul_assoc}
use Rattle.xk_types.specs.declared.instr.Instr.{Instr}
use Rattle.xk_types.specs.Code.{Loop, turns}
use Rattle.xk_types.specs.Bound.{product, sum_from}
use Rattle.xk_bounds.proofs.CutLemmas.{cut_left, cut_right}
use Rattle.xk_explain_bounds.specs.Amounts.{kept}

-- both factors may be kept before
pub product_kept : (a b : ℕ) → kept (kept a * kept b) ≡ kept (a * b)
product_kept a b = cut_left 1000000000000000001 a (kept b) ∙ cut_right 1000000000000000001 a b

-- ---- turns, loop by loop

times_here : (count t p : ℕ) → kept (kept (count * kept t) * p) ≡ kept (count * (t * p))
times_here count t p =
    ap (λ n. kept (n * p)) (cut_right 1000000000000000001 count t) ∙ cut_left 1000000000000000001 (count * t) p ∙ ap kept (mul_assoc count t p)

-- a loop that a place lies in, and those behind it
pub times_next : (b : Bool) (count : ℕ) (l : Loop) (ls : List Loop)
    → kept (cond b (kept (count * kept (turns l))) count * product ls) ≡ kept (count * product (cond b (l ∷ ls) ls))
times_next true count l ls = times_here count (turns l) (product ls)
times_next false count l ls = refl

pub times_small : (b : Bool) (count n : ℕ) → count ≤ 1000000000000000001 → cond b (kept n) count ≤ 1000000000000000001
times_small true count n le = omega arith
times_small false count n le = le

-- ---- sums, instruction by instruction

pub sum_next : (sum v a rest : ℕ) → kept (kept (sum + kept (kept v * kept a)) + rest) ≡ kept (sum + (v * a + rest))
sum_next sum v a rest = let p = product_kept v a in omega arith

-- ---- the greatest of numbers

-- of numbers that h makes of others it is what h makes of the greatest of those
pub most_by : (h : ℕ → ℕ) → ((a b : ℕ) → max (h a) (h b) ≡ h (max a b)) → (f g : Instr → ℕ) (a : ℕ) (is : List Instr)
    → ((at : ℕ) (i : Instr) → slice_get is at ≡ Some i → f i ≡ h (g i)) → fold max (h a) (map f is) ≡ h (fold max a (map g is))
most_by h over f g a [] each = refl
most_by h over f g a (i ∷ is) each =
    ap (λ n. fold max n (map f is)) (ap (max (h a)) (each zero i refl) ∙ over a (g i))
    ∙ most_by h over f g (max a (g i)) is (λ at j here. each (suc at) j here)

-- ---- one loop or one instruction more

-- a list from a place on, where this is read there
pub rest_of : {A : Type 0} (xs : List A) (at : ℕ) (x : A) → at < length xs → x ≡ get_or xs at x → drop at xs ≡ x ∷ drop (at + 1) xs
rest_of xs at x inside is =
    let next : suc at ≡ at + 1 = omega arith in
    drop-cons xs at x inside ∙ ap (λ y. y ∷ drop (suc at) xs) (sym is) ∙ ap (λ n. x ∷ drop n xs) next

pub times_more : (p : Loop → Bool) (count next at : ℕ) (l : Loop) (ls : List Loop) → at < length ls → l ≡ get_or ls at l
    → next ≡ cond (p l) (kept (count * kept (turns l))) count
    → kept (next * product (filter p (drop (at + 1) ls))) ≡ kept (count * product (filter p (drop at ls)))
times_more p count next at l ls inside is e =
    ap (λ n. kept (n * product (filter p (drop (at + 1) ls)))) e
    ∙ times_next (p l) count l (filter p (drop (at + 1) ls))
    ∙ ap (λ ks. kept (count * product (filter p ks))) (sym (rest_of ls at l inside is))

pub sum_more : (f : ℕ → Instr → ℕ) (sum next count once added v a at : ℕ) (i : Instr) (is : List Instr) → at < length is → i ≡ get_or is at i
    → f at i ≡ v * a → count ≡ kept v → once ≡ kept a → added ≡ kept (count * once) → next ≡ kept (sum + added)
    → kept (next + sum_from f (at + 1) (drop (at + 1) is)) ≡ kept (sum + sum_from f at (drop at is))
sum_more f sum next count once added v a at i is inside read term counts onces adds sums =
    let place : suc at ≡ at + 1 = omega arith in
    let rest = sum_from f (at + 1) (drop (at + 1) is) in
    ap (λ n. kept (n + rest)) (sums ∙ ap (λ n. kept (sum + n)) (adds ∙ ap (λ n. kept (n * once)) counts ∙ ap (λ n. kept (kept v * n)) onces))
    ∙ sum_next sum v a rest
    ∙ ap (λ n. kept (sum + (n + rest))) (sym term)
    ∙ ap (λ n. kept (sum + (f at i + sum_from f n (drop (at + 1) is)))) (sym place)
    ∙ ap (λ xs. kept (sum + sum_from f at xs)) (sym (rest_of is at i inside read))

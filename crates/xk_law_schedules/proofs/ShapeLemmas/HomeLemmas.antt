-- The rule on homes: a clock is at home in the block in which it is made, a parameter's in the whole unit, and it is handed on only
-- directly in its home.
use Rattle.std.proofs.Common.{◌≡◌, ℕ, zero, suc, ◌+◌, not, Bool, true, false, cond, List, [], ◌∷◌, Some, inl, inr, refl, sym, ap, subst, arith}
use Rattle.std.specs.Prelude.{slice_get}
use Rattle.std.specs.List.{list_any}
use Rattle.std.specs.Option.{option_map_or}
use Rattle.std.proofs.lemmas.Bool.{eq-eqb, not-false}
use Rattle.std.proofs.lemmas.Option.{none-some, same_Some}
use Rattle.xk_types.specs.declared.instr.Instr.{Instr}
use Rattle.xk_types.specs.declared.instr.Instr.TheVariants as instr
use Rattle.xk_types.specs.declared.unit.ParamKind.{ParamKind}
use Rattle.xk_types.specs.declared.unit.ParamKind.TheVariants as param
use Rattle.xk_types.specs.Code.{UnitValue, ModuleValue, params_of, clock_arguments}
use Rattle.xk_types.specs.Blocks.{block_at, same_block, takes_clock, makes, made_from, homes, is_elsewhere}
use Rattle.xk_types.specs.Order.{Has}
use Rattle.xk_types.proofs.MembershipLemmas.{none_has, has_right}
use Rattle.xk_types.proofs.ShapeLemmas.SpanLemmas.{same_is}

-- a list without another block
all_here : (block : List ℕ) (hs : List (List ℕ)) (h : List ℕ) → is_elsewhere block hs ≡ false → Has hs h → h ≡ block
all_here block hs h none' has = sym (same_is block h (not-false (same_block block h) (none_has (λ x. not (same_block block x)) hs h none' has)))

-- a block in which an instruction makes the clock of a slot
made_has : (u : UnitValue) (d at : ℕ) (is : List Instr) (j n : ℕ) → n ≡ at + j → slice_get is j ≡ Some (instr.Make d) → Has (made_from u d at is) (block_at u n)
made_has u d at [] j n e h = absurd (none-some (instr.Make d) h)
made_has u d at (i ∷ is) zero n e h =
    let same : n ≡ at = omega arith in
    subst (λ x. Has (cond (makes d x) (block_at u at ∷ made_from u d (suc at) is) (made_from u d (suc at) is)) (block_at u n)) (sym (same_Some i (instr.Make d) h))
    (rw (eq-eqb d d refl) (inl (ap (block_at u) (sym same))))
made_has u d at (i ∷ is) (suc j) n e h = go (makes d i) (made_has u d (suc at) is j n (omega arith) h)
  where
    go : (b : Bool) → Has (made_from u d (suc at) is) (block_at u n) → Has (cond b (block_at u at ∷ made_from u d (suc at) is) (made_from u d (suc at) is)) (block_at u n)
    go true r = inr r
    go false r = r

-- a slot is at home where its clock is made
pub make_home : (u : UnitValue) (d at : ℕ) → slice_get u.code at ≡ Some (instr.Make d) → Has (homes u d) (block_at u at)
make_home u d at here = has_right (cond (takes_clock (slice_get u.params d)) ([] ∷ []) []) (made_from u d 0 u.code) (block_at u at) (made_has u d 0 u.code at at (omega arith) here)

-- a parameter that takes a clock is at home in the whole unit
pub param_home : (u : UnitValue) (s : ℕ) → slice_get u.params s ≡ Some param.Clock → Has (homes u s) []
param_home u s h = rw h (inl refl)

-- what a parameter takes as a clock stands among the clocks that are handed on
clock_has : (ps : List ParamKind) (xs : List ℕ) (s x : ℕ) → slice_get ps s ≡ Some param.Clock → slice_get xs s ≡ Some x → Has (clock_arguments ps xs) x
clock_has [] xs s x p o = absurd (none-some param.Clock p)
clock_has (q ∷ ps) [] s x p o = absurd (none-some x o)
clock_has (param.Number ∷ ps) (z ∷ xs) zero x p o = absurd (grind arith)
clock_has (param.Number ∷ ps) (z ∷ xs) (suc s) x p o = clock_has ps xs s x p o
clock_has (param.Clock ∷ ps) (z ∷ xs) zero x p o = inl (same_Some z x o)
clock_has (param.Clock ∷ ps) (z ∷ xs) (suc s) x p o = inr (clock_has ps xs s x p o)

-- a clock is handed on only in the block that is its home
pub handed_home : (m : ModuleValue) (u : UnitValue) (at t : ℕ) (args : List ℕ) (v : UnitValue) → slice_get m.units t ≡ Some v
    → list_any (λ x. is_elsewhere (block_at u at) (homes u x)) (clock_arguments (params_of m t) args) ≡ false
    → (s x : ℕ) → slice_get v.params s ≡ Some param.Clock → slice_get args s ≡ Some x → (h : List ℕ) → Has (homes u x) h → h ≡ block_at u at
handed_home m u at t args v found kept s x p o h has =
    let params : params_of m t ≡ v.params = ap (λ q. option_map_or (λ y. y.params) q []) found in
    all_here (block_at u at) (homes u x) h
    (none_has (λ y. is_elsewhere (block_at u at) (homes u y)) (clock_arguments (params_of m t) args) x kept
    (subst (λ ps. Has (clock_arguments ps args) x) (sym params) (clock_has v.params args s x p o))) has

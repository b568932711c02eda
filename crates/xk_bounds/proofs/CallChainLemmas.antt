-- A number of a unit with the most of those that it calls: what it is by the units of greater number, and how great it grows.
use Rattle.std.proofs.Common.{◌≡◌, ℕ, zero, suc, ◌+◌, ◌*◌, ◌<◌, ◌≤◌, max, Bool, true, false, cond, List, [], ◌∷◌, length, map, fold, filter, Option, Some, None, slice_get, refl, sym, ap, ◌∙◌, arith}
use Rattle.std.specs.Option.{option_map_or}
use Rattle.std.proofs.Math.Nat.{mul-suc}
use Rattle.std.proofs.lemmas.List.{length-map}
use Rattle.std.proofs.lemmas.List.Sums.{length-filter, count_by-le-length}
use Rattle.std.proofs.lemmas.Option.{slice_get_past}
use Rattle.xk_types.specs.declared.instr.Instr.{Instr}
use Rattle.xk_types.specs.declared.instr.Instr.TheVariants as instr
use Rattle.xk_types.specs.Code.{UnitValue, ModuleValue, unit_called, unit_run, begun_from}
use Rattle.xk_types.specs.Blocks.{Span, finish_opened, finishes, is_inside, depth_at}
use Rattle.xk_types.specs.Shape.{HasShape}
use Rattle.xk_types.specs.Bound.{chain_within, chain_of, greatest_below, nesting, count_below}
use Rattle.xk_bounds.specs.Rooms.{called_by, most_called}
use Rattle.xk_bounds.proofs.TotalLemmas.{run_is}

-- ---- the greatest of numbers

-- functions that agree on each have one greatest result
fold_same : (f g : Instr → ℕ) (a : ℕ) (xs : List Instr) → ((at : ℕ) (x : Instr) → slice_get xs at ≡ Some x → f x ≡ g x) → fold max a (map f xs) ≡ fold max a (map g xs)
fold_same f g a [] same = refl
fold_same f g a (x ∷ xs) same =
    ap (λ n. fold max (max a n) (map f xs)) (same zero x refl) ∙ fold_same f g (max a (g x)) xs (λ at y found. same (suc at) y found)

fold_small : (f : Instr → ℕ) (bound a : ℕ) (xs : List Instr) → ((x : Instr) → f x ≤ bound) → a ≤ bound → fold max a (map f xs) ≤ bound
fold_small f bound a [] small le = le
fold_small f bound a (x ∷ xs) small le = fold_small f bound (max a (f x)) xs small (let h = small x in omega arith)

pub below_same : (f g : ℕ → ℕ) (n : ℕ) → ((k : ℕ) → k < n → f k ≡ g k) → greatest_below f n ≡ greatest_below g n
below_same f g zero same = refl
below_same f g (suc n) same =
    let here = same n (omega arith) in
    let rest = below_same f g n (λ k lt. same k (omega arith)) in
    omega arith

below_small : (f : ℕ → ℕ) (bound n : ℕ) → ((k : ℕ) → f k ≤ bound) → greatest_below f n ≤ bound
below_small f bound zero small = omega arith
below_small f bound (suc n) small =
    let here = small n in
    let rest = below_small f bound n small in
    omega arith

-- no more of the first n pass than there are
pub count_small : (p : ℕ → Bool) (n : ℕ) → count_below p n ≤ n
count_small p zero = omega arith
count_small p (suc n) = go (p n) (count_small p n)
  where
    go : (b : Bool) → count_below p n ≤ n → cond b 1 0 + count_below p n ≤ suc n
    go true le = omega arith
    go false le = omega arith

-- what is called is run
called_run : (i : Instr) (t : ℕ) → unit_called i ≡ Some t → unit_run i ≡ Some t
called_run (instr.Call v args) t e = e
called_run _ t e = cc

-- ---- chains of calls

module _ (own : UnitValue → ℕ) (m : ModuleValue) where
  -- the number of a unit that may not be there, where this says those of the units that are called
  abbrev over_unit : (ℕ → ℕ) → Option UnitValue → ℕ
  over_unit below o = option_map_or (λ u. own u + most_called below u.code) o 0

  one_more : (depth unit : ℕ) → chain_within own m (suc depth) unit ≡ over_unit (chain_within own m depth) (slice_get m.units unit)
  unfolding chain_within
  one_more depth unit = refl

  none : (unit : ℕ) → chain_within own m zero unit ≡ 0
  unfolding chain_within
  none unit = refl

  module _ (shape : HasShape m) where
    -- a unit that an instruction calls is there, and has a greater number
    called_is : (unit : ℕ) (u : UnitValue) (at : ℕ) (i : Instr) (t : ℕ) → slice_get m.units unit ≡ Some u → slice_get u.code at ≡ Some i → unit_called i ≡ Some t
        → (unit < t) × (t < length m.units)
    called_is unit u at i t found here e = run_is m shape unit u at i t found here (called_run i t e)

    called_same : (below above : ℕ → ℕ) (i : Instr) (o : Option ℕ) → unit_called i ≡ o → ((t : ℕ) → o ≡ Some t → below t ≡ above t) → called_by below i ≡ called_by above i
    called_same below above i None e same = rw e refl
    called_same below above i (Some t) e same = rw (e, same t refl) refl

    most_same : (below above : ℕ → ℕ) (unit : ℕ) (u : UnitValue) → slice_get m.units unit ≡ Some u → ((t : ℕ) → unit < t → t < length m.units → below t ≡ above t)
        → most_called below u.code ≡ most_called above u.code
    most_same below above unit u found same =
        fold_same (called_by below) (called_by above) 0 u.code
        (λ at i here. called_same below above i (unit_called i) refl (λ t e. let is = called_is unit u at i t found here e in same t is.0 is.1))

    over_same : (below above : ℕ → ℕ) (unit : ℕ) (o : Option UnitValue) → slice_get m.units unit ≡ o → ((t : ℕ) → unit < t → below t ≡ above t)
        → over_unit below o ≡ over_unit above o
    over_same below above unit None found same = refl
    over_same below above unit (Some u) found same = ap (λ n. own u + n) (most_same below above unit u found (λ t lt inside. same t lt))

    -- one call more below another adds nothing where there are no more units
    stable : (depth unit : ℕ) → length m.units ≤ depth + unit → chain_within own m depth unit ≡ chain_within own m (suc depth) unit
    stable zero unit le = none unit ∙ sym (one_more zero unit ∙ ap (over_unit (chain_within own m zero)) (slice_get_past m.units unit (omega arith)))
    stable (suc depth) unit le =
        one_more depth unit
        ∙ over_same (chain_within own m depth) (chain_within own m (suc depth)) unit (slice_get m.units unit) refl (λ t lt. stable depth t (omega arith))
        ∙ sym (one_more (suc depth) unit)

    -- what a table of the units of greater number gives is the unit's
    pub chain_is : (table : ℕ → ℕ) (unit : ℕ) (u : UnitValue) → slice_get m.units unit ≡ Some u → ((t : ℕ) → unit < t → t < length m.units → table t ≡ chain_of own m t)
        → own u + most_called table u.code ≡ chain_of own m unit
    chain_is table unit u found greater =
        ap (λ n. own u + n) (most_same table (chain_of own m) unit u found greater)
        ∙ sym (stable (length m.units) unit (omega arith) ∙ one_more (length m.units) unit ∙ ap (over_unit (chain_of own m)) found)

  -- ---- how great they grow

  called_small : (bound : ℕ) (below : ℕ → ℕ) (i : Instr) (o : Option ℕ) → unit_called i ≡ o → ((t : ℕ) → below t ≤ bound) → called_by below i ≤ bound
  called_small bound below i None e small = rw e (omega arith)
  called_small bound below i (Some t) e small = rw e (small t)

  over_small : (bound rest : ℕ) (below : ℕ → ℕ) (o : Option UnitValue) → ((u : UnitValue) → o ≡ Some u → own u ≤ bound) → ((t : ℕ) → below t ≤ rest)
      → over_unit below o ≤ bound + rest
  over_small bound rest below None first small = omega arith
  over_small bound rest below (Some u) first small =
      let here = first u refl in
      let others = fold_small (called_by below) rest 0 u.code (λ i. called_small rest below i (unit_called i) refl small) (omega arith) in
      omega arith

  -- no more than so many times the greatest of a unit's own
  pub chain_small : (bound : ℕ) → ((unit : ℕ) (u : UnitValue) → slice_get m.units unit ≡ Some u → own u ≤ bound) → (depth unit : ℕ) → chain_within own m depth unit ≤ bound * depth
  chain_small bound small zero unit = let e = none unit in omega arith
  chain_small bound small (suc depth) unit =
      let e = one_more depth unit in
      let h = over_small bound (bound * depth) (chain_within own m depth) (slice_get m.units unit) (small unit) (chain_small bound small depth) in
      let p = mul-suc bound depth in
      omega arith

-- ---- finishes

length_one : (o : Option Span) (rest : List Span) → length (option_map_or (λ f. f ∷ rest) o rest) ≤ length rest + 1
length_one None rest = omega arith
length_one (Some f) rest = omega arith

length_begun : (begun : ℕ → Instr → Option Span) (at : ℕ) (is : List Instr) → length (begun_from begun at is) ≤ length is
length_begun begun at [] = omega arith
length_begun begun at (i ∷ is) =
    let here = length_one (begun at i) (begun_from begun (suc at) is) in
    let rest = length_begun begun (suc at) is in
    omega arith

-- no more finishes are open at a place than there are instructions
pub nesting_small : (u : UnitValue) → nesting u ≤ length u.code
nesting_small u = below_small (depth_at u) (length u.code) (length u.code) (λ at.
    let around = filter (is_inside at) (finishes u) in
    let told : length (map (λ (f : Span). f.first) around) ≡ length around = length-map around (λ (f : Span). f.first) in
    let chosen = length-filter (is_inside at) (finishes u) in
    let fewer = count_by-le-length (is_inside at) (finishes u) in
    let all = length_begun (finish_opened u) 0 u.code in
    omega arith)

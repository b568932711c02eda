-- The bounds as sums: that of a unit is the sum over its instructions, each with the sum of the unit that it runs; and the slots and the
-- finishes of a unit with the most of those that it calls.
use Rattle.std.proofs.Common.{◌≡◌, ℕ, zero, suc, ◌+◌, ◌*◌, ◌<◌, ◌≤◌, List, [], ◌∷◌, map, inl, inr, length, Some, None, Option, refl, sym, ap, ◌∙◌, arith}
use Rattle.std.specs.Prelude.{slice_get}
use Rattle.std.specs.Option.{option_map_or, option_map}
use Rattle.std.proofs.lemmas.Option.{slice_get_within, slice_get-map}
use Rattle.xk_types.specs.declared.instr.Instr.{Instr}
use Rattle.xk_types.specs.Code.{UnitValue, ModuleValue, unit_called, unit_run}
use Rattle.xk_types.specs.Shape.{HasShape}
use Rattle.xk_types.specs.declared.instr.Instr.TheVariants as instr
use Rattle.xk_types.specs.Blocks.{depth_at}
use Rattle.xk_types.specs.Bound.{total_within, total, visits, sum_from, chain_within, chain_of, stack_of, stack_bound, nesting, room_of, greatest, greatest_below}
use Rattle.std.proofs.lemmas.Bool.{cases_eq}
use Rattle.xk_types.proofs.ListLemmas.{max_each}
use Rattle.xk_law_schedules.proofs.Invariant.{with_run}
use Rattle.xk_law_schedules.proofs.ShapeLemmas.UnitLemmas.{run_later, called_later}

-- two weights that agree on each instruction have one sum
sum_same : (f g : ℕ → Instr → ℕ) (at : ℕ) (xs : List Instr) → ((k n : ℕ) (x : Instr) → slice_get xs k ≡ Some x → f n x ≡ g n x)
    → sum_from f at xs ≡ sum_from g at xs
sum_same f g at [] h = refl
sum_same f g at (x ∷ xs) h =
    let first = h zero at x refl in
    let rest = sum_same f g (suc at) xs (λ k n y here. h (suc k) n y here) in
    omega arith

-- the weight of an instruction, with so many starts one below another
abbrev weighed : (Instr → ℕ) → ModuleValue → ℕ → Instr → ℕ
weighed weight m depth i = weight i + option_map_or (total_within weight m depth) (unit_run i) 0

-- the sum over a unit, each instruction as often as it is carried out
abbrev pub sum_over : UnitValue → (Instr → ℕ) → ℕ
sum_over u weight = sum_from (λ at i. visits u at * weight i) 0 u.code

-- the sum over a unit that may not be there
abbrev sum_of : (Instr → ℕ) → ModuleValue → ℕ → Option UnitValue → ℕ
sum_of weight m depth o = option_map_or (λ u. sum_over u (weighed weight m depth)) o 0

-- one start more
within_next : (weight : Instr → ℕ) (m : ModuleValue) (depth unit : ℕ) → total_within weight m (suc depth) unit ≡ sum_of weight m depth (slice_get m.units unit)
unfolding total_within
within_next weight m depth unit = refl

-- none
within_none : (weight : Instr → ℕ) (m : ModuleValue) (unit : ℕ) → total_within weight m zero unit ≡ 0
unfolding total_within
within_none weight m unit = refl

-- from as many starts on as there are units from this one on, one more changes nothing
within_more : (weight : Instr → ℕ) (m : ModuleValue) → HasShape m → (depth unit : ℕ) → length m.units ≤ unit + depth
    → total_within weight m depth unit ≡ total_within weight m (suc depth) unit
within_more weight m shape zero unit h = within_none weight m unit ∙ past (slice_get m.units unit) refl ∙ sym (within_next weight m zero unit)
  where
    past : (o : Option UnitValue) → slice_get m.units unit ≡ o → 0 ≡ sum_of weight m zero o
    past None e = refl
    past (Some u) e = absurd (let g = slice_get_within m.units unit u e in omega arith)
within_more weight m shape (suc depth) unit h =
    within_next weight m depth unit ∙ go (slice_get m.units unit) refl (within_more weight m shape depth) ∙ sym (within_next weight m (suc depth) unit)
  where
    below : (u : UnitValue) → slice_get m.units unit ≡ Some u → (i : Instr) (at : ℕ) → slice_get u.code at ≡ Some i
        → ((t : ℕ) → length m.units ≤ t + depth → total_within weight m depth t ≡ total_within weight m (suc depth) t)
        → (o : Option ℕ) → unit_run i ≡ o → option_map_or (total_within weight m depth) o 0 ≡ option_map_or (total_within weight m (suc depth)) o 0
    below u found i at here more None e = refl
    below u found i at here more (Some t) e = more t (let g = run_later m shape unit u found i at here t e in omega arith)

    go : (o : Option UnitValue) → slice_get m.units unit ≡ o → ((t : ℕ) → length m.units ≤ t + depth → total_within weight m depth t ≡ total_within weight m (suc depth) t)
        → sum_of weight m depth o ≡ sum_of weight m (suc depth) o
    go None e more = refl
    go (Some u) e more = sum_same (λ at i. visits u at * weighed weight m depth i) (λ at i. visits u at * weighed weight m (suc depth) i) 0 u.code
        (λ k at i here. ap (λ n. visits u at * (weight i + n)) (below u e i k here more (unit_run i) refl))

-- the sum over a unit
pub total_sum : (weight : Instr → ℕ) (m : ModuleValue) → HasShape m → (unit : ℕ) (u : UnitValue) → slice_get m.units unit ≡ Some u
    → total weight m unit ≡ sum_over u (with_run weight m)
total_sum weight m shape unit u found =
    within_more weight m shape (length m.units) unit (omega arith) ∙ within_next weight m (length m.units) unit ∙ ap (sum_of weight m (length m.units)) found

-- ---- the slots of frames

-- one of the numbers is no more than the greatest
most_at : {X : Type 0} (f : X → ℕ) (xs : List X) (k : ℕ) (x : X) → slice_get xs k ≡ Some x → f x ≤ greatest (map f xs)
most_at f xs k x here = max_each (map f xs) 0 k (f x) (slice_get-map f xs k ∙ ap (option_map f) here)

-- two functions that agree on each have one greatest
map_same : {X : Type 0} (f g : X → ℕ) (xs : List X) → ((k : ℕ) (x : X) → slice_get xs k ≡ Some x → f x ≡ g x) → map f xs ≡ map g xs
map_same f g [] h = refl
map_same f g (x ∷ xs) h =
    let first = h zero x refl in
    let rest = map_same f g xs (λ k y here. h (suc k) y here) in
    ap (λ n. n ∷ map f xs) first ∙ ap (λ list. g x ∷ list) rest

-- a number of a unit that may not be there, with so many calls one below another
abbrev chain_with : (UnitValue → ℕ) → ModuleValue → ℕ → Option UnitValue → ℕ
chain_with own m depth o = option_map_or (λ u. own u + greatest (map (λ i. option_map_or (chain_within own m depth) (unit_called i) 0) u.code)) o 0

chain_next : (own : UnitValue → ℕ) (m : ModuleValue) (depth unit : ℕ) → chain_within own m (suc depth) unit ≡ chain_with own m depth (slice_get m.units unit)
unfolding chain_within
chain_next own m depth unit = refl

chain_none : (own : UnitValue → ℕ) (m : ModuleValue) (unit : ℕ) → chain_within own m zero unit ≡ 0
unfolding chain_within
chain_none own m unit = refl

-- from as many calls on as there are units from this one on, one more changes nothing
chain_more : (own : UnitValue → ℕ) (m : ModuleValue) → HasShape m → (depth unit : ℕ) → length m.units ≤ unit + depth
    → chain_within own m depth unit ≡ chain_within own m (suc depth) unit
chain_more own m shape zero unit h = chain_none own m unit ∙ past (slice_get m.units unit) refl ∙ sym (chain_next own m zero unit)
  where
    past : (o : Option UnitValue) → slice_get m.units unit ≡ o → 0 ≡ chain_with own m zero o
    past None e = refl
    past (Some u) e = absurd (let g = slice_get_within m.units unit u e in omega arith)
chain_more own m shape (suc depth) unit h =
    chain_next own m depth unit ∙ go (slice_get m.units unit) refl (chain_more own m shape depth) ∙ sym (chain_next own m (suc depth) unit)
  where
    below : (u : UnitValue) → slice_get m.units unit ≡ Some u → (i : Instr) (at : ℕ) → slice_get u.code at ≡ Some i
        → ((t : ℕ) → length m.units ≤ t + depth → chain_within own m depth t ≡ chain_within own m (suc depth) t)
        → (o : Option ℕ) → unit_called i ≡ o → option_map_or (chain_within own m depth) o 0 ≡ option_map_or (chain_within own m (suc depth)) o 0
    below u found i at here more None e = refl
    below u found i at here more (Some t) e = more t (let g = called_later m shape unit u found i at here t e in omega arith)

    go : (o : Option UnitValue) → slice_get m.units unit ≡ o → ((t : ℕ) → length m.units ≤ t + depth → chain_within own m depth t ≡ chain_within own m (suc depth) t)
        → chain_with own m depth o ≡ chain_with own m (suc depth) o
    go None e more = refl
    go (Some u) e more = ap (λ ns. own u + greatest ns)
        (map_same (λ i. option_map_or (chain_within own m depth) (unit_called i) 0) (λ i. option_map_or (chain_within own m (suc depth)) (unit_called i) 0) u.code
        (λ at i here. below u e i at here more (unit_called i) refl))

-- a unit's number, with those of the units that it calls
chain_sum : (own : UnitValue → ℕ) (m : ModuleValue) → HasShape m → (unit : ℕ) (u : UnitValue) → slice_get m.units unit ≡ Some u
    → chain_of own m unit ≡ own u + greatest (map (λ i. option_map_or (chain_of own m) (unit_called i) 0) u.code)
chain_sum own m shape unit u found =
    chain_more own m shape (length m.units) unit (omega arith) ∙ chain_next own m (length m.units) unit ∙ ap (chain_with own m (length m.units)) found

-- its own is among them
pub chain_own : (own : UnitValue → ℕ) (m : ModuleValue) → HasShape m → (unit : ℕ) (u : UnitValue) → slice_get m.units unit ≡ Some u → own u ≤ chain_of own m unit
chain_own own m shape unit u found = let h = chain_sum own m shape unit u found in omega arith

-- and those of a unit that it calls
pub chain_called : (own : UnitValue → ℕ) (m : ModuleValue) → HasShape m → (unit : ℕ) (u : UnitValue) → slice_get m.units unit ≡ Some u
    → (at t : ℕ) (args : List ℕ) → slice_get u.code at ≡ Some (instr.Call t args) → own u + chain_of own m t ≤ chain_of own m unit
chain_called own m shape unit u found at t args here =
    let h = chain_sum own m shape unit u found in
    let g = most_at (λ i. option_map_or (chain_of own m) (unit_called i) 0) u.code at (instr.Call t args) here in
    omega arith

-- so it is with slots
pub stack_own : (m : ModuleValue) → HasShape m → (unit : ℕ) (u : UnitValue) → slice_get m.units unit ≡ Some u → u.slots ≤ stack_of m unit
stack_own m shape unit u found = chain_own (λ v. v.slots) m shape unit u found

pub stack_called : (m : ModuleValue) → HasShape m → (unit : ℕ) (u : UnitValue) → slice_get m.units unit ≡ Some u
    → (at t : ℕ) (args : List ℕ) → slice_get u.code at ≡ Some (instr.Call t args) → u.slots + stack_of m t ≤ stack_of m unit
stack_called m shape unit u found at t args here = chain_called (λ v. v.slots) m shape unit u found at t args here

-- one of the first n is no more than the greatest of them
below_most : (f : ℕ → ℕ) (n k : ℕ) → k < n → f k ≤ greatest_below f n
below_most f zero k h = absurd (omega arith)
below_most f (suc n) k h = elim (cases_eq k n) [ inl e ↦ (let g = ap f e in omega arith) | inr differs ↦ (let g = below_most f n k (omega arith) in omega arith) ]

-- no unit has more than the bound
pub stack_within_bound : (m : ModuleValue) (unit : ℕ) (u : UnitValue) → slice_get m.units unit ≡ Some u → stack_of m unit ≤ stack_bound m
stack_within_bound m unit u found = below_most (stack_of m) (length m.units) unit (slice_get_within m.units unit u found)

-- ---- the finishes that are open

-- a place has no more finishes round it than the greatest nesting
pub nesting_at : (u : UnitValue) (at : ℕ) → at < length u.code → depth_at u at ≤ nesting u
nesting_at u at inside = below_most (depth_at u) (length u.code) at inside

-- a unit has room for its own
pub room_own : (m : ModuleValue) → HasShape m → (unit : ℕ) (u : UnitValue) → slice_get m.units unit ≡ Some u → nesting u ≤ room_of m unit
room_own m shape unit u found = chain_own nesting m shape unit u found

-- and, with its own at a call, for those of the unit that is called
pub room_called : (m : ModuleValue) → HasShape m → (unit : ℕ) (u : UnitValue) → slice_get m.units unit ≡ Some u
    → (at t : ℕ) (args : List ℕ) → slice_get u.code at ≡ Some (instr.Call t args) → depth_at u at + room_of m t ≤ room_of m unit
room_called m shape unit u found at t args here =
    let h = chain_called nesting m shape unit u found at t args here in
    let g = nesting_at u at (slice_get_within u.code at (instr.Call t args) here) in
    omega arith

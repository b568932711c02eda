-- How many steps, activities and clocks a run of a module can take, as sums over its instructions, and how many slots, frames, open
-- finishes and registrations an activity. The bounds and their limits are this project's own.
use Rattle.std.specs.Prelude.{ℕ, zero, suc, ◌+◌, ◌*◌, ◌≤◌, min, max, Bool, List, [], ◌∷◌, length, Some, slice_get, fold, map, filter, if◌then◌else◌}
use Rattle.std.specs.List.{list_any, count_by}
use Rattle.std.specs.Option.{option_map_or}
use Rattle.xk_types.specs.declared.instr.Instr.{Instr}
use Rattle.xk_types.specs.declared.instr.Instr.TheVariants as instr
use Rattle.xk_types.specs.declared.rules.Rule.{Rule}
use Rattle.xk_types.specs.declared.rules.Rule.TheVariants as rule
use Rattle.xk_types.specs.Code.{UnitValue, ModuleValue, unit_called, unit_run, params_of, Loop, loops, is_round, turns}
use Rattle.xk_types.specs.Blocks.{depth_at, takes_clock, makes}

-- the steps of an instruction itself
abbrev pub steps_weight : Instr → ℕ
steps_weight instr.Advance = 2
steps_weight _ = 1

-- the activities that it starts itself
abbrev pub activities_weight : Instr → ℕ
activities_weight (instr.Spawn t args) = 1
activities_weight _ = 0

-- the clocks that it makes itself
abbrev pub clocks_weight : Instr → ℕ
clocks_weight (instr.Make d) = 1
clocks_weight _ = 0

-- the turns of the loops that a place lies in, multiplied
abbrev pub product : List Loop → ℕ
product [] = 1
product (l ∷ ls) = turns l * product ls

-- how often an instruction at this place is carried out at most, each time that its unit is
abbrev pub visits : UnitValue → ℕ → ℕ
visits u at = product (filter (is_round at) (loops u))

-- the sum over instructions from a place on
abbrev pub sum_from : (ℕ → Instr → ℕ) → ℕ → List Instr → ℕ
sum_from f at [] = 0
sum_from f at (i ∷ is) = f at i + sum_from f (suc at) is

-- The sum of a weight over a unit's instructions, each with the sum of the unit that it calls or starts, and as often as it is
-- carried out, looking at no more units one below another than this, the unit among them.
unfoldable pub total_within : (Instr → ℕ) → ModuleValue → ℕ → ℕ → ℕ
total_within weight m zero unit = 0
total_within weight m (suc depth) unit =
    option_map_or (λ u. sum_from (λ at i. visits u at * (weight i + option_map_or (total_within weight m depth) (unit_run i) 0)) 0 u.code)
    (slice_get m.units unit) 0

-- What a unit calls or starts has a greater number, so that no more than there are units stand one below another.
abbrev pub total : (Instr → ℕ) → ModuleValue → ℕ → ℕ
total weight m unit = total_within weight m (length m.units) unit

-- the most steps of a unit
abbrev pub cost : ModuleValue → ℕ → ℕ
cost m unit = total steps_weight m unit

-- the most steps of a run
abbrev pub steps_bound : ModuleValue → ℕ
steps_bound m = cost m 0

-- the most activities, main among them
abbrev pub activities_bound : ModuleValue → ℕ
activities_bound m = total activities_weight m 0 + 1

-- the most clocks
abbrev pub clocks_bound : ModuleValue → ℕ
clocks_bound m = total clocks_weight m 0

-- the greatest of the numbers
abbrev pub greatest : List ℕ → ℕ
greatest ns = fold max 0 ns

-- A number of a unit, with the most of those that it calls, looking at no more units one below another than this, the unit among
-- them.
unfoldable pub chain_within : (UnitValue → ℕ) → ModuleValue → ℕ → ℕ → ℕ
chain_within own m zero unit = 0
chain_within own m (suc depth) unit =
    option_map_or (λ u. own u + greatest (map (λ i. option_map_or (chain_within own m depth) (unit_called i) 0) u.code)) (slice_get m.units unit) 0

-- the same, as deep as there are units: none is deeper, since each calls only greater ones
abbrev pub chain_of : (UnitValue → ℕ) → ModuleValue → ℕ → ℕ
chain_of own m unit = chain_within own m (length m.units) unit

-- the most slots in the frames of an activity from the one of this unit on
abbrev pub stack_of : ModuleValue → ℕ → ℕ
stack_of m unit = chain_of (λ u. u.slots) m unit

-- the greatest among the first n
abbrev pub greatest_below : (ℕ → ℕ) → ℕ → ℕ
greatest_below f zero = 0
greatest_below f (suc n) = max (f n) (greatest_below f n)

-- the most slots in the frames of one activity
abbrev pub stack_bound : ModuleValue → ℕ
stack_bound m = greatest_below (stack_of m) (length m.units)

-- ---- the room of a unit: what an activity needs at most to run it, and what it calls

-- the most frames of an activity from the one of this unit on
abbrev pub frames_of : ModuleValue → ℕ → ℕ
frames_of m unit = chain_of (λ u. 1) m unit

-- the greatest nesting of a unit's finishes: the most that are open at one of its places, of those that it opens itself
abbrev pub nesting : UnitValue → ℕ
nesting u = greatest_below (depth_at u) (length u.code)

-- No more finishes than these are open at once in an activity, of those that are opened from this unit on: the greatest nesting of the
-- unit, with the greatest among those that it calls, wherever it calls them.
abbrev pub room_of : ModuleValue → ℕ → ℕ
room_of m unit = chain_of nesting m unit

-- ---- the clocks that an activity is registered on

-- how many of the first n pass
abbrev pub count_below : (ℕ → Bool) → ℕ → ℕ
count_below p zero = 0
count_below p (suc n) = (if p n then 1 else 0) + count_below p n

-- the unit makes clocks in this slot
abbrev pub is_made : UnitValue → ℕ → Bool
is_made u s = list_any (makes s) u.code

-- in how many of its slots it does
abbrev pub slots_made : UnitValue → ℕ
slots_made u = count_below (is_made u) u.slots

-- in how many slots of its frames an activity makes clocks at most, from the frame of this unit on
abbrev pub made_of : ModuleValue → ℕ → ℕ
made_of m unit = chain_of slots_made m unit

-- how many clocks a unit is given
abbrev pub given_to : ModuleValue → ℕ → ℕ
given_to m unit = count_by (λ p. takes_clock (Some p)) (params_of m unit)

-- On no more clocks an activity is registered that begins with this unit: those that it is given there, one for each slot in which it
-- makes clocks, and no more than there may be.
abbrev pub places_from : ModuleValue → ℕ → ℕ
places_from m unit = min (given_to m unit + made_of m unit) (clocks_bound m)

-- V14 to V17: what each of them limits; nothing for any other rule
abbrev pub bound_of : ModuleValue → Rule → ℕ
bound_of m rule.Steps = steps_bound m
bound_of m rule.Activities = activities_bound m
bound_of m rule.Clocks = clocks_bound m
bound_of m rule.Stack = stack_bound m
bound_of m _ = 0

-- the most that each of them allows
abbrev pub limit_of : Rule → ℕ
limit_of rule.Steps = 1000000000
limit_of rule.Activities = 100000
limit_of rule.Clocks = 100000
limit_of rule.Stack = 4096
limit_of _ = 0

-- none of them is broken
pub record IsWithinBounds (m : ModuleValue) : Type 0 where
  pub steps : bound_of m rule.Steps ≤ limit_of rule.Steps
  pub activities : bound_of m rule.Activities ≤ limit_of rule.Activities
  pub clocks : bound_of m rule.Clocks ≤ limit_of rule.Clocks
  pub stack : bound_of m rule.Stack ≤ limit_of rule.Stack

-- Choosers: who takes the next step, and schedules that follow one. X10 Language Specification 2.4, chapter Activities, Spawning an activity, leaves the order of
-- steps open; that somebody chooses it, and how, is this project's own.
use Rattle.std.specs.Prelude.{◌≡◌, ℕ, ◌%◌, List, [], ◌∷◌, length, filter, Option, Some, None, slice_get, slice_index_or}
use Rattle.xk_types.specs.Code.{ModuleValue}
use Rattle.xk_types.specs.World.{World}
use Rattle.xk_types.specs.Step.{Outcome, Blocked, Wrong, Stepped, step}
use Rattle.xk_types.specs.Schedule.{is_enabled}
use Rattle.xk_collections.specs.NumberSets.{numbers_from, place_above}

-- the enabled activities, rising
abbrev pub enabled_in : ModuleValue → World → List ℕ
enabled_in m w = filter (is_enabled m w) (numbers_from 0 (length w.activities))

-- of a list that is answered so, this is the member at the place that is answered, counted round the list
abbrev pub IsAnswered : (List ℕ → ℕ) → List ℕ → ℕ → Type 0
IsAnswered answer xs x = slice_get xs (answer xs % length xs) ≡ Some x

-- A chooser in state s, which answers a list of activities so, names activity a: of those that are enabled it is the one at the place that is
-- answered, counted round the list.
abbrev pub Names : {S : Type 0} → (S → List ℕ → ℕ) → ModuleValue → S → World → ℕ → Type 0
Names answer m s w a =
    slice_get (enabled_in m w) (answer s (enabled_in m w) % length (enabled_in m w)) ≡ Some a

abbrev pub goes_on : Outcome → (World → Type 0) → Type 0
goes_on Blocked go = ⊥
goes_on (Wrong c) go = ⊥
goes_on (Stepped v e) go = go v

-- The list is legal from the world, and follows a chooser in this state, which answers a list of activities so, and then is in such a state:
-- each member is the activity that the chooser names.
abbrev pub Follows : {S : Type 0} → (S → List ℕ → ℕ) → (S → List ℕ → S) → ModuleValue → S → World → List ℕ → Type 0
Follows answer after m s w [] = Unit {0}
Follows answer after m s w (a ∷ list) =
    Names answer m s w a
    × goes_on (step m w a) (λ v. Follows answer after m (after s (enabled_in m w)) v list)

abbrev pub state_on : {S : Type 0} → Outcome → S → (World → S) → S
state_on Blocked s go = s
state_on (Wrong c) s go = s
state_on (Stepped v e) s go = go v

-- the state in which a chooser is left that has chosen each step of the list
abbrev pub state_after : {S : Type 0} → (S → List ℕ → S) → ModuleValue → S → World → List ℕ → S
state_after after m s w [] = s
state_after after m s w (a ∷ list) = state_on (step m w a) s (λ v. state_after after m (after s (enabled_in m w)) v list)

-- being shown this list leaves the state as it is: so who is named is named again, as long as the same can take a step
abbrev pub IsSteadyOn : {S : Type 0} → (S → List ℕ → S) → S → List ℕ → Type 0
IsSteadyOn after s list = after s list ≡ s

-- this one is the least of a list, and none is above it
pub record IsAloneIn (xs : List ℕ) (x : ℕ) : Type 0 where
  pub least : slice_get xs 0 ≡ Some x
  pub greatest : slice_get xs (place_above x xs) ≡ None

-- ---- the choosers that stand ready

-- the place that each in turn has, after the one taken before
abbrev pub turn_of : Option ℕ → List ℕ → ℕ
turn_of None list = 0
turn_of (Some taken) list = place_above taken list

-- who was taken then
abbrev pub turn_after : Option ℕ → List ℕ → Option ℕ
turn_after o list = Some (slice_index_or list (turn_of o list % length list) 0)

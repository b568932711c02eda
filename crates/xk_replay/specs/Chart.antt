-- The chart of a run: all advances of its clocks. What an advance is, `xk_types` says in `Step.antt`; that they are told so is this project's
-- own.
use Rattle.std.specs.Prelude.{◌≡◌, ℕ, ℤ, ◌-◌, ◌≤◌, Bool, true, false, not, List, [], ◌∷◌, ◌++◌, length, map, filter, flat_map, slice_get, codes, decimal}
use Rattle.std.specs.Option.{option_map_or}
use Rattle.xk_types.specs.declared.world.Entry.{Entry}
use Rattle.xk_types.specs.declared.world.Event.{Event}
use Rattle.xk_types.specs.declared.world.Event.TheVariants as event
use Rattle.xk_types.specs.Code.{ModuleValue}
use Rattle.xk_types.specs.World.{World, opening, is_ended}
use Rattle.xk_types.specs.Step.{Outcome, Blocked, Wrong, Stepped, step}
use Rattle.xk_types.specs.Schedule.{Through, run}
use Rattle.xk_types.specs.Bound.{activities_bound}
use Rattle.xk_types.specs.Logs.{schedule_of}
use Rattle.xk_core.specs.Core.{CoreValue, IsCore, advanced_now, is_registered_on}
use Rattle.xk_collections.specs.NumberSets.{SetValue, numbers_from, with_member}

-- an advance of a clock: the step in which it came, counted from 1, the clock, its phase from then on, and who is registered on it behind
-- that step, rising
pub record Advance : Type 0 where
  pub step : ℕ
  pub clock : ℕ
  pub phase : ℕ
  pub acts : List ℕ

-- the phase of clock c
abbrev pub phase_of : World → ℕ → ℕ
phase_of w c = option_map_or (λ k. k.phase) (slice_get w.clocks c) 0

-- who is registered on clock c, rising
abbrev pub registered_in : World → ℕ → List ℕ
registered_in w c = filter (λ a. is_registered_on w a c) (numbers_from 0 (length w.activities))

-- the advance of clock c in the step that led to this world
abbrev pub advance_in : World → ℕ → Advance
advance_in w c = record { step = w.steps; clock = c; phase = phase_of w c; acts = registered_in w c }

-- the advances in the step that led to this world, by rising clocks
abbrev pub advances_in : World → List Advance
advances_in w = map (advance_in w) (advanced_now w)

abbrev pub advances_on : Outcome → (World → List Advance) → List Advance
advances_on Blocked go = []
advances_on (Wrong c) go = []
advances_on (Stepped v e) go = advances_in v ++ go v

-- all advances of a run from this world, in order of the steps and then of the clocks
abbrev pub advances : ModuleValue → List ℕ → World → List Advance
advances m [] w = []
advances m (a ∷ list) w = advances_on (step m w a) (advances m list)

-- ---- the text

-- activities, each after a blank
abbrev pub act_text : ℕ → List ℕ
act_text a = codes " " ++ decimal a

abbrev pub acts_text : List ℕ → List ℕ
acts_text acts = flat_map act_text acts

-- the line of an advance
abbrev pub advance_line : Advance → List ℕ
advance_line x =
    codes "step " ++ (decimal x.step ++ (codes " clock " ++ (decimal x.clock ++ (codes " phase " ++ (decimal x.phase ++ (codes " acts" ++ (acts_text x.acts ++ codes "\n")))))))

-- the lines of a run from this world
abbrev pub chart_lines : ModuleValue → List ℕ → World → List ℕ
chart_lines m list w = flat_map advance_line (advances m list w)

-- the chart of the run that a log stands for, where main is given these numbers
abbrev pub chart_text : ModuleValue → List ℤ → List Entry → List ℕ
chart_text m args log = chart_lines m (schedule_of log) (opening m args)

-- the list is legal from the core's world
abbrev pub IsLegalFrom : CoreValue → List ℕ → Type 0
IsLegalFrom c list = (w : World) × (run c.module_run list c.world ≡ Through w)

-- ---- who is looked at

-- activity a was started and hasn't ended
abbrev pub lives : World → ℕ → Bool
lives w a = option_map_or (λ act. not (is_ended act.status)) (slice_get w.activities a) false

-- those of whom that holds, rising
abbrev pub living_in : World → List ℕ
living_in w = filter (lives w) (numbers_from 0 (length w.activities))

-- those of whom it holds in a world to which a step of activity a led that was seen so, where it held of these before
abbrev pub living_after : World → ℕ → Event → List ℕ → List ℕ
living_after w a event.Spawned xs = with_member (length w.activities - 1) true xs
living_after w a event.Ended xs = with_member a false xs
living_after w a _ xs = xs

-- a set with room for all activities that there can be has those of a core that live
pub record AreLiving (c : CoreValue) (set : SetValue) : Type 0 where
  pub core : IsCore c.module_run c.world
  pub room : activities_bound c.module_run ≤ set.room
  pub members : set.members ≡ living_in c.world

-- How far the steps of a log can be taken. What a step is, `xk_types` says in `Step.antt`; that it is told so is this project's own.
use Rattle.std.specs.Prelude.{◌≡◌, ℕ, suc, ℤ, ◌+◌, ◌-◌, nat_lt, Bool, true, false, List, [], ◌∷◌, Option, Some, None, is_none, if◌then◌else◌}
use Rattle.xk_types.specs.declared.world.Entry.{Entry}
use Rattle.xk_types.specs.Code.{ModuleValue}
use Rattle.xk_types.specs.World.{World, opening}
use Rattle.xk_types.specs.Schedule.{Course, Through, Held, Wronged, run}
use Rattle.xk_types.specs.Logs.{schedule_of}
use Rattle.xk_show_events.specs.Worlds.{last_world}
use Rattle.xk_show_where.specs.declared.progress.Stop.{Stop}

abbrev pub is_through : Course → Bool
is_through (Through w) = true
is_through (Held w) = false
is_through (Wronged w c) = false

-- the run that a log stands for, where main is given these numbers
abbrev pub course_of : ModuleValue → List ℤ → List Entry → Course
course_of m args log = run m (schedule_of log) (opening m args)

-- the world that its steps lead to, as far as they can be taken
abbrev pub reached : ModuleValue → List ℤ → List Entry → World
reached m args log = last_world (course_of m args log)

-- The step behind so many of a log, whose first entry has number i: which of an entry's steps it is. Behind the last there is none.
abbrev pub step_behind : ℕ → ℕ → List Entry → Option Stop
step_behind i n [] = None
step_behind i n (e ∷ log) =
    if nat_lt n e.steps then Some (record { entry = i; step = n + 1; steps = e.steps; act = e.act }) else step_behind (suc i) (n - e.steps) log

-- what is told of a log: the world that its steps lead to, as far as they can be taken; the step that can't be; and whether there is none
pub record IsTold (m : ModuleValue) (args : List ℤ) (log : List Entry) (w : World) (s : Option Stop) : Type 0 where
  pub world : w ≡ reached m args log
  pub stop : s ≡ step_behind 0 w.steps log
  pub whole : is_none s ≡ is_through (course_of m args log)

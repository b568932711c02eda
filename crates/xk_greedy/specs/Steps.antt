-- A step of each of some activities, one after another. This project's own.
use Rattle.std.specs.Prelude.{◌≡◌, ℕ, ◌+◌, ◌<◌, ◌≤◌, true, List, ◌++◌, length, map, Option, get_or}
use Rattle.xk_types.specs.declared.world.Entry.{Entry}
use Rattle.xk_types.specs.Code.{ModuleValue}
use Rattle.xk_types.specs.World.{World}
use Rattle.xk_types.specs.Bound.{steps_bound}
use Rattle.xk_types.specs.Schedule.{Through, run, is_enabled}
use Rattle.xk_types.specs.Logs.{one_step_of}
use Rattle.xk_core.specs.Core.{CoreValue}
use Rattle.xk_greedy.specs.Rounds.{IsRoundBy}

-- each of them from place i on can take a step
abbrev pub AreEnabled : ModuleValue → World → ℕ → List ℕ → Type 0
AreEnabled m w i acts = (j : ℕ) → i ≤ j → j < length acts → is_enabled m w (get_or acts j 0) ≡ true

-- A core with its log, and where it is once these have taken a step each.
pub record IsOn (c : CoreValue) (log : List Entry) (acts : List ℕ) (d : CoreValue) (more : List Entry) : Type 0 where
  pub same_module : d.module_run ≡ c.module_run
  pub leads : run c.module_run acts c.world ≡ Through d.world
  pub logged : more ≡ log ++ map one_step_of acts
  pub counted : d.world.steps ≡ c.world.steps + length acts
  pub bound : 0 < length acts → d.world.steps ≤ steps_bound c.module_run

-- A core with its log, and where it is a round later.
pub record IsRoundOn (processors : Option ℕ) (c : CoreValue) (log : List Entry) (d : CoreValue) (more : List Entry) : Type 0 where
  pub acts : List ℕ
  pub on : IsOn c log acts d more
  pub round : IsRoundBy processors c.module_run c.world acts d.world

-- Stretches of steps of one activity that a chooser names each time and nobody else can see. This project's own.
use Rattle.std.specs.Prelude.{◌≡◌, ℕ, List, Option, replicate}
use Rattle.xk_core.specs.Core.{CoreValue}
use Rattle.xk_core.specs.LocalRun.{RunsTo, IsUnseen}
use Rattle.xk_scheduler.specs.Choosers.{Follows, state_after}
use Rattle.xk_scheduler.specs.declared.driver.Turn.{Turn}
use Rattle.xk_scheduler.specs.LoggedRuns.{IsTaken, IsRefused}

-- A chooser in state s, which answers so and then is in such a state, names one activity n times: its steps lead from c to d, nothing is seen
-- of them, and the chooser is left in state t.
pub record IsStretch {S : Type 0} (answer : S → List ℕ → ℕ) (after : S → List ℕ → S) (c : CoreValue) (s : S) (n : ℕ) (d : CoreValue) (t : S) : Type 0 where
  pub act : ℕ
  pub follows : Follows answer after c.module_run s c.world (replicate n act)
  pub leads : RunsTo c act n d
  pub unseen : IsUnseen c act n
  pub same_module : d.module_run ≡ c.module_run
  pub left : t ≡ state_after after c.module_run s c.world (replicate n act)

-- Such a stretch leads from c, where the chooser is in state s, to `between`, where it is in state `left`, and there a turn came to this.
pub record IsGone {S : Type 0} (answer : S → List ℕ → ℕ) (after : S → List ℕ → S) (c : CoreValue) (s : S) (d : CoreValue) (t : S) (o : Option Turn) : Type 0 where
  pub count : ℕ
  pub between : CoreValue
  pub left : S
  pub stretch : IsStretch answer after c s count between left
  pub turn : IsTaken answer after between left d t o

-- or a turn that was refused memory
pub record IsRefusedBehind {S : Type 0} (answer : S → List ℕ → ℕ) (after : S → List ℕ → S) (c : CoreValue) (s : S) (d : CoreValue) (t : S) : Type 0 where
  pub count : ℕ
  pub between : CoreValue
  pub left : S
  pub stretch : IsStretch answer after c s count between left
  pub refused : IsRefused answer after between left d t

-- Runs of a module to its end, each step taken in an order, or by whom it may be. X10 leaves the order open (`xk_scheduler`, `Choosers.antt`);
-- the orders are this project's own.
use Rattle.std.specs.Prelude.{◌≡◌, ℕ, ℤ, ◌-◌, ⊤, Bool, true, false, List, length, Option, Some, None}
use Rattle.xk_types.specs.declared.world.Entry.{Entry}
use Rattle.xk_types.specs.Code.{ModuleValue}
use Rattle.xk_types.specs.World.{World, opening}
use Rattle.xk_types.specs.Schedule.{Leads, all_ended}
use Rattle.xk_types.specs.Logs.{schedule_of}
use Rattle.xk_jobs.specs.Tasks.{By, Greedy, In, Way}
use Rattle.xk_jobs.specs.declared.job.Order.{Order}
use Rattle.xk_jobs.specs.declared.job.Order.TheVariants as order
use Rattle.xk_scheduler.specs.Choosers.{Follows, turn_of, turn_after}
use Rattle.xk_greedy.specs.Rounds.{FollowsRounds}
use Rattle.xk_random.specs.Chance.{chance_after, chance_answer, chance_of}
use Rattle.xk_scheduler.specs.WholeRuns.{IsLogThat, IsRunThat}

-- Each step of the list, from the opening world with these arguments on, is one of the enabled activity that has its turn: the least; the
-- greatest; the least of greater number than the one taken before, else the least; whoever is drawn from the seed.
abbrev pub FollowsOrder : Order → ModuleValue → List ℤ → List ℕ → Type 0
FollowsOrder order.First m args list = Follows {S = Unit {0}} (λ s enabled. 0) (λ s enabled. s) m tt (opening m args) list
FollowsOrder order.Last m args list = Follows {S = Unit {0}} (λ s enabled. length enabled - 1) (λ s enabled. s) m tt (opening m args) list
FollowsOrder order.Round m args list = Follows turn_of turn_after m None (opening m args) list
FollowsOrder (order.Random seed) m args list = Follows chance_answer chance_after m (chance_of seed) (opening m args) list

-- the run in this order, with these arguments, prints these numbers, and takes so many steps
abbrev pub IsOrderedRun : Order → ModuleValue → List ℤ → List ℤ → ℕ → Type 0
IsOrderedRun o m args = IsRunThat (FollowsOrder o m args) m args

-- the run by rounds, on so many processors, if they are limited, with these arguments: it prints these numbers, and takes so many steps in
-- so many rounds
abbrev pub IsGreedyRun : Option ℕ → ModuleValue → List ℤ → List ℤ → ℕ → ℕ → Type 0
IsGreedyRun p m args numbers steps rounds = IsRunThat (FollowsRounds p m args rounds) m args numbers steps

-- a run with these arguments again by a log: it prints these numbers, and takes so many steps
abbrev pub IsReplay : ModuleValue → List ℤ → List Entry → List ℤ → ℕ → Type 0
IsReplay m args log = IsRunThat (λ list. list ≡ schedule_of log) m args

-- a whole run with these arguments, whoever takes its steps: it prints these numbers, and takes so many steps
abbrev pub IsSomeRun : ModuleValue → List ℤ → List ℤ → ℕ → Type 0
IsSomeRun = IsRunThat (λ list. ⊤)

-- the log is that of a whole run with these arguments: it is legal, and behind it all have ended
pub record IsWholeRun (m : ModuleValue) (args : List ℤ) (log : List Entry) : Type 0 where
  pub last : World
  pub leads : Leads m (schedule_of log) last
  pub given : last.arguments ≡ args
  pub over : all_ended last ≡ true

-- the run in this order, with these arguments, prints these numbers, takes so many steps, and has this log
abbrev pub IsLoggedRun : Order → ModuleValue → List ℤ → List ℤ → ℕ → List Entry → Type 0
IsLoggedRun o m args numbers steps log = IsRunThat (IsLogThat (FollowsOrder o m args) log) m args numbers steps

-- the same of the run by rounds
abbrev pub IsLoggedGreedyRun : Option ℕ → ModuleValue → List ℤ → List ℤ → ℕ → ℕ → List Entry → Type 0
IsLoggedGreedyRun p m args numbers steps rounds log = IsRunThat (IsLogThat (FollowsRounds p m args rounds) log) m args numbers steps

-- A run by a list of which this holds, with these arguments: it prints these numbers, and takes so many steps. Where its log is kept, that has an entry for
-- each step.
abbrev pub IsFinishedBy : (List ℕ → Type 0) → Bool → ModuleValue → List ℤ → List ℤ → ℕ → Option (List Entry) → Type 0
IsFinishedBy Has false m args numbers steps None = IsRunThat Has m args numbers steps
IsFinishedBy Has true m args numbers steps (Some log) = IsRunThat (IsLogThat Has log) m args numbers steps
IsFinishedBy Has _ m args numbers steps _ = ⊥

-- the same, where no rounds are counted
abbrev pub IsUncountedBy : (List ℕ → Type 0) → Bool → ModuleValue → List ℤ → List ℤ → ℕ → Option ℕ → Option (List Entry) → Type 0
IsUncountedBy Has keeps m args numbers steps None log = IsFinishedBy Has keeps m args numbers steps log
IsUncountedBy Has keeps m args numbers steps (Some rounds) log = ⊥

-- the run in an order, or by rounds, which are counted, or some run where workers take the steps
abbrev pub IsFinished : Way → Bool → ModuleValue → List ℤ → List ℤ → ℕ → Option ℕ → Option (List Entry) → Type 0
IsFinished (In o) keeps m args numbers steps rounds log = IsUncountedBy (FollowsOrder o m args) keeps m args numbers steps rounds log
IsFinished (Greedy p) keeps m args numbers steps (Some rounds) log =
    IsFinishedBy (FollowsRounds p m args rounds) keeps m args numbers steps log
IsFinished (By n) false m args numbers steps None None = IsSomeRun m args numbers steps
IsFinished (By n) true m args numbers steps None (Some log) = IsReplay m args log numbers steps
IsFinished _ _ m args numbers steps _ _ = ⊥

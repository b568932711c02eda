-- A run with its log, before its first step and behind it. This project's own.
use Rattle.std.specs.Prelude.{◌≡◌, ◌⊎◌, ℕ, ℤ, List, [], length}
use Rattle.std.specs.Vec.{vec_capacity}
use Rattle.xk_types.specs.declared.world.Entry.{Entry}
use Rattle.xk_types.specs.World.{opening}
use Rattle.xk_core.specs.Core.{CoreValue, IsCore, WantsMemory, opening_core}
use Rattle.xk_types.specs.Code.{module_of}
use Rattle.xk_scheduler.specs.LoggedRuns.{IsRunOf}
use Rattle.xk_workers.specs.declared.run.Stage.{Stage}
use Rattle.xk_workers.specs.declared.run.Stage.TheVariants as stage

-- how many entries of a log there is room for without more memory, and how many printed numbers
pub record Room : Type 0 where
  pub log : ℕ
  pub printed : ℕ

-- where it has come to, its log, the numbers that it printed, and the room for these
pub record RunValue : Type 0 where
  pub core : CoreValue
  pub log : List Entry
  pub printed : List ℤ
  pub room : Room

-- a run before its first step, which has no room yet
abbrev pub fresh_run : CoreValue → RunValue
fresh_run c = record { core = c; log = []; printed = []; room = record { log = 0; printed = 0 } }

-- the run with such room
abbrev pub in_room : Room → RunValue → RunValue
in_room room r = record r { room = room }

abbrev pub run_at : Stage → RunValue
run_at (stage.Fresh c) = fresh_run c
run_at (stage.Going r) = record {
  core = r.driver;
  log = r.log.items;
  printed = r.printed.items;
  room = record { log = vec_capacity r.log; printed = vec_capacity r.printed };
}
run_at stage.Between = fresh_run (opening_core (module_of [] []) [])

-- before the first step the world is the opening one; and the run is there
abbrev pub IsStage : Stage → Type 0
IsStage (stage.Fresh c) = c.world ≡ opening c.module_run c.world.arguments
IsStage (stage.Going r) = Unit {0}
IsStage stage.Between = ⊥

-- the log stands for a legal schedule of the core's module, which leads to the core, and prints these numbers
abbrev pub IsLegalRun : RunValue → Type 0
IsLegalRun r = IsRunOf r.core.module_run r.log r.printed r.core

-- no entry goes into its log without more memory
abbrev pub IsLogFull : RunValue → Type 0
IsLogFull r = length r.log ≡ r.room.log

-- what a step of activity a may want memory for: its entry of the log, the number that it may print, or itself
abbrev pub IsShortOf : RunValue → ℕ → Type 0
IsShortOf r a = IsLogFull r ⊎ ((length r.printed ≡ r.room.printed) ⊎ WantsMemory r.core a)

-- it has a log
abbrev pub IsGoing : Stage → Type 0
IsGoing (stage.Fresh c) = ⊥
IsGoing (stage.Going r) = Unit {0}
IsGoing stage.Between = ⊥

-- it is legal, and its core is one
pub record IsRun (r : RunValue) : Type 0 where
  pub core : IsCore r.core.module_run r.core.world
  pub legal : IsLegalRun r

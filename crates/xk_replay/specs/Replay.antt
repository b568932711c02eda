-- Logs that are played again. That a run is written down, and played again from what was written, is this project's own.
use Rattle.std.specs.Prelude.{◌≡◌, ℕ, ℤ, ◌<◌, ◌⊎◌, Bool, true, false, List, ◌++◌, replicate, take, Some, slice_get, Result, Ok, Err}
use Rattle.xk_types.specs.declared.world.Entry.{Entry}
use Rattle.xk_types.specs.Code.{ModuleValue}
use Rattle.xk_types.specs.World.{World, opening, AreArguments}
use Rattle.xk_types.specs.Schedule.{Through, Leads, run, is_enabled, all_ended, printed}
use Rattle.xk_types.specs.Logs.{schedule_of}
use Rattle.xk_core.specs.Core.{CoreValue}
use Rattle.xk_replay.specs.declared.fault.ReplayFault.{ReplayFault}
use Rattle.xk_replay.specs.declared.fault.ReplayFault.TheVariants as fault

-- Where main is given these numbers, entry number i of the log is the first that holds a step which isn't enabled: those before it are legal, and so are this many of its own
-- steps, fewer than it stands for; then its activity can't take another.
pub record IsStoppedAt (m : ModuleValue) (args : List ℤ) (log : List Entry) (i : ℕ) : Type 0 where
  pub entry : Entry
  pub there : slice_get log i ≡ Some entry
  pub done : ℕ
  pub left : done < entry.steps
  pub last : World
  pub leads : Leads m (schedule_of (take i log) ++ replicate done entry.act) last
  pub given : last.arguments ≡ args
  pub blocked : is_enabled m last entry.act ≡ false

-- the log is legal, and behind its last step somebody hasn't ended
pub record IsUnfinished (m : ModuleValue) (args : List ℤ) (log : List Entry) : Type 0 where
  pub last : World
  pub leads : Leads m (schedule_of log) last
  pub given : last.arguments ≡ args
  pub goes_on : all_ended last ≡ false

-- the log is that of a whole run: it is legal, and behind its last step all have ended
pub record IsWhole (m : ModuleValue) (args : List ℤ) (log : List Entry) : Type 0 where
  pub last : World
  pub leads : Leads m (schedule_of log) last
  pub given : last.arguments ≡ args
  pub over : all_ended last ≡ true

-- the log is legal: whether or not all have ended behind its last step
pub record IsLegal (m : ModuleValue) (args : List ℤ) (log : List Entry) : Type 0 where
  pub last : World
  pub leads : Leads m (schedule_of log) last
  pub given : last.arguments ≡ args

-- what a log can be
pub data Verdict : Type 0 where
  Whole : Verdict
  Stopped : ℕ → Verdict
  Unfinished : Verdict

-- what a verdict says of a log: it is that of a whole run, this entry is the first that holds a step which isn't enabled, it stops before the run does
abbrev pub Says : ModuleValue → List ℤ → List Entry → Verdict → Type 0
Says m args log Whole = IsWhole m args log
Says m args log (Stopped i) = IsStoppedAt m args log i
Says m args log Unfinished = IsUnfinished m args log

-- the answer is this fault, or that memory was refused
abbrev pub Fails : {X Y : Type 0} → ReplayFault → Result X (Y × ReplayFault) → Type 0
Fails f (Ok x) = ⊥
Fails f (Err e) = (e.1 ≡ f) ⊎ (e.1 ≡ fault.OutOfMemory)

-- what is told of a log that isn't that of a whole run; of want of memory nothing is said
abbrev pub IsFaultOf : ModuleValue → List ℤ → List Entry → ReplayFault → Type 0
IsFaultOf m args log (fault.NotEnabled i) = IsStoppedAt m args log i
IsFaultOf m args log fault.NotEnded = IsUnfinished m args log
IsFaultOf m args log fault.OutOfMemory = Unit {0}

-- what is told before the end of a log is looked at
abbrev pub IsStop : ModuleValue → List ℤ → List Entry → ReplayFault → Type 0
IsStop m args log (fault.NotEnabled i) = IsStoppedAt m args log i
IsStop m args log fault.NotEnded = ⊥
IsStop m args log fault.OutOfMemory = Unit {0}

-- the list leads from the opening world with these arguments to the core, and prints these numbers
pub record IsSoFar (args : List ℤ) (list : List ℕ) (numbers : List ℤ) (c : CoreValue) : Type 0 where
  pub taken : AreArguments c.module_run args
  pub leads : run c.module_run list (opening c.module_run args) ≡ Through c.world
  pub prints : numbers ≡ printed c.module_run list (opening c.module_run args)

-- this many steps more of activity a lead from one core to another
abbrev pub GoesOn : CoreValue → List ℤ → ℕ → ℕ → CoreValue → List ℤ → Type 0
GoesOn c numbers a n d more = (args : List ℤ) (list : List ℕ) → IsSoFar args list numbers c → IsSoFar args (list ++ replicate n a) more d

-- some steps of the entry were taken, fewer than it stands for, and then its activity can't take another
pub record IsHeld (c : CoreValue) (numbers : List ℤ) (e : Entry) (d : CoreValue) (more : List ℤ) : Type 0 where
  pub done : ℕ
  pub left : done < e.steps
  pub goes : GoesOn c numbers e.act done d more
  pub blocked : is_enabled d.module_run d.world e.act ≡ false

-- what became of an entry: all its steps were taken, or it was held up
abbrev pub IsRepeated : CoreValue → List ℤ → Entry → CoreValue → List ℤ → Bool → Type 0
IsRepeated c numbers e d more true = GoesOn c numbers e.act e.steps d more
IsRepeated c numbers e d more false = IsHeld c numbers e d more

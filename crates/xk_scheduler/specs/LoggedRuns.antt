-- Runs that a chooser drives, and their logs. This project's own.
use Rattle.std.specs.Prelude.{Vec, ◌≡◌, ◌⊎◌, ℕ, ℤ, Bool, All, List, [], ◌∷◌, ◌++◌, Option, Some, None, true, false}
use Rattle.std.specs.Vec.{vec_len, vec_capacity}
use Rattle.xk_types.specs.declared.world.Entry.{Entry}
use Rattle.xk_types.specs.declared.world.Event.{Event}
use Rattle.xk_scheduler.specs.declared.driver.Turn.{Turn}
use Rattle.xk_types.specs.Code.{ModuleValue}
use Rattle.xk_types.specs.World.{World, opening}
use Rattle.xk_types.specs.Step.{Stepped, step}
use Rattle.xk_types.specs.Schedule.{Leads, all_ended, printed}
use Rattle.xk_types.specs.Logs.{schedule_of, one_step_of}
use Rattle.xk_core.specs.Core.{CoreValue, IsAboutToGrow, WantsMemory}
use Rattle.xk_scheduler.specs.Choosers.{enabled_in, Names, Follows, state_after}

-- A chooser in state s, which answers so and then is in such a state, names activity a of those that are enabled; its step leads from c to d,
-- and the chooser is left in state t.
pub record IsTurn {S : Type 0} (answer : S → List ℕ → ℕ) (after : S → List ℕ → S)
    (c : CoreValue) (s : S) (a : ℕ) (e : Event) (d : CoreValue) (t : S) : Type 0 where
  pub chosen : Names answer c.module_run s c.world a
  pub stepped : step c.module_run c.world a ≡ Stepped d.world e
  pub same_module : d.module_run ≡ c.module_run
  pub goes_on : t ≡ after s (enabled_in c.module_run c.world)

-- What became of a turn: it was taken; or all have ended, and nothing changed.
abbrev pub IsTaken : {S : Type 0} → (S → List ℕ → ℕ) → (S → List ℕ → S)
    → CoreValue → S → CoreValue → S → Option Turn → Type 0
IsTaken answer after c s d t None = (all_ended c.world ≡ true) × (d ≡ c) × (t ≡ s)
IsTaken answer after c s d t (Some turn) = IsTurn answer after c s turn.act turn.event d t

-- The step that the chooser names wants memory: its activity is about to start another.
pub record NamesWhoGrows {S : Type 0} (answer : S → List ℕ → ℕ) (c : CoreValue) (s : S) : Type 0 where
  pub act : ℕ
  pub named : Names answer c.module_run s c.world act
  pub grows : IsAboutToGrow c.module_run c.world act

-- A turn that was refused memory for its step: the core is as it was, and the chooser was asked.
pub record IsRefused {S : Type 0} (answer : S → List ℕ → ℕ) (after : S → List ℕ → S)
    (c : CoreValue) (s : S) (d : CoreValue) (t : S) : Type 0 where
  pub same : d ≡ c
  pub goes_on : all_ended c.world ≡ false
  pub asked : t ≡ after s (enabled_in c.module_run c.world)
  pub wants : NamesWhoGrows answer c s

-- a turn that is still to be taken, for want of memory: the core is as it was, and the chooser may have been asked
pub record IsPutOff {S : Type 0} (after : S → List ℕ → S)
    (c : CoreValue) (s : S) (d : CoreValue) (t : S) : Type 0 where
  pub same : d ≡ c
  pub goes_on : all_ended c.world ≡ false
  pub asked : (t ≡ s) ⊎ (t ≡ after s (enabled_in c.module_run c.world))

-- no more goes into it without more memory
abbrev pub IsFull : {X Z : Type 0} → Vec X Z → Type 0
IsFull v = vec_len v ≡ vec_capacity v

-- What a turn may want memory for: its entry of the log, the number that it may print, or the step of whom the chooser names.
abbrev pub IsShort : {S X Y Z : Type 0} → (S → List ℕ → ℕ) → Vec X Z → Vec Y Z → CoreValue → S → Type 0
IsShort answer log numbers c s = IsFull log ⊎ (IsFull numbers ⊎ NamesWhoGrows answer c s)

-- What a step of this activity, with its entry, may want memory for: its entry of the log, the number that it may print, or itself.
abbrev pub IsShortOf : {X Y Z : Type 0} → Vec X Z → Vec Y Z → CoreValue → ℕ → Type 0
IsShortOf log numbers c a = IsFull log ⊎ (IsFull numbers ⊎ WantsMemory c a)

-- the log stands for a legal schedule of the module, which leads to the core, and prints these numbers
pub record IsRunOf (m : ModuleValue) (log : List Entry) (numbers : List ℤ) (c : CoreValue) : Type 0 where
  pub module_is : c.module_run ≡ m
  pub leads : Leads m (schedule_of log) c.world
  pub prints : numbers ≡ printed m (schedule_of log) (opening m c.world.arguments)

-- What a turn does to a run and its log: one entry more where it was taken; nothing where all have ended.
abbrev pub IsNoted : {S : Type 0} → (S → List ℕ → ℕ) → (S → List ℕ → S) → CoreValue → S → List Entry → CoreValue → S → List Entry → Bool → Type 0
IsNoted answer after c s log d t more false = (all_ended c.world ≡ true) × (d ≡ c) × (t ≡ s) × (more ≡ log)
IsNoted answer after c s log d t more true = (a : ℕ) × (e : Event) × IsTurn answer after c s a e d t × (more ≡ log ++ one_step_of a ∷ [])

-- the state of a chooser that was in state s at the beginning, and has chosen each step of the log
abbrev pub state_so_far : {S : Type 0} → (S → List ℕ → S) → S → List Entry → CoreValue → S
state_so_far after s log c = state_after after c.module_run s (opening c.module_run c.world.arguments) (schedule_of log)

-- The log is that of a run from the opening world with these arguments which followed a chooser that was in state s, and is in state t now: each entry is one step.
pub record IsChosen {S : Type 0} (answer : S → List ℕ → ℕ) (after : S → List ℕ → S) (m : ModuleValue) (args : List ℤ) (s : S) (log : List Entry) (t : S) : Type 0 where
  pub follows : Follows answer after m s (opening m args) (schedule_of log)
  pub left : t ≡ state_after after m s (opening m args) (schedule_of log)
  pub single : All (λ e. e.steps ≡ 1) log

-- the same, but that the chooser may have been asked once more, in the world that the log leads to
pub record IsChosenSoFar {S : Type 0} (answer : S → List ℕ → ℕ) (after : S → List ℕ → S) (m : ModuleValue) (args : List ℤ) (s : S) (log : List Entry) (w : World) (t : S) : Type 0 where
  pub follows : Follows answer after m s (opening m args) (schedule_of log)
  pub left : (t ≡ state_after after m s (opening m args) (schedule_of log)) ⊎ (t ≡ after (state_after after m s (opening m args) (schedule_of log)) (enabled_in m w))
  pub single : All (λ e. e.steps ≡ 1) log

-- What a commit does to a log: one entry more, of so many steps of activity a.
abbrev pub IsCommitted : List Entry → ℕ → ℕ → List Entry → Type 0
IsCommitted log a n more = (e : Entry) × (e.act ≡ a) × (e.steps ≡ n) × (more ≡ log ++ e ∷ [])

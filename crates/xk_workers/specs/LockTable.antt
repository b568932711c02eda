-- The machine that workers share, as each sees it who has the lock. This project's own.
use Rattle.std.specs.Prelude.{◌≡◌, ◌<◌, ◌⊎◌, ℕ, Bool, true, false, List, length, Result, Ok, Err, IfOk, IfErr, slice_set}
use Rattle.xk_types.specs.Schedule.{is_enabled, all_ended}
use Rattle.xk_scheduler.specs.LoggedRuns.{IsCommitted, IsChosen, IsChosenSoFar}
use Rattle.xk_scheduler.specs.declared.chooser.First.{First}
use Rattle.xk_scheduler.specs.declared.logged_run.Ended.{Ended}
use Rattle.xk_scheduler.specs.declared.logged_run.Partial.{Partial}
use Rattle.xk_workers.specs.declared.lock_table.Take.{Take}
use Rattle.xk_workers.specs.declared.lock_table.Take.TheVariants as take
use Rattle.xk_activity.specs.Ticket.{TicketValue}
use Rattle.xk_core.specs.Core.{CoreValue, is_next_local}
use Rattle.xk_core.specs.TicketAcceptance.{Accepts}
use Rattle.xk_core.specs.LocalRun.{RunsTo, AreLocal}
use Rattle.xk_workers.specs.declared.lock_table.CommitFault.{CommitFault}
use Rattle.xk_workers.specs.declared.lock_table.CommitFault.TheVariants as fault
use Rattle.xk_workers.specs.Claims.{is_claimed}
use Rattle.xk_workers.specs.Run.{RunValue, in_room, IsLogFull, IsShortOf}

-- a run with its log, who is claimed by number, how many claims there is room for without more memory, and whether the workers were told to stop
pub record SharedValue : Type 0 where
  pub run : RunValue
  pub claims : List Bool
  pub claims_room : ℕ
  pub stopped : Bool

-- activity a can take a step, and nobody has claimed it
pub record IsFree (s : SharedValue) (a : ℕ) : Type 0 where
  pub enabled : is_enabled s.run.core.module_run s.run.core.world a ≡ true
  pub unclaimed : is_claimed s.claims a ≡ false

-- somebody is claimed, and so is everybody who can take a step
pub record AreAllClaimed (s : SharedValue) : Type 0 where
  pub somebody : (a : ℕ) × (is_claimed s.claims a ≡ true)
  pub everybody : (a : ℕ) → is_enabled s.run.core.module_run s.run.core.world a ≡ true → is_claimed s.claims a ≡ true

-- activity a is claimed, too
abbrev pub with_claim : ℕ → SharedValue → SharedValue
with_claim a s = record s { claims = slice_set s.claims a true }

-- activity a isn't claimed
abbrev pub without_claim : ℕ → SharedValue → SharedValue
without_claim a s = record s { claims = slice_set s.claims a false }

-- the workers are told to stop
abbrev pub told_to_stop : SharedValue → SharedValue
told_to_stop s = record s { stopped = true }

-- activity a is given up: it isn't claimed any more, and the workers are told to stop
abbrev pub given_up : ℕ → SharedValue → SharedValue
given_up a s = told_to_stop (without_claim a s)

-- s, with the room that there is in t
abbrev pub in_room_of : SharedValue → SharedValue → SharedValue
in_room_of t s = record s { run = in_room t.run.room s.run; claims_room = t.claims_room }

-- what a step of activity a may want memory for: a claim of whom it starts, or what its run wants it for
abbrev pub IsShort : SharedValue → ℕ → Type 0
IsShort s a = (length s.claims ≡ s.claims_room) ⊎ IsShortOf s.run a

-- each activity below a that can take a step is claimed
abbrev pub AreLesserClaimed : List Bool → CoreValue → ℕ → Type 0
AreLesserClaimed claims c a = (b : ℕ) → b < a → is_enabled c.module_run c.world b ≡ true → is_claimed claims b ≡ true

-- who is told to step is the least that can and isn't claimed
abbrev pub IsLeast : SharedValue → Take → Type 0
IsLeast s (take.Work a) = AreLesserClaimed s.claims s.run.core a
IsLeast s (take.Act a) = AreLesserClaimed s.claims s.run.core a
IsLeast s take.Idle = Unit {0}
IsLeast s take.Done = Unit {0}
IsLeast s take.Stopped = Unit {0}

-- What a worker is told to do, before s and then t: the local steps of an activity, which it has claimed now; one step of an activity; to wait
-- until others have done something; or nothing more, since all have ended, or since the workers were told to stop.
abbrev pub Tells : SharedValue → Take → SharedValue → Type 0
Tells s (take.Work a) t = (s.stopped ≡ false) × IsFree s a × (is_next_local s.run.core a ≡ true) × (t ≡ with_claim a s)
Tells s (take.Act a) t = (s.stopped ≡ false) × IsFree s a × (t ≡ s)
Tells s take.Idle t = (s.stopped ≡ false) × AreAllClaimed s × (t ≡ s)
Tells s take.Done t = (s.stopped ≡ false) × (all_ended s.run.core.world ≡ true) × (t ≡ s)
Tells s take.Stopped t = (s.stopped ≡ true) × (t ≡ s)

-- who is told to take one step under the lock is about to do what others can see
abbrev pub ActsVisibly : SharedValue → Take → Type 0
ActsVisibly s (take.Work a) = Unit {0}
ActsVisibly s (take.Act a) = is_next_local s.run.core a ≡ false
ActsVisibly s take.Idle = Unit {0}
ActsVisibly s take.Done = Unit {0}
ActsVisibly s take.Stopped = Unit {0}

-- ---- what is handed in

-- The ticket's steps were taken, at once: so many steps of its activity, which nobody else can see, and which print nothing. One entry says so,
-- and its activity isn't claimed any more.
pub record HasTaken (s : SharedValue) (t : TicketValue) (next : SharedValue) : Type 0 where
  pub accepted : Accepts s.run.core t
  pub ran : RunsTo s.run.core t.act t.steps next.run.core
  pub local : AreLocal s.run.core t.act t.steps
  pub logged : IsCommitted s.run.log t.act t.steps next.run.log
  pub printed : next.run.printed ≡ s.run.printed
  pub same_module : next.run.core.module_run ≡ s.run.core.module_run
  pub claims : next.claims ≡ slice_set s.claims t.act false
  pub goes_on : next.stopped ≡ s.stopped

-- What became of a ticket, before s and then next: its steps were taken; the core hasn't the ticket's old frames for its activity; or there was
-- no memory for the entry, and the log is full. Where they weren't taken its claim is released, and nothing has changed but that and room.
abbrev pub Commits : SharedValue → TicketValue → Result (Unit {0}) CommitFault → SharedValue → Type 0
Commits s t (Ok done) next = HasTaken s t next
Commits s t (Err fault.Stale) next = (Accepts s.run.core t → ⊥) × (next ≡ without_claim t.act s)
Commits s t (Err fault.OutOfMemory) next = Accepts s.run.core t × IsLogFull next.run × (next ≡ without_claim t.act (in_room_of next s))

-- ---- the answer

-- somebody can still take a step, and the workers weren't told to stop
pub record GoesOn (s : SharedValue) : Type 0 where
  pub stopped : s.stopped ≡ false
  pub open_yet : all_ended s.run.core.world ≡ false

-- this run, which came to its end
abbrev pub IsEndOf : RunValue → Result Ended Partial → Type 0
IsEndOf r (Ok e) = (e.core ≡ r.core) × (e.log.items ≡ r.log)
IsEndOf r (Err p) = ⊥

-- this run, which was cut short
abbrev pub IsCutShort : RunValue → Result Ended Partial → Type 0
IsCutShort r (Ok e) = ⊥
IsCutShort r (Err p) = (p.core ≡ r.core) × (p.log.items ≡ r.log)

-- both run the same module, and main was given the same
pub record AreAlike (c d : CoreValue) : Type 0 where
  pub same_module : c.module_run ≡ d.module_run
  pub same_arguments : c.world.arguments ≡ d.world.arguments

-- The run of this core in which each step is one of the least activity that can take one, to its end or cut short. Who chooses so has no state: it is
-- the same before and behind.
pub record IsRunByFirst (c : CoreValue) (answer : Result Ended Partial) : Type 0 where
  pub before : First
  pub behind : First
  pub ended : IfOk answer (λ e. IsChosen (λ s list. 0) (λ s list. s) c.module_run c.world.arguments before e.log.items behind)
  pub cut_short : IfErr answer (λ p. IsChosenSoFar (λ s list. 0) (λ s list. s) c.module_run c.world.arguments before p.log.items p.core.world behind)

-- Where the workers' run is one of this core's module with its arguments, and has come to its end, it is the answer; so it is where they were told to stop before.
-- Where it is another's, or the workers left off without either, the answer is the core's run by the order `first`.
pub record IsSettled (s : SharedValue) (c : CoreValue) (answer : Result Ended Partial) : Type 0 where
  pub finished : AreAlike s.run.core c → all_ended s.run.core.world ≡ true → IsEndOf s.run answer
  pub cut_short : AreAlike s.run.core c → all_ended s.run.core.world ≡ false → s.stopped ≡ true → IsCutShort s.run answer
  pub else_first : ((AreAlike s.run.core c → ⊥) ⊎ GoesOn s) → IsRunByFirst c answer

-- What comes of a worker's turn under the lock, and of local steps that it hands in. This project's own.
use Rattle.std.specs.Prelude.{◌≡◌, ◌⊎◌, ℕ, true, false, ◌++◌, ◌∷◌, [], Result, Ok, Err}
use Rattle.xk_types.specs.declared.world.Event.{Event}
use Rattle.xk_types.specs.Schedule.{all_ended}
use Rattle.xk_types.specs.Logs.{one_step_of}
use Rattle.xk_activity.specs.Activities.{act_at}
use Rattle.xk_activity.specs.StepAgreement.{frames_in}
use Rattle.xk_activity.specs.Local.{IsSafe, local, is_stepped}
use Rattle.xk_activity.specs.Ticket.{TicketValue}
use Rattle.xk_core.specs.Core.{StepsTo, is_next_local}
use Rattle.xk_core.specs.TicketAcceptance.{Accepts}
use Rattle.xk_workers.specs.declared.workers.Turned.{Turned}
use Rattle.xk_workers.specs.declared.workers.Turned.TheVariants as turned
use Rattle.xk_workers.specs.Claims.{claims_after}
use Rattle.xk_workers.specs.Run.{IsLogFull}
use Rattle.xk_workers.specs.LockTable.{SharedValue, IsFree, AreAllClaimed, IsShort, HasTaken, given_up, told_to_stop, in_room_of, with_claim, without_claim}

-- local steps can be computed from the frames that it took with it, one at least
abbrev pub CanCompute : Turned → Type 0
CanCompute (turned.Works a fs) = IsSafe local fs × (is_stepped (local fs) ≡ true)
CanCompute turned.Acted = Unit {0}
CanCompute turned.Waits = Unit {0}
CanCompute turned.Over = Unit {0}

-- one step of a free activity was taken, with its entry in the log, and whom it started nobody has claimed
pub record HasActed (s t : SharedValue) : Type 0 where
  pub act : ℕ
  pub event : Event
  pub free : IsFree s act
  pub stepped : StepsTo s.run.core act t.run.core event
  pub logged : t.run.log ≡ s.run.log ++ one_step_of act ∷ []
  pub same_module : t.run.core.module_run ≡ s.run.core.module_run
  pub claims : t.claims ≡ claims_after event s.claims
  pub goes_on : t.stopped ≡ s.stopped

-- A step of a free activity, which others can see, was refused memory: something that it may want memory for is full, or it starts another. The
-- workers are told to stop, and nothing else has changed but room.
pub record IsRefusedAStep (s t : SharedValue) : Type 0 where
  pub act : ℕ
  pub free : IsFree s act
  pub seen : is_next_local s.run.core act ≡ false
  pub short : IsShort t act
  pub stopped : t ≡ told_to_stop (in_room_of t s)

-- A copy of the frames of a free activity, whose next step is local, was refused memory: the workers are told to stop.
pub record IsRefusedACopy (s t : SharedValue) : Type 0 where
  pub act : ℕ
  pub free : IsFree s act
  pub local : is_next_local s.run.core act ≡ true
  pub stopped : t ≡ told_to_stop s

-- A worker's turn, before s and then t: it has claimed a free activity whose next step is local, and has its frames; or one step was taken, or
-- memory was refused, and the workers are told to stop; or it waits, since everybody is claimed; or there is nothing more to do. Where it waits
-- or is done nothing has changed.
abbrev pub Turns : SharedValue → Turned → SharedValue → Type 0
Turns s (turned.Works a fs) t = IsFree s a × (is_next_local s.run.core a ≡ true)
    × (fs ≡ frames_in s.run.core.module_run (act_at s.run.core.world.activities a)) × (t ≡ with_claim a s)
Turns s turned.Acted t = HasActed s t ⊎ (IsRefusedAStep s t ⊎ IsRefusedACopy s t)
Turns s turned.Waits t = AreAllClaimed s × (t ≡ s)
Turns s turned.Over t = ((s.stopped ≡ true) ⊎ (all_ended s.run.core.world ≡ true)) × (t ≡ s)

-- What is handed in, before s and then t. Of a ticket its steps were taken; or it was stale, and its claim alone is gone; or it wasn't, but there
-- was no memory for its entry: the log is full, and the activity is given up. Where computing was refused memory it is given up.
abbrev pub HandsIn : {E : Type 0} → SharedValue → ℕ → Result TicketValue E → SharedValue → Type 0
HandsIn s a (Ok ticket) t = HasTaken s ticket t
    ⊎ ((Accepts s.run.core ticket → ⊥) × (t ≡ without_claim ticket.act s))
    ⊎ (Accepts s.run.core ticket × IsLogFull t.run × (t ≡ given_up ticket.act (in_room_of t s)))
HandsIn s a (Err refused) t = t ≡ given_up a s

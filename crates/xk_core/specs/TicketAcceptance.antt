-- Local steps of an activity that were computed apart from a core, and are handed in.
use Rattle.std.specs.Prelude.{◌≡◌, ◌<◌, length}
use Rattle.xk_activity.specs.StepAgreement.{frames_in}
use Rattle.xk_activity.specs.Activities.{act_at}
use Rattle.xk_activity.specs.Ticket.{TicketValue}
use Rattle.xk_core.specs.Core.{CoreValue}

-- the ticket's activity has the ticket's old frames
abbrev pub HasOldFrames : CoreValue → TicketValue → Type 0
HasOldFrames c t = frames_in c.module_run (act_at c.world.activities t.act) ≡ t.old

-- It is there, and has them. Then it runs, and can take the ticket's steps: who waits or has ended has no local step next.
abbrev pub Accepts : CoreValue → TicketValue → Type 0
Accepts c t = (t.act < length c.world.activities) × HasOldFrames c t

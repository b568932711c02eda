-- Local steps of an activity that were computed apart from the others. This project's own.
use Rattle.std.specs.Prelude.{ℕ, ◌≡◌, ◌⊎◌, ◌<◌, ◌≤◌, length}
use Rattle.xk_activity.specs.Local.{FramesValue, Beyond, Stepped, local, ran}
use Rattle.xk_activity.specs.StepAgreement.{frames_in, with_frames}
use Rattle.xk_activity.specs.Activities.{ActivitiesValue, act_at, with_act_at}

-- whose steps they are, which frames it had before them, how many they are, and which frames it has behind them
pub record TicketValue : Type 0 where
  pub act : ℕ
  pub old : FramesValue
  pub steps : ℕ
  pub new : FramesValue

-- so many local steps, at least one, lead from the old frames to the new ones
pub record IsWalked (old : FramesValue) (steps : ℕ) (new : FramesValue) : Type 0 where
  pub some : 0 < steps
  pub ran : ran local old steps ≡ Stepped new

-- It has steps of activity a, which had these frames: max of them, or as many as there are before one that others can see.
pub record IsFor (a : ℕ) (fs : FramesValue) (max : ℕ) (t : TicketValue) : Type 0 where
  pub act : t.act ≡ a
  pub old : t.old ≡ fs
  pub most : t.steps ≤ max
  pub stops : (t.steps ≡ max) ⊎ (local t.new ≡ Beyond)

-- the activity is there, and has the ticket's old frames
abbrev pub Fits : ActivitiesValue → TicketValue → Type 0
Fits v t = (t.act < length v.list) × (frames_in v.module_run (act_at v.list t.act) ≡ t.old)

-- the activity with the ticket's new frames, and all others as they were
abbrev pub handed_in : ActivitiesValue → TicketValue → ActivitiesValue
handed_in v t = with_act_at v t.act (with_frames (act_at v.list t.act) t.new)

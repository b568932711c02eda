-- The activities of a world, but for their finishes, as the code keeps them. This project's own.
use Rattle.std.specs.Prelude.{◌≡◌, ◌⊎◌, ℕ, List, [], map, Some, slice_index_or, slice_set}
use Rattle.xk_types.specs.declared.world.Status.TheVariants as status
use Rattle.xk_types.specs.declared.instr.Instr.{Instr}
use Rattle.xk_types.specs.Code.{ModuleValue}
use Rattle.xk_types.specs.World.{Activity, root, instruction_at}
use Rattle.xk_activity.specs.declared.frames.Next.{Next}
use Rattle.xk_activity.specs.declared.frames.Next.TheVariants as next
use Rattle.xk_activity.specs.Local.{FramesValue, Beyond, Stepped, local, ran}
use Rattle.xk_activity.specs.StepAgreement.{frames_in, with_frames}

-- an activity, and the module that it runs
pub record ActivityValue : Type 0 where
  pub module_run : ModuleValue
  pub act : Activity

-- activities by their numbers, the module that they run, and how many there is room for
pub record ActivitiesValue : Type 0 where
  pub module_run : ModuleValue
  pub list : List Activity
  pub room : ℕ

-- the activities alone
abbrev pub acts : List ActivityValue → List Activity
acts xs = map (λ x. x.act) xs

-- it runs this module
abbrev pub RunsModule : ModuleValue → ActivityValue → Type 0
RunsModule m x = x.module_run ≡ m

-- an activity with these frames, before its first step
abbrev pub fresh : FramesValue → ℕ → Activity
fresh fs since = record {
  frame = fs.frame;
  callers = fs.callers;
  status = status.Running;
  since = since;
  opened = 0;
  governed = root;
}

-- the same, changed
abbrev pub with_act : ActivityValue → Activity → ActivityValue
with_act x act = record x { act = act }

-- what is read where there is no activity
abbrev pub nobody : Activity
nobody = record {
  frame = record { unit = 0; place = 0; slots = [] };
  callers = [];
  status = status.Ended;
  since = 0;
  opened = 0;
  governed = root;
}

-- the activity of this number
abbrev pub act_at : List Activity → ℕ → Activity
act_at xs a = slice_index_or xs a nobody

-- activity a changed
abbrev pub with_act_at : ActivitiesValue → ℕ → Activity → ActivitiesValue
with_act_at v a act = record v { list = slice_set v.list a act }

-- the frame of an activity stands at an instruction
abbrev pub Stands : ModuleValue → Activity → Type 0
Stands m act = (i : Instr) × (instruction_at m act.frame ≡ Some i)

-- what an attempt at a local step leaves of an activity
abbrev pub Takes : ModuleValue → Activity → Next → Activity → Type 0
Takes m act next.Stepped new = (fs : FramesValue) × (local (frames_in m act) ≡ Stepped fs) × (new ≡ with_frames act fs)
Takes m act next.Visible new = (local (frames_in m act) ≡ Beyond) × (new ≡ act)

-- it took so many local steps, at most max, and stopped before only where others can see the next one
pub record Runs (m : ModuleValue) (act : Activity) (max n : ℕ) (new : Activity) : Type 0 where
  pub frames : FramesValue
  pub ran : ran local (frames_in m act) n ≡ Stepped frames
  pub is : new ≡ with_frames act frames
  pub stops : (n ≡ max) ⊎ (local frames ≡ Beyond)

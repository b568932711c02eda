-- What holds of a program that is accepted: of its text, and of the module that the text is compiled to. This project's own.
use Rattle.std.specs.Prelude.{ℕ, List}
use Rattle.xk_types.specs.Code.{ModuleValue}
use Rattle.xk_types.specs.World.{World, opening}
use Rattle.xk_types.specs.Step.{step}
use Rattle.xk_types.specs.Schedule.{Leads, all_ended}
use Rattle.xk_types.specs.Acceptance.{EverySchedule}
use Rattle.xk_tree.specs.Tree.{TreeValue}
use Rattle.xk_source_semantics.specs.Meaning.{HasRun, moments}

-- every run of the module, whatever main is given and whoever makes it; a run is a list of activity numbers, one for each step
pub record EveryRun (tree : TreeValue) (m : ModuleValue) : Type 0 where
  -- none is ever wrong, each has at most the verified numbers of steps, activities, clocks and slots, and where nobody can take a step, every
  -- activity has ended
  pub schedules : EverySchedule m
  -- A run is one of the text with the same arguments: a run of the tree, never wrong, has the same moments (whose step it is, what it does,
  -- and all clocks and shared numbers behind it), and all of its activities have ended just where the module's have.
  pub of_the_text : (list : List ℕ) (w : World) → Leads m list w → HasRun tree w.arguments (moments (step m) list (opening m w.arguments)) (all_ended w)

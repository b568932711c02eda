-- A run in the order `first` is some run.
use Rattle.std.proofs.Common.{ℕ, ℤ, Bool, List, Option, None, Some, false, true}
use Rattle.xk_types.specs.declared.world.Entry.{Entry}
use Rattle.xk_types.specs.Code.{ModuleValue}
use Rattle.xk_scheduler.proofs.UnloggedRunLemmas.{run_weaker}
use Rattle.xk_jobs.specs.Tasks.{By}
use Rattle.xk_jobs.specs.declared.job.Order.TheVariants as order
use Rattle.xk_answers.specs.OrderedRun.{FollowsOrder, IsFinished, IsUncountedBy}

-- with the log or without
pub lone_workers : (n : ℕ) (keeps : Bool) (m : ModuleValue) (args numbers : List ℤ) (steps : ℕ) (rounds : Option ℕ)
    (log : Option (List Entry)) → IsUncountedBy (FollowsOrder order.First m args) keeps m args numbers steps rounds log
    → IsFinished (By n) keeps m args numbers steps rounds log
lone_workers n false m args numbers steps None None r = run_weaker _ _ m args numbers steps (λ list h. tt) r
lone_workers n true m args numbers steps None (Some log) r = run_weaker _ _ m args numbers steps (λ list h. h.stands_for) r
lone_workers n false m args numbers steps None (Some log) r = absurd r
lone_workers n true m args numbers steps None None r = absurd r
lone_workers n keeps m args numbers steps (Some rounds) log r = absurd r

-- Who carries out a run: threads, where it is by workers, or nobody but who asks. This project's own.
use Rattle.std.specs.Prelude.{ℤ, Bool, List, IfOk, Result, option_map}
use Rattle.std.specs.Borrow.{Bor}
use Rattle.std.specs.declared.alloc.AllocError.{AllocError}
use Rattle.xk_types.specs.Code.{ModuleValue}
use Rattle.xk_types.specs.World.{AreArguments}
use Rattle.xk_jobs.specs.Tasks.{way_value}
use Rattle.xk_jobs.specs.declared.job.Drive.{Drive}
use Rattle.xk_answers.specs.declared.runs.Finished.{Finished}
use Rattle.xk_answers.specs.OrderedRun.{IsFinished}

-- this came to its end as the module with these arguments is to be driven, with its log where that is to be kept
abbrev pub IsDriven : Drive → Bool → ModuleValue → List ℤ → Finished → Type 0
IsDriven drive keeps m args run =
    IsFinished (way_value drive) keeps m args run.printed.items run.steps run.rounds (option_map (λ es. es.items) run.log)

-- a closure with this `pre` and `post` may be called with arguments that main takes, and gives a run with these as it is to be driven
abbrev pub IsCrew : (Drive → Bool → Bor ModuleValue → Bor (List ℤ) → Type 0)
    → (Drive → Bool → Bor ModuleValue → Bor (List ℤ) → Result Finished AllocError → Type 0) → Type 0
IsCrew pre post = (drive : Drive) (keeps : Bool) (m : Bor ModuleValue) (args : Bor (List ℤ)) → AreArguments m.now args.now
    → pre drive keeps m args × ((r : Result Finished AllocError) → post drive keeps m args r → IfOk r (IsDriven drive keeps m.now args.now))

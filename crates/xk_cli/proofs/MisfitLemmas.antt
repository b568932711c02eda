-- What was given goes together if no reason is there why it doesn't.
use Rattle.std.proofs.Common.{◌≡◌, List, false}
use Rattle.clap.specs.Words.{Row, Text}
use Rattle.xk_cli.specs.CommandLine.{are_processors_alone, are_rounds_misplaced, are_runs_misplaced, is_both, is_count_misplaced}
use Rattle.xk_cli.specs.CommandLine.{is_json_misplaced, is_list_misplaced, is_misfit, is_page_unclear, is_pick_alone, is_seed_alone}
use Rattle.xk_cli.specs.declared.misfit.Misfit.{Misfit}
use Rattle.xk_cli.specs.declared.misfit.Misfit.TheVariants as misfit

pub no_misfit : (name : Text) (given : List Row) → is_both given ≡ false → is_seed_alone given ≡ false → are_runs_misplaced given ≡ false
    → are_processors_alone given ≡ false → is_list_misplaced given ≡ false → is_pick_alone given ≡ false → is_count_misplaced given ≡ false
    → is_page_unclear name given ≡ false → is_json_misplaced given ≡ false → are_rounds_misplaced given ≡ false
    → (m : Misfit) → is_misfit name given m ≡ false
no_misfit name given both seed runs processors list pick count page json rounds misfit.OrderAndWorkers = both
no_misfit name given both seed runs processors list pick count page json rounds misfit.SeedAlone = seed
no_misfit name given both seed runs processors list pick count page json rounds misfit.MisplacedRuns = runs
no_misfit name given both seed runs processors list pick count page json rounds misfit.ProcessorsAlone = processors
no_misfit name given both seed runs processors list pick count page json rounds misfit.MisplacedList = list
no_misfit name given both seed runs processors list pick count page json rounds misfit.PickAlone = pick
no_misfit name given both seed runs processors list pick count page json rounds misfit.MisplacedCount = count
no_misfit name given both seed runs processors list pick count page json rounds misfit.UnclearPage = page
no_misfit name given both seed runs processors list pick count page json rounds misfit.MisplacedJson = json
no_misfit name given both seed runs processors list pick count page json rounds misfit.MisplacedRounds = rounds

-- The lines that tell which words don't go together. This project's own.
use Rattle.std.specs.Prelude.{ℕ, List, codes}
use Rattle.xk_cli.specs.declared.misfit.Misfit.{Misfit}
use Rattle.xk_cli.specs.declared.misfit.Misfit.TheVariants as misfit

-- the words have an order beside workers
abbrev excluded_line : List ℕ
excluded_line = codes "x10clock: --workers and --order exclude each other\n"

-- they have a seed, and no order by chance
abbrev seed_line : List ℕ
seed_line = codes "x10clock: --seed goes with --order random\n"

-- they have a number of runs, and no order by chance, or a log
abbrev runs_line : List ℕ
runs_line = codes "x10clock: --runs goes with --order random, and not with --log\n"

-- they have a number of processors, and no order by rounds
abbrev processors_line : List ℕ
processors_line = codes "x10clock: --processors goes with --order greedy\n"

-- they have a list, and an outcome to pick, or a log
abbrev list_line : List ℕ
list_line = codes "x10clock: --expect goes without --log and --pick\n"

-- they have an outcome to pick, and no log
abbrev pick_line : List ℕ
pick_line = codes "x10clock: --pick goes with --log\n"

-- they have a count, and a list, an outcome to pick, a log, or `--json`
abbrev count_line : List ℕ
count_line = codes "x10clock: --count goes without --expect, --json, --log and --pick\n"

-- they have a page, and it is unclear of which run
abbrev page_line : List ℕ
page_line = codes "x10clock: page takes either LOG or --outcome; --limit goes with --outcome, and --path with LOG\n"

-- they have `--json` with a run that is told by no value
abbrev json_line : List ℕ
json_line = codes "x10clock: --json goes without --order ask and --runs\n"

-- they have `--rounds` with a picture, a critical path, or a part of the run
abbrev rounds_line : List ℕ
rounds_line = codes "x10clock: --rounds goes without --path, --svg, --from and --to\n"

-- the line that tells it
abbrev pub line_of : Misfit → List ℕ
line_of misfit.OrderAndWorkers = excluded_line
line_of misfit.SeedAlone = seed_line
line_of misfit.MisplacedRuns = runs_line
line_of misfit.ProcessorsAlone = processors_line
line_of misfit.MisplacedList = list_line
line_of misfit.PickAlone = pick_line
line_of misfit.MisplacedCount = count_line
line_of misfit.UnclearPage = page_line
line_of misfit.MisplacedJson = json_line
line_of misfit.MisplacedRounds = rounds_line

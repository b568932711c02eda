-- The program's command line in the terms of `clap`, and what its words ask for. This project's own.
use Rattle.std.specs.Prelude.{ℕ, ℤ, ◌≡◌, ◌≢◌, ◌⊎◌, ⊤, ◌&&◌, ◌||◌, Bool, true, false, not, List, [], ◌∷◌, map, Option, Some, None, is_some, option_and_then, option_map, unwrap_or, codes, if◌then◌else◌}
use Rattle.std.specs.Option.{option_map_or}
use Rattle.std.specs.Borrow.{Bor}
use Rattle.std.specs.Str.{bytes_eq}
use Rattle.std.specs.Str.Parse.{digits_value, without_leading_plus}
use Rattle.clap.specs.Words.{App, IsAmong, Kinds, Row, Rule, Text, all_of, fault_of, first_of, new_app, new_rule, subcommand_of, with_rule, with_subcommand}
use Rattle.clap.specs.declared.builder.arg.Arg.{Arg}
use Rattle.clap.specs.declared.builder.command.Command.{Command as clap_Command}
use Rattle.clap.specs.declared.builder.command.Command.TheViews.{out-Command}
use Rattle.clap.specs.declared.builder.action.ArgAction.TheVariants as action
use Rattle.clap.specs.declared.builder.value_parser.ValueParser.TheVariants as parser
use Rattle.clap.specs.declared.error.kind.ErrorKind.{ErrorKind}
use Rattle.clap.specs.declared.error.kind.ErrorKind.TheVariants as kind
use Rattle.xk_jobs.specs.WorkerCount.{count_within, most_workers, some_processors}
use Rattle.xk_cli.specs.Numbers.{count_named, is_numeral, least_number, most_count, most_number, numbers_named}
use Rattle.xk_jobs.specs.Status.{status_done, status_memory, status_words}
use Rattle.xk_jobs.specs.Tasks.{Asked, By, ByHand, Chart, Check, Compile, Count, Events, Expected, Explain, Greedy, hand_task, In, Json, Lanes, Listing, OutcomePage, Outcomes, Page, Races, Replay, Rounds, Run, Span, Tally, Task, task_value, Way, Where, Why}
use Rattle.xk_jobs.specs.declared.job.Command.{Command}
use Rattle.xk_jobs.specs.declared.job.Form.{Form}
use Rattle.xk_jobs.specs.declared.job.Form.TheVariants as form
use Rattle.xk_jobs.specs.declared.job.Order.{Order}
use Rattle.xk_jobs.specs.declared.job.Order.TheVariants as order
use Rattle.xk_cli.specs.declared.request.Found.{Found}
use Rattle.xk_cli.specs.declared.request.Found.TheVariants as found
use Rattle.xk_cli.specs.declared.misfit.Misfit.{Misfit}
use Rattle.xk_cli.specs.declared.misfit.Misfit.TheVariants as misfit
use Rattle.xk_cli.specs.declared.words_fault.WordsFault.{WordsFault}
use Rattle.xk_cli.specs.declared.words_fault.WordsFault.TheVariants as fault

-- ---- what commands take

-- an argument without a long name, which has to be there
abbrev pub place : Text → Rule
place name = record (new_rule name) { required = true; action = Some action.Set }

-- an option of a long name that takes a value
abbrev pub option : Text → Text → Rule
option name long = record (new_rule name) { long = Some long; action = Some action.Set }

-- an option of a long name that takes a whole number of 64 bits but 0
abbrev pub count_option : Text → Text → Rule
count_option name long = record (option name long) { parser = Some (parser.Unsigned 1 most_count) }

-- a flag of a name, which is its long name too
abbrev pub flag : Text → Rule
flag name = record (new_rule name) { long = Some name; action = Some action.SetTrue }

-- `--module`
abbrev pub module_flag : Rule
module_flag = flag (codes "module")

-- `--json`
abbrev pub json_flag : Rule
json_flag = flag (codes "json")

-- LOG, which has to be there
abbrev pub log_place : Rule
log_place = place (codes "LOG")

-- STEP, which has to be there: a whole number of 64 bits but 0
abbrev pub step_place : Rule
step_place = record (place (codes "STEP")) { parser = Some (parser.Unsigned 1 most_count) }

-- LOG, which needn't be there
abbrev pub log_choice : Rule
log_choice = record (new_rule (codes "LOG")) { action = Some action.Set }

-- `--arg N`, once for each number, which is one of 64 bits
abbrev pub arg_option : Rule
arg_option = record (new_rule (codes "ARG")) {
  long = Some (codes "arg");
  action = Some action.Append;
  value_names = 1;
  parser = Some (parser.Signed least_number most_number);
}

-- `--log PATH`
abbrev pub log_option : Rule
log_option = option (codes "PATH") (codes "log")

-- texts that stand somewhere in memory
abbrev pub Names : Type 0
Names = Bor (List (Bor Text))

-- `--order ORDER`, which takes one of these names
abbrev pub order_option : Names → Rule
order_option names = record (option (codes "ORDER") (codes "order")) { parser = Some (parser.Names names) }

-- `--seed SEED`, which takes a whole number of 64 bits
abbrev pub seed_option : Rule
seed_option = record (option (codes "SEED") (codes "seed")) { parser = Some (parser.Unsigned 0 most_count) }

-- `--workers N`, which takes a whole number from 1 to 64
abbrev pub workers_option : Rule
workers_option = record (option (codes "N") (codes "workers")) { parser = Some (parser.Unsigned 1 most_workers) }

-- `--limit LIMIT`
abbrev pub limit_option : Rule
limit_option = count_option (codes "LIMIT") (codes "limit")

-- `--outcome K`
abbrev pub outcome_option : Rule
outcome_option = record (count_option (codes "OUTCOME") (codes "outcome")) { value_names = 1 }

-- `--from STEP`
abbrev pub from_option : Rule
from_option = record (count_option (codes "FROM") (codes "from")) { value_names = 1 }

-- `--to STEP`
abbrev pub to_option : Rule
to_option = record (count_option (codes "TO") (codes "to")) { value_names = 1 }

-- `--at STEP`
abbrev pub at_option : Rule
at_option = record (option (codes "AT") (codes "at")) { value_names = 1; parser = Some (parser.Unsigned 0 most_count) }

-- ---- the commands

-- a command that takes these too, in their order
abbrev pub with_rules : App → List Rule → App
with_rules a [] = a
with_rules a (r ∷ rs) = with_rules (with_rule a r) rs

-- a command on FILE, which has to be there, that takes these too
abbrev pub on_file : Text → List Rule → App
on_file name further = with_rules (new_app name) (place (codes "FILE") ∷ further)

-- says whether a program is accepted, maybe as a JSON value
abbrev pub check_line : App
check_line = on_file (codes "check") (module_flag ∷ json_flag ∷ [])

-- explains, maybe as a JSON value
abbrev pub explain_line : App
explain_line = on_file (codes "explain") (module_flag ∷ json_flag ∷ [])

-- compiles a source text
abbrev pub compile_line : App
compile_line = on_file (codes "compile") []

-- lists instructions
abbrev pub listing_line : App
listing_line = on_file (codes "listing") (module_flag ∷ [])

-- runs in an order, maybe by chance from a seed and so many times, or by rounds on so many processors, or by workers
abbrev pub run_line : Names → App
run_line names = on_file (codes "run")
    (module_flag ∷ order_option names ∷ seed_option ∷ count_option (codes "RUNS") (codes "runs") ∷ count_option (codes "P") (codes "processors")
    ∷ workers_option ∷ log_option ∷ arg_option ∷ json_flag ∷ [])

-- prints outcomes, so many at most, of which one may be picked, or counts them, or holds them against a list
abbrev pub outcomes_line : App
outcomes_line = on_file (codes "outcomes")
    (module_flag ∷ limit_option ∷ count_option (codes "K") (codes "pick") ∷ log_option ∷ flag (codes "sets") ∷ flag (codes "count")
    ∷ option (codes "FILE2") (codes "expect") ∷ arg_option ∷ json_flag ∷ [])

-- prints races, maybe of the run that a log has, maybe as a JSON value
abbrev pub races_line : App
races_line = on_file (codes "races") (module_flag ∷ log_choice ∷ arg_option ∷ json_flag ∷ [])

-- a command of this name on the run that a log has
abbrev pub on_run : Text → App
on_run name = on_file name (module_flag ∷ log_place ∷ arg_option ∷ [])

-- prints what others see of steps, maybe as JSON values
abbrev pub events_line : App
events_line = on_file (codes "events") (module_flag ∷ log_place ∷ arg_option ∷ json_flag ∷ [])

-- draws lanes, maybe from a step on and up to one, maybe as a picture, maybe with a critical path; or by rounds
abbrev pub lanes_line : App
lanes_line = on_file (codes "lanes")
    (module_flag ∷ log_place ∷ arg_option ∷ from_option ∷ to_option ∷ flag (codes "svg") ∷ flag (codes "path") ∷ flag (codes "rounds") ∷ [])

-- makes a page of the run that a log has, maybe with a critical path, or of an outcome, of which so many are looked for, maybe from a step on
-- and up to one
abbrev pub page_line : App
page_line = on_file (codes "page")
    (module_flag ∷ log_choice ∷ outcome_option ∷ limit_option ∷ arg_option ∷ from_option ∷ to_option ∷ flag (codes "path") ∷ [])

-- tells how things stand, maybe after a step, maybe as a JSON value
abbrev pub where_line : App
where_line = on_file (codes "where") (module_flag ∷ log_place ∷ arg_option ∷ at_option ∷ json_flag ∷ [])

-- tells how long a run had to take, maybe as a JSON value
abbrev pub span_line : App
span_line = on_file (codes "span") (module_flag ∷ log_place ∷ arg_option ∷ json_flag ∷ [])

-- tells what a step rests on
abbrev pub why_line : App
why_line = on_file (codes "why") (module_flag ∷ log_place ∷ step_place ∷ arg_option ∷ [])

-- the program with a command that has to be there, and a version that it tells, in short and at length
abbrev pub program : App
program = record (new_app (codes "x10clock")) {
  top = record (new_app (codes "x10clock")).top { has_version = true; has_long_version = true; subcommand_required = true };
}

-- a program with these commands too, in their order
abbrev pub with_commands : App → List App → App
with_commands a [] = a
with_commands a (c ∷ cs) = with_commands (with_subcommand a c.top) cs

-- the program with its commands
abbrev pub command_line : Names → App
command_line names = with_commands program
    (check_line ∷ explain_line ∷ compile_line ∷ listing_line ∷ run_line names ∷ outcomes_line ∷ races_line
    ∷ on_run (codes "replay") ∷ on_run (codes "chart") ∷ events_line ∷ lanes_line ∷ page_line ∷ where_line
    ∷ span_line ∷ why_line ∷ [])

-- none of the arguments is one of subcommands too
abbrev pub AreLocal : List Arg → Type 0
AreLocal [] = ⊤
AreLocal (a ∷ more) = (a.global ≡ false) × AreLocal more

-- no argument of the command is one of its subcommands too
abbrev pub HasNoGlobals : clap_Command → Type 0
HasNoGlobals c = (out-Command c).has_globals ≡ false

-- the words without where they lie in memory
abbrev pub texts : List (Bor Text) → List Text
texts words = map (λ w. w.now) words

-- the names of the orders
abbrev pub AreOrders : Names → Type 0
AreOrders names =
    texts names.now ≡ codes "first" ∷ codes "last" ∷ codes "round" ∷ codes "random" ∷ codes "greedy" ∷ codes "ask" ∷ []

-- This holds of the names of the orders. `clap` is told of a list of names by where it lies in memory; nothing that is said here looks at
-- that.
abbrev pub WithOrders : (Names → Type 0) → Type 0
WithOrders P = (names : Names) × AreOrders names × P names

-- the kinds of mistake, or requests for help, that `clap` finds in the words
unfoldable pub faults_in : Names → List Text → Kinds
faults_in names words = fault_of (command_line names) words

-- ---- what the words ask for

-- one of both
abbrev pub found_task : Found → Task
found_task (found.Command c) = task_value c
found_task (found.ByHand log) = hand_task log

-- whether the flag of a name was given: its value is `true` then
abbrev pub is_flagged : Text → List Row → Bool
is_flagged name given = option_map_or (λ value. bytes_eq value (codes "true")) (first_of name given) false

-- `--json` was given
abbrev pub is_json : List Row → Bool
is_json given = is_flagged (codes "json") given

-- a task, told as JSON or not
abbrev pub told_as : Bool → Task → Task
told_as json t = if json then Json t else t

-- what stands in FILE
abbrev pub form_in : List Row → Form
form_in given = if is_flagged (codes "module") given then form.Module else form.Source

-- the whole number that was given under a name
abbrev pub count_in : Text → List Row → Option ℕ
count_in name given = option_and_then count_named (first_of name given)

-- the seed that was given, or else 0
abbrev pub seed_in : List Row → ℕ
seed_in given = unwrap_or (count_in (codes "SEED") given) 0

-- the order of a name, where by chance from this seed; one that is asked for has none, nor has one by rounds
abbrev pub order_named : Text → ℕ → Option Order
order_named name seed =
    if bytes_eq name (codes "first") then Some order.First
    else (if bytes_eq name (codes "last") then Some order.Last
    else (if bytes_eq name (codes "round") then Some order.Round else (if bytes_eq name (codes "random") then Some (order.Random seed) else None)))

-- the order that was given
abbrev pub order_in : List Row → Option Order
order_in given = option_and_then (λ name. order_named name (seed_in given)) (first_of (codes "ORDER") given)

-- whether the order of a name was given
abbrev pub is_order : Text → List Row → Bool
is_order name given = option_map_or (λ order. bytes_eq order name) (first_of (codes "ORDER") given) false

-- whether the order was given that goes by chance
abbrev pub is_random : List Row → Bool
is_random given = is_order (codes "random") given

-- whether the order was given that a person is asked for
abbrev pub is_asked : List Row → Bool
is_asked given = is_order (codes "ask") given

-- whether the order was given that goes by rounds
abbrev pub is_greedy : List Row → Bool
is_greedy given = is_order (codes "greedy") given

-- a seed was given, and no order by chance
abbrev pub is_seed_alone : List Row → Bool
is_seed_alone given = is_some (first_of (codes "SEED") given) && not (is_random given)

-- a number of runs was given, and no order by chance or a log's path
abbrev pub are_runs_misplaced : List Row → Bool
are_runs_misplaced given = is_some (first_of (codes "RUNS") given) && (not (is_random given) || is_some (first_of (codes "PATH") given))

-- a number of processors was given, and no order by rounds
abbrev pub are_processors_alone : List Row → Bool
are_processors_alone given = is_some (first_of (codes "P") given) && not (is_greedy given)

-- the processors that were given
abbrev pub processors_in : List Row → Option ℕ
processors_in given = option_and_then some_processors (count_in (codes "P") given)

-- so many workers as a numeral says, before which a plus may stand
abbrev pub workers_named : Text → Option ℕ
workers_named text = let ds = without_leading_plus text in if is_numeral ds then count_within (digits_value 10 ds) else None

-- the workers that were given
abbrev pub workers_in : List Row → Option ℕ
workers_in given = option_and_then workers_named (first_of (codes "N") given)

-- the numbers that were given, one for each `--arg`, in their order
abbrev pub arguments_in : List Row → Option (List ℤ)
arguments_in given = option_map_or numbers_named (all_of (codes "ARG") given) (Some [])

-- both an order and workers were given
abbrev pub is_both : List Row → Bool
is_both given = is_some (first_of (codes "ORDER") given) && is_some (first_of (codes "N") given)

-- the way of an order, or else that of workers
abbrev pub way_of : Option Order → Option ℕ → Option Way
way_of (Some o) n = Some (In o)
way_of None n = option_map By n

-- who takes the steps, where that was given
abbrev pub drive_in : List Row → Option Way
drive_in given = if is_greedy given then Some (Greedy (processors_in given)) else way_of (order_in given) (workers_in given)

-- `--json` was given, and an order that a person is asked for, or a number of runs
abbrev pub is_json_misplaced : List Row → Bool
is_json_misplaced given = is_json given && (is_asked given || is_some (first_of (codes "RUNS") given))

-- so many runs from this seed on, or else this one
abbrev pub runs_of : Option ℕ → ℕ → Task → Task
runs_of (Some runs) seed one = Tally seed runs
runs_of None seed one = one

-- one run with what was given to it
abbrev pub one_run : List Row → Task
one_run given = told_as (is_json given) (Run (drive_in given) (first_of (codes "PATH") given))

-- `run` with what was given to it, where no person is asked for the order
abbrev pub run_in : List Row → Task
run_in given = runs_of (count_in (codes "RUNS") given) (seed_in given) (one_run given)

-- `run` with what was given to it
abbrev pub run_asked : List Row → Task
run_asked given = if is_asked given then ByHand (first_of (codes "PATH") given) else run_in given

-- An order and workers exclude each other, a seed is for an order by chance, and so is a number of runs, which have no log; processors
-- are for an order by rounds; and what is told as JSON is one run that nobody is asked for.
abbrev pub run_by : List Row → Option Task
run_by given =
    if is_both given || is_seed_alone given || are_runs_misplaced given || are_processors_alone given || is_json_misplaced given then None
    else Some (run_asked given)

-- a list was given, and an outcome to pick or a log's path
abbrev pub is_list_misplaced : List Row → Bool
is_list_misplaced given = is_some (first_of (codes "FILE2") given) && (is_some (first_of (codes "K") given) || is_some (first_of (codes "PATH") given))

-- outcomes that are told, maybe with a log
abbrev pub listed_of : List Row → Task
listed_of given = told_as (is_json given)
    (Outcomes (count_in (codes "LIMIT") given) (count_in (codes "K") given) (first_of (codes "PATH") given) (is_flagged (codes "sets") given))

-- outcomes that are counted
abbrev pub counted_of : List Row → Task
counted_of given = Count (count_in (codes "LIMIT") given) (is_flagged (codes "sets") given)

-- outcomes that are held against this list, or else counted or told
abbrev pub outcomes_of : Option Text → List Row → Task
outcomes_of (Some list) given = told_as (is_json given) (Expected list (count_in (codes "LIMIT") given) (is_flagged (codes "sets") given))
outcomes_of None given = if is_flagged (codes "count") given then counted_of given else listed_of given

-- `outcomes` with what was given to it
abbrev pub outcomes_in : List Row → Task
outcomes_in given = outcomes_of (first_of (codes "FILE2") given) given

-- an outcome to pick was given, and no log's path
abbrev pub is_pick_alone : List Row → Bool
is_pick_alone given = is_some (first_of (codes "K") given) && not (is_some (first_of (codes "PATH") given))

-- a count was asked for, and a list, an outcome to pick or a log's path was given, or it is to be told as JSON
abbrev pub is_count_misplaced : List Row → Bool
is_count_misplaced given =
    is_flagged (codes "count") given
    && (is_some (first_of (codes "FILE2") given) || (is_some (first_of (codes "K") given) || (is_some (first_of (codes "PATH") given) || is_json given)))

-- What is held against a list has no log, an outcome is picked for one, and a count has none of these.
abbrev pub outcomes_by : List Row → Option Task
outcomes_by given =
    if is_list_misplaced given || is_pick_alone given || is_count_misplaced given then None else Some (outcomes_in given)

-- `lanes` on a log, with what else was given to it
abbrev pub lanes_on : Text → List Row → Task
lanes_on log given =
    Lanes log (count_in (codes "FROM") given) (count_in (codes "TO") given) (is_flagged (codes "svg") given) (is_flagged (codes "path") given)

-- `--rounds` was given, and a picture, a critical path, or a part of the run
abbrev pub are_rounds_misplaced : List Row → Bool
are_rounds_misplaced given =
    is_flagged (codes "rounds") given
    && (is_flagged (codes "svg") given || is_flagged (codes "path") given
    || is_some (first_of (codes "FROM") given) || is_some (first_of (codes "TO") given))

-- Lanes by rounds are of all steps, and drawn in no other way.
abbrev pub lanes_by : Text → List Row → Option Task
lanes_by log given =
    if are_rounds_misplaced given then None else Some (if is_flagged (codes "rounds") given then Rounds log else lanes_on log given)

-- `page` on a log, with what else was given to it
abbrev pub page_on : Text → List Row → Task
page_on log given = Page log (count_in (codes "FROM") given) (count_in (codes "TO") given) (is_flagged (codes "path") given)

-- a log was given, and an outcome or a limit; or no log, and no outcome or a critical path
abbrev pub is_run_unclear : List Row → Bool
is_run_unclear given =
    let outcome = is_some (first_of (codes "OUTCOME") given) in
    if is_some (first_of (codes "LOG") given) then outcome || is_some (first_of (codes "LIMIT") given)
    else not outcome || is_flagged (codes "path") given

-- the command of this name is `page`, and it is unclear of which run
abbrev pub is_page_unclear : Text → List Row → Bool
is_page_unclear name given = bytes_eq name (codes "page") && is_run_unclear given

-- `page` of an outcome, with what else was given to it
abbrev pub outcome_page_of : List Row → Option Task
outcome_page_of given =
    option_map (λ pick. OutcomePage pick (count_in (codes "LIMIT") given) (count_in (codes "FROM") given) (count_in (codes "TO") given))
    (count_in (codes "OUTCOME") given)

-- a page of the run that this log has, or else of an outcome
abbrev pub page_of : Option Text → List Row → Option Task
page_of (Some log) given = Some (page_on log given)
page_of None given = outcome_page_of given

-- A page is that of the run which a log has, or that of an outcome; a limit is for outcomes, and a critical path for logs.
abbrev pub page_by : List Row → Option Task
page_by given = if is_run_unclear given then None else page_of (first_of (codes "LOG") given) given

-- `where` on a log, with what else was given to it
abbrev pub where_on : Text → List Row → Task
where_on log given = told_as (is_json given) (Where log (count_in (codes "AT") given))

-- `why` on a log, with the step that was given to it
abbrev pub why_on : Text → List Row → Option Task
why_on log given = option_map (λ step. Why log step) (count_in (codes "STEP") given)

-- the command of a name on a log, with what else was given to it
abbrev pub command_on : Text → Text → List Row → Option Task
command_on name log given =
    if bytes_eq name (codes "replay") then Some (Replay log)
    else (if bytes_eq name (codes "chart") then Some (Chart log)
    else (if bytes_eq name (codes "events") then Some (told_as (is_json given) (Events log))
    else (if bytes_eq name (codes "lanes") then lanes_by log given
    else (if bytes_eq name (codes "where") then Some (where_on log given)
    else (if bytes_eq name (codes "span") then Some (told_as (is_json given) (Span log))
    else (if bytes_eq name (codes "why") then why_on log given else None))))))

-- `races` with what was given to it
abbrev pub races_in : List Row → Task
races_in given = told_as (is_json given) (Races (first_of (codes "LOG") given))

-- the command of a name that wants a log
abbrev pub command_by_log : Text → List Row → Option Task
command_by_log name given = option_and_then (λ log. command_on name log given) (first_of (codes "LOG") given)

-- `check`: as a JSON value it is what `explain` tells
abbrev pub check_in : List Row → Task
check_in given = if is_json given then Explain true else Check

-- the command of a name other than `run`, with what else was given to it
abbrev pub command_by : Text → List Row → Option Task
command_by name given =
    if bytes_eq name (codes "check") then Some (check_in given)
    else (if bytes_eq name (codes "compile") then Some Compile
    else (if bytes_eq name (codes "explain") then Some (Explain (is_json given))
    else (if bytes_eq name (codes "listing") then Some Listing
    else (if bytes_eq name (codes "outcomes") then outcomes_by given
    else (if bytes_eq name (codes "page") then page_by given
    else (if bytes_eq name (codes "races") then Some (races_in given) else command_by_log name given))))))

-- what the command of a name does, with what else was given to it
abbrev pub task_by : Text → List Row → Option Task
task_by name given = if bytes_eq name (codes "run") then run_by given else command_by name given

-- this command on this file, with what else was given to it
abbrev pub asked_of : Task → Text → List Row → Option Asked
asked_of t file given = option_map (λ args. record { task = t; form = form_in given; file = file; arguments = args }) (arguments_in given)

-- the job of a command's name and what was given with it
abbrev pub asked_by : Text → List Row → Option Asked
asked_by name given = option_and_then (λ t. option_and_then (λ file. asked_of t file given) (first_of (codes "FILE") given)) (task_by name given)

abbrev pub asked_in : Option (Text × List Row) → Option Asked
asked_in found = option_and_then (λ p. asked_by p.0 p.1) found

-- the job that the words ask for, as `clap` takes them apart
unfoldable pub job_of : Names → List Text → Option Asked
job_of names words = asked_in (subcommand_of (command_line names) words)

-- why what was given to the command of a name doesn't go together
abbrev pub is_misfit : Text → List Row → Misfit → Bool
is_misfit name given misfit.OrderAndWorkers = is_both given
is_misfit name given misfit.SeedAlone = is_seed_alone given
is_misfit name given misfit.MisplacedRuns = are_runs_misplaced given
is_misfit name given misfit.ProcessorsAlone = are_processors_alone given
is_misfit name given misfit.MisplacedList = is_list_misplaced given
is_misfit name given misfit.PickAlone = is_pick_alone given
is_misfit name given misfit.MisplacedCount = is_count_misplaced given
is_misfit name given misfit.UnclearPage = is_page_unclear name given
is_misfit name given misfit.MisplacedJson = is_json_misplaced given
is_misfit name given misfit.MisplacedRounds = are_rounds_misplaced given

-- the same of the command that was found
abbrev pub misfits_by : Option (Text × List Row) → Misfit → Bool
misfits_by found m = option_map_or (λ p. is_misfit p.0 p.1 m) found false

-- the words don't go together so, as `clap` takes them apart
unfoldable pub misfits_in : Names → List Text → Misfit → Bool
misfits_in names words m = misfits_by (subcommand_of (command_line names) words) m

-- ---- why words are refused

-- the fault fits the kind of `clap`'s error
abbrev pub FitsKind : ErrorKind → WordsFault → Type 0
FitsKind k (fault.Help text) = (k ≡ kind.DisplayHelp) ⊎ (k ≡ kind.DisplayVersion)
FitsKind k (fault.NotUnderstood text) = (k ≢ kind.DisplayHelp) × (k ≢ kind.DisplayVersion) × (k ≢ kind.OutOfMemory)
FitsKind k (fault.Misfit m) = ⊥
FitsKind k fault.OutOfMemory = ⊤

-- a mistake is among the kinds: one that is no request for help or for the version
abbrev pub HasMistake : Kinds → Type 0
HasMistake kinds = (k : ErrorKind) × IsAmong k kinds × (k ≢ kind.DisplayHelp) × (k ≢ kind.DisplayVersion)

-- Help is told only where it was asked for. Words are called not understood only where `clap` finds a mistake in them, or where it
-- finds nothing wrong and no job, and they go together. They are called not to go together only where they don't, for that reason, and
-- nothing is wrong else.
abbrev pub IsRefused : Kinds → Option Asked → (Misfit → Bool) → WordsFault → Type 0
IsRefused kinds asked misfits (fault.Help text) = IsAmong kind.DisplayHelp kinds ⊎ IsAmong kind.DisplayVersion kinds
IsRefused kinds asked misfits (fault.NotUnderstood text) =
    HasMistake kinds ⊎ ((kinds ≡ []) × (asked ≡ None) × ((m : Misfit) → misfits m ≡ false))
IsRefused kinds asked misfits (fault.Misfit m) = (kinds ≡ []) × (misfits m ≡ true)
IsRefused kinds asked misfits fault.OutOfMemory = ⊤

-- the status that the program ends with
abbrev pub status_of : WordsFault → ℕ
status_of (fault.Help text) = status_done
status_of (fault.NotUnderstood text) = status_words
status_of (fault.Misfit m) = status_words
status_of fault.OutOfMemory = status_memory

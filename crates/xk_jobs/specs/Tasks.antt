-- What the program is asked to do, without where its texts lie in memory. This project's own.
use Rattle.std.specs.Prelude.{ℕ, ℤ, Bool, List, Option, option_map}
use Rattle.std.specs.Borrow.{Bor}
use Rattle.xk_jobs.specs.declared.job.Command.{Command}
use Rattle.xk_jobs.specs.declared.job.Command.TheVariants as command
use Rattle.xk_jobs.specs.declared.job.Drive.{Drive}
use Rattle.xk_jobs.specs.declared.job.Drive.TheVariants as drive
use Rattle.xk_jobs.specs.declared.job.Form.{Form}
use Rattle.xk_jobs.specs.declared.job.Order.{Order}
use Rattle.xk_jobs.specs.declared.job.Request.{Request}
use Rattle.xk_jobs.specs.declared.job.Request.TheVariants as request
use Rattle.xk_jobs.specs.declared.job.Values.{Values}
use Rattle.xk_jobs.specs.declared.job.Values.TheVariants as values

-- who takes the steps of a run: whom an order names; by rounds whoever can, or so many of these; or so many workers
pub data Way : Type 0 where
  In : Order → Way
  Greedy : Option ℕ → Way
  By : ℕ → Way

abbrev pub way_value : Drive → Way
way_value (drive.Order o) = In o
way_value (drive.Greedy processors) = Greedy (option_map (λ p. p.count) processors)
way_value (drive.Workers w) = By w.count

-- A command without where its texts lie in memory. What is explained may be a JSON value. A run has who takes its steps, and the log's
-- path, where they were given; one by hand, whose order a person is asked for, has the log's path; a tally has the first seed, and how
-- many runs there are. Lanes have the log's path, the first step and the last, where they were given, and may be a picture and have a
-- critical path; a page has the same steps, and may have a path, too. That of an outcome has its number, how many there are at most, and
-- the same steps. How things stand is told by the log's path, and after a step, where that was given; what a step rests on has both;
-- races have the log's path, where it was given; the others on a log have its path. Outcomes have how many there are at most, which is
-- picked, and the path of its log; numbers of them may have no order. Where they are counted they have how many there are at most, and
-- whether numbers of them have no order. Where they are held against a list they have its path, how many there are at most, and whether
-- numbers of them have no order. Some of these may be told as JSON.
pub data Task : Type 0 where
  Check : Task
  Compile : Task
  Explain : Bool → Task
  Listing : Task
  Run : Option Way → Option (List ℕ) → Task
  ByHand : Option (List ℕ) → Task
  Tally : ℕ → ℕ → Task
  Replay : List ℕ → Task
  Chart : List ℕ → Task
  Events : List ℕ → Task
  Lanes : List ℕ → Option ℕ → Option ℕ → Bool → Bool → Task
  Rounds : List ℕ → Task
  Page : List ℕ → Option ℕ → Option ℕ → Bool → Task
  OutcomePage : ℕ → Option ℕ → Option ℕ → Option ℕ → Task
  Where : List ℕ → Option ℕ → Task
  Span : List ℕ → Task
  Why : List ℕ → ℕ → Task
  Races : Option (List ℕ) → Task
  Outcomes : Option ℕ → Option ℕ → Option (List ℕ) → Bool → Task
  Count : Option ℕ → Bool → Task
  Expected : List ℕ → Option ℕ → Bool → Task
  Json : Task → Task

-- what is told as JSON, without where its texts lie in memory
abbrev pub told_value : Values → Task
told_value (values.Run given log) = Run (option_map way_value given) (option_map (λ s. s.now) log)
told_value (values.Events log) = Events log.now
told_value (values.Races log) = Races (option_map (λ s. s.now) log)
told_value (values.Where log at) = Where log.now at
told_value (values.Span log) = Span log.now
told_value (values.Outcomes limit pick log sets) = Outcomes limit pick (option_map (λ s. s.now) log) sets
told_value (values.Expected list limit sets) = Expected list.now limit sets

abbrev pub task_value : Command → Task
task_value command.Check = Check
task_value command.Compile = Compile
task_value (command.Explain json) = Explain json
task_value command.Listing = Listing
task_value (command.Run given log) = Run (option_map way_value given) (option_map (λ s. s.now) log)
task_value (command.Tally seed runs) = Tally seed runs
task_value (command.Replay log) = Replay log.now
task_value (command.Chart log) = Chart log.now
task_value (command.Events log) = Events log.now
task_value (command.Lanes log from to svg path) = Lanes log.now from to svg path
task_value (command.Rounds log) = Rounds log.now
task_value (command.Page log from to path) = Page log.now from to path
task_value (command.OutcomePage pick limit from to) = OutcomePage pick limit from to
task_value (command.Where log at) = Where log.now at
task_value (command.Span log) = Span log.now
task_value (command.Why log step) = Why log.now step
task_value (command.Races log) = Races (option_map (λ s. s.now) log)
task_value (command.Outcomes limit pick log sets) = Outcomes limit pick (option_map (λ s. s.now) log) sets
task_value (command.Count limit sets) = Count limit sets
task_value (command.Expected list limit sets) = Expected list.now limit sets
task_value (command.Json v) = Json (told_value v)

-- a run by hand, without where the path of its log lies
abbrev pub hand_task : Option (Bor (List ℕ)) → Task
hand_task log = ByHand (option_map (λ s. s.now) log)

-- what is asked for, without where its texts and numbers lie in memory
pub record Asked : Type 0 where
  pub task : Task
  pub form : Form
  pub file : List ℕ
  pub arguments : List ℤ

abbrev pub asked_value : Request → Asked
asked_value (request.Job job) = record { task = task_value job.command; form = job.form; file = job.file.now; arguments = job.arguments.items }
asked_value (request.ByHand run) = record { task = hand_task run.log; form = run.form; file = run.file.now; arguments = run.arguments.items }

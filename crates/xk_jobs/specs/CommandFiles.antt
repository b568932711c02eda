-- Which files a command has beside FILE. This project's own.
use Rattle.std.specs.Prelude.{List, ℕ, Option, Some, None, option_map}
use Rattle.xk_jobs.specs.declared.job.Command.{Command}
use Rattle.xk_jobs.specs.declared.job.Command.TheVariants as command
use Rattle.xk_jobs.specs.declared.job.Values.{Values}
use Rattle.xk_jobs.specs.declared.job.Values.TheVariants as values

-- the same of what is told as JSON: what is read
abbrev pub values_read : Values → Option (List ℕ)
values_read (values.Events log) = Some log.now
values_read (values.Races log) = option_map (λ path. path.now) log
values_read (values.Where log at) = Some log.now
values_read (values.Span log) = Some log.now
values_read (values.Expected list limit sets) = Some list.now
values_read _ = None

-- and what is written
abbrev pub values_written : Values → Option (List ℕ)
values_written (values.Run given log) = option_map (λ path. path.now) log
values_written (values.Outcomes limit pick log sets) = option_map (λ path. path.now) log
values_written _ = None

-- the path of the log or the list of outcomes that is read, if one is
abbrev pub read_path : Command → Option (List ℕ)
read_path (command.Replay log) = Some log.now
read_path (command.Chart log) = Some log.now
read_path (command.Events log) = Some log.now
read_path (command.Lanes log from to svg path) = Some log.now
read_path (command.Rounds log) = Some log.now
read_path (command.Page log from to path) = Some log.now
read_path (command.Where log at) = Some log.now
read_path (command.Span log) = Some log.now
read_path (command.Why log step) = Some log.now
read_path (command.Races log) = option_map (λ path. path.now) log
read_path (command.Expected list limit sets) = Some list.now
read_path (command.Json v) = values_read v
read_path _ = None

-- the path of the log that is written, if one is
abbrev pub written_path : Command → Option (List ℕ)
written_path (command.Run given log) = option_map (λ path. path.now) log
written_path (command.Outcomes limit pick log sets) = option_map (λ path. path.now) log
written_path (command.Json v) = values_written v
written_path _ = None

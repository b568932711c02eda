-- What the answer to a command has beside what it comes to. This project's own.
use Rattle.std.specs.Prelude.{Bool, true, false, Option, Some, None}
use Rattle.xk_jobs.specs.declared.job.Command.{Command}
use Rattle.xk_jobs.specs.declared.job.Command.TheVariants as command
use Rattle.xk_jobs.specs.declared.job.Values.{Values}
use Rattle.xk_jobs.specs.declared.job.Values.TheVariants as values

-- of `explain`, whether it is as a JSON value
abbrev pub explanation : Command → Option Bool
explanation (command.Explain json) = Some json
explanation _ = None

-- whether values have them
abbrev pub have_places : Values → Bool
have_places (values.Events log) = true
have_places (values.Races path) = true
have_places (values.Where log at) = true
have_places (values.Span log) = true
have_places _ = false

-- whether what is printed has the lines of a source text
abbrev pub shows_origins : Command → Bool
shows_origins (command.Explain json) = true
shows_origins command.Listing = true
shows_origins (command.Events log) = true
shows_origins (command.Lanes log from to svg path) = true
shows_origins (command.Rounds log) = true
shows_origins (command.Page log from to path) = true
shows_origins (command.OutcomePage pick limit from to) = true
shows_origins (command.Where log at) = true
shows_origins (command.Span log) = true
shows_origins (command.Why log step) = true
shows_origins (command.Races path) = true
shows_origins (command.Json v) = have_places v
shows_origins _ = false

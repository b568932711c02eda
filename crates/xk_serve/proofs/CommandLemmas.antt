-- Which command explains: what its task does then, and what it says of a fault else.
use Rattle.std.proofs.Common.{◌≡◌, ℕ, Bool, List, [], Some, None}
use Rattle.xk_jobs.specs.CommandAnswers.{explanation}
use Rattle.xk_jobs.specs.declared.job.Command.{Command}
use Rattle.xk_jobs.specs.declared.job.Command.TheVariants as command
use Rattle.xk_jobs.specs.declared.job.Form.{Form}
use Rattle.xk_program.specs.declared.fault.Fault.{Fault}
use Rattle.xk_answers.specs.Results.{Explain}
use Rattle.xk_serve.specs.Answer.{IsSaidBy, doing_of}

-- a command that explains does so
pub explains : (c : Command) (json : Bool) → explanation c ≡ Some json → doing_of c ≡ Explain json
explains command.Check json e = cc
explains command.Compile json e = cc
explains (command.Explain asked) json e = cc
explains command.Listing json e = cc
explains (command.Run drive log) json e = cc
explains (command.Tally seed runs) json e = cc
explains (command.Replay log) json e = cc
explains (command.Chart log) json e = cc
explains (command.Events log) json e = cc
explains (command.Lanes log from to svg path) json e = cc
explains (command.Rounds log) json e = cc
explains (command.Page log from to path) json e = cc
explains (command.OutcomePage pick limit from to) json e = cc
explains (command.Where log at) json e = cc
explains (command.Span log) json e = cc
explains (command.Why log step) json e = cc
explains (command.Races log) json e = cc
explains (command.Outcomes limit pick log sets) json e = cc
explains (command.Count limit sets) json e = cc
explains (command.Expected list limit sets) json e = cc
explains (command.Json v) json e = cc

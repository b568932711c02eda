-- What is printed of a result, its log and its status. This project's own.
use Rattle.std.specs.Prelude.{ℕ, Bool, List, [], Option, Some, None, string_bytes, if◌then◌else◌, ◌++◌, codes}
use Rattle.xk_jobs.specs.Status.{status_done, status_partial, status_refuted}
use Rattle.xk_answers.specs.declared.job_result.Done.{Done}
use Rattle.xk_answers.specs.declared.job_result.Done.TheVariants as done
use Rattle.xk_outcome_lists.specs.declared.holding.Verdict.{Verdict}
use Rattle.xk_outcome_lists.specs.declared.holding.Verdict.TheVariants as verdict
use Rattle.xk_log.specs.LogText.{log_text}
use Rattle.xk_messages.specs.Lines.{accepted_line, ended_line, rounds_line}
use Rattle.xk_io.specs.Lines.{number_lines}

-- an answer that isn't whole has a status of its own
abbrev pub whole_status : Bool → ℕ
whole_status whole = if whole then status_done else status_partial

-- so has each that outcomes give of a list: it has all, nothing is decided, or one isn't in it
abbrev pub verdict_status : Verdict → ℕ
verdict_status verdict.Complete = status_done
verdict_status verdict.Undecided = status_partial
verdict_status verdict.Refuted = status_refuted

abbrev pub done_status : Done → ℕ
done_status (done.Told text whole) = whole_status whole
done_status (done.Outcomes text whole log) = whole_status whole
done_status (done.Held text found) = verdict_status found
done_status _ = status_done

-- ---- standard output

-- the last line of a run, whose rounds were counted or not
abbrev pub last_line : ℕ → Option ℕ → List ℕ
last_line steps None = ended_line steps
last_line steps (Some rounds) = rounds_line steps rounds

abbrev pub done_text : Done → List ℕ
done_text (done.Compiled text) = string_bytes text ++ codes "\n"
done_text (done.Accepted steps activities clocks) = accepted_line steps activities clocks
done_text (done.Told text whole) = text.items
done_text (done.Outcomes text whole log) = text.items
done_text (done.Held text found) = text.items
done_text (done.Ended printed steps rounds log) = number_lines printed.items ++ last_line steps rounds

-- its front, of what is there before anything is written, and what stands behind that
abbrev pub done_front : Done → List ℕ
done_front (done.Compiled text) = string_bytes text
done_front (done.Accepted steps activities clocks) = []
done_front (done.Told text whole) = text.items
done_front (done.Outcomes text whole log) = text.items
done_front (done.Held text found) = text.items
done_front (done.Ended printed steps rounds log) = number_lines printed.items

abbrev pub done_ending : Done → List ℕ
done_ending (done.Compiled text) = codes "\n"
done_ending (done.Accepted steps activities clocks) = accepted_line steps activities clocks
done_ending (done.Told text whole) = []
done_ending (done.Outcomes text whole log) = []
done_ending (done.Held text found) = []
done_ending (done.Ended printed steps rounds log) = last_line steps rounds

-- ---- the log

-- of a run, or of an outcome, whose log was kept
abbrev pub done_log : Done → List ℕ
done_log (done.Ended printed steps rounds (Some log)) = log_text log.items
done_log (done.Outcomes text whole (Some log)) = log_text log.items
done_log _ = []

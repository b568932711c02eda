-- The line of a fault, with a line feed at its end, and its status. This project's own.
use Rattle.std.specs.Prelude.{ℕ, List, codes}
use Rattle.xk_messages.specs.Lines.{arguments_line, front_text, grammar_line, label_line, label_status, line, memory_line, no_outcome_line, not_enabled_line, refusal_line, refusal_status}
use Rattle.xk_jobs.specs.Status.{status_device, status_log, status_memory, status_program}
use Rattle.xk_module.specs.Faults.{fault_label}
use Rattle.xk_program.specs.declared.fault.Fault.{Fault}
use Rattle.xk_program.specs.declared.fault.Fault.TheVariants as fault

-- ---- standard error

abbrev pub device_line : List ℕ
device_line = codes "x10clock: device\n"

abbrev pub fault_line : Fault → List ℕ
fault_line (fault.Text f) = label_line (fault_label f)
fault_line (fault.Front f) = line (front_text f)
fault_line (fault.Refused r) = refusal_line r
fault_line (fault.Arguments wants has) = arguments_line wants has
fault_line (fault.Grammar n) = grammar_line n
fault_line fault.Truncated = line (codes "L2 Truncated")
fault_line (fault.NotEnabled n) = not_enabled_line n
fault_line fault.NotEnded = line (codes "L5 NotEnded")
fault_line (fault.NoOutcome n) = no_outcome_line n
fault_line fault.OutOfMemory = memory_line
fault_line fault.Device = device_line

-- ---- statuses

abbrev pub status_of : Fault → ℕ
status_of (fault.Text f) = label_status (fault_label f)
status_of (fault.Front f) = status_program
status_of (fault.Refused r) = refusal_status r
status_of (fault.Arguments wants has) = status_program
status_of (fault.Grammar n) = status_log
status_of fault.Truncated = status_log
status_of (fault.NotEnabled n) = status_log
status_of fault.NotEnded = status_log
status_of (fault.NoOutcome n) = status_log
status_of fault.OutOfMemory = status_memory
status_of fault.Device = status_device

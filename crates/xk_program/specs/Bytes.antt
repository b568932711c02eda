-- What reading to the end does to devices, and what is kept of a file. This project's own.
use Rattle.std.specs.Prelude.{◌≡◌, ◌≤◌, ℕ, ⊤, ◌+◌, List, length, take, Option, Some, None}
use Rattle.xk_types.specs.Device.{Rose}
use Rattle.xk_jobs.specs.declared.job.Form.{Form}
use Rattle.xk_jobs.specs.declared.job.Form.TheVariants as form
use Rattle.xk_program.specs.declared.fault.Fault.{Fault}
use Rattle.xk_program.specs.declared.fault.Fault.TheVariants as fault
use Rattle.xk_program.specs.Programs.{longest_module, longest_source}

-- reading failed for want of memory, and then no read failed, or because the device did
abbrev pub FailsRead : ℕ → ℕ → Fault → Type 0
FailsRead old new fault.OutOfMemory = new ≡ old
FailsRead old new fault.Device = Rose old new
FailsRead old new _ = ⊥

-- the bytes that are kept of a file: one more than its text may have, at most
abbrev pub kept : Form → List ℕ → List ℕ
kept form.Module bytes = take (longest_module + 1) bytes
kept form.Source bytes = take (longest_source + 1) bytes

-- of known bytes at most so many were read, since no more of them are gone
abbrev pub LosesAtMost : ℕ → Option (List ℕ) → Option (List ℕ) → Type 0
LosesAtMost most None new = ⊤
LosesAtMost most (Some known) None = ⊥
LosesAtMost most (Some known) (Some rest) = length known ≤ most + length rest

-- of a file one byte more than its text may have was read, at most, however long the file is
abbrev pub IsReadToLimit : Form → Option (List ℕ) → Option (List ℕ) → Type 0
IsReadToLimit form.Module old new = LosesAtMost (longest_module + 1) old new
IsReadToLimit form.Source old new = LosesAtMost (longest_source + 1) old new

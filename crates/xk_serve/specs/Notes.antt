-- What stands before the line of a fault on standard error: that FILE is a log. This project's own.
use Rattle.std.specs.Prelude.{ℕ, ◌++◌, ◌&&◌, Bool, true, false, List, [], codes, nat_eq, if◌then◌else◌}
use Rattle.std.specs.List.{starts_with}
use Rattle.xk_log.specs.LogText.{ended, head_line}
use Rattle.xk_answers.specs.declared.picture.Picture.TheVariants as picture
use Rattle.xk_answers.specs.Results.{Doing, Draw, Where}
use Rattle.xk_program.specs.declared.fault.Fault.{Fault}
use Rattle.xk_program.specs.declared.fault.Fault.TheVariants as fault
use Rattle.xk_program.specs.Lines.{fault_line}

-- whether it may be told that FILE is a log: a log is read beside it. (Of replays and charts the specification fixes all that is told.)
abbrev pub may_note : Doing → Bool
may_note (Draw picture.Chart) = false
may_note (Draw picture) = true
may_note (Where json at) = true
may_note _ = false

-- the bytes begin as each log does, with its first line
abbrev pub begins_log : List ℕ → Bool
begins_log bytes = starts_with nat_eq bytes (ended head_line)

abbrev pub log_note : List ℕ
log_note = codes "x10clock: FILE is a log; the program comes first, then the log\n"

-- Before the line of a fault it stands where the bytes of FILE are refused as a source text, and begin as a log does.
abbrev pub note_of : Doing → List ℕ → Fault → List ℕ
note_of what bytes (fault.Front f) = if may_note what && begins_log bytes then log_note else []
note_of what bytes _ = []

-- all that goes to standard error of a fault
abbrev pub told_of : Doing → List ℕ → Fault → List ℕ
told_of what bytes f = note_of what bytes f ++ fault_line f

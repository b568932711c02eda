-- What is told of a run, as `span` prints it.
use Rattle.std.specs.Prelude.{ℕ, ℤ, List}
use Rattle.xk_types.specs.declared.world.Entry.{Entry}
use Rattle.xk_types.specs.Code.{ModuleValue}
use Rattle.xk_span.specs.Steps.{steps_of_run, steps_span, steps_times, work_of}
use Rattle.xk_span_summary.specs.Counts.{greatest}
use Rattle.xk_span_summary.specs.Shares.{widths_of}

abbrev pub told_work : ModuleValue → List ℤ → List Entry → ℕ
told_work m args log = work_of (steps_of_run m args log)

abbrev pub told_span : ModuleValue → List ℤ → List Entry → ℕ
told_span m args log = steps_span (steps_of_run m args log)

-- how many steps each round has, and the widest one
abbrev pub told_widths : ModuleValue → List ℤ → List Entry → List ℕ
told_widths m args log = widths_of (steps_times (steps_of_run m args log)) (steps_of_run m args log)

abbrev pub told_widest : ModuleValue → List ℤ → List Entry → ℕ
told_widest m args log = (greatest (told_widths m args log)).many

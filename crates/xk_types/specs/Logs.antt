-- Logs of runs: who took a step after whom. That a run is written down so is this project's own.
use Rattle.std.specs.Prelude.{ℕ, List, flat_map, replicate}
use Rattle.std.proofs.Common.{lit<}
use Rattle.xk_types.specs.declared.world.Entry.{Entry}

-- the schedule that a log stands for: each entry is so many steps of one activity, one after the other
abbrev pub schedule_of : List Entry → List ℕ
schedule_of log = flat_map (λ e. replicate e.steps e.act) log

-- the entry for one step of an activity
abbrev pub one_step_of : ℕ → Entry
one_step_of a = record { act = a; steps = 1; at_least_one = lit< tt }

-- The beginning of a log, up to a step. This project's own.
use Rattle.std.specs.Prelude.{ℕ, zero, suc, ◌-◌, nat_le, nat_lt, List, [], ◌∷◌, length, Option, Some, None, if◌then◌else◌}
use Rattle.std.proofs.Common.{zero-lt-suc}
use Rattle.xk_types.specs.declared.world.Entry.{Entry}
use Rattle.xk_types.specs.Logs.{schedule_of}

-- how many steps a log has
abbrev pub steps_in : List Entry → ℕ
steps_in log = length (schedule_of log)

-- an entry that is cut: so many of its steps
abbrev pub cut_entry : ℕ → Entry → List Entry
cut_entry zero e = []
cut_entry (suc k) e = record { act = e.act; steps = suc k; at_least_one = zero-lt-suc k } ∷ []

-- the entries of the first n steps of a log; the last one is cut, where it has more
abbrev pub first_steps : ℕ → List Entry → List Entry
first_steps n [] = []
first_steps n (e ∷ es) = if nat_le e.steps n then e ∷ first_steps (n - e.steps) es else cut_entry n e

-- the last step of a log that has no step n: where it ends
abbrev pub end_before : ℕ → List Entry → Option ℕ
end_before n log = if nat_lt (steps_in log) n then Some (steps_in log) else None

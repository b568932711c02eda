-- Entries of logs.
use Rattle.std.proofs.Common.{◌≡◌, ◌<◌, ℕ, lit<, ap}
use Rattle.std.specs.Coded.{le_prop}
use Rattle.xk_types.specs.declared.world.Entry.{Entry}
use Rattle.xk_types.specs.Logs.{one_step_of}

-- the entry for so many steps of an activity, at least one
abbrev pub entry_of : (a n : ℕ) → 0 < n → Entry
entry_of a n some = record { act = a; steps = n; at_least_one = some }

-- an entry of one step is the one for one step
pub one_step_is : (a : ℕ) (some : 0 < 1) → entry_of a 1 some ≡ one_step_of a
one_step_is a some = ap (entry_of a 1) (le_prop some (lit< tt))

-- What is listed, where it lies in memory. This project's own.
use Rattle.std.specs.Prelude.{List, ℤ, map}
use Rattle.std.specs.Global.{Vec}
use Rattle.xk_types.specs.declared.world.Entry.{Entry}
use Rattle.xk_outcomes.specs.declared.listing.Outcome.{Outcome}

-- numbers, with the log of a run that prints them
abbrev pub outcome_in : Vec ℤ × Vec Entry → Outcome
outcome_in e = record { numbers = e.0; log = e.1 }

abbrev pub outcomes_in : List (Vec ℤ × Vec Entry) → List Outcome
outcomes_in entries = map outcome_in entries

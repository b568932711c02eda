-- What one run of which no race is told says of all others.
use Rattle.std.proofs.Common.{◌≡◌, ℕ, ℤ, true, List}
use Rattle.std.specs.Prelude.{None}
use Rattle.xk_types.specs.declared.world.Entry.{Entry}
use Rattle.xk_types.specs.Acceptance.{IsAccepted}
use Rattle.xk_types.specs.Code.{ModuleValue, IsWithinLimits}
use Rattle.xk_types.specs.World.{World, AreArguments, opening}
use Rattle.xk_types.specs.Schedule.{printed}
use Rattle.xk_types.specs.Logs.{schedule_of}
use Rattle.xk_law_traces.specs.RaceFreedom.{HasNoRace}
use Rattle.xk_law_traces.specs.OneRun.{IsWholeRun, ComeToOne}
use Rattle.xk_law_traces.proofs.OneRunLaw.{one_every, one_prints}
use Rattle.xk_races.specs.Races.{gap_in, is_race_free, sights_of_run}
use Rattle.xk_law_races.proofs.RaceFreeLaw.{free_run}
use Rattle.xk_law_races.proofs.PrintOrderLaw.{never_two_prints}

module _ (m : ModuleValue) (args : List ℤ) (limits : IsWithinLimits m) (ok : IsAccepted m) (taken : AreArguments m args)
    (log : List Entry) (z : World)
    (one : IsWholeRun m args (schedule_of log) z) (free : is_race_free m args log ≡ true) where
  -- its class has no race
  pub no_race : HasNoRace m (opening m args) (schedule_of log)
  no_race = free_run m args limits ok taken (schedule_of log) z one.legal free one.ended

  -- each whole run comes to one with it
  pub every : (t : List ℕ) (y : World) → IsWholeRun m args t y → ComeToOne m args (schedule_of log) t z y
  every t y other = one_every m args limits ok taken (schedule_of log) t z y one no_race other

  -- and prints the same list, if its prints are told to be in one order
  pub prints_every : gap_in (sights_of_run m args log) ≡ None → (t : List ℕ) (y : World) → IsWholeRun m args t y
      → printed m (schedule_of log) (opening m args) ≡ printed m t (opening m args)
  prints_every none t y other =
      one_prints m args limits ok taken (schedule_of log) t z y one no_race
      (never_two_prints m args limits ok taken (schedule_of log) z one.legal none one.ended) other

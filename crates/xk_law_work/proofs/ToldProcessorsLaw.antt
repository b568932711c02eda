-- Where no race is told of a run, the numbers of rounds that are told bound those of each run on so many processors.
use Rattle.std.proofs.Common.{◌≡◌, ℕ, ℤ, ◌+◌, ◌-◌, ◌/◌, ◌<◌, ◌≤◌, true, List, length, sym, subst, arith}
use Rattle.xk_types.specs.declared.world.Entry.{Entry}
use Rattle.xk_types.specs.Acceptance.{IsAccepted}
use Rattle.xk_types.specs.Code.{ModuleValue, IsWithinLimits}
use Rattle.xk_types.specs.World.{World, AreArguments, opening}
use Rattle.xk_types.specs.Logs.{schedule_of}
use Rattle.xk_law_traces.specs.OneRun.{IsWholeRun}
use Rattle.xk_races.specs.Races.{is_race_free}
use Rattle.xk_law_races.proofs.SpeaksForAllLaw.{no_race}
use Rattle.xk_span_summary.specs.Shares.{least_rounds}
use Rattle.xk_law_rounds.specs.Rounds.{AreRounds, steps_in}
use Rattle.xk_law_rounds.specs.Processors.{AreBusy, AreWithin}
use Rattle.xk_law_rounds.proofs.BusyLaw.{at_most_all, span_at_least, work_at_least}
use Rattle.xk_law_work.specs.Told.{told_span, told_work}
use Rattle.xk_law_work.proofs.ShareLemmas.{least_of}
use Rattle.xk_law_work.proofs.ToldSpanLaw.{span_told}
use Rattle.xk_law_work.proofs.WorkLaw.{work_is_steps}

pub least_for_all : (m : ModuleValue) (args : List ℤ) (log : List Entry) (z y : World) (p : ℕ) (rounds : List (List ℕ))
    → IsWithinLimits m → IsAccepted m → AreArguments m args → 0 < p
    → IsWholeRun m args (schedule_of log) z → is_race_free m args log ≡ true
    → AreRounds m (opening m args) rounds y → AreWithin p rounds → IsWholeRun m args (steps_in rounds) y
    → least_rounds p (told_work m args log) (told_span m args log) ≤ length rounds
least_for_all m args log z y p rounds limits ok taken some one free all within other =
    let s = schedule_of log in
    let none = no_race m args limits ok taken log z one free in
    let work = work_at_least m args s z y p rounds limits ok taken one none within other in
    let steps = work_is_steps m args log z one.legal in
    least_of p (told_work m args log) (told_span m args log) (length rounds) some
    (omega (arith, work, steps))
    (span_at_least m args s z y (told_span m args log) rounds limits ok taken one none
    (span_told m args log z limits ok taken one.legal) all other)

pub most_for_all : (m : ModuleValue) (args : List ℤ) (log : List Entry) (z y : World) (p : ℕ) (rounds : List (List ℕ))
    → IsWithinLimits m → IsAccepted m → AreArguments m args → 0 < p
    → IsWholeRun m args (schedule_of log) z → is_race_free m args log ≡ true
    → AreBusy p m (opening m args) rounds y → IsWholeRun m args (steps_in rounds) y
    → length rounds ≤ (told_work m args log - told_span m args log) / p + told_span m args log
most_for_all m args log z y p rounds limits ok taken some one free all other =
    let span = told_span m args log in
    subst (λ work. length rounds ≤ (work - span) / p + span) (sym (work_is_steps m args log z one.legal))
    (at_most_all m args (schedule_of log) z y p span rounds limits ok taken some one
    (no_race m args limits ok taken log z one free) (span_told m args log z limits ok taken one.legal) all other)

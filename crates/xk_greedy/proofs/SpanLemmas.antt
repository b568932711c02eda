-- A run by rounds without a limit of processors has as many rounds as its span says.
use Rattle.std.proofs.Common.{◌≡◌, ◌∙◌, ℕ, ℤ, true, List, [], ◌∷◌, Option, None, sym, ap, subst}
use Rattle.xk_types.specs.declared.world.Entry.{Entry}
use Rattle.xk_types.specs.Acceptance.{IsAccepted}
use Rattle.xk_types.specs.Code.{IsWithinLimits, ModuleValue}
use Rattle.xk_types.specs.Logs.{schedule_of}
use Rattle.xk_types.specs.Schedule.{Through, all_ended, run}
use Rattle.xk_types.specs.World.{AreArguments, World, opening}
use Rattle.xk_types.proofs.RunLemmas.{run_then}
use Rattle.xk_law_traces.specs.OneRun.{IsWholeRun}
use Rattle.xk_law_traces.specs.RaceFreedom.{HasNoRace}
use Rattle.xk_law_rounds.specs.Rounds.{IsSpan, steps_in}
use Rattle.xk_law_rounds.proofs.ClassSpanLaw.{greedy as greedy_span}
use Rattle.xk_law_rounds.proofs.SpanLaw.{greedy_itself}
use Rattle.xk_greedy.specs.Rounds.{AreRoundsBy, IsByRounds}
use Rattle.xk_greedy.proofs.GreedyLemmas.{greedy}
use Rattle.xk_greedy.proofs.OneRunLemmas.{steps_of_entries}

-- rounds lead from the one world to the other
pub rounds_lead : (p : Option ℕ) (m : ModuleValue) (w z : World) (rounds : List (List ℕ)) → AreRoundsBy p m w rounds z
    → run m (steps_in rounds) w ≡ Through z
rounds_lead p m w z [] h = ap Through h
rounds_lead p m w z (r ∷ rs) h = run_then m r (steps_in rs) w h.0 h.1.leads ∙ rounds_lead p m h.0 z rs h.2

-- a run by rounds to the end is whole
pub whole_run : (p : Option ℕ) (m : ModuleValue) (args : List ℤ) (log : List Entry) (z : World) (count : ℕ)
    (by : IsByRounds p m args log z count) → all_ended z ≡ true → IsWholeRun m args (steps_in by.rounds) z
whole_run p m args log z count by over = record { legal = rounds_lead p m (opening m args) z by.rounds by.are; ended = over }

-- the steps of its rounds are those that its log stands for
steps_logged : (p : Option ℕ) (m : ModuleValue) (args : List ℤ) (log : List Entry) (z : World) (count : ℕ)
    (by : IsByRounds p m args log z count) → steps_in by.rounds ≡ schedule_of log
steps_logged p m args log z count by = sym (ap schedule_of by.log_is ∙ steps_of_entries (steps_in by.rounds))

pub rounds_are_span : (m : ModuleValue) (args : List ℤ) (log : List Entry) (z : World) (count : ℕ)
    → IsWithinLimits m → IsAccepted m → AreArguments m args
    → IsByRounds None m args log z count → all_ended z ≡ true → IsSpan m (opening m args) (schedule_of log) count
rounds_are_span m args log z count limits ok taken by over =
    subst (λ s. IsSpan m (opening m args) s count) (steps_logged None m args log z count by)
    (subst (IsSpan m (opening m args) (steps_in by.rounds)) by.as_many
    (greedy_itself m args z by.rounds limits ok taken (greedy m (opening m args) z by.rounds by.are)
    (whole_run None m args log z count by over)))

pub rounds_for_all : (m : ModuleValue) (args : List ℤ) (log : List Entry) (s : List ℕ) (y z : World) (count : ℕ)
    → IsWithinLimits m → IsAccepted m → AreArguments m args
    → IsWholeRun m args s y → HasNoRace m (opening m args) s
    → IsByRounds None m args log z count → all_ended z ≡ true → IsSpan m (opening m args) s count
rounds_for_all m args log s y z count limits ok taken one free by over =
    subst (IsSpan m (opening m args) s) by.as_many
    (greedy_span m args s y z by.rounds limits ok taken one free (greedy m (opening m args) z by.rounds by.are)
    (whole_run None m args log z count by over))

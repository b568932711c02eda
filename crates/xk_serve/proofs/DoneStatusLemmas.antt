-- What a job comes to has the status of what is done, where that is one.
use Rattle.std.proofs.Common.{◌≡◌, ℕ, ℤ, true, false, List, None, Some, refl, ap}
use Rattle.xk_types.specs.Code.{ModuleValue}
use Rattle.xk_jobs.specs.Tasks.{By, Greedy, In}
use Rattle.xk_answers.specs.declared.job_result.Done.{Done}
use Rattle.xk_answers.specs.declared.job_result.Done.TheVariants as done
use Rattle.xk_answers.specs.Printed.{done_status, whole_status}
use Rattle.xk_answers.specs.Results.{Check, ComesTo, Compile, Count, Doing, Draw, Expected, ExpectedShown, Explain, Json, Listing, OutcomePage}
use Rattle.xk_answers.specs.Results.{Outcomes, OutcomesShown, Races, Replay, Run, RunShown, Tally, Where}
use Rattle.xk_serve.specs.OneAnswer.{HasOneStatus}

-- what it comes to has the status of what is done, but where outcomes are looked for
pub done_zero : (what : Doing) (m : ModuleValue) (args : List ℤ) (l : List ℕ) (d : Done) → HasOneStatus what
    → ComesTo what m args l d → done_status d ≡ 0
done_zero Compile m args l (done.Outcomes t w k) one h = absurd h
done_zero Check m args l (done.Outcomes t w k) one h = absurd h
done_zero (Explain json) m args l (done.Outcomes t w k) one h = absurd h
done_zero Listing m args l (done.Outcomes t w k) one h = absurd h
done_zero (Run (In o) false) m args l (done.Outcomes t w k) one h = absurd h
done_zero (Run (In o) true) m args l (done.Outcomes t w k) one h = absurd h
done_zero (Run (Greedy p) false) m args l (done.Outcomes t w k) one h = absurd h
done_zero (Run (Greedy p) true) m args l (done.Outcomes t w k) one h = absurd h
done_zero (Run (By n) false) m args l (done.Outcomes t w k) one h = absurd h
done_zero (Run (By n) true) m args l (done.Outcomes t w k) one h = absurd h
done_zero Replay m args l (done.Outcomes t w k) one h = absurd h
done_zero (Draw picture) m args l (done.Outcomes t w k) one h = absurd h
done_zero (Where json at) m args l (done.Outcomes t w k) one h = absurd h
done_zero (Races json) m args l (done.Outcomes t w k) one h = absurd h
done_zero (Tally seed runs) m args l (done.Outcomes t w k) one h = absurd h
done_zero (OutcomePage window limit pick) m args l (done.Outcomes t w k) one h = absurd h
done_zero (Outcomes sets limit pick kept) m args l (done.Outcomes t w k) one h = absurd one
done_zero (Count sets limit) m args l (done.Outcomes t w k) one h = absurd one
done_zero (Expected sets limit) m args l (done.Outcomes t w k) one h = absurd one
done_zero (Json (RunShown way kept)) m args l (done.Outcomes t w k) one h = ap whole_status h.1.whole_is
done_zero (Json (OutcomesShown sets limit pick kept)) m args l (done.Outcomes t w k) one h = absurd one
done_zero (Json (ExpectedShown sets limit)) m args l (done.Outcomes t w k) one h = absurd one
done_zero Compile m args l (done.Held t found) one h = absurd h
done_zero Check m args l (done.Held t found) one h = absurd h
done_zero (Explain json) m args l (done.Held t found) one h = absurd h
done_zero Listing m args l (done.Held t found) one h = absurd h
done_zero (Run (In o) false) m args l (done.Held t found) one h = absurd h
done_zero (Run (In o) true) m args l (done.Held t found) one h = absurd h
done_zero (Run (Greedy p) false) m args l (done.Held t found) one h = absurd h
done_zero (Run (Greedy p) true) m args l (done.Held t found) one h = absurd h
done_zero (Run (By n) false) m args l (done.Held t found) one h = absurd h
done_zero (Run (By n) true) m args l (done.Held t found) one h = absurd h
done_zero Replay m args l (done.Held t found) one h = absurd h
done_zero (Draw picture) m args l (done.Held t found) one h = absurd h
done_zero (Where json at) m args l (done.Held t found) one h = absurd h
done_zero (Races json) m args l (done.Held t found) one h = absurd h
done_zero (Tally seed runs) m args l (done.Held t found) one h = absurd h
done_zero (OutcomePage window limit pick) m args l (done.Held t found) one h = absurd h
done_zero (Outcomes sets limit pick kept) m args l (done.Held t found) one h = absurd one
done_zero (Count sets limit) m args l (done.Held t found) one h = absurd one
done_zero (Expected sets limit) m args l (done.Held t found) one h = absurd one
done_zero (Json (RunShown way kept)) m args l (done.Held t found) one h = absurd h.1
done_zero (Json (OutcomesShown sets limit pick kept)) m args l (done.Held t found) one h = absurd one
done_zero (Json (ExpectedShown sets limit)) m args l (done.Held t found) one h = absurd one
done_zero what m args l (done.Compiled t) one h = refl
done_zero what m args l (done.Accepted steps activities clocks) one h = refl
done_zero Compile m args l (done.Told t whole) one h = absurd h
done_zero Check m args l (done.Told t whole) one h = absurd h
done_zero (Explain json) m args l (done.Told t whole) one h = absurd h
done_zero Listing m args l (done.Told t whole) one h = absurd h
done_zero (Run (In o) false) m args l (done.Told t whole) one h = absurd h
done_zero (Run (In o) true) m args l (done.Told t whole) one h = absurd h
done_zero (Run (Greedy p) false) m args l (done.Told t whole) one h = absurd h
done_zero (Run (Greedy p) true) m args l (done.Told t whole) one h = absurd h
done_zero (Run (By n) false) m args l (done.Told t whole) one h = absurd h
done_zero (Run (By n) true) m args l (done.Told t whole) one h = absurd h
done_zero Replay m args l (done.Told t whole) one h = absurd h
done_zero (Draw picture) m args l (done.Told t whole) one h = absurd h
done_zero (Where json at) m args l (done.Told t whole) one h = absurd h
done_zero (Races json) m args l (done.Told t whole) one h = absurd h
done_zero (Tally seed runs) m args l (done.Told t whole) one h = absurd h
done_zero (OutcomePage window limit pick) m args l (done.Told t whole) one h = absurd h
done_zero (Outcomes sets limit pick kept) m args l (done.Told t whole) one h = absurd h.1
done_zero (Count sets limit) m args l (done.Told t whole) one h = absurd h.1
done_zero (Expected sets limit) m args l (done.Told t whole) one h = absurd h.1
done_zero (Json (RunShown way kept)) m args l (done.Told t whole) one h = absurd h.1
done_zero (Json (OutcomesShown sets limit pick kept)) m args l (done.Told t whole) one h = absurd one
done_zero (Json (ExpectedShown sets limit)) m args l (done.Told t whole) one h = absurd one
done_zero what m args l (done.Ended numbers steps rounds log) one h = refl

-- The log of a run is a log: it has no more entries than a log may have, and both numbers of each are of 32 bits.
use Rattle.std.proofs.Common.{◌≡◌, ◌∙◌, ℕ, zero, suc, ◌<◌, ◌≤◌, List, [], ◌∷◌, ◌++◌, ℤ, length, replicate, refl, sym, ap, subst, arith, length-append}
use Rattle.std.specs.List.{AllByRecursion}
use Rattle.std.proofs.lemmas.List.{length-replicate}
use Rattle.std.proofs.lemmas.List.Concat.{flat_map-cons}
use Rattle.xk_types.specs.declared.world.Entry.{Entry}
use Rattle.xk_types.specs.Code.{ModuleValue, IsWithinLimits}
use Rattle.xk_types.specs.World.{World, opening}
use Rattle.xk_types.specs.Step.{step}
use Rattle.xk_types.specs.Schedule.{Through, Leads, IsReached, run}
use Rattle.xk_types.specs.Acceptance.{IsAccepted}
use Rattle.xk_types.specs.Logs.{schedule_of}
use Rattle.xk_law_schedules.proofs.ReachabilityLemmas.{first_step, run_counts, reached_room, reached_run}
use Rattle.xk_core.specs.Core.{CoreValue, IsCore}
use Rattle.xk_scheduler.specs.LoggedRuns.{IsRunOf}
use Rattle.xk_scheduler.proofs.RunSequenceLemmas.{run_then}
use Rattle.xk_scheduler.proofs.IndependenceLemmas.{steps_within}
use Rattle.xk_log.specs.LogText.{FitsEntry, IsLog}
use Rattle.xk_replay.proofs.ChartLineLemmas.{legal_front}

-- the schedule of a log's first entry, and of the others
schedule_first : (e : Entry) (es : List Entry) → schedule_of (e ∷ es) ≡ replicate e.steps e.act ++ schedule_of es
schedule_first e es = flat_map-cons (λ (x : Entry). replicate x.steps x.act) e es

-- each entry has a step
entries_few : (es : List Entry) → length es ≤ length (schedule_of es)
entries_few [] = omega arith
entries_few (e ∷ es) =
    let later = entries_few es in
    let some = e.at_least_one in
    omega (arith, ap length (schedule_first e es), length-append (replicate e.steps e.act) (schedule_of es), length-replicate e.steps e.act)

-- who takes some steps is there
taker_there : (m : ModuleValue) (n a : ℕ) (w v : World) → 0 < n → run m (replicate n a) w ≡ Through v → a < length w.activities
taker_there m zero a w v some h = absurd (omega arith)
taker_there m (suc n) a w v some h =
    let f = first_step w v (step m w a) (run m (replicate n a)) h in
    steps_within m w f.0 a f.1 f.2

module _ (m : ModuleValue) (limits : IsWithinLimits m) (accepted : IsAccepted m) where
  -- an entry whose steps are taken from a world that is reached
  entry_fits : (e : Entry) (w v : World) → IsReached m w → run m (replicate e.steps e.act) w ≡ Through v → FitsEntry e
  entry_fits e w v r h =
      let before = reached_room m limits accepted w r in
      let behind = reached_room m limits accepted v (reached_run m (replicate e.steps e.act) w v r h) in
      record {
        act = omega (arith, taker_there m e.steps e.act w v e.at_least_one h, before.activities, accepted.bounds.activities);
        steps = omega (arith, run_counts m (replicate e.steps e.act) w v h, length-replicate e.steps e.act, behind.steps, accepted.bounds.steps);
      }

  entries_fit : (es : List Entry) (w v : World) → IsReached m w → run m (schedule_of es) w ≡ Through v → AllByRecursion FitsEntry es
  entries_fit [] w v r h = tt
  entries_fit (e ∷ es) w v r h =
      let here = replicate e.steps e.act in
      let all : run m (here ++ schedule_of es) w ≡ Through v = ap (λ l. run m l w) (sym (schedule_first e es)) ∙ h in
      let first = legal_front m here (schedule_of es) w v all in (
        entry_fits e w first.0 r first.1,
        entries_fit es first.0 v (reached_run m here w first.0 r first.1) (sym (run_then m here (schedule_of es) w first.0 first.1) ∙ all),
      )

  -- a log that leads to some world is a log
  pub run_is_log : (log : List Entry) (w : World) → Leads m (schedule_of log) w → IsLog log
  run_is_log log w leads =
      let start = opening m w.arguments in
      let room = reached_room m limits accepted w (schedule_of log, leads) in
      record {
        short = omega (arith, entries_few log, run_counts m (schedule_of log) start w leads.1, room.steps, accepted.bounds.steps);
        each = entries_fit log start w ([], (leads.0, refl)) leads.1;
      }

-- and so is the log of a run
pub log_of_run : (m : ModuleValue) (log : List Entry) (numbers : List ℤ) (c : CoreValue) → IsCore c.module_run c.world → IsRunOf m log numbers c → IsLog log
log_of_run m log numbers c core r = run_is_log m (subst IsWithinLimits r.module_is core.limits) (subst IsAccepted r.module_is core.accepted) log c.world r.leads

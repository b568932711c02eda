-- Who has ended stands at a `ret`, and no frame waits. So who has a local step next runs, and so does who has a ticket's old frames.
use Rattle.std.proofs.Common.{◌≡◌, ℕ, zero, suc, ℤ, ◌<◌, true, false, List, [], ◌∷◌, length, Some, refl, sym, ap, ◌∙◌, subst, arith, slice_get, slice_set}
use Rattle.std.specs.Prelude.{option_and_then}
use Rattle.std.specs.Option.{option_map_or}
use Rattle.std.proofs.lemmas.Bool.{false≢true}
use Rattle.std.proofs.lemmas.Option.{none-some, same_Some, get_or_from_slice_get}
use Rattle.xk_types.specs.declared.instr.Instr.{Instr}
use Rattle.xk_types.specs.declared.instr.Instr.TheVariants as instr
use Rattle.xk_types.specs.declared.world.Status.{Status}
use Rattle.xk_types.specs.declared.world.Status.TheVariants as status
use Rattle.xk_types.specs.Code.{ModuleValue, IsWithinLimits}
use Rattle.xk_types.specs.Acceptance.{IsAccepted}
use Rattle.xk_types.specs.World.{Frame, Activity, World, instruction_at, is_ended, main_of, opening}
use Rattle.xk_types.specs.Step.{Outcome, Blocked, Wrong, Stepped, step, onward, left, arrived, ended, child}
use Rattle.xk_types.specs.Schedule.{Through, run, IsReached}
use Rattle.xk_types.proofs.ListLemmas.{Each, each_set, each_push, get_inside}
use Rattle.xk_law_schedules.proofs.Invariant.{IsActivitySound, looks}
use Rattle.xk_law_schedules.proofs.StepFormLemmas.{step_kind}
use Rattle.xk_law_schedules.proofs.ReachabilityLemmas.{same_through, first_step, reached_sound}
use Rattle.xk_activity.specs.Local as frames
use Rattle.xk_activity.specs.StepAgreement.{frames_in}
use Rattle.xk_activity.specs.Activities.{nobody}
use Rattle.xk_activity.specs.Ticket.{TicketValue, IsWalked}
use Rattle.xk_core.specs.Core.{IsCore, is_running, runs_now}
use Rattle.xk_core.specs.TicketAcceptance.{Accepts}

-- ---- who has ended

-- the activity stands at a `ret`, and no frame waits
record IsAtRet (m : ModuleValue) (act : Activity) : Type 0 where
  pub here : instruction_at m act.frame ≡ Some instr.Ret
  pub alone : act.callers ≡ []

-- if it has ended it does
abbrev EndsAtRet : ModuleValue → Activity → Type 0
EndsAtRet m act = is_ended act.status ≡ true → IsAtRet m act

-- so does each in a world
abbrev AllEndAtRet : ModuleValue → World → Type 0
AllEndAtRet m w = Each (λ a act. EndsAtRet m act) w.activities

-- and in what a step leads to
abbrev LeadsSo : ModuleValue → Outcome → Type 0
LeadsSo m Blocked = Unit {0}
LeadsSo m (Wrong c) = Unit {0}
LeadsSo m (Stepped v e) = AllEndAtRet m v

-- one that hasn't ended
alive_so : (m : ModuleValue) (act : Activity) → is_ended act.status ≡ false → EndsAtRet m act
alive_so m act alive over = absurd (false≢true (sym alive ∙ over))

module _ (m : ModuleValue) (w : World) (a : ℕ) (so : AllEndAtRet m w) where
  -- where one activity changes
  changed_so : (act next : Activity) → slice_get w.activities a ≡ Some act → EndsAtRet m next → Each (λ b x. EndsAtRet m x) (slice_set w.activities a next)
  changed_so act next found here = each_set (λ b x. EndsAtRet m x) w.activities a act next found here (λ b x differs at. so b x at)

  -- a step keeps it: only a `ret` with no frame that waits ends an activity, and who has ended takes no step
  step_so : LeadsSo m (step m w a)
  step_so = step_kind (LeadsSo m) m w a tt (λ c. tt) (λ act found alive. record {
    closed = λ n some nobody' runs. changed_so act (left act n) found (alive_so m (left act n) alive);
    over = λ here none. changed_so act (ended act) found (λ over. record { here = here; alone = none });
    arrives = changed_so act (arrived act) found (alive_so m (arrived act) refl);
    done = λ next change e goes quiet rests. changed_so act next found (alive_so m next (ap is_ended goes.runs));
    made = λ next goes. changed_so act next found (alive_so m next (ap is_ended goes.runs));
    stored = λ s n e goes quiet. changed_so act (onward act) found (alive_so m (onward act) alive);
    spawned = λ t args values at goes. each_push (λ b x. EndsAtRet m x) (slice_set w.activities a (onward act)) (child m a act t values)
        (changed_so act (onward act) found (alive_so m (onward act) alive))
        (alive_so m (child m a act t values) refl);
  })

opening_so : (m : ModuleValue) (args : List ℤ) → AllEndAtRet m (opening m args)
opening_so m args zero act found = alive_so m act (ap (λ (x : Activity). is_ended x.status) (sym (same_Some (main_of m args) act found)))
opening_so m args (suc i) act found = absurd (none-some act found)

run_so : (m : ModuleValue) (list : List ℕ) (w v : World) → AllEndAtRet m w → run m list w ≡ Through v → AllEndAtRet m v
run_so m [] w v so goes = subst (AllEndAtRet m) (same_through w v goes) so
run_so m (b ∷ list) w v so goes =
    let f = first_step w v (step m w b) (run m list) goes in
    run_so m list f.0 v (subst (LeadsSo m) f.2 (step_so m w b so)) f.3

-- in each world that is reached, whoever has ended stands at a `ret`, and no frame waits
reached_so : (m : ModuleValue) (w : World) → IsReached m w → AllEndAtRet m w
reached_so m w r = run_so m r.0 (opening m w.arguments) w (opening_so m w.arguments) r.1.1

-- ---- who has a local step next

-- where steps are taken, the first is
first_taken : {X : Type 0} (step : X → frames.OutcomeOf X) (start new : X) (n : ℕ) → 0 < n → frames.ran step start n ≡ frames.Stepped new → frames.is_stepped (step start) ≡ true
first_taken {X} step start new zero some goes = absurd (omega arith)
first_taken {X} step start new (suc zero) some goes = ap frames.is_stepped goes
first_taken {X} step start new (suc (suc n)) some goes = by (frames.ran step start (suc n)) refl goes (λ x before. first_taken step start x (suc n) (omega arith) before)
  where
    by : (o : frames.OutcomeOf X) → frames.ran step start (suc n) ≡ o → frames.then_step step o ≡ frames.Stepped new
        → ((x : X) → frames.ran step start (suc n) ≡ frames.Stepped x → frames.is_stepped (step start) ≡ true) → frames.is_stepped (step start) ≡ true
    by frames.Beyond e h earlier = absurd (false≢true (ap frames.is_stepped h))
    by frames.Wrong e h earlier = absurd (false≢true (ap frames.is_stepped h))
    by (frames.Stepped x) e h earlier = earlier x e

-- an activity whose frames have a local step next runs: one that has arrived stands at an `advance`, and one that has ended at its last `ret`
local_runs : (m : ModuleValue) → IsWithinLimits m → IsAccepted m → (w : World) → IsReached m w → (a : ℕ) (x : Activity) → slice_get w.activities a ≡ Some x
    → frames.is_stepped (frames.local (frames_in m x)) ≡ true → x.status ≡ status.Running
local_runs m limits ok w reached a x there taken = by x.status refl
  where
    sound : IsActivitySound m (looks w.clocks a) (length w.clocks) w.steps x
    sound = (reached_sound m limits ok w reached).activities a x there

    -- a step of the instruction that it stands at is taken
    taken_at : (i : Instr) → instruction_at m x.frame ≡ Some i → frames.is_stepped (frames.carried_on (frames_in m x) i) ≡ true
    taken_at i here = sym (ap (λ o. frames.is_stepped (frames.local_at (frames_in m x) o)) here) ∙ taken

    at_advance : x.status ≡ status.Arrived → instruction_at m x.frame ≡ Some instr.Advance
    at_advance e = ap (option_and_then (λ unit. slice_get unit.code x.frame.place)) sound.unit ∙ sound.advance e

    at_ret : IsAtRet m x → frames.is_stepped (frames.carried_on (frames_in m x) instr.Ret) ≡ false
    at_ret end = ap (λ (l : List Frame). frames.is_stepped (frames.returning (frames_in m x) l)) end.alone

    by : (s : Status) → x.status ≡ s → x.status ≡ status.Running
    by status.Running e = e
    by status.Arrived e = absurd (false≢true (taken_at instr.Advance (at_advance e)))
    by status.Ended e =
        let end = reached_so m w reached a x there (ap is_ended e) in
        absurd (false≢true (sym (at_ret end) ∙ taken_at instr.Ret end.here))

-- whoever has a ticket's old frames runs, since the ticket has a local step from them
pub walked_runs : (m : ModuleValue) (w : World) → IsCore m w → (t : TicketValue) → Accepts (record { module_run = m; world = w }) t
    → (n : ℕ) → IsWalked t.old n t.new → is_running w t.act ≡ true
walked_runs m w core t before n walked =
    let x = get_inside w.activities t.act before.0 in
    let same : frames_in m x.0 ≡ t.old = ap (frames_in m) (sym (get_or_from_slice_get w.activities t.act x.0 nobody x.1)) ∙ before.1 in
    let taken = ap (λ (f : frames.FramesValue). frames.is_stepped (frames.local f)) same ∙ first_taken frames.local t.old t.new n walked.some walked.ran in
    ap (λ o. option_map_or (λ (act : Activity). runs_now act.status) o false) x.1
    ∙ ap runs_now (local_runs m core.limits core.accepted w core.reached t.act x.0 x.1 taken)

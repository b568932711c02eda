-- A run and its log, turn by turn.
use Rattle.std.proofs.Common.{◌≡◌, ◌∙◌, ℕ, ℤ, ◌+◌, ◌-◌, ◌<◌, ◌≤◌, ◌%◌, Bool, true, false, List, [], ◌∷◌, ◌++◌, length, replicate, Some, refl, sym, ap, subst, arith, slice_get}
use Rattle.std.specs.Option.{option_to_list}
use Rattle.std.proofs.lemmas.List.{append-nil}
use Rattle.std.proofs.lemmas.List.Concat.{flat_map-append, flat_map-cons}
use Rattle.std.proofs.lemmas.List.Elements.{All-push}
use Rattle.xk_types.specs.declared.world.Entry.{Entry}
use Rattle.xk_types.specs.declared.world.Event.{Event}
use Rattle.xk_types.specs.Code.{ModuleValue}
use Rattle.xk_types.specs.World.{World, opening, AreArguments}
use Rattle.xk_types.specs.Step.{Stepped, step}
use Rattle.xk_types.specs.Schedule.{Through, Leads, run, run_on, seen, printed, number_printed}
use Rattle.xk_types.specs.Bound.{steps_bound}
use Rattle.xk_types.specs.Logs.{schedule_of, one_step_of}
use Rattle.xk_law_schedules.proofs.StepCountLemmas.{step_counts}
use Rattle.xk_law_schedules.proofs.ReachabilityLemmas.{run_more, run_arguments}
use Rattle.xk_core.specs.Core.{CoreValue}
use Rattle.xk_core.specs.LocalRun.{RunsTo, IsUnseen}
use Rattle.xk_scheduler.specs.Choosers.{enabled_in, Follows, state_after}
use Rattle.xk_scheduler.specs.LoggedRuns.{IsTurn, IsRunOf, IsNoted, IsCommitted, IsChosen}
use Rattle.xk_scheduler.proofs.RunSequenceLemmas.{run_then}
use Rattle.xk_scheduler.proofs.ChooserScheduleLemmas.{follows_more, state_more, printed_more, printed_unseen}

-- one entry more is one step more
schedule_more : (log : List Entry) (a : ℕ) → schedule_of (log ++ one_step_of a ∷ []) ≡ schedule_of log ++ a ∷ []
schedule_more log a = flat_map-append (λ (e : Entry). replicate e.steps e.act) log (one_step_of a ∷ [])

-- where a schedule leads from the opening world with these arguments, which no step changes
pub leads_with : (m : ModuleValue) (args : List ℤ) (list : List ℕ) (w : World) → AreArguments m args → run m list (opening m args) ≡ Through w
    → Leads m list w × (w.arguments ≡ args)
leads_with m args list w taken leads =
    let kept = run_arguments m list (opening m args) w leads in
    (subst (λ xs. AreArguments m xs × (run m list (opening m xs) ≡ Through w)) (sym kept) (taken, leads), kept)

-- a run from there
pub run_of : (m : ModuleValue) (args : List ℤ) (log : List Entry) (numbers : List ℤ) (c : CoreValue) → c.module_run ≡ m → AreArguments m args
    → run m (schedule_of log) (opening m args) ≡ Through c.world → numbers ≡ printed m (schedule_of log) (opening m args) → IsRunOf m log numbers c
run_of m args log numbers c is taken leads prints =
    let l = leads_with m args (schedule_of log) c.world taken leads in
    record { module_is = is; leads = l.0; prints = subst (λ xs. numbers ≡ printed m (schedule_of log) (opening m xs)) (sym l.1) prints }

pub run_starts : (m : ModuleValue) (c : CoreValue) → c.module_run ≡ m → AreArguments c.module_run c.world.arguments → c.world ≡ opening c.module_run c.world.arguments
    → IsRunOf m [] [] c
run_starts m c is taken start =
    subst (λ k. IsRunOf k [] [] c) is (record { module_is = refl; leads = (taken, ap (λ w. Through w) (sym start)); prints = refl })

-- the log goes on by a step
pub run_steps : (m k : ModuleValue) (log : List Entry) (numbers : List ℤ) (c d : CoreValue) (a : ℕ) (e : Event)
    → IsRunOf m log numbers c → step c.module_run c.world a ≡ Stepped d.world e → d.module_run ≡ c.module_run → k ≡ m
    → IsRunOf k (log ++ one_step_of a ∷ []) (numbers ++ option_to_list (number_printed e)) d
run_steps m k log numbers c d a e r taken same is =
    subst (λ j. IsRunOf j (log ++ one_step_of a ∷ []) (numbers ++ option_to_list (number_printed e)) d) (sym is)
    (run_of m c.world.arguments (log ++ one_step_of a ∷ []) (numbers ++ option_to_list (number_printed e)) d (same ∙ r.module_is) r.leads.0
    (ap (λ l. run m l first) (schedule_more log a) ∙ run_more m (schedule_of log) first c.world d.world a e r.leads.1 stepped)
    (ap (λ l. l ++ option_to_list (number_printed e)) r.prints
    ∙ sym (ap (λ l. printed m l first) (schedule_more log a) ∙ printed_more m (schedule_of log) first c.world d.world a e r.leads.1 stepped)))
  where
    first : World
    first = opening m c.world.arguments

    stepped : step m c.world a ≡ Stepped d.world e
    stepped = subst (λ j. step j c.world a ≡ Stepped d.world e) r.module_is taken

-- one entry more is so many steps more
schedule_entry : (log : List Entry) (e : Entry) → schedule_of (log ++ e ∷ []) ≡ schedule_of log ++ replicate e.steps e.act
schedule_entry log e =
    flat_map-append (λ (x : Entry). replicate x.steps x.act) log (e ∷ [])
    ∙ ap (λ l. schedule_of log ++ l) (flat_map-cons (λ (x : Entry). replicate x.steps x.act) e [] ∙ append-nil (replicate e.steps e.act))

-- one entry more at the end of a log
pub committed : (log mid more : List Entry) (e : Entry) (a n : ℕ) → e.act ≡ a → e.steps ≡ n → mid ≡ log → more ≡ mid ++ e ∷ [] → IsCommitted log a n more
committed log mid more e a n act steps same is = (e, act, steps, is ∙ ap (λ l. l ++ e ∷ []) same)

-- by an entry whose steps nobody else can see
pub run_commits : (m k : ModuleValue) (log more : List Entry) (numbers : List ℤ) (c d : CoreValue) (a n : ℕ)
    → IsRunOf m log numbers c → RunsTo c a n d → IsUnseen c a n → d.module_run ≡ c.module_run → k ≡ m → IsCommitted log a n more → IsRunOf k more numbers d
run_commits m k log more numbers c d a n r ran hidden same is l =
    subst (λ j. IsRunOf j more numbers d) (sym is) (subst (λ es. IsRunOf m es numbers d) (sym l.3)
    (run_of m c.world.arguments (log ++ l.0 ∷ []) numbers d (same ∙ r.module_is) r.leads.0
    (ap (λ xs. run m xs first) schedule ∙ run_then m (schedule_of log) list first c.world r.leads.1
    ∙ subst (λ j. run j list c.world ≡ Through d.world) r.module_is ran)
    (r.prints ∙ sym (ap (λ xs. printed m xs first) schedule
    ∙ printed_unseen m (schedule_of log) list first c.world r.leads.1 (subst (λ j. seen j list c.world ≡ []) r.module_is hidden)))))
  where
    first : World
    first = opening m c.world.arguments

    list : List ℕ
    list = replicate n a

    schedule : schedule_of (log ++ l.0 ∷ []) ≡ schedule_of log ++ list
    schedule = schedule_entry log l.0 ∙ ap (λ j. schedule_of log ++ replicate j l.0.act) l.2 ∙ ap (λ b. schedule_of log ++ replicate n b) l.1

-- and by a turn
pub run_goes_on : {S : Type 0} (answer : S → List ℕ → ℕ) (after : S → List ℕ → S) (m k : ModuleValue) (log : List Entry) (numbers : List ℤ) (c d : CoreValue)
    (s t : S) (a : ℕ) (e : Event)
    → IsRunOf m log numbers c → IsTurn answer after c s a e d t → k ≡ m → IsRunOf k (log ++ one_step_of a ∷ []) (numbers ++ option_to_list (number_printed e)) d
run_goes_on answer after m k log numbers c d s t a e r turn is = run_steps m k log numbers c d a e r turn.stepped turn.same_module is

-- and so does what the chooser chose
chosen_goes_on : {S : Type 0} (answer : S → List ℕ → ℕ) (after : S → List ℕ → S) (m : ModuleValue) (log : List Entry) (numbers : List ℤ) (c d : CoreValue)
    (first s t : S) (a : ℕ) (e : Event)
    → IsRunOf m log numbers c → IsChosen answer after m c.world.arguments first log s → IsTurn answer after c s a e d t
    → IsChosen answer after m c.world.arguments first (log ++ one_step_of a ∷ []) t
chosen_goes_on answer after m log numbers c d first s t a e r chosen turn = record {
  follows = subst (λ l. Follows answer after m first start l) (sym (schedule_more log a))
      (follows_more answer after m (schedule_of log) first start c.world d.world a e r.leads.1 chosen.follows named stepped);
  left = turn.goes_on ∙ ap (λ j. after s (enabled_in j c.world)) r.module_is ∙ ap (λ z. after z (enabled_in m c.world)) chosen.left
      ∙ sym (ap (state_after after m first start) (schedule_more log a) ∙ state_more after m (schedule_of log) first start c.world d.world a e r.leads.1 stepped);
  single = All-push (λ (x : Entry). x.steps ≡ 1) log (one_step_of a) chosen.single refl;
}
  where
    start : World
    start = opening m c.world.arguments

    stepped : step m c.world a ≡ Stepped d.world e
    stepped = subst (λ j. step j c.world a ≡ Stepped d.world e) r.module_is turn.stepped

    named : slice_get (enabled_in m c.world) (answer (state_after after m first start (schedule_of log)) (enabled_in m c.world) % length (enabled_in m c.world)) ≡ Some a
    named = subst (λ z. slice_get (enabled_in m c.world) (answer z (enabled_in m c.world) % length (enabled_in m c.world)) ≡ Some a) chosen.left
        (subst (λ j. slice_get (enabled_in j c.world) (answer s (enabled_in j c.world) % length (enabled_in j c.world)) ≡ Some a) r.module_is turn.chosen)

-- a run that a chooser chose, within the bound
pub record IsGoing {S : Type 0} (answer : S → List ℕ → ℕ) (after : S → List ℕ → S) (m : ModuleValue) (args : List ℤ) (first : S) (log : List Entry) (c : CoreValue) (s : S) : Type 0 where
  pub same_module : c.module_run ≡ m
  pub same_arguments : c.world.arguments ≡ args
  pub bound : c.world.steps ≤ steps_bound m
  pub chosen : IsChosen answer after m args first log s

-- a turn that was noted
record IsStepNoted {S : Type 0} (answer : S → List ℕ → ℕ) (after : S → List ℕ → S) (c : CoreValue) (s : S) (log : List Entry) (d : CoreValue) (t : S)
    (more : List Entry) : Type 0 where
  act : ℕ
  event : Event
  turn : IsTurn answer after c s act event d t
  log_is : more ≡ log ++ one_step_of act ∷ []

noted_step : {S : Type 0} (answer : S → List ℕ → ℕ) (after : S → List ℕ → S) (c d : CoreValue) (s t : S) (log more : List Entry) (b : Bool) → b ≡ true
    → IsNoted answer after c s log d t more b
    → IsStepNoted answer after c s log d t more
noted_step answer after c d s t log more true e n = record { act = n.0; event = n.1; turn = n.2; log_is = n.3 }
noted_step answer after c d s t log more false e n = cc

noted_counts : {S : Type 0} (answer : S → List ℕ → ℕ) (after : S → List ℕ → S) (c d : CoreValue) (s t : S) (log more : List Entry)
    → IsStepNoted answer after c s log d t more → d.world.steps ≡ c.world.steps + 1
noted_counts answer after c d s t log more n = step_counts c.module_run c.world d.world n.act n.event n.turn.stepped

-- the run goes on by a turn that was noted
pub going_on : {S : Type 0} (answer : S → List ℕ → ℕ) (after : S → List ℕ → S) (m : ModuleValue) (args : List ℤ) (first s t : S) (log more : List Entry) (numbers : List ℤ)
    (c d : CoreValue) (b : Bool)
    → IsGoing answer after m args first log c s → IsRunOf c.module_run log numbers c → b ≡ true → IsNoted answer after c s log d t more b → d.world.steps ≤ steps_bound d.module_run
    → IsGoing answer after m args first more d t
going_on answer after m args first s t log more numbers c d b g r e noted within =
    let n = noted_step answer after c d s t log more b e noted in
    let same : d.module_run ≡ m = n.turn.same_module ∙ g.same_module in
    record {
      same_module = same;
      same_arguments = run_arguments c.module_run (n.act ∷ []) c.world d.world (ap (λ o. run_on c.world o (run c.module_run [])) n.turn.stepped) ∙ g.same_arguments;
      bound = subst (λ k. d.world.steps ≤ steps_bound k) same within;
      chosen = subst (λ l. IsChosen answer after m args first l t) (sym n.log_is) (subst (λ xs. IsChosen answer after m xs first (log ++ one_step_of n.act ∷ []) t) g.same_arguments
          (chosen_goes_on answer after m log numbers c d first s t n.act n.event (subst (λ k. IsRunOf k log numbers c) g.same_module r)
          (subst (λ xs. IsChosen answer after m xs first log s) (sym g.same_arguments) g.chosen) n.turn));
    }

-- and has fewer steps left
pub going_less : {S : Type 0} (answer : S → List ℕ → ℕ) (after : S → List ℕ → S) (s t : S) (log more : List Entry) (c d : CoreValue) (b : Bool)
    → b ≡ true → IsNoted answer after c s log d t more b → d.world.steps ≤ steps_bound d.module_run
    → steps_bound d.module_run + 1 - d.world.steps < steps_bound c.module_run + 1 - c.world.steps
going_less answer after s t log more c d b e noted within =
    let n = noted_step answer after c d s t log more b e noted in
    omega (arith, noted_counts answer after c d s t log more n, ap steps_bound n.turn.same_module, within)

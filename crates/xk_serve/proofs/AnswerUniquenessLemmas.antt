-- The answer to a job is one.
use Rattle.std.proofs.Common.{◌≡◌, ◌≢◌, ◌<◌, ◌≤◌, ◌∙◌, ℕ, ℤ, Bool, true, false, List, Option, [], ◌++◌, length, codes, None, Some, inl}
use Rattle.std.proofs.Common.{inr, refl, sym, ap, subst, arith}
use Rattle.std.specs.Prelude.{◌⊎◌}
use Rattle.std.proofs.lemmas.Bool.{false≢true}
use Rattle.std.proofs.lemmas.Option.{none-some, same_Some}
use Rattle.xk_outcome_lists.specs.Expected.{stray_line}
use Rattle.serde_json.specs.Written.{compact_text}
use Rattle.xk_types.specs.declared.world.Entry.{Entry}
use Rattle.xk_types.specs.Acceptance.{IsAccepted}
use Rattle.xk_types.specs.Bound.{steps_bound, activities_bound, clocks_bound}
use Rattle.xk_types.specs.Code.{ModuleValue, IsWithinLimits}
use Rattle.xk_types.specs.Logs.{schedule_of}
use Rattle.xk_types.specs.Schedule.{Leads, all_ended}
use Rattle.xk_types.specs.World.{AreArguments}
use Rattle.xk_bounds.specs.declared.refusal.Refusal.{Refusal}
use Rattle.xk_bounds.specs.declared.refusal.Refusal.TheVariants as refusal
use Rattle.xk_bounds.specs.Refusals.{Refuses}
use Rattle.xk_log.specs.LogText.{log_text}
use Rattle.xk_module.specs.declared.fault.ModuleFault.{ModuleFault}
use Rattle.xk_module.specs.declared.fault.ModuleFault.TheVariants as text
use Rattle.xk_module.specs.ModuleText.{IsJson, IsModuleText, module_value}
use Rattle.xk_module.proofs.TextLemmas.{one_module}
use Rattle.xk_replay.specs.Replay.{IsLegal, IsStoppedAt, IsWhole}
use Rattle.xk_replay.proofs.VerdictLemmas.{legal_not_stopped}
use Rattle.xk_tree.specs.declared.fault.FrontFault.{FrontFault}
use Rattle.xk_jobs.specs.declared.job.Form.{Form}
use Rattle.xk_jobs.specs.declared.job.Form.TheVariants as form
use Rattle.xk_jobs.specs.Tasks.{By, Greedy, In}
use Rattle.xk_answers.specs.declared.job_result.Done.{Done}
use Rattle.xk_answers.specs.declared.job_result.Done.TheVariants as done
use Rattle.xk_program.specs.declared.fault.Fault.{Fault}
use Rattle.xk_program.specs.declared.fault.Fault.TheVariants as fault
use Rattle.xk_serve.specs.Notes.{told_of}
use Rattle.xk_serve.specs.Answer.{Answers, IsSaidBy, Reply, Task, asks_verifier, done_reply, fault_reply, reads_list, reads_log, runs}
use Rattle.xk_answers.specs.Results.{Check, ComesTo, Compile, Count, Doing, Draw, Expected, ExpectedShown, Explain, IsLogText, IsNoRun, IsTelling}
use Rattle.xk_answers.specs.Results.{OutcomesShown, RunShown}
use Rattle.xk_answers.specs.Results.{IsText, Json, Listing, OutcomePage, Outcomes, Races, Replay, Run, Tally, Where, is_of_whole, list_in}
use Rattle.xk_program.specs.Refusals.{IsMisfit}
use Rattle.xk_answers.specs.Printed.{done_status, whole_status, done_log, done_text}
use Rattle.xk_answers.specs.Explanation.{Tale}
use Rattle.xk_answers.specs.declared.picture.Picture.{Picture}
use Rattle.xk_io.specs.Lines.{number_lines}
use Rattle.xk_program.specs.Lines.{fault_line, status_of}
use Rattle.xk_messages.specs.Lines.{accepted_line, ended_line, rounds_line, refusal_status, arguments_line, no_outcome_line}
use Rattle.xk_serve.specs.OneAnswer.{ComesToOne, HasOneStatus, IsDetermined, IsLeftOpen, IsReplyOf, IsSameLine, IsSameReply, TellFaults}
use Rattle.xk_answers.specs.OrderedRun.{IsGreedyRun, IsLoggedGreedyRun, IsLoggedRun, IsOrderedRun, IsReplay}
use Rattle.xk_program.specs.Programs.{Gives, IsCompiledTo, IsNoModule, IsNoSource, IsUnread, longest_module}
use Rattle.xk_serve.proofs.LogUniquenessLemmas.{no_run_once, text_not_cut, text_not_wrong, text_once, whole_not_refused}
use Rattle.xk_serve.proofs.RefusalUniquenessLemmas.{not_accepted, refusal_once, refused_status}
use Rattle.xk_serve.proofs.RunUniquenessLemmas.{greedy_logged_once, greedy_once, list_once, logged_once, ordered_once, run_taken}
use Rattle.xk_serve.proofs.DoneStatusLemmas.{done_zero}
use Rattle.xk_serve.proofs.ShownUniquenessLemmas.{PrintsShown, prints_shown, shown_once, shown_status, shown_taken}
use Rattle.xk_serve.proofs.TaskLemmas.{MayStand}
use Rattle.xk_serve.proofs.TellingUniquenessLemmas.{telling_once}
use Rattle.xk_serve.proofs.TextUniquenessLemmas.{one_text, unfit_none, unfit_once}

-- ---- what is printed where nothing stands against the job

-- what goes to standard output and to the log
abbrev pub Prints : Doing → ModuleValue → List ℤ → List ℕ → List ℕ → List ℕ → Type 0
Prints Compile m args logged out log = (out ≡ compact_text (module_value m) ++ codes "\n") × (log ≡ [])
Prints Check m args logged out log = IsAccepted m × (out ≡ accepted_line (steps_bound m) (activities_bound m) (clocks_bound m)) × (log ≡ [])
Prints (Explain json) m args logged out log = ⊥
Prints Listing m args logged out log = ⊥
Prints (Run (In o) false) m args logged out log =
    IsAccepted m × (numbers : List ℤ) × (steps : ℕ) × IsOrderedRun o m args numbers steps × (out ≡ number_lines numbers ++ ended_line steps) × (log ≡ [])
Prints (Run (In o) true) m args logged out log =
    IsAccepted m × (numbers : List ℤ) × (steps : ℕ) × (es : List Entry) × IsLoggedRun o m args numbers steps es × (out ≡ number_lines numbers ++ ended_line steps) × (log ≡ log_text es)
Prints (Run (Greedy p) false) m args logged out log =
    IsAccepted m × (numbers : List ℤ) × (steps : ℕ) × (rounds : ℕ) × IsGreedyRun p m args numbers steps rounds
    × (out ≡ number_lines numbers ++ rounds_line steps rounds) × (log ≡ [])
Prints (Run (Greedy p) true) m args logged out log =
    IsAccepted m × (numbers : List ℤ) × (steps : ℕ) × (rounds : ℕ) × (es : List Entry) × IsLoggedGreedyRun p m args numbers steps rounds es
    × (out ≡ number_lines numbers ++ rounds_line steps rounds) × (log ≡ log_text es)
Prints (Run (By n) kept) m args logged out log = IsAccepted m × AreArguments m args
Prints Replay m args logged out log =
    IsAccepted m × (numbers : List ℤ) × (steps : ℕ) × (es : List Entry) × IsLogText logged es × IsReplay m args es numbers steps × (out ≡ number_lines numbers ++ ended_line steps) × (log ≡ [])
Prints (Draw picture) m args logged out log = ⊥
Prints (Where json at) m args logged out log = ⊥
Prints (Races json) m args logged out log = ⊥
Prints (Tally seed runs) m args logged out log = ⊥
Prints (OutcomePage window limit pick) m args logged out log = ⊥
Prints (Outcomes sets limit pick kept) m args logged out log = IsAccepted m × AreArguments m args
Prints (Count sets limit) m args logged out log = IsAccepted m × AreArguments m args
Prints (Expected sets limit) m args logged out log = IsAccepted m × AreArguments m args × (stray_line (list_in logged) ≡ None)
Prints (Json s) m args logged out log = IsAccepted m × PrintsShown s m args logged out log

pub prints : (what : Doing) (m : ModuleValue) (args : List ℤ) (logged : List ℕ) (d : Done) → ComesTo what m args logged d
    → Prints what m args logged (done_text d) (done_log d)
prints Compile m args logged (done.Compiled t) h = (ap (λ bytes. bytes ++ codes "\n") h, refl)
prints Compile m args logged _ h = absurd h
prints Check m args logged (done.Accepted steps activities clocks) h =
    (h.0, ap (λ n. accepted_line n activities clocks) h.1 ∙ ap (λ n. accepted_line (steps_bound m) n clocks) h.2 ∙ ap (accepted_line (steps_bound m) (activities_bound m)) h.3, refl)
prints Check m args logged _ h = absurd h
prints (Explain json) m args logged d h = absurd h
prints Listing m args logged d h = absurd h
prints (Run (In o) false) m args logged (done.Ended numbers steps None None) h = (h.0, numbers.items, steps, h.1, refl, refl)
prints (Run (In o) false) m args logged _ h = absurd h
prints (Run (In o) true) m args logged (done.Ended numbers steps None (Some es)) h = (h.0, numbers.items, steps, es.items, h.1, refl, refl)
prints (Run (In o) true) m args logged _ h = absurd h
prints (Run (Greedy p) false) m args logged (done.Ended numbers steps (Some rounds) None) h =
    (h.0, numbers.items, steps, rounds, h.1, refl, refl)
prints (Run (Greedy p) false) m args logged _ h = absurd h
prints (Run (Greedy p) true) m args logged (done.Ended numbers steps (Some rounds) (Some es)) h =
    (h.0, numbers.items, steps, rounds, es.items, h.1, refl, refl)
prints (Run (Greedy p) true) m args logged _ h = absurd h
prints (Run (By n) false) m args logged (done.Ended numbers steps None None) h = (h.0, run_taken _ m args numbers.items steps h.1)
prints (Run (By n) false) m args logged _ h = absurd h
prints (Run (By n) true) m args logged (done.Ended numbers steps None (Some es)) h = (h.0, run_taken _ m args numbers.items steps h.1)
prints (Run (By n) true) m args logged _ h = absurd h
prints Replay m args logged (done.Ended numbers steps None None) h = (h.0, numbers.items, steps, h.1.0, h.1.1, h.1.2, refl, refl)
prints Replay m args logged _ h = absurd h
prints (Draw picture) m args logged d h = absurd h
prints (Where json at) m args logged d h = absurd h
prints (Races json) m args logged d h = absurd h
prints (Tally seed runs) m args logged d h = absurd h
prints (OutcomePage window limit pick) m args logged d h = absurd h
prints (Outcomes sets limit pick kept) m args logged (done.Outcomes t whole log) h = (h.0, h.1.taken)
prints (Outcomes sets limit pick kept) m args logged _ h = absurd h.1
prints (Count sets limit) m args logged (done.Outcomes t whole log) h = (h.0, h.1.taken)
prints (Count sets limit) m args logged _ h = absurd h.1
prints (Expected sets limit) m args logged (done.Held t found) h = (h.0, h.1.0, h.1.1.may_stand)
prints (Expected sets limit) m args logged _ h = absurd h.1
prints (Json s) m args logged d h = (h.0, prints_shown s m args logged d h.1)

-- what asks the verifier prints nothing of another module than one that is accepted
prints_accepted : (what : Doing) (m : ModuleValue) (args : List ℤ) (logged out log : List ℕ) → asks_verifier what ≡ true
    → Prints what m args logged out log → IsAccepted m
prints_accepted Compile m args logged out log asks h = absurd (false≢true asks)
prints_accepted Check m args logged out log asks h = h.0
prints_accepted (Explain json) m args logged out log asks h = absurd h
prints_accepted Listing m args logged out log asks h = absurd h
prints_accepted (Run (In o) false) m args logged out log asks h = h.0
prints_accepted (Run (In o) true) m args logged out log asks h = h.0
prints_accepted (Run (Greedy p) false) m args logged out log asks h = h.0
prints_accepted (Run (Greedy p) true) m args logged out log asks h = h.0
prints_accepted (Run (By n) kept) m args logged out log asks h = h.0
prints_accepted Replay m args logged out log asks h = h.0
prints_accepted (Draw picture) m args logged out log asks h = absurd h
prints_accepted (Where json at) m args logged out log asks h = absurd h
prints_accepted (Races json) m args logged out log asks h = absurd h
prints_accepted (Tally seed runs) m args logged out log asks h = absurd h
prints_accepted (OutcomePage window limit pick) m args logged out log asks h = absurd h
prints_accepted (Outcomes sets limit pick kept) m args logged out log asks h = h.0
prints_accepted (Count sets limit) m args logged out log asks h = h.0
prints_accepted (Expected sets limit) m args logged out log asks h = h.0
prints_accepted (Json s) m args logged out log asks h = h.0

-- main of a run takes as many numbers as it is given
prints_taken : (what : Doing) (m : ModuleValue) (args : List ℤ) (logged out log : List ℕ) → runs what ≡ true
    → Prints what m args logged out log → AreArguments m args
prints_taken Compile m args logged out log run h = absurd (false≢true run)
prints_taken Check m args logged out log run h = absurd (false≢true run)
prints_taken (Explain json) m args logged out log run h = absurd h
prints_taken Listing m args logged out log run h = absurd h
prints_taken (Run (In o) false) m args logged out log run h = run_taken _ m args h.1 h.2 h.3
prints_taken (Run (In o) true) m args logged out log run h = run_taken _ m args h.1 h.2 h.4
prints_taken (Run (Greedy p) false) m args logged out log run h = run_taken _ m args h.1 h.2 h.4
prints_taken (Run (Greedy p) true) m args logged out log run h = run_taken _ m args h.1 h.2 h.5
prints_taken (Run (By n) kept) m args logged out log run h = h.1
prints_taken Replay m args logged out log run h = run_taken _ m args h.1 h.2 h.5
prints_taken (Draw picture) m args logged out log run h = absurd h
prints_taken (Where json at) m args logged out log run h = absurd h
prints_taken (Races json) m args logged out log run h = absurd h
prints_taken (Tally seed runs) m args logged out log run h = absurd h
prints_taken (OutcomePage window limit pick) m args logged out log run h = absurd h
prints_taken (Outcomes sets limit pick kept) m args logged out log run h = h.1
prints_taken (Count sets limit) m args logged out log run h = h.1
prints_taken (Expected sets limit) m args logged out log run h = h.1
prints_taken (Json s) m args logged out log run h = shown_taken s m args logged out log h.1

replay_whole : (m : ModuleValue) (args numbers : List ℤ) (steps : ℕ) (es : List Entry) → IsReplay m args es numbers steps
    → IsWhole m args es
replay_whole m args numbers steps es r = record { last = r.last; leads = subst (λ l. Leads m l r.last) r.follows r.leads; given = r.given; over = r.over }

-- the log that is read is that of a whole run
prints_whole : (what : Doing) (m : ModuleValue) (args : List ℤ) (logged out log : List ℕ) → reads_log what ≡ true
    → Prints what m args logged out log
    → (es : List Entry) × IsLogText logged es × IsWhole m args es
prints_whole Compile m args logged out log reads h = absurd (false≢true reads)
prints_whole Check m args logged out log reads h = absurd (false≢true reads)
prints_whole (Explain json) m args logged out log reads h = absurd h
prints_whole Listing m args logged out log reads h = absurd h
prints_whole (Run way kept) m args logged out log reads h = absurd (false≢true reads)
prints_whole Replay m args logged out log reads h = (h.3, h.4, replay_whole m args h.1 h.2 h.3 h.5)
prints_whole (Draw picture) m args logged out log reads h = absurd h
prints_whole (Where json at) m args logged out log reads h = absurd h
prints_whole (Races json) m args logged out log reads h = absurd h
prints_whole (Tally seed runs) m args logged out log reads h = absurd h
prints_whole (OutcomePage window limit pick) m args logged out log reads h = absurd h
prints_whole (Outcomes sets limit pick kept) m args logged out log reads h = absurd (false≢true reads)
prints_whole (Count sets limit) m args logged out log reads h = absurd (false≢true reads)
prints_whole (Expected sets limit) m args logged out log reads h = absurd (false≢true reads)
prints_whole (Json s) m args logged out log reads h = absurd (false≢true reads)

-- the lines of a run
same_lines : (numbers others : List ℤ) (n k : ℕ) → numbers ≡ others → n ≡ k
    → number_lines numbers ++ ended_line n ≡ number_lines others ++ ended_line k
same_lines numbers others n k e d = ap (λ xs. number_lines xs ++ ended_line n) e ∙ ap (λ j. number_lines others ++ ended_line j) d

-- those of one by rounds
same_rounds : (numbers others : List ℤ) (n k rounds tally : ℕ) → numbers ≡ others → n ≡ k → rounds ≡ tally
    → number_lines numbers ++ rounds_line n rounds ≡ number_lines others ++ rounds_line k tally
same_rounds numbers others n k rounds tally e d f = ap (λ xs. number_lines xs ++ rounds_line n rounds) e
    ∙ ap (λ j. number_lines others ++ rounds_line j rounds) d ∙ ap (λ j. number_lines others ++ rounds_line k j) f

-- one thing is printed, and one log
pub prints_once : (what : Doing) (m : ModuleValue) (args : List ℤ) (logged out log other kept : List ℕ) → ComesToOne what
    → Prints what m args logged out log
    → Prints what m args logged other kept → (out ≡ other) × (log ≡ kept)
prints_once Compile m args logged out log other kept none p q = (p.0 ∙ sym q.0, p.1 ∙ sym q.1)
prints_once Check m args logged out log other kept none p q = (p.1 ∙ sym q.1, p.2 ∙ sym q.2)
prints_once (Explain json) m args logged out log other kept none p q = absurd p
prints_once Listing m args logged out log other kept none p q = absurd p
prints_once (Run (In o) false) m args logged out log other kept none p q =
    let same = ordered_once o m args p.1 q.1 p.2 q.2 p.3 q.3 in
    (p.4 ∙ same_lines p.1 q.1 p.2 q.2 same.0 same.1 ∙ sym q.4, p.5 ∙ sym q.5)
prints_once (Run (In o) true) m args logged out log other kept none p q =
    let same = logged_once o m args p.1 q.1 p.2 q.2 p.3 q.3 p.4 q.4 in
    (p.5 ∙ same_lines p.1 q.1 p.2 q.2 same.0 same.1 ∙ sym q.5, p.6 ∙ ap log_text same.2 ∙ sym q.6)
prints_once (Run (Greedy p) false) m args logged out log other kept none g h =
    let same = greedy_once p m args g.1 h.1 g.2 h.2 g.3 h.3 g.4 h.4 in
    (g.5 ∙ same_rounds g.1 h.1 g.2 h.2 g.3 h.3 same.0 same.1 same.2 ∙ sym h.5, g.6 ∙ sym h.6)
prints_once (Run (Greedy p) true) m args logged out log other kept none g h =
    let same = greedy_logged_once p m args g.1 h.1 g.2 h.2 g.3 h.3 g.4 h.4 g.5 h.5 in
    (g.6 ∙ same_rounds g.1 h.1 g.2 h.2 g.3 h.3 same.0 same.1 same.2 ∙ sym h.6, g.7 ∙ ap log_text same.3 ∙ sym h.7)
prints_once (Run (By n) kept) m args logged out log other written none p q = absurd none
prints_once Replay m args logged out log other kept none p q =
    let es = text_once logged p.3 q.3 p.4 q.4 in
    let same = list_once _ _ m args p.1 q.1 p.2 q.2 p.5 q.5 (p.5.follows ∙ ap schedule_of es ∙ sym q.5.follows) in
    (p.6 ∙ same_lines p.1 q.1 p.2 q.2 same.0 same.1 ∙ sym q.6, p.7 ∙ sym q.7)
prints_once (Draw picture) m args logged out log other kept none p q = absurd p
prints_once (Where json at) m args logged out log other kept none p q = absurd p
prints_once (Races json) m args logged out log other kept none p q = absurd p
prints_once (Tally seed runs) m args logged out log other kept none p q = absurd p
prints_once (OutcomePage window limit pick) m args logged out log other kept none p q = absurd p
prints_once (Outcomes sets limit pick written) m args logged out log other kept none p q = absurd none
prints_once (Count sets limit) m args logged out log other kept none p q = absurd none
prints_once (Expected sets limit) m args logged out log other kept none p q = absurd none
prints_once (Json s) m args logged out log other kept none p q = shown_once s m args logged out log other kept none p.1 q.1

pub done_once : (what : Doing) (m : ModuleValue) (args : List ℤ) (logged : List ℕ) (d e : Done) → ComesToOne what
    → ComesTo what m args logged d
    → ComesTo what m args logged e → (done_text d ≡ done_text e) × (done_log d ≡ done_log e)
done_once what m args logged d e none p q =
    prints_once what m args logged (done_text d) (done_log d) (done_text e) (done_log e) none (prints what m args logged d p) (prints what m args logged e q)

-- ---- what is said of a fault

-- what is said of a fault
said_determined : (what : Doing) (kind : Form) (file bytes said : List ℕ) (f : Fault)
    → IsSaidBy what kind file bytes f said → IsDetermined what → said ≡ []
said_determined (Explain json) kind file bytes said f h one = absurd one
said_determined Check kind file bytes said f h one = h
said_determined Compile kind file bytes said f h one = h
said_determined Listing kind file bytes said f h one = h
said_determined (Run way kept) kind file bytes said f h one = h
said_determined Replay kind file bytes said f h one = h
said_determined (Draw picture) kind file bytes said f h one = h
said_determined (Where json at) kind file bytes said f h one = h
said_determined (Races json) kind file bytes said f h one = h
said_determined (Tally seed runs) kind file bytes said f h one = h
said_determined (OutcomePage window limit pick) kind file bytes said f h one = h
said_determined (Outcomes sets limit pick kept) kind file bytes said f h one = h
said_determined (Count sets limit) kind file bytes said f h one = h
said_determined (Expected sets limit) kind file bytes said f h one = h
said_determined (Json s) kind file bytes said f h one = h

-- ---- what is told of it

-- a legal log of which a picture is drawn isn't refused; where that is one of whole runs, all have ended behind it
picture_stands : (p : Picture) (m : ModuleValue) (args : List ℤ) (logged : List ℕ) (es : List Entry) (f : Fault) → IsLogText logged es
    → (legal : IsLegal m args es) → (is_of_whole p ≡ true → all_ended legal.last ≡ true) → IsNoRun m args logged f → MayStand (Draw p) f
    → status_of f ≢ 4 → ⊥
picture_stands p m args logged es (fault.Text f) text legal over told_by may not4 = told_by
picture_stands p m args logged es (fault.Front f) text legal over told_by may not4 = told_by
picture_stands p m args logged es (fault.Refused r) text legal over told_by may not4 = told_by
picture_stands p m args logged es (fault.Arguments wants has) text legal over told_by may not4 = told_by
picture_stands p m args logged es (fault.Grammar line) text legal over told_by may not4 = text_not_wrong logged line es text told_by
picture_stands p m args logged es fault.Truncated text legal over told_by may not4 = text_not_cut logged es text told_by
picture_stands p m args logged es (fault.NotEnabled i) text legal over told_by may not4 =
    let same = text_once logged told_by.0 es told_by.1 text in
    legal_not_stopped m args es i legal (subst (λ xs. IsStoppedAt m args xs i) same told_by.2)
picture_stands p m args logged es fault.NotEnded text legal over told_by may not4 =
    whole_not_refused m args logged fault.NotEnded es told_by not4 text
    (record { last = legal.last; leads = legal.leads; given = legal.given; over = over may })
picture_stands p m args logged es (fault.NoOutcome line) text legal over told_by may not4 = told_by
picture_stands p m args logged es fault.OutOfMemory text legal over told_by may not4 = not4 refl
picture_stands p m args logged es fault.Device text legal over told_by may not4 = told_by

-- a text of a log that need not be that of a whole run isn't refused
text_stands : (json : Bool) (at : Option ℕ) (m : ModuleValue) (args : List ℤ) (logged : List ℕ) (es : List Entry) (f : Fault) → IsLogText logged es → IsNoRun m args logged f → MayStand (Where json at) f
    → status_of f ≢ 4 → ⊥
text_stands json at m args logged es (fault.NotEnabled i) text told_by may not4 = false≢true may
text_stands json at m args logged es fault.NotEnded text told_by may not4 = false≢true may
text_stands json at m args logged es (fault.NoOutcome line) text told_by may not4 = told_by
text_stands json at m args logged es (fault.Grammar line) text told_by may not4 = text_not_wrong logged line es text told_by
text_stands json at m args logged es fault.Truncated text told_by may not4 = text_not_cut logged es text told_by
text_stands json at m args logged es fault.OutOfMemory text told_by may not4 = not4 refl
text_stands json at m args logged es (fault.Text f) text told_by may not4 = told_by
text_stands json at m args logged es (fault.Front f) text told_by may not4 = told_by
text_stands json at m args logged es (fault.Refused r) text told_by may not4 = told_by
text_stands json at m args logged es (fault.Arguments wants has) text told_by may not4 = told_by
text_stands json at m args logged es fault.Device text told_by may not4 = told_by

-- a log of which something is told isn't refused
telling_stands : (what : Doing) (kind : Form) (file bytes : List ℕ) (m : ModuleValue) (args : List ℤ) (logged : List ℕ) (told : Tale) (f : Fault) → reads_log what ≡ true
    → IsTelling what kind file bytes m args logged told → IsNoRun m args logged f → MayStand what f → status_of f ≢ 4 → ⊥
telling_stands (Draw picture) kind file bytes m args logged told f reads h told_by may not4 =
    let of = h.1 in picture_stands picture m args logged of.0 f of.1 of.2 of.3 told_by may not4
telling_stands (Where json at) kind file bytes m args logged told f reads h told_by may not4 = text_stands json at m args logged h.1.1.0 f h.1.1.1 told_by may not4
telling_stands (Races json) kind file bytes m args logged told f reads h told_by may not4 = false≢true reads
telling_stands (Tally seed count) kind file bytes m args logged told f reads h told_by may not4 = false≢true reads
telling_stands (OutcomePage window limit pick) kind file bytes m args logged told f reads h told_by may not4 = false≢true reads
telling_stands (Explain json) kind file bytes m args logged told f reads h told_by may not4 = false≢true reads
telling_stands Listing kind file bytes m args logged told f reads h told_by may not4 = false≢true reads
telling_stands Check kind file bytes m args logged told f reads h told_by may not4 = h
telling_stands Compile kind file bytes m args logged told f reads h told_by may not4 = h
telling_stands (Run way kept) kind file bytes m args logged told f reads h told_by may not4 = h
telling_stands Replay kind file bytes m args logged told f reads h told_by may not4 = h
telling_stands (Outcomes sets limit pick kept) kind file bytes m args logged told f reads h told_by may not4 = h
telling_stands (Count sets limit) kind file bytes m args logged told f reads h told_by may not4 = h
telling_stands (Expected sets limit) kind file bytes m args logged told f reads h told_by may not4 = h
telling_stands (Json s) kind file bytes m args logged told f reads h told_by may not4 = h

-- main of what is run takes as many numbers as it is given
telling_taken : (what : Doing) (kind : Form) (file bytes : List ℕ) (m : ModuleValue) (args : List ℤ) (logged : List ℕ) (told : Tale) → runs what ≡ true
    → IsTelling what kind file bytes m args logged told → AreArguments m args
telling_taken (Draw picture) kind file bytes m args logged told run h = subst (AreArguments m) h.1.2.given h.1.2.leads.0
telling_taken (Where json at) kind file bytes m args logged told run h = h.1.0
telling_taken (Races json) kind file bytes m args logged told run h = run_taken _ m args h.1.0 h.1.1 h.1.3
telling_taken (Tally seed runs) kind file bytes m args logged told run h = h.1
telling_taken (OutcomePage window limit pick) kind file bytes m args logged told run h = h.1.3.found.taken
telling_taken (Explain json) kind file bytes m args logged told run h = absurd (false≢true run)
telling_taken Listing kind file bytes m args logged told run h = absurd (false≢true run)
telling_taken Check kind file bytes m args logged told run h = absurd h
telling_taken Compile kind file bytes m args logged told run h = absurd h
telling_taken (Run way kept) kind file bytes m args logged told run h = absurd h
telling_taken Replay kind file bytes m args logged told run h = absurd h
telling_taken (Outcomes sets limit pick kept) kind file bytes m args logged told run h = absurd h
telling_taken (Count sets limit) kind file bytes m args logged told run h = absurd h
telling_taken (Expected sets limit) kind file bytes m args logged told run h = absurd h
telling_taken (Json s) kind file bytes m args logged told run h = absurd h

-- what is told isn't printed
telling_unprinted : (what : Doing) (kind : Form) (file bytes : List ℕ) (m : ModuleValue) (args : List ℤ) (logged : List ℕ) (told : Tale) (out log : List ℕ)
    → IsTelling what kind file bytes m args logged told → Prints what m args logged out log → ⊥
telling_unprinted (Explain json) kind file bytes m args logged told out log h p = p
telling_unprinted Listing kind file bytes m args logged told out log h p = p
telling_unprinted (Draw picture) kind file bytes m args logged told out log h p = p
telling_unprinted (Where json at) kind file bytes m args logged told out log h p = p
telling_unprinted (Races json) kind file bytes m args logged told out log h p = p
telling_unprinted (Tally seed runs) kind file bytes m args logged told out log h p = p
telling_unprinted (OutcomePage window limit pick) kind file bytes m args logged told out log h p = p
telling_unprinted Check kind file bytes m args logged told out log h p = h
telling_unprinted Compile kind file bytes m args logged told out log h p = h
telling_unprinted (Run way kept) kind file bytes m args logged told out log h p = h
telling_unprinted Replay kind file bytes m args logged told out log h p = h
telling_unprinted (Outcomes sets limit pick kept) kind file bytes m args logged told out log h p = h
telling_unprinted (Count sets limit) kind file bytes m args logged told out log h p = h
telling_unprinted (Expected sets limit) kind file bytes m args logged told out log h p = h
telling_unprinted (Json s) kind file bytes m args logged told out log h p = h

telling_accepted : (what : Doing) (kind : Form) (file bytes : List ℕ) (m : ModuleValue) (args : List ℤ) (logged : List ℕ) (told : Tale) → asks_verifier what ≡ true
    → IsTelling what kind file bytes m args logged told → IsAccepted m
telling_accepted (Explain json) kind file bytes m args logged told asks h = h.0
telling_accepted (Draw picture) kind file bytes m args logged told asks h = h.0
telling_accepted (Where json at) kind file bytes m args logged told asks h = h.0
telling_accepted (Races json) kind file bytes m args logged told asks h = h.0
telling_accepted (Tally seed runs) kind file bytes m args logged told asks h = h.0
telling_accepted (OutcomePage window limit pick) kind file bytes m args logged told asks h = h.0
telling_accepted Listing kind file bytes m args logged told asks h = absurd (false≢true asks)
telling_accepted Check kind file bytes m args logged told asks h = absurd h
telling_accepted Compile kind file bytes m args logged told asks h = absurd h
telling_accepted (Run way kept) kind file bytes m args logged told asks h = absurd h
telling_accepted Replay kind file bytes m args logged told asks h = absurd h
telling_accepted (Outcomes sets limit pick kept) kind file bytes m args logged told asks h = absurd h
telling_accepted (Count sets limit) kind file bytes m args logged told asks h = absurd h
telling_accepted (Expected sets limit) kind file bytes m args logged told asks h = absurd h
telling_accepted (Json s) kind file bytes m args logged told asks h = absurd h

-- it goes to standard output, and nothing to the log, and the status says whether it is whole
pub text_told : (P : Tale → Type 0) (d : Done) → IsText P d
    → (whole : Bool) × P (done_text d, whole) × (done_status d ≡ whole_status whole) × (done_log d ≡ [])
text_told P (done.Told text whole) h = (whole, h, refl, refl)
text_told P (done.Compiled text) h = absurd h
text_told P (done.Accepted steps activities clocks) h = absurd h
text_told P (done.Outcomes text whole log) h = absurd h
text_told P (done.Held text found) h = absurd h
text_told P (done.Ended numbers steps rounds log) h = absurd h

-- what is told of the same bytes is one
pub told_once : (t : Task) (bytes logged : List ℕ) (m : ModuleValue) (d e : Done) → HasOneStatus t.doing → Gives t.form bytes m
    → IsText (IsTelling t.doing t.form t.file bytes m t.arguments logged) d → IsText (IsTelling t.doing t.form t.file bytes m t.arguments logged) e
    → (done_text d ≡ done_text e) × (done_log d ≡ done_log e)
told_once t bytes logged m d e one given p q =
    let a = text_told (IsTelling t.doing t.form t.file bytes m t.arguments logged) d p in
    let b = text_told (IsTelling t.doing t.form t.file bytes m t.arguments logged) e q in
    let same = telling_once t.doing t.form t.file bytes m t.arguments logged (done_text d, a.0) (done_text e, b.0) one given a.1 b.1 in
    (ap (λ (tale : Tale). tale.0) same, a.3 ∙ sym b.3)

-- ---- lists

-- what reads a list holds outcomes against it, and says so in a line or in a value
lists_alone : (what : Doing) → reads_list what ≡ true
    → (sets : Bool) × (limit : Option ℕ) × ((what ≡ Expected sets limit) ⊎ (what ≡ Json (ExpectedShown sets limit)))
lists_alone (Expected sets limit) lists = (sets, limit, inl refl)
lists_alone (Json (RunShown way kept)) lists = absurd (false≢true lists)
lists_alone (Json (OutcomesShown sets limit pick kept)) lists = absurd (false≢true lists)
lists_alone (Json (ExpectedShown sets limit)) lists = (sets, limit, inr refl)
lists_alone (Outcomes sets limit pick kept) lists = absurd (false≢true lists)
lists_alone (Count sets limit) lists = absurd (false≢true lists)
lists_alone (Explain json) lists = absurd (false≢true lists)
lists_alone Check lists = absurd (false≢true lists)
lists_alone Compile lists = absurd (false≢true lists)
lists_alone Listing lists = absurd (false≢true lists)
lists_alone (Run way kept) lists = absurd (false≢true lists)
lists_alone Replay lists = absurd (false≢true lists)
lists_alone (Draw picture) lists = absurd (false≢true lists)
lists_alone (Where json at) lists = absurd (false≢true lists)
lists_alone (Races json) lists = absurd (false≢true lists)
lists_alone (Tally seed runs) lists = absurd (false≢true lists)
lists_alone (OutcomePage window limit pick) lists = absurd (false≢true lists)

-- and reads no log
list_or_log : (what : Doing) → reads_list what ≡ true → reads_log what ≡ true → ⊥
list_or_log what lists reads = by (lists_alone what lists).2
  where
    by : {sets : Bool} {limit : Option ℕ} → (what ≡ Expected sets limit) ⊎ (what ≡ Json (ExpectedShown sets limit)) → ⊥
    by (inl e) = false≢true (ap reads_log (sym e) ∙ reads)
    by (inr e) = false≢true (ap reads_log (sym e) ∙ reads)

-- where outcomes are held against a list, each of its lines may stand there
prints_listed : (what : Doing) (m : ModuleValue) (args : List ℤ) (logged out log : List ℕ) (line : ℕ) → reads_list what ≡ true → Prints what m args logged out log
    → stray_line (list_in logged) ≡ Some line → ⊥
prints_listed what m args logged out log line lists p stray = by (lists_alone what lists).2
  where
    by : {sets : Bool} {limit : Option ℕ} → (what ≡ Expected sets limit) ⊎ (what ≡ Json (ExpectedShown sets limit)) → ⊥
    by {sets = sets} {limit = limit} (inl e) =
        let held : Prints (Expected sets limit) m args logged out log = subst (λ x. Prints x m args logged out log) e p in
        none-some line (sym held.2 ∙ stray)
    by {sets = sets} {limit = limit} (inr e) =
        let held : Prints (Json (ExpectedShown sets limit)) m args logged out log = subst (λ x. Prints x m args logged out log) e p in
        none-some line (sym held.1.1 ∙ stray)

-- of what reads a list nothing is told
telling_unlisted : (what : Doing) (kind : Form) (file bytes : List ℕ) (m : ModuleValue) (args : List ℤ) (logged : List ℕ) (told : Tale) → reads_list what ≡ true
    → IsTelling what kind file bytes m args logged told → ⊥
telling_unlisted what kind file bytes m args logged told lists h = by (lists_alone what lists).2
  where
    by : {sets : Bool} {limit : Option ℕ} → (what ≡ Expected sets limit) ⊎ (what ≡ Json (ExpectedShown sets limit)) → ⊥
    by {sets = sets} {limit = limit} (inl e) =
        let none : IsTelling (Expected sets limit) kind file bytes m args logged told =
        subst (λ x. IsTelling x kind file bytes m args logged told) e h in
        none
    by {sets = sets} {limit = limit} (inr e) =
        let none : IsTelling (Json (ExpectedShown sets limit)) kind file bytes m args logged told =
        subst (λ x. IsTelling x kind file bytes m args logged told) e h in
        none

-- ---- what is said of a module

-- The reply is that of a refusal, of arguments that aren't as many as main takes, of a log of no run, of a line that may not stand in a list, of what the
-- job comes to, or of what it tells.
pub data Said (t : Task) (bytes : List ℕ) (m : ModuleValue) (logged : List ℕ) (r : Reply) : Type 0 where
  Refusing : (f : Refusal) → asks_verifier t.doing ≡ true → Refuses m f → refusal_status f ≢ 4 → IsReplyOf t bytes (fault.Refused f) r
      → Said t bytes m logged r
  Misfit : (wants has : ℕ) → runs t.doing ≡ true → IsAccepted m → IsMisfit m t.arguments wants has
      → IsReplyOf t bytes (fault.Arguments wants has) r → Said t bytes m logged r
  NoRun : (f : Fault) → reads_log t.doing ≡ true → IsAccepted m → AreArguments m t.arguments → IsNoRun m t.arguments logged f × MayStand t.doing f → status_of f ≢ 4
      → IsReplyOf t bytes f r → Said t bytes m logged r
  Astray : (line : ℕ) → reads_list t.doing ≡ true → IsAccepted m → AreArguments m t.arguments → stray_line (list_in logged) ≡ Some line
      → IsReplyOf t bytes (fault.NoOutcome line) r → Said t bytes m logged r
  Does : (HasOneStatus t.doing → r.status ≡ 0) → r.err ≡ [] → Prints t.doing m t.arguments logged r.out r.log → Said t bytes m logged r
  Telling : (whole : Bool) → r.status ≡ whole_status whole → r.err ≡ [] → IsTelling t.doing t.form t.file bytes m t.arguments logged (r.out, whole) → r.log ≡ []
      → Said t bytes m logged r

-- the replies of two faults that have one line, but for a walk
same_faults : (t : Task) (bytes : List ℕ) (r s : Reply) (f g : Fault) → IsReplyOf t bytes f r → IsReplyOf t bytes g s
    → status_of f ≡ status_of g
    → IsSameLine (told_of t.doing bytes f) (told_of t.doing bytes g) → IsSameReply t.doing r s
same_faults t bytes r s f g e d same lines = record {
  status = λ one. ap (λ (z : Reply). z.status) e.2 ∙ same ∙ sym (ap (λ (z : Reply). z.status) d.2);
  err = subst (λ (z : Reply). IsSameLine z.err s.err) (sym e.2)
      (subst (λ (z : Reply). IsSameLine (told_of t.doing bytes f) z.err) (sym d.2) lines);
  out = λ one. ap (λ (z : Reply). z.out) e.2
      ∙ (said_determined t.doing t.form t.file bytes e.0 f e.1 one ∙ sym (said_determined t.doing t.form t.file bytes d.0 g d.1 one))
      ∙ sym (ap (λ (z : Reply). z.out) d.2);
  log = λ one. ap (λ (z : Reply). z.log) e.2 ∙ sym (ap (λ (z : Reply). z.log) d.2);
}

same_misfits : (m : ModuleValue) (args : List ℤ) (wants has other given : ℕ) → IsMisfit m args wants has → IsMisfit m args other given
    → arguments_line wants has ≡ arguments_line other given
same_misfits m args wants has other given p q =
    ap (λ n. arguments_line n has) (p.wants_are ∙ sym q.wants_are) ∙ ap (arguments_line other) (p.has_are ∙ sym q.has_are)

-- what is determined comes to one thing
determined : (what : Doing) → IsDetermined what → ComesToOne what
determined (Explain json) one = absurd one
determined Check one = tt
determined Compile one = tt
determined Listing one = tt
determined (Run (In o) kept) one = tt
determined (Run (Greedy p) kept) one = tt
determined (Run (By n) kept) one = absurd one
determined Replay one = tt
determined (Draw picture) one = tt
determined (Where json at) one = tt
determined (Races json) one = tt
determined (Tally seed runs) one = tt
determined (OutcomePage window limit pick) one = absurd one
determined (Outcomes sets limit pick kept) one = absurd one
determined (Count sets limit) one = absurd one
determined (Expected sets limit) one = absurd one
determined (Json s) one = one

-- and has one status
determined_status : (what : Doing) → IsDetermined what → HasOneStatus what
determined_status (Explain json) one = absurd one
determined_status Check one = tt
determined_status Compile one = tt
determined_status Listing one = tt
determined_status (Run (In o) kept) one = tt
determined_status (Run (Greedy p) kept) one = tt
determined_status (Run (By n) kept) one = absurd one
determined_status Replay one = tt
determined_status (Draw picture) one = tt
determined_status (Where json at) one = tt
determined_status (Races json) one = tt
determined_status (Tally seed runs) one = tt
determined_status (OutcomePage window limit pick) one = absurd one
determined_status (Outcomes sets limit pick kept) one = absurd one
determined_status (Count sets limit) one = absurd one
determined_status (Expected sets limit) one = absurd one
determined_status (Json s) one = shown_status s one

module _ (t : Task) (bytes : List ℕ) (m : ModuleValue) (logged : List ℕ) (r s : Reply) (given : Gives t.form bytes m) where
  same_said : Said t bytes m logged r → Said t bytes m logged s → IsSameReply t.doing r s
  same_said (Refusing f asks p n e) (Refusing g again q k d) =
      same_faults t bytes r s (fault.Refused f) (fault.Refused g) e d (refused_status f n ∙ sym (refused_status g k)) (refusal_once m f g
      p q n k)
  same_said (Refusing f asks p n e) (Misfit wants has run ok q d) = absurd (not_accepted m f ok p n)
  same_said (Refusing f asks p n e) (NoRun g reads ok taken q k d) = absurd (not_accepted m f ok p n)
  same_said (Refusing f asks p n e) (Astray line lists ok taken q d) = absurd (not_accepted m f ok p n)
  same_said (Refusing f asks p n e) (Does zero quiet q) = absurd (not_accepted m f (prints_accepted t.doing m t.arguments logged s.out s.log asks q) p n)
  same_said (Refusing f asks p n e) (Telling whole zero quiet q none) = absurd (not_accepted m f (telling_accepted t.doing t.form t.file bytes m t.arguments logged (s.out, whole) asks q) p n)
  same_said (Misfit wants has run ok p e) (Refusing g again q k d) = absurd (not_accepted m g ok q k)
  same_said (Misfit wants has run ok p e) (Misfit other given again fine q d) =
      same_faults t bytes r s (fault.Arguments wants has) (fault.Arguments other given) e d refl (inl (same_misfits m t.arguments wants
      has other given p q))
  same_said (Misfit wants has run ok p e) (NoRun g reads fine taken q k d) = absurd (p.misfit taken)
  same_said (Misfit wants has run ok p e) (Astray line lists fine taken q d) = absurd (p.misfit taken)
  same_said (Misfit wants has run ok p e) (Does zero quiet q) = absurd (p.misfit (prints_taken t.doing m t.arguments logged s.out s.log run q))
  same_said (Misfit wants has run ok p e) (Telling whole zero quiet q none) = absurd (p.misfit (telling_taken t.doing t.form t.file bytes m t.arguments logged (s.out, whole) run q))
  same_said (NoRun f reads ok taken p n e) (Refusing g again q k d) = absurd (not_accepted m g ok q k)
  same_said (NoRun f reads ok taken p n e) (Misfit wants has run fine q d) = absurd (q.misfit taken)
  same_said (NoRun f reads ok taken p n e) (NoRun g again fine fits q k d) =
      let same = no_run_once m t.arguments logged f g p.0 q.0 n k in
      same_faults t bytes r s f g e d (ap status_of same) (inl (ap (told_of t.doing bytes) same))
  same_said (NoRun f reads ok taken p n e) (Astray line lists fine fits q d) = absurd (list_or_log t.doing lists reads)
  same_said (NoRun f reads ok taken p n e) (Does zero quiet q) =
      let whole = prints_whole t.doing m t.arguments logged s.out s.log reads q in absurd (whole_not_refused m t.arguments logged f whole.0 p.0 n whole.1 whole.2)
  same_said (NoRun f reads ok taken p n e) (Telling whole zero quiet q none) =
      absurd (telling_stands t.doing t.form t.file bytes m t.arguments logged (s.out, whole) f reads q p.0 p.1 n)
  same_said (Does zero quiet p) (Refusing g again q k d) = absurd (not_accepted m g (prints_accepted t.doing m t.arguments logged r.out r.log again p) q k)
  same_said (Does zero quiet p) (Misfit wants has run ok q d) = absurd (q.misfit (prints_taken t.doing m t.arguments logged r.out r.log run p))
  same_said (Does zero quiet p) (NoRun g reads ok taken q k d) =
      let whole = prints_whole t.doing m t.arguments logged r.out r.log reads p in absurd (whole_not_refused m t.arguments logged g whole.0 q.0 k whole.1 whole.2)
  same_said (Astray line lists ok taken p e) (Refusing g again q k d) = absurd (not_accepted m g ok q k)
  same_said (Astray line lists ok taken p e) (Misfit wants has run fine q d) = absurd (q.misfit taken)
  same_said (Astray line lists ok taken p e) (NoRun g reads fine fits q k d) = absurd (list_or_log t.doing lists reads)
  same_said (Astray line lists ok taken p e) (Astray other again fine fits q d) =
      let same : line ≡ other = same_Some line other (sym p ∙ q) in
      same_faults t bytes r s (fault.NoOutcome line) (fault.NoOutcome other) e d refl (inl (ap no_outcome_line same))
  same_said (Astray line lists ok taken p e) (Does zero quiet q) = absurd (prints_listed t.doing m t.arguments logged s.out s.log line lists q p)
  same_said (Astray line lists ok taken p e) (Telling whole zero quiet q none) = absurd (telling_unlisted t.doing t.form t.file bytes m t.arguments logged (s.out, whole) lists q)
  same_said (Does zero quiet p) (Astray line lists ok taken q d) = absurd (prints_listed t.doing m t.arguments logged r.out r.log line lists p q)
  same_said (Does zero quiet p) (Does none silent q) = record {
    status = λ one. zero one ∙ sym (none one);
    err = inl (quiet ∙ sym silent);
    out = λ one. (prints_once t.doing m t.arguments logged r.out r.log s.out s.log (determined t.doing one) p q).0;
    log = λ orders. (prints_once t.doing m t.arguments logged r.out r.log s.out s.log orders p q).1;
  }
  same_said (Does zero quiet p) (Telling whole none silent q log) = absurd (telling_unprinted t.doing t.form t.file bytes m t.arguments logged (s.out, whole) r.out r.log q p)
  same_said (Telling whole zero quiet p log) (Refusing g again q k d) = absurd (not_accepted m g (telling_accepted t.doing t.form t.file bytes m t.arguments logged (r.out, whole) again p) q k)
  same_said (Telling whole zero quiet p log) (Misfit wants has run ok q d) = absurd (q.misfit (telling_taken t.doing t.form t.file bytes m t.arguments logged (r.out, whole) run p))
  same_said (Telling whole zero quiet p log) (NoRun g reads ok taken q k d) =
      absurd (telling_stands t.doing t.form t.file bytes m t.arguments logged (r.out, whole) g reads p q.0 q.1 k)
  same_said (Telling whole zero quiet p log) (Astray line lists ok taken q d) = absurd (telling_unlisted t.doing t.form t.file bytes m t.arguments logged (r.out, whole) lists p)
  same_said (Telling whole zero quiet p log) (Does none silent q) = absurd (telling_unprinted t.doing t.form t.file bytes m t.arguments logged (r.out, whole) s.out s.log p q)
  same_said (Telling whole zero quiet p log) (Telling all none silent q unlogged) =
      let same : HasOneStatus t.doing → ◌≡◌ {A = Tale} (r.out, whole) (s.out, all) =
      λ one. telling_once t.doing t.form t.file bytes m t.arguments logged (r.out, whole) (s.out, all) one given p q in
      record {
        status = λ one. zero ∙ ap (λ (tale : Tale). whole_status tale.1) (same one) ∙ sym none;
        err = inl (quiet ∙ sym silent);
        out = λ one. ap (λ (tale : Tale). tale.0) (same (determined_status t.doing one));
        log = λ orders. log ∙ sym unlogged;
      }

-- ---- what is said of bytes

-- the bytes are no module text, or no source text of a program without faults, or they give a module, of which this is said
pub data Case (t : Task) (bytes logged : List ℕ) (r : Reply) : Type 0 where
  Unread : (f : ModuleFault) → t.form ≡ form.Module → IsNoModule bytes f → IsReplyOf t bytes (fault.Text f) r → Case t bytes logged r
  Unfit : (f : FrontFault) → t.form ≡ form.Source → IsNoSource bytes f → IsReplyOf t bytes (fault.Front f) r → Case t bytes logged r
  Read : (m : ModuleValue) → Gives t.form bytes m → Said t bytes m logged r → Case t bytes logged r

-- of a fault that is told where a module is given
status_not : (t : Task) (bytes : List ℕ) (r : Reply) (f : Fault) (said : List ℕ) → r ≡ fault_reply t bytes said f → r.status ≢ 4
    → status_of f ≢ 4
status_not t bytes r f said e not4 = λ is. not4 (ap (λ (z : Reply). z.status) e ∙ is)

pub no_source : (t : Task) → t.form ≡ form.Module → t.form ≡ form.Source → ⊥
no_source t e d = let both : form.Module ≡ form.Source = sym e ∙ d in cc

done_said : (t : Task) (bytes : List ℕ) (m : ModuleValue) (logged : List ℕ) (r : Reply) (d : Done) → r ≡ done_reply d
    → ComesTo t.doing m t.arguments logged d ⊎ IsText (IsTelling t.doing t.form t.file bytes m t.arguments logged) d → Said t bytes m logged r
done_said t bytes m logged r d e (inl h) = Does (λ one. ap (λ (z : Reply). z.status) e ∙ done_zero t.doing m t.arguments logged d one h) (ap (λ (z : Reply). z.err) e)
    (subst (λ (z : Reply). Prints t.doing m t.arguments logged z.out z.log) (sym e) (prints t.doing m t.arguments logged d h))
done_said t bytes m logged r d e (inr h) =
    let told = text_told (IsTelling t.doing t.form t.file bytes m t.arguments logged) d h in
    Telling told.0 (ap (λ (z : Reply). z.status) e ∙ told.2) (ap (λ (z : Reply). z.err) e)
    (subst (λ (z : Reply). IsTelling t.doing t.form t.file bytes m t.arguments logged (z.out, told.0)) (sym e) told.1) (ap (λ (z : Reply). z.log) e ∙ told.3)

pub case_of : (t : Task) (bytes logged : List ℕ) (r : Reply) → r.status ≢ 4 → Answers t bytes logged r → Case t bytes logged r
case_of t bytes logged r not4 (inl (d, s, e)) = Read s.of s.given (done_said t bytes s.of logged r d e s.done)
case_of t bytes logged r not4 (inr (fault.Text f, h, e)) = Unread f h.0 h.1 e
case_of t bytes logged r not4 (inr (fault.Front f, h, e)) = Unfit f h.0 h.1 e
case_of t bytes logged r not4 (inr (fault.Refused (refusal.Shape f), h, e)) =
    Read h.1.0 h.1.1 (Refusing (refusal.Shape f) h.0 h.1.2 (status_not t bytes r (fault.Refused (refusal.Shape f)) e.0 e.2 not4) e)
case_of t bytes logged r not4 (inr (fault.Refused (refusal.Kind f), h, e)) =
    Read h.1.0 h.1.1 (Refusing (refusal.Kind f) h.0 h.1.2 (status_not t bytes r (fault.Refused (refusal.Kind f)) e.0 e.2 not4) e)
case_of t bytes logged r not4 (inr (fault.Refused (refusal.Bound f), h, e)) =
    Read h.1.0 h.1.1 (Refusing (refusal.Bound f) h.0 h.1.2 (status_not t bytes r (fault.Refused (refusal.Bound f)) e.0 e.2 not4) e)
case_of t bytes logged r not4 (inr (fault.Refused refusal.OutOfMemory, h, e)) = absurd h
case_of t bytes logged r not4 (inr (fault.Arguments wants has, h, e)) = Read h.1.0 h.1.1 (Misfit wants has h.0 h.1.2 h.1.3 e)
case_of t bytes logged r not4 (inr (fault.Grammar line, h, e)) =
    Read h.1.0 h.1.1 (NoRun (fault.Grammar line) h.0 h.1.2 h.1.3.0 (h.1.3.1, tt) (status_not t bytes r (fault.Grammar line) e.0 e.2 not4) e)
case_of t bytes logged r not4 (inr (fault.Truncated, h, e)) =
    Read h.1.0 h.1.1 (NoRun fault.Truncated h.0 h.1.2 h.1.3.0 (h.1.3.1, tt) (status_not t bytes r fault.Truncated e.0 e.2 not4) e)
case_of t bytes logged r not4 (inr (fault.NotEnabled i, h, e)) =
    Read h.1.1.0 h.1.1.1 (NoRun (fault.NotEnabled i) h.1.0 h.1.1.2 h.1.1.3.0 (h.1.1.3.1, h.0)
    (status_not t bytes r (fault.NotEnabled i) e.0 e.2 not4) e)
case_of t bytes logged r not4 (inr (fault.NotEnded, h, e)) =
    Read h.1.1.0 h.1.1.1 (NoRun fault.NotEnded h.1.0 h.1.1.2 h.1.1.3.0 (h.1.1.3.1, h.0)
    (status_not t bytes r fault.NotEnded e.0 e.2 not4) e)
case_of t bytes logged r not4 (inr (fault.NoOutcome line, h, e)) =
    Read h.1.0 h.1.1 (Astray line h.0 h.1.2 h.1.3.0 h.1.3.1 e)
case_of t bytes logged r not4 (inr (fault.OutOfMemory, h, e)) = absurd (not4 (ap (λ (z : Reply). z.status) e.2))
case_of t bytes logged r not4 (inr (fault.Device, h, e)) = absurd h

-- a text of a module is JSON
text_json : (bytes : List ℕ) (m : ModuleValue) → IsModuleText bytes m → IsJson bytes
text_json bytes m p = (p.0, p.1)

read_once : (bytes : List ℕ) (f g : ModuleFault) → IsUnread bytes f → IsUnread bytes g → f ≡ g
read_once bytes text.NotJson text.NotJson p q = refl
read_once bytes text.NotJson text.NotAModule p q = absurd (p q.0)
read_once bytes text.NotJson text.Limit p q = absurd (p (text_json bytes q.0 q.1))
read_once bytes text.NotJson text.OutOfMemory p q = absurd q
read_once bytes text.NotAModule text.NotJson p q = absurd (q p.0)
read_once bytes text.NotAModule text.NotAModule p q = refl
read_once bytes text.NotAModule text.Limit p q = absurd (p.1 q.0 q.1)
read_once bytes text.NotAModule text.OutOfMemory p q = absurd q
read_once bytes text.Limit text.NotJson p q = absurd (q (text_json bytes p.0 p.1))
read_once bytes text.Limit text.NotAModule p q = absurd (q.1 p.0 p.1)
read_once bytes text.Limit text.Limit p q = refl
read_once bytes text.Limit text.OutOfMemory p q = absurd q
read_once bytes text.OutOfMemory g p q = absurd p

-- bytes that are no module text give none
read_none : (bytes : List ℕ) (f : ModuleFault) (m : ModuleValue) → IsUnread bytes f → IsModuleText bytes m × IsWithinLimits m → ⊥
read_none bytes text.NotJson m p q = p (text_json bytes m q.0)
read_none bytes text.NotAModule m p q = p.1 m q.0
read_none bytes text.Limit m p q = p.2 (subst IsWithinLimits (one_module bytes m p.0 q.0 p.1) q.1)
read_none bytes text.OutOfMemory m p q = p

too_many : (bytes : List ℕ) → longest_module < length bytes → length bytes ≤ longest_module → ⊥
too_many bytes more less = omega (arith, more, less)

pub unread_once : (bytes : List ℕ) (f g : ModuleFault) → IsNoModule bytes f → IsNoModule bytes g → f ≡ g
unread_once bytes f g (inl p) (inl q) = p.1 ∙ sym q.1
unread_once bytes f g (inl p) (inr q) = absurd (too_many bytes p.0 q.0)
unread_once bytes f g (inr p) (inl q) = absurd (too_many bytes q.0 p.0)
unread_once bytes f g (inr p) (inr q) = read_once bytes f g p.1 q.1

pub unread_none : (bytes : List ℕ) (f : ModuleFault) (m : ModuleValue) → IsNoModule bytes f → Gives form.Module bytes m → ⊥
unread_none bytes f m (inl p) q = too_many bytes p.0 q.0
unread_none bytes f m (inr p) q = read_none bytes f m p.1 (q.1, q.2)

pub given_text : (t : Task) (bytes : List ℕ) (m : ModuleValue) → t.form ≡ form.Module → Gives t.form bytes m → Gives form.Module bytes m
given_text t bytes m of given = subst (λ f. Gives f bytes m) of given

pub given_source : (t : Task) (bytes : List ℕ) (m : ModuleValue) → t.form ≡ form.Source → Gives t.form bytes m → IsCompiledTo bytes m
given_source t bytes m of given = subst (λ f. Gives f bytes m) of given

-- bytes give one module
pub given_once : (kind : Form) (bytes : List ℕ) (m n : ModuleValue) → Gives kind bytes m → Gives kind bytes n → m ≡ n
given_once form.Module bytes m n p q = one_module bytes m n p.1 q.1
given_once form.Source bytes m n p q = one_text bytes m n p q

-- an answer, where the bytes give this module
pub said_of : (t : Task) (bytes logged : List ℕ) (r : Reply) (m : ModuleValue) → Gives t.form bytes m → Case t bytes logged r
    → Said t bytes m logged r
said_of t bytes logged r m given (Unread f of p e) = absurd (unread_none bytes f m p (given_text t bytes m of given))
said_of t bytes logged r m given (Unfit f of p e) = absurd (unfit_none bytes f m p (given_source t bytes m of given))
said_of t bytes logged r m given (Read n found told) =
    subst (λ k. Said t bytes k logged r) (given_once t.form bytes n m found given) told

same_case : (t : Task) (bytes logged : List ℕ) (r s : Reply) → t.form ≡ form.Module → Case t bytes logged r → Case t bytes logged s → IsSameReply t.doing r s
same_case t bytes logged r s of (Unread f is p e) (Unread g text q d) =
    let same = unread_once bytes f g p q in
    same_faults t bytes r s (fault.Text f) (fault.Text g) e d (ap (λ k. status_of (fault.Text k)) same) (inl (ap (λ k. fault_line
    (fault.Text k)) same))
same_case t bytes logged r s of (Unread f is p e) (Unfit g source q d) = absurd (no_source t of source)
same_case t bytes logged r s of (Unread f is p e) (Read m given said) = absurd (unread_none bytes f m p (given_text t bytes m of given))
same_case t bytes logged r s of (Unfit f source p e) other = absurd (no_source t of source)
same_case t bytes logged r s of (Read m given said) other = same_said t bytes m logged r s given said (said_of t bytes logged s m given other)

pub one_answer : (t : Task) (bytes logged : List ℕ) (r s : Reply) → t.form ≡ form.Module → Answers t bytes logged r → Answers t bytes logged s → r.status ≢ 4 → s.status ≢ 4
    → IsSameReply t.doing r s
one_answer t bytes logged r s of p q n k = same_case t bytes logged r s of (case_of t bytes logged r n p) (case_of t bytes logged s k q)

-- ---- source texts

same_unfit : (t : Task) (bytes : List ℕ) (r s : Reply) (f g : FrontFault) → IsReplyOf t bytes (fault.Front f) r
    → IsReplyOf t bytes (fault.Front g) s → (f ≡ g) ⊎ IsLeftOpen bytes f g → IsSameReply t.doing r s ⊎ TellFaults t bytes r s
same_unfit t bytes r s f g e d (inl same) =
    inl (same_faults t bytes r s (fault.Front f) (fault.Front g) e d (ap (λ k. status_of (fault.Front k)) same) (inl (ap (λ k. told_of
    t.doing bytes (fault.Front k)) same)))
same_unfit t bytes r s f g e d (inr left) = inr (record {
  here = f;
  there = g;
  left = left;
  said_here = e.0;
  said_there = d.0;
  of_here = e.1;
  of_there = d.1;
  told_here = e.2;
  told_there = d.2;
})

same_source : (t : Task) (bytes logged : List ℕ) (r s : Reply) → t.form ≡ form.Source → Case t bytes logged r → Case t bytes logged s
    → IsSameReply t.doing r s ⊎ TellFaults t bytes r s
same_source t bytes logged r s of (Unread f text p e) other = absurd (no_source t text of)
same_source t bytes logged r s of (Unfit f is p e) (Unread g text q d) = absurd (no_source t text of)
same_source t bytes logged r s of (Unfit f is p e) (Unfit g source q d) = same_unfit t bytes r s f g e d (unfit_once bytes f g p q)
same_source t bytes logged r s of (Unfit f is p e) (Read m given said) = absurd (unfit_none bytes f m p (given_source t bytes m of given))
same_source t bytes logged r s of (Read m given said) other = inl (same_said t bytes m logged r s given said (said_of t bytes logged s m given other))

pub one_source_answer : (t : Task) (bytes logged : List ℕ) (r s : Reply) → t.form ≡ form.Source → Answers t bytes logged r → Answers t bytes logged s
    → r.status ≢ 4 → s.status ≢ 4 → IsSameReply t.doing r s ⊎ TellFaults t bytes r s
one_source_answer t bytes logged r s of p q n k = same_source t bytes logged r s of (case_of t bytes logged r n p) (case_of t bytes logged s k q)

-- ---- logs of whole runs

-- the job prints this
abbrev pub IsPrinted : Task → ModuleValue → List ℕ → Reply → Type 0
IsPrinted t m logged s = (HasOneStatus t.doing → s.status ≡ 0) × Prints t.doing m t.arguments logged s.out s.log

-- or tells this
abbrev pub IsTold : Task → List ℕ → ModuleValue → List ℕ → Reply → Type 0
IsTold t bytes m logged s =
    (whole : Bool) × (s.status ≡ whole_status whole) × IsTelling t.doing t.form t.file bytes m t.arguments logged (s.out, whole) × (s.log ≡ [])

-- the job is done
abbrev pub IsDone : Task → List ℕ → ModuleValue → List ℕ → Reply → Type 0
IsDone t bytes m logged s = (s.err ≡ []) × (IsPrinted t m logged s ⊎ IsTold t bytes m logged s)

-- where the log that is read is that of a whole run, nothing stands against the job
whole_does : (t : Task) (bytes : List ℕ) (m : ModuleValue) (logged : List ℕ) (es : List Entry) (s : Reply) → reads_log t.doing ≡ true → IsAccepted m
    → AreArguments m t.arguments → IsLogText logged es → IsWhole m t.arguments es → Said t bytes m logged s → IsDone t bytes m logged s
whole_does t bytes m logged es s is ok taken text whole (Refusing f asks p n e) = absurd (not_accepted m f ok p n)
whole_does t bytes m logged es s is ok taken text whole (Misfit wants has run fine p e) = absurd (p.misfit taken)
whole_does t bytes m logged es s is ok taken text whole (NoRun f reads fine fits p n e) = absurd (whole_not_refused m t.arguments logged f es p.0 n text whole)
whole_does t bytes m logged es s is ok taken text whole (Astray line lists fine fits p e) = absurd (list_or_log t.doing lists is)
whole_does t bytes m logged es s is ok taken text whole (Does zero quiet p) = (quiet, inl (zero, p))
whole_does t bytes m logged es s is ok taken text whole (Telling all zero quiet p none) = (quiet, inr (all, zero, p, none))

pub whole_done : (t : Task) (bytes logged : List ℕ) (s : Reply) (m : ModuleValue) (out log : List ℕ) → reads_log t.doing ≡ true → Gives t.form bytes m
    → Prints Replay m t.arguments logged out log → s.status ≢ 4 → Answers t bytes logged s → IsDone t bytes m logged s
whole_done t bytes logged s m out log is given p not4 answers =
    let whole = prints_whole Replay m t.arguments logged out log refl p in
    whole_does t bytes m logged whole.0 s is (prints_accepted Replay m t.arguments logged out log refl p)
    (prints_taken Replay m t.arguments logged out log refl p) whole.1 whole.2 (said_of t bytes logged s m given (case_of t bytes logged s not4 answers))

-- What is told as one JSON value is one, of a run that no workers take.
use Rattle.std.proofs.Common.{◌≡◌, ◌∙◌, ℕ, ℤ, Bool, true, false, List, [], Option, Some, None, refl, sym, ap}
use Rattle.std.specs.Option.{option_map_or}
use Rattle.xk_types.specs.declared.world.Entry.{Entry}
use Rattle.xk_types.specs.Code.{ModuleValue}
use Rattle.xk_types.specs.World.{AreArguments}
use Rattle.xk_outcome_lists.specs.Expected.{stray_line}
use Rattle.xk_log.specs.LogText.{log_text}
use Rattle.xk_json.specs.Objects.{json_line}
use Rattle.xk_show_json.specs.Runs.{run_value}
use Rattle.xk_jobs.specs.Tasks.{By, Greedy, In, Way}
use Rattle.xk_answers.specs.declared.job_result.Done.{Done}
use Rattle.xk_answers.specs.declared.job_result.Done.TheVariants as done
use Rattle.xk_answers.specs.OrderedRun.{IsFinished}
use Rattle.xk_answers.specs.Printed.{done_log, done_text}
use Rattle.xk_answers.specs.Results.{ExpectedShown, IsShown, OutcomesShown, RunShown, Shown, list_in}
use Rattle.xk_serve.specs.OneAnswer.{HasOneShownStatus, IsOneShown}
use Rattle.xk_serve.proofs.RunUniquenessLemmas.{greedy_logged_once, greedy_once, logged_once, ordered_once, run_taken}

-- the text of a log that is kept
abbrev kept_text : Option (List Entry) → List ℕ
kept_text log = option_map_or log_text log []

-- a run came to its end, which this tells
pub record PrintsRun (way : Way) (kept : Bool) (m : ModuleValue) (args : List ℤ) (out log : List ℕ) : Type 0 where
  pub numbers : List ℤ
  pub steps : ℕ
  pub rounds : Option ℕ
  pub entries : Option (List Entry)
  pub run : IsFinished way kept m args numbers steps rounds entries
  pub out_is : out ≡ json_line (run_value numbers steps rounds)
  pub log_is : log ≡ kept_text entries

-- what goes to standard output and to the log
abbrev pub PrintsShown : Shown → ModuleValue → List ℤ → List ℕ → List ℕ → List ℕ → Type 0
PrintsShown (RunShown way kept) m args logged out log = PrintsRun way kept m args out log
PrintsShown (OutcomesShown sets limit pick kept) m args logged out log = AreArguments m args
PrintsShown (ExpectedShown sets limit) m args logged out log = AreArguments m args × (stray_line (list_in logged) ≡ None)

pub prints_shown : (s : Shown) (m : ModuleValue) (args : List ℤ) (logged : List ℕ) (d : Done) → IsShown s m args logged d
    → PrintsShown s m args logged (done_text d) (done_log d)
prints_shown (RunShown way kept) m args logged (done.Outcomes t whole None) h = record {
  numbers = h.numbers;
  steps = h.steps;
  rounds = h.rounds;
  entries = None;
  run = h.run;
  out_is = h.text_is;
  log_is = refl;
}
prints_shown (RunShown way kept) m args logged (done.Outcomes t whole (Some es)) h = record {
  numbers = h.numbers;
  steps = h.steps;
  rounds = h.rounds;
  entries = Some es.items;
  run = h.run;
  out_is = h.text_is;
  log_is = refl;
}
prints_shown (RunShown way kept) m args logged _ h = absurd h
prints_shown (OutcomesShown sets limit pick kept) m args logged (done.Outcomes t whole log) h = h.found.taken
prints_shown (OutcomesShown sets limit pick kept) m args logged _ h = absurd h
prints_shown (ExpectedShown sets limit) m args logged (done.Held t found) h = (h.0, h.1.held.may_stand)
prints_shown (ExpectedShown sets limit) m args logged _ h = absurd h

-- main of a run takes as many numbers as it is given
finished_taken : (way : Way) (kept : Bool) (m : ModuleValue) (args numbers : List ℤ) (steps : ℕ) (rounds : Option ℕ) (log : Option (List Entry))
    → IsFinished way kept m args numbers steps rounds log → AreArguments m args
finished_taken (In o) false m args numbers steps None None h = run_taken _ m args numbers steps h
finished_taken (In o) true m args numbers steps None (Some log) h = run_taken _ m args numbers steps h
finished_taken (Greedy p) false m args numbers steps (Some rounds) None h = run_taken _ m args numbers steps h
finished_taken (Greedy p) true m args numbers steps (Some rounds) (Some log) h = run_taken _ m args numbers steps h
finished_taken (By n) false m args numbers steps None None h = run_taken _ m args numbers steps h
finished_taken (By n) true m args numbers steps None (Some log) h = run_taken _ m args numbers steps h
finished_taken _ _ m args numbers steps _ _ h = absurd h

pub shown_taken : (s : Shown) (m : ModuleValue) (args : List ℤ) (logged out log : List ℕ) → PrintsShown s m args logged out log
    → AreArguments m args
shown_taken (RunShown way kept) m args logged out log h = finished_taken way kept m args h.numbers h.steps h.rounds h.entries h.run
shown_taken (OutcomesShown sets limit pick kept) m args logged out log h = h
shown_taken (ExpectedShown sets limit) m args logged out log h = h.0

-- a run has one status
pub shown_status : (s : Shown) → IsOneShown s → HasOneShownStatus s
shown_status (RunShown way kept) one = tt
shown_status (OutcomesShown sets limit pick kept) one = absurd one
shown_status (ExpectedShown sets limit) one = absurd one

-- ---- a run by an order, or by rounds, is one

-- what is told of a run, and its log
record IsSame (numbers others : List ℤ) (n k : ℕ) (rounds tally : Option ℕ) (log other : Option (List Entry)) : Type 0 where
  prints : numbers ≡ others
  takes : n ≡ k
  counts : rounds ≡ tally
  logs : log ≡ other

finished_once : (way : Way) (kept : Bool) (m : ModuleValue) (args numbers others : List ℤ) (n k : ℕ) (rounds tally : Option ℕ)
    (log other : Option (List Entry)) → IsOneShown (RunShown way kept) → IsFinished way kept m args numbers n rounds log
    → IsFinished way kept m args others k tally other → IsSame numbers others n k rounds tally log other
finished_once (In o) false m args numbers others n k None None None None one p q =
    let same = ordered_once o m args numbers others n k p q in
    record { prints = same.0; takes = same.1; counts = refl; logs = refl }
finished_once (In o) false m args numbers others n k None None None (Some other) one p q = absurd q
finished_once (In o) false m args numbers others n k None None (Some log) other one p q = absurd p
finished_once (In o) false m args numbers others n k None (Some tally) log other one p q = absurd q
finished_once (In o) false m args numbers others n k (Some rounds) tally log other one p q = absurd p
finished_once (In o) true m args numbers others n k None None (Some log) (Some other) one p q =
    let same = logged_once o m args numbers others n k log other p q in
    record { prints = same.0; takes = same.1; counts = refl; logs = ap Some same.2 }
finished_once (In o) true m args numbers others n k None None (Some log) None one p q = absurd q
finished_once (In o) true m args numbers others n k None None None other one p q = absurd p
finished_once (In o) true m args numbers others n k None (Some tally) log other one p q = absurd q
finished_once (In o) true m args numbers others n k (Some rounds) tally log other one p q = absurd p
finished_once (Greedy c) false m args numbers others n k (Some rounds) (Some tally) None None one p q =
    let same = greedy_once c m args numbers others n k rounds tally p q in
    record { prints = same.0; takes = same.1; counts = ap Some same.2; logs = refl }
finished_once (Greedy c) false m args numbers others n k (Some rounds) (Some tally) None (Some other) one p q = absurd q
finished_once (Greedy c) false m args numbers others n k (Some rounds) (Some tally) (Some log) other one p q = absurd p
finished_once (Greedy c) false m args numbers others n k (Some rounds) None log other one p q = absurd q
finished_once (Greedy c) false m args numbers others n k None tally log other one p q = absurd p
finished_once (Greedy c) true m args numbers others n k (Some rounds) (Some tally) (Some log) (Some other) one p q =
    let same = greedy_logged_once c m args numbers others n k rounds tally log other p q in
    record { prints = same.0; takes = same.1; counts = ap Some same.2; logs = ap Some same.3 }
finished_once (Greedy c) true m args numbers others n k (Some rounds) (Some tally) (Some log) None one p q = absurd q
finished_once (Greedy c) true m args numbers others n k (Some rounds) (Some tally) None other one p q = absurd p
finished_once (Greedy c) true m args numbers others n k (Some rounds) None log other one p q = absurd q
finished_once (Greedy c) true m args numbers others n k None tally log other one p q = absurd p
finished_once (By w) kept m args numbers others n k rounds tally log other one p q = absurd one

-- the value of a run
same_value : (numbers others : List ℤ) (n k : ℕ) (rounds tally : Option ℕ) → numbers ≡ others → n ≡ k → rounds ≡ tally
    → json_line (run_value numbers n rounds) ≡ json_line (run_value others k tally)
same_value numbers others n k rounds tally e d f = ap (λ xs. json_line (run_value xs n rounds)) e
    ∙ ap (λ j. json_line (run_value others j rounds)) d ∙ ap (λ r. json_line (run_value others k r)) f

-- one thing is told, and one log
pub shown_once : (s : Shown) (m : ModuleValue) (args : List ℤ) (logged out log other kept : List ℕ) → IsOneShown s
    → PrintsShown s m args logged out log → PrintsShown s m args logged other kept → (out ≡ other) × (log ≡ kept)
shown_once (RunShown way keeps) m args logged out log other kept one p q =
    let same = finished_once way keeps m args p.numbers q.numbers p.steps q.steps p.rounds q.rounds p.entries q.entries one p.run q.run in (
      p.out_is ∙ same_value p.numbers q.numbers p.steps q.steps p.rounds q.rounds same.prints same.takes same.counts ∙ sym q.out_is,
      p.log_is ∙ ap kept_text same.logs ∙ sym q.log_is,
    )
shown_once (OutcomesShown sets limit pick keeps) m args logged out log other kept one p q = absurd one
shown_once (ExpectedShown sets limit) m args logged out log other kept one p q = absurd one

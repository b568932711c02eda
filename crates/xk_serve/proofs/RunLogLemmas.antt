-- The log that a run has written tells that run: `replay` and `chart` take it.
use Rattle.std.proofs.Common.{◌≡◌, ◌≢◌, ◌∙◌, ℕ, ℤ, true, List, [], Some, None, inl, inr, refl, sym, ap, subst}
use Rattle.std.specs.Prelude.{◌⊎◌}
use Rattle.xk_types.specs.declared.world.Entry.{Entry}
use Rattle.xk_types.specs.Acceptance.{IsAccepted}
use Rattle.xk_types.specs.Code.{ModuleValue, IsWithinLimits}
use Rattle.xk_types.specs.Schedule.{Leads}
use Rattle.xk_log.specs.LogText.{log_text}
use Rattle.xk_module.specs.declared.fault.ModuleFault.TheVariants as text
use Rattle.xk_bounds.specs.declared.refusal.Refusal.TheVariants as refusal
use Rattle.xk_scheduler.proofs.UnloggedRunLemmas.{run_weaker}
use Rattle.xk_replay.specs.Chart.{chart_text}
use Rattle.xk_replay.proofs.RunLogLemmas.{run_is_log}
use Rattle.xk_jobs.specs.declared.job.Form.{Form}
use Rattle.xk_jobs.specs.declared.job.Form.TheVariants as form
use Rattle.xk_jobs.specs.Tasks.{By, Greedy, In, Way}
use Rattle.xk_answers.specs.declared.job_result.Done.{Done}
use Rattle.xk_answers.specs.declared.job_result.Done.TheVariants as done
use Rattle.xk_program.specs.declared.fault.Fault.{Fault}
use Rattle.xk_program.specs.declared.fault.Fault.TheVariants as fault
use Rattle.xk_serve.specs.Answer.{Answers, Reply, Task, done_reply}
use Rattle.xk_answers.specs.Results.{ComesTo, IsLogText, IsTelling, IsText, Replay, Replays, Run}
use Rattle.xk_answers.specs.Printed.{whole_status, done_log, done_text}
use Rattle.xk_answers.specs.Explanation.{Tale}
use Rattle.xk_program.specs.Lines.{status_of}
use Rattle.xk_serve.specs.OneAnswer.{IsChartOf, IsCharted, MayChart, PrintsAgain, charting, done_with, replaying}
use Rattle.xk_answers.specs.OrderedRun.{IsReplay, IsWholeRun}
use Rattle.xk_replay.specs.Replay.{IsLegal}
use Rattle.xk_program.specs.Programs.{Gives}
use Rattle.xk_serve.proofs.AnswerUniquenessLemmas.{prints, prints_once, whole_done}
use Rattle.xk_serve.proofs.DoneStatusLemmas.{done_zero}
use Rattle.xk_serve.proofs.TellingUniquenessLemmas.{same_tale}

-- ---- what was written

given_limits : (f : Form) (bytes : List ℕ) (m : ModuleValue) → Gives f bytes m → IsWithinLimits m
given_limits form.Module bytes m h = h.2
given_limits form.Source bytes m h = h.limits

-- a run by a log is had by the text of that log
text_replays : (f : Form) (bytes logged : List ℕ) (m : ModuleValue) (args numbers : List ℤ) (steps : ℕ) (es : List Entry) → Gives f bytes m → IsAccepted m → logged ≡ log_text es
    → IsReplay m args es numbers steps → Replays m args logged numbers steps
text_replays f bytes logged m args numbers steps es given accepted e r =
    let leads = subst (λ l. Leads m l r.last) r.follows r.leads in
    (es, (run_is_log m (given_limits f bytes m given) accepted es r.last leads, e), r)

-- a run was done, and what it wrote for a log has that run
record IsWritten (t : Task) (way : Way) (bytes : List ℕ) (r : Reply) : Type 0 where
  of : ModuleValue
  given : Gives t.form bytes of
  again : Done
  comes : ComesTo Replay of t.arguments r.log again
  out : PrintsAgain way r.out (done_text again)

written : (t : Task) (way : Way) (bytes logged : List ℕ) (r : Reply) (d : Done) (m : ModuleValue) → Gives t.form bytes m
    → ComesTo (Run way true) m t.arguments logged d → r ≡ done_reply d → IsWritten t way bytes r
written t (In o) bytes logged r (done.Ended numbers steps None (Some log)) m given h e = record {
  of = m;
  given = given;
  again = done.Ended numbers steps None None;
  comes = (
    h.0,
    text_replays t.form bytes r.log m t.arguments numbers.items steps log.items given h.0 (ap (λ (z : Reply). z.log) e)
        (run_weaker _ _ m t.arguments numbers.items steps (λ list f. f.stands_for) h.1),
  );
  out = sym (ap (λ (z : Reply). z.out) e);
}
written t (In o) bytes logged r _ m given h e = absurd h
written t (Greedy p) bytes logged r (done.Ended numbers steps (Some rounds) (Some log)) m given h e = record {
  of = m;
  given = given;
  again = done.Ended numbers steps None None;
  comes = (
    h.0,
    text_replays t.form bytes r.log m t.arguments numbers.items steps log.items given h.0 (ap (λ (z : Reply). z.log) e)
        (run_weaker _ _ m t.arguments numbers.items steps (λ list f. f.stands_for) h.1),
  );
  out = (numbers.items, steps, rounds, ap (λ (z : Reply). z.out) e, refl);
}
written t (Greedy p) bytes logged r _ m given h e = absurd h
written t (By n) bytes logged r (done.Ended numbers steps None (Some log)) m given h e = record {
  of = m;
  given = given;
  again = done.Ended numbers steps None None;
  comes = (h.0, text_replays t.form bytes r.log m t.arguments numbers.items steps log.items given h.0 (ap (λ (z : Reply). z.log) e) h.1);
  out = sym (ap (λ (z : Reply). z.out) e);
}
written t (By n) bytes logged r _ m given h e = absurd h

-- no fault has the status of what is done
never_done : (f : Fault) → status_of f ≡ 0 → ⊥
never_done (fault.Text text.NotJson) e = cc
never_done (fault.Text text.NotAModule) e = cc
never_done (fault.Text text.Limit) e = cc
never_done (fault.Text text.OutOfMemory) e = cc
never_done (fault.Front f) e = cc
never_done (fault.Refused (refusal.Shape f)) e = cc
never_done (fault.Refused (refusal.Kind f)) e = cc
never_done (fault.Refused (refusal.Bound f)) e = cc
never_done (fault.Refused refusal.OutOfMemory) e = cc
never_done (fault.Arguments wants has) e = cc
never_done (fault.Grammar line) e = cc
never_done fault.Truncated e = cc
never_done (fault.NotEnabled i) e = cc
never_done fault.NotEnded e = cc
never_done (fault.NoOutcome line) e = cc
never_done fault.OutOfMemory e = cc
never_done fault.Device e = cc

-- what is run comes to something
ran : (t : Task) (way : Way) (bytes logged : List ℕ) (m : ModuleValue) (d : Done) → t.doing ≡ Run way true
    → ComesTo t.doing m t.arguments logged d ⊎ IsText (IsTelling t.doing t.form t.file bytes m t.arguments logged) d → ComesTo (Run way true) m t.arguments logged d
ran t way bytes logged m d is (inl h) = subst (λ what. ComesTo what m t.arguments logged d) is h
ran t way bytes logged m d is (inr h) = absurd (untold d (subst (λ what. IsText (IsTelling what t.form t.file bytes m t.arguments logged) d) is h))
  where
    untold : (d : Done) → IsText (λ text. ⊥) d → ⊥
    untold (done.Told text whole) h = h
    untold _ h = h

written_of : (t : Task) (way : Way) (bytes logged : List ℕ) (r : Reply) → t.doing ≡ Run way true → Answers t bytes logged r → r.status ≡ 0 → IsWritten t way bytes r
written_of t way bytes logged r is (inl (d, s, e)) zero =
    written t way bytes logged r d s.of s.given (ran t way bytes logged s.of d is s.done) e
written_of t way bytes logged r is (inr (f, h, e)) zero = absurd (never_done f (sym (ap (λ (z : Reply). z.status) e.2) ∙ zero))

-- ---- and read again

abbrev reply : ℕ → List ℕ → List ℕ → List ℕ → Reply
reply status out err log = record { status = status; out = out; err = err; log = log }

reply_is : (s : Reply) (out : List ℕ) → s.status ≡ 0 → s.out ≡ out → s.err ≡ [] → s.log ≡ [] → s ≡ done_with out
reply_is s out zero same quiet none =
    ap (λ n. reply n s.out s.err s.log) zero ∙ ap (λ o. reply 0 o s.err s.log) same ∙ ap (λ e. reply 0 out e s.log) quiet ∙ ap (λ l. reply 0 out [] l) none

-- the log of a run that is had again is that of a whole run
whole_run : (m : ModuleValue) (args numbers : List ℤ) (steps : ℕ) (es : List Entry) → IsReplay m args es numbers steps → IsWholeRun m args es
whole_run m args numbers steps es r = record { last = r.last; leads = subst (λ l. Leads m l r.last) r.follows r.leads; given = r.given; over = r.over }

charts : (t : Task) (bytes logged : List ℕ) (m : ModuleValue) (es : List Entry) → Gives t.form bytes m → IsAccepted m → IsLogText logged es → IsWholeRun m t.arguments es
    → (d : Done) → IsChartOf (chart_text m t.arguments es) d → Answers (charting t) bytes logged (done_reply d)
charts t bytes logged m es given accepted log whole (done.Told found all) is =
    let legal : IsLegal m t.arguments es = record { last = whole.last; leads = whole.leads; given = whole.given } in
    inl (
      done.Told found all,
      record { of = m; given = given; done = inr (accepted, (es, log, legal, (λ _. whole.over), same_tale is.0 is.1)) },
      refl,
    )
charts t bytes logged m es given accepted log whole _ is = absurd is

module _ (t : Task) (way : Way) (bytes logged : List ℕ) (r : Reply) (is : t.doing ≡ Run way true) (answers : Answers t bytes logged r) (zero : r.status ≡ 0) where
  -- `replay` may print the same again
  pub replayed : (again : List ℕ) × PrintsAgain way r.out again × Answers (replaying t) bytes r.log (done_with again)
  replayed =
      let w = written_of t way bytes logged r is answers zero in
      let p = prints Replay w.of t.arguments r.log w.again w.comes in (
        done_text w.again,
        w.out,
        inl (
          w.again,
          record { of = w.of; given = w.given; done = inl w.comes },
          ap (λ l. reply 0 (done_text w.again) [] l) (sym p.7)
              ∙ ap (λ n. reply n (done_text w.again) [] (done_log w.again)) (sym (done_zero Replay w.of t.arguments r.log w.again tt w.comes)),
        ),
      )

  -- and prints nothing else
  pub replayed_alone : (s : Reply) → Answers (replaying t) bytes r.log s → s.status ≢ 4
      → (again : List ℕ) × PrintsAgain way r.out again × (s ≡ done_with again)
  replayed_alone s again not4 =
      let w = written_of t way bytes logged r is answers zero in
      let p = prints Replay w.of t.arguments r.log w.again w.comes in
      let q = whole_done (replaying t) bytes r.log s w.of (done_text w.again) (done_log w.again) refl w.given p not4 again in
      elim q.1 [
        | inl printed ↦
            let same = prints_once Replay w.of t.arguments r.log s.out s.log (done_text w.again) (done_log w.again) tt printed.1 p in
            (done_text w.again, w.out, reply_is s (done_text w.again) (printed.0 tt) same.0 q.0 (same.1 ∙ p.7))
        | inr told ↦ absurd told.2
      ]

  -- `chart` may print the chart of that run
  pub charted : MayChart t bytes r.log
  charted =
      let w = written_of t way bytes logged r is answers zero in
      let p = prints Replay w.of t.arguments r.log w.again w.comes in
      (w.of, p.3, w.given, p.4, λ d chart. charts t bytes r.log w.of p.3 w.given p.0 p.4 (whole_run w.of t.arguments p.1 p.2 p.3 p.5) d chart)

  -- and prints nothing else
  pub charted_alone : (s : Reply) → Answers (charting t) bytes r.log s → s.status ≢ 4 → IsCharted t bytes r.log s
  charted_alone s again not4 =
      let w = written_of t way bytes logged r is answers zero in
      let p = prints Replay w.of t.arguments r.log w.again w.comes in
      let q = whole_done (charting t) bytes r.log s w.of (done_text w.again) (done_log w.again) refl w.given p not4 again in
      elim q.1 [
        | inl printed ↦ absurd printed.1
        | inr told ↦
            let c = told.2.1 in
            (w.of, c.0, w.given, c.1, reply_is s _ (told.1 ∙ ap (λ (tale : Tale). whole_status tale.1) c.4) (ap (λ (tale : Tale). tale.0) c.4) q.0 told.3)
      ]

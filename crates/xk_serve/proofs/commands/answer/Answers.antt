use Rattle.std.proofs.Common.{◌∙◌, false, refl, ap, sym}
use Rattle.std.specs.Prelude.{unwrap_or}
use Rattle.xk_answers.specs.declared.picture.Picture.TheVariants as picture
use Rattle.std.proofs.lemmas.Bool.{false≢true}
use Rattle.std.proofs.lemmas.Result.{err_from_is_err_and}
use Rattle.xk_answers.specs.Results.{Check, Compile, Count, Draw, Expected, OutcomePage, Outcomes, Races, Replay, Run, Where, way_given}
use Rattle.xk_jobs.specs.CommandAnswers.{explanation, shows_origins}
use Rattle.xk_serve.specs.Answer.{doing_of, races_by, task_of}
use Rattle.xk_serve.proofs.TaskLemmas.{against_any, against_list, against_log, against_memory, against_picture}
use Rattle.xk_serve.proofs.TaskLemmas.{against_refused, against_run_of, against_text, done_of_any, done_of_list}
use Rattle.xk_serve.proofs.TaskLemmas.{done_of_log, done_of_none, done_of_run, done_of_text, done_of_told}
use Rattle.xk_serve.proofs.TaskLemmas.{no_module_fails}
use Rattle.xk_serve.proofs.commands.answer.Goals as goal

pub returns-in_err-program-clause-fault : goal.returns-in_err-program-clause-fault
returns-in_err-program-clause-fault g c =
    let p = err_from_is_err_and c.from_residual.result c.from_residual.ensures.1 in
    rw (p.1, p.2) (against_any (task_of c.args.job.now) c.args.bytes.now (g.L.Source.remaining c.args.log_in.now) _ _ c.in_err-program.field-0.0 refl
    (no_module_fails (task_of c.args.job.now) c.args.bytes.now c.in_err-program.field-0.0 c.in_err-program.ensures.fault))

pub returns-in-Compile-clause-done : goal.returns-in-Compile-clause-done
returns-in-Compile-clause-done g c =
    done_of_none (task_of c.args.job.now) c.args.bytes.now (g.L.Source.remaining c.args.log_in.now) _ Compile c.compiled.result (ap doing_of c.in-Compile.is) c.in_ok-program.ensures.module c.compiled.ensures.done

pub returns-in-Compile-clause-fault : goal.returns-in-Compile-clause-fault
returns-in-Compile-clause-fault g c =
    against_memory (task_of c.args.job.now) c.args.bytes.now (g.L.Source.remaining c.args.log_in.now) _ c.compiled.result c.compiled.ensures.fault

pub returns-in-Check-clause-done : goal.returns-in-Check-clause-done
returns-in-Check-clause-done g c =
    done_of_none (task_of c.args.job.now) c.args.bytes.now (g.L.Source.remaining c.args.log_in.now) _ Check c.checked.result (ap doing_of c.in-Check.is) c.in_ok-program.ensures.module c.checked.ensures.done

pub returns-in-Check-clause-fault : goal.returns-in-Check-clause-fault
returns-in-Check-clause-fault g c =
    against_refused (task_of c.args.job.now) c.args.bytes.now (g.L.Source.remaining c.args.log_in.now) _ _ Check c.checked.result (ap doing_of c.in-Check.is) refl c.in_ok-program.ensures.module c.checked.ensures.fault

pub unreachable-requires : goal.unreachable-requires
unreachable-requires g c =
    let explains = ap explanation c.in-Explain.is in
    cc

pub returns-in-Listing-clause-done : goal.returns-in-Listing-clause-done
returns-in-Listing-clause-done g c =
    done_of_text (task_of c.args.job.now) c.args.bytes.now (g.L.Source.remaining c.args.log_in.now) _ _ c.listed.result (ap doing_of c.in-Listing.is) c.in_ok-program.ensures.module (λ logged. c.listed.ensures.done c.args.job.now.form c.args.job.now.file.now c.args.bytes.now c.args.job.now.arguments.items logged (c.in_ok-program.ensures.from.0, λ _. c.in_ok-program.ensures.from.1 (c.shows_origins.ensures ∙ ap shows_origins c.in-Listing.is)))

pub returns-in-Listing-clause-fault : goal.returns-in-Listing-clause-fault
returns-in-Listing-clause-fault g c =
    against_memory (task_of c.args.job.now) c.args.bytes.now (g.L.Source.remaining c.args.log_in.now) _ c.listed.result c.listed.ensures.fault

pub returns-in-Run-clause-done : goal.returns-in-Run-clause-done
returns-in-Run-clause-done g c =
    let what = Run (way_given c.in-Run.drive) c.is_some.result in
    let is = ap doing_of c.in-Run.is ∙ ap (λ kept. Run (way_given c.in-Run.drive) kept) (sym c.is_some.ensures) in
    done_of_any (task_of c.args.job.now) c.args.bytes.now (g.L.Source.remaining c.args.log_in.now) _ what c.as_slice-arguments.result.now c.run_driven.result is c.as_slice-arguments.ensures.value c.in_ok-program.ensures.module c.run_driven.ensures.done

pub returns-in-Run-clause-fault : goal.returns-in-Run-clause-fault
returns-in-Run-clause-fault g c =
    against_run_of (task_of c.args.job.now) c.args.bytes.now (g.L.Source.remaining c.args.log_in.now) _ _ _ c.as_slice-arguments.result.now c.run_driven.result (ap doing_of c.in-Run.is) c.as_slice-arguments.ensures.value refl c.in_ok-program.ensures.module c.run_driven.ensures.fault

pub returns-in-Replay-clause-done : goal.returns-in-Replay-clause-done
returns-in-Replay-clause-done g c =
    done_of_log (task_of c.args.job.now) c.args.bytes.now (g.L.Source.remaining c.args.log_in.now) _ Replay c.as_slice-arguments.result.now c.replayed.result (ap doing_of c.in-Replay.is) c.as_slice-arguments.ensures.value refl c.in_ok-program.ensures.module c.replayed.ensures.done

pub returns-in-Replay-clause-fault : goal.returns-in-Replay-clause-fault
returns-in-Replay-clause-fault g c =
    against_log (task_of c.args.job.now) c.args.bytes.now (g.L.Source.remaining c.args.log_in.now) _ _ _ Replay c.as_slice-arguments.result.now c.replayed.result (ap doing_of c.in-Replay.is) c.as_slice-arguments.ensures.value refl refl refl c.in_ok-program.ensures.module c.replayed.ensures.fault

pub returns-in-Chart-clause-done : goal.returns-in-Chart-clause-done
returns-in-Chart-clause-done g c =
    done_of_run (task_of c.args.job.now) c.args.bytes.now (g.L.Source.remaining c.args.log_in.now) _ (Draw picture.Chart) c.as_slice-arguments.result.now c.drawn.result (ap doing_of c.in-Chart.is) c.as_slice-arguments.ensures.value refl c.in_ok-program.ensures.module (c.drawn.ensures.done c.args.job.now.form c.args.bytes.now (c.in_ok-program.ensures.from.0, λ shows. absurd (false≢true shows)))

pub returns-in-Chart-clause-fault : goal.returns-in-Chart-clause-fault
returns-in-Chart-clause-fault g c =
    against_picture (task_of c.args.job.now) c.args.bytes.now (g.L.Source.remaining c.args.log_in.now) _ _ _ picture.Chart c.as_slice-arguments.result.now c.drawn.result (ap doing_of c.in-Chart.is) c.as_slice-arguments.ensures.value c.in_ok-program.ensures.module c.drawn.ensures.fault c.drawn.ensures.stands

pub returns-in-Events-clause-done : goal.returns-in-Events-clause-done
returns-in-Events-clause-done g c =
    done_of_run (task_of c.args.job.now) c.args.bytes.now (g.L.Source.remaining c.args.log_in.now) _ (Draw picture.Events) c.as_slice-arguments.result.now c.drawn-in-Events.result (ap doing_of c.in-Events.is) c.as_slice-arguments.ensures.value refl c.in_ok-program.ensures.module (c.drawn-in-Events.ensures.done c.args.job.now.form c.args.bytes.now (c.in_ok-program.ensures.from.0, λ _. c.in_ok-program.ensures.from.1 (c.shows_origins.ensures ∙ ap shows_origins c.in-Events.is)))

pub returns-in-Events-clause-fault : goal.returns-in-Events-clause-fault
returns-in-Events-clause-fault g c =
    against_picture (task_of c.args.job.now) c.args.bytes.now (g.L.Source.remaining c.args.log_in.now) _ _ _ picture.Events c.as_slice-arguments.result.now c.drawn-in-Events.result (ap doing_of c.in-Events.is) c.as_slice-arguments.ensures.value c.in_ok-program.ensures.module c.drawn-in-Events.ensures.fault c.drawn-in-Events.ensures.stands

pub returns-in-Lanes-clause-done : goal.returns-in-Lanes-clause-done
returns-in-Lanes-clause-done g c =
    let is = ap doing_of c.in-Lanes.is ∙ ap (λ p. Draw p) (sym c.lanes_given-lanes.ensures) in
    done_of_run (task_of c.args.job.now) c.args.bytes.now (g.L.Source.remaining c.args.log_in.now) _ (Draw c.lanes_given-lanes.result) c.as_slice-arguments.result.now c.drawn-in-Lanes.result is c.as_slice-arguments.ensures.value refl c.in_ok-program.ensures.module (c.drawn-in-Lanes.ensures.done c.args.job.now.form c.args.bytes.now (c.in_ok-program.ensures.from.0, λ _. c.in_ok-program.ensures.from.1 (c.shows_origins.ensures ∙ ap shows_origins c.in-Lanes.is)))

pub returns-in-Lanes-clause-fault : goal.returns-in-Lanes-clause-fault
returns-in-Lanes-clause-fault g c =
    let is = ap doing_of c.in-Lanes.is ∙ ap (λ p. Draw p) (sym c.lanes_given-lanes.ensures) in
    against_picture (task_of c.args.job.now) c.args.bytes.now (g.L.Source.remaining c.args.log_in.now) _ _ _ c.lanes_given-lanes.result c.as_slice-arguments.result.now c.drawn-in-Lanes.result is c.as_slice-arguments.ensures.value c.in_ok-program.ensures.module c.drawn-in-Lanes.ensures.fault c.drawn-in-Lanes.ensures.stands

pub returns-in-Page-clause-done : goal.returns-in-Page-clause-done
returns-in-Page-clause-done g c =
    let is = ap doing_of c.in-Page.is ∙ ap (λ p. Draw p) (sym c.page_given-page.ensures) in
    done_of_run (task_of c.args.job.now) c.args.bytes.now (g.L.Source.remaining c.args.log_in.now) _ (Draw c.page_given-page.result) c.as_slice-arguments.result.now c.drawn-in-Page.result is c.as_slice-arguments.ensures.value refl c.in_ok-program.ensures.module (c.drawn-in-Page.ensures.done c.args.job.now.form c.args.bytes.now (c.in_ok-program.ensures.from.0, λ _. c.in_ok-program.ensures.from.1 (c.shows_origins.ensures ∙ ap shows_origins c.in-Page.is)))

pub returns-in-Page-clause-fault : goal.returns-in-Page-clause-fault
returns-in-Page-clause-fault g c =
    let is = ap doing_of c.in-Page.is ∙ ap (λ p. Draw p) (sym c.page_given-page.ensures) in
    against_picture (task_of c.args.job.now) c.args.bytes.now (g.L.Source.remaining c.args.log_in.now) _ _ _ c.page_given-page.result c.as_slice-arguments.result.now c.drawn-in-Page.result is c.as_slice-arguments.ensures.value c.in_ok-program.ensures.module c.drawn-in-Page.ensures.fault c.drawn-in-Page.ensures.stands

pub returns-in-OutcomePage-clause-done : goal.returns-in-OutcomePage-clause-done
returns-in-OutcomePage-clause-done g c =
    let what = OutcomePage c.window_given-window.result c.in-OutcomePage.limit c.in-OutcomePage.pick in
    let is = ap doing_of c.in-OutcomePage.is
    ∙ ap (λ window. OutcomePage window c.in-OutcomePage.limit c.in-OutcomePage.pick) (sym c.window_given-window.ensures) in
    done_of_told (task_of c.args.job.now) c.args.bytes.now (g.L.Source.remaining c.args.log_in.now) _ what
    c.as_slice-arguments.result.now c.paged.result is c.as_slice-arguments.ensures.value c.in_ok-program.ensures.module
    (λ logged. c.paged.ensures.done c.args.job.now.form c.args.bytes.now logged
    (c.in_ok-program.ensures.from.0, λ _. c.in_ok-program.ensures.from.1 (c.shows_origins.ensures ∙ ap shows_origins c.in-OutcomePage.is)))

pub returns-in-OutcomePage-clause-fault : goal.returns-in-OutcomePage-clause-fault
returns-in-OutcomePage-clause-fault g c =
    let what = OutcomePage c.window_given-window.result c.in-OutcomePage.limit c.in-OutcomePage.pick in
    let is = ap doing_of c.in-OutcomePage.is
    ∙ ap (λ window. OutcomePage window c.in-OutcomePage.limit c.in-OutcomePage.pick) (sym c.window_given-window.ensures) in
    against_run_of (task_of c.args.job.now) c.args.bytes.now (g.L.Source.remaining c.args.log_in.now) _ _ what
    c.as_slice-arguments.result.now c.paged.result is c.as_slice-arguments.ensures.value refl c.in_ok-program.ensures.module
    c.paged.ensures.fault

pub returns-in-Rounds-clause-done : goal.returns-in-Rounds-clause-done
returns-in-Rounds-clause-done g c =
    done_of_run (task_of c.args.job.now) c.args.bytes.now (g.L.Source.remaining c.args.log_in.now) _
    (Draw picture.Rounds) c.as_slice-arguments.result.now c.drawn-in-Rounds.result (ap doing_of c.in-Rounds.is)
    c.as_slice-arguments.ensures.value refl
    c.in_ok-program.ensures.module (c.drawn-in-Rounds.ensures.done c.args.job.now.form c.args.bytes.now
    (c.in_ok-program.ensures.from.0, λ _. c.in_ok-program.ensures.from.1 (c.shows_origins.ensures ∙ ap shows_origins c.in-Rounds.is)))

pub returns-in-Rounds-clause-fault : goal.returns-in-Rounds-clause-fault
returns-in-Rounds-clause-fault g c =
    against_picture (task_of c.args.job.now) c.args.bytes.now (g.L.Source.remaining c.args.log_in.now) _ _ _
    picture.Rounds c.as_slice-arguments.result.now c.drawn-in-Rounds.result (ap doing_of c.in-Rounds.is) c.as_slice-arguments.ensures.value
    c.in_ok-program.ensures.module c.drawn-in-Rounds.ensures.fault c.drawn-in-Rounds.ensures.stands

pub returns-in-Span-clause-done : goal.returns-in-Span-clause-done
returns-in-Span-clause-done g c =
    done_of_run (task_of c.args.job.now) c.args.bytes.now (g.L.Source.remaining c.args.log_in.now) _
    (Draw (picture.Span false)) c.as_slice-arguments.result.now c.drawn-in-Span.result (ap doing_of c.in-Span.is) c.as_slice-arguments.ensures.value
    refl
    c.in_ok-program.ensures.module (c.drawn-in-Span.ensures.done c.args.job.now.form c.args.bytes.now
    (c.in_ok-program.ensures.from.0, λ _. c.in_ok-program.ensures.from.1 (c.shows_origins.ensures ∙ ap shows_origins c.in-Span.is)))

pub returns-in-Span-clause-fault : goal.returns-in-Span-clause-fault
returns-in-Span-clause-fault g c =
    against_picture (task_of c.args.job.now) c.args.bytes.now (g.L.Source.remaining c.args.log_in.now) _ _ _
    (picture.Span false) c.as_slice-arguments.result.now c.drawn-in-Span.result (ap doing_of c.in-Span.is) c.as_slice-arguments.ensures.value
    c.in_ok-program.ensures.module c.drawn-in-Span.ensures.fault c.drawn-in-Span.ensures.stands

pub returns-in-Why-clause-done : goal.returns-in-Why-clause-done
returns-in-Why-clause-done g c =
    done_of_run (task_of c.args.job.now) c.args.bytes.now (g.L.Source.remaining c.args.log_in.now) _
    (Draw (picture.Why c.in-Why.step)) c.as_slice-arguments.result.now c.drawn-in-Why.result (ap doing_of c.in-Why.is)
    c.as_slice-arguments.ensures.value
    refl
    c.in_ok-program.ensures.module (c.drawn-in-Why.ensures.done c.args.job.now.form c.args.bytes.now
    (c.in_ok-program.ensures.from.0, λ _. c.in_ok-program.ensures.from.1 (c.shows_origins.ensures ∙ ap shows_origins c.in-Why.is)))

pub returns-in-Why-clause-fault : goal.returns-in-Why-clause-fault
returns-in-Why-clause-fault g c =
    against_picture (task_of c.args.job.now) c.args.bytes.now (g.L.Source.remaining c.args.log_in.now) _ _ _
    (picture.Why c.in-Why.step) c.as_slice-arguments.result.now c.drawn-in-Why.result (ap doing_of c.in-Why.is)
    c.as_slice-arguments.ensures.value
    c.in_ok-program.ensures.module c.drawn-in-Why.ensures.fault c.drawn-in-Why.ensures.stands

pub returns-in-Where-clause-done : goal.returns-in-Where-clause-done
returns-in-Where-clause-done g c =
    done_of_run (task_of c.args.job.now) c.args.bytes.now (g.L.Source.remaining c.args.log_in.now) _ (Where false c.in-Where.at) c.as_slice-arguments.result.now c.stood.result (ap doing_of c.in-Where.is) c.as_slice-arguments.ensures.value refl c.in_ok-program.ensures.module (c.stood.ensures.done c.args.job.now.form c.args.job.now.file.now c.args.bytes.now (c.in_ok-program.ensures.from.0, λ _. c.in_ok-program.ensures.from.1 (c.shows_origins.ensures ∙ ap shows_origins c.in-Where.is)))

pub returns-in-Where-clause-fault : goal.returns-in-Where-clause-fault
returns-in-Where-clause-fault g c =
    against_text (task_of c.args.job.now) c.args.bytes.now (g.L.Source.remaining c.args.log_in.now) _ _ _ (Where false c.in-Where.at) c.as_slice-arguments.result.now c.stood.result (ap doing_of c.in-Where.is) c.as_slice-arguments.ensures.value refl c.in_ok-program.ensures.module c.stood.ensures.fault

pub returns-then-given-clause-done : goal.returns-then-given-clause-done
returns-then-given-clause-done g c =
    let is = ap doing_of c.in-Races.is ∙ ap (races_by false) (sym c.is_some-given.ensures ∙ c.if-given.true) in
    done_of_run (task_of c.args.job.now) c.args.bytes.now (g.L.Source.remaining c.args.log_in.now) _ (Draw (picture.Races false)) c.as_slice-arguments.result.now c.drawn-then-given.result is c.as_slice-arguments.ensures.value refl c.in_ok-program.ensures.module (c.drawn-then-given.ensures.done c.args.job.now.form c.args.bytes.now (c.in_ok-program.ensures.from.0, λ _. c.in_ok-program.ensures.from.1 (c.shows_origins.ensures ∙ ap shows_origins c.in-Races.is)))

pub returns-else-given-clause-done : goal.returns-else-given-clause-done
returns-else-given-clause-done g c =
    let is = ap doing_of c.in-Races.is ∙ ap (races_by false) (sym c.is_some-given.ensures ∙ c.if-given.false) in
    done_of_told (task_of c.args.job.now) c.args.bytes.now (g.L.Source.remaining c.args.log_in.now) _ (Races false) c.as_slice-arguments.result.now c.raced.result is c.as_slice-arguments.ensures.value c.in_ok-program.ensures.module (λ logged. c.raced.ensures.done c.args.job.now.form c.args.job.now.file.now c.args.bytes.now logged (c.in_ok-program.ensures.from.0, λ _. c.in_ok-program.ensures.from.1 (c.shows_origins.ensures ∙ ap shows_origins c.in-Races.is)))

pub returns-then-given-clause-fault : goal.returns-then-given-clause-fault
returns-then-given-clause-fault g c =
    let is = ap doing_of c.in-Races.is ∙ ap (races_by false) (sym c.is_some-given.ensures ∙ c.if-given.true) in
    against_picture (task_of c.args.job.now) c.args.bytes.now (g.L.Source.remaining c.args.log_in.now) _ _ _ (picture.Races false) c.as_slice-arguments.result.now c.drawn-then-given.result is c.as_slice-arguments.ensures.value c.in_ok-program.ensures.module c.drawn-then-given.ensures.fault c.drawn-then-given.ensures.stands

pub returns-else-given-clause-fault : goal.returns-else-given-clause-fault
returns-else-given-clause-fault g c =
    let is = ap doing_of c.in-Races.is ∙ ap (races_by false) (sym c.is_some-given.ensures ∙ c.if-given.false) in
    against_run_of (task_of c.args.job.now) c.args.bytes.now (g.L.Source.remaining c.args.log_in.now) _ _ (Races false) c.as_slice-arguments.result.now c.raced.result is c.as_slice-arguments.ensures.value refl c.in_ok-program.ensures.module c.raced.ensures.fault

pub returns-in-Tally-clause-done : goal.returns-in-Tally-clause-done
returns-in-Tally-clause-done g c =
    done_of_told (task_of c.args.job.now) c.args.bytes.now (g.L.Source.remaining c.args.log_in.now) _ _ c.as_slice-arguments.result.now c.tallied.result (ap doing_of c.in-Tally.is) c.as_slice-arguments.ensures.value c.in_ok-program.ensures.module
    (c.tallied.ensures.done c.args.job.now.form c.args.job.now.file.now c.args.bytes.now)

pub returns-in-Tally-clause-fault : goal.returns-in-Tally-clause-fault
returns-in-Tally-clause-fault g c =
    against_run_of (task_of c.args.job.now) c.args.bytes.now (g.L.Source.remaining c.args.log_in.now) _ _ _ c.as_slice-arguments.result.now c.tallied.result (ap doing_of c.in-Tally.is) c.as_slice-arguments.ensures.value refl c.in_ok-program.ensures.module c.tallied.ensures.fault

pub returns-in-Outcomes-clause-done : goal.returns-in-Outcomes-clause-done
returns-in-Outcomes-clause-done g c =
    let what = Outcomes c.in-Outcomes.sets c.in-Outcomes.limit (unwrap_or c.in-Outcomes.pick 1) c.is_some-in-Outcomes.result in
    let is = ap doing_of c.in-Outcomes.is ∙ ap (λ kept. Outcomes c.in-Outcomes.sets c.in-Outcomes.limit (unwrap_or c.in-Outcomes.pick 1) kept) (sym c.is_some-in-Outcomes.ensures) in
    done_of_any (task_of c.args.job.now) c.args.bytes.now (g.L.Source.remaining c.args.log_in.now) _ what c.as_slice-arguments.result.now c.searched.result is c.as_slice-arguments.ensures.value c.in_ok-program.ensures.module c.searched.ensures.done

pub returns-in-Outcomes-clause-fault : goal.returns-in-Outcomes-clause-fault
returns-in-Outcomes-clause-fault g c =
    against_run_of (task_of c.args.job.now) c.args.bytes.now (g.L.Source.remaining c.args.log_in.now) _ _ _ c.as_slice-arguments.result.now c.searched.result (ap doing_of c.in-Outcomes.is) c.as_slice-arguments.ensures.value refl c.in_ok-program.ensures.module c.searched.ensures.fault

pub returns-in-Count-clause-done : goal.returns-in-Count-clause-done
returns-in-Count-clause-done g c =
    let what = Count c.in-Count.sets c.in-Count.limit in
    done_of_any (task_of c.args.job.now) c.args.bytes.now (g.L.Source.remaining c.args.log_in.now) _ what c.as_slice-arguments.result.now c.counted.result (ap doing_of c.in-Count.is) c.as_slice-arguments.ensures.value c.in_ok-program.ensures.module c.counted.ensures.done

pub returns-in-Count-clause-fault : goal.returns-in-Count-clause-fault
returns-in-Count-clause-fault g c =
    against_run_of (task_of c.args.job.now) c.args.bytes.now (g.L.Source.remaining c.args.log_in.now) _ _ _ c.as_slice-arguments.result.now c.counted.result (ap doing_of c.in-Count.is) c.as_slice-arguments.ensures.value refl c.in_ok-program.ensures.module c.counted.ensures.fault

pub returns-in-Expected-clause-done : goal.returns-in-Expected-clause-done
returns-in-Expected-clause-done g c =
    let what = Expected c.in-Expected.sets c.in-Expected.limit in
    done_of_list (task_of c.args.job.now) c.args.bytes.now (g.L.Source.remaining c.args.log_in.now) _ what c.as_slice-arguments.result.now c.held.result (ap doing_of c.in-Expected.is) c.as_slice-arguments.ensures.value refl c.in_ok-program.ensures.module c.held.ensures.done

pub returns-in-Expected-clause-fault : goal.returns-in-Expected-clause-fault
returns-in-Expected-clause-fault g c =
    let what = Expected c.in-Expected.sets c.in-Expected.limit in
    against_list (task_of c.args.job.now) c.args.bytes.now (g.L.Source.remaining c.args.log_in.now) _ _ _ what c.as_slice-arguments.result.now c.held.result (ap doing_of c.in-Expected.is) c.as_slice-arguments.ensures.value refl c.in_ok-program.ensures.module c.held.ensures.fault

pub answer_values-requires-clause-doing : goal.answer_values-requires-clause-doing
answer_values-requires-clause-doing g c = ap doing_of c.in-Json.is

pub answer_values-requires-clause-from : goal.answer_values-requires-clause-from
answer_values-requires-clause-from g c = (
  c.in_ok-program.ensures.from.0,
  λ shows. c.in_ok-program.ensures.from.1 (c.shows_origins.ensures ∙ ap shows_origins c.in-Json.is ∙ shows),
)

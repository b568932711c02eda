use Rattle.std.proofs.Common.{◌∙◌, true, refl, ap, sym}
use Rattle.std.specs.Prelude.{Bool, unwrap_or}
use Rattle.xk_answers.specs.declared.picture.Picture.TheVariants as picture
use Rattle.xk_answers.specs.Results.{Doing, Draw, ExpectedShown, Json, OutcomesShown, Races, RunShown, Where, way_given}
use Rattle.xk_jobs.specs.CommandAnswers.{have_places}
use Rattle.xk_serve.specs.Answer.{races_by, task_of, values_doing}
use Rattle.xk_serve.proofs.TaskLemmas.{against_list, against_picture, against_run_of, against_text, done_of_any, done_of_list, done_of_run, done_of_told}
use Rattle.xk_serve.proofs.values.answer_values.Goals as goal

pub returns-in-Run-clause-done : goal.returns-in-Run-clause-done
returns-in-Run-clause-done g c =
    let shown : Bool → Doing = λ kept. Json (RunShown (way_given c.in-Run.drive) kept) in
    let is = c.requires.doing ∙ ap values_doing c.in-Run.is ∙ ap shown (sym c.is_some.ensures) in
    done_of_any (task_of c.args.job.now) c.args.bytes.now (g.L.Source.remaining c.args.log_in.now) _ (shown c.is_some.result)
    c.as_slice-arguments.result.now c.run_shown.result is c.as_slice-arguments.ensures.value c.requires.module c.run_shown.ensures.done

pub returns-in-Run-clause-fault : goal.returns-in-Run-clause-fault
returns-in-Run-clause-fault g c =
    against_run_of (task_of c.args.job.now) c.args.bytes.now (g.L.Source.remaining c.args.log_in.now) _ _ _
    c.as_slice-arguments.result.now c.run_shown.result (c.requires.doing ∙ ap values_doing c.in-Run.is) c.as_slice-arguments.ensures.value
    refl c.requires.module c.run_shown.ensures.fault

pub returns-in-Events-clause-done : goal.returns-in-Events-clause-done
returns-in-Events-clause-done g c =
    done_of_run (task_of c.args.job.now) c.args.bytes.now (g.L.Source.remaining c.args.log_in.now) _ (Draw picture.EventValues)
    c.as_slice-arguments.result.now c.drawn.result (c.requires.doing ∙ ap values_doing c.in-Events.is) c.as_slice-arguments.ensures.value
    refl c.requires.module
    (c.drawn.ensures.done c.args.job.now.form c.args.bytes.now
    (c.requires.from.0, λ _. c.requires.from.1 (ap have_places c.in-Events.is)))

pub returns-in-Events-clause-fault : goal.returns-in-Events-clause-fault
returns-in-Events-clause-fault g c =
    against_picture (task_of c.args.job.now) c.args.bytes.now (g.L.Source.remaining c.args.log_in.now) _ _ _ picture.EventValues
    c.as_slice-arguments.result.now c.drawn.result (c.requires.doing ∙ ap values_doing c.in-Events.is) c.as_slice-arguments.ensures.value
    c.requires.module c.drawn.ensures.fault c.drawn.ensures.stands

pub returns-then-given-clause-done : goal.returns-then-given-clause-done
returns-then-given-clause-done g c =
    let is = c.requires.doing ∙ ap values_doing c.in-Races.is ∙ ap (races_by true) (sym c.is_some-given.ensures ∙ c.if-given.true) in
    done_of_run (task_of c.args.job.now) c.args.bytes.now (g.L.Source.remaining c.args.log_in.now) _ (Draw (picture.Races true))
    c.as_slice-arguments.result.now c.drawn-then-given.result is c.as_slice-arguments.ensures.value refl c.requires.module
    (c.drawn-then-given.ensures.done c.args.job.now.form c.args.bytes.now
    (c.requires.from.0, λ _. c.requires.from.1 (ap have_places c.in-Races.is)))

pub returns-else-given-clause-done : goal.returns-else-given-clause-done
returns-else-given-clause-done g c =
    let is = c.requires.doing ∙ ap values_doing c.in-Races.is ∙ ap (races_by true) (sym c.is_some-given.ensures ∙ c.if-given.false) in
    done_of_told (task_of c.args.job.now) c.args.bytes.now (g.L.Source.remaining c.args.log_in.now) _ (Races true)
    c.as_slice-arguments.result.now c.raced.result is c.as_slice-arguments.ensures.value c.requires.module
    (λ logged. c.raced.ensures.done c.args.job.now.form c.args.job.now.file.now c.args.bytes.now logged
    (c.requires.from.0, λ _. c.requires.from.1 (ap have_places c.in-Races.is)))

pub returns-then-given-clause-fault : goal.returns-then-given-clause-fault
returns-then-given-clause-fault g c =
    let is = c.requires.doing ∙ ap values_doing c.in-Races.is ∙ ap (races_by true) (sym c.is_some-given.ensures ∙ c.if-given.true) in
    against_picture (task_of c.args.job.now) c.args.bytes.now (g.L.Source.remaining c.args.log_in.now) _ _ _ (picture.Races true)
    c.as_slice-arguments.result.now c.drawn-then-given.result is c.as_slice-arguments.ensures.value c.requires.module
    c.drawn-then-given.ensures.fault c.drawn-then-given.ensures.stands

pub returns-else-given-clause-fault : goal.returns-else-given-clause-fault
returns-else-given-clause-fault g c =
    let is = c.requires.doing ∙ ap values_doing c.in-Races.is ∙ ap (races_by true) (sym c.is_some-given.ensures ∙ c.if-given.false) in
    against_run_of (task_of c.args.job.now) c.args.bytes.now (g.L.Source.remaining c.args.log_in.now) _ _ (Races true)
    c.as_slice-arguments.result.now c.raced.result is c.as_slice-arguments.ensures.value refl c.requires.module c.raced.ensures.fault

pub returns-in-Where-clause-done : goal.returns-in-Where-clause-done
returns-in-Where-clause-done g c =
    done_of_run (task_of c.args.job.now) c.args.bytes.now (g.L.Source.remaining c.args.log_in.now) _ (Where true c.in-Where.at)
    c.as_slice-arguments.result.now c.stood.result (c.requires.doing ∙ ap values_doing c.in-Where.is) c.as_slice-arguments.ensures.value
    refl c.requires.module
    (c.stood.ensures.done c.args.job.now.form c.args.job.now.file.now c.args.bytes.now
    (c.requires.from.0, λ _. c.requires.from.1 (ap have_places c.in-Where.is)))

pub returns-in-Where-clause-fault : goal.returns-in-Where-clause-fault
returns-in-Where-clause-fault g c =
    against_text (task_of c.args.job.now) c.args.bytes.now (g.L.Source.remaining c.args.log_in.now) _ _ _ (Where true c.in-Where.at)
    c.as_slice-arguments.result.now c.stood.result (c.requires.doing ∙ ap values_doing c.in-Where.is) c.as_slice-arguments.ensures.value
    refl c.requires.module c.stood.ensures.fault

pub returns-in-Span-clause-done : goal.returns-in-Span-clause-done
returns-in-Span-clause-done g c =
    done_of_run (task_of c.args.job.now) c.args.bytes.now (g.L.Source.remaining c.args.log_in.now) _ (Draw (picture.Span true))
    c.as_slice-arguments.result.now c.drawn-in-Span.result (c.requires.doing ∙ ap values_doing c.in-Span.is) c.as_slice-arguments.ensures.value
    refl c.requires.module
    (c.drawn-in-Span.ensures.done c.args.job.now.form c.args.bytes.now
    (c.requires.from.0, λ _. c.requires.from.1 (ap have_places c.in-Span.is)))

pub returns-in-Span-clause-fault : goal.returns-in-Span-clause-fault
returns-in-Span-clause-fault g c =
    against_picture (task_of c.args.job.now) c.args.bytes.now (g.L.Source.remaining c.args.log_in.now) _ _ _ (picture.Span true)
    c.as_slice-arguments.result.now c.drawn-in-Span.result (c.requires.doing ∙ ap values_doing c.in-Span.is) c.as_slice-arguments.ensures.value
    c.requires.module c.drawn-in-Span.ensures.fault c.drawn-in-Span.ensures.stands

pub returns-in-Outcomes-clause-done : goal.returns-in-Outcomes-clause-done
returns-in-Outcomes-clause-done g c =
    let shown : Bool → Doing = λ kept. Json (OutcomesShown c.in-Outcomes.sets c.in-Outcomes.limit (unwrap_or c.in-Outcomes.pick 1) kept) in
    let is = c.requires.doing ∙ ap values_doing c.in-Outcomes.is ∙ ap shown (sym c.is_some-in-Outcomes.ensures) in
    done_of_any (task_of c.args.job.now) c.args.bytes.now (g.L.Source.remaining c.args.log_in.now) _ (shown c.is_some-in-Outcomes.result)
    c.as_slice-arguments.result.now c.found_shown.result is c.as_slice-arguments.ensures.value c.requires.module
    c.found_shown.ensures.done

pub returns-in-Outcomes-clause-fault : goal.returns-in-Outcomes-clause-fault
returns-in-Outcomes-clause-fault g c =
    against_run_of (task_of c.args.job.now) c.args.bytes.now (g.L.Source.remaining c.args.log_in.now) _ _ _
    c.as_slice-arguments.result.now c.found_shown.result (c.requires.doing ∙ ap values_doing c.in-Outcomes.is)
    c.as_slice-arguments.ensures.value refl c.requires.module c.found_shown.ensures.fault

pub returns-in-Expected-clause-done : goal.returns-in-Expected-clause-done
returns-in-Expected-clause-done g c =
    let what = Json (ExpectedShown c.in-Expected.sets c.in-Expected.limit) in
    done_of_list (task_of c.args.job.now) c.args.bytes.now (g.L.Source.remaining c.args.log_in.now) _ what
    c.as_slice-arguments.result.now c.held_shown.result (c.requires.doing ∙ ap values_doing c.in-Expected.is)
    c.as_slice-arguments.ensures.value refl c.requires.module c.held_shown.ensures.done

pub returns-in-Expected-clause-fault : goal.returns-in-Expected-clause-fault
returns-in-Expected-clause-fault g c =
    let what = Json (ExpectedShown c.in-Expected.sets c.in-Expected.limit) in
    against_list (task_of c.args.job.now) c.args.bytes.now (g.L.Source.remaining c.args.log_in.now) _ _ _ what
    c.as_slice-arguments.result.now c.held_shown.result (c.requires.doing ∙ ap values_doing c.in-Expected.is)
    c.as_slice-arguments.ensures.value refl c.requires.module c.held_shown.ensures.fault

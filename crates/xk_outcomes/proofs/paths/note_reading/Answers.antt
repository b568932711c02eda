use Rattle.std.proofs.Common.{◌≡◌, ◌∙◌, List, ℤ, ap, subst}
use Rattle.std.proofs.lemmas.Result.{IfOk-weaker}
use Rattle.xk_types.specs.Schedule.{all_ended}
use Rattle.xk_outcomes.specs.Found.{FoundValue, first_found, through}
use Rattle.xk_outcomes.specs.Ways.{steps_of}
use Rattle.xk_outcomes.specs.Numbering.{IsAddedAs}
use Rattle.xk_outcomes.specs.Outcomes.{IsListed}
use Rattle.xk_outcomes.proofs.paths.note_reading.Goals as goal

pub returns-clause-listed : goal.returns-clause-listed
returns-clause-listed c =
    let first = first_found c.args.all.now.start in
    let ways = c.args.all.now.ways in
    let acts = c.args.reading.now.acts.items in
    let is : c.in_ok-run.run'.to ≡ through (steps_of ways acts) first = c.in_ok-run.ensures.to
    ∙ ap (λ ranks. through ranks first) (c.deref-2.ensures.value ∙ c.in_ok-ranks.ensures ∙ ap (steps_of ways) c.deref.ensures.value) in
    IfOk-weaker c.note.result _ _ (λ noted listed done played.
    subst (IsListed c.note.new.list) (ap (λ (y : FoundValue). y.printed) is ∙ played.prints)
    (listed done (ap (λ (y : FoundValue). all_ended y.core.world) is ∙ played.ended))) c.note.ensures.listed

pub returns-clause-of : goal.returns-clause-of
returns-clause-of c old = c.note.ensures.of c.args.all.now.start old c.in_ok-run.ensures.found

pub returns-clause-each : goal.returns-clause-each
returns-clause-each c played =
    let first = first_found c.args.all.now.start in
    let ways = c.args.all.now.ways in
    let acts = c.args.reading.now.acts.items in
    let is : c.in_ok-run.run'.to ≡ through (steps_of ways acts) first = c.in_ok-run.ensures.to
    ∙ ap (λ ranks. through ranks first) (c.deref-2.ensures.value ∙ c.in_ok-ranks.ensures ∙ ap (steps_of ways) c.deref.ensures.value) in
    subst (λ (l : List ℤ). IsAddedAs l c.args.list.now c.note.new.list) (ap (λ (y : FoundValue). y.printed) is ∙ played.prints)
    c.note.ensures.each

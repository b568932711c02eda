use Rattle.std.proofs.Common.{◌∙◌, inl, ap, refl, sym, subst, true≢false}
use Rattle.std.proofs.lemmas.Result.{IfOk-weaker}
use Rattle.xk_types.specs.Schedule.{all_ended}
use Rattle.xk_outcomes.specs.declared.run.Run.{Run}
use Rattle.xk_outcomes.specs.Outcomes.{IsListed}
use Rattle.xk_outcomes.proofs.ListingLemmas.{added_as, of_either}
use Rattle.xk_outcomes.proofs.listing.note.Goals as goal

pub returns-in_err-new-clause-distinct : goal.returns-in_err-new-clause-distinct
returns-in_err-new-clause-distinct c d = d

pub returns-in_err-new-clause-kept : goal.returns-in_err-new-clause-kept
returns-in_err-new-clause-kept c numbers h = h

pub returns-in_err-new-clause-of : goal.returns-in_err-new-clause-of
returns-in_err-new-clause-of c start old found before = before

pub returns-in_ok-new-clause-distinct : goal.returns-in_ok-new-clause-distinct
returns-in_ok-new-clause-distinct c = c.put_within.ensures.distinct

pub returns-in_ok-new-clause-kept : goal.returns-in_ok-new-clause-kept
returns-in_ok-new-clause-kept c = c.put_within.ensures.kept

pub returns-in_ok-new-clause-listed : goal.returns-in_ok-new-clause-listed
returns-in_ok-new-clause-listed c =
    IfOk-weaker c.put_within.result _ _
    (λ noted listed is done. subst (IsListed c.put_within.new.self) c.in_ok-new.ensures.numbers (listed is))
    c.put_within.ensures.listed

pub returns-in_ok-new-clause-of : goal.returns-in_ok-new-clause-of
returns-in_ok-new-clause-of c start old found before =
    of_either c.args.order start old c.args.run.now.schedule.items c.args.run.now.to c.args.list.now c.put_within.new.self c.in_ok-new.new c.put_within.ensures.each found
    c.in_ok-new.ensures before

pub returns-else-ended-clause-distinct : goal.returns-else-ended-clause-distinct
returns-else-ended-clause-distinct c d = d

pub returns-else-ended-clause-kept : goal.returns-else-ended-clause-kept
returns-else-ended-clause-kept c numbers h = h

pub returns-else-ended-clause-listed : goal.returns-else-ended-clause-listed
returns-else-ended-clause-listed c noted done =
    absurd (true≢false (sym done ∙ (ap (λ (r : Run). all_ended r.to.core.world) (sym c.run.view_is) ∙ (sym c.ended.ensures
    ∙ c.if-ended.false))))

pub returns-else-ended-clause-of : goal.returns-else-ended-clause-of
returns-else-ended-clause-of c start old found before = before

pub returns-in_ok-new-clause-each : goal.returns-in_ok-new-clause-each
returns-in_ok-new-clause-each c = added_as c.args.list.now c.put_within.new.self c.in_ok-new.new c.in_ok-new.ensures.numbers
    c.put_within.ensures.each

pub returns-in_err-new-clause-each : goal.returns-in_err-new-clause-each
returns-in_err-new-clause-each c = inl refl

pub returns-else-ended-clause-each : goal.returns-else-ended-clause-each
returns-else-ended-clause-each c = inl refl

use Rattle.std.proofs.lemmas.Result.{IfOk-weaker}
use Rattle.xk_outcomes.proofs.ListingLemmas.{noted_more}
use Rattle.xk_outcomes.proofs.listing.note_at.Goals as goal

pub returns-clause-noted : goal.returns-clause-noted
returns-clause-noted c =
    IfOk-weaker c.note.result _ _ (λ noted listed is before.
    noted_more c.args.order c.args.all.now.all c.args.number c.in_ok-run.run'.to c.args.list.now c.note.new.list c.in_ok-run.ensures.to
    c.note.ensures.kept (listed is) before)
    c.note.ensures.listed

pub returns-clause-of : goal.returns-clause-of
returns-clause-of c old = c.note.ensures.of c.args.all.now.start old c.in_ok-run.ensures.found

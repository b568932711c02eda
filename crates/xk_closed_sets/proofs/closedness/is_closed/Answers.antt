use Rattle.std.proofs.Common.{◌≤◌, arith, below_more, length, subst}
use Rattle.std.proofs.lemmas.Bool.{leb-true}
use Rattle.xk_closed_sets.specs.ClosedSets.{IsFitting, is_in}
use Rattle.xk_closed_sets.specs.Places.{phase_in, rest_in}
use Rattle.xk_closed_sets.proofs.ClosednessLemmas.{fitting_closed}
use Rattle.xk_closed_sets.proofs.closedness.is_closed.Goals as goal

pub loop-a-preserved : goal.loop-a-preserved
loop-a-preserved c =
    let core = c.args.core.now in
    below_more (IsFitting core.module_run core.world (is_in c.args.members.now) (rest_in c.args.rows.now)
    (phase_in c.args.rows.now) c.args.others.now)
    c.loop-a.a c.loop-a.invariant (c.in_ok-fits.ensures c.if-not-fits.false)

pub returns : goal.returns
returns c = λ few.
    let core = c.args.core.now in
    let count = c.activities-a-end.ensures.count in
    let le : length c.args.members.now ≤ c.activities.result = leb-true (length c.args.members.now) c.activities.result few in
    fitting_closed core.module_run core.world c.activities-a-end.ensures.core c.args.members.now (rest_in c.args.rows.now)
    (phase_in c.args.rows.now) c.requires c.args.others.now (subst (λ n. length c.args.members.now ≤ n) c.activities.ensures.count le)
    (λ a lt. c.loop-a.invariant a (omega (arith, lt, count, c.loop-a-test.false)))

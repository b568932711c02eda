use Rattle.xk_show_races.specs.Accounts.{kept_lines}
use Rattle.xk_show_races.proofs.StepLemmas.{lines_more}
use Rattle.xk_show_races.proofs.text.lines_of.Goals as goal

pub loop-race-preserved : goal.loop-race-preserved
loop-race-preserved c =
    let old = c.loop-race in
    lines_more (kept_lines c.args.source.now c.args.names.now c.args.steps.now) c.args.races.now old.race-index _ old.out.items
    c.push_race.new.out.items c.loop-race-test.true old.invariant c.in_ok-push_race.ensures

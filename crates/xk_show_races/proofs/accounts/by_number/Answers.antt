use Rattle.xk_show_races.proofs.StepLemmas.{found_more}
use Rattle.xk_show_races.proofs.accounts.by_number.Goals as goal

pub loop-account-preserved : goal.loop-account-preserved
loop-account-preserved c =
    let old = c.loop-account in
    found_more old.steps c.add.new.steps c.args.accounts.now old.account-index _ c.loop-account-test.true old.invariant c.in_ok-add.ensures

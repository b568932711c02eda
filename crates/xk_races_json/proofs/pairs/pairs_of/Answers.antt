use Rattle.xk_races_json.specs.Races.{kept_pair}
use Rattle.xk_races_json.proofs.PairLemmas.{pairs_more}
use Rattle.xk_races_json.proofs.pairs.pairs_of.Goals as goal

pub loop-race-preserved : goal.loop-race-preserved
loop-race-preserved c =
    let old = c.loop-race in
    pairs_more (kept_pair c.args.steps.now) c.args.races.now old.race-index _ old.pairs.items c.push_pair.new.pairs.items
    c.loop-race-test.true old.invariant c.in_ok-push_pair.ensures

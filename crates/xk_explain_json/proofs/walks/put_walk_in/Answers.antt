use Rattle.xk_explain_json.proofs.PlainLemmas.{walk_in_plain}
use Rattle.xk_explain_json.proofs.walks.put_walk_in.Goals as goal

pub put-requires : goal.put-requires
put-requires c = walk_in_plain c.args.source.now c.args.unit.now c.args.walk.now _ c.in_ok-list.ensures

use Rattle.xk_explain_json.proofs.PlainLemmas.{walk_alone_plain}
use Rattle.xk_explain_json.proofs.walks.put_walk_alone.Goals as goal

pub put-requires : goal.put-requires
put-requires c = walk_alone_plain c.args.walk.now _ c.in_ok-list.ensures

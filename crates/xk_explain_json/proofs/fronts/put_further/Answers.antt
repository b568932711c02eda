use Rattle.xk_explain_json.proofs.PlainLemmas.{further_plain}
use Rattle.xk_explain_json.proofs.fronts.put_further.Goals as goal

pub put-requires : goal.put-requires
put-requires c = further_plain c.args.file.now c.args.source.now c.args.further.now _ c.in_ok-list.ensures

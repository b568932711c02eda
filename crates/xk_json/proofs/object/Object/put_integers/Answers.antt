use Rattle.xk_json.proofs.PlainLemmas.{integers_fit}
use Rattle.xk_json.proofs.object.Object.put_integers.Goals as goal

pub put-requires : goal.put-requires
put-requires c = integers_fit c.args.numbers.now _ c.in_ok-list.ensures

use Rattle.xk_span_json.proofs.PlainLemmas.{earlier_fit}
use Rattle.xk_span_json.proofs.phases.put_earlier.Goals as goal

pub put-requires : goal.put-requires
put-requires c = earlier_fit c.args.round c.args.came.now _ c.in_ok-values.ensures

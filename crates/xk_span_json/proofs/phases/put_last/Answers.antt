use Rattle.xk_span_json.proofs.PlainLemmas.{last_fit}
use Rattle.xk_span_json.proofs.phases.put_last.Goals as goal

pub put-requires : goal.put-requires
put-requires c = last_fit c.args.places.now c.args.came.now _ c.in_ok-values.ensures

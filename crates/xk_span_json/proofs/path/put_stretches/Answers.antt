use Rattle.xk_span_json.proofs.PlainLemmas.{stretches_fit}
use Rattle.xk_span_json.proofs.path.put_stretches.Goals as goal

pub put-requires : goal.put-requires
put-requires c = stretches_fit c.args.places.now c.args.list.now _ c.in_ok-values.ensures

use Rattle.xk_span_json.proofs.PlainLemmas.{waits_fit}
use Rattle.xk_span_json.proofs.waits.put_waits.Goals as goal

pub put-requires : goal.put-requires
put-requires c = waits_fit c.args.places.now c.args.waits.now _ c.in_ok-values.ensures

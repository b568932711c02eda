use Rattle.xk_span_json.proofs.PlainLemmas.{phases_fit}
use Rattle.xk_span_json.proofs.waits.put_standstill.Goals as goal

pub put-requires : goal.put-requires
put-requires c = phases_fit c.args.places.now c.args.times.now c.args.deeds.now _ c.in_ok-phases.ensures

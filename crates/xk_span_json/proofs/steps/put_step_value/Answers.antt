use Rattle.xk_span_json.proofs.PlainLemmas.{step_fits}
use Rattle.xk_span_json.proofs.steps.put_step_value.Goals as goal

pub put-requires : goal.put-requires
put-requires c = step_fits c.args.places.now c.args.step.now _ c.in_ok-value.ensures

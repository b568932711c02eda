use Rattle.xk_span_json.proofs.PlainLemmas.{processors_fit}
use Rattle.xk_span_json.proofs.head.put_head.Goals as goal

pub put-requires : goal.put-requires
put-requires c = processors_fit c.args.free c.args.work c.args.span c.args.widths.now _ c.in_ok-processors.ensures

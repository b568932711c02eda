use Rattle.xk_span_json.proofs.PlainLemmas.{lines_fit}
use Rattle.xk_span_json.proofs.path.put_lines.Goals as goal

pub put-requires : goal.put-requires
put-requires c = lines_fit c.args.counts.now _ c.in_ok-value.ensures

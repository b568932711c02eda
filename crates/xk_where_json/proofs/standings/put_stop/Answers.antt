use Rattle.xk_where_json.proofs.PlainLemmas.{stop_fits}
use Rattle.xk_where_json.proofs.standings.put_stop.Goals as goal

pub put-requires : goal.put-requires
put-requires c = stop_fits c.args.core.now.module_run c.args.core.now.world c.in-Some.stop _ c.in_ok-value-in-Some.ensures

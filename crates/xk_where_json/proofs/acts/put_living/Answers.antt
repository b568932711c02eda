use Rattle.xk_where_json.proofs.PlainLemmas.{registrations_fit}
use Rattle.xk_where_json.proofs.acts.put_living.Goals as goal

pub put-requires : goal.put-requires
put-requires c = registrations_fit c.args.core.now.world c.args.act _ c.in_ok-clocks.ensures

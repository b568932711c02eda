use Rattle.std.specs.Prelude.{option_map}
use Rattle.xk_show_json.proofs.EventLemmas.{event_fits}
use Rattle.xk_races_json.proofs.races.put_event.Goals as goal

pub put-requires : goal.put-requires
put-requires c = event_fits c.args.places.now (option_map (λ n. n.now) c.args.names) c.args.account.now _ c.in_ok-value.ensures

use Rattle.std.specs.Prelude.{option_map}
use Rattle.xk_races_json.proofs.PlainLemmas.{races_fit}
use Rattle.xk_races_json.proofs.races.put_races.Goals as goal

pub put-requires : goal.put-requires
put-requires c = races_fit c.args.places.now (option_map (λ n. n.now) c.args.names) c.args.pairs.now _ c.in_ok-list.ensures

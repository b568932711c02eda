use Rattle.std.proofs.Common.{map}
use Rattle.xk_show_json.proofs.ListLemmas.{lists_fit}
use Rattle.xk_show_json.proofs.outcomes.outcomes_json.Goals as goal

pub put-requires : goal.put-requires
put-requires c = lists_fit (map (λ x. x.now) c.args.lists.now) _ c.in_ok-arrays.ensures

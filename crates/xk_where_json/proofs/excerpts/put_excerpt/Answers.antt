use Rattle.xk_where_json.proofs.PlainLemmas.{numbers_fit}
use Rattle.xk_where_json.proofs.excerpts.put_excerpt.Goals as goal

pub put-requires : goal.put-requires
put-requires c = numbers_fit _ _ c.in_ok-acts.ensures

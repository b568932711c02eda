use Rattle.std.proofs.Common.{map}
use Rattle.xk_where_json.proofs.PlainLemmas.{names_fit}
use Rattle.xk_where_json.proofs.frames.put_names.Goals as goal

pub put-requires : goal.put-requires
put-requires c = names_fit (map (λ x. x.now) c.args.names.now) c.args.code.now c.args.frames.now.frame.slots _ c.in_ok-value.ensures

use Rattle.std.proofs.Common.{rules}
use Rattle.std.proofs.lemmas.List.Sums.{prefix_len-le-length}
use Rattle.std.specs.Prelude.{nat_lt, not}
use Rattle.xk_hints.proofs.remarks.place.Goals as goal

-- no more stand before it than there are
pub insert-requires : goal.insert-requires
insert-requires c =
    let within = prefix_len-le-length (λ r. not (nat_lt c.args.remark.name.at r.name.at)) c.deref.result.now in
    search rules

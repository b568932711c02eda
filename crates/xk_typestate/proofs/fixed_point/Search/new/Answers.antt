-- the empty set, repeated
use Rattle.std.proofs.Common.{ap, ◌∙◌, replicate}
use Rattle.xk_typestate.proofs.fixed_point.Search.new.Goals as goal

pub returns : goal.returns
returns c =
    (c.in_ok-vec.ensures.items_if_clones_equal (λ y e. e) ∙ ap (replicate c.args.len) c.empty.ensures.made, c.new.ensures.items)

use Rattle.std.proofs.Common.{◌≤◌, ◌∙◌, ◌++◌, min, length, sym, ap, append-nil, arith}
use Rattle.xk_names.specs.StatementParts.{arguments}
use Rattle.xk_names.proofs.ArgumentLoopLemmas.{given_end}
use Rattle.xk_names.proofs.arguments.arguments.Goals as goal
use Rattle.xk_names.proofs.arguments.arguments.Goals.{then-params-values, else-params-values}

pub returns : goal.returns
returns c =
    let past : min (length c.args.params.now)
    (length c.args.values.now) ≤ c.loop-i.i = elim c.if-params-values.branch [ then-params-values w ↦ omega arith | else-params-values w ↦ omega arith ] in
    sym (append-nil (arguments c.loop-i.given.items))
    ∙ ap (λ r. arguments c.loop-i.given.items ++ r) (sym (given_end c.args.params.now c.args.values.now c.loop-i.i past))
    ∙ c.loop-i.invariant

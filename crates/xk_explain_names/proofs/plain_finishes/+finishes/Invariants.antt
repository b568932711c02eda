use Rattle.std.proofs.Common.{◌≡◌, drop}
use Rattle.xk_tree.specs.Tree.{statements}
use Rattle.xk_explain_names.specs.PlainFinishes.{finish_among}
use Rattle.xk_explain_names.proofs.plain_finishes.+finishes.Given as goal

-- none of those so far has it
abbrev pub invariant-finish_among-loop-s : goal.invariant-finish_among-loop-s
invariant-finish_among-loop-s l =
    finish_among l.at l.opened (statements (drop l.s-index l.ss)) ≡ finish_among l.at l.opened (statements l.ss)

use Rattle.std.proofs.Common.{◌≡◌, ◌-◌, Some, length}
use Rattle.xk_finishes.proofs.UnderLemmas.{is_below}
use Rattle.xk_finishes.proofs.tree.FinishTree.has_below.Given as goal

-- it goes by the one whom the climb came to, fewer being left to look at
abbrev pub invariant-loop-above : goal.invariant-loop-above
invariant-loop-above l =
    is_below l.self l.finish (length l.self - l._above) l.member ≡ is_below l.self l.finish (length l.self) (Some l.fn.act)

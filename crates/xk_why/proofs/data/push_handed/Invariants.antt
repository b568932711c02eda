use Rattle.std.proofs.Common.{◌≡◌, ◌++◌, drop}
use Rattle.xk_why.specs.Data.{handed_from}
use Rattle.xk_why.proofs.data.push_handed.Given as goal

-- those so far, and the rest, are all
abbrev pub invariant-loop-i : goal.invariant-loop-i
invariant-loop-i l =
    l.list.items ++ handed_from l.step l.act l.depth l.from l.i (drop l.i l.args)
    ≡ l.fn.list.items ++ handed_from l.step l.act l.depth l.from 0 l.args

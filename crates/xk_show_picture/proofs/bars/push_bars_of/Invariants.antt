use Rattle.std.proofs.Common.{◌≡◌, ◌++◌, take}
use Rattle.std.specs.List.{flat_map}
use Rattle.xk_show_picture.specs.Picture.{clock_bar}
use Rattle.xk_show_picture.proofs.bars.push_bars_of.Given as goal

-- the bars of the clocks so far were added
abbrev pub invariant-loop-clock : goal.invariant-loop-clock
invariant-loop-clock l =
    l.out.items
    ≡ l.fn.out.items
    ++ flat_map (clock_bar l.teller.plan.now.sheet l.teller.plan.now.rows.items l.teller.names.now l.core.module_run l.core.world l.act)
    (take l.clock-index l.clocks)

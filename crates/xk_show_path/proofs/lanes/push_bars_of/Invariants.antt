use Rattle.std.proofs.Common.{◌≡◌, ◌++◌, take}
use Rattle.std.specs.List.{flat_map}
use Rattle.xk_show_path.specs.PathLanes.{path_bar}
use Rattle.xk_show_path.proofs.lanes.push_bars_of.Given as goal

-- the bars of the clocks so far were added
abbrev pub invariant-loop-clock : goal.invariant-loop-clock
invariant-loop-clock l = l.out.items
    ≡ l.fn.out.items ++ flat_map (path_bar l.teller.grid l.teller.names.now l.core.world l.act) (take l.clock-index l.clocks)

use Rattle.std.proofs.Common.{◌≡◌, ◌++◌, true, map, take}
use Rattle.xk_races_summary.specs.declared.access.Access.{Access}
use Rattle.xk_races_summary.specs.Accesses.{is_placed, single}
use Rattle.xk_races_summary.proofs.group.put_all.Given as goal

-- those of the first groups and those so far are in the groups
abbrev pub invariant-loop-x : goal.invariant-loop-x
invariant-loop-x l =
    (z : Access) → is_placed (l.fn.groups.items ++ map single (take l.x-index l.list)) z ≡ true → is_placed l.groups.items z ≡ true

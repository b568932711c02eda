use Rattle.std.proofs.Common.{◌≡◌, ◌++◌, drop}
use Rattle.std.specs.List.{flat_map}
use Rattle.xk_tree.specs.Tree.{statement}
use Rattle.xk_hints.specs.Accesses.{accesses, own_accesses}
use Rattle.xk_hints.specs.Meetings.{meetings_here, met}
use Rattle.xk_hints.proofs.meetings.add_own_met.Given as goal

abbrev pub invariant-loop-access : goal.invariant-loop-access
invariant-loop-access l =
    meetings_here l.out.items ++ flat_map (met (accesses l.beside)) (accesses (drop l.access-index l.access-items))
    ≡ meetings_here l.fn.out.items ++ flat_map (met (accesses l.beside)) (own_accesses (statement l.s))

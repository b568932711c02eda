use Rattle.std.proofs.Common.{◌≡◌, ◌++◌}
use Rattle.xk_listing.specs.Listing.{module_line}
use Rattle.xk_listing.proofs.LineLemmas.{told_below}
use Rattle.xk_listing.proofs.module_units.push_module_lines.Given as goal

-- the lines of the instructions so far were added
abbrev pub invariant-loop-at : goal.invariant-loop-at
invariant-loop-at l = l.out.items ≡ l.fn.out.items ++ told_below (module_line l.u.kinds.now l.u.number l.u.unit.now.slots) l.code l.at

use Rattle.std.proofs.Common.{◌≡◌, ◌++◌}
use Rattle.xk_listing.specs.Listing.{source_line}
use Rattle.xk_listing.proofs.LineLemmas.{told_below}
use Rattle.xk_listing.proofs.source_units.push_source_lines.Given as goal

-- the lines of the instructions so far were added
abbrev pub invariant-loop-at : goal.invariant-loop-at
invariant-loop-at l =
    l.out.items ≡ l.fn.out.items ++ told_below (source_line l.u.source.now l.u.kinds.now l.u.number l.u.unit.now l.u.origins.now) l.code l.at

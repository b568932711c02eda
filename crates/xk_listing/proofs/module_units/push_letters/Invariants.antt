use Rattle.std.proofs.Common.{◌≡◌, ◌++◌, map, take}
use Rattle.xk_listing.specs.Listing.{param_letter}
use Rattle.xk_listing.proofs.module_units.push_letters.Given as goal

-- the letters so far were added
abbrev pub invariant-loop-param : goal.invariant-loop-param
invariant-loop-param l = l.out.items ≡ l.fn.out.items ++ map param_letter (take l.param-index l.params)

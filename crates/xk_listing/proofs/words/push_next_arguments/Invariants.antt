use Rattle.std.proofs.Common.{◌≡◌, ◌++◌, take}
use Rattle.std.specs.List.{flat_map}
use Rattle.xk_listing.specs.Words.{next_argument}
use Rattle.xk_listing.proofs.words.push_next_arguments.Given as goal

-- the arguments so far were added
abbrev pub invariant-loop-x : goal.invariant-loop-x
invariant-loop-x l = l.out.items ≡ l.fn.out.items ++ flat_map next_argument (take l.x-index l.args)

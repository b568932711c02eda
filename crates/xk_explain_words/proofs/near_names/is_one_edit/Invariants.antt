use Rattle.std.proofs.Common.{◌≡◌, length}
use Rattle.xk_explain_words.specs.NearNames.{is_one_edit}
use Rattle.xk_explain_words.proofs.near_names.is_one_edit.Given as goal

-- behind what both begin with
abbrev pub invariant-loop-more : goal.invariant-loop-more
invariant-loop-more l = is_one_edit l.front l.other ≡ is_one_edit l.a l.b

abbrev pub decreases-loop-more : goal.decreases-loop-more
decreases-loop-more l = length l.front
